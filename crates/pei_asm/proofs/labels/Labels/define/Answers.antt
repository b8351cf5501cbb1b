use Rattle.pei_asm.proofs.Lookups.{put_new}
use Rattle.pei_asm.proofs.labels.Labels.define.Goals as goal
use Rattle.pei_asm.proofs.labels.Labels.define.Goals.{in-Ok, in-Err}

pub returns : goal.returns
returns c =
    let put = put_new c.args.label c.args.place c.self.inside.places.entries c.insert.new.self.entries c.args.self.now c.self.view_is c.requires.new
    in elim c.match-insert.branch [ in-Ok w ↦ (let r = w.result-is in rw r (put w.in-Ok.ensures.entries)) | in-Err w ↦ (let r = w.result-is in rw r tt) ]
