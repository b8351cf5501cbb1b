use Rattle.kernel_text.proofs.Lookups.{put_new}
use Rattle.kernel_text.proofs.names.DeclaredNames.declare.Goals as goal
use Rattle.kernel_text.proofs.names.DeclaredNames.declare.Goals.{in-Ok, in-Err}

pub returns : goal.returns
returns c =
    let put = put_new c.args.name c.args.array c.self.inside.kinds.entries c.insert.new.self.entries c.args.self.now c.self.view_is c.requires.new
    in elim c.match-insert.branch [ in-Ok w ↦ (let r = w.result-is in rw r (put w.in-Ok.ensures.entries)) | in-Err w ↦ (let r = w.result-is in rw r tt) ]
