use Rattle.kernel_lang.proofs.Lookups.{put_new}
use Rattle.std.proofs.Common.{ap}
use Rattle.kernel_lang.specs.Homes.{Frame}
use Rattle.kernel_lang.proofs.homes.Names.declare.Goals as goal
use Rattle.kernel_lang.proofs.homes.Names.declare.Goals.{in-Ok, in-Err}

pub returns : goal.returns
returns c =
    let put = put_new c.args.name c.args.home c.self.inside.homes.entries c.insert.new.self.entries c.args.self.now.homes (ap (λ (f : Frame). f.homes) c.self.view_is) c.requires.new
    in elim c.match-insert.branch [ in-Ok w ↦ (let r = w.result-is in rw r (let p = put w.in-Ok.ensures.entries in let v = ap (λ (f : Frame). f.variables) c.self.view_is in cc (p, v))) | in-Err w ↦ (let r = w.result-is in rw r tt) ]
