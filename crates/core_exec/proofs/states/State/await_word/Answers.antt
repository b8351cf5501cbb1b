use Rattle.std.proofs.Common.{Some, refl}
use Rattle.std.proofs.lemmas.List.{map-set}
use Rattle.core_exec.specs.Wait.{seen_wait}
use Rattle.core_exec.proofs.states.State.await_word.Goals as goal

pub returns : goal.returns
returns c =
    rw (← c.self.view_is, ← map-set seen_wait c.self.inside.waits c.args.register (Some c.args.wait)) refl
