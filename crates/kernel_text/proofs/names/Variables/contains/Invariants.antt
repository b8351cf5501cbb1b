use Rattle.std.proofs.Common.{◌≡◌, drop, map}
use Rattle.kernel_text.specs.Known.{is_in}
use Rattle.kernel_text.proofs.names.Variables.contains.Given as goal

abbrev pub invariant-loop-other : goal.invariant-loop-other
invariant-loop-other l = is_in (map (λ name. name.now) (drop l.other-index l.other-items)) l.name ≡ is_in (map (λ name. name.now) l.other-items) l.name
