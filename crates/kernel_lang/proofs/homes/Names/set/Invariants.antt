use Rattle.std.proofs.Common.{◌≡◌, drop, map}
use Rattle.kernel_text.specs.Sound.{is_among}
use Rattle.kernel_lang.proofs.homes.Names.set.Given as goal

-- the name is none of those so far
abbrev pub invariant-loop-other : goal.invariant-loop-other
invariant-loop-other l = is_among (map (λ name. name.now) (drop l.other-index l.other-items)) l.name ≡ is_among (map (λ name. name.now) l.other-items) l.name
