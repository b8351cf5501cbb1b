use Rattle.std.proofs.Common.{◌≡◌, ◌+◌, drop, map}
use Rattle.kernel_lang.specs.Homes.{place_among}
use Rattle.kernel_lang.proofs.homes.Names.register.Given as goal

-- the names before this one differ
abbrev pub invariant-loop-other : goal.invariant-loop-other
invariant-loop-other l = (l.register ≡ l.other-index) × (l.other-index + place_among (map (λ name. name.now) (drop l.other-index l.other-items)) l.name ≡ place_among (map (λ name. name.now) l.other-items) l.name)
