use Rattle.std.proofs.Common.{◌≡◌, ◌≤◌, replicate}
use Rattle.std.specs.Prelude.{vec_capacity}
use Rattle.mesi_l1.specs.Cache.{empty_cache}
use Rattle.coherence_bus.proofs.bus.empty_caches.Given as goal

-- so many caches, and room for all
abbrev pub invariant-loop : goal.invariant-loop
invariant-loop l = (l.caches.items ≡ replicate l.counter (empty_cache l.sets l.ways)) × (l.cores ≤ vec_capacity l.caches)
