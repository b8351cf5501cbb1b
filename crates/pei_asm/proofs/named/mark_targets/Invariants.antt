use Rattle.std.proofs.Common.{◌≡◌, ◌||◌, ℕ, drop, length}
use Rattle.std.specs.List.{list_any}
use Rattle.pei_asm.specs.Canonical.{is_at, target_of}
use Rattle.pei_asm.specs.Named.{is_marked}
use Rattle.pei_asm.proofs.named.mark_targets.Given as goal

abbrev pub invariant-loop-pc : goal.invariant-loop-pc
invariant-loop-pc l =
    record {
      size : length l.places.items ≡ length l.fn.places.items;
      each : (k : ℕ) → (is_marked l.places.items k || list_any (λ i. is_at k (target_of i)) (drop l.pc l.program.instrs)) ≡ (is_marked l.fn.places.items k || list_any (λ i. is_at k (target_of i)) l.program.instrs);
    }
