use Rattle.std.proofs.Common.{◌≡◌, ◌∷◌, ◌||◌, ℕ, drop, length}
use Rattle.std.specs.List.{list_any}
use Rattle.pei_asm.specs.Canonical.{is_at}
use Rattle.pei_asm.specs.Named.{is_marked}
use Rattle.pei_asm.proofs.named.mark_entries.Given as goal

abbrev pub invariant-loop-core : goal.invariant-loop-core
invariant-loop-core l =
    record {
      size : length l.places.items ≡ length l.fn.places.items;
      each : (k : ℕ) → (is_marked l.places.items k || list_any (is_at k) (drop l.core l.program.own_entries)) ≡ (is_marked l.fn.places.items k || list_any (is_at k) (l.program.common_entry ∷ l.program.own_entries));
    }
