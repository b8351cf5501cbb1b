-- Each call keeps a line for each slot that is not free.
use Rattle.std.proofs.Common.{◌≡◌, ◌≢◌, ℕ, ◌%◌, ◌<◌, false, List, length, Some, None, refl, sym, ◌∙◌, inl, inr, arith}
use Rattle.std.specs.Prelude.{slice_set}
use Rattle.std.proofs.lemmas.List.{get_or-set_same, get_or-set_other, length-set}
use Rattle.pei_types.specs.MachineState.{is_absent}
use Rattle.set_lists.specs.Placed.{Placed, IsListed, IsPlaced, key_at, inserted, removed}
use Rattle.set_lists.specs.Laws.{SlotsFollow}
use Rattle.pei_types.specs.declared.lines.HeldLine.{HeldLine}
use Rattle.llc.specs.Inside.{line_at, IsKept, blank}

pub set_same : (lines : List HeldLine) (slot : ℕ) (x : HeldLine) → slot < length lines → line_at (slice_set lines slot x) slot ≡ x
set_same lines slot x within = get_or-set_same lines slot x blank within

pub set_other : (lines : List HeldLine) (slot other : ℕ) (x : HeldLine) → other ≢ slot → line_at (slice_set lines slot x) other ≡ line_at lines other
set_other lines slot other x apart = get_or-set_other lines slot other x blank apart

pub kept_removed : SlotsFollow → (v : Placed) (lines : List HeldLine) (set slot : ℕ) → IsListed v set slot → IsPlaced (removed v set slot) → IsKept v lines → IsKept (removed v set slot) lines
kept_removed laws v lines set slot listed placed kept = record {
  room = kept.room ∙ sym (length-set v.keys slot None);
  placed = placed;
  each = λ other x here.
      let was = laws.removing v kept.placed set slot listed other x here
      in rw (laws.count_removed v set slot, get_or-set_other v.keys slot x None None was.1) (kept.each other x was.0);
}

pub kept_inserted : SlotsFollow → (v : Placed) (lines : List HeldLine) (set slot : ℕ) (x : HeldLine) → slot < length v.keys → key_at v.keys slot ≡ None → set ≡ x.block.0 % length v.lists → is_absent x.mark ≡ false
    → IsPlaced (inserted v set slot x.block.0) → IsKept v lines → IsKept (inserted v set slot x.block.0) (slice_set lines slot x)
kept_inserted laws v lines set slot x within free home present placed kept =
    let in_range : slot < length lines = omega (arith, within, kept.room)
    in record {
      room = length-set lines slot x ∙ kept.room ∙ sym (length-set v.keys slot (Some x.block.0));
      placed = placed;
      each = λ other y here. rw (laws.count_inserted v set slot x.block.0) (elim (laws.inserting v kept.placed set slot x.block.0 free other y here) [
        | inl same ↦ rw (same.0, same.1, set_same lines slot x in_range, get_or-set_same v.keys slot (Some x.block.0) None within) (record { key = refl; home = sym home; present = present })
        | inr was ↦ rw (set_other lines slot y x was.1, get_or-set_other v.keys slot y (Some x.block.0) None was.1) (kept.each other y was.0)
      ]);
    }
