-- Each call keeps an entry for each slot that is not free.
use Rattle.std.proofs.Common.{◌≡◌, ◌≢◌, ℕ, ◌<◌, List, length, Some, None, refl, sym, ◌∙◌, ap, inl, inr, arith}
use Rattle.std.specs.Prelude.{slice_set}
use Rattle.std.proofs.lemmas.List.{get_or-set_same, get_or-set_other, length-set}
use Rattle.std.proofs.lemmas.Bool.Decides.{eqb_tells}
use Rattle.pei_types.specs.Monitor.{MonitorEntry}
use Rattle.set_lists.specs.Placed.{Placed, IsListed, IsPlaced, key_at, touched, inserted, room_made}
use Rattle.set_lists.specs.Laws.{SlotsFollow}
use Rattle.locality_monitor.specs.Inside.{blank, entry_at, IsKept}

pub set_same : (entries : List MonitorEntry) (slot : ℕ) (x : MonitorEntry) → slot < length entries → entry_at (slice_set entries slot x) slot ≡ x
set_same entries slot x within = get_or-set_same entries slot x blank within

pub set_other : (entries : List MonitorEntry) (slot other : ℕ) (x : MonitorEntry) → other ≢ slot → entry_at (slice_set entries slot x) other ≡ entry_at entries other
set_other entries slot other x apart = get_or-set_other entries slot other x blank apart

-- another flag of the entry in a slot
pub kept_changed : (v : Placed) (entries : List MonitorEntry) (slot : ℕ) (x : MonitorEntry) → slot < length entries → x.tag ≡ (entry_at entries slot).tag → IsKept v entries → IsKept v (slice_set entries slot x)
kept_changed v entries slot x within same kept = record {
  room = length-set entries slot x ∙ kept.room;
  placed = kept.placed;
  each = λ set other here. elim (eqb_tells other slot) [
    | inl at_slot ↦
        kept.each set other here ∙ ap (λ z. Some (entry_at entries z).tag) at_slot.1 ∙ ap Some (sym same)
        ∙ ap (λ (y : MonitorEntry). Some y.tag) (sym (ap (λ z. entry_at (slice_set entries slot x) z) at_slot.1 ∙ set_same entries slot x within))
    | inr apart ↦ kept.each set other here ∙ ap (λ (y : MonitorEntry). Some y.tag) (sym (set_other entries slot other x apart.1))
  ];
}

pub kept_touched : SlotsFollow → (v : Placed) (entries : List MonitorEntry) (set slot : ℕ) → IsListed v set slot → IsPlaced (touched v set slot) → IsKept v entries → IsKept (touched v set slot) entries
kept_touched laws v entries set slot listed placed kept = record {
  room = kept.room;
  placed = placed;
  each = λ other x here. kept.each other x (laws.touching v set slot listed other x here);
}

pub kept_room : SlotsFollow → (v : Placed) (entries : List MonitorEntry) (set : ℕ) → IsPlaced (room_made v set) → IsKept v entries → IsKept (room_made v set) entries
kept_room laws v entries set placed kept = record {
  room = kept.room ∙ sym (laws.keys_room v set);
  placed = placed;
  each = λ other x here. let was = laws.making_room v kept.placed set other x here in was.1 ∙ kept.each other x was.0;
}

pub kept_inserted : SlotsFollow → (v : Placed) (entries : List MonitorEntry) (set slot : ℕ) (x : MonitorEntry) → slot < length v.keys → key_at v.keys slot ≡ None → IsPlaced (inserted v set slot x.tag) → IsKept v entries → IsKept (inserted v set slot x.tag) (slice_set entries slot x)
kept_inserted laws v entries set slot x within free placed kept =
    let in_range : slot < length entries = omega (arith, within, kept.room)
    in record {
      room = length-set entries slot x ∙ kept.room ∙ sym (length-set v.keys slot (Some x.tag));
      placed = placed;
      each = λ other y here. elim (laws.inserting v kept.placed set slot x.tag free other y here) [
        | inl same ↦ rw (same.1, set_same entries slot x in_range, get_or-set_same v.keys slot (Some x.tag) None within) refl
        | inr was ↦ rw (set_other entries slot y x was.1, get_or-set_other v.keys slot y (Some x.tag) None was.1) (kept.each other y was.0)
      ];
    }

pub kept_new : SlotsFollow → (v : Placed) (entries : List MonitorEntry) (set slot : ℕ) (x : MonitorEntry) → slot < length v.keys → key_at (room_made v set).keys slot ≡ None → IsPlaced (room_made v set) → IsPlaced (inserted (room_made v set) set slot x.tag)
    → IsKept v entries → IsKept (inserted (room_made v set) set slot x.tag) (slice_set entries slot x)
kept_new laws v entries set slot x within free made placed kept =
    kept_inserted laws (room_made v set) entries set slot x (omega (arith, within, laws.keys_room v set)) free placed (kept_room laws v entries set made kept)
