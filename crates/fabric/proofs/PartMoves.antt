-- The moves of one bank's parts, which no guard of the whole machine allows.
use Rattle.std.proofs.Common.{◌≡◌, ◌≢◌, ◌⊎◌, inl, inr, ℕ, ◌+◌, ◌<◌, ◌≤◌, Bool, true, false, ◌&&◌, List, [], ◌∷◌, length, slice_index, slice_set, Some, None, refl, sym, ◌∙◌, ap, subst, arith}
use Rattle.std.specs.Prelude.{if◌then◌else◌, nat_le}
use Rattle.std.specs.Option.{option_map_or}
use Rattle.std.proofs.Math.Dec.{eqb}
use Rattle.std.proofs.lemmas.List.{length-set}
use Rattle.std.proofs.lemmas.Bool.Decides.{nat_tests}
use Rattle.std.proofs.lemmas.List.{get_or-set_same, get_or-set_other}
use Rattle.std.proofs.lemmas.Bool.Decides.{eqb_tells}
use Rattle.pei_types.specs.declared.identifiers.BlockNo.{BlockNo}
use Rattle.pei_types.specs.declared.identifiers.CoreId.{CoreId}
use Rattle.pei_types.specs.declared.identifiers.Lane.{Lane}
use Rattle.pei_types.specs.declared.operations.Op.{Op}
use Rattle.pei_types.specs.declared.operations.Operands.{Operands}
use Rattle.pei_types.specs.declared.inflight_looks.PeiLook.{PeiLook}
use Rattle.pei_types.specs.declared.inflight_looks.Phase.TheVariants as phase
use Rattle.pei_types.specs.declared.events.EventKind.TheVariants as event
use Rattle.pei_types.specs.declared.machines.MachineSpec.{MachineSpec}
use Rattle.pei_types.specs.Blocks.{same_core, same_lane, same_pei}
use Rattle.pei_types.specs.MachineState.{State, entry_is_taken, in_phase, is_phase, look_in, look_of}
use Rattle.pei_types.specs.Operation.{CanApply}
use Rattle.coherence_bus.specs.Hierarchy.{Hierarchy}
use Rattle.inflight.specs.OnTheWay.{OnTheWay, IsLaneOf, after_issuing_as, counting, lane_in_phase}
use Rattle.locality_monitor.specs.Table.{Table}
use Rattle.fabric.specs.Likeness.{IsAfter}
use Rattle.fabric.specs.History.{lane_of, program_of}
use Rattle.fabric.specs.Joined.{joined, joined_state, Joins, CanAct}
use Rattle.fabric.specs.Laws.{PartLaws}
use Rattle.fabric.proofs.Choosing.{actor_is}
use Rattle.fabric.proofs.Fresh.{fresh_in_phase, fresh_issued}
use Rattle.fabric.proofs.Joining.{acts_in_phase}
use Rattle.fabric.proofs.LaneMoves.{actor_of}
use Rattle.fabric.proofs.Likeness.{alike_refl}
use Rattle.pei_types.proofs.Lists.{each_append, none_pass}

-- ---- counts

if_true : {A : Type 0} (t : Bool) (x y : A) → t ≡ true → (if t then x else y) ≡ x
if_true t x y h = rw h refl

if_false : {A : Type 0} (t : Bool) (x y : A) → t ≡ false → (if t then x else y) ≡ y
if_false t x y h = rw h refl

counting_length : (issues : List ℕ) (c : CoreId) (n : ℕ) → length (counting issues c n) ≡ length issues
counting_length issues c n = by (nat_le (slice_index issues c.0) n)
  where
    by : (t : Bool) → length (if t then slice_set issues c.0 (n + 1) else issues) ≡ length issues
    by true = length-set issues c.0 (n + 1)
    by false = refl

abbrev Tells : ℕ → ℕ → Type 0
Tells a b = ((nat_le a b ≡ true) × (a ≤ b)) ⊎ ((nat_le a b ≡ false) × (b < a))

le_tells : (a b : ℕ) → Tells a b
le_tells a b = by (nat_le a b) refl
  where
    by : (t : Bool) → nat_le a b ≡ t → Tells a b
    by true e = inl (e, grind (arith, nat_tests))
    by false e = inr (e, grind (arith, nat_tests))

counting_grows : (issues : List ℕ) (c : CoreId) (n d : ℕ) → c.0 < length issues → slice_index issues d ≤ slice_index (counting issues c n) d
counting_grows issues c n d within = by (le_tells (slice_index issues c.0) n)
  where
    by : Tells (slice_index issues c.0) n → slice_index issues d ≤ slice_index (counting issues c n) d
    by (inl under) = subst (λ xs. slice_index issues d ≤ slice_index xs d) (sym (if_true (nat_le (slice_index issues c.0) n) (slice_set issues c.0 (n + 1)) issues under.0)) (at (eqb_tells d c.0))
      where
        at : ((eqb d c.0 ≡ true) × (d ≡ c.0)) ⊎ ((eqb d c.0 ≡ false) × (d ≢ c.0)) → slice_index issues d ≤ slice_index (slice_set issues c.0 (n + 1)) d
        at (inl same) = subst (λ i. slice_index issues i ≤ slice_index (slice_set issues c.0 (n + 1)) i) (sym same.1) (omega (arith, under.1, get_or-set_same issues c.0 (n + 1) 0 within))
        at (inr other) = omega (arith, get_or-set_other issues c.0 d (n + 1) 0 other.1)
    by (inr over) = subst (λ xs. slice_index issues d ≤ slice_index xs d) (sym (if_false (nat_le (slice_index issues c.0) n) (slice_set issues c.0 (n + 1)) issues over.0)) (omega arith)

counting_above : (issues : List ℕ) (c : CoreId) (n : ℕ) → c.0 < length issues → n < slice_index (counting issues c n) c.0
counting_above issues c n within = by (le_tells (slice_index issues c.0) n)
  where
    by : Tells (slice_index issues c.0) n → n < slice_index (counting issues c n) c.0
    by (inl under) = subst (λ xs. n < slice_index xs c.0) (sym (if_true (nat_le (slice_index issues c.0) n) (slice_set issues c.0 (n + 1)) issues under.0)) (omega (arith, get_or-set_same issues c.0 (n + 1) 0 within))
    by (inr over) = subst (λ xs. n < slice_index xs c.0) (sym (if_false (nat_le (slice_index issues c.0) n) (slice_set issues c.0 (n + 1)) issues over.0)) over.1

-- ---- an issue, and an enter

module _ (laws : PartLaws) (m : MachineSpec) (bus : Hierarchy) (table : OnTheWay) (monitor : Table) (j : Joins m bus table monitor) where
  abbrev s : State
  s = joined_state bus table monitor

  pub issue_joins : (c : CoreId) (l : Lane) (n : ℕ) (o : Op) (b : BlockNo) (operands : Operands) (table' : OnTheWay) → IsLaneOf bus.machine c l → look_in s c l ≡ None → look_of s (record { core = c; seq = n }) ≡ None → CanApply o operands × (b.0 < bus.machine.blocks) → table' ≡ record table { state = after_issuing_as table.state c l n o b operands } → Joins m bus table' monitor
  issue_joins c l n o b operands table' lane free fresh fits is =
      subst (λ t. Joins m bus t monitor) (sym is) (record {
        machine = j.machine;
        table_machine = j.table_machine;
        ways = j.ways;
        invariants =
            laws.parts.added bus.machine s new (counting s.issues c n) j.invariants lane.core (omega (arith, lane.first)) lane.last
            (none_pass (λ p. same_pei p.id new.id) s.peis fresh)
            (none_pass (λ p. same_core p.id.core c && same_lane p.lane l) s.peis free)
            refl
            (counting_length s.issues c n ∙ j.invariants.sizes.issues)
            (λ d. counting_grows s.issues c n d within)
            (counting_above s.issues c n within);
        acts = each_append (CanAct bus.machine.blocks) table.state.peis (new ∷ []) j.acts (fits, tt);
        fresh = fresh_issued bus.memory table.buffers table.state.peis new refl j.fresh;
        buffers = j.buffers;
      })
    where
      new : PeiLook
      new = record { id = record { core = c; seq = n }; lane = l; op = o; block = b; operands = operands; phase = phase.Issued }

      within : c.0 < length s.issues
      within = omega (arith, lane.core, j.invariants.sizes.issues)

  pub issue_after : (c : CoreId) (l : Lane) (n : ℕ) (o : Op) (b : BlockNo) (operands : Operands) (table' : OnTheWay) → table' ≡ record table { state = after_issuing_as table.state c l n o b operands } → IsAfter (joined bus table monitor) (program_of c) (event.Issue n l o b operands) (joined bus table' monitor)
  issue_after c l n o b operands table' is =
      subst (λ t. IsAfter (joined bus table monitor) (program_of c) (event.Issue n l o b operands) (joined bus t monitor)) (sym is) (record {
        machine = refl;
        memory = refl;
        state = record { l1 = refl; llc = refl; monitor = refl; peis = refl; queues = refl };
      })

  -- the state of the table after the PEI of a lane entered
  entered_is : (c : CoreId) (l : Lane) (p : PeiLook) (table' : OnTheWay) → look_in s c l ≡ Some p → table' ≡ record table { state = lane_in_phase table.state c l phase.Entered } → table' ≡ record table { state = in_phase table.state p.id phase.Entered }
  entered_is c l p table' here is = is ∙ ap (λ o. record table { state = option_map_or (λ (q : PeiLook). in_phase table.state q.id phase.Entered) o table.state }) here

  pub enter_joins : (c : CoreId) (l : Lane) (p : PeiLook) (table' : OnTheWay) → look_in s c l ≡ Some p → p.phase ≡ phase.Issued → entry_is_taken bus.machine s p ≡ false → table' ≡ record table { state = lane_in_phase table.state c l phase.Entered } → Joins m bus table' monitor
  enter_joins c l p table' here issued free is =
      let named : look_of s p.id ≡ Some p = laws.laws.lanes.named bus.machine s c l p j.invariants here
      in subst (λ t. Joins m bus t monitor) (sym (entered_is c l p table' here is)) (record {
        machine = j.machine;
        table_machine = j.table_machine;
        ways = j.ways;
        invariants = laws.parts.entered bus.machine s p.id p j.invariants named (ap (λ ph. is_phase ph phase.Issued) issued) free;
        acts = acts_in_phase bus.machine.blocks p.id phase.Entered table.state.peis j.acts;
        fresh = fresh_in_phase bus.machine bus.memory table.buffers p.id phase.Entered table.state.peis p refl j.invariants.together named j.fresh;
        buffers = j.buffers;
      })

  pub enter_after : (c : CoreId) (l : Lane) (p : PeiLook) (table' : OnTheWay) → look_in s c l ≡ Some p → table' ≡ record table { state = lane_in_phase table.state c l phase.Entered } → IsAfter (joined bus table monitor) (lane_of c l) (event.Enter p.id.seq) (joined bus table' monitor)
  enter_after c l p table' here is =
      subst (λ a. IsAfter (joined bus table monitor) a (event.Enter p.id.seq) (joined bus table' monitor)) (actor_is s c l p here)
      (subst (λ t. IsAfter (joined bus table monitor) (actor_of p) (event.Enter p.id.seq) (joined bus t monitor)) (sym (entered_is c l p table' here is)) (record {
        machine = refl;
        memory = refl;
        state = alike_refl (in_phase s p.id phase.Entered);
      }))
