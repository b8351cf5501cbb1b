-- What a core's own events tell of the lane whose event a bank makes.
use Rattle.std.proofs.Common.{◌≡◌, ◌≢◌, ◌⊎◌, inl, inr, ℕ, zero, suc, ◌+◌, ◌-◌, ◌<◌, ◌≤◌, ◌==◌, ◌%◌, Bool, true, false, not, if◌then◌else◌, IsTrue, List, [], ◌∷◌, ◌++◌, map, Option, Some, None, slice_index_or, refl, sym, ◌∙◌, ap, subst, arith, eqb-true, eq-eqb, nat_lt, nat_le}
use Rattle.std.proofs.lemmas.Bool.{and_parts, leb-true}
use Rattle.std.proofs.lemmas.Option.{same_Some}
use Rattle.std.specs.Prelude.{option_map}
use Rattle.std.specs.List.{range_with_len}
use Rattle.pei_types.specs.declared.events.Event.{Event}
use Rattle.pei_types.specs.declared.identifiers.Actor.{Actor}
use Rattle.pei_types.specs.declared.identifiers.CoreId.{CoreId}
use Rattle.pei_types.specs.declared.identifiers.Lane.{Lane}
use Rattle.pei_types.specs.declared.inflight_looks.PeiLook.{PeiLook}
use Rattle.pei_types.specs.declared.machines.MachineSpec.{MachineSpec}
use Rattle.pei_types.specs.declared.stamps.Stamped.{Stamped}
use Rattle.pei_types.specs.Calls.{is_actor_of}
use Rattle.pei_types.specs.MachineState.{State, state_after, look_in}
use Rattle.pei_types.specs.Legal.{EachEvent}
use Rattle.pei_types.specs.Program.{Listing, Contents}
use Rattle.atomic_table.specs.Seated.{TableId}
use Rattle.bank_laws.specs.Banks.{HasBanks, bank_of, journal_of}
use Rattle.bank_laws.specs.Parts.{is_in_bank}
use Rattle.core_exec.specs.CoreView.{Standing}
use Rattle.pei_types.specs.declared.calls.EndKind.{EndKind}
use Rattle.shared_table.specs.Journal.{events}
use Rattle.shared_table.specs.Parts.{core_number, mine, seen}
use Rattle.shared_table.specs.Place.{SeatView}
use Rattle.thread_laws.specs.OwnEvents.{IssuesNext, KnowsItsPart, if_passes, look_there, placed_of}
use Rattle.host_run.specs.declared.own_peis.OwnPei.{OwnPei}
use Rattle.host_run.specs.declared.own_peis.OwnPeis.{OwnPeis}
use Rattle.host_run.specs.ThreadInvariant.{HasSlot, KeepsUp}
use Rattle.host_run.specs.Laws.{TurnLaws}
use Rattle.host_run.specs.Own.{KeepsEvents, as_own, core_of, own_events, own_lanes, pei_in}
use Rattle.host_run.proofs.RowCases.{LaneRow}

-- ---- banks and lanes of a machine

pub has_banks : TurnLaws → (m : MachineSpec) → HasBanks m
has_banks laws m = let fit = m.banks_in_limits in laws.apart.banks m fit.1 fit.2 fit.3 fit.4

pub lane_within : (m : MachineSpec) (a : Actor) → IsTrue (is_actor_of m a) → a.lane.0 ≤ 4
lane_within m a h =
    let low : a.lane.0 ≤ m.buffer = leb-true a.lane.0 m.buffer (and_parts (nat_lt a.core.0 m.cores) (nat_le a.lane.0 m.buffer) h).1
    in omega (arith, low, m.buffer_in_limits.1)

-- ---- a lane of the thread

-- what the thread keeps in a lane is the PEI that the own events leave there
pub lane_is : (s : State) (c : CoreId) (o : OwnPeis) → o.lanes ≡ own_lanes s c → (l : ℕ) → 1 ≤ l → l ≤ 4 → pei_in o l ≡ option_map as_own (look_in s c (record { 0 = l }))
lane_is s c o same l low high = ap (λ xs. slice_index_or xs (l - 1) None) same ∙ by l low high
  where
    by : (n : ℕ) → 1 ≤ n → n ≤ 4 → slice_index_or (own_lanes s c) (n - 1) None ≡ option_map as_own (look_in s c (record { 0 = n }))
    by zero a b = absurd (omega (arith, a))
    by (suc zero) a b = refl
    by (suc (suc zero)) a b = refl
    by (suc (suc (suc zero))) a b = refl
    by (suc (suc (suc (suc zero)))) a b = refl
    by (suc (suc (suc (suc (suc n))))) a b = absurd (omega (arith, b))

-- what passed a test was there
pub passed : {A : Type 0} (test : A → Bool) (o : Option A) (x : A) → if_passes test o ≡ Some x → (o ≡ Some x) × (test x ≡ true)
passed test None x h = absurd (cc h)
passed test (Some y) x h = by (test y) refl h
  where
    by : (b : Bool) → test y ≡ b → (if b then Some y else None) ≡ Some x → (Some y ≡ Some x) × (test x ≡ true)
    by true e g = (g, subst (λ z. test z ≡ true) (same_Some y x g) e)
    by false e g = absurd (cc g)

module _ (laws : TurnLaws) (p : Listing) (m : MachineSpec) (image : Contents) (t : TableId) (k : ℕ) (stamp : Option ℕ) (s : SeatView) (core : Standing) (o : OwnPeis) (end : Option EndKind) (slot : HasSlot m image t k (seen k s) stamp s) (keeps : KeepsUp p m image s core o end) where
  abbrev pub log : List Event
  log = events (seen k s)

  pub issues : EachEvent (IssuesNext m) (own_events s)
  issues = keeps.peis.kept.events.issues

  -- the core knows which events of the bank are its own
  pub part : KnowsItsPart m k (core_of s) (placed_of (mine s)) log
  part = record {
    banks = has_banks laws m;
    stands = keeps.followed.stand;
    issues = subst (EachEvent (IssuesNext m)) (sym (laws.meet.own (mine s))) issues;
    part = laws.meet.part k (core_of s) (seen k s) (mine s) slot.own;
  }

  -- the bank's PEI in a lane of the core is the core's own there, on a block of this bank
  pub own_look : (l : Lane) (q : PeiLook) → look_in (state_after m log) (core_of s) l ≡ Some q → (look_in (state_after m (own_events s)) (core_of s) l ≡ Some q) × (bank_of m q.block ≡ k)
  own_look l q here =
      let there = passed (is_in_bank m k) (look_in (state_after m (journal_of (placed_of (mine s)))) (core_of s) l) q (sym (laws.meet.look m k (core_of s) (placed_of (mine s)) log l part) ∙ here)
      in (
        subst (λ es. look_in (state_after m es) (core_of s) l ≡ Some q) (laws.meet.own (mine s)) there.0,
        eqb-true (bank_of m q.block) k there.1,
      )

  -- and the other way round
  pub bank_look_is : (l : Lane) (q : PeiLook) → look_in (state_after m (own_events s)) (core_of s) l ≡ Some q → bank_of m q.block ≡ k → look_in (state_after m log) (core_of s) l ≡ Some q
  bank_look_is l q here bank =
      laws.meet.look m k (core_of s) (placed_of (mine s)) log l part
      ∙ ap (λ es. look_there m k (look_in (state_after m es) (core_of s) l)) (laws.meet.own (mine s))
      ∙ ap (look_there m k) here
      ∙ passes (bank_of m q.block) bank
    where
      passes : (b : ℕ) → b ≡ k → (if b == k then Some q else None) ≡ Some q
      passes b e = rw (eq-eqb b k e) refl

  -- so is the PEI that the thread keeps in the lane of a bank's event
  pub own_pei : (e : Event) → e.actor.core ≡ core_of s → IsTrue (is_actor_of m e.actor) → (r : LaneRow m log e) → (pei_in o e.actor.lane.0 ≡ Some (as_own r.pei)) × (bank_of m r.pei.block ≡ k) × (look_in (state_after m (own_events s)) (core_of s) e.actor.lane ≡ Some r.pei)
  own_pei e own actor r =
      let there = own_look e.actor.lane r.pei (subst (λ c. look_in (state_after m log) c e.actor.lane ≡ Some r.pei) own r.here)
      in (
        lane_is (state_after m (own_events s)) (core_of s) o keeps.peis.kept.lanes e.actor.lane.0 r.lane (lane_within m e.actor actor) ∙ ap (option_map as_own) there.0,
        there.1,
        there.0,
      )
