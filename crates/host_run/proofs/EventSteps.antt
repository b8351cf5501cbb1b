-- A slot that is given back behind an event: what the table and the core are owed, and what the thread keeps then.
use Rattle.std.proofs.Common.{◌≡◌, ◌⊎◌, inl, inr, ℕ, zero, suc, ◌+◌, ◌-◌, ◌<◌, ◌≤◌, ◌^◌, Bool, true, false, not, IsTrue, List, [], ◌∷◌, ◌++◌, length, map, drop, Option, Some, None, slice_index, slice_set, refl, sym, ◌∙◌, ap, ap₂, subst, arith}
use Rattle.std.proofs.lemmas.List.{map-append, length-set}
use Rattle.std.proofs.lemmas.Option.{same_Some}
use Rattle.atomic_table.specs.Seated.{TableId}
use Rattle.pei_types.specs.declared.calls.Call.{Call}
use Rattle.pei_types.specs.declared.calls.EndKind.{EndKind}
use Rattle.pei_types.specs.declared.events.Event.{Event}
use Rattle.pei_types.specs.declared.events.EventKind.{EventKind}
use Rattle.pei_types.specs.declared.events.EventKind.TheVariants as event
use Rattle.pei_types.specs.declared.identifiers.Actor.{Actor}
use Rattle.pei_types.specs.declared.identifiers.BlockNo.{BlockNo}
use Rattle.pei_types.specs.declared.identifiers.CoreId.{CoreId}
use Rattle.pei_types.specs.declared.identifiers.Lane.{Lane}
use Rattle.pei_types.specs.declared.inflight_looks.Phase.{Phase}
use Rattle.pei_types.specs.declared.inflight_looks.Phase.TheVariants as phase
use Rattle.pei_types.specs.declared.machines.MachineSpec.{MachineSpec}
use Rattle.pei_types.specs.declared.operations.Op.{Op}
use Rattle.pei_types.specs.declared.operations.Operands.{Operands}
use Rattle.pei_types.specs.declared.stamps.Stamped.{Stamped}
use Rattle.pei_types.specs.Blocks.{same_core}
use Rattle.pei_types.specs.Calls.{Side, Programs, Peis, Messages, follows_phase, side_of}
use Rattle.pei_types.specs.MachineState.{state_after, is_phase, look_in}
use Rattle.pei_types.specs.Core.{Calls, after_answer, at_stop, core_after, core_at_start, core_config, core_next, next_of}
use Rattle.pei_types.specs.History.{ends_fence}
use Rattle.pei_types.specs.Legal.{EachEvent}
use Rattle.pei_types.specs.Program.{Listing, Contents}
use Rattle.pei_types.specs.Turns.{is_entering}
use Rattle.pei_types.proofs.Tests.{same_self}
use Rattle.bank_laws.specs.Kept.{FitsInBank}
use Rattle.bank_laws.specs.Logs.{Rises}
use Rattle.bank_laws.specs.Rows.{IsRowIn, IsRowOfBank}
use Rattle.core_exec.specs.CoreView.{Standing, is_request, retires}
use Rattle.fabric.specs.Banks.{BankHistory, events_of}
use Rattle.shared_table.specs.Actives.{active_in}
use Rattle.shared_table.specs.Claims.{fence_at}
use Rattle.shared_table.specs.Diaries.{Claimed, active_of}
use Rattle.shared_table.specs.Journal.{events}
use Rattle.shared_table.specs.Owes.{MayMake}
use Rattle.shared_table.specs.Parts.{claims, core_number, lent, misses, seen, slot_given}
use Rattle.shared_table.specs.Place.{SeatView}
use Rattle.shared_table.specs.Slot.{SameOthers}
use Rattle.shared_table.specs.Timed.{IsAbove}
use Rattle.thread_laws.specs.BankLogs.{IsBankLog}
use Rattle.thread_laws.specs.OwnEvents.{IssuesBy, IssuesNext}
use Rattle.thread_laws.proofs.Rows.{IsEventOf, IsNoPeis, KindIsOf}
use Rattle.host_run.specs.declared.cores.CoreRun.{CoreRun}
use Rattle.host_run.specs.declared.own_peis.OwnPeis.{OwnPeis}
use Rattle.host_run.specs.ThreadInvariant.{FencesAtHome, HasSlot, HasTakenIn, IsAtRest, IsInTurn, KeepsUp, end_after, own_end}
use Rattle.host_run.specs.Laws.{TurnLaws}
use Rattle.host_run.specs.Own.{IsLane, IsOfItsLane, IsOnLane, KeepsClaims, KeepsEvents, OfLane, cleared_after, core_of, lanes_after, own_events, spent_after}
use Rattle.host_run.specs.Grant.{IsGranted}
use Rattle.host_run.proofs.Counts.{events_few, issues_few}
use Rattle.host_run.proofs.Given.{ended_next, followed_next, peis_next, taken_next}
use Rattle.host_run.proofs.Giving.{claimed, issues_next, may_make, others}
use Rattle.host_run.proofs.LanesAfter.{actives_next, lanes_next}
use Rattle.host_run.proofs.Looks.{lane_fits}
use Rattle.host_run.proofs.OwnLanes.{lane_within, own_pei}
use Rattle.host_run.proofs.RowCases.{LaneRow, ProgramRow, asked, program_no_peis, row_cases}
use Rattle.host_run.proofs.TurnSteps.{bank_log}

-- the last of a list
same_last : (xs : List Stamped) (x y : Stamped) → xs ++ x ∷ [] ≡ xs ++ y ∷ [] → x ≡ y
same_last [] x y e = cc e
same_last (z ∷ zs) x y e = same_last zs x y (ap (drop 1) e)

-- what a core does next is what its own events tell
pub next_is : (laws : TurnLaws) (p : Listing) (m : MachineSpec) (image : Contents) (s : SeatView) (core : Standing) → HasTakenIn p m image s core → next_of p (core_config m) core.state ≡ core_next p image (core_config m) (core_of s) (own_events s)
next_is laws p m image s core taken =
    sym (laws.stops.next p (core_config m) core.state)
    ∙ ap (next_of p (core_config m)) taken
    ∙ laws.stops.next p (core_config m) (core_after p (core_config m) (core_at_start image (core_of s)) (own_events s))

-- an event of a PEI enters where the PEI has not
enters_with : (ph : Phase) (n seq : ℕ) (kind : EventKind) → side_of kind ≡ Peis seq → KindIsOf n ph kind → is_phase ph phase.Issued ≡ is_entering kind
enters_with phase.Issued n seq (event.Enter q) side h = refl
enters_with phase.Issued n seq (event.Place q w) side h = absurd (cc h.1)
enters_with phase.Issued n seq (event.Read q) side h = absurd (cc h.1)
enters_with phase.Issued n seq (event.Seal q v) side h = absurd (cc h.1)
enters_with phase.Issued n seq (event.Act q r) side h = absurd (cc h.1)
enters_with phase.Issued n seq (event.Leave q) side h = absurd (cc h.1)
enters_with phase.Entered n seq (event.Enter q) side h = absurd (cc h.1)
enters_with phase.HostPlaced n seq (event.Enter q) side h = absurd (cc h.1)
enters_with phase.MemoryPlaced n seq (event.Enter q) side h = absurd (cc h.1)
enters_with phase.Read n seq (event.Enter q) side h = absurd (cc h.1)
enters_with phase.Sealed n seq (event.Enter q) side h = absurd (cc h.1)
enters_with phase.Acted n seq (event.Enter q) side h = absurd (cc h.1)
enters_with phase.Issued n seq _ side h = absurd (cc side)
enters_with phase.Entered n seq _ side h = refl
enters_with phase.HostPlaced n seq _ side h = refl
enters_with phase.MemoryPlaced n seq _ side h = refl
enters_with phase.Read n seq _ side h = refl
enters_with phase.Sealed n seq _ side h = refl
enters_with phase.Acted n seq _ side h = refl

spent_four : (xs : List Bool) (a : Actor) (kind : EventKind) → length xs ≡ 4 → length (spent_after a kind xs) ≡ 4
spent_four xs a (event.Leave seq) h = length-set xs (a.lane.0 - 1) true ∙ h
spent_four xs a _ h = h

module _ (laws : TurnLaws) (p : Listing) (m : MachineSpec) (image : Contents) (t : TableId) (s : SeatView) (run : CoreRun) (b : BankHistory) (stamp : ℕ) (e : Event)
    (same : b.machine ≡ m) (start : b.image ≡ image) (slot : HasSlot m image t b.bank (seen b.bank s) (Some stamp) s) (is : b.log ≡ seen b.bank s ++ record { stamp = stamp; event = e } ∷ [])
    (keeps : KeepsUp p m image s run.core run.own run.end) (own : e.actor.core ≡ core_of s) (row : IsRowIn p m image b.bank (events (seen b.bank s)) (own_events s) e) (granted : IsGranted m s run.own e)
    (rows : EachEvent (IsRowOfBank b.machine b.image b.bank) (events_of b)) (fitting : EachEvent (λ before x. FitsInBank b.machine before x.actor x.kind) (events_of b)) where
  abbrev x : Stamped
  x = record { stamp = stamp; event = e }

  events_are : events b.log ≡ events (seen b.bank s) ++ e ∷ []
  events_are = ap events is ∙ map-append (λ (y : Stamped). y.event) (seen b.bank s) (x ∷ [])

  longer : IsBankLog m image b.bank (events (seen b.bank s) ++ e ∷ [])
  longer = subst (IsBankLog m image b.bank) events_are (bank_log m image b.bank b same start refl rows fitting)

  pub event_may : (ends_fence (core_of s) e ≡ true → run.own.cleared ≡ m.banks) → (y : Stamped) → b.log ≡ seen b.bank s ++ y ∷ [] → MayMake m.banks s.knows.side (events (seen b.bank s)) y.event
  event_may all y there =
      subst (λ (z : Stamped). MayMake m.banks s.knows.side (events (seen b.bank s)) z.event) (same_last (seen b.bank s) x y (sym is ∙ there))
      (may_make laws p m image t b.bank stamp s run.core run.own run.end e slot keeps own row granted longer all)

  pub event_others : SameOthers (core_number s) (lent s) (active_in m.directory (events b.log))
  event_others = subst (λ es. SameOthers (core_number s) (lent s) (active_in m.directory es)) (sym events_are) (others laws p m image t b.bank stamp s run.core run.own run.end e slot keeps own row granted longer)

  pub event_claimed : Claimed (active_of (core_number s) (active_in m.directory (events b.log))) (claims s)
  event_claimed = subst (λ es. Claimed (active_of (core_number s) (active_in m.directory es)) (claims s)) (sym events_are) (claimed laws p m image t b.bank stamp s run.core run.own run.end e slot keeps own row granted longer)

  next : IssuesNext m (own_events s) e
  next = issues_next laws p m image t b.bank stamp s run.core run.own run.end e slot keeps own row granted longer

  -- what the core takes in
  pub event_lane : IsOnLane e
  event_lane = (
    λ seq l o block operands kind.
        let within = lane_fits m (state_after m (own_events s)) e.actor.core l (subst (IssuesBy m (state_after m (own_events s)) e.actor) kind next).2
        in let high = within.1
        in (within.0, omega (arith, high, m.buffer_in_limits.1)),
    λ seq kind. by event.Enter seq kind (λ q. refl) (row_cases p m image b.bank (events (seen b.bank s)) (own_events s) e row),
    λ seq kind. by event.Leave seq kind (λ q. refl) (row_cases p m image b.bank (events (seen b.bank s)) (own_events s) e row),
  )
    where
      by : (f : ℕ → EventKind) (seq : ℕ) → e.kind ≡ f seq → ((q : ℕ) → side_of (f q) ≡ Peis q) → ProgramRow p m image (events (seen b.bank s)) (own_events s) e ⊎ LaneRow m (events (seen b.bank s)) e → IsLane e.actor.lane
      by f seq kind side (inl r) = absurd (subst IsNoPeis (ap side_of kind ∙ side seq) (program_no_peis p m image (events (seen b.bank s)) (own_events s) e r))
      by f seq kind side (inr r) = (r.lane, lane_within m e.actor row.actor)

  pub event_issues : IsAbove stamp s.knows.side → stamp < m.events → run.own.issues < 2 ^ 32 - 1
  event_issues above below =
      let few = issues_few laws m (own_events s) (core_of s)
      in let made = events_few s stamp keeps.followed.own_rises above
      in let count = keeps.peis.kept.issues
      in let room = m.events_in_limits.1
      in omega (arith, few, made, count, room, below)

  pub event_asks : IsTrue (retires e.kind) → (y : Call) × (next_of p (core_config m) run.core.state ≡ Calls y) × IsTrue (is_request y)
  event_asks on =
      let there = asked p m image b.bank (events (seen b.bank s)) (own_events s) e row on
      in (there.0, next_is laws p m image s run.core keeps.taken_in ∙ ap (λ c. core_next p image (core_config m) c (own_events s)) (sym own) ∙ there.1, there.2)

  its_lane : IsOfItsLane m (own_events s) e
  its_lane = by (side_of e.kind) refl (row_cases p m image b.bank (events (seen b.bank s)) (own_events s) e row)
    where
      by : (side : Side) → side_of e.kind ≡ side → ProgramRow p m image (events (seen b.bank s)) (own_events s) e ⊎ LaneRow m (events (seen b.bank s)) e → OfLane (state_after m (own_events s)) e.actor (is_entering e.kind) side
      by Programs at r = tt
      by Messages at r = tt
      by (Peis seq) at (inl r) = absurd (subst IsNoPeis at (program_no_peis p m image (events (seen b.bank s)) (own_events s) e r))
      by (Peis seq) at (inr r) =
          let there = own_pei laws p m image t b.bank (Some stamp) s run.core run.own run.end slot keeps e own row.actor r
          in (
            r.pei,
            subst (λ c. look_in (state_after m (own_events s)) c e.actor.lane ≡ Some r.pei) (sym own) there.2,
            (subst (λ d. IsEventOf r.pei.id.seq r.pei.phase d e.kind) at r.is_of).0,
            enters_with r.pei.phase r.pei.id.seq seq e.kind at r.is_of,
          )

  -- what the thread keeps then
  pub event_turn : (u : SeatView) (after : CoreRun) → u ≡ slot_given s b.bank b.log (active_in m.directory (events b.log)) → IsAbove stamp s.knows.side → Rises b.log → misses s ≡ 0 → FencesAtHome (core_of s) (record { bank = b.bank; event = e })
      → after.core.state ≡ after_answer p (at_stop p (core_config m) run.core.state) e.kind → after.end ≡ end_after run.end e.kind
      → (KeepsEvents m (core_of s) (own_events s) run.own → IssuesNext m (own_events s) e → IsOfItsLane m (own_events s) e → same_core e.actor.core (core_of s) ≡ true → KeepsEvents m (core_of s) (own_events s ++ e ∷ []) after.own)
      → after.own.fence ≡ fence_at run.own.fence x e.kind → after.own.lanes ≡ lanes_after e.actor e.kind run.own.lanes → after.own.spent ≡ spent_after e.actor e.kind run.own.spent → after.own.cleared ≡ cleared_after e.kind run.own.cleared → IsInTurn p m image t u after
  event_turn u after at above rise miss home core end note fence lanes spent cleared = record {
    rest = subst (IsAtRest t) (sym given) (record { table = slot.table; slot = refl; stamp = refl });
    missed = subst (λ (w : SeatView). misses w ≡ 0) (sym given) miss;
    keeps = subst (λ w. KeepsUp p m image w after.core after.own after.end) (sym given) kept;
  }
    where
      given : u ≡ slot_given s b.bank (seen b.bank s ++ x ∷ []) (active_in m.directory (events b.log))
      given = at ∙ ap (λ xs. slot_given s b.bank xs (active_in m.directory (events b.log))) is

      kept : KeepsUp p m image (slot_given s b.bank (seen b.bank s ++ x ∷ []) (active_in m.directory (events b.log))) after.core after.own after.end
      kept = record {
        followed = followed_next laws p m image t b.bank stamp s run.core run.own run.end e (active_in m.directory (events b.log)) slot keeps own row (subst Rises is rise) above home;
        taken_in = taken_next laws p m image t b.bank stamp s run.core run.own run.end e (active_in m.directory (events b.log)) slot keeps own row after.core.state after.core.instr core;
        ended = end ∙ ended_next laws p m image t b.bank stamp s run.core run.own run.end e (active_in m.directory (events b.log)) slot keeps own row;
        peis = peis_next laws p m image t b.bank stamp s run.core run.own run.end e (active_in m.directory (events b.log)) slot keeps own row after.own
            (note keeps.peis.kept next its_lane (ap (λ c. same_core c (core_of s)) own ∙ same_self (core_number s)))
            (ap length spent ∙ spent_four run.own.spent e.actor e.kind keeps.peis.four) fence cleared;
        actives = actives_next laws p m image t b.bank stamp s run.core run.own run.end e slot keeps own row granted longer after.own lanes spent x (active_in m.directory (events b.log)) (ap (active_in m.directory) events_are);
        lanes = lanes_next laws p m image t b.bank stamp s run.core run.own run.end e slot keeps own row granted longer after.own lanes spent;
      }
