-- What a thread owes a bank for the call of its core, and for the events of its lanes.
use Rattle.std.proofs.Common.{◌≡◌, ◌≢◌, ◌⊎◌, inl, inr, ℕ, zero, suc, ◌+◌, ◌-◌, ◌<◌, ◌≤◌, Bool, true, false, not, ◌&&◌, ◌||◌, if◌then◌else◌, IsTrue, List, [], ◌∷◌, map, Option, Some, None, is_none, is_some, nat_le, nat_lt, slice_index, refl, sym, ◌∙◌, ap, ap₂, subst, arith}
use Rattle.std.proofs.lemmas.Bool.{and_from, and_parts, le-leb, lt-ltb}
use Rattle.std.proofs.lemmas.Option.{same_Some}
use Rattle.std.specs.Prelude.{⊤, IsSome, option_map}
use Rattle.std.specs.List.{AllByRecursion}
use Rattle.pei_types.specs.declared.calls.Call.{Call}
use Rattle.pei_types.specs.declared.calls.Call.TheVariants as call
use Rattle.pei_types.specs.declared.calls.EndKind.{EndKind}
use Rattle.pei_types.specs.declared.events.Event.{Event}
use Rattle.pei_types.specs.declared.events.EventKind.{EventKind}
use Rattle.pei_types.specs.declared.events.EventKind.TheVariants as event
use Rattle.pei_types.specs.declared.identifiers.Block.{Block}
use Rattle.pei_types.specs.declared.identifiers.BlockNo.{BlockNo}
use Rattle.pei_types.specs.declared.identifiers.CoreId.{CoreId}
use Rattle.pei_types.specs.declared.identifiers.Lane.{Lane}
use Rattle.pei_types.specs.declared.identifiers.PeiId.{PeiId}
use Rattle.pei_types.specs.declared.inflight_looks.PeiLook.{PeiLook}
use Rattle.pei_types.specs.declared.inflight_looks.Phase.{Phase}
use Rattle.pei_types.specs.declared.inflight_looks.Phase.TheVariants as phase
use Rattle.pei_types.specs.declared.inflight_looks.StallCause.TheVariants as stall
use Rattle.pei_types.specs.declared.machines.MachineSpec.{MachineSpec}
use Rattle.pei_types.specs.declared.stamps.Stamped.{Stamped}
use Rattle.pei_types.specs.Blocks.{same_core, same_pei}
use Rattle.pei_types.specs.Calls.{follows_phase, is_actor_of, side_of}
use Rattle.pei_types.specs.MachineState.{State, state_after, fence_of, free_lane, is_phase, look_in}
use Rattle.pei_types.specs.Core.{Calls, core_config, core_next}
use Rattle.pei_types.specs.FlatMemory.{flat_block}
use Rattle.pei_types.specs.History.{begins_fence, ends_fence, pei_of}
use Rattle.pei_types.specs.Next as next
use Rattle.pei_types.specs.Next.{Turn, Makes, Stalls, call_row_by, enter_row, pei_row_by}
use Rattle.pei_types.specs.Program.{Listing, Contents}
use Rattle.pei_types.specs.Turns.{is_entering}
use Rattle.atomic_table.specs.Seated.{TableId}
use Rattle.bank_laws.specs.Banks.{bank_of, journal_of, log_of}
use Rattle.bank_laws.specs.Rows.{IsCallOf, IsMadeIn, IsRowIn, bank_look, pei_turn_in, program_turn_in, turn_in, without_waits}
use Rattle.core_exec.specs.CoreView.{Standing}
use Rattle.fabric.specs.Banks.{BankHistory, IsEntryFreeIn, IsFenceDone, IsFreeIn, IsHome, IsLaneFree, IsNumberNew, FencesRightly, events_of, lane_turn_of, stall_in, waits_of}
use Rattle.fabric.specs.Looks.{fence_seen, seen}
use Rattle.fabric.specs.declared.looks.CoreLook.{CoreLook}
use Rattle.history_laws.specs.TrackedPeis.{is_past_issue}
use Rattle.shared_table.specs.declared.claims.Claim.TheVariants.{Held}
use Rattle.shared_table.specs.Claims.{is_fence}
use Rattle.shared_table.specs.Journal.{events}
use Rattle.shared_table.specs.Own.{Has}
use Rattle.shared_table.specs.Parts.{claims, core_number, mine}
use Rattle.shared_table.specs.Parts as seat
use Rattle.shared_table.specs.Place.{SeatView}
use Rattle.shared_table.specs.Timed.{IsAbove}
use Rattle.thread_laws.specs.OwnEvents.{placed_of}
use Rattle.thread_laws.proofs.Rows.{IsNoPeis, KindIsOf, TurnIsOf, pei_is_of}
use Rattle.host_run.specs.declared.own_peis.OwnPei.{OwnPei}
use Rattle.host_run.specs.declared.own_peis.OwnPeis.{OwnPeis}
use Rattle.host_run.specs.ThreadInvariant.{FencesAtHome, HasSlot, KeepsUp}
use Rattle.host_run.specs.Laws.{TurnLaws}
use Rattle.host_run.specs.Own.{as_own, core_of, entry_of, is_spent, own_events, own_state, pei_in}
use Rattle.host_run.specs.Grant.{IsGranted}
use Rattle.host_run.proofs.Counts.{events_few, issues_few}
use Rattle.host_run.proofs.Looks.{lane_fits}
use Rattle.host_run.proofs.OwnLanes.{lane_is, own_look, part}
use Rattle.host_run.proofs.RowCases.{LaneRow, ProgramRow, fence_asked, fence_ended, program_no_peis, row_cases}

-- ---- kinds of events

fence_event : (c : CoreId) (e : Event) → (begins_fence c e || ends_fence c e) ≡ true → is_fence e.kind ≡ true
fence_event c e h = by e.kind h
  where
    by : (kind : EventKind) → (begins_fence c (record { actor = e.actor; kind = kind }) || ends_fence c (record { actor = e.actor; kind = kind })) ≡ true → is_fence kind ≡ true
    by event.FenceBegin g = refl
    by event.FenceEnd g = refl
    by _ g = absurd (none (same_core e.actor.core c) g)
      where
        none : (b : Bool) → ((b && false) || (b && false)) ≡ true → ⊥
        none true g = cc g
        none false g = cc g

ends_is : (c : CoreId) (e : Event) → ends_fence c e ≡ true → e.kind ≡ event.FenceEnd
ends_is c e h = by e.kind refl h
  where
    by : (kind : EventKind) → e.kind ≡ kind → ends_fence c (record { actor = e.actor; kind = kind }) ≡ true → kind ≡ event.FenceEnd
    by event.FenceEnd is g = refl
    by _ is g = absurd (none (same_core e.actor.core c) g)
      where
        none : (b : Bool) → (b && false) ≡ true → ⊥
        none true g = cc g
        none false g = cc g

no_enter : (kind : EventKind) → IsNoPeis (side_of kind) → is_entering kind ≡ true → ⊥
no_enter (event.Enter seq) h on = h
no_enter _ h on = cc on

-- ---- the core's look

some_off : {A : Type 0} (o : Option A) → is_none o ≡ true → o ≡ None
some_off None h = refl
some_off (Some x) h = absurd (cc h)

some_on : {A : Type 0} (o : Option A) → is_none o ≡ false → IsSome o
some_on None h = absurd (cc h)
some_on (Some x) h = refl

seen_off : (a : Option ℕ) (b : Option (List PeiId)) → fence_seen a ≡ without_waits b → is_none b ≡ is_none a
seen_off None None h = refl
seen_off None (Some w) h = absurd (cc h)
seen_off (Some f) None h = absurd (cc h)
seen_off (Some f) (Some w) h = refl

module _ (laws : TurnLaws) (p : Listing) (m : MachineSpec) (image : Contents) (t : TableId) (k : ℕ) (stamp : Option ℕ) (s : SeatView) (core : Standing) (o : OwnPeis) (end : Option EndKind)
    (slot : HasSlot m image t k (seat.seen k s) stamp s) (keeps : KeepsUp p m image s core o end) (look : CoreLook) (looks : seen look ≡ bank_look m (own_state m s) (core_of s)) where
  -- the bank whose slot the seat has
  abbrev pub h : BankHistory
  h = record { machine = m; image = image; bank = k; log = seat.seen k s }

  free_is : look.free ≡ free_lane m (own_state m s) (core_of s)
  free_is = ap (λ (l : next.CoreLook). l.free) looks

  pub free_fits : IsLaneFree h (core_of s) look.free
  free_fits = by look.free free_is
    where
      by : (l : Option Lane) → l ≡ free_lane m (own_state m s) (core_of s) → IsLaneFree h (core_of s) l
      by None is = tt
      by (Some l) is =
          let within = lane_fits m (own_state m s) (core_of s) l (sym is)
          in record {
            first = within.0;
            last = within.1;
            free = laws.meet.next_lane m k (core_of s) (placed_of (mine s)) (events (seat.seen k s)) l (part laws p m image t k stamp s core o end slot keeps)
                (subst (λ es. free_lane m (state_after m es) (core_of s) ≡ Some l) (sym (laws.meet.own (mine s))) (sym is));
          }

  issues_are : look.issues ≡ slice_index (own_state m s).issues (core_number s)
  issues_are = ap (λ (l : next.CoreLook). l.issues) looks

  pub number_fits : (n : ℕ) → n < m.events → IsAbove n s.knows.side → (x : Call) → IsNumberNew h (core_of s) look x
  number_fits n below above (call.Pei op b operands) =
      let few = issues_few laws m (own_events s) (core_of s)
      in let made = events_few s n keeps.followed.own_rises above
      in (
        omega (arith, few, made, below, issues_are),
        ap (λ i. pei_of (events (seat.seen k s)) (record { core = core_of s; seq = i })) (issues_are ∙ ap (λ es. slice_index (state_after m es).issues (core_number s)) (sym (laws.meet.own (mine s))))
            ∙ laws.meet.next_name m k (core_of s) (placed_of (mine s)) (events (seat.seen k s)) (part laws p m image t k stamp s core o end slot keeps),
      )
  number_fits n below above (call.Load pc addr) = tt
  number_fits n below above (call.Store pc addr value) = tt
  number_fits n below above call.Fence = tt
  number_fits n below above (call.Out value) = tt
  number_fits n below above (call.End how) = tt

  -- the bank's fence of the core is on where the core's is
  fence_same : k ≡ 0 → is_none (fence_of (state_after m (events (seat.seen k s))) (core_of s)) ≡ is_none look.fence
  fence_same home =
      let there = part laws p m image t k stamp s core o end slot keeps
      in laws.meet.fence m k (core_of s) (placed_of (mine s)) (events (seat.seen k s)) keeps.followed.core there.part
      (subst (λ b. AllByRecursion (λ x. (begins_fence (core_of s) x.event || ends_fence (core_of s) x.event) ≡ true → x.bank ≡ b) (placed_of (mine s))) (sym home) keeps.followed.home)
      ∙ ap (λ es. is_none (fence_of (state_after m es) (core_of s))) (laws.meet.own (mine s))
      ∙ seen_off look.fence (fence_of (own_state m s) (core_of s)) (ap (λ (l : next.CoreLook). l.fence) looks)

  pub fence_fits : k ≡ 0 → ((begin : ℕ) → look.fence ≡ Some begin → waits_of h begin ≡ None) → IsFenceDone h (core_of s) look.fence
  fence_fits home waits = by look.fence refl
    where
      by : (f : Option ℕ) → look.fence ≡ f → IsFenceDone h (core_of s) f
      by None is = some_off (fence_of (state_after m (events (seat.seen k s))) (core_of s)) (fence_same home ∙ ap is_none is)
      by (Some begin) is = (some_on (fence_of (state_after m (events (seat.seen k s))) (core_of s)) (fence_same home ∙ ap is_none is), waits begin is)

  -- ---- the event of a call

  module _ (x : Call) (kind : EventKind) (here : IsCallOf m k (Calls x)) (home : IsHome k x) (asks : core_next p image (core_config m) (core_of s) (own_events s) ≡ Calls x)
      (row : call_row_by (seen look) m (state_after m (events (seat.seen k s))) (flat_block image (events (seat.seen k s))) (core_of s) x ≡ Makes kind) where
    abbrev pub e : Event
    e = record { actor = record { core = core_of s; lane = record { 0 = 0 } }; kind = kind }

    seen_row : call_row_by (bank_look m (own_state m s) (core_of s)) m (state_after m (events (seat.seen k s))) (flat_block image (events (seat.seen k s))) (core_of s) x ≡ Makes kind
    seen_row = ap (λ l. call_row_by l m (state_after m (events (seat.seen k s))) (flat_block image (events (seat.seen k s))) (core_of s) x) (sym looks) ∙ row

    is_actor : IsTrue (is_actor_of m e.actor)
    is_actor = and_from (nat_lt (core_number s) m.cores) (nat_le 0 m.buffer) (lt-ltb (core_number s) m.cores keeps.followed.core) (le-leb 0 m.buffer (omega arith))

    pub call_is_row : IsRowIn p m image k (events (seat.seen k s)) (own_events s) e
    call_is_row = record {
      actor = is_actor;
      made = subst (IsCallOf m k) (sym asks) here;
      row =
          ap (λ n. program_turn_in m (state_after m (events (seat.seen k s))) (bank_look m (own_state m s) (core_of s)) (flat_block image (events (seat.seen k s))) (core_of s) n) asks
          ∙ ap Some seen_row;
    }

    pub call_grants_none : IsGranted m s o e
    call_grants_none on = by (row_cases p m image k (events (seat.seen k s)) (own_events s) e call_is_row)
      where
        by : ProgramRow p m image (events (seat.seen k s)) (own_events s) e ⊎ LaneRow m (events (seat.seen k s)) e → (q : OwnPei) × (pei_in o 0 ≡ Some q) × (q.entered ≡ false) × (is_spent o 0 ≡ false) × Has (claims s) 0 (Held (entry_of m q) q.mode)
        by (inl r) = absurd (no_enter kind (program_no_peis p m image (events (seat.seen k s)) (own_events s) e r) on)
        by (inr r) = absurd (let low = r.lane in omega (arith, low))

    fence_only : is_fence kind ≡ true → x ≡ call.Fence
    fence_only on = fence_asked (seen look) m (state_after m (events (seat.seen k s))) (flat_block image (events (seat.seen k s))) (core_of s) x kind row on

    pub call_at_home : FencesAtHome (core_of s) (record { bank = k; event = e })
    call_at_home on = subst (IsHome k) (fence_only (fence_event (core_of s) e on)) home

    pub call_ends : ((begin : ℕ) → look.fence ≡ Some begin → o.cleared ≡ m.banks) → ends_fence (core_of s) e ≡ true → o.cleared ≡ m.banks
    call_ends clear on =
        let ended : kind ≡ event.FenceEnd = ends_is (core_of s) e on
        in let asked = fence_only (rw ended refl)
        in let off : (seen look).fence ≡ Some [] = fence_ended (seen look).fence (subst (λ y. call_row_by (seen look) m (state_after m (events (seat.seen k s))) (flat_block image (events (seat.seen k s))) (core_of s) y ≡ Makes event.FenceEnd) asked (row ∙ ap Makes ended))
        in by look.fence refl off
      where
        by : (f : Option ℕ) → look.fence ≡ f → fence_seen look.fence ≡ Some [] → o.cleared ≡ m.banks
        by None is g = absurd (cc (sym (ap fence_seen is) ∙ g))
        by (Some begin) is g = clear begin is

-- ---- the events of lanes

-- a PEI that waits for its entry enters
waits_then_enters : (look : next.CoreLook) (m : MachineSpec) (s : State) (content : BlockNo → Block) (q : PeiLook) (ph : Phase) (kind : EventKind) → is_phase ph phase.Issued ≡ true → pei_row_by look m s content true q ph ≡ Makes kind → kind ≡ event.Enter q.id.seq
waits_then_enters look m s content q phase.Issued kind h row = by look.first_unentered row
  where
    by : (first : Option PeiId) → enter_row q true first ≡ Makes kind → kind ≡ event.Enter q.id.seq
    by None g = absurd (cc g)
    by (Some id) g = at (same_pei id q.id) g
      where
        at : (b : Bool) → (if b then Makes (event.Enter q.id.seq) else Stalls (stall.NotOldest id)) ≡ Makes kind → kind ≡ event.Enter q.id.seq
        at true e = cc e
        at false e = absurd (cc e)
waits_then_enters look m s content q phase.Entered kind h row = absurd (cc h)
waits_then_enters look m s content q phase.HostPlaced kind h row = absurd (cc h)
waits_then_enters look m s content q phase.MemoryPlaced kind h row = absurd (cc h)
waits_then_enters look m s content q phase.Read kind h row = absurd (cc h)
waits_then_enters look m s content q phase.Sealed kind h row = absurd (cc h)
waits_then_enters look m s content q phase.Acted kind h row = absurd (cc h)

-- one that has entered does not enter
enters_once : (ph : Phase) (n : ℕ) (kind : EventKind) → is_phase ph phase.Issued ≡ false → KindIsOf n ph kind → is_entering kind ≡ false
enters_once phase.Issued n (event.Enter seq) h g = absurd (cc h)
enters_once phase.Entered n (event.Enter seq) h g = absurd (cc g.1)
enters_once phase.HostPlaced n (event.Enter seq) h g = absurd (cc g.1)
enters_once phase.MemoryPlaced n (event.Enter seq) h g = absurd (cc g.1)
enters_once phase.Read n (event.Enter seq) h g = absurd (cc g.1)
enters_once phase.Sealed n (event.Enter seq) h g = absurd (cc g.1)
enters_once phase.Acted n (event.Enter seq) h g = absurd (cc g.1)
enters_once ph n _ h g = refl

module _ (laws : TurnLaws) (p : Listing) (m : MachineSpec) (image : Contents) (t : TableId) (k : ℕ) (stamp : Option ℕ) (s : SeatView) (core : Standing) (o : OwnPeis) (end : Option EndKind)
    (slot : HasSlot m image t k (seat.seen k s) stamp s) (keeps : KeepsUp p m image s core o end) (look : CoreLook) (looks : seen look ≡ bank_look m (own_state m s) (core_of s))
    (l : Lane) (low : 1 ≤ l.0) (high : l.0 ≤ m.buffer) (pei : OwnPei) (there : pei_in o l.0 ≡ Some pei) where
  abbrev pub bank : BankHistory
  bank = record { machine = m; image = image; bank = k; log = seat.seen k s }

  low_four : l.0 ≤ 4
  low_four = let few = m.buffer_in_limits.1 in omega (arith, high, few)

  -- the bank's PEI in the lane is the core's own
  lane_own : (q : PeiLook) → look_in (state_after m (events (seat.seen k s))) (core_of s) l ≡ Some q → as_own q ≡ pei
  lane_own q here =
      let mine = own_look laws p m image t k stamp s core o end slot keeps l q here
      in same_Some (as_own q) pei (ap (option_map as_own) (sym mine.0) ∙ sym (lane_is (own_state m s) (core_of s) o keeps.peis.kept.lanes l.0 low low_four) ∙ there)

  -- its entry is free, where the lane holds the claim and it has not entered
  pub entry_is_free : pei.entered ≡ false → Has (claims s) l.0 (Held (entry_of m pei) pei.mode) → IsEntryFreeIn bank (core_of s) l
  entry_is_free waits held q here =
      laws.free.free m image k (events (seat.seen k s)) slot.order.0 (core_of s) l q (claims s) slot.bank slot.order.1 slot.clear here
      (ap (λ (x : OwnPei). x.entered) (lane_own q here) ∙ waits)
      (subst (λ (x : OwnPei). Has (claims s) l.0 (Held (entry_of m x) x.mode)) (sym (lane_own q here)) held)

  module _ (granted : Bool) (kind : EventKind) (row : lane_turn_of bank granted (core_of s) l look ≡ Makes kind) where
    abbrev pub made : Event
    made = record { actor = record { core = core_of s; lane = l }; kind = kind }

    -- the PEI of the row
    row_pei : (x : Option PeiLook) → pei_turn_in m (state_after m (events (seat.seen k s))) (seen look) (flat_block image (events (seat.seen k s))) granted x ≡ Makes kind → (q : PeiLook) × (x ≡ Some q) × (pei_row_by (seen look) m (state_after m (events (seat.seen k s))) (flat_block image (events (seat.seen k s))) granted q q.phase ≡ Makes kind)
    row_pei None h = absurd (cc h)
    row_pei (Some q) h = (q, refl, h)

    pub found : (q : PeiLook) × (look_in (state_after m (events (seat.seen k s))) (core_of s) l ≡ Some q) × (pei_row_by (seen look) m (state_after m (events (seat.seen k s))) (flat_block image (events (seat.seen k s))) granted q q.phase ≡ Makes kind)
    found = row_pei (look_in (state_after m (events (seat.seen k s))) (core_of s) l) row

    pub is_of : KindIsOf found.0.id.seq found.0.phase kind
    is_of = subst (TurnIsOf found.0.id.seq found.0.phase) found.2 (pei_is_of (seen look) m (state_after m (events (seat.seen k s))) (flat_block image (events (seat.seen k s))) granted found.0 found.0.phase)

    is_issued : is_phase found.0.phase phase.Issued ≡ not pei.entered
    is_issued = not_twice (is_phase found.0.phase phase.Issued) ∙ ap not (ap (λ (x : OwnPei). x.entered) (lane_own found.0 found.1))
      where
        not_twice : (b : Bool) → b ≡ not (not b)
        not_twice true = refl
        not_twice false = refl

    -- the row of a lane whose PEI has not entered, where its entry is granted, enters
    pub enters : granted ≡ true → pei.entered ≡ false → is_entering kind ≡ true
    enters on waits =
        ap is_entering
        (waits_then_enters (seen look) m (state_after m (events (seat.seen k s))) (flat_block image (events (seat.seen k s))) found.0 found.0.phase kind (is_issued ∙ ap not waits)
        (subst (λ g. pei_row_by (seen look) m (state_after m (events (seat.seen k s))) (flat_block image (events (seat.seen k s))) g found.0 found.0.phase ≡ Makes kind) on found.2))

    -- and that of one that has entered does not
    pub goes_on : pei.entered ≡ true → is_entering kind ≡ false
    goes_on in_it = enters_once found.0.phase found.0.id.seq kind (is_issued ∙ ap not in_it) is_of

    pub lane_is_row : is_entering kind ≡ granted → IsRowIn p m image k (events (seat.seen k s)) (own_events s) made
    lane_is_row same = record {
      actor = and_from (nat_lt (core_number s) m.cores) (nat_le l.0 m.buffer) (lt-ltb (core_number s) m.cores keeps.followed.core) (le-leb l.0 m.buffer high);
      made = by_made l.0 low;
      row = by_row l.0 low;
    }
      where
        by_made : (n : ℕ) → 1 ≤ n → IsMadeIn m k n (core_next p image (core_config m) (core_of s) (own_events s))
        by_made zero h = absurd (omega (arith, h))
        by_made (suc n) h = tt

        by_row : (n : ℕ) → 1 ≤ n → turn_in n (core_next p image (core_config m) (core_of s) (own_events s)) m (state_after m (events (seat.seen k s))) (bank_look m (own_state m s) (core_of s)) (flat_block image (events (seat.seen k s))) made.actor (is_entering kind) ≡ Some (Makes kind)
        by_row zero h = absurd (omega (arith, h))
        by_row (suc n) h =
            ap Some (ap₂ (λ look g. pei_turn_in m (state_after m (events (seat.seen k s))) look (flat_block image (events (seat.seen k s))) g (look_in (state_after m (events (seat.seen k s))) (core_of s) l)) (sym looks) same ∙ row)

    lane_fence_none : (begins_fence (core_of s) made || ends_fence (core_of s) made) ≡ true → ⊥
    lane_fence_none on = no_fence kind is_of (fence_event (core_of s) made on)
      where
        no_fence : (kind : EventKind) → KindIsOf found.0.id.seq found.0.phase kind → is_fence kind ≡ true → ⊥
        no_fence event.FenceBegin h on = h
        no_fence event.FenceEnd h on = h
        no_fence _ h on = cc on

    pub lane_at_home : FencesAtHome (core_of s) (record { bank = k; event = made })
    lane_at_home on = absurd (lane_fence_none on)

    pub lane_ends_none : ends_fence (core_of s) made ≡ true → ⊥
    lane_ends_none on = lane_fence_none (either (begins_fence (core_of s) made) on)
      where
        either : (b : Bool) → ends_fence (core_of s) made ≡ true → (b || ends_fence (core_of s) made) ≡ true
        either true h = refl
        either false h = h

    pub lane_granted : is_spent o l.0 ≡ false → (is_entering kind ≡ true → (pei.entered ≡ false) × Has (claims s) l.0 (Held (entry_of m pei) pei.mode)) → IsGranted m s o made
    lane_granted spent held on = let h = held on in (pei, there, h.0, spent, h.1)
