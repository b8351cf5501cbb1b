-- The event that a thread has a bank make, for a lane with its PEI and for a call: what the slot is given back with.
use Rattle.std.proofs.Common.{◌≡◌, ◌⊎◌, inl, inr, ℕ, ◌<◌, ◌≤◌, Bool, true, false, not, ◌||◌, List, [], ◌∷◌, ◌++◌, Option, Some, None, refl, sym, ◌∙◌, ap, ap₂, subst}
use Rattle.std.specs.Prelude.{IfSome}
use Rattle.std.specs.List.{AllByRecursion}
use Rattle.atomic_table.specs.Seated.{TableId}
use Rattle.pei_types.specs.declared.calls.Call.{Call}
use Rattle.pei_types.specs.declared.calls.Call.TheVariants as calls
use Rattle.pei_types.specs.declared.events.Event.{Event}
use Rattle.pei_types.specs.declared.events.EventKind.{EventKind}
use Rattle.pei_types.specs.declared.identifiers.Actor.{Actor}
use Rattle.pei_types.specs.declared.identifiers.CoreId.{CoreId}
use Rattle.pei_types.specs.declared.identifiers.Lane.{Lane}
use Rattle.pei_types.specs.declared.machines.MachineSpec.{MachineSpec}
use Rattle.pei_types.specs.declared.stamps.Stamped.{Stamped}
use Rattle.pei_types.specs.MachineState.{state_after}
use Rattle.pei_types.specs.Core.{Calls, core_config, core_next, next_of}
use Rattle.pei_types.specs.History.{ends_fence}
use Rattle.pei_types.specs.Next.{Makes}
use Rattle.pei_types.specs.Program.{Listing, Contents}
use Rattle.pei_types.specs.Turns.{is_entering}
use Rattle.bank_laws.specs.Rows.{IsCallOf, IsRowIn, bank_look}
use Rattle.core_exec.specs.CoreView.{Standing}
use Rattle.fabric.specs.Banks.{AsksWhileFenced, BankHistory, FencesRightly, IsEntryFreeIn, IsHome, IsLaneFree, IsNew, IsNumberNew, call_turn_of, lane_turn_of, waits_of}
use Rattle.fabric.specs.Looks.{seen}
use Rattle.fabric.specs.declared.looks.CoreLook.{CoreLook}
use Rattle.history_laws.proofs.Lists.{each_in}
use Rattle.shared_table.specs.declared.claims.Claim.TheVariants.{Held}
use Rattle.shared_table.specs.Journal.{events}
use Rattle.shared_table.specs.Own.{Has}
use Rattle.shared_table.specs.Parts.{claims, misses}
use Rattle.shared_table.specs.Parts as seat
use Rattle.shared_table.specs.Place.{SeatView}
use Rattle.shared_table.specs.Timed.{IsAbove}
use Rattle.thread_laws.proofs.Lanes.{at_of_in}
use Rattle.host_run.specs.declared.cores.CoreRun.{CoreRun}
use Rattle.host_run.specs.declared.own_peis.OwnPei.{OwnPei}
use Rattle.host_run.specs.declared.own_peis.OwnPeis.{OwnPeis}
use Rattle.host_run.specs.ThreadInvariant.{FencesAtHome, HasSlot, KeepsUp}
use Rattle.host_run.specs.Laws.{TurnLaws}
use Rattle.host_run.specs.Own.{core_of, entry_of, is_spent, own_events, own_state, pei_in}
use Rattle.host_run.specs.Grant.{IsGranted}
use Rattle.host_run.proofs.EventSteps.{next_is}
use Rattle.host_run.proofs.Calling.{call_at_home, call_ends, call_grants_none, call_is_row, enters, entry_is_free, fence_fits, free_fits, goes_on, lane_at_home, lane_ends_none, lane_granted, lane_is_row, number_fits}

pub of_some : {A : Type 0} (P : A → Type 0) (r : Option A) (x : A) → IfSome r P → r ≡ Some x → P x
of_some P r x h is = subst (λ o. IfSome o P) is h

-- a stamp that is above all that a seat has seen is new to the bank's log
pub is_new : (n k : ℕ) (s : SeatView) → IsAbove n s.knows.side → IsNew (seat.seen k s) n
is_new n k s above = each_in (λ (x : Stamped). x.stamp < n) (seat.seen k s) (λ x i. let r = at_of_in (seat.seen k s) x i in above.1 k r.0 x r.1)

module _ (laws : TurnLaws) (p : Listing) (m : MachineSpec) (image : Contents) (t : TableId) (k : ℕ) (stamp : Option ℕ) (s : SeatView) (run : CoreRun) (h : BankHistory) (same : h.machine ≡ m) (start : h.image ≡ image) (number : h.bank ≡ k) (before : h.log ≡ seat.seen k s)
    (slot : HasSlot m image t k (seat.seen k s) stamp s) (keeps : KeepsUp p m image s run.core run.own run.end) (c : CoreId) (own : c ≡ core_of s) (look : CoreLook) (looks : seen look ≡ bank_look m (own_state m s) (core_of s)) where
  abbrev here : BankHistory
  here = record { machine = m; image = image; bank = k; log = seat.seen k s }

  bank_is : h ≡ here
  bank_is = λ i. record { machine = same i; image = start i; bank = number i; log = before i }

  -- ---- a lane

  module _ (l : Lane) (low : 1 ≤ l.0) (high : l.0 ≤ m.buffer) (pei : OwnPei) (there : pei_in run.own l.0 ≡ Some pei) where
    pub free_entry : pei.entered ≡ false → Has (claims s) l.0 (Held (entry_of m pei) pei.mode) → IsEntryFreeIn h c l
    free_entry waits held =
        subst (λ x. IsEntryFreeIn x c l) (sym bank_is)
        (subst (λ d. IsEntryFreeIn here d l) (sym own) (entry_is_free laws p m image t k stamp s run.core run.own run.end slot keeps look looks l low high pei there waits held))

    module _ (granted : Bool) (state : pei.entered ≡ not granted) (e : Event) (actor : e.actor ≡ record { core = c; lane = l }) (row : lane_turn_of h granted c l look ≡ Makes e.kind) where
      row_here : lane_turn_of here granted (core_of s) l look ≡ Makes e.kind
      row_here = subst (λ d. lane_turn_of here granted d l look ≡ Makes e.kind) own (subst (λ x. lane_turn_of x granted c l look ≡ Makes e.kind) bank_is row)

      event_is : e ≡ record { actor = record { core = core_of s; lane = l }; kind = e.kind }
      event_is = λ i. record { actor = (actor ∙ ap (λ d. record { core = d; lane = l }) own) i; kind = e.kind }

      entering : is_entering e.kind ≡ granted
      entering = by granted refl state
        where
          by : (g : Bool) → granted ≡ g → pei.entered ≡ not g → is_entering e.kind ≡ g
          by true is on = enters laws p m image t k stamp s run.core run.own run.end slot keeps look looks l low high pei there granted e.kind row_here is on
          by false is on = goes_on laws p m image t k stamp s run.core run.own run.end slot keeps look looks l low high pei there granted e.kind row_here on

      pub lane_row : IsRowIn p m image k (events (seat.seen k s)) (own_events s) e
      lane_row = subst (IsRowIn p m image k (events (seat.seen k s)) (own_events s)) (sym event_is) (lane_is_row laws p m image t k stamp s run.core run.own run.end slot keeps look looks l low high pei there granted e.kind row_here entering)

      pub lane_home : FencesAtHome (core_of s) (record { bank = k; event = e })
      lane_home = subst (λ x. FencesAtHome (core_of s) (record { bank = k; event = x })) (sym event_is) (lane_at_home laws p m image t k stamp s run.core run.own run.end slot keeps look looks l low high pei there granted e.kind row_here)

      pub lane_ends : ends_fence (core_of s) e ≡ true → run.own.cleared ≡ m.banks
      lane_ends on = absurd (lane_ends_none laws p m image t k stamp s run.core run.own run.end slot keeps look looks l low high pei there granted e.kind row_here (subst (λ x. ends_fence (core_of s) x ≡ true) event_is on))

      pub lane_entering : is_spent run.own l.0 ≡ false → (granted ≡ true → Has (claims s) l.0 (Held (entry_of m pei) pei.mode)) → IsGranted m s run.own e
      lane_entering spent held =
          subst (IsGranted m s run.own) (sym event_is)
          (lane_granted laws p m image t k stamp s run.core run.own run.end slot keeps look looks l low high pei there granted e.kind row_here spent
          (λ on. let is : granted ≡ true = sym entering ∙ on in (state ∙ ap not is, held is)))

      pub lane_core : e.actor.core ≡ core_of s
      lane_core = ap (λ (a : Actor). a.core) actor ∙ own

  -- ---- a call

  pub call_lane : IsLaneFree h c look.free
  call_lane = subst (λ x. IsLaneFree x c look.free) (sym bank_is) (subst (λ d. IsLaneFree here d look.free) (sym own) (free_fits laws p m image t k stamp s run.core run.own run.end slot keeps look looks))

  pub call_number : (n : ℕ) → n < m.events → IsAbove n s.knows.side → (x : Call) → IsNumberNew h c look x
  call_number n below above x = subst (λ y. IsNumberNew y c look x) (sym bank_is) (subst (λ d. IsNumberNew here d look x) (sym own) (number_fits laws p m image t k stamp s run.core run.own run.end slot keeps look looks n below above x))

  module _ (x : Call) (home : IsHome k x) where
    pub call_fence : ((begin : ℕ) → look.fence ≡ Some begin → waits_of h begin ≡ None) → x ≡ calls.Fence → FencesRightly h c look x
    call_fence waits is =
        subst (FencesRightly h c look) (sym is)
        (subst (λ y. FencesRightly y c look calls.Fence) (sym bank_is)
        (subst (λ d. FencesRightly here d look calls.Fence) (sym own)
        (fence_fits laws p m image t k stamp s run.core run.own run.end slot keeps look looks (subst (IsHome k) is home) (λ begin on. subst (λ y. waits_of y begin ≡ None) bank_is (waits begin on)))))

    module _ (here_is : IsCallOf m k (Calls x)) (asks : core_next p image (core_config m) (core_of s) (own_events s) ≡ Calls x) (e : Event) (actor : e.actor ≡ record { core = c; lane = record { 0 = 0 } }) (row : call_turn_of h c look x ≡ Makes e.kind) where
      call_here : call_turn_of here (core_of s) look x ≡ Makes e.kind
      call_here = subst (λ d. call_turn_of here d look x ≡ Makes e.kind) own (subst (λ y. call_turn_of y c look x ≡ Makes e.kind) bank_is row)

      called_is : e ≡ record { actor = record { core = core_of s; lane = record { 0 = 0 } }; kind = e.kind }
      called_is = λ i. record { actor = (actor ∙ ap (λ d. record { core = d; lane = record { 0 = 0 } }) own) i; kind = e.kind }

      pub call_row : IsRowIn p m image k (events (seat.seen k s)) (own_events s) e
      call_row = subst (IsRowIn p m image k (events (seat.seen k s)) (own_events s)) (sym called_is) (call_is_row laws p m image t k stamp s run.core run.own run.end slot keeps look looks x e.kind here_is home asks call_here)

      pub call_entering : IsGranted m s run.own e
      call_entering = subst (IsGranted m s run.own) (sym called_is) (call_grants_none laws p m image t k stamp s run.core run.own run.end slot keeps look looks x e.kind here_is home asks call_here)

      pub call_home : FencesAtHome (core_of s) (record { bank = k; event = e })
      call_home = subst (λ y. FencesAtHome (core_of s) (record { bank = k; event = y })) (sym called_is) (call_at_home laws p m image t k stamp s run.core run.own run.end slot keeps look looks x e.kind here_is home asks call_here)

      pub call_ending : ((begin : ℕ) → look.fence ≡ Some begin → run.own.cleared ≡ m.banks) → ends_fence (core_of s) e ≡ true → run.own.cleared ≡ m.banks
      call_ending clear on = call_ends laws p m image t k stamp s run.core run.own run.end slot keeps look looks x e.kind here_is home asks call_here clear (subst (λ y. ends_fence (core_of s) y ≡ true) called_is on)

      pub call_core : e.actor.core ≡ core_of s
      call_core = ap (λ (a : Actor). a.core) actor ∙ own

-- what a fence asks is asked of no other call
pub fences_rightly : (h : BankHistory) (c : CoreId) (look : CoreLook) (x : Call) → (x ≡ calls.Fence → FencesRightly h c look x) → FencesRightly h c look x
fences_rightly h c look (calls.Load pc addr) f = tt
fences_rightly h c look (calls.Store pc addr value) f = tt
fences_rightly h c look (calls.Pei o b operands) f = tt
fences_rightly h c look calls.Fence f = f refl
fences_rightly h c look (calls.Out value) f = tt
fences_rightly h c look (calls.End kind) f = tt

-- a core with a fence on asks for its end alone
pub asks_fenced : (o : Option ℕ) (x : Call) (B : Type 0) → IfSome o (λ _. (x ≡ calls.Fence) × B) → AsksWhileFenced o x
asks_fenced None x B h = tt
asks_fenced (Some begin) x B h = h.0

-- ---- a visit, from the slot to the stamp

-- The seat s with the core's run has taken the slot of bank k, whose value is h, and drawn the stamp n.
pub record IsDrawn (p : Listing) (m : MachineSpec) (image : Contents) (t : TableId) (k : ℕ) (h : BankHistory) (n : ℕ) (s s1 : SeatView) (run run1 : CoreRun) : Type 0 where
  pub same : h.machine ≡ m
  pub start : h.image ≡ image
  pub number : h.bank ≡ k
  pub before : h.log ≡ seat.seen k s1
  pub slot : HasSlot m image t k (seat.seen k s1) (Some n) s1
  pub keeps : KeepsUp p m image s1 run1.core run1.own run1.end
  pub above : IsAbove n s1.knows.side
  pub below : n < m.events
  pub missed : misses s1 ≡ 0
  pub core : core_of s1 ≡ core_of s
  pub events_are : own_events s1 ≡ own_events s
  pub claims_are : claims s1 ≡ claims s
  pub own : run1.own ≡ run.own
  pub state : run1.core ≡ run.core

pub is_drawn : (p : Listing) (m : MachineSpec) (image : Contents) (t : TableId) (k : ℕ) (h : BankHistory) (n : ℕ) (s s0 s1 : SeatView) (run run1 : CoreRun) → h.machine ≡ m → h.image ≡ image → h.bank ≡ k → HasSlot m image t k h.log None s0
    → (core_of s0 ≡ core_of s) × (own_events s0 ≡ own_events s) → claims s0 ≡ claims s → (run1.core ≡ run.core) × (run1.own ≡ run.own) × (run1.end ≡ run.end)
    → (r : Option ℕ) → r ≡ Some n → IfSome r (λ x. (x < m.events) × IsAbove x s1.knows.side × HasSlot m image t k (seat.seen k s0) (Some x) s1 × (misses s1 ≡ 0)) → KeepsUp p m image s1 run1.core run1.own run1.end
    → (core_of s1 ≡ core_of s0) × (own_events s1 ≡ own_events s0) × (seat.seen k s1 ≡ seat.seen k s0) → claims s1 ≡ claims s0 → IsDrawn p m image t k h n s s1 run run1
is_drawn p m image t k h n s s0 s1 run run1 same start number slot held held_claims runs r is some keeps drawn drawn_claims =
    let d = of_some (λ x. (x < m.events) × IsAbove x s1.knows.side × HasSlot m image t k (seat.seen k s0) (Some x) s1 × (misses s1 ≡ 0)) r n some is
    in record {
      same = same;
      start = start;
      number = number;
      before = sym slot.seen_is ∙ sym drawn.2;
      slot = subst (λ xs. HasSlot m image t k xs (Some n) s1) (sym drawn.2) d.2;
      keeps = keeps;
      above = d.1;
      below = d.0;
      missed = d.3;
      core = drawn.0 ∙ held.0;
      events_are = drawn.1 ∙ held.1;
      claims_are = drawn_claims ∙ held_claims;
      own = runs.1;
      state = runs.0;
    }

module _ (laws : TurnLaws) (p : Listing) (m : MachineSpec) (image : Contents) (t : TableId) (k : ℕ) (h : BankHistory) (n : ℕ) (s s1 : SeatView) (run run1 : CoreRun) (v : IsDrawn p m image t k h n s s1 run run1) (c : CoreId) (its : c ≡ core_of s) (look : CoreLook) (looks : seen look ≡ bank_look m (own_state m s) (core_of s)) where
  own : c ≡ core_of s1
  own = its ∙ sym v.core

  looks_now : seen look ≡ bank_look m (own_state m s1) (core_of s1)
  looks_now = looks ∙ ap₂ (λ es d. bank_look m (state_after m es) d) (sym v.events_are) (sym v.core)

  pub visit_new : IsNew h.log n
  visit_new = subst (λ xs. IsNew xs n) (sym v.before) (is_new n k s1 v.above)

  module _ (l : Lane) (low : 1 ≤ l.0) (high : l.0 ≤ m.buffer) (pei : OwnPei) (spent : is_spent run.own l.0 ≡ false) (there : pei_in run.own l.0 ≡ Some pei) where
    there_now : pei_in run1.own l.0 ≡ Some pei
    there_now = ap (λ o. pei_in o l.0) v.own ∙ there

    spent_now : is_spent run1.own l.0 ≡ false
    spent_now = ap (λ o. is_spent o l.0) v.own ∙ spent

    pub visit_free : pei.entered ≡ false → Has (claims s) l.0 (Held (entry_of m pei) pei.mode) → IsEntryFreeIn h c l
    visit_free waits held = free_entry laws p m image t k (Some n) s1 run1 h v.same v.start v.number v.before v.slot v.keeps c own look looks_now l low high pei there_now waits (subst (λ xs. Has xs l.0 (Held (entry_of m pei) pei.mode)) (sym v.claims_are) held)

    module _ (granted : Bool) (state : pei.entered ≡ not granted) (e : Event) (actor : e.actor ≡ record { core = c; lane = l }) (row : lane_turn_of h granted c l look ≡ Makes e.kind) where
      pub visit_row : IsRowIn p m image k (events (seat.seen k s1)) (own_events s1) e
      visit_row = lane_row laws p m image t k (Some n) s1 run1 h v.same v.start v.number v.before v.slot v.keeps c own look looks_now l low high pei there_now granted state e actor row

      pub visit_home : FencesAtHome (core_of s1) (record { bank = k; event = e })
      visit_home = lane_home laws p m image t k (Some n) s1 run1 h v.same v.start v.number v.before v.slot v.keeps c own look looks_now l low high pei there_now granted state e actor row

      pub visit_ends : ends_fence (core_of s1) e ≡ true → run1.own.cleared ≡ m.banks
      visit_ends = lane_ends laws p m image t k (Some n) s1 run1 h v.same v.start v.number v.before v.slot v.keeps c own look looks_now l low high pei there_now granted state e actor row

      pub visit_entering : (granted ≡ true → Has (claims s) l.0 (Held (entry_of m pei) pei.mode)) → IsGranted m s1 run1.own e
      visit_entering held =
          lane_entering laws p m image t k (Some n) s1 run1 h v.same v.start v.number v.before v.slot v.keeps c own look looks_now l low high pei there_now granted state e actor row spent_now
          (λ on. subst (λ xs. Has xs l.0 (Held (entry_of m pei) pei.mode)) (sym v.claims_are) (held on))

      pub visit_core : e.actor.core ≡ core_of s1
      visit_core = lane_core laws p m image t k (Some n) s1 run1 h v.same v.start v.number v.before v.slot v.keeps c own look looks_now l low high pei there_now granted state e actor row

  pub visit_lane : IsLaneFree h c look.free
  visit_lane = call_lane laws p m image t k (Some n) s1 run1 h v.same v.start v.number v.before v.slot v.keeps c own look looks_now

  pub visit_number : (x : Call) → IsNumberNew h c look x
  visit_number x = call_number laws p m image t k (Some n) s1 run1 h v.same v.start v.number v.before v.slot v.keeps c own look looks_now n v.below v.above x

  module _ (x : Call) (home : IsHome k x) where
    pub visit_fence : ((begin : ℕ) → look.fence ≡ Some begin → waits_of h begin ≡ None) → x ≡ calls.Fence → FencesRightly h c look x
    visit_fence waits is = call_fence laws p m image t k (Some n) s1 run1 h v.same v.start v.number v.before v.slot v.keeps c own look looks_now x home waits is

    module _ (here_is : IsCallOf m k (Calls x)) (asks : next_of p (core_config m) run.core.state ≡ Calls x) (e : Event) (actor : e.actor ≡ record { core = c; lane = record { 0 = 0 } }) (row : call_turn_of h c look x ≡ Makes e.kind) where
      asks_now : core_next p image (core_config m) (core_of s1) (own_events s1) ≡ Calls x
      asks_now = sym (next_is laws p m image s1 run1.core v.keeps.taken_in) ∙ ap (λ (z : Standing). next_of p (core_config m) z.state) v.state ∙ asks

      pub visit_call_row : IsRowIn p m image k (events (seat.seen k s1)) (own_events s1) e
      visit_call_row = call_row laws p m image t k (Some n) s1 run1 h v.same v.start v.number v.before v.slot v.keeps c own look looks_now x home here_is asks_now e actor row

      pub visit_call_entering : IsGranted m s1 run1.own e
      visit_call_entering = call_entering laws p m image t k (Some n) s1 run1 h v.same v.start v.number v.before v.slot v.keeps c own look looks_now x home here_is asks_now e actor row

      pub visit_call_home : FencesAtHome (core_of s1) (record { bank = k; event = e })
      visit_call_home = call_home laws p m image t k (Some n) s1 run1 h v.same v.start v.number v.before v.slot v.keeps c own look looks_now x home here_is asks_now e actor row

      pub visit_call_ends : ((begin : ℕ) → look.fence ≡ Some begin → run.own.cleared ≡ m.banks) → ends_fence (core_of s1) e ≡ true → run1.own.cleared ≡ m.banks
      visit_call_ends clear = call_ending laws p m image t k (Some n) s1 run1 h v.same v.start v.number v.before v.slot v.keeps c own look looks_now x home here_is asks_now e actor row (λ begin on. ap (λ (o : OwnPeis). o.cleared) v.own ∙ clear begin on)

      pub visit_call_core : e.actor.core ≡ core_of s1
      visit_call_core = call_core laws p m image t k (Some n) s1 run1 h v.same v.start v.number v.before v.slot v.keeps c own look looks_now x home here_is asks_now e actor row
