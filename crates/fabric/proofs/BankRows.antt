-- The rows of a bank, on its parts and on what its log leaves.
use Rattle.std.proofs.Common.{◌≡◌, ℕ, zero, suc, ◌<◌, Bool, true, false, ◌&&◌, List, [], ◌∷◌, map, find, Option, Some, None, option_map, refl, sym, ◌∙◌, ap, subst, arith}
use Rattle.std.specs.Prelude.{IsSome, if◌then◌else◌, filter, slice_get}
use Rattle.pei_types.specs.declared.identifiers.Actor.{Actor}
use Rattle.pei_types.specs.declared.identifiers.Block.{Block}
use Rattle.pei_types.specs.declared.identifiers.BlockNo.{BlockNo}
use Rattle.pei_types.specs.declared.identifiers.CoreId.{CoreId}
use Rattle.pei_types.specs.declared.identifiers.Lane.{Lane}
use Rattle.pei_types.specs.declared.identifiers.PeiId.{PeiId}
use Rattle.pei_types.specs.declared.calls.Call.{Call}
use Rattle.pei_types.specs.declared.calls.Call.TheVariants as call
use Rattle.pei_types.specs.declared.inflight_looks.PeiLook.{PeiLook}
use Rattle.pei_types.specs.declared.inflight_looks.Phase.{Phase}
use Rattle.pei_types.specs.declared.inflight_looks.Phase.TheVariants as phase
use Rattle.pei_types.specs.declared.inflight_looks.StallCause.TheVariants as stall
use Rattle.pei_types.specs.declared.events.Event.{Event}
use Rattle.pei_types.specs.declared.events.EventKind.{EventKind}
use Rattle.pei_types.specs.declared.events.EventKind.TheVariants as event
use Rattle.pei_types.specs.declared.machines.MachineSpec.{MachineSpec}
use Rattle.pei_types.specs.Blocks.{same_pei, same_core, same_lane, vault_of}
use Rattle.pei_types.specs.MachineState.{State, is_phase, look_in, state_after, l1_set, llc_set, queue_is_full, queue_of}
use Rattle.pei_types.specs.Calls.{CallFits}
use Rattle.pei_types.specs.Core.{CoreNext, Calls}
use Rattle.pei_types.specs.FlatMemory.{flat_block}
use Rattle.pei_types.specs.History.{pei_of}
use Rattle.pei_types.specs.Next.{Turn as Row, Makes, Stalls, call_row_by, draining_or, enter_row, fence_row, issue_row, lane_row, pei_row, pei_row_by, act_kind, head_row}
use Rattle.pei_types.specs.Program.{Contents}
use Rattle.pei_types.specs.Turns.{is_entering}
use Rattle.coherence_laws.specs.Invariants.{HasSets}
use Rattle.bank_laws.specs.Banks.{HasBanks, bank_of}
use Rattle.bank_laws.specs.Kept.{BankInOrder, FitsInBank}
use Rattle.bank_laws.specs.Parts.{SameInBank, is_in_bank, monitor_set}
use Rattle.bank_laws.specs.Rows.{IsCallOf, IsMadeIn, IsRowOfBank, pei_turn_in, turn_in}
use Rattle.pei_types.specs.Next as rows
use Rattle.journal.specs.Recorded.{Recorded}
use Rattle.inflight.specs.OnTheWay.{is_writer_below}
use Rattle.fabric.specs.Likeness.{AreAlike, IsEvent, MayIssueBy, MayIssueIn}
use Rattle.fabric.specs.Banks.{BankHistory, MayCall, call_stall_of, stall_in, IsLaneFree, call_turn_of, lane_turn_of, waits_of, is_issued_below}
use Rattle.fabric.specs.ValidEvents.{KindFits}
use Rattle.fabric.specs.History.{lane_of, program_of}
use Rattle.fabric.specs.KeptBank.{KeepsBank, history_of}
use Rattle.fabric.specs.Laws.{BankLaws}
use Rattle.fabric.specs.Looks.{fence_seen, seen}
use Rattle.fabric.specs.IssueStamps.{log_with, HaveStamps}
use Rattle.fabric.specs.Whole.{Whole, content_in}
use Rattle.fabric.specs.declared.looks.CoreLook.{CoreLook}
use Rattle.fabric.proofs.Rows.{FitsIn, kind_fits, lane_fits, load_fits, store_fits, no_entering}
use Rattle.fabric.proofs.Stampings.{fresh_of, log_events}
use Rattle.pei_types.specs.Operation.{CanApply, is_writer}
use Rattle.pei_types.proofs.Identities.{makes_is}

-- ---- banks of a machine

pub has_banks : BankLaws → (m : MachineSpec) → HasBanks m
has_banks laws m =
    let fit = m.banks_in_limits
    in laws.apart.banks m fit.1 fit.2 fit.3 fit.4

-- states that are alike are so in every bank
same_bank : (m : MachineSpec) (k : ℕ) (s t : State) → AreAlike s t → SameInBank m k t s
same_bank m k s t h =
    record {
      l1 = λ c b _. ap (λ x. l1_set m (record t { l1 = x }) c b) (sym h.l1);
      llc = λ b _. ap (λ x. llc_set m (record t { llc = x }) b) (sym h.llc);
      monitor = λ b _. ap (λ x. monitor_set m (record t { monitor = x }) b) (sym h.monitor);
      queues = λ b _. ap (λ x. queue_of (record t { queues = x }) (vault_of m b)) (sym h.queues);
      peis = ap (λ ps. filter (is_in_bank m k) ps) (sym h.peis);
    }

has_sets : (m : MachineSpec) (image : Contents) (log : List Event) (h : _) → BankInOrder m image log h → HasSets m (state_after m log)
has_sets m image log h order = let sets = order.invariants.holds.sets in record { l1 = sets.l1; llc = sets.llc; monitor = sets.monitor }

-- ---- stalls

pub event_of : (row : Row) → stall_in row ≡ None → IsEvent row
event_of (Makes kind) h = (kind, refl)
event_of (Stalls cause) h = absurd (cc h)

-- a fence begins, or is on and ends
fence_goes : (on : Option ℕ) → IsEvent (fence_row (fence_seen on))
fence_goes None = (_, refl)
fence_goes (Some begin) = (_, refl)

-- ---- calls

module _ (laws : BankLaws) (parts : Whole) (journal : Recorded) (bank : ℕ) (image : Contents) (issued : List ℕ) (k : KeepsBank parts journal bank image issued) where
  abbrev m : MachineSpec
  m = parts.machine

  abbrev log : List Event
  log = journal.events

  abbrev t : State
  t = state_after m log

  abbrev flat : BlockNo → Block
  flat = flat_block image log

  events : map (λ x. x.event) (log_with journal.events journal.stamps) ≡ log
  events = log_events journal.events journal.stamps k.stamped

  -- the row on the parts is the bank's
  pub call_same : (c : CoreId) (look : CoreLook) (x : Call) → IsCallOf m bank (Calls x) → call_row_by (seen look) m t flat c x ≡ call_row_by (seen look) m parts.state (content_in parts) c x
  call_same c look (call.Load pc addr) here = laws.local.access m bank t parts.state flat (content_in parts) c (call.Load pc addr) (has_banks laws m) (has_sets m image log k.order.0 k.order.1) (same_bank m bank parts.state t k.state) (λ b _. sym (k.memory b)) tt here
  call_same c look (call.Store pc addr value) here = laws.local.access m bank t parts.state flat (content_in parts) c (call.Store pc addr value) (has_banks laws m) (has_sets m image log k.order.0 k.order.1) (same_bank m bank parts.state t k.state) (λ b _. sym (k.memory b)) tt here
  call_same c look (call.Pei o b operands) here = refl
  call_same c look call.Fence here = refl
  call_same c look (call.Out value) here = refl
  call_same c look (call.End kind) here = refl

  -- what a bank's history says is what its events say
  pub turn_shown : (c : CoreId) (look : CoreLook) (x : Call) → call_turn_of (history_of parts journal bank image) c look x ≡ call_row_by (seen look) m t flat c x
  turn_shown c look x = ap (λ es. call_row_by (seen look) m (state_after m es) (flat_block image es) c x) events

  not_stalled : (h : BankHistory) (c : CoreId) (look : CoreLook) (x : Call) → call_stall_of h c look x ≡ None → IsEvent (call_turn_of h c look x)
  not_stalled h c look (call.Load pc addr) e = event_of _ e
  not_stalled h c look (call.Store pc addr value) e = event_of _ e
  not_stalled h c look (call.Pei o b operands) e = event_of _ e
  not_stalled h c look call.Fence e = fence_goes look.fence
  not_stalled h c look (call.Out value) e = event_of _ e
  not_stalled h c look (call.End kind) e = event_of _ e

  pub call_goes_in : (c : CoreId) (look : CoreLook) (x : Call) → MayCall (history_of parts journal bank image) c look x → IsEvent (call_row_by (seen look) m parts.state (content_in parts) c x)
  call_goes_in c look x may = subst IsEvent (turn_shown c look x ∙ call_same c look x may.here) (not_stalled (history_of parts journal bank image) c look x may.goes)

  may_issue_in : (c : CoreId) (look : CoreLook) (o : Option Lane) → c.0 < m.cores → IsLaneFree (history_of parts journal bank image) c o → look.issues < m.events → pei_of log (record { core = c; seq = look.issues }) ≡ None → MayIssueIn parts c o look
  may_issue_in c look None core free few new = tt
  may_issue_in c look (Some lane) core free few new =
      record {
        lane = record { core = core; first = free.first; last = free.last };
        free = ap (λ ps. find (λ p. same_core p.id.core c && same_lane p.lane lane) ps) k.state.peis ∙ sym (ap (λ es. look_in (state_after m es) c lane) events) ∙ free.free;
        few = omega (arith, few, m.events_in_limits.1);
        fresh = ap (λ ps. find (λ p. same_pei p.id (record { core = c; seq = look.issues })) ps) k.state.peis ∙ fresh_of log (record { core = c; seq = look.issues }) t.peis k.order.1.issued new;
      }

  pub call_may_issue : (c : CoreId) (look : CoreLook) (x : Call) → MayCall (history_of parts journal bank image) c look x → MayIssueBy parts c look x
  call_may_issue c look (call.Pei o b operands) may = may_issue_in c look look.free may.core may.lane may.number.0 (sym (ap (λ es. pei_of es (record { core = c; seq = look.issues })) events) ∙ may.number.1)
  call_may_issue c look (call.Load pc addr) may = tt
  call_may_issue c look (call.Store pc addr value) may = tt
  call_may_issue c look call.Fence may = tt
  call_may_issue c look (call.Out value) may = tt
  call_may_issue c look (call.End kind) may = tt

  -- ---- what an event of a call meets

  plain_fits : (n : ℕ) (a : Actor) (kind : EventKind) → FitsIn n kind → FitsInBank m log a kind
  plain_fits n a (event.Issue seq lane o b operands) h = absurd h
  plain_fits n a (event.Enter seq) h = absurd h
  plain_fits n a _ h = tt

  issue_fits : (c : CoreId) (look : CoreLook) (x : Call) (kind : EventKind) (o : _) (b : BlockNo) (operands : _) (free : Option Lane) → IsLaneFree (history_of parts journal bank image) c free → pei_of log (record { core = c; seq = look.issues }) ≡ None → issue_row look.issues o b operands free ≡ Makes kind → FitsInBank m log (program_of c) kind
  issue_fits c look x kind o b operands None lane new e = absurd (cc e)
  issue_fits c look x kind o b operands (Some l) lane new e =
      subst (FitsInBank m log (program_of c)) (makes_is _ _ e)
      (omega (arith, lane.first), lane.last, sym (ap (λ es. look_in (state_after m es) c l) events) ∙ lane.free, new)

  draining_fits : (c : CoreId) (how : _) (kind : EventKind) (o : Option PeiId) → draining_or o (event.End how) ≡ Makes kind → FitsInBank m log (program_of c) kind
  draining_fits c how kind None e = subst (FitsInBank m log (program_of c)) (makes_is _ _ e) tt
  draining_fits c how kind (Some p) e = absurd (cc e)

  fence_fits : (c : CoreId) (kind : EventKind) (on : Option ℕ) → fence_row (fence_seen on) ≡ Makes kind → FitsInBank m log (program_of c) kind
  fence_fits c kind (Some begin) e = subst (FitsInBank m log (program_of c)) (makes_is _ _ e) tt
  fence_fits c kind None e = subst (FitsInBank m log (program_of c)) (makes_is _ _ e) tt

  pub call_fits : (c : CoreId) (look : CoreLook) (x : Call) (kind : EventKind) → MayCall (history_of parts journal bank image) c look x → call_row_by (seen look) m t flat c x ≡ Makes kind → FitsInBank m log (program_of c) kind
  call_fits c look (call.Load pc addr) kind may e = plain_fits m.blocks (program_of c) kind (load_fits m t flat c pc addr m.blocks kind may.fits (sym e))
  call_fits c look (call.Store pc addr value) kind may e = plain_fits m.blocks (program_of c) kind (store_fits m t flat c pc addr value m.blocks kind may.fits (sym e))
  call_fits c look (call.Pei o b operands) kind may e = issue_fits c look (call.Pei o b operands) kind o b operands look.free may.lane (sym (ap (λ es. pei_of es (record { core = c; seq = look.issues })) events) ∙ may.number.1) e
  call_fits c look call.Fence kind may e = fence_fits c kind look.fence e
  call_fits c look (call.Out value) kind may e = subst (FitsInBank m log (program_of c)) (makes_is _ _ e) tt
  call_fits c look (call.End how) kind may e = draining_fits c how kind look.first_unfinished e

  -- and is one that the machine can be asked for
  issue_in_memory : (c : CoreId) (look : CoreLook) (kind : EventKind) (o : _) (b : BlockNo) (operands : _) (free : Option Lane) → CanApply o operands × (b.0 < m.blocks) → issue_row look.issues o b operands free ≡ Makes kind → KindFits m.blocks kind
  issue_in_memory c look kind o b operands None fits e = absurd (cc e)
  issue_in_memory c look kind o b operands (Some l) fits e = subst (KindFits m.blocks) (makes_is _ _ e) fits

  draining_in_memory : (how : _) (kind : EventKind) (o : Option PeiId) → draining_or o (event.End how) ≡ Makes kind → KindFits m.blocks kind
  draining_in_memory how kind None e = subst (KindFits m.blocks) (makes_is _ _ e) tt
  draining_in_memory how kind (Some p) e = absurd (cc e)

  fence_in_memory : (kind : EventKind) (on : Option ℕ) → fence_row (fence_seen on) ≡ Makes kind → KindFits m.blocks kind
  fence_in_memory kind (Some begin) e = subst (KindFits m.blocks) (makes_is _ _ e) tt
  fence_in_memory kind None e = subst (KindFits m.blocks) (makes_is _ _ e) tt

  pub call_in_memory : (c : CoreId) (look : CoreLook) (x : Call) (kind : EventKind) → CallFits m.blocks x → call_row_by (seen look) m t flat c x ≡ Makes kind → KindFits m.blocks kind
  call_in_memory c look (call.Load pc addr) kind fits e = kind_fits m.blocks kind (load_fits m t flat c pc addr m.blocks kind fits (sym e))
  call_in_memory c look (call.Store pc addr value) kind fits e = kind_fits m.blocks kind (store_fits m t flat c pc addr value m.blocks kind fits (sym e))
  call_in_memory c look (call.Pei o b operands) kind fits e = issue_in_memory c look kind o b operands look.free fits e
  call_in_memory c look call.Fence kind fits e = fence_in_memory kind look.fence e
  call_in_memory c look (call.Out value) kind fits e = subst (KindFits m.blocks) (makes_is _ _ e) tt
  call_in_memory c look (call.End how) kind fits e = draining_in_memory how kind look.first_unfinished e

  pub call_is_row : (c : CoreId) (look : CoreLook) (x : Call) (kind : EventKind) → IsCallOf m bank (Calls x) → call_row_by (seen look) m t flat c x ≡ Makes kind → IsRowOfBank m image bank log (record { actor = program_of c; kind = kind })
  call_is_row c look x kind here e = record { next = Calls x; look = seen look; made = here; row = ap Some e }

  -- ---- lanes

  -- the row of a PEI that has entered asks nothing of its core
  entered_turn : (s : State) (content : BlockNo → Block) (look : rows.CoreLook) (p : PeiLook) (ph : Phase) → stall_in (pei_row_by look m s content false p ph) ≡ None → (pei_row_by look m s content false p ph ≡ pei_row m s content false p ph) × (is_phase ph phase.Issued ≡ false)
  entered_turn s content look p phase.Issued e = absurd (waits look.first_unentered e)
    where
      by : (first : PeiId) (b : Bool) → stall_in (if b then Stalls stall.NeedsGrant else Stalls (stall.NotOldest first)) ≡ None → ⊥
      by first true h = cc
      by first false h = cc

      waits : (o : Option PeiId) → stall_in (enter_row p false o) ≡ None → ⊥
      waits None h = cc
      waits (Some first) h = by first (same_pei first p.id) h
  entered_turn s content look p phase.Entered e = (refl, refl)
  entered_turn s content look p phase.HostPlaced e = (refl, refl)
  entered_turn s content look p phase.MemoryPlaced e = (refl, refl)
  entered_turn s content look p phase.Read e = (refl, refl)
  entered_turn s content look p phase.Sealed e = (refl, refl)
  entered_turn s content look p phase.Acted e = (refl, refl)

  lane_turn_same : (look : rows.CoreLook) (o : Option PeiLook) → stall_in (pei_turn_in m t look flat false o) ≡ None → pei_turn_in m t look flat false o ≡ lane_row m parts.state (content_in parts) false o
  lane_turn_same look None e = absurd (cc e)
  lane_turn_same look (Some p) e =
      let own = entered_turn t flat look p p.phase e
      in own.0 ∙ laws.local.entered m (bank_of m p.block) t parts.state flat (content_in parts) false p p.phase (has_banks laws m) (has_sets m image log k.order.0 k.order.1) (same_bank m (bank_of m p.block) parts.state t k.state) (λ b _. sym (k.memory b)) refl own.1

  look_same : (c : CoreId) (l : Lane) → look_in t c l ≡ look_in parts.state c l
  look_same c l = ap (λ ps. find (λ p. same_core p.id.core c && same_lane p.lane l) ps) (sym k.state.peis)

  pub lane_shown : (granted : Bool) (c : CoreId) (l : Lane) (look : CoreLook) → lane_turn_of (history_of parts journal bank image) granted c l look ≡ pei_turn_in m t (seen look) flat granted (look_in t c l)
  lane_shown granted c l look = ap (λ es. pei_turn_in m (state_after m es) (seen look) (flat_block image es) granted (look_in (state_after m es) c l)) events

  pub lane_same : (c : CoreId) (l : Lane) (look : CoreLook) → stall_in (lane_turn_of (history_of parts journal bank image) false c l look) ≡ None → lane_turn_of (history_of parts journal bank image) false c l look ≡ lane_row m parts.state (content_in parts) false (look_in parts.state c l)
  lane_same c l look e =
      lane_shown false c l look
      ∙ lane_turn_same (seen look) (look_in t c l) (subst (λ r. stall_in r ≡ None) (lane_shown false c l look) e)
      ∙ ap (lane_row m parts.state (content_in parts) false) (look_same c l)

  pub lane_goes_in : (c : CoreId) (l : Lane) (look : CoreLook) → stall_in (lane_turn_of (history_of parts journal bank image) false c l look) ≡ None → IsEvent (lane_row m parts.state (content_in parts) false (look_in parts.state c l))
  lane_goes_in c l look e = subst IsEvent (lane_same c l look e) (event_of _ e)

  positive_turn : (n : ℕ) (x : CoreNext) (look : rows.CoreLook) (a : Actor) (granted : Bool) → 0 < n → turn_in n x m t look flat a granted ≡ Some (pei_turn_in m t look flat granted (look_in t a.core a.lane))
  positive_turn zero x look a granted h = absurd (omega (arith, h))
  positive_turn (suc n) x look a granted h = refl

  made_in : (n : ℕ) (x : CoreNext) → 0 < n → IsMadeIn m bank n x
  made_in zero x h = absurd (omega (arith, h))
  made_in (suc n) x h = tt

  pub lane_is_row : (granted : Bool) (c : CoreId) (l : Lane) (look : CoreLook) (kind : EventKind) → 0 < l.0 → is_entering kind ≡ granted → lane_turn_of (history_of parts journal bank image) granted c l look ≡ Makes kind → IsRowOfBank m image bank log (record { actor = lane_of c l; kind = kind })
  lane_is_row granted c l look kind first entering e =
      record {
        next = Calls call.Fence;
        look = seen look;
        made = made_in l.0 (Calls call.Fence) first;
        row =
            ap (λ g. turn_in l.0 (Calls call.Fence) m t (seen look) flat (lane_of c l) g) entering
            ∙ positive_turn l.0 (Calls call.Fence) (seen look) (lane_of c l) granted first
            ∙ ap Some (sym (lane_shown granted c l look) ∙ e);
      }

  plain_lane : (c : CoreId) (l : Lane) (kind : EventKind) → lane_row m parts.state (content_in parts) false (look_in parts.state c l) ≡ Makes kind → (n : ℕ) × FitsIn n kind
  plain_lane c l kind e = by (look_in parts.state c l) e
    where
      found : (x y : PeiLook) → Some x ≡ Some y → x ≡ y
      found x y h = cc

      by : (o : Option PeiLook) → lane_row m parts.state (content_in parts) false o ≡ Makes kind → (n : ℕ) × FitsIn n kind
      by None h = absurd (cc h)
      by (Some p) h = (suc p.block.0, lane_fits m parts.state (content_in parts) (suc p.block.0) (Some p) kind (λ q g. subst (λ (x : PeiLook). x.block.0 < suc p.block.0) (found p q g) (omega arith)) h)

  pub lane_fits_in : (c : CoreId) (l : Lane) (kind : EventKind) → lane_row m parts.state (content_in parts) false (look_in parts.state c l) ≡ Makes kind → FitsInBank m log (lane_of c l) kind
  lane_fits_in c l kind e = let p = plain_lane c l kind e in plain_fits p.0 (lane_of c l) kind p.1

  pub lane_not_entering : (c : CoreId) (l : Lane) (kind : EventKind) → lane_row m parts.state (content_in parts) false (look_in parts.state c l) ≡ Makes kind → is_entering kind ≡ false
  lane_not_entering c l kind e = let p = plain_lane c l kind e in no_entering p.0 kind p.1

  -- ---- enters

  -- a PEI that waits for its entry
  asks_row : (p : PeiLook) (o : Option PeiId) → IsSome o → stall_in (enter_row p false o) ≡ Some stall.NeedsGrant → enter_row p true o ≡ Makes (event.Enter p.id.seq)
  asks_row p None some e = absurd (none_there some)
    where
      none_there : IsSome {T = PeiId} None → ⊥
      none_there h = cc
  asks_row p (Some first) some e = by (same_pei first p.id) e
    where
      by : (b : Bool) → stall_in (if b then Stalls stall.NeedsGrant else Stalls (stall.NotOldest first)) ≡ Some stall.NeedsGrant → (if b then Makes (event.Enter p.id.seq) else Stalls (stall.NotOldest first)) ≡ Makes (event.Enter p.id.seq)
      by true h = refl
      by false h = absurd (cc h)

  waits_issued : (s : State) (content : BlockNo → Block) (look : rows.CoreLook) (p : PeiLook) (ph : Phase) → stall_in (pei_row_by look m s content false p ph) ≡ Some stall.NeedsGrant → ph ≡ phase.Issued
  waits_issued s content look p phase.Issued e = refl
  waits_issued s content look p phase.Entered e = absurd (cc e)
  waits_issued s content look p phase.HostPlaced e = absurd (cc e)
  waits_issued s content look p phase.Read e = absurd (cc e)
  waits_issued s content look p phase.Acted e = absurd (cc e)
  waits_issued s content look p phase.MemoryPlaced e = absurd (by _ _ (queue_is_full m s (vault_of m p.block)) e)
    where
      by : (v : ℕ) (kind : EventKind) (b : Bool) → stall_in (if b then Stalls (stall.VaultFull v) else Makes kind) ≡ Some stall.NeedsGrant → ⊥
      by v kind true h = cc
      by v kind false h = cc
  waits_issued s content look p phase.Sealed e = absurd (head (slice_get (queue_of s (vault_of m p.block)) 0) e)
    where
      by : (first : PeiId) (b : Bool) → stall_in (if b then Makes (act_kind content p) else Stalls (stall.NotHead first)) ≡ Some stall.NeedsGrant → ⊥
      by first true h = cc
      by first false h = cc

      head : (o : Option PeiId) → stall_in (head_row content p o) ≡ Some stall.NeedsGrant → ⊥
      head None h = cc
      head (Some first) h = by first (same_pei first p.id) h

  -- the PEI that waits for its entry, and its row
  pub record Asks (c : CoreId) (l : Lane) (look : CoreLook) : Type 0 where
    pub pei : PeiLook
    pub here : look_in parts.state c l ≡ Some pei
    pub there : look_in t c l ≡ Some pei
    pub waiting : pei.phase ≡ phase.Issued
    pub row : lane_turn_of (history_of parts journal bank image) true c l look ≡ Makes (event.Enter pei.id.seq)

  pub asks_in : (c : CoreId) (l : Lane) (look : CoreLook) → IsSome look.first_unentered → stall_in (lane_turn_of (history_of parts journal bank image) false c l look) ≡ Some stall.NeedsGrant → Asks c l look
  asks_in c l look some e = by (look_in t c l) refl (subst (λ r. stall_in r ≡ Some stall.NeedsGrant) (lane_shown false c l look) e)
    where
      by : (o : Option PeiLook) → look_in t c l ≡ o → stall_in (pei_turn_in m t (seen look) flat false o) ≡ Some stall.NeedsGrant → Asks c l look
      by None is h = absurd (cc h)
      by (Some p) is h =
          let fresh = waits_issued t flat (seen look) p p.phase h
          in let waits : stall_in (enter_row p false look.first_unentered) ≡ Some stall.NeedsGrant = subst (λ ph. stall_in (pei_row_by (seen look) m t flat false p ph) ≡ Some stall.NeedsGrant) fresh h
          in record {
            pei = p;
            here = sym (look_same c l) ∙ is;
            there = is;
            waiting = fresh;
            row = lane_shown true c l look ∙ ap (pei_turn_in m t (seen look) flat true) is ∙ ap (pei_row_by (seen look) m t flat true p) fresh ∙ asks_row p look.first_unentered some waits;
          }

  -- ---- why a lane waits

  issued_waits : (look : CoreLook) (p : PeiLook) → p.phase ≡ phase.Issued → pei_row_by (seen look) m t flat false p p.phase ≡ enter_row p false look.first_unentered
  issued_waits look p issued = ap (pei_row_by (seen look) m t flat false p) issued

  -- the row of a lane whose PEI has not entered
  pub lane_waits : (c : CoreId) (l : Lane) (look : CoreLook) (p : PeiLook) → look_in parts.state c l ≡ Some p → p.phase ≡ phase.Issued → lane_turn_of (history_of parts journal bank image) false c l look ≡ enter_row p false look.first_unentered
  lane_waits c l look p here issued = lane_shown false c l look ∙ ap (pei_turn_in m t (seen look) flat false) (look_same c l ∙ here) ∙ issued_waits look p issued

  pub lane_idles : (c : CoreId) (l : Lane) (look : CoreLook) → look_in parts.state c l ≡ None → lane_turn_of (history_of parts journal bank image) false c l look ≡ Stalls stall.Idle
  lane_idles c l look none = lane_shown false c l look ∙ ap (pei_turn_in m t (seen look) flat false) (look_same c l ∙ none)

  later_turn : (look : CoreLook) (p : PeiLook) (ph : Phase) → is_phase ph phase.Issued ≡ false → pei_row_by (seen look) m t flat false p ph ≡ pei_row m t flat false p ph
  later_turn look p phase.Issued h = absurd (cc h)
  later_turn look p phase.Entered h = refl
  later_turn look p phase.HostPlaced h = refl
  later_turn look p phase.MemoryPlaced h = refl
  later_turn look p phase.Read h = refl
  later_turn look p phase.Sealed h = refl
  later_turn look p phase.Acted h = refl

  -- and of one whose PEI has entered
  pub lane_later : (c : CoreId) (l : Lane) (look : CoreLook) (p : PeiLook) → look_in parts.state c l ≡ Some p → is_phase p.phase phase.Issued ≡ false → lane_turn_of (history_of parts journal bank image) false c l look ≡ pei_row m parts.state (content_in parts) false p p.phase
  lane_later c l look p here entered =
      lane_shown false c l look
      ∙ ap (pei_turn_in m t (seen look) flat false) (look_same c l ∙ here)
      ∙ later_turn look p p.phase entered
      ∙ laws.local.entered m (bank_of m p.block) t parts.state flat (content_in parts) false p p.phase (has_banks laws m) (has_sets m image log k.order.0 k.order.1) (same_bank m (bank_of m p.block) parts.state t k.state) (λ b _. sym (k.memory b)) refl entered

  -- ---- writers with smaller issue stamps

  pub waits_same : (numbers : List ℕ) (bound : ℕ) → HaveStamps (log_with journal.events journal.stamps) numbers parts.state.peis → option_map (λ p. p.id) (find (is_writer_below numbers bound) parts.state.peis) ≡ waits_of (history_of parts journal bank image) bound
  waits_same numbers bound have =
      ap (option_map (λ p. p.id)) (same_find parts.state.peis have)
      ∙ ap (λ ps. option_map (λ p. p.id) (find test ps)) k.state.peis
      ∙ sym (ap (λ es. option_map (λ p. p.id) (find test (state_after m es).peis)) events)
    where
      test : PeiLook → Bool
      test = λ p. is_writer p.op && is_issued_below (log_with journal.events journal.stamps) bound p.id

      same_find : (ps : List PeiLook) → HaveStamps (log_with journal.events journal.stamps) numbers ps → find (is_writer_below numbers bound) ps ≡ find test ps
      same_find [] h = refl
      same_find (p ∷ ps) h =
          ap (λ b. if is_writer p.op && b then Some p else find (is_writer_below numbers bound) ps) (sym (h.0 bound))
          ∙ ap (λ o. if test p then Some p else o) (same_find ps h.1)

-- a phase that is no other
pub not_issued : (ph : Phase) → (ph ≡ phase.Issued → ⊥) → is_phase ph phase.Issued ≡ false
not_issued phase.Issued h = absurd (h refl)
not_issued phase.Entered h = refl
not_issued phase.HostPlaced h = refl
not_issued phase.MemoryPlaced h = refl
not_issued phase.Read h = refl
not_issued phase.Sealed h = refl
not_issued phase.Acted h = refl
