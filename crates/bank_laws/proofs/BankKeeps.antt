-- One bank stays in order by its own rows.
use Rattle.std.proofs.Common.{◌≡◌, ◌⊎◌, inl, inr, ℕ, zero, suc, ◌+◌, ◌<◌, ◌≤◌, Bool, true, false, ◌&&◌, List, [], ◌∷◌, ◌++◌, length, map, find, Option, Some, None, IsTrue, slice_index, refl, sym, ◌∙◌, ap, subst, arith}
use Rattle.std.specs.Prelude.{⊤, if◌then◌else◌, IfSome}
use Rattle.std.specs.List.{cons_option}
use Rattle.std.proofs.lemmas.List.{length-map}
use Rattle.std.proofs.lemmas.List.Folds.{find-append}
use Rattle.std.proofs.lemmas.Option.{same_Some}
use Rattle.pei_types.specs.declared.identifiers.Actor.{Actor}
use Rattle.pei_types.specs.declared.identifiers.Block.{Block}
use Rattle.pei_types.specs.declared.identifiers.BlockNo.{BlockNo}
use Rattle.pei_types.specs.declared.identifiers.CoreId.{CoreId}
use Rattle.pei_types.specs.declared.identifiers.Lane.{Lane}
use Rattle.pei_types.specs.declared.identifiers.PeiId.{PeiId}
use Rattle.pei_types.specs.declared.calls.Call.{Call}
use Rattle.pei_types.specs.declared.calls.Call.TheVariants as call
use Rattle.pei_types.specs.declared.calls.EndKind.{EndKind}
use Rattle.pei_types.specs.declared.operations.Letter.{Letter}
use Rattle.pei_types.specs.declared.operations.Letter.TheVariants as letter
use Rattle.pei_types.specs.declared.operations.Op.{Op}
use Rattle.pei_types.specs.declared.operations.Operands.{Operands}
use Rattle.pei_types.specs.declared.operations.Place.TheVariants as place
use Rattle.pei_types.specs.declared.inflight_looks.PeiLook.{PeiLook}
use Rattle.pei_types.specs.declared.inflight_looks.Phase.{Phase}
use Rattle.pei_types.specs.declared.inflight_looks.Phase.TheVariants as phase
use Rattle.pei_types.specs.declared.inflight_looks.StallCause.TheVariants as stall
use Rattle.pei_types.specs.declared.events.Event.{Event}
use Rattle.pei_types.specs.declared.events.EventKind.{EventKind}
use Rattle.pei_types.specs.declared.events.EventKind.TheVariants as event
use Rattle.pei_types.specs.declared.machines.MachineSpec.{MachineSpec}
use Rattle.pei_types.specs.Blocks.{same_core, same_lane, same_pei}
use Rattle.pei_types.specs.Calls.{is_actor_of}
use Rattle.pei_types.specs.MachineState.{State, start_state, next_state, state_after, look_in, look_of, letter_of, mark_of, is_i, is_phase, pei_id, in_phase, with_phase, with_l1_front, after_placing, after_reading, after_acting, after_acting_in, after_taking_back, unfinished_writers, without_l1_line, with_l1_shared}
use Rattle.pei_types.specs.Core.{CoreNext, Calls, Busy, Ended}
use Rattle.pei_types.specs.FlatMemory.{flat_block}
use Rattle.pei_types.specs.Guard.{guard}
use Rattle.pei_types.specs.History.{Pei, issued_peis, pei_issued_by, pei_of}
use Rattle.pei_types.specs.Next.{Makes, Stalls, lane_row, pei_row, enter_row, draining_or, CoreLook, call_row_by, pei_row_by, issue_row, fence_row}
use Rattle.pei_types.specs.Operation.{is_writer}
use Rattle.pei_types.specs.Program.{Contents}
use Rattle.pei_types.specs.Turns.{is_entering}
use Rattle.pei_types.proofs.Identities.{makes_is, core_within, look_core, same_pei_is, same_pei_refl}
use Rattle.pei_types.proofs.Lists.{each_weaker, each_map, each_append, none_pass}
use Rattle.pei_types.proofs.Pushes.{state_after-push, flat_block-push, issued_peis-push}
use Rattle.history_laws.specs.Fits.{EntersFree}
use Rattle.history_laws.specs.TrackedPeis.{as_issued}
use Rattle.coherence_laws.specs.Data.{BlockHolds, next_flat}
use Rattle.coherence_laws.specs.Holdings.{Holdings, data_of, held_copy, start_holdings, next_holdings}
use Rattle.coherence_laws.specs.Invariants.{Invariants, IsAsIssued}
use Rattle.coherence_laws.specs.Laws.{IsNoRace, IsAllowed, KeepsInvariants, KeepsParts, RowsAreAllowed, LanesHoldPeis, FlatMemoryGoesOn}
use Rattle.coherence_laws.specs.Sets.{Each}
use Rattle.machine_laws.specs.Laws.{ContentsAreKept}
use Rattle.machine_laws.specs.Memory.{HoldsMemory, seen_block}
use Rattle.bank_laws.specs.Kept.{BankInvariants, BankInOrder, FitsInBank}
use Rattle.bank_laws.specs.Local.{IsLocal}
use Rattle.bank_laws.specs.Rows.{IsRowOfBank, pei_turn_in, turn_in}
use Rattle.bank_laws.proofs.Main.{name_is}
use Rattle.bank_laws.specs.Own.{new_look}
use Rattle.bank_laws.proofs.Peis.{peis_next, each_next}

-- ---- other counts change nothing else

with_counts : State → List ℕ → State
with_counts s ns = record s { issues = ns }

abbrev counted : State → List ℕ → State
counted s ns = record s { issues = ns }

counts_taking : (m : MachineSpec) (s : State) (ns : List ℕ) (b : BlockNo) (l : Letter) → after_taking_back m (counted s ns) b l ≡ counted (after_taking_back m s b l) ns
counts_taking m s ns b letter.M = refl
counts_taking m s ns b letter.E = refl
counts_taking m s ns b letter.S = refl
counts_taking m s ns b letter.I = refl

counts_placing : (m : MachineSpec) (s : State) (ns : List ℕ) (o : Option PeiLook) → after_placing m (counted s ns) o ≡ counted (after_placing m s o) ns
counts_placing m s ns None = refl
counts_placing m s ns (Some p) = refl

counts_reading : (m : MachineSpec) (s : State) (ns : List ℕ) (o : Option PeiLook) → after_reading m (counted s ns) o ≡ counted (after_reading m s o) ns
counts_reading m s ns None = refl
counts_reading m s ns (Some p) = refl

counts_acting_in : (m : MachineSpec) (s : State) (ns : List ℕ) (p : PeiLook) (ph : Phase) → after_acting_in m (counted s ns) p ph ≡ counted (after_acting_in m s p ph) ns
counts_acting_in m s ns p phase.Read = by (is_writer p.op)
  where
    by : (w : Bool) → (if w then with_l1_front m (counted s ns) p.id.core p.block letter.M else counted s ns) ≡ counted (if w then with_l1_front m s p.id.core p.block letter.M else s) ns
    by true = refl
    by false = refl
counts_acting_in m s ns p phase.Sealed = refl
counts_acting_in m s ns p phase.Issued = refl
counts_acting_in m s ns p phase.Entered = refl
counts_acting_in m s ns p phase.HostPlaced = refl
counts_acting_in m s ns p phase.MemoryPlaced = refl
counts_acting_in m s ns p phase.Acted = refl

counts_acting : (m : MachineSpec) (s : State) (ns : List ℕ) (o : Option PeiLook) → after_acting m (counted s ns) o ≡ counted (after_acting m s o) ns
counts_acting m s ns None = refl
counts_acting m s ns (Some p) = counts_acting_in m s ns p p.phase

-- all but issues
abbrev IsNoIssue : EventKind → Type 0
IsNoIssue (event.Issue seq lane o b operands) = ⊥
IsNoIssue _ = ⊤

counts_next : (m : MachineSpec) (s : State) (ns : List ℕ) (a : Actor) (kind : EventKind) → IsNoIssue kind → next_state m (counted s ns) a kind ≡ counted (next_state m s a kind) ns
counts_next m s ns a (event.Issue seq lane o b operands) other = absurd other
counts_next m s ns a (event.Place seq place.Host) other = ap (λ t. in_phase t (pei_id a seq) phase.HostPlaced) (counts_placing m s ns (look_of s (pei_id a seq)))
counts_next m s ns a (event.Place seq place.Memory) other = ap (λ t. in_phase t (pei_id a seq) phase.MemoryPlaced) (counts_placing m s ns (look_of s (pei_id a seq)))
counts_next m s ns a (event.Read seq) other = ap (λ t. in_phase t (pei_id a seq) phase.Read) (counts_reading m s ns (look_of s (pei_id a seq)))
counts_next m s ns a (event.Act seq reply) other = ap (λ t. in_phase t (pei_id a seq) phase.Acted) (counts_acting m s ns (look_of s (pei_id a seq)))
counts_next m s ns a (event.Invalidate c b) other = ap (λ t. without_l1_line m t c b) (counts_taking m s ns b (letter_of m s c b))
counts_next m s ns a (event.Downgrade c b) other = ap (λ t. with_l1_shared m t c b) (counts_taking m s ns b (letter_of m s c b))
counts_next m s ns a (event.EvictL1 c b) other = ap (λ t. without_l1_line m t c b) (counts_taking m s ns b (letter_of m s c b))
counts_next m s ns a _ other = refl

local_no_issue : (kind : EventKind) → IsLocal kind → IsNoIssue kind
local_no_issue (event.Issue seq lane o b operands) local = absurd local
local_no_issue _ local = tt

-- a guard that reads one bank reads no counts
guard_counts : (m : MachineSpec) (s : State) (ns : List ℕ) (a : Actor) (kind : EventKind) → IsLocal kind → guard m (counted s ns) a kind ≡ guard m s a kind
guard_counts m s ns a (event.Issue seq lane o b operands) local = absurd local
guard_counts m s ns a _ local = refl

race_counts : (s : State) (ns : List ℕ) (kind : EventKind) → IsNoRace (counted s ns) kind → IsNoRace s kind
race_counts s ns (event.Load addr value) h = h
race_counts s ns (event.Store addr value) h = h
race_counts s ns _ h = tt

holdings_counts : (m : MachineSpec) (s : State) (ns : List ℕ) (h : Holdings) (a : Actor) (kind : EventKind) → next_holdings m (counted s ns) h a kind ≡ next_holdings m s h a kind
holdings_counts m s ns h a _ = refl

flat_counts : (s : State) (ns : List ℕ) (memory : BlockNo → Block) (a : Actor) (kind : EventKind) (b : BlockNo) → next_flat (counted s ns) memory a kind b ≡ next_flat s memory a kind b
flat_counts s ns memory a _ b = refl

memory_counted : (m : MachineSpec) (s : State) (ns : List ℕ) (h : Holdings) (memory : BlockNo → Block) → HoldsMemory m s h memory → HoldsMemory m (counted s ns) h memory
memory_counted m s ns h memory k = record { l1 = k.l1; llc = k.llc; current = k.current; buffers = k.buffers }

memory_uncounted : (m : MachineSpec) (s : State) (ns : List ℕ) (h : Holdings) (memory : BlockNo → Block) → HoldsMemory m (counted s ns) h memory → HoldsMemory m s h memory
memory_uncounted m s ns h memory k = record { l1 = k.l1; llc = k.llc; current = k.current; buffers = k.buffers }

-- ---- the rows of a bank are allowed

-- what a local event has of its row
pub record Allowed (m : MachineSpec) (s : State) (a : Actor) (kind : EventKind) : Type 0 where
  pub guarded : guard m s a kind ≡ true
  pub no_race : IsNoRace s kind

uncounted : (m : MachineSpec) (s : State) (ns : List ℕ) (a : Actor) (kind : EventKind) → IsLocal kind → IsAllowed m (counted s ns) a kind → Allowed m s a kind
uncounted m s ns a kind local h = record { guarded = sym (guard_counts m s ns a kind local) ∙ h.guarded; no_race = race_counts s ns kind h.no_race }

by_row : (m : MachineSpec) (s : State) (part : BlockNo → Block) (a : Actor) (kind : EventKind) (b : BankInvariants m s) → RowsAreAllowed → (granted : Bool) (p : PeiLook) (ph : Phase) → p.phase ≡ ph → look_in s a.core a.lane ≡ Some p → IsLocal kind → (IsTrue (is_entering kind) → ⊥) → pei_row m (counted s b.counts) part granted p ph ≡ Makes kind → Allowed m s a kind
by_row m s part a kind b rows granted p ph same here local apart e =
    uncounted m s b.counts a kind local
    (rows.at_lane m (counted s b.counts) part a granted kind b.holds (λ q found entering. absurd (apart entering))
    (ap (lane_row m (counted s b.counts) part granted) here ∙ ap (pei_row m (counted s b.counts) part granted p) same ∙ e))

module _ (m : MachineSpec) (s : State) (look : CoreLook) (part : BlockNo → Block) (a : Actor) (kind : EventKind) (b : BankInvariants m s) (rows : RowsAreAllowed) where
  not_issue : (o : Op) (at : BlockNo) (operands : Operands) (lane : Option Lane) → IsLocal kind → issue_row look.issues o at operands lane ≡ Makes kind → ⊥
  not_issue o at operands None local e = absurd (cc e)
  not_issue o at operands (Some lane) local e = subst IsLocal (sym (makes_is (event.Issue look.issues lane o at operands) kind e)) local

  not_fence : (o : Option (List PeiId)) → IsLocal kind → fence_row o ≡ Makes kind → ⊥
  not_fence (Some []) local e = subst IsLocal (sym (makes_is event.FenceEnd kind e)) local
  not_fence (Some (w ∷ ws)) local e = absurd (cc e)
  not_fence None local e = subst IsLocal (sym (makes_is event.FenceBegin kind e)) local

  not_end : (how : EndKind) (o : Option PeiId) → IsLocal kind → draining_or o (event.End how) ≡ Makes kind → ⊥
  not_end how None local e = subst IsLocal (sym (makes_is (event.End how) kind e)) local
  not_end how (Some p) local e = absurd (cc e)

  call_allowed : (x : Call) → IsLocal kind → call_row_by look m s part a.core x ≡ Makes kind → Allowed m s a kind
  call_allowed (call.Load pc addr) local e = uncounted m s b.counts a kind local (rows.at_call m (counted s b.counts) part a (call.Load pc addr) kind b.holds e)
  call_allowed (call.Store pc addr value) local e = uncounted m s b.counts a kind local (rows.at_call m (counted s b.counts) part a (call.Store pc addr value) kind b.holds e)
  call_allowed (call.Pei o at operands) local e = absurd (not_issue o at operands look.free local e)
  call_allowed call.Fence local e = absurd (not_fence look.fence local e)
  call_allowed (call.Out value) local e = subst (Allowed m s a) (makes_is (event.Out value) kind e) (record { guarded = refl; no_race = tt })
  call_allowed (call.End how) local e = absurd (not_end how look.first_unfinished local e)

  not_enter : (p : PeiLook) (granted : Bool) (o : Option PeiId) → IsLocal kind → enter_row p granted o ≡ Makes kind → ⊥
  not_enter p granted None local e = absurd (cc e)
  not_enter p granted (Some first) local e = by (same_pei first p.id) granted e
    where
      by : (same g : Bool) → (if same then (if g then Makes (event.Enter p.id.seq) else Stalls stall.NeedsGrant) else Stalls (stall.NotOldest first)) ≡ Makes kind → ⊥
      by true true q = subst IsLocal (sym (makes_is (event.Enter p.id.seq) kind q)) local
      by true false q = absurd (cc q)
      by false g q = absurd (cc q)

  -- a local event is no enter
  not_entering : (k : EventKind) → IsLocal k → IsTrue (is_entering k) → ⊥
  not_entering (event.Enter seq) local e = local
  not_entering _ local e = absurd (cc e)

  pei_allowed : (granted : Bool) (p : PeiLook) (ph : Phase) → p.phase ≡ ph → look_in s a.core a.lane ≡ Some p → IsLocal kind → pei_row_by look m s part granted p ph ≡ Makes kind → Allowed m s a kind
  pei_allowed granted p phase.Issued same here local e = absurd (not_enter p granted look.first_unentered local e)
  pei_allowed granted p phase.Entered same here local e = by_row m s part a kind b rows granted p phase.Entered same here local (λ k. not_entering kind local k) e
  pei_allowed granted p phase.HostPlaced same here local e = by_row m s part a kind b rows granted p phase.HostPlaced same here local (λ k. not_entering kind local k) e
  pei_allowed granted p phase.MemoryPlaced same here local e = by_row m s part a kind b rows granted p phase.MemoryPlaced same here local (λ k. not_entering kind local k) e
  pei_allowed granted p phase.Read same here local e = by_row m s part a kind b rows granted p phase.Read same here local (λ k. not_entering kind local k) e
  pei_allowed granted p phase.Sealed same here local e = by_row m s part a kind b rows granted p phase.Sealed same here local (λ k. not_entering kind local k) e
  pei_allowed granted p phase.Acted same here local e = by_row m s part a kind b rows granted p phase.Acted same here local (λ k. not_entering kind local k) e

  pub turn_allowed : (x : CoreNext) (granted : Bool) (l : ℕ) → IsLocal kind → turn_in l x m s look part a granted ≡ Some (Makes kind) → Allowed m s a kind
  turn_allowed (Calls x) granted zero local e = call_allowed x local (same_Some (call_row_by look m s part a.core x) (Makes kind) e)
  turn_allowed (Busy register pei) granted zero local e = absurd (cc e)
  turn_allowed (Ended how) granted zero local e = absurd (cc e)
  turn_allowed x granted (suc l) local e = by (look_in s a.core a.lane) refl (same_Some _ (Makes kind) e)
    where
      by : (o : Option PeiLook) → look_in s a.core a.lane ≡ o → pei_turn_in m s look part granted o ≡ Makes kind → Allowed m s a kind
      by None q r = absurd (cc r)
      by (Some p) q r = pei_allowed granted p p.phase refl q local r

-- ---- the laws that this rests on

pub record RestsOn : Type 0 where
  pub keeps : KeepsInvariants
  pub parts : KeepsParts
  pub rows : RowsAreAllowed
  pub lanes : LanesHoldPeis
  pub contents : ContentsAreKept
  pub flat : FlatMemoryGoesOn

-- ---- the invariants

local_next : RestsOn → (m : MachineSpec) (s : State) (a : Actor) (kind : EventKind) → BankInvariants m s → IsTrue (is_actor_of m a) → IsLocal kind → guard m s a kind ≡ true → BankInvariants m (next_state m s a kind)
local_next rests m s a kind b own local ok =
    record {
      counts = b.counts;
      holds =
          subst (Invariants m) (counts_next m s b.counts a kind (local_no_issue kind local))
          (rests.keeps.next m (counted s b.counts) a kind b.holds own (guard_counts m s b.counts a kind local ∙ ok));
    }

-- counts that are greater by more than a number
grow : ℕ → List ℕ → List ℕ
grow n ns = map (λ k. k + suc n) ns

grow_more : (n : ℕ) (ns : List ℕ) (c : ℕ) → slice_index ns c ≤ slice_index (map (λ k. k + suc n) ns) c
grow_more n [] c = omega arith
grow_more n (k ∷ ns) zero = omega arith
grow_more n (k ∷ ns) (suc c) = grow_more n ns c

grow_above : (n : ℕ) (ns : List ℕ) (c : ℕ) → c < length ns → n < slice_index (map (λ k. k + suc n) ns) c
grow_above n [] c h = absurd (omega (arith, h))
grow_above n (k ∷ ns) zero h = omega arith
grow_above n (k ∷ ns) (suc c) h = grow_above n ns c (omega (arith, h))

issue_next : RestsOn → (m : MachineSpec) (log : List Event) (s : State) (a : Actor) (seq : ℕ) (lane : Lane) (o : Op) (at : BlockNo) (operands : Operands) → BankInvariants m s → Each (IsAsIssued log) s.peis → IsTrue (is_actor_of m a) → 0 < lane.0 → lane.0 ≤ m.buffer → look_in s a.core lane ≡ None → pei_of log (pei_id a seq) ≡ None → BankInvariants m (next_state m s a (event.Issue seq lane o at operands))
issue_next rests m log s a seq lane o at operands b issued own low high free fresh =
    let new : PeiLook = new_look a seq lane o at operands
    in let core : a.core.0 < m.cores = core_within m a own
    in record {
      counts = map (λ k. k + suc seq) b.counts;
      holds =
          rests.parts.added m (counted s b.counts) new (map (λ k. k + suc seq) b.counts) b.holds core low high
          (each_weaker (IsAsIssued log) (λ p. same_pei p.id new.id ≡ false) (λ p h. other p h (same_pei p.id new.id) refl) s.peis issued)
          (none_pass (λ p. same_core p.id.core a.core && same_lane p.lane lane) s.peis free) refl
          (length-map b.counts (λ k. k + suc seq) ∙ b.holds.sizes.issues) (grow_more seq b.counts)
          (grow_above seq b.counts a.core.0 (subst (λ n. a.core.0 < n) (sym b.holds.sizes.issues) core));
    }
  where
    other : (p : PeiLook) → IsAsIssued log p → (t : Bool) → same_pei p.id (pei_id a seq) ≡ t → same_pei p.id (pei_id a seq) ≡ false
    other p h true e = absurd (cc (sym h ∙ ap (pei_of log) (same_pei_is p.id (pei_id a seq) e) ∙ fresh))
    other p h false e = e

-- an enter, by the row of its lane
module _ (rests : RestsOn) (m : MachineSpec) (s : State) (look : CoreLook) (part : BlockNo → Block) (a : Actor) (seq : ℕ) (b : BankInvariants m s) (own : IsTrue (is_actor_of m a)) (free : EntersFree m s a (event.Enter seq)) where
  entered : IsAllowed m (counted s b.counts) a (event.Enter seq) → BankInvariants m (next_state m s a (event.Enter seq))
  entered h = record { counts = b.counts; holds = rests.keeps.next m (counted s b.counts) a (event.Enter seq) b.holds own h.guarded }

  enters_call : (x : Call) → call_row_by look m s part a.core x ≡ Makes (event.Enter seq) → BankInvariants m (next_state m s a (event.Enter seq))
  enters_call (call.Load pc addr) e = entered (rests.rows.at_call m (counted s b.counts) part a (call.Load pc addr) (event.Enter seq) b.holds e)
  enters_call (call.Store pc addr value) e = entered (rests.rows.at_call m (counted s b.counts) part a (call.Store pc addr value) (event.Enter seq) b.holds e)
  enters_call (call.Pei o at operands) e = by look.free e
    where
      by : (l : Option Lane) → issue_row look.issues o at operands l ≡ Makes (event.Enter seq) → BankInvariants m (next_state m s a (event.Enter seq))
      by None q = absurd (cc q)
      by (Some l) q = absurd (cc q)
  enters_call call.Fence e = by look.fence e
    where
      by : (o : Option (List PeiId)) → fence_row o ≡ Makes (event.Enter seq) → BankInvariants m (next_state m s a (event.Enter seq))
      by None q = absurd (cc q)
      by (Some []) q = absurd (cc q)
      by (Some (w ∷ ws)) q = absurd (cc q)
  enters_call (call.Out value) e = absurd (cc e)
  enters_call (call.End how) e = by look.first_unfinished e
    where
      by : (l : Option PeiId) → draining_or l (event.End how) ≡ Makes (event.Enter seq) → BankInvariants m (next_state m s a (event.Enter seq))
      by None q = absurd (cc q)
      by (Some l) q = absurd (cc q)

  enters_row : (granted : Bool) (p : PeiLook) (ph : Phase) → p.phase ≡ ph → look_in s a.core a.lane ≡ Some p → pei_row m (counted s b.counts) part granted p ph ≡ Makes (event.Enter seq) → BankInvariants m (next_state m s a (event.Enter seq))
  enters_row granted p ph same here e =
      entered
      (rests.rows.at_lane m (counted s b.counts) part a granted (event.Enter seq) b.holds (λ q found entering. free q found)
      (ap (lane_row m (counted s b.counts) part granted) here ∙ ap (pei_row m (counted s b.counts) part granted p) same ∙ e))

  enters_first : (granted : Bool) (p : PeiLook) (o : Option PeiId) → p.phase ≡ phase.Issued → look_in s a.core a.lane ≡ Some p → enter_row p granted o ≡ Makes (event.Enter seq) → BankInvariants m (next_state m s a (event.Enter seq))
  enters_first granted p None same here e = absurd (cc e)
  enters_first granted p (Some first) same here e = by (same_pei first p.id) granted e
    where
      by : (t g : Bool) → (if t then (if g then Makes (event.Enter p.id.seq) else Stalls stall.NeedsGrant) else Stalls (stall.NotOldest first)) ≡ Makes (event.Enter seq) → BankInvariants m (next_state m s a (event.Enter seq))
      by true true q =
          let number : p.id.seq ≡ seq = cc
          in let core : p.id.core ≡ a.core = look_core s a.core a.lane p here
          in let named : p.id ≡ pei_id a seq = subst (λ n. p.id ≡ pei_id a n) number (name_is p.id a.core core)
          in let looked : look_of s (pei_id a seq) ≡ Some p = subst (λ id. look_of s id ≡ Some p) named (rests.lanes.named m (counted s b.counts) a.core a.lane p b.holds here)
          in record {
            counts = b.counts;
            holds = rests.parts.entered m (counted s b.counts) (pei_id a seq) p b.holds looked (ap (λ ph. is_phase ph phase.Issued) same) (free p here);
          }
      by true false q = absurd (cc q)
      by false g q = absurd (cc q)

  enters_pei : (granted : Bool) (p : PeiLook) (ph : Phase) → p.phase ≡ ph → look_in s a.core a.lane ≡ Some p → pei_row_by look m s part granted p ph ≡ Makes (event.Enter seq) → BankInvariants m (next_state m s a (event.Enter seq))
  enters_pei granted p phase.Issued same here e = enters_first granted p look.first_unentered same here e
  enters_pei granted p phase.Entered same here e = enters_row granted p phase.Entered same here e
  enters_pei granted p phase.HostPlaced same here e = enters_row granted p phase.HostPlaced same here e
  enters_pei granted p phase.MemoryPlaced same here e = enters_row granted p phase.MemoryPlaced same here e
  enters_pei granted p phase.Read same here e = enters_row granted p phase.Read same here e
  enters_pei granted p phase.Sealed same here e = enters_row granted p phase.Sealed same here e
  enters_pei granted p phase.Acted same here e = enters_row granted p phase.Acted same here e

  pub enter_next : (x : CoreNext) (granted : Bool) (l : ℕ) → turn_in l x m s look part a granted ≡ Some (Makes (event.Enter seq)) → BankInvariants m (next_state m s a (event.Enter seq))
  enter_next (Calls x) granted zero e = enters_call x (same_Some (call_row_by look m s part a.core x) (Makes (event.Enter seq)) e)
  enter_next (Busy register pei) granted zero e = absurd (cc e)
  enter_next (Ended how) granted zero e = absurd (cc e)
  enter_next x granted (suc l) e = by (look_in s a.core a.lane) refl (same_Some _ (Makes (event.Enter seq)) e)
    where
      by : (o : Option PeiLook) → look_in s a.core a.lane ≡ o → pei_turn_in m s look part granted o ≡ Makes (event.Enter seq) → BankInvariants m (next_state m s a (event.Enter seq))
      by None q r = absurd (cc r)
      by (Some p) q r = enters_pei granted p p.phase refl q r

-- ---- one event

-- what is left to say of an event beside its row
abbrev FitsState : MachineSpec → List Event → State → Actor → EventKind → Type 0
FitsState m log s a (event.Issue seq lane o b operands) = (0 < lane.0) × (lane.0 ≤ m.buffer) × (look_in s a.core lane ≡ None) × (pei_of log (pei_id a seq) ≡ None)
FitsState m log s a (event.Enter seq) = EntersFree m s a (event.Enter seq)
FitsState m log s a _ = ⊤

by_guard : RestsOn → (m : MachineSpec) (s : State) (look : CoreLook) (part : BlockNo → Block) (a : Actor) (kind : EventKind) (x : CoreNext) (granted : Bool) → BankInvariants m s → IsTrue (is_actor_of m a) → IsLocal kind → turn_in a.lane.0 x m s look part a granted ≡ Some (Makes kind) → BankInvariants m (next_state m s a kind)
by_guard rests m s look part a kind x granted b own local e = local_next rests m s a kind b own local (turn_allowed m s look part a kind b rests.rows x granted a.lane.0 local e).guarded

pub invariants_next : RestsOn → (m : MachineSpec) (log : List Event) (s : State) (look : CoreLook) (part : BlockNo → Block) (a : Actor) (kind : EventKind) (x : CoreNext) (granted : Bool) → BankInvariants m s → Each (IsAsIssued log) s.peis → IsTrue (is_actor_of m a) → FitsState m log s a kind → turn_in a.lane.0 x m s look part a granted ≡ Some (Makes kind) → BankInvariants m (next_state m s a kind)
invariants_next rests m log s look part a (event.Issue seq lane o at operands) x granted b issued own fits e = issue_next rests m log s a seq lane o at operands b issued own fits.0 fits.1 fits.2 fits.3
invariants_next rests m log s look part a (event.Enter seq) x granted b issued own fits e = enter_next rests m s look part a seq b own fits x granted a.lane.0 e
invariants_next rests m log s look part a event.FenceBegin x granted b issued own fits e = record { counts = b.counts; holds = rests.parts.fenced m (counted s b.counts) a.core (Some (unfinished_writers s)) b.holds }
invariants_next rests m log s look part a event.FenceEnd x granted b issued own fits e = record { counts = b.counts; holds = rests.parts.fenced m (counted s b.counts) a.core None b.holds }
invariants_next rests m log s look part a (event.End how) x granted b issued own fits e = b
invariants_next rests m log s look part a (event.Load addr value) x granted b issued own fits e = by_guard rests m s look part a (event.Load addr value) x granted b own tt e
invariants_next rests m log s look part a (event.Store addr value) x granted b issued own fits e = by_guard rests m s look part a (event.Store addr value) x granted b own tt e
invariants_next rests m log s look part a (event.Out value) x granted b issued own fits e = by_guard rests m s look part a (event.Out value) x granted b own tt e
invariants_next rests m log s look part a (event.Race pc at by) x granted b issued own fits e = by_guard rests m s look part a (event.Race pc at by) x granted b own tt e
invariants_next rests m log s look part a (event.Place seq where_to) x granted b issued own fits e = by_guard rests m s look part a (event.Place seq where_to) x granted b own tt e
invariants_next rests m log s look part a (event.Read seq) x granted b issued own fits e = by_guard rests m s look part a (event.Read seq) x granted b own tt e
invariants_next rests m log s look part a (event.Seal seq vault) x granted b issued own fits e = by_guard rests m s look part a (event.Seal seq vault) x granted b own tt e
invariants_next rests m log s look part a (event.Act seq reply) x granted b issued own fits e = by_guard rests m s look part a (event.Act seq reply) x granted b own tt e
invariants_next rests m log s look part a (event.Leave seq) x granted b issued own fits e = by_guard rests m s look part a (event.Leave seq) x granted b own tt e
invariants_next rests m log s look part a (event.Invalidate c at) x granted b issued own fits e = by_guard rests m s look part a (event.Invalidate c at) x granted b own tt e
invariants_next rests m log s look part a (event.Downgrade c at) x granted b issued own fits e = by_guard rests m s look part a (event.Downgrade c at) x granted b own tt e
invariants_next rests m log s look part a (event.EvictL1 c at) x granted b issued own fits e = by_guard rests m s look part a (event.EvictL1 c at) x granted b own tt e
invariants_next rests m log s look part a (event.Clean at) x granted b issued own fits e = by_guard rests m s look part a (event.Clean at) x granted b own tt e
invariants_next rests m log s look part a (event.EvictLlc at) x granted b issued own fits e = by_guard rests m s look part a (event.EvictLlc at) x granted b own tt e
invariants_next rests m log s look part a (event.Fill at) x granted b issued own fits e = by_guard rests m s look part a (event.Fill at) x granted b own tt e
invariants_next rests m log s look part a (event.GrantS at) x granted b issued own fits e = by_guard rests m s look part a (event.GrantS at) x granted b own tt e
invariants_next rests m log s look part a (event.GrantE at) x granted b issued own fits e = by_guard rests m s look part a (event.GrantE at) x granted b own tt e
invariants_next rests m log s look part a (event.GrantM at) x granted b issued own fits e = by_guard rests m s look part a (event.GrantM at) x granted b own tt e

-- ---- PEIs as they were issued

pei_more : (log : List Event) (e : Event) (id : PeiId) → pei_of (log ++ e ∷ []) id ≡ find (λ p. same_pei p.id id) (issued_peis log ++ cons_option (pei_issued_by e.actor e.kind) [])
pei_more log e id = ap (find (λ p. same_pei p.id id)) (issued_peis-push log e)

pei_stays_found : (log : List Event) (e : Event) (p : Pei) → pei_of log p.id ≡ Some p → pei_of (log ++ e ∷ []) p.id ≡ Some p
pei_stays_found log e p h = pei_more log e p.id ∙ find-append (λ q. same_pei q.id p.id) (issued_peis log) (cons_option (pei_issued_by e.actor e.kind) []) ∙ rw h refl

issued_next : (m : MachineSpec) (log : List Event) (s : State) (e : Event) → FitsState m log s e.actor e.kind → Each (IsAsIssued log) s.peis → Each (IsAsIssued (log ++ e ∷ [])) (next_state m s e.actor e.kind).peis
issued_next m log s e fits h =
    subst (Each (IsAsIssued (log ++ e ∷ []))) (sym (peis_next m s e.actor e.kind))
    (each_next (λ p. pei_of (log ++ e ∷ []) p.id ≡ Some p) e.actor e.kind s.peis
    (each_weaker (IsAsIssued log) (λ p. pei_of (log ++ e ∷ []) p.id ≡ Some (as_issued p)) (λ p k. pei_stays_found log e (as_issued p) k) s.peis h)
    (new e.kind fits refl))
  where
    new : (kind : EventKind) → FitsState m log s e.actor kind → e.kind ≡ kind → IfSome (pei_issued_by e.actor kind) (λ p. pei_of (log ++ e ∷ []) p.id ≡ Some p)
    new (event.Issue seq lane o b operands) f same =
        pei_more log e (pei_id e.actor seq)
        ∙ ap (λ k. find (λ p. same_pei p.id (pei_id e.actor seq)) (issued_peis log ++ cons_option (pei_issued_by e.actor k) [])) same
        ∙ find-append (λ q. same_pei q.id (pei_id e.actor seq)) (issued_peis log) (cons_option (pei_issued_by e.actor (event.Issue seq lane o b operands)) [])
        ∙ rw (f.3, same_pei_refl (pei_id e.actor seq)) refl
    new _ f same = tt

-- ---- memory

memory_same : (m : MachineSpec) (s : State) (h : Holdings) (f g : BlockNo → Block) → ((b : BlockNo) → g b ≡ f b) → HoldsMemory m s h f → HoldsMemory m s h g
memory_same m s h f g same k =
    record {
      l1 = k.l1;
      llc = k.llc;
      current = λ b. subst (λ content. BlockHolds (λ c. letter_of m s c b) (mark_of m s b) (λ c. (data_of m h).copy c b) ((data_of m h).line b) ((data_of m h).vault b) content) (sym (same b)) (k.current b);
      buffers = each_weaker (λ p. is_phase p.phase phase.Read ≡ true → h.buffer p.id ≡ f p.block) (λ p. is_phase p.phase phase.Read ≡ true → h.buffer p.id ≡ g p.block) (λ p r read. r read ∙ sym (same p.block)) s.peis k.buffers;
    }

-- of a local event
memory_local : RestsOn → (m : MachineSpec) (image : Contents) (log : List Event) (h : Holdings) (a : Actor) (kind : EventKind) → BankInOrder m image log h → IsTrue (is_actor_of m a) → IsLocal kind → Allowed m (state_after m log) a kind → HoldsMemory m (next_state m (state_after m log) a kind) (next_holdings m (state_after m log) h a kind) (flat_block image (log ++ record { actor = a; kind = kind } ∷ []))
memory_local rests m image log h a kind order own local ok =
    let s : State = state_after m log
    in let ns : List ℕ = order.invariants.counts
    in let memory : BlockNo → Block = flat_block image log
    in let next : HoldsMemory m (next_state m (counted s ns) a kind) (next_holdings m (counted s ns) h a kind) (next_flat (counted s ns) memory a kind) =
    rests.contents.next m (counted s ns) h memory a kind order.invariants.holds own (guard_counts m s ns a kind local ∙ ok.guarded) (race_counted s ns kind ok.no_race) (memory_counted m s ns h memory order.memory)
    in let moved : HoldsMemory m (counted (next_state m s a kind) ns) (next_holdings m (counted s ns) h a kind) (next_flat (counted s ns) memory a kind) =
    subst (λ t. HoldsMemory m t (next_holdings m (counted s ns) h a kind) (next_flat (counted s ns) memory a kind)) (counts_next m s ns a kind (local_no_issue kind local)) next
    in let held : HoldsMemory m (counted (next_state m s a kind) ns) (next_holdings m s h a kind) (next_flat (counted s ns) memory a kind) =
    subst (λ g. HoldsMemory m (counted (next_state m s a kind) ns) g (next_flat (counted s ns) memory a kind)) (holdings_counts m s ns h a kind) moved
    in memory_same m (next_state m s a kind) (next_holdings m s h a kind) (next_flat (counted s ns) memory a kind) (flat_block image (log ++ record { actor = a; kind = kind } ∷ []))
    (λ b. rests.flat m image log a kind b order.issued ok.guarded ∙ sym (flat_counts s ns memory a kind b))
    (memory_uncounted m (next_state m s a kind) ns (next_holdings m s h a kind) (next_flat (counted s ns) memory a kind) held)
  where
    race_counted : (t : State) (counts : List ℕ) (k : EventKind) → IsNoRace t k → IsNoRace (counted t counts) k
    race_counted t counts (event.Load addr value) r = r
    race_counted t counts (event.Store addr value) r = r
    race_counted t counts _ r = tt

-- of an issue, an enter, a fence and an end, which change no memory
memory_wide : (m : MachineSpec) (image : Contents) (log : List Event) (h : Holdings) (a : Actor) (kind : EventKind) → (IsLocal kind → ⊥) → HoldsMemory m (state_after m log) h (flat_block image log) → HoldsMemory m (next_state m (state_after m log) a kind) (next_holdings m (state_after m log) h a kind) (flat_block image (log ++ record { actor = a; kind = kind } ∷ []))
memory_wide m image log h a (event.Issue seq lane o at operands) wide k =
    let s : State = state_after m log
    in memory_same m (next_state m s a (event.Issue seq lane o at operands)) h (flat_block image log) (flat_block image (log ++ record { actor = a; kind = event.Issue seq lane o at operands } ∷ [])) (λ b. flat_block-push image log (record { actor = a; kind = event.Issue seq lane o at operands }) b)
    (record { l1 = k.l1; llc = k.llc; current = k.current; buffers = each_append (λ p. is_phase p.phase phase.Read ≡ true → h.buffer p.id ≡ flat_block image log p.block) s.peis (new_look a seq lane o at operands ∷ []) k.buffers (λ read. absurd (cc read), tt) })
memory_wide m image log h a (event.Enter seq) wide k =
    let s : State = state_after m log
    in memory_same m (next_state m s a (event.Enter seq)) h (flat_block image log) (flat_block image (log ++ record { actor = a; kind = event.Enter seq } ∷ [])) (λ b. flat_block-push image log (record { actor = a; kind = event.Enter seq }) b)
    (record {
      l1 = k.l1;
      llc = k.llc;
      current = k.current;
      buffers = each_map (λ p. is_phase p.phase phase.Read ≡ true → h.buffer p.id ≡ flat_block image log p.block) (λ p. is_phase p.phase phase.Read ≡ true → h.buffer p.id ≡ flat_block image log p.block) (with_phase (pei_id a seq) phase.Entered) (λ p r. by p r (same_pei p.id (pei_id a seq))) s.peis k.buffers;
    })
  where
    by : (p : PeiLook) → (is_phase p.phase phase.Read ≡ true → h.buffer p.id ≡ flat_block image log p.block) → (t : Bool) → is_phase (if t then record p { phase = phase.Entered } else p).phase phase.Read ≡ true → h.buffer (if t then record p { phase = phase.Entered } else p).id ≡ flat_block image log (if t then record p { phase = phase.Entered } else p).block
    by p r true read = absurd (cc read)
    by p r false read = r read
memory_wide m image log h a event.FenceBegin wide k =
    let s : State = state_after m log
    in memory_same m (next_state m s a event.FenceBegin) h (flat_block image log) (flat_block image (log ++ record { actor = a; kind = event.FenceBegin } ∷ [])) (λ b. flat_block-push image log (record { actor = a; kind = event.FenceBegin }) b) (record { l1 = k.l1; llc = k.llc; current = k.current; buffers = k.buffers })
memory_wide m image log h a event.FenceEnd wide k =
    let s : State = state_after m log
    in memory_same m (next_state m s a event.FenceEnd) h (flat_block image log) (flat_block image (log ++ record { actor = a; kind = event.FenceEnd } ∷ [])) (λ b. flat_block-push image log (record { actor = a; kind = event.FenceEnd }) b) (record { l1 = k.l1; llc = k.llc; current = k.current; buffers = k.buffers })
memory_wide m image log h a (event.End how) wide k =
    memory_same m (state_after m log) h (flat_block image log) (flat_block image (log ++ record { actor = a; kind = event.End how } ∷ [])) (λ b. flat_block-push image log (record { actor = a; kind = event.End how }) b) k
memory_wide m image log h a _ wide k = absurd (wide tt)

-- ---- a bank goes on

is_wide : (kind : EventKind) → IsLocal kind ⊎ (IsLocal kind → ⊥)
is_wide (event.Issue seq lane o b operands) = inr (λ h. h)
is_wide event.FenceBegin = inr (λ h. h)
is_wide event.FenceEnd = inr (λ h. h)
is_wide (event.End how) = inr (λ h. h)
is_wide (event.Enter seq) = inr (λ h. h)
is_wide _ = inl tt

fits_state : (m : MachineSpec) (log : List Event) (a : Actor) (kind : EventKind) → FitsInBank m log a kind → FitsState m log (state_after m log) a kind
fits_state m log a (event.Issue seq lane o b operands) h = h
fits_state m log a (event.Enter seq) h = h
fits_state m log a _ h = tt

pub bank_at_start : RestsOn → (m : MachineSpec) (image : Contents) → BankInOrder m image [] (start_holdings m image)
bank_at_start rests m image =
    record {
      invariants = record { counts = (start_state m).issues; holds = rests.keeps.start m };
      issued = tt;
      memory = rests.contents.start m image;
    }

pub bank_goes_on : RestsOn → (m : MachineSpec) (image : Contents) (k : ℕ) (log : List Event) (h : Holdings) (e : Event) → BankInOrder m image log h → IsTrue (is_actor_of m e.actor) → IsRowOfBank m image k log e → FitsInBank m log e.actor e.kind → BankInOrder m image (log ++ e ∷ []) (next_holdings m (state_after m log) h e.actor e.kind)
bank_goes_on rests m image k log h e order own row fits =
    let s : State = state_after m log
    in let fit = fits_state m log e.actor e.kind fits
    in let part : BlockNo → Block = flat_block image log
    in record {
      invariants = subst (BankInvariants m) (sym (state_after-push m log e)) (invariants_next rests m log s row.look part e.actor e.kind row.next (is_entering e.kind) order.invariants order.issued own fit row.row);
      issued = subst (λ t. Each (IsAsIssued (log ++ e ∷ [])) t.peis) (sym (state_after-push m log e)) (issued_next m log s e fit order.issued);
      memory = subst (λ t. HoldsMemory m t (next_holdings m s h e.actor e.kind) (flat_block image (log ++ e ∷ []))) (sym (state_after-push m log e)) (memory (is_wide e.kind));
    }
  where
    memory : IsLocal e.kind ⊎ (IsLocal e.kind → ⊥) → HoldsMemory m (next_state m (state_after m log) e.actor e.kind) (next_holdings m (state_after m log) h e.actor e.kind) (flat_block image (log ++ e ∷ []))
    memory (inl local) = memory_local rests m image log h e.actor e.kind order own local (turn_allowed m (state_after m log) row.look (flat_block image log) e.actor e.kind order.invariants rests.rows row.next (is_entering e.kind) e.actor.lane.0 local row.row)
    memory (inr wide) = memory_wide m image log h e.actor e.kind wide order.memory

-- the guard of a row that reads one bank
pub row_guarded : RestsOn → (m : MachineSpec) (image : Contents) (k : ℕ) (log : List Event) (h : Holdings) (e : Event) → BankInOrder m image log h → IsRowOfBank m image k log e → IsLocal e.kind → IsTrue (guard m (state_after m log) e.actor e.kind) × IsNoRace (state_after m log) e.kind
row_guarded rests m image k log h e order row local =
    let r = turn_allowed m (state_after m log) row.look (flat_block image log) e.actor e.kind order.invariants rests.rows row.next (is_entering e.kind) e.actor.lane.0 local row.row
    in (r.guarded, r.no_race)

-- ---- what is read

pub bank_copies : RestsOn → (m : MachineSpec) (image : Contents) (log : List Event) (h : Holdings) (c : CoreId) (b : BlockNo) → BankInOrder m image log h → is_i (letter_of m (state_after m log) c b) ≡ false → held_copy m h c b ≡ flat_block image log b
bank_copies rests m image log h c b order there =
    rests.contents.copies m (counted (state_after m log) order.invariants.counts) h (flat_block image log) c b order.invariants.holds (memory_counted m (state_after m log) order.invariants.counts h (flat_block image log) order.memory) there

pub bank_seen : RestsOn → (m : MachineSpec) (image : Contents) (log : List Event) (h : Holdings) (b : BlockNo) → BankInOrder m image log h → seen_block m (state_after m log) h b ≡ flat_block image log b
bank_seen rests m image log h b order =
    rests.contents.seen m (counted (state_after m log) order.invariants.counts) h (flat_block image log) b order.invariants.holds (memory_counted m (state_after m log) order.invariants.counts h (flat_block image log) order.memory)

pub bank_buffers : RestsOn → (m : MachineSpec) (image : Contents) (log : List Event) (h : Holdings) (id : PeiId) (p : PeiLook) → BankInOrder m image log h → look_of (state_after m log) id ≡ Some p → is_phase p.phase phase.Read ≡ true → h.buffer p.id ≡ flat_block image log p.block
bank_buffers rests m image log h id p order found read = rests.contents.buffers m (state_after m log) h (flat_block image log) id p order.memory found read

pub bank_vaults : RestsOn → (m : MachineSpec) (image : Contents) (log : List Event) (h : Holdings) (id : PeiId) (p : PeiLook) → BankInOrder m image log h → look_of (state_after m log) id ≡ Some p → is_phase p.phase phase.Sealed ≡ true → h.vault p.block ≡ flat_block image log p.block
bank_vaults rests m image log h id p order found sealed =
    rests.contents.vaults m (counted (state_after m log) order.invariants.counts) h (flat_block image log) id p order.invariants.holds (memory_counted m (state_after m log) order.invariants.counts h (flat_block image log) order.memory) found sealed
