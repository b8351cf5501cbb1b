-- Rows stay in their bank: each message, and each victim, is of the bank of the block that is wanted.
use Rattle.std.proofs.Common.{◌≡◌, ℕ, ◌%◌, Bool, true, false, not, ◌||◌, List, [], ◌∷◌, Option, Some, None, refl, ◌∙◌}
use Rattle.std.specs.Prelude.{⊤, if◌then◌else◌, slice_get, slice_index}
use Rattle.pei_types.specs.declared.identifiers.Actor.{Actor}
use Rattle.pei_types.specs.declared.identifiers.Block.{Block}
use Rattle.pei_types.specs.declared.identifiers.BlockNo.{BlockNo}
use Rattle.pei_types.specs.declared.identifiers.CoreId.{CoreId}
use Rattle.pei_types.specs.declared.identifiers.Lane.{Lane}
use Rattle.pei_types.specs.declared.identifiers.PeiId.{PeiId}
use Rattle.pei_types.specs.declared.calls.Call.{Call}
use Rattle.pei_types.specs.declared.calls.Call.TheVariants as call
use Rattle.pei_types.specs.declared.operations.Op.{Op}
use Rattle.pei_types.specs.declared.operations.Operands.{Operands}
use Rattle.pei_types.specs.declared.inflight_looks.PeiLook.{PeiLook}
use Rattle.pei_types.specs.declared.inflight_looks.Phase.{Phase}
use Rattle.pei_types.specs.declared.inflight_looks.Phase.TheVariants as phase
use Rattle.pei_types.specs.declared.inflight_looks.StallCause.TheVariants as stall
use Rattle.pei_types.specs.declared.events.EventKind.{EventKind}
use Rattle.pei_types.specs.declared.events.EventKind.TheVariants as event
use Rattle.pei_types.specs.declared.machines.MachineSpec.{MachineSpec}
use Rattle.pei_types.specs.Blocks.{block_of, word_of, same_pei, l1_set_of, vault_of}
use Rattle.pei_types.specs.MachineState.{State, Line, LlcLine, letter_of, mark_of, is_i, is_owned, is_absent, is_dirty, is_clean, free_lane, first_unentered, first_unfinished, conflict, is_sealed, queue_of, queue_is_full, fence_of, l1_set, llc_set, no_other_has, pei_id}
use Rattle.pei_types.specs.Core.{Calls}
use Rattle.pei_types.specs.Guard.{letter_serves}
use Rattle.pei_types.specs.Next.{Turn, Makes, Stalls, holder, other_holder, owner, other_owner, evict, bring_in, grant, grant_modify, grant_shared, make_room, l1_victim, want, race_or, issue_row, fence_row, draining_or, call_row, enter_row, seal_writer, seal_reader, seal_row, act_kind, head_row, may_act, pei_row}
use Rattle.pei_types.specs.Operation.{is_writer}
use Rattle.pei_types.specs.Recency.{victim}
use Rattle.coherence_laws.specs.Invariants.{HasSets, IsLineOf}
use Rattle.bank_laws.specs.Banks.{HasBanks, Stands, bank_of}
use Rattle.bank_laws.specs.Rows.{IsCallOf}
use Rattle.bank_laws.proofs.Splits.{bank_by_l1_set, bank_of_vault}
use Rattle.bank_laws.proofs.Locality.{victim_has, victim_in_bank}

-- the event of a turn, where there is one, stands in the bank
abbrev pub TurnStands : MachineSpec → ℕ → (PeiId → Type 0) → Actor → Turn → Type 0
TurnStands m k Has a (Makes kind) = Stands m k Has a kind
TurnStands m k Has a (Stalls cause) = ⊤

either : (m : MachineSpec) (k : ℕ) (Has : PeiId → Type 0) (a : Actor) (b : Bool) (x y : EventKind) → Stands m k Has a x → Stands m k Has a y → Stands m k Has a (if b then x else y)
either m k Has a true x y h g = h
either m k Has a false x y h g = g

module _ (m : MachineSpec) (k : ℕ) (Has : PeiId → Type 0) (a : Actor) where
  evict_stays : (s : State) (v : BlockNo) (o : Option CoreId) → bank_of m v ≡ k → Stands m k Has a (evict m s v o)
  evict_stays s v (Some c) own = own
  evict_stays s v None own = either m k Has a (is_dirty (mark_of m s v)) (event.Clean v) (event.EvictLlc v) own own

  bring_in_stays : (s : State) (b : BlockNo) (o : Option LlcLine) → HasBanks m → HasSets m s → bank_of m b ≡ k → victim m.llc_ways (llc_set m s b) ≡ o → Stands m k Has a (bring_in m s b o)
  bring_in_stays s b None banks sets own e = own
  bring_in_stays s b (Some line) banks sets own e = evict_stays s line.block (holder m s line.block) (victim_in_bank m s b line banks sets e ∙ own)

  grant_stays : (s : State) (c : CoreId) (b : BlockNo) (modify : Bool) → bank_of m b ≡ k → Stands m k Has a (grant m s c b modify)
  grant_stays s c b true own = by (other_holder m s c b)
    where
      by : (o : Option CoreId) → Stands m k Has a (grant_modify b o)
      by (Some d) = own
      by None = own
  grant_stays s c b false own = by (other_owner m s c b)
    where
      by : (o : Option CoreId) → Stands m k Has a (grant_shared m s c b o)
      by (Some d) = own
      by None = either m k Has a (not (no_other_has m s c b) || is_sealed s b) (event.GrantS b) (event.GrantE b) own own

  -- the victim of a private cache is of the same bank
  l1_victim_in_bank : (s : State) (c : CoreId) (b : BlockNo) (line : Line) → HasBanks m → HasSets m s → l1_victim m s c b ≡ Some line → bank_of m line.block ≡ bank_of m b
  l1_victim_in_bank s c b line banks sets e = by (is_i (letter_of m s c b)) e
    where
      by : (t : Bool) → (if t then victim m.l1_ways (l1_set m s c b) else None) ≡ Some line → bank_of m line.block ≡ bank_of m b
      by true g = bank_by_l1_set m line.block b banks (victim_has (IsLineOf m (l1_set_of m b)) m.l1_ways (l1_set m s c b) line (sets.l1 c.0 (l1_set_of m b)).each g).0
      by false g = absurd (cc g)

  make_room_stays : (s : State) (c : CoreId) (b : BlockNo) (modify : Bool) (o : Option Line) → HasBanks m → HasSets m s → bank_of m b ≡ k → l1_victim m s c b ≡ o → Stands m k Has a (make_room m s c b modify o)
  make_room_stays s c b modify (Some line) banks sets own e = l1_victim_in_bank s c b line banks sets e ∙ own
  make_room_stays s c b modify None banks sets own e = grant_stays s c b modify own

  pub want_stays : (s : State) (c : CoreId) (b : BlockNo) (modify : Bool) → HasBanks m → HasSets m s → bank_of m b ≡ k → Stands m k Has a (want m s c b modify)
  want_stays s c b modify banks sets own =
      either m k Has a (is_absent (mark_of m s b)) (bring_in m s b (victim m.llc_ways (llc_set m s b))) (make_room m s c b modify (l1_victim m s c b))
      (bring_in_stays s b (victim m.llc_ways (llc_set m s b)) banks sets own refl) (make_room_stays s c b modify (l1_victim m s c b) banks sets own refl)

  race_stays : (o : Option PeiId) (pc : ℕ) (b : BlockNo) (kind : EventKind) → bank_of m b ≡ k → Stands m k Has a kind → Stands m k Has a (race_or o pc b kind)
  race_stays None pc b kind own h = h
  race_stays (Some by) pc b kind own h = own

  issue_stays : (s : State) (c : CoreId) (o : Op) (b : BlockNo) (operands : Operands) (lane : Option Lane) → bank_of m b ≡ k → TurnStands m k Has a (issue_row (slice_index s.issues c.0) o b operands lane)
  issue_stays s c o b operands None own = tt
  issue_stays s c o b operands (Some lane) own = own

  -- the row of a call that is made in the bank
  pub call_stays : (s : State) (content : BlockNo → Block) (c : CoreId) (x : Call) → HasBanks m → HasSets m s → IsCallOf m k (Calls x) → TurnStands m k Has a (call_row m s content c x)
  call_stays s content c (call.Load pc addr) banks sets own =
      race_stays (conflict s (block_of addr) false) pc (block_of addr) _ own
      (either m k Has a (is_i (letter_of m s c (block_of addr))) (want m s c (block_of addr) false) (event.Load addr (slice_index (content (block_of addr)).0 (word_of addr))) (want_stays s c (block_of addr) false banks sets own) own)
  call_stays s content c (call.Store pc addr value) banks sets own =
      race_stays (conflict s (block_of addr) true) pc (block_of addr) _ own
      (either m k Has a (is_owned (letter_of m s c (block_of addr))) (event.Store addr value) (want m s c (block_of addr) true) own (want_stays s c (block_of addr) true banks sets own))
  call_stays s content c (call.Pei o b operands) banks sets own = issue_stays s c o b operands (free_lane m s c) own
  call_stays s content c call.Fence banks sets own = by (fence_of s c)
    where
      by : (o : Option (List PeiId)) → TurnStands m k Has a (fence_row o)
      by None = tt
      by (Some []) = tt
      by (Some (p ∷ ps)) = tt
  call_stays s content c (call.Out value) banks sets own = tt
  call_stays s content c (call.End kind) banks sets own = by (first_unfinished s c)
    where
      by : (o : Option PeiId) → TurnStands m k Has a (draining_or o (event.End kind))
      by None = tt
      by (Some p) = tt

  -- ---- a PEI of the bank

  enter_stays : (p : PeiLook) (granted : Bool) (o : Option PeiId) → Has (pei_id a p.id.seq) → TurnStands m k Has a (enter_row p granted o)
  enter_stays p granted None has = tt
  enter_stays p granted (Some first) has = by (same_pei first p.id) granted
    where
      by : (same g : Bool) → TurnStands m k Has a (if same then (if g then Makes (event.Enter p.id.seq) else Stalls stall.NeedsGrant) else Stalls (stall.NotOldest first))
      by true true = has
      by true false = tt
      by false g = tt

  seal_stays : (s : State) (p : PeiLook) → HasBanks m → bank_of m p.block ≡ k → Has (pei_id a p.id.seq) → TurnStands m k Has a (seal_row m s p)
  seal_stays s p banks own has = by (queue_is_full m s (vault_of m p.block))
    where
      sealed : Has (pei_id a p.id.seq) × (vault_of m p.block % m.banks ≡ k)
      sealed = (has, bank_of_vault m p.block banks ∙ own)

      writer : (o : Option CoreId) → Stands m k Has a (seal_writer m s p o)
      writer (Some c) = own
      writer None =
          either m k Has a (is_dirty (mark_of m s p.block)) (event.Clean p.block) (if is_clean (mark_of m s p.block) then event.EvictLlc p.block else event.Seal p.id.seq (vault_of m p.block)) own
          (either m k Has a (is_clean (mark_of m s p.block)) (event.EvictLlc p.block) (event.Seal p.id.seq (vault_of m p.block)) own sealed)

      reader : (o : Option CoreId) → Stands m k Has a (seal_reader m s p o)
      reader (Some c) = own
      reader None = either m k Has a (is_dirty (mark_of m s p.block)) (event.Clean p.block) (event.Seal p.id.seq (vault_of m p.block)) own sealed

      by : (full : Bool) → TurnStands m k Has a (if full then Stalls (stall.VaultFull (vault_of m p.block)) else Makes (if is_writer p.op then seal_writer m s p (holder m s p.block) else seal_reader m s p (owner m s p.block)))
      by true = tt
      by false = either m k Has a (is_writer p.op) (seal_writer m s p (holder m s p.block)) (seal_reader m s p (owner m s p.block)) (writer (holder m s p.block)) (reader (owner m s p.block))

  head_stays : (content : BlockNo → Block) (p : PeiLook) (o : Option PeiId) → Has (pei_id a p.id.seq) → TurnStands m k Has a (head_row content p o)
  head_stays content p None has = tt
  head_stays content p (Some head) has = by (same_pei head p.id)
    where
      by : (same : Bool) → TurnStands m k Has a (if same then Makes (act_kind content p) else Stalls (stall.NotHead head))
      by true = has
      by false = tt

  -- the row of a PEI of the bank
  pub pei_stays : (s : State) (content : BlockNo → Block) (granted : Bool) (p : PeiLook) (ph : Phase) → HasBanks m → HasSets m s → bank_of m p.block ≡ k → Has (pei_id a p.id.seq) → TurnStands m k Has a (pei_row m s content granted p ph)
  pei_stays s content granted p phase.Issued banks sets own has = enter_stays p granted (first_unentered s p.id.core) has
  pei_stays s content granted p phase.Entered banks sets own has = has
  pei_stays s content granted p phase.HostPlaced banks sets own has =
      either m k Has a (letter_serves m s p) (event.Read p.id.seq) (want m s p.id.core p.block (is_writer p.op)) has (want_stays s p.id.core p.block (is_writer p.op) banks sets own)
  pei_stays s content granted p phase.Read banks sets own has =
      either m k Has a (may_act m s p) (act_kind content p) (want m s p.id.core p.block true) has (want_stays s p.id.core p.block true banks sets own)
  pei_stays s content granted p phase.MemoryPlaced banks sets own has = seal_stays s p banks own has
  pei_stays s content granted p phase.Sealed banks sets own has = head_stays content p (slice_get (queue_of s (vault_of m p.block)) 0) has
  pei_stays s content granted p phase.Acted banks sets own has = has
