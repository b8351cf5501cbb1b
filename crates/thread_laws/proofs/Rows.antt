-- The event of a bank's row is its PEI's next.
use Rattle.std.proofs.Common.{◌≡◌, ℕ, zero, suc, Bool, true, false, not, ◌&&◌, ◌||◌, List, [], ◌∷◌, Option, Some, None, MatchOption, IsTrue, refl, sym, ◌∙◌, ap, subst}
use Rattle.std.specs.Prelude.{⊤, if◌then◌else◌, slice_get, slice_index}
use Rattle.std.proofs.lemmas.Bool.{and_parts}
use Rattle.std.proofs.lemmas.Option.{same_Some}
use Rattle.pei_types.specs.declared.identifiers.Actor.{Actor}
use Rattle.pei_types.specs.declared.identifiers.Block.{Block}
use Rattle.pei_types.specs.declared.identifiers.BlockNo.{BlockNo}
use Rattle.pei_types.specs.declared.identifiers.CoreId.{CoreId}
use Rattle.pei_types.specs.declared.identifiers.Lane.{Lane}
use Rattle.pei_types.specs.declared.identifiers.PeiId.{PeiId}
use Rattle.pei_types.specs.declared.calls.Call.{Call}
use Rattle.pei_types.specs.declared.calls.Call.TheVariants as call
use Rattle.pei_types.specs.declared.inflight_looks.PeiLook.{PeiLook}
use Rattle.pei_types.specs.declared.inflight_looks.Phase.{Phase}
use Rattle.pei_types.specs.declared.inflight_looks.Phase.TheVariants as phase
use Rattle.pei_types.specs.declared.inflight_looks.StallCause.TheVariants as stall
use Rattle.pei_types.specs.declared.events.Event.{Event}
use Rattle.pei_types.specs.declared.events.EventKind.{EventKind}
use Rattle.pei_types.specs.declared.events.EventKind.TheVariants as event
use Rattle.pei_types.specs.declared.machines.MachineSpec.{MachineSpec}
use Rattle.pei_types.specs.Blocks.{block_of, word_of, same_core, same_lane, same_pei, vault_of}
use Rattle.pei_types.specs.Calls.{Side, Programs, Peis, Messages, follows_phase, side_of}
use Rattle.pei_types.specs.MachineState.{State, Line, LlcLine, letter_of, mark_of, is_i, is_owned, is_absent, is_dirty, is_clean, conflict, is_sealed, queue_of, queue_is_full, llc_set, no_other_has, look_in, pei_id, state_after}
use Rattle.pei_types.specs.Core.{CoreNext, Calls, Busy, Ended}
use Rattle.pei_types.specs.FlatMemory.{flat_block}
use Rattle.pei_types.specs.Guard.{letter_serves}
use Rattle.pei_types.specs.History.{pei_issued_by, pei_of, phase_of}
use Rattle.pei_types.specs.Next.{Turn, Makes, Stalls, CoreLook, holder, other_holder, owner, other_owner, evict, bring_in, grant, grant_modify, grant_shared, make_room, l1_victim, want, race_or, issue_row, fence_row, draining_or, call_row_by, enter_row, seal_writer, seal_reader, seal_row, act_kind, head_row, may_act, pei_row_by}
use Rattle.pei_types.specs.Operation.{is_writer}
use Rattle.pei_types.specs.Program.{Contents}
use Rattle.pei_types.specs.Recency.{victim}
use Rattle.pei_types.specs.Turns.{is_entering}
use Rattle.pei_types.proofs.Identities.{same_core_is}
use Rattle.history_laws.specs.TrackedPeis.{IsTracked}
use Rattle.bank_laws.specs.Kept.{FitsInBank}
use Rattle.bank_laws.specs.Rows.{IsRowOfBank, program_turn_in, pei_turn_in, turn_in}
use Rattle.shared_table.specs.Orderly.{FollowsOf, Follows, IsFresh}
use Rattle.thread_laws.proofs.Tracks.{Tracks}
use Rattle.history_laws.proofs.Lists.{each_of, find_Some}

-- ---- messages

pub either : (P : EventKind → Type 0) (b : Bool) (x y : EventKind) → P x → P y → P (if b then x else y)
either P true x y h g = h
either P false x y h g = g

abbrev pub IsMessage : EventKind → Type 0
IsMessage kind = side_of kind ≡ Messages

module _ (m : MachineSpec) (s : State) where
  evict_sends : (v : BlockNo) (o : Option CoreId) → IsMessage (evict m s v o)
  evict_sends v (Some c) = refl
  evict_sends v None = either IsMessage (is_dirty (mark_of m s v)) (event.Clean v) (event.EvictLlc v) refl refl

  bring_in_sends : (b : BlockNo) (o : Option LlcLine) → IsMessage (bring_in m s b o)
  bring_in_sends b (Some line) = evict_sends line.block (holder m s line.block)
  bring_in_sends b None = refl

  grant_sends : (c : CoreId) (b : BlockNo) (modify : Bool) → IsMessage (grant m s c b modify)
  grant_sends c b true = by (other_holder m s c b)
    where
      by : (o : Option CoreId) → IsMessage (grant_modify b o)
      by (Some d) = refl
      by None = refl
  grant_sends c b false = by (other_owner m s c b)
    where
      by : (o : Option CoreId) → IsMessage (grant_shared m s c b o)
      by (Some d) = refl
      by None = either IsMessage (not (no_other_has m s c b) || is_sealed s b) (event.GrantS b) (event.GrantE b) refl refl

  make_room_sends : (c : CoreId) (b : BlockNo) (modify : Bool) (o : Option Line) → IsMessage (make_room m s c b modify o)
  make_room_sends c b modify (Some line) = refl
  make_room_sends c b modify None = grant_sends c b modify

  pub want_sends : (c : CoreId) (b : BlockNo) (modify : Bool) → IsMessage (want m s c b modify)
  want_sends c b modify =
      either IsMessage (is_absent (mark_of m s b)) (bring_in m s b (victim m.llc_ways (llc_set m s b))) (make_room m s c b modify (l1_victim m s c b))
      (bring_in_sends b (victim m.llc_ways (llc_set m s b))) (make_room_sends c b modify (l1_victim m s c b))

-- ---- the rows of a core's call

-- an event of no PEI's lane
abbrev pub IsNoPeis : Side → Type 0
IsNoPeis (Peis seq) = ⊥
IsNoPeis _ = ⊤

abbrev pub TurnIsNoPeis : Turn → Type 0
TurnIsNoPeis (Makes kind) = IsNoPeis (side_of kind)
TurnIsNoPeis (Stalls cause) = ⊤

message_no_peis : (kind : EventKind) → IsMessage kind → IsNoPeis (side_of kind)
message_no_peis kind h = subst IsNoPeis (sym h) tt

race_no_peis : (o : Option PeiId) (pc : ℕ) (b : BlockNo) (kind : EventKind) → IsNoPeis (side_of kind) → IsNoPeis (side_of (race_or o pc b kind))
race_no_peis None pc b kind h = h
race_no_peis (Some by) pc b kind h = tt

pub call_no_peis : (look : CoreLook) (m : MachineSpec) (s : State) (content : BlockNo → Block) (c : CoreId) (x : Call) → TurnIsNoPeis (call_row_by look m s content c x)
call_no_peis look m s content c (call.Load pc addr) =
    race_no_peis (conflict s (block_of addr) false) pc (block_of addr) _
    (either (λ kind. IsNoPeis (side_of kind)) (is_i (letter_of m s c (block_of addr))) (want m s c (block_of addr) false) (event.Load addr (slice_index (content (block_of addr)).0 (word_of addr)))
    (message_no_peis (want m s c (block_of addr) false) (want_sends m s c (block_of addr) false)) tt)
call_no_peis look m s content c (call.Store pc addr value) =
    race_no_peis (conflict s (block_of addr) true) pc (block_of addr) _
    (either (λ kind. IsNoPeis (side_of kind)) (is_owned (letter_of m s c (block_of addr))) (event.Store addr value) (want m s c (block_of addr) true)
    tt (message_no_peis (want m s c (block_of addr) true) (want_sends m s c (block_of addr) true)))
call_no_peis look m s content c (call.Pei o b operands) = by look.free
  where
    by : (l : Option Lane) → TurnIsNoPeis (issue_row look.issues o b operands l)
    by None = tt
    by (Some l) = tt
call_no_peis look m s content c call.Fence = by look.fence
  where
    by : (o : Option (List PeiId)) → TurnIsNoPeis (fence_row o)
    by None = tt
    by (Some []) = tt
    by (Some (p ∷ ps)) = tt
call_no_peis look m s content c (call.Out value) = tt
call_no_peis look m s content c (call.End kind) = by look.first_unfinished
  where
    by : (o : Option PeiId) → TurnIsNoPeis (draining_or o (event.End kind))
    by None = tt
    by (Some p) = tt

-- ---- the rows of a PEI

-- an event of the PEI of this number, which may come next in this phase; or a message
abbrev pub IsEventOf : ℕ → Phase → Side → EventKind → Type 0
IsEventOf n ph (Peis seq) kind = (n ≡ seq) × (follows_phase ph kind ≡ true)
IsEventOf n ph Programs kind = ⊥
IsEventOf n ph Messages kind = ⊤

abbrev pub KindIsOf : ℕ → Phase → EventKind → Type 0
KindIsOf n ph kind = IsEventOf n ph (side_of kind) kind

abbrev pub TurnIsOf : ℕ → Phase → Turn → Type 0
TurnIsOf n ph (Makes kind) = KindIsOf n ph kind
TurnIsOf n ph (Stalls cause) = ⊤

message_is_of : (n : ℕ) (ph : Phase) (kind : EventKind) → IsMessage kind → KindIsOf n ph kind
message_is_of n ph kind h = subst (λ side. IsEventOf n ph side kind) (sym h) tt

enter_is_of : (p : PeiLook) (granted : Bool) (o : Option PeiId) → TurnIsOf p.id.seq phase.Issued (enter_row p granted o)
enter_is_of p granted None = tt
enter_is_of p granted (Some first) = by (same_pei first p.id) granted
  where
    by : (same g : Bool) → TurnIsOf p.id.seq phase.Issued (if same then (if g then Makes (event.Enter p.id.seq) else Stalls stall.NeedsGrant) else Stalls (stall.NotOldest first))
    by true true = (refl, refl)
    by true false = tt
    by false g = tt

seal_is_of : (m : MachineSpec) (s : State) (p : PeiLook) → TurnIsOf p.id.seq phase.MemoryPlaced (seal_row m s p)
seal_is_of m s p = by (queue_is_full m s (vault_of m p.block))
  where
    Is : EventKind → Type 0
    Is kind = KindIsOf p.id.seq phase.MemoryPlaced kind

    writer : (o : Option CoreId) → KindIsOf p.id.seq phase.MemoryPlaced (seal_writer m s p o)
    writer (Some c) = tt
    writer None =
        either (KindIsOf p.id.seq phase.MemoryPlaced) (is_dirty (mark_of m s p.block)) (event.Clean p.block) (if is_clean (mark_of m s p.block) then event.EvictLlc p.block else event.Seal p.id.seq (vault_of m p.block)) tt
        (either (KindIsOf p.id.seq phase.MemoryPlaced) (is_clean (mark_of m s p.block)) (event.EvictLlc p.block) (event.Seal p.id.seq (vault_of m p.block)) tt (refl, refl))

    reader : (o : Option CoreId) → KindIsOf p.id.seq phase.MemoryPlaced (seal_reader m s p o)
    reader (Some c) = tt
    reader None = either (KindIsOf p.id.seq phase.MemoryPlaced) (is_dirty (mark_of m s p.block)) (event.Clean p.block) (event.Seal p.id.seq (vault_of m p.block)) tt (refl, refl)

    by : (full : Bool) → TurnIsOf p.id.seq phase.MemoryPlaced (if full then Stalls (stall.VaultFull (vault_of m p.block)) else Makes (if is_writer p.op then seal_writer m s p (holder m s p.block) else seal_reader m s p (owner m s p.block)))
    by true = tt
    by false =
        either (KindIsOf p.id.seq phase.MemoryPlaced) (is_writer p.op) (seal_writer m s p (holder m s p.block)) (seal_reader m s p (owner m s p.block)) (writer (holder m s p.block)) (reader (owner m s p.block))

head_is_of : (content : BlockNo → Block) (p : PeiLook) (o : Option PeiId) → TurnIsOf p.id.seq phase.Sealed (head_row content p o)
head_is_of content p None = tt
head_is_of content p (Some head) = by (same_pei head p.id)
  where
    by : (same : Bool) → TurnIsOf p.id.seq phase.Sealed (if same then Makes (act_kind content p) else Stalls (stall.NotHead head))
    by true = (refl, refl)
    by false = tt

pub pei_is_of : (look : CoreLook) (m : MachineSpec) (s : State) (content : BlockNo → Block) (granted : Bool) (p : PeiLook) (ph : Phase) → TurnIsOf p.id.seq ph (pei_row_by look m s content granted p ph)
pei_is_of look m s content granted p phase.Issued = enter_is_of p granted look.first_unentered
pei_is_of look m s content granted p phase.Entered = (refl, refl)
pei_is_of look m s content granted p phase.HostPlaced =
    either (KindIsOf p.id.seq phase.HostPlaced) (letter_serves m s p) (event.Read p.id.seq) (want m s p.id.core p.block (is_writer p.op)) (refl, refl)
    (message_is_of p.id.seq phase.HostPlaced (want m s p.id.core p.block (is_writer p.op)) (want_sends m s p.id.core p.block (is_writer p.op)))
pei_is_of look m s content granted p phase.Read =
    either (KindIsOf p.id.seq phase.Read) (may_act m s p) (act_kind content p) (want m s p.id.core p.block true) (refl, refl)
    (message_is_of p.id.seq phase.Read (want m s p.id.core p.block true) (want_sends m s p.id.core p.block true))
pei_is_of look m s content granted p phase.MemoryPlaced = seal_is_of m s p
pei_is_of look m s content granted p phase.Sealed = head_is_of content p (slice_get (queue_of s (vault_of m p.block)) 0)
pei_is_of look m s content granted p phase.Acted = (refl, refl)

-- ---- from rows to logs

no_peis_follows : (side : Side) (log : List Event) (a : Actor) (kind : EventKind) → IsNoPeis side → FollowsOf side log a kind
no_peis_follows Programs log a kind h = tt
no_peis_follows (Peis seq) log a kind h = absurd h
no_peis_follows Messages log a kind h = tt

-- an event of a PEI that the log tracks in the actor's lane
of_follows : (side : Side) (log : List Event) (a : Actor) (kind : EventKind) (p : PeiLook) → IsTracked log p → same_core p.id.core a.core ≡ true → same_lane p.lane a.lane ≡ true → IsEventOf p.id.seq p.phase side kind → FollowsOf side log a kind
of_follows Programs log a kind p t core lane h = tt
of_follows Messages log a kind p t core lane h = tt
of_follows (Peis seq) log a kind p t core lane h =
    let own : p.id ≡ pei_id a seq = λ i. record { core = same_core_is p.id.core a.core core i; seq = h.0 i }
    in (
      subst (λ o. MatchOption o ⊥ (λ q. IsTrue (same_lane q.lane a.lane))) (sym (ap (pei_of log) (sym own) ∙ t.found)) lane,
      subst (λ o. MatchOption o ⊥ (λ ph. IsTrue (follows_phase ph kind))) (sym (ap (phase_of log) (sym own) ∙ t.stands)) h.1,
    )

turn_made : (P : EventKind → Type 0) (x : Turn) (kind : EventKind) → Some x ≡ Some (Makes kind) → x ≡ Makes kind
turn_made P x kind h = same_Some x (Makes kind) h

-- the event of a row, where the state's PEIs are those of the log
pub row_follows : (m : MachineSpec) (image : Contents) (k : ℕ) (log : List Event) (e : Event) → Tracks log (state_after m log).peis → IsRowOfBank m image k log e → Follows log e
row_follows m image k log e g row = by e.actor.lane.0 row.row
  where
    s : State
    s = state_after m log

    program : (x : CoreNext) → program_turn_in m s row.look (flat_block image log) e.actor.core x ≡ Some (Makes e.kind) → Follows log e
    program (Calls x) h =
        no_peis_follows (side_of e.kind) log e.actor e.kind
        (subst TurnIsNoPeis (same_Some (call_row_by row.look m s (flat_block image log) e.actor.core x) (Makes e.kind) h) (call_no_peis row.look m s (flat_block image log) e.actor.core x))
    program (Busy register pei) h = absurd (cc h)
    program (Ended how) h = absurd (cc h)

    lane : (o : Option PeiLook) → look_in s e.actor.core e.actor.lane ≡ o → pei_turn_in m s row.look (flat_block image log) (is_entering e.kind) o ≡ Makes e.kind → Follows log e
    lane None found h = absurd (cc h)
    lane (Some p) found h =
        let seen = find_Some (λ q. same_core q.id.core e.actor.core && same_lane q.lane e.actor.lane) s.peis p found
        in let both = and_parts (same_core p.id.core e.actor.core) (same_lane p.lane e.actor.lane) seen.1
        in of_follows (side_of e.kind) log e.actor e.kind p (each_of (IsTracked log) s.peis p g.tracked seen.0) both.0 both.1
        (subst (TurnIsOf p.id.seq p.phase) h (pei_is_of row.look m s (flat_block image log) (is_entering e.kind) p p.phase))

    by : (l : ℕ) → turn_in l row.next m s row.look (flat_block image log) e.actor (is_entering e.kind) ≡ Some (Makes e.kind) → Follows log e
    by zero h = program row.next h
    by (suc l) h =
        lane (look_in s e.actor.core e.actor.lane) refl
        (same_Some (pei_turn_in m s row.look (flat_block image log) (is_entering e.kind) (look_in s e.actor.core e.actor.lane)) (Makes e.kind) h)

-- an issue that fits has a name of its own
pub fits_fresh : (m : MachineSpec) (log : List Event) (e : Event) → FitsInBank m log e.actor e.kind → IsFresh log e
fits_fresh m log e fits p issued = by e.kind fits issued
  where
    by : (kind : EventKind) → FitsInBank m log e.actor kind → pei_issued_by e.actor kind ≡ Some p → pei_of log p.id ≡ None
    by (event.Issue seq lane o b operands) f same = ap (λ q. pei_of log q.id) (sym (same_Some (record { id = pei_id e.actor seq; lane = lane; op = o; block = b; operands = operands }) p same)) ∙ f.3
    by _ f same = absurd (cc same)
