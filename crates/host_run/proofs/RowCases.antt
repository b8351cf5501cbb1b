-- What the row of a core in a bank is: an event of the core's program, or one of the PEI in a lane.
use Rattle.std.proofs.Common.{◌≡◌, ◌⊎◌, inl, inr, ℕ, zero, suc, ◌<◌, Bool, true, false, IsTrue, List, [], ◌∷◌, Option, Some, None, slice_index, refl, sym, ◌∙◌, ap, subst, arith}
use Rattle.std.proofs.lemmas.Bool.{and_parts}
use Rattle.std.proofs.lemmas.Option.{same_Some}
use Rattle.std.specs.Prelude.{⊤}
use Rattle.pei_types.specs.declared.calls.Call.{Call}
use Rattle.pei_types.specs.declared.calls.Call.TheVariants as call
use Rattle.pei_types.specs.declared.calls.EndKind.{EndKind}
use Rattle.pei_types.specs.declared.events.Event.{Event}
use Rattle.pei_types.specs.declared.events.EventKind.{EventKind}
use Rattle.pei_types.specs.declared.events.EventKind.TheVariants as event
use Rattle.pei_types.specs.declared.identifiers.Actor.{Actor}
use Rattle.pei_types.specs.declared.identifiers.Block.{Block}
use Rattle.pei_types.specs.declared.identifiers.BlockNo.{BlockNo}
use Rattle.pei_types.specs.declared.identifiers.CoreId.{CoreId}
use Rattle.pei_types.specs.declared.identifiers.Lane.{Lane}
use Rattle.pei_types.specs.declared.identifiers.PeiId.{PeiId}
use Rattle.pei_types.specs.declared.inflight_looks.PeiLook.{PeiLook}
use Rattle.pei_types.specs.declared.inflight_looks.Phase.{Phase}
use Rattle.pei_types.specs.declared.inflight_looks.Phase.TheVariants as phase
use Rattle.pei_types.specs.declared.machines.MachineSpec.{MachineSpec}
use Rattle.pei_types.specs.Blocks.{block_of, same_core, same_lane, word_of}
use Rattle.pei_types.specs.Calls.{Side, Programs, Peis, Messages, side_of, follows_phase}
use Rattle.pei_types.specs.MachineState.{State, state_after, conflict, is_i, is_owned, is_phase, letter_of, look_in}
use Rattle.pei_types.specs.Core.{CoreNext, Calls, Busy, Ended, core_config, core_next}
use Rattle.pei_types.specs.FlatMemory.{flat_block}
use Rattle.pei_types.specs.Next.{CoreLook, Turn, Makes, Stalls, call_row_by, draining_or, fence_row, issue_row, race_or, want}
use Rattle.pei_types.specs.Program.{Listing, Contents}
use Rattle.pei_types.specs.Turns.{is_entering}
use Rattle.bank_laws.specs.Rows.{IsRowIn, bank_look, pei_turn_in, program_turn_in, turn_in}
use Rattle.core_exec.specs.CoreView.{is_request, retires}
use Rattle.shared_table.specs.Claims.{is_fence}
use Rattle.thread_laws.proofs.Rows.{IsMessage, IsNoPeis, KindIsOf, IsEventOf, TurnIsNoPeis, TurnIsOf, call_no_peis, either, pei_is_of, want_sends}

-- ---- the two cases

-- an event of the core's program, by this call
pub record ProgramRow (p : Listing) (m : MachineSpec) (image : Contents) (log own : List Event) (e : Event) : Type 0 where
  pub lane : e.actor.lane.0 ≡ 0
  pub asked : Call
  pub next : core_next p image (core_config m) e.actor.core own ≡ Calls asked
  pub row : call_row_by (bank_look m (state_after m own) e.actor.core) m (state_after m log) (flat_block image log) e.actor.core asked ≡ Makes e.kind

-- an event of the PEI that the bank has in the actor's lane
pub record LaneRow (m : MachineSpec) (log : List Event) (e : Event) : Type 0 where
  pub lane : 0 < e.actor.lane.0
  pub pei : PeiLook
  pub here : look_in (state_after m log) e.actor.core e.actor.lane ≡ Some pei
  pub is_of : KindIsOf pei.id.seq pei.phase e.kind

pub row_cases : (p : Listing) (m : MachineSpec) (image : Contents) (k : ℕ) (log own : List Event) (e : Event) → IsRowIn p m image k log own e → ProgramRow p m image log own e ⊎ LaneRow m log e
row_cases p m image k log own e r = by e.actor.lane.0 refl r.row
  where
    look : CoreLook
    look = bank_look m (state_after m own) e.actor.core

    program : e.actor.lane.0 ≡ 0 → (x : CoreNext) → core_next p image (core_config m) e.actor.core own ≡ x → program_turn_in m (state_after m log) look (flat_block image log) e.actor.core x ≡ Some (Makes e.kind) → ProgramRow p m image log own e ⊎ LaneRow m log e
    program at (Calls x) is h = inl (record { lane = at; asked = x; next = is; row = same_Some (call_row_by look m (state_after m log) (flat_block image log) e.actor.core x) (Makes e.kind) h })
    program at (Busy register pei) is h = absurd (cc h)
    program at (Ended how) is h = absurd (cc h)

    lane : 0 < e.actor.lane.0 → (o : Option PeiLook) → look_in (state_after m log) e.actor.core e.actor.lane ≡ o → pei_turn_in m (state_after m log) look (flat_block image log) (is_entering e.kind) o ≡ Makes e.kind → ProgramRow p m image log own e ⊎ LaneRow m log e
    lane at None found h = absurd (cc h)
    lane at (Some q) found h =
        inr (record { lane = at; pei = q; here = found; is_of = subst (TurnIsOf q.id.seq q.phase) h (pei_is_of look m (state_after m log) (flat_block image log) (is_entering e.kind) q q.phase) })

    by : (l : ℕ) → e.actor.lane.0 ≡ l → turn_in l (core_next p image (core_config m) e.actor.core own) m (state_after m log) look (flat_block image log) e.actor (is_entering e.kind) ≡ Some (Makes e.kind) → ProgramRow p m image log own e ⊎ LaneRow m log e
    by zero at h = program at (core_next p image (core_config m) e.actor.core own) refl h
    by (suc l) at h =
        lane (omega (arith, at)) (look_in (state_after m log) e.actor.core e.actor.lane) refl
        (same_Some (pei_turn_in m (state_after m log) look (flat_block image log) (is_entering e.kind) (look_in (state_after m log) e.actor.core e.actor.lane)) (Makes e.kind) h)

-- ---- a program's events

pub program_no_peis : (p : Listing) (m : MachineSpec) (image : Contents) (log own : List Event) (e : Event) → ProgramRow p m image log own e → IsNoPeis (side_of e.kind)
program_no_peis p m image log own e r =
    subst TurnIsNoPeis r.row (call_no_peis (bank_look m (state_after m own) e.actor.core) m (state_after m log) (flat_block image log) e.actor.core r.asked)

-- ---- fences

-- no fence begins or ends by this row
abbrev NoFence : Turn → Type 0
NoFence (Makes kind) = is_fence kind ≡ false
NoFence (Stalls cause) = ⊤

message_no_fence : (kind : EventKind) → IsMessage kind → is_fence kind ≡ false
message_no_fence event.FenceBegin h = absurd (cc h)
message_no_fence event.FenceEnd h = absurd (cc h)
message_no_fence _ h = refl

race_no_fence : (o : Option PeiId) (pc : ℕ) (b : BlockNo) (kind : EventKind) → is_fence kind ≡ false → is_fence (race_or o pc b kind) ≡ false
race_no_fence None pc b kind h = h
race_no_fence (Some by) pc b kind h = refl

-- a call whose row is a fence's is a fence
pub fence_asked : (look : CoreLook) (m : MachineSpec) (s : State) (content : BlockNo → Block) (c : CoreId) (x : Call) (kind : EventKind) → call_row_by look m s content c x ≡ Makes kind → is_fence kind ≡ true → x ≡ call.Fence
fence_asked look m s content c call.Fence kind h on = refl
fence_asked look m s content c (call.Load pc addr) kind h on =
    absurd (cc (sym on ∙ subst NoFence h
    (race_no_fence (conflict s (block_of addr) false) pc (block_of addr) _
    (either (λ k. is_fence k ≡ false) (is_i (letter_of m s c (block_of addr))) (want m s c (block_of addr) false) (event.Load addr (slice_index (content (block_of addr)).0 (word_of addr)))
    (message_no_fence (want m s c (block_of addr) false) (want_sends m s c (block_of addr) false)) refl))))
fence_asked look m s content c (call.Store pc addr value) kind h on =
    absurd (cc (sym on ∙ subst NoFence h
    (race_no_fence (conflict s (block_of addr) true) pc (block_of addr) _
    (either (λ k. is_fence k ≡ false) (is_owned (letter_of m s c (block_of addr))) (event.Store addr value) (want m s c (block_of addr) true)
    refl (message_no_fence (want m s c (block_of addr) true) (want_sends m s c (block_of addr) true))))))
fence_asked look m s content c (call.Pei o b operands) kind h on = by look.free h
  where
    by : (l : Option Lane) → issue_row look.issues o b operands l ≡ Makes kind → call.Pei o b operands ≡ call.Fence
    by None g = absurd (cc g)
    by (Some l) g = absurd (cc (sym on ∙ subst NoFence g refl))
fence_asked look m s content c (call.Out value) kind h on = absurd (cc (sym on ∙ subst NoFence h refl))
fence_asked look m s content c (call.End how) kind h on = by look.first_unfinished h
  where
    by : (o : Option PeiId) → draining_or o (event.End how) ≡ Makes kind → call.End how ≡ call.Fence
    by None g = absurd (cc (sym on ∙ subst NoFence g refl))
    by (Some q) g = absurd (cc g)

-- a fence ends only where one is on
pub fence_ended : (o : Option (List PeiId)) → fence_row o ≡ Makes event.FenceEnd → o ≡ Some []
fence_ended None h = absurd (cc h)
fence_ended (Some []) h = refl
fence_ended (Some (q ∷ qs)) h = absurd (cc h)

-- the event of a lane is of no fence, and issues nothing
lane_no_fence : (n : ℕ) (ph : Phase) (kind : EventKind) → KindIsOf n ph kind → is_fence kind ≡ false
lane_no_fence n ph event.FenceBegin h = absurd h
lane_no_fence n ph event.FenceEnd h = absurd h
lane_no_fence n ph _ h = refl

-- ---- what a core asked for

-- an event that retires an instruction answers a request of the core
lane_retires_none : (n : ℕ) (ph : Phase) (kind : EventKind) → KindIsOf n ph kind → IsTrue (retires kind) → ⊥
lane_retires_none n ph (event.Load addr value) h r = h
lane_retires_none n ph (event.Store addr value) h r = h
lane_retires_none n ph (event.Issue seq l o b x) h r = h
lane_retires_none n ph event.FenceEnd h r = h
lane_retires_none n ph (event.Out value) h r = h
lane_retires_none n ph _ h r = cc r

end_is_no_request : (look : CoreLook) (how : EndKind) (kind : EventKind) → draining_or look.first_unfinished (event.End how) ≡ Makes kind → IsTrue (retires kind) → ⊥
end_is_no_request look how kind h r = by look.first_unfinished h
  where
    by : (o : Option PeiId) → draining_or o (event.End how) ≡ Makes kind → ⊥
    by None g = let same : event.End how ≡ kind = cc g in cc (subst (λ k. IsTrue (retires k)) (sym same) r)
    by (Some q) g = cc g

pub asked : (p : Listing) (m : MachineSpec) (image : Contents) (k : ℕ) (log own : List Event) (e : Event) → IsRowIn p m image k log own e → IsTrue (retires e.kind) → (x : Call) × (core_next p image (core_config m) e.actor.core own ≡ Calls x) × IsTrue (is_request x)
asked p m image k log own e r on = by (row_cases p m image k log own e r)
  where
    Asked : Type 0
    Asked = (x : Call) × (core_next p image (core_config m) e.actor.core own ≡ Calls x) × IsTrue (is_request x)

    request : (x : Call) → core_next p image (core_config m) e.actor.core own ≡ Calls x → call_row_by (bank_look m (state_after m own) e.actor.core) m (state_after m log) (flat_block image log) e.actor.core x ≡ Makes e.kind → Asked
    request (call.End how) is h = absurd (end_is_no_request (bank_look m (state_after m own) e.actor.core) how e.kind h on)
    request (call.Load pc addr) is h = (call.Load pc addr, is, refl)
    request (call.Store pc addr value) is h = (call.Store pc addr value, is, refl)
    request (call.Pei o b x) is h = (call.Pei o b x, is, refl)
    request call.Fence is h = (call.Fence, is, refl)
    request (call.Out value) is h = (call.Out value, is, refl)

    by : ProgramRow p m image log own e ⊎ LaneRow m log e → Asked
    by (inl row) = request row.asked row.next row.row
    by (inr row) = absurd (lane_retires_none row.pei.id.seq row.pei.phase e.kind row.is_of on)
