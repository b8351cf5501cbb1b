-- The clauses of the history and those of the state, both ways.
use Rattle.std.proofs.Common.{◌≡◌, ℕ, ◌<◌, ◌*◌, ◌%◌, nat_lt, ◌==◌, Bool, true, false, not, ◌&&◌, IsTrue, if◌then◌else◌, List, [], Option, Some, None, IfSome, MatchOption, refl, sym, ◌∙◌, ap, subst, arith}
use Rattle.std.specs.Prelude.{slice_index}
use Rattle.std.specs.List.{list_all}
use Rattle.std.proofs.lemmas.Bool.{and_parts, ltb-true}
use Rattle.pei_types.specs.declared.identifiers.Actor.{Actor}
use Rattle.pei_types.specs.declared.identifiers.Block.{Block}
use Rattle.pei_types.specs.declared.identifiers.BlockNo.{BlockNo}
use Rattle.pei_types.specs.declared.identifiers.CoreId.{CoreId}
use Rattle.pei_types.specs.declared.identifiers.PeiId.{PeiId}
use Rattle.pei_types.specs.declared.inflight_looks.PeiLook.{PeiLook}
use Rattle.pei_types.specs.declared.inflight_looks.Phase.{Phase}
use Rattle.pei_types.specs.declared.events.Event.{Event}
use Rattle.pei_types.specs.declared.events.EventKind.{EventKind}
use Rattle.pei_types.specs.declared.events.EventKind.TheVariants as event
use Rattle.pei_types.specs.declared.machines.MachineSpec.{MachineSpec}
use Rattle.pei_types.specs.Blocks.{block_of, is_word_of_memory, same_core, same_lane, same_pei, word_of}
use Rattle.pei_types.specs.Calls.{AnswersCall, BelongsTo, EndsLast, FollowsPei, Messages, Peis, Programs, Side, follows_phase, is_actor_of, side_of}
use Rattle.pei_types.specs.MachineState.{State, entry_is_taken, fence_of, look_in, pei_id}
use Rattle.pei_types.specs.Core.{CoreNext}
use Rattle.pei_types.specs.Exclusion.{EntersAlone, conflicts}
use Rattle.pei_types.specs.Fence.{FencesEarlier, earlier_writers_left}
use Rattle.pei_types.specs.FlatMemory.{flat_block}
use Rattle.pei_types.specs.History.{Pei, active_peis, pei_of, phase_of}
use Rattle.pei_types.specs.Operation.{reply_of}
use Rattle.pei_types.specs.Program.{Contents}
use Rattle.pei_types.specs.Replies.{RepliesRightly}
use Rattle.pei_types.proofs.Identities.{same_core_is, same_pei_is}
use Rattle.pei_types.proofs.Lists.{found_has, found_passes}
use Rattle.coherence_laws.specs.Invariants.{Invariants}
use Rattle.coherence_laws.specs.Laws.{LanesHoldPeis}
use Rattle.history_laws.specs.Fences.{Settles}
use Rattle.history_laws.specs.Laws.{AgreementTells, ExclusionTells}
use Rattle.history_laws.specs.TrackedPeis.{Agrees, IsTracked, as_issued, fence_is_on, writers_awaited}
use Rattle.trace_check.specs.InState.{AnswersIn, AnswersSide, EndsDrained, EndsFence, FollowsLook, enters_free, finds_free}
use Rattle.trace_check.specs.Issues.{AllFit, RepliesBy}

-- ---- replies

word_inside : (m : MachineSpec) (addr : ℕ) → IsTrue (is_word_of_memory m.blocks addr) → (block_of addr).0 < m.blocks
word_inside m addr h =
    let low : addr < 64 * m.blocks = ltb-true addr (64 * m.blocks) (and_parts (addr % 8 == 0) (nat_lt addr (64 * m.blocks)) h).1
    in omega (arith, low)

module _ (m : MachineSpec) (image : Contents) (past : List Event) (content : BlockNo → Block) (same : (b : BlockNo) → b.0 < m.blocks → content b ≡ flat_block image past b) where
  pub replies_told : AllFit m.blocks past → (a : Actor) (kind : EventKind) → RepliesBy m.blocks content past a kind → RepliesRightly m image past a kind
  replies_told fit a (event.Load addr value) h = λ word. h word ∙ ap (λ (b : Block). slice_index b.0 (word_of addr)) (same (block_of addr) (word_inside m addr word))
  replies_told fit a (event.Act seq reply) h = by (pei_of past (record { core = a.core; seq = seq })) refl h
    where
      by : (o : Option Pei) → pei_of past (record { core = a.core; seq = seq }) ≡ o → IfSome o (λ p. reply ≡ reply_of p.op p.operands (content p.block)) → IfSome o (λ p. reply ≡ reply_of p.op p.operands (flat_block image past p.block))
      by None e h = h
      by (Some p) e h = h ∙ ap (reply_of p.op p.operands) (same p.block (fit (record { core = a.core; seq = seq }) p e).inside)
  replies_told fit a _ h = tt

  pub replies_seen : AllFit m.blocks past → (a : Actor) (kind : EventKind) → RepliesRightly m image past a kind → RepliesBy m.blocks content past a kind
  replies_seen fit a (event.Load addr value) h = λ word. h word ∙ sym (ap (λ (b : Block). slice_index b.0 (word_of addr)) (same (block_of addr) (word_inside m addr word)))
  replies_seen fit a (event.Act seq reply) h = by (pei_of past (record { core = a.core; seq = seq })) refl h
    where
      by : (o : Option Pei) → pei_of past (record { core = a.core; seq = seq }) ≡ o → IfSome o (λ p. reply ≡ reply_of p.op p.operands (flat_block image past p.block)) → IfSome o (λ p. reply ≡ reply_of p.op p.operands (content p.block))
      by None e h = h
      by (Some p) e h = h ∙ sym (ap (reply_of p.op p.operands) (same p.block (fit (record { core = a.core; seq = seq }) p e).inside))
  replies_seen fit a _ h = tt

-- ---- the PEI of a lane and its history

id_of : CoreId → ℕ → PeiId
id_of c n = record { core = c; seq = n }

module _ (m : MachineSpec) (s : State) (past : List Event) (agrees : Agrees m s past) (a : Actor) (seq : ℕ) (l : PeiLook) (found : look_in s a.core a.lane ≡ Some l) (number : l.id.seq ≡ seq) where
  passes : (same_core l.id.core a.core && same_lane l.lane a.lane) ≡ true
  passes = found_passes (λ p. same_core p.id.core a.core && same_lane p.lane a.lane) s.peis l found

  name : l.id ≡ pei_id a seq
  unfolding id_of
  name = ap (λ c. id_of c l.id.seq) (same_core_is l.id.core a.core (and_parts (same_core l.id.core a.core) (same_lane l.lane a.lane) passes).0) ∙ ap (id_of a.core) number

  tracked : IsTracked past l
  tracked = found_has (IsTracked past) (λ p. same_core p.id.core a.core && same_lane p.lane a.lane) s.peis l agrees.tracked found

  pub issued_there : pei_of past (pei_id a seq) ≡ Some (as_issued l)
  issued_there = ap (pei_of past) (sym name) ∙ tracked.found

  pub stands_there : phase_of past (pei_id a seq) ≡ Some l.phase
  stands_there = ap (phase_of past) (sym name) ∙ tracked.stands

  pub follows_there : (kind : EventKind) → follows_phase l.phase kind ≡ true → FollowsPei past a kind seq
  follows_there kind next = (
    subst (λ (o : Option Pei). MatchOption o ⊥ (λ p. IsTrue (same_lane p.lane a.lane))) (sym issued_there) (and_parts (same_core l.id.core a.core) (same_lane l.lane a.lane) passes).1,
    subst (λ (o : Option Phase). MatchOption o ⊥ (λ ph. IsTrue (follows_phase ph kind))) (sym stands_there) next,
  )

-- ---- calls

module _ (laws : AgreementTells) (lanes : LanesHoldPeis) (x : CoreNext) (m : MachineSpec) (s : State) (past : List Event) (agrees : Agrees m s past) (inv : Invariants m s) (a : Actor) where
  drained_told : (kind : EventKind) → EndsDrained s a kind → EndsLast past a kind
  drained_told (event.End how) h = (laws.drained m s past agrees a.core).0 h
  drained_told _ h = tt

  drained_seen : (kind : EventKind) → EndsLast past a kind → EndsDrained s a kind
  drained_seen (event.End how) h = (laws.drained m s past agrees a.core).1 h
  drained_seen _ h = tt

  side_told : (side : Side) (kind : EventKind) → AnswersSide side x s a kind → BelongsTo side x past a kind
  side_told Programs kind h = (h.0, h.1, drained_told kind h.2)
  side_told (Peis seq) kind h = let look = h.1 in (h.0, follows_there m s past agrees a seq look.0 look.1 look.2 kind look.3)
  side_told Messages kind h = tt

  look_seen : (seq : ℕ) (kind : EventKind) → FollowsPei past a kind seq → FollowsLook s a kind seq
  look_seen seq kind h =
      let t = laws.follows m s past agrees a kind seq h
      in let own = same_pei_is t.0.id (pei_id a seq) (found_passes (λ p. same_pei p.id (pei_id a seq)) s.peis t.0 t.1)
      in (t.0, lanes.placed m s a seq t.0 inv t.1 t.2, ap (λ (i : PeiId). i.seq) own, t.3)

  side_seen : (side : Side) (kind : EventKind) → BelongsTo side x past a kind → AnswersSide side x s a kind
  side_seen Programs kind h = (h.0, h.1, drained_seen kind h.2)
  side_seen (Peis seq) kind h = (h.0, look_seen seq kind h.1)
  side_seen Messages kind h = tt

  pub calls_told : (kind : EventKind) → is_actor_of m a ≡ true → AnswersIn x s a kind → AnswersCall x m past a kind
  calls_told kind actor h = (actor, side_told (side_of kind) kind h)

  pub calls_seen : (kind : EventKind) → AnswersCall x m past a kind → AnswersIn x s a kind
  calls_seen kind h = side_seen (side_of kind) kind h.1

-- ---- exclusion

module _ (laws : ExclusionTells) (x : CoreNext) (m : MachineSpec) (s : State) (past : List Event) (agrees : Agrees m s past) (a : Actor) where
  is_free : (t : Bool) → t ≡ false → not t ≡ true
  is_free t e = ap not e

  is_taken : (t : Bool) → not t ≡ true → t ≡ false
  is_taken true e = absurd (cc e)
  is_taken false e = refl

  free_is : (l : PeiLook) → look_in s a.core a.lane ≡ Some l → enters_free m s a (event.Enter l.id.seq) ≡ not (entry_is_taken m s l)
  free_is l found = ap (finds_free m s) found

  pub enters_told : (kind : EventKind) → AnswersIn x s a kind → enters_free m s a kind ≡ true → EntersAlone m past a kind
  enters_told (event.Enter seq) h free =
      let look = h.1
      in let l = look.0
      in let untaken : entry_is_taken m s l ≡ false = is_taken (entry_is_taken m s l) (sym (ap (finds_free m s) look.1) ∙ free)
      in subst (λ (o : Option Pei). IfSome o (λ p. IsTrue (list_all (λ q. not (conflicts m p.block p.op q.block q.op)) (active_peis past)))) (sym (issued_there m s past agrees a seq l look.1 look.2)) ((laws.active m s past l agrees).1 untaken)
  enters_told _ h free = tt

  pub enters_seen : (kind : EventKind) → AnswersIn x s a kind → EntersAlone m past a kind → enters_free m s a kind ≡ true
  enters_seen (event.Enter seq) h alone =
      let look = h.1
      in let l = look.0
      in let there = subst (λ (o : Option Pei). IfSome o (λ p. IsTrue (list_all (λ q. not (conflicts m p.block p.op q.block q.op)) (active_peis past)))) (issued_there m s past agrees a seq l look.1 look.2) alone
      in ap (finds_free m s) look.1 ∙ is_free (entry_is_taken m s l) ((laws.active m s past l agrees).0 there)
  enters_seen _ h alone = refl

-- ---- fences

module _ (laws : AgreementTells) (m : MachineSpec) (s : State) (past : List Event) (agrees : Agrees m s past) (settles : Settles past) (a : Actor) where
  pub fence_told : (kind : EventKind) → EndsFence s a kind → FencesEarlier past a kind
  fence_told event.FenceEnd h = by (fence_is_on a.core past) refl
    where
      by : (t : Bool) → fence_is_on a.core past ≡ t → IsTrue (earlier_writers_left past a.core)
      by false off = settles.over a.core off
      by true on =
          let waits : fence_of s a.core ≡ Some (writers_awaited a.core past) = agrees.fences a.core ∙ ap (λ t. if t then Some (writers_awaited a.core past) else None) on
          in (laws.fence m s past agrees a.core on).0 (waits ∙ ap Some (h (writers_awaited a.core past) waits))
  fence_told _ h = tt

  pub fence_seen : (kind : EventKind) → FencesEarlier past a kind → EndsFence s a kind
  fence_seen event.FenceEnd h = λ waits is. by waits is (fence_is_on a.core past) refl
    where
      by : (waits : List PeiId) → fence_of s a.core ≡ Some waits → (t : Bool) → fence_is_on a.core past ≡ t → waits ≡ []
      by waits is true on =
          let both : Some waits ≡ Some [] = sym is ∙ (laws.fence m s past agrees a.core on).1 h
          in cc both
      by waits is false off =
          let both : Some waits ≡ None = sym is ∙ agrees.fences a.core ∙ ap (λ t. if t then Some (writers_awaited a.core past) else None) off
          in absurd (cc both)
  fence_seen _ h = tt
