-- One event of the pass through a journal.
use Rattle.std.proofs.Common.{◌≡◌, ℕ, suc, ◌+◌, ◌<◌, ◌≤◌, ◌^◌, ◌-◌, true, false, if◌then◌else◌, IsTrue, List, [], ◌∷◌, ◌++◌, length, take, slice_get, Option, Some, None, sym, ◌∙◌, ap, subst, arith}
use Rattle.std.specs.Prelude.{slice_index}
use Rattle.std.proofs.lemmas.Option.{get_or_from_slice_get, slice_get_within}
use Rattle.std.proofs.Math.Seq.{take-suc}
use Rattle.pei_types.specs.declared.identifiers.Actor.{Actor}
use Rattle.pei_types.specs.declared.identifiers.Block.{Block}
use Rattle.pei_types.specs.declared.identifiers.BlockNo.{BlockNo}
use Rattle.pei_types.specs.declared.inflight_looks.PeiLook.{PeiLook}
use Rattle.pei_types.specs.declared.clauses.Clause.{Clause}
use Rattle.pei_types.specs.declared.clauses.Clause.TheVariants as clause
use Rattle.pei_types.specs.declared.events.Event.{Event}
use Rattle.pei_types.specs.declared.events.EventKind.{EventKind}
use Rattle.pei_types.specs.declared.events.EventKind.TheVariants as event
use Rattle.pei_types.specs.declared.machines.MachineSpec.{MachineSpec}
use Rattle.pei_types.specs.Blocks.{block_of, same_block, word_of}
use Rattle.pei_types.specs.Calls.{is_actor_of}
use Rattle.pei_types.specs.MachineState.{State, look_of, next_state, pei_id, state_after}
use Rattle.pei_types.specs.Core.{CoreNext, core_config, next_of_core}
use Rattle.pei_types.specs.FlatMemory.{flat_block, with_word}
use Rattle.pei_types.specs.Legal.{FailsFirst, Meets}
use Rattle.pei_types.specs.Operation.{block_after}
use Rattle.pei_types.specs.Program.{Listing, Contents}
use Rattle.pei_types.proofs.Identities.{core_within}
use Rattle.pei_types.proofs.Lists.{each_weaker}
use Rattle.coherence_laws.specs.Data.{flat_act, next_flat}
use Rattle.coherence_laws.specs.Invariants.{Invariants, IsAsIssued}
use Rattle.core_exec.specs.CoreView.{MayRetire, Standing, is_asking, retires, seen}
use Rattle.core_exec.specs.declared.next.CoreNext.{CoreNext as Told}
use Rattle.history_laws.specs.TrackedPeis.{IsTracked}
use Rattle.machine_laws.specs.InOrder.{RunInOrder}
use Rattle.trace_check.specs.declared.checker.Checker.{Checker}
use Rattle.trace_check.specs.Cores.{CoresGoOn, CoreStops, ended_after}
use Rattle.trace_check.specs.CheckedFront.{Follows}
use Rattle.trace_check.specs.InState.{AnswersIn, FailsIn, FitsMemory, LooksFit, MayApply, MeetsIn}
use Rattle.trace_check.specs.Issues.{AllFit, AreAsIssued, RepliesBy}
use Rattle.trace_check.specs.Laws.{Laws}
use Rattle.trace_check.specs.CheckerParts.{content_of, state_of}
use Rattle.trace_check.proofs.Along.{asking, cores_on, ended_on, get_here, next_told}
use Rattle.trace_check.proofs.Filling.{may_apply}
use Rattle.trace_check.proofs.FromLegal.{all_fit, as_they_were, few_issued, in_order, looks_fit, next_fits}

-- one event more
pub taken : (journal : List Event) (i : ℕ) (e : Event) → slice_get journal i ≡ Some e → take (i + 1) journal ≡ take i journal ++ e ∷ []
taken journal i e here =
    let next : i + 1 ≡ suc i = omega arith
    in ap (λ (n : ℕ). take n journal) next ∙ take-suc journal i e (slice_get_within journal i e here) ∙ ap (λ x. take i journal ++ x ∷ []) (get_or_from_slice_get journal i e e here)

-- flat memory at a block changes by what it is there
flat_at : (s : State) (f g : BlockNo → Block) (a : Actor) (kind : EventKind) (b : BlockNo) → f b ≡ g b → next_flat s f a kind b ≡ next_flat s g a kind b
flat_at s f g a (event.Store addr value) b h = ap (λ x. if same_block (block_of addr) b then with_word x (word_of addr) value else x) h
flat_at s f g a (event.Act seq reply) b h = by (look_of s (pei_id a seq))
  where
    by : (o : Option PeiLook) → flat_act f o b ≡ flat_act g o b
    by None = h
    by (Some p) = ap (λ x. if same_block p.block b then block_after p.op p.operands x else x) h
flat_at s f g a _ b h = h

module _ (laws : Laws) (p : Listing) (m : MachineSpec) (image : Contents) (past : List Event) (v : Checker) (follows : Follows p m image past v) where
  order : RunInOrder p m image past
  order = in_order p m image past laws.legal laws.asks follows.legal

  pub fit_now : AllFit m.blocks past
  fit_now = all_fit p m image past laws.legal laws.asks follows.legal

  pub looks_now : LooksFit m.blocks (state_of v)
  looks_now = subst (LooksFit m.blocks) (sym follows.state) (looks_fit p m image past laws.legal laws.asks follows.legal)

  pub issued_now : AreAsIssued (state_of v) past
  issued_now = subst (λ (s : State). AreAsIssued s past) (sym follows.state) (as_they_were p m image past laws.legal laws.asks follows.legal)

  pub invariants_now : Invariants m (state_of v)
  invariants_now = subst (Invariants m) (sym follows.state) order.invariants

  pub replies_first : (a : Actor) (kind : EventKind) → (RepliesBy m.blocks (content_of v) past a kind → ⊥) → FailsFirst clause.Replies p m image past (record { actor = a; kind = kind })
  replies_first a kind h = laws.tells.replies p m image past (content_of v) a kind follows.legal order follows.memory (looks_fit p m image past laws.legal laws.asks follows.legal) fit_now h

  pub actor_first : (a : Actor) (kind : EventKind) → RepliesBy m.blocks (content_of v) past a kind → is_actor_of m a ≡ false → FailsFirst clause.Calls p m image past (record { actor = a; kind = kind })
  actor_first a kind r h = laws.tells.actor p m image past (content_of v) a kind follows.legal order follows.memory (looks_fit p m image past laws.legal laws.asks follows.legal) fit_now r h

  -- ---- the core has run to its next call

  module _ (e : Event) (mid : List Standing) (told : Told) (actor : is_actor_of m e.actor ≡ true) (ran : CoreStops p (core_config m) v.cores mid e.actor.core told) where
    pub told_next : seen told ≡ next_of_core p m image past e.actor.core
    told_next = ran.6 ∙ next_told laws.stops p m image past e.actor.core ran.0.state (follows.cores e.actor.core ran.0 (core_within m e.actor actor) ran.1)

    pub fits_now : FitsMemory m.blocks (seen told)
    fits_now = subst (FitsMemory m.blocks) (sym told_next) (next_fits p m laws.asks image past e.actor.core)

    pub clause_first : (c : Clause) (i : ℕ) → i ≡ length past → RepliesBy m.blocks (content_of v) past e.actor e.kind → FailsIn c (seen told) m (state_of v) (content_of v) i e.actor e.kind → FailsFirst c p m image past e
    clause_first c i at r h =
        laws.tells.fails p m image past (content_of v) e.actor e.kind follows.legal order follows.memory (looks_fit p m image past laws.legal laws.asks follows.legal) fit_now r actor (next_fits p m laws.asks image past e.actor.core) c i at
        (subst (λ (x : CoreNext). FailsIn c x m (state_after m past) (content_of v) i e.actor e.kind) told_next (subst (λ (s : State). FailsIn c (seen told) m s (content_of v) i e.actor e.kind) follows.state h))

    pub may_now : length past < 2 ^ 32 - 1 → MeetsIn (seen told) m (state_of v) (content_of v) e.actor e.kind → MayApply m (state_of v) e.actor e.kind
    may_now short meets =
        let few : slice_index (state_after m past).issues e.actor.core.0 ≤ length past = few_issued p m image past laws.legal laws.asks follows.legal e.actor.core
        in let same : slice_index (state_of v).issues e.actor.core.0 ≡ slice_index (state_after m past).issues e.actor.core.0 = ap (λ (s : State). slice_index s.issues e.actor.core.0) follows.state
        in may_apply (seen told) m (state_of v) (content_of v) e.actor e.kind fits_now looks_now (omega (arith, few, same, short)) meets

    -- an answer that retires an instruction is one to a request
    asks_by : (k : EventKind) → AnswersIn (seen told) (state_of v) e.actor k → IsTrue (retires k) → IsTrue (is_asking told)
    asks_by (event.Load addr value) h r = asking told (event.Load addr value) h.1 r
    asks_by (event.Store addr value) h r = asking told (event.Store addr value) h.1 r
    asks_by (event.Issue seq lane o b operands) h r = asking told (event.Issue seq lane o b operands) h.1 r
    asks_by event.FenceEnd h r = asking told event.FenceEnd h.1 r
    asks_by (event.Out value) h r = asking told (event.Out value) h.1 r
    asks_by _ h r = absurd (cc r)

    pub ready_now : AnswersIn (seen told) (state_of v) e.actor e.kind → (s : Standing) → slice_get mid e.actor.core.0 ≡ Some s → IsTrue (retires e.kind) → MayRetire s
    ready_now h s found r =
        let there : slice_get mid e.actor.core.0 ≡ Some ran.2 = ap (λ xs. slice_get xs e.actor.core.0) ran.3 ∙ get_here v.cores e.actor.core.0 ran.0 ran.2 ran.1
        in let both : Some ran.2 ≡ Some s = sym there ∙ found
        in let same : ran.2 ≡ s = cc both
        in subst MayRetire same (ran.7 (asks_by e.kind h r))

    -- ---- the event has its effect

    pub follows_on : (w : Checker) → w.machine ≡ m → state_of w ≡ next_state m (state_of v) e.actor e.kind → ((b : BlockNo) → content_of w b ≡ next_flat (state_of v) (content_of v) e.actor e.kind b) → w.ended ≡ ended_after v.ended e → CoresGoOn p mid w.cores e → length past < m.events → MeetsIn (seen told) m (state_of v) (content_of v) e.actor e.kind → Follows p m image (past ++ e ∷ []) w
    follows_on w machine state content ended cores room meets =
        let there : MeetsIn (next_of_core p m image past e.actor.core) m (state_after m past) (content_of v) e.actor e.kind =
        subst (λ (x : CoreNext). MeetsIn x m (state_after m past) (content_of v) e.actor e.kind) told_next (subst (λ (s : State). MeetsIn (seen told) m s (content_of v) e.actor e.kind) follows.state meets)
        in let all : Meets p m image past e = laws.tells.meets p m image past (content_of v) e order follows.memory (looks_fit p m image past laws.legal laws.asks follows.legal) (next_fits p m laws.asks image past e.actor.core) actor room there
        in record {
          machine = machine;
          legal = laws.grows.grows p m image past e follows.legal all;
          state = state ∙ ap (λ s. next_state m s e.actor e.kind) follows.state ∙ sym (laws.folds.state m past e);
          memory = λ b inside.
              content b ∙ flat_at (state_of v) (content_of v) (flat_block image past) e.actor e.kind b (follows.memory b inside)
              ∙ ap (λ s. next_flat s (flat_block image past) e.actor e.kind b) follows.state
              ∙ sym (laws.flat m image past e.actor e.kind b (each_weaker (IsTracked past) (IsAsIssued past) (λ l t. t.found) (state_after m past).peis order.run.sound.agrees.tracked) there.guarded);
          cores = cores_on laws.folds p m image past e v.cores mid w.cores told follows.cores (core_within m e.actor actor) ran cores;
          ended = ended ∙ ap (λ xs. ended_after xs e) follows.ended ∙ ended_on laws.folds past e;
        }
