-- An event that fits its actor meets each clause on the flat machine.
use Rattle.std.proofs.Common.{◌≡◌, ◌⊎◌, inl, inr, ℕ, ◌<◌, Bool, true, false, not, ◌&&◌, ◌||◌, List, [], ◌∷◌, ◌++◌, filter, find, Option, Some, None, option_map, is_none, IsTrue, IfSome, MatchOption, refl, sym, ◌∙◌, ap, ap₂, subst, arith, eqb, eqb-true, eq-eqb, slice_index}
use Rattle.std.specs.List.{list_any, list_all, cons_option}
use Rattle.std.proofs.lemmas.List.{append_assoc}
use Rattle.std.proofs.lemmas.List.Folds.{list_any-append, list_all-map}
use Rattle.pei_types.specs.declared.identifiers.Actor.{Actor}
use Rattle.pei_types.specs.declared.identifiers.BlockNo.{BlockNo}
use Rattle.pei_types.specs.declared.identifiers.CoreId.{CoreId}
use Rattle.pei_types.specs.declared.identifiers.PeiId.{PeiId}
use Rattle.pei_types.specs.declared.operations.Reply.{Reply}
use Rattle.pei_types.specs.declared.inflight_looks.PeiLook.{PeiLook}
use Rattle.pei_types.specs.declared.inflight_looks.Phase.{Phase}
use Rattle.pei_types.specs.declared.inflight_looks.Phase.TheVariants as phase
use Rattle.pei_types.specs.declared.events.Event.{Event}
use Rattle.pei_types.specs.declared.events.EventKind.{EventKind}
use Rattle.pei_types.specs.declared.events.EventKind.TheVariants as event
use Rattle.pei_types.specs.declared.machines.MachineSpec.{MachineSpec}
use Rattle.pei_types.specs.Blocks.{block_of, same_block, same_core, same_lane, same_pei, entry_of}
use Rattle.pei_types.specs.Calls.{AnswersCall, AnswersNext, FollowsPei, follows_phase}
use Rattle.pei_types.specs.MachineState.{State, conflict, look_in, is_phase, pei_id}
use Rattle.pei_types.specs.Core.{CoreNext}
use Rattle.pei_types.specs.Exclusion.{conflicts, EntersAlone}
use Rattle.pei_types.specs.Fence.{FencesEarlier}
use Rattle.pei_types.specs.FlatMemory.{flat_block}
use Rattle.pei_types.specs.Guard.{waits_for_none}
use Rattle.pei_types.specs.History.{Pei, issued_peis, pei_issued_by, pei_of, phase_of, has_acted, has_left, active_peis, ends_fence, before_issue}
use Rattle.pei_types.specs.Legal.{MeetsFlat}
use Rattle.pei_types.specs.Operation.{is_writer, reply_of}
use Rattle.pei_types.specs.Order.{IsInOrder, comes_first, has_acted_if_first, earlier_acted}
use Rattle.pei_types.specs.Program.{Contents}
use Rattle.pei_types.specs.Race.{RacesRightly}
use Rattle.pei_types.specs.Replies.{RepliesRightly}
use Rattle.history_laws.specs.Members.{In}
use Rattle.history_laws.specs.TrackedPeis.{as_issued, is_past_issue, Agrees, issues_next, fence_is_on, fence_in}
use Rattle.history_laws.specs.EntryOrder.{InTurn, enters_rightly}
use Rattle.history_laws.specs.Fences.{Settles, fences_rightly}
use Rattle.history_laws.specs.Fits.{Fits, FitsProgram, FitsPei, AsksForFence}
use Rattle.history_laws.proofs.Lists.{find_Some, find_None, find_first, in_filter, filter_in, in_map, all_in, any_false, or_parts_cases}
use Rattle.history_laws.proofs.Derived.{look_tracked, look_unfinished, look_same, conflict_agrees, active_agrees, all_left_agrees, fence_ends_rightly}
use Rattle.history_laws.proofs.Entering.{issued_rise}
use Rattle.history_laws.proofs.Issues.{IssuedAt, issued_at}
use Rattle.std.proofs.Math.Bool.{or_comm}
use Rattle.pei_types.proofs.Identities.{same_block_is, same_pei_refl, same_pei_is, same_core_is}
use Rattle.std.proofs.lemmas.Bool.{and_parts}

-- ---- the PEI of an event

-- a PEI in the actor's lane that the event is about
pub record IsOf (m : MachineSpec) (s : State) (journal : List Event) (a : Actor) (seq : ℕ) (l : PeiLook) : Type 0 where
  pub here : In l s.peis
  pub named : l.id ≡ pei_id a seq
  pub lane : same_lane l.lane a.lane ≡ true
  pub found : pei_of journal (pei_id a seq) ≡ Some (as_issued l)
  pub stands : phase_of journal (pei_id a seq) ≡ Some l.phase

join_id : CoreId → ℕ → PeiId
join_id c n = record { core = c; seq = n }

pub of_lane : (m : MachineSpec) (s : State) (journal : List Event) (a : Actor) (seq : ℕ) (l : PeiLook) → Agrees m s journal → look_in s a.core a.lane ≡ Some l → l.id.seq ≡ seq → IsOf m s journal a seq l
unfolding join_id
of_lane m s journal a seq l g h n =
    let seen = find_Some (λ p. same_core p.id.core a.core && same_lane p.lane a.lane) s.peis l h
    in let both = and_parts (same_core l.id.core a.core) (same_lane l.lane a.lane) seen.1
    in let named : l.id ≡ pei_id a seq = ap₂ join_id (same_core_is l.id.core a.core both.0) n
    in let t = look_tracked m s journal g l seen.0
    in record {
      here = seen.0;
      named = named;
      lane = both.1;
      found = ap (pei_of journal) (sym named) ∙ t.found;
      stands = ap (phase_of journal) (sym named) ∙ t.stands;
    }

-- ---- Calls

match_some : {A : Type 0} (Q : A → Type 0) (o : Option A) (x : A) → o ≡ Some x → Q x → MatchOption o ⊥ Q
match_some Q o x e q = rw e q

if_some : {A : Type 0} (Q : A → Type 0) (o : Option A) (x : A) → o ≡ Some x → Q x → IfSome o Q
if_some Q o x e q = rw e q

follows_pei : (m : MachineSpec) (image : Contents) (s : State) (journal : List Event) (a : Actor) (kind : EventKind) (seq : ℕ) → Agrees m s journal → FitsPei m image journal s a kind seq → FollowsPei journal a kind seq
follows_pei m image s journal a kind seq g f =
    let o = of_lane m s journal a seq f.0 g f.1 f.2
    in (
      match_some (λ p. IsTrue (same_lane p.lane a.lane)) (pei_of journal (pei_id a seq)) (as_issued f.0) o.found o.lane,
      match_some (λ ph. IsTrue (follows_phase ph kind)) (phase_of journal (pei_id a seq)) f.0.phase o.stands f.3,
    )

-- The event answers the core's call, or is its PEI's next.
pub meets_calls : (x : CoreNext) (m : MachineSpec) (image : Contents) (s : State) (journal : List Event) (a : Actor) (kind : EventKind) → Agrees m s journal → Fits x m image journal s a kind → AnswersCall x m journal a kind
meets_calls x m image s journal a (event.Load addr value) g f = (f.0, (f.1.0, rw f.1.1.1 refl, tt))
meets_calls x m image s journal a (event.Store addr value) g f = (f.0, (f.1.0, rw f.1.1.1 (refl, refl), tt))
meets_calls x m image s journal a (event.Race pc b by) g f = (f.0, (f.1.0, answer f.1.1, tt))
  where
    answer : FitsProgram x m image journal s a (event.Race pc b by) → AnswersNext x (event.Race pc b by)
    answer (inl r) = rw r.2 (refl, r.1)
    answer (inr r) = rw r.3 (refl, r.2)
meets_calls x m image s journal a (event.Issue seq lane o b operands) g f = (f.0, (f.1.0, rw f.1.1.0 (refl, refl, refl), tt))
meets_calls x m image s journal a event.FenceBegin g f = (f.0, (f.1.0, rw f.1.1.0 tt, tt))
meets_calls x m image s journal a event.FenceEnd g f = (f.0, (f.1.0, rw f.1.1.0 tt, tt))
meets_calls x m image s journal a (event.Out value) g f = (f.0, (f.1.0, rw f.1.1 refl, tt))
meets_calls x m image s journal a (event.End kind) g f = (f.0, (f.1.0, rw f.1.1.0 refl, (all_left_agrees m s journal g a.core).0 f.1.1.1))
meets_calls x m image s journal a (event.Enter seq) g f = (f.0, (f.1.0, follows_pei m image s journal a (event.Enter seq) seq g f.1.1))
meets_calls x m image s journal a (event.Place seq where_to) g f = (f.0, (f.1.0, follows_pei m image s journal a (event.Place seq where_to) seq g f.1.1))
meets_calls x m image s journal a (event.Read seq) g f = (f.0, (f.1.0, follows_pei m image s journal a (event.Read seq) seq g f.1.1))
meets_calls x m image s journal a (event.Seal seq vault) g f = (f.0, (f.1.0, follows_pei m image s journal a (event.Seal seq vault) seq g f.1.1))
meets_calls x m image s journal a (event.Act seq reply) g f = (f.0, (f.1.0, follows_pei m image s journal a (event.Act seq reply) seq g f.1.1))
meets_calls x m image s journal a (event.Leave seq) g f = (f.0, (f.1.0, follows_pei m image s journal a (event.Leave seq) seq g f.1.1))
meets_calls x m image s journal a _ g f = (f.0, tt)

-- ---- Replies

-- The reply is that of the flat memory.
pub meets_replies : (x : CoreNext) (m : MachineSpec) (image : Contents) (s : State) (journal : List Event) (a : Actor) (kind : EventKind) → Agrees m s journal → Fits x m image journal s a kind → RepliesRightly m image journal a kind
meets_replies x m image s journal a (event.Load addr value) g f = λ _. f.1.1.3
meets_replies x m image s journal a (event.Act seq reply) g f =
    if_some (λ p. reply ≡ reply_of p.op p.operands (flat_block image journal p.block)) (pei_of journal (pei_id a seq)) (as_issued f.1.1.0) (of_lane m s journal a seq f.1.1.0 g f.1.1.1 f.1.1.2).found f.1.1.4
meets_replies x m image s journal a _ g f = tt

-- ---- Directory

-- A PEI enters where no active one conflicts with it.
pub meets_directory : (x : CoreNext) (m : MachineSpec) (image : Contents) (s : State) (journal : List Event) (a : Actor) (kind : EventKind) → Agrees m s journal → Fits x m image journal s a kind → EntersAlone m journal a kind
meets_directory x m image s journal a (event.Enter seq) g f =
    if_some (λ p. IsTrue (list_all (λ q. not (conflicts m p.block p.op q.block q.op)) (active_peis journal))) (pei_of journal (pei_id a seq)) (as_issued l) (of_lane m s journal a seq l g f.1.1.1 f.1.1.2).found
    (ap (list_all (λ q. not (conflicts m l.block l.op q.block q.op))) (active_agrees m s journal g)
    ∙ list_all-map (λ q. not (conflicts m l.block l.op q.block q.op)) as_issued (filter is_past_issue s.peis)
    ∙ all_in (λ q. not (conflicts m l.block l.op q.block q.op)) (filter is_past_issue s.peis) (λ q i. apart q (in_filter is_past_issue s.peis q i)))
  where
    l : PeiLook
    l = f.1.1.0

    apart : (q : PeiLook) → In q s.peis × (is_past_issue q ≡ true) → not (conflicts m l.block l.op q.block q.op) ≡ true
    apart q h = ap not (ap (λ z. z && conflicts m l.block l.op q.block q.op) (sym h.1) ∙ any_false (λ z. is_past_issue z && conflicts m l.block l.op z.block z.op) s.peis q f.1.1.4.1 h.0)
meets_directory x m image s journal a _ g f = tt

-- ---- Fence and Race

pub meets_fence : (x : CoreNext) (m : MachineSpec) (image : Contents) (s : State) (journal : List Event) (a : Actor) (kind : EventKind) → Agrees m s journal → Fits x m image journal s a kind → FencesEarlier journal a kind
meets_fence x m image s journal a event.FenceEnd g f = fence_ends_rightly m s journal g a.core f.1.1.1
meets_fence x m image s journal a _ g f = tt

pub meets_race : (x : CoreNext) (m : MachineSpec) (image : Contents) (s : State) (journal : List Event) (a : Actor) (kind : EventKind) → Agrees m s journal → Fits x m image journal s a kind → RacesRightly x journal kind
meets_race x m image s journal a (event.Load addr value) g f = sym (conflict_agrees m s journal g (block_of addr) false) ∙ f.1.1.2
meets_race x m image s journal a (event.Store addr value) g f = sym (conflict_agrees m s journal g (block_of addr) true) ∙ f.1.1.2
meets_race x m image s journal a (event.Race pc b by) g f = races f.1.1
  where
    races : FitsProgram x m image journal s a (event.Race pc b by) → RacesRightly x journal (event.Race pc b by)
    races (inl r) = rw r.2 (sym (conflict_agrees m s journal g (block_of r.0) false) ∙ r.3)
    races (inr r) = rw r.3 (sym (conflict_agrees m s journal g (block_of r.0) true) ∙ r.4)
meets_race x m image s journal a _ g f = tt

-- ---- Order

-- each earlier PEI that comes first has acted, where each one by itself has
pub earlier_acted_by : (acted : PeiId → Bool) (c : CoreId) (b : BlockNo) (writes : Bool) (earlier : List Event) → ((front rest : List Event) (e : Event) (p : Pei) → earlier ≡ front ++ e ∷ rest → pei_issued_by e.actor e.kind ≡ Some p → comes_first c b writes rest p ≡ true → acted p.id ≡ true) → earlier_acted acted c b writes earlier ≡ true
earlier_acted_by acted c b writes [] h = refl
earlier_acted_by acted c b writes (e ∷ rest) h =
    rw (one (pei_issued_by e.actor e.kind) refl) (earlier_acted_by acted c b writes rest (λ front tail d p same. h (e ∷ front) tail d p (ap (λ zs. e ∷ zs) same)))
  where
    one : (o : Option Pei) → pei_issued_by e.actor e.kind ≡ o → has_acted_if_first acted c b writes rest o ≡ true
    one None same = refl
    one (Some p) same = by (comes_first c b writes rest p) refl
      where
        by : (first : Bool) → comes_first c b writes rest p ≡ first → (not first || acted p.id) ≡ true
        by true k = h [] rest e p refl same k
        by false k = refl

-- the PEI that an event issues is among those issued
pub issued_in : (front rest : List Event) (e : Event) (p : Pei) → pei_issued_by e.actor e.kind ≡ Some p → In p (issued_peis (front ++ e ∷ rest))
issued_in [] rest e p h = rw h (inl refl)
issued_in (y ∷ front) rest e p h = under (pei_issued_by y.actor y.kind) (issued_in front rest e p h)
  where
    under : (o : Option Pei) → In p (issued_peis (front ++ e ∷ rest)) → In p (cons_option o (issued_peis (front ++ e ∷ rest)))
    under None i = i
    under (Some q) i = inr i

-- a PEI that was issued has left, or is one of the state's
left_or_look : (m : MachineSpec) (s : State) (journal : List Event) → Agrees m s journal → (p : Pei) → In p (issued_peis journal) → (has_left journal p.id ≡ true) ⊎ ((l : PeiLook) × In l s.peis × (p ≡ as_issued l))
left_or_look m s journal g p i = by (has_left journal p.id) refl
  where
    by : (b : Bool) → has_left journal p.id ≡ b → (has_left journal p.id ≡ true) ⊎ ((l : PeiLook) × In l s.peis × (p ≡ as_issued l))
    by true h = inl h
    by false h = inr (in_map as_issued s.peis p (subst (In p) g.unfinished (filter_in (λ q. not (has_left journal q.id)) (issued_peis journal) p i (ap not h))))

-- what comes first is on the block, or stands before a fence
first_cases : (c : CoreId) (b : BlockNo) (writes : Bool) (rest : List Event) (p : Pei) → comes_first c b writes rest p ≡ true → (same_core p.id.core c ≡ true) × (((same_block p.block b && (is_writer p.op || writes)) ≡ true) ⊎ ((is_writer p.op ≡ true) × (list_any (ends_fence c) rest ≡ true)))
first_cases c b writes rest p h =
    let both = and_parts (same_core p.id.core c) (same_block p.block b && (is_writer p.op || writes) || is_writer p.op && list_any (ends_fence c) rest) h
    in (both.0, by (or_parts_cases (same_block p.block b && (is_writer p.op || writes)) (is_writer p.op && list_any (ends_fence c) rest) both.1))
  where
    by : ((same_block p.block b && (is_writer p.op || writes)) ≡ true) ⊎ ((is_writer p.op && list_any (ends_fence c) rest) ≡ true) → ((same_block p.block b && (is_writer p.op || writes)) ≡ true) ⊎ ((is_writer p.op ≡ true) × (list_any (ends_fence c) rest ≡ true))
    by (inl k) = inl k
    by (inr k) = inr (and_parts (is_writer p.op) (list_any (ends_fence c) rest) k)

-- an access that races with nothing
access_in_order : (m : MachineSpec) (s : State) (journal : List Event) (c : CoreId) (b : BlockNo) (writes : Bool) → conflict s b writes ≡ None → Agrees m s journal → Settles journal → IsTrue (earlier_acted (has_acted journal) c b writes journal)
access_in_order m s journal c b writes none g st = earlier_acted_by (has_acted journal) c b writes journal one
  where
    no_look : (o : Option PeiLook) → option_map (λ l. l.id) o ≡ None → o ≡ None
    no_look None h = refl
    no_look (Some l) h = absurd (cc h)

    one : (front rest : List Event) (e : Event) (p : Pei) → journal ≡ front ++ e ∷ rest → pei_issued_by e.actor e.kind ≡ Some p → comes_first c b writes rest p ≡ true → has_acted journal p.id ≡ true
    one front rest e p same issue first = g.left_acted p.id (by (first_cases c b writes rest p first).1)
      where
        here : In p (issued_peis journal)
        here = subst (λ zs. In p (issued_peis zs)) (sym same) (issued_in front rest e p issue)

        on_block : (same_block p.block b && (is_writer p.op || writes)) ≡ true → (has_left journal p.id ≡ true) ⊎ ((l : PeiLook) × In l s.peis × (p ≡ as_issued l)) → has_left journal p.id ≡ true
        on_block k (inl left) = left
        on_block k (inr r) =
            absurd (cc (sym k ∙ ap (λ x. same_block p.block b && x) (or_comm (is_writer p.op) writes)
            ∙ ap (λ q. same_block q.block b && (writes || is_writer q.op)) r.2
            ∙ find_None (λ l. same_block l.block b && (writes || is_writer l.op)) s.peis r.0 (no_look (find (λ l. same_block l.block b && (writes || is_writer l.op)) s.peis) none) r.1))

        by : ((same_block p.block b && (is_writer p.op || writes)) ≡ true) ⊎ ((is_writer p.op ≡ true) × (list_any (ends_fence c) rest ≡ true)) → has_left journal p.id ≡ true
        by (inl k) = on_block k (left_or_look m s journal g p here)
        by (inr k) = st.settled c front rest e p same issue (first_cases c b writes rest p first).0 k.0 k.1

-- an active PEI acts behind those that come first
act_in_order : (m : MachineSpec) (s : State) (journal : List Event) (l : PeiLook) → In l s.peis → is_past_issue l ≡ true → Agrees m s journal → InTurn m s → Settles journal → IsTrue (earlier_acted (has_acted journal) l.id.core l.block (is_writer l.op) (before_issue l.id journal))
act_in_order m s journal l i past g turn st = earlier_acted_by (has_acted journal) l.id.core l.block (is_writer l.op) (before_issue l.id journal) one
  where
    issued : In (as_issued l) (issued_peis journal)
    issued = (in_filter (λ p. not (has_left journal p.id)) (issued_peis journal) (as_issued l) (look_unfinished m s journal g l i)).0

    at : IssuedAt journal l.id
    at = issued_at journal (as_issued l) (issued_rise m s journal g) issued

    one : (front rest : List Event) (e : Event) (p : Pei) → before_issue l.id journal ≡ front ++ e ∷ rest → pei_issued_by e.actor e.kind ≡ Some p → comes_first l.id.core l.block (is_writer l.op) rest p ≡ true → has_acted journal p.id ≡ true
    one front rest e p same issue first = g.left_acted p.id (by cases.1)
      where
        cases : (same_core p.id.core l.id.core ≡ true) × (((same_block p.block l.block && (is_writer p.op || is_writer l.op)) ≡ true) ⊎ ((is_writer p.op ≡ true) × (list_any (ends_fence l.id.core) rest ≡ true)))
        cases = first_cases l.id.core l.block (is_writer l.op) rest p first

        before : In p (issued_peis (before_issue l.id journal))
        before = subst (λ zs. In p (issued_peis zs)) (sym same) (issued_in front rest e p issue)

        whole : journal ≡ front ++ e ∷ (rest ++ at.rest)
        whole = at.split ∙ ap (λ zs. zs ++ at.rest) same ∙ append_assoc front (e ∷ rest) at.rest

        here : In p (issued_peis journal)
        here = subst (λ zs. In p (issued_peis zs)) (sym whole) (issued_in front (rest ++ at.rest) e p issue)

        excluded : (k : PeiLook) → In k s.peis → p ≡ as_issued k → (same_block p.block l.block && (is_writer p.op || is_writer l.op)) ≡ true → ⊥
        excluded k j r both =
            let own : same_core k.id.core l.id.core ≡ true = subst (λ z. same_core z.id.core l.id.core ≡ true) r cases.0
            in let lower : k.id.seq < l.id.seq = subst (λ z. z.id.seq < l.id.seq) r (at.lower p before cases.0)
            in let other : same_pei k.id l.id ≡ false = differ k lower (same_pei k.id l.id) refl
            in let parts = and_parts (same_block k.block l.block) (is_writer k.op || is_writer l.op) (subst (λ z. (same_block z.block l.block && (is_writer z.op || is_writer l.op)) ≡ true) r both)
            in let entry : eqb (entry_of m k.block) (entry_of m l.block) ≡ true = eq-eqb (entry_of m k.block) (entry_of m l.block) (ap (entry_of m) (same_block_is k.block l.block parts.0))
            in absurd (cc (sym (conflict_of entry parts.1) ∙ turn.alone k l j i other (turn.entered k l j i own lower past) past))
          where
            conflict_of : eqb (entry_of m k.block) (entry_of m l.block) ≡ true → (is_writer k.op || is_writer l.op) ≡ true → conflicts m k.block k.op l.block l.op ≡ true
            conflict_of u v = rw (u, v) refl

            differ : (z : PeiLook) → z.id.seq < l.id.seq → (b : Bool) → same_pei z.id l.id ≡ b → same_pei z.id l.id ≡ false
            differ z u true h = absurd (irreflexive (eqb-true z.id.seq l.id.seq (and_parts (same_core z.id.core l.id.core) (eqb z.id.seq l.id.seq) h).1))
              where
                irreflexive : z.id.seq ≡ l.id.seq → ⊥
                irreflexive w = omega (arith, w, u)
            differ z u false h = h

        by : ((same_block p.block l.block && (is_writer p.op || is_writer l.op)) ≡ true) ⊎ ((is_writer p.op ≡ true) × (list_any (ends_fence l.id.core) rest ≡ true)) → has_left journal p.id ≡ true
        by (inl both) = go (left_or_look m s journal g p here)
          where
            go : (has_left journal p.id ≡ true) ⊎ ((k : PeiLook) × In k s.peis × (p ≡ as_issued k)) → has_left journal p.id ≡ true
            go (inl left) = left
            go (inr r) = absurd (excluded r.0 r.1 r.2 both)
        by (inr k) =
            st.settled l.id.core front (rest ++ at.rest) e p whole issue cases.0 k.0
            (list_any-append (ends_fence l.id.core) rest at.rest ∙ ap (λ b. b || list_any (ends_fence l.id.core) at.rest) k.1)

acts_past : (ph : Phase) (seq : ℕ) (reply : Reply) → follows_phase ph (event.Act seq reply) ≡ true → not (is_phase ph phase.Issued) ≡ true
acts_past phase.Issued seq reply h = absurd (cc h)
acts_past _ seq reply h = refl

-- The operations of one core take their places in order.
pub meets_order : (x : CoreNext) (m : MachineSpec) (image : Contents) (s : State) (journal : List Event) (a : Actor) (kind : EventKind) → Agrees m s journal → InTurn m s → Settles journal → Fits x m image journal s a kind → IsInOrder journal a kind
meets_order x m image s journal a (event.Load addr value) g turn st f = access_in_order m s journal a.core (block_of addr) false f.1.1.2 g st
meets_order x m image s journal a (event.Store addr value) g turn st f = access_in_order m s journal a.core (block_of addr) true f.1.1.2 g st
meets_order x m image s journal a (event.Act seq reply) g turn st f =
    let l = f.1.1.0
    in let o = of_lane m s journal a seq l g f.1.1.1 f.1.1.2
    in if_some (λ p. IsTrue (earlier_acted (has_acted journal) a.core p.block (is_writer p.op) (before_issue p.id journal))) (pei_of journal (pei_id a seq)) (as_issued l) o.found
    (subst (λ c. IsTrue (earlier_acted (has_acted journal) c l.block (is_writer l.op) (before_issue l.id journal))) (ap (λ d. d.core) o.named) (act_in_order m s journal l o.here (acts_past l.phase seq reply f.1.1.3) g turn st))
meets_order x m image s journal a _ g turn st f = tt

-- ---- all clauses

-- An event that fits its actor meets the clauses on the flat machine.
pub meets_flat : (x : CoreNext) (m : MachineSpec) (image : Contents) (s : State) (journal : List Event) (a : Actor) (kind : EventKind) → Agrees m s journal → InTurn m s → Settles journal → Fits x m image journal s a kind → MeetsFlat x m image journal (record { actor = a; kind = kind })
meets_flat x m image s journal a kind g turn st f =
    record {
      replies = meets_replies x m image s journal a kind g f;
      calls = meets_calls x m image s journal a kind g f;
      order = meets_order x m image s journal a kind g turn st f;
      directory = meets_directory x m image s journal a kind g f;
      fence = meets_fence x m image s journal a kind g f;
      race = meets_race x m image s journal a kind g f;
    }

-- ---- what the next event needs

pub numbers_rightly : (x : CoreNext) (m : MachineSpec) (image : Contents) (s : State) (journal : List Event) (a : Actor) (kind : EventKind) → Fits x m image journal s a kind → IsTrue (issues_next s a kind)
numbers_rightly x m image s journal a (event.Issue seq lane o b operands) f = eq-eqb seq (slice_index s.issues a.core.0) f.1.1.1
numbers_rightly x m image s journal a _ f = refl

pub fits_entering : (x : CoreNext) (m : MachineSpec) (image : Contents) (s : State) (journal : List Event) (a : Actor) (kind : EventKind) → Agrees m s journal → Fits x m image journal s a kind → IsTrue (enters_rightly m s a kind)
fits_entering x m image s journal a (event.Enter seq) g f =
    let l = f.1.1.0
    in let o = of_lane m s journal a seq l g f.1.1.1 f.1.1.2
    in let found = find_first (λ p. same_pei p.id (pei_id a seq)) s.peis l o.here (rw o.named (same_pei_refl (pei_id a seq)))
    in let seen = find_Some (λ p. same_pei p.id (pei_id a seq)) s.peis found.0 found.1
    in let same : found.0 ≡ l = look_same m s journal g found.0 l seen.0 o.here (same_pei_is found.0.id (pei_id a seq) seen.1 ∙ sym o.named)
    in rw (found.1, same, f.1.1.4.0, f.1.1.4.1, same_pei_refl l.id) refl
fits_entering x m image s journal a _ g f = refl

pub fits_fences : (x : CoreNext) (m : MachineSpec) (image : Contents) (s : State) (journal : List Event) (a : Actor) (kind : EventKind) → Agrees m s journal → AsksForFence x journal a.core → Fits x m image journal s a kind → IsTrue (fences_rightly s a kind)
fits_fences x m image s journal a (event.Issue seq lane o b operands) g asks f = ap is_none (g.fences a.core ∙ by (fence_is_on a.core journal) refl)
  where
    by : (on : Bool) → fence_is_on a.core journal ≡ on → fence_in a.core journal ≡ None
    by true h = absurd (cc (sym (asks h) ∙ f.1.1.0))
    by false h = rw h refl
fits_fences x m image s journal a event.FenceEnd g asks f = ap waits_for_none f.1.1.1
fits_fences x m image s journal a _ g asks f = refl
