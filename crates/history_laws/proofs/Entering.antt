-- PEIs enter in turn, and exclude each other.
use Rattle.std.proofs.Common.{◌≡◌, ◌⊎◌, inl, inr, ℕ, suc, ◌<◌, Bool, true, false, not, ◌&&◌, ◌||◌, cond, if◌then◌else◌, List, [], ◌∷◌, ◌++◌, map, find, Option, Some, None, option_map, IsTrue, MatchOption, AllPairs, refl, sym, ◌∙◌, ap, ap₂, subst, arith, eqb-true, slice_index}
use Rattle.std.specs.List.{AllByRecursion}
use Rattle.std.specs.Prelude.{⊤}
use Rattle.std.proofs.lemmas.List.Kept.{AllPairs-filter}
use Rattle.std.proofs.lemmas.List.Elements.{recursion_from_All}
use Rattle.std.proofs.lemmas.Option.{MatchOption-at_some, same_Some}
use Rattle.pei_types.specs.declared.identifiers.Actor.{Actor}
use Rattle.pei_types.specs.declared.identifiers.BlockNo.{BlockNo}
use Rattle.pei_types.specs.declared.identifiers.PeiId.{PeiId}
use Rattle.pei_types.specs.declared.operations.Op.{Op}
use Rattle.pei_types.specs.declared.operations.Place.TheVariants as place
use Rattle.pei_types.specs.declared.inflight_looks.PeiLook.{PeiLook}
use Rattle.pei_types.specs.declared.inflight_looks.Phase.{Phase}
use Rattle.pei_types.specs.declared.inflight_looks.Phase.TheVariants as phase
use Rattle.pei_types.specs.declared.events.Event.{Event}
use Rattle.pei_types.specs.declared.events.EventKind.{EventKind}
use Rattle.pei_types.specs.declared.events.EventKind.TheVariants as event
use Rattle.pei_types.specs.declared.machines.MachineSpec.{MachineSpec}
use Rattle.pei_types.specs.Blocks.{same_core, same_pei, entry_of}
use Rattle.pei_types.specs.Calls.{AnswersCall, follows_phase}
use Rattle.pei_types.specs.MachineState.{State, start_state, next_state, look_of, is_phase, pei_id, with_phase, first_unentered, entry_is_taken}
use Rattle.pei_types.specs.Core.{CoreNext}
use Rattle.pei_types.specs.Exclusion.{conflicts}
use Rattle.pei_types.specs.Guard.{is_pei, pei_guard}
use Rattle.pei_types.specs.History.{Pei, issued_peis, phase_of, has_left, unfinished_peis, is_enter}
use Rattle.pei_types.specs.Operation.{is_writer}
use Rattle.history_laws.specs.Members.{In}
use Rattle.history_laws.specs.TrackedPeis.{as_issued, is_past_issue, issue_count, Agrees, issues_next}
use Rattle.history_laws.specs.EntryOrder.{InTurn, enters_rightly}
use Rattle.history_laws.proofs.Lists.{each_of, find_Some, any_false, in_filter, in_push, in_map}
use Rattle.history_laws.proofs.Agree.{moved, Moves, new_look}
use Rattle.history_laws.proofs.Steps.{moves_place_host, moves_place_memory, moves_read, moves_seal, moves_act, keeps_placing, keeps_reading, keeps_acting, keeps_invalidating, keeps_downgrading}
use Rattle.history_laws.proofs.Derived.{look_tracked, look_below, look_same}
use Rattle.std.proofs.lemmas.Bool.{not-true, and_parts}
use Rattle.std.proofs.Math.Bool.{or_comm, or-false}
use Rattle.pei_types.proofs.Identities.{same_pei_refl, same_pei_is, same_core_is}
use Rattle.pei_types.proofs.Tests.{eqb_sym}

-- ---- PEIs of one core have rising numbers

abbrev pub rising : List Pei → Type 0
rising [] = ⊤
rising (p ∷ ps) = AllByRecursion (λ q. same_core p.id.core q.id.core ≡ true → p.id.seq < q.id.seq) ps × rising ps

rising_from_pairs : (ps : List Pei) → AllPairs (λ p q. same_core p.id.core q.id.core ≡ true → p.id.seq < q.id.seq) ps → rising ps
rising_from_pairs [] h = tt
rising_from_pairs (p ∷ ps) h = (
  recursion_from_All (λ q. same_core p.id.core q.id.core ≡ true → p.id.seq < q.id.seq) ps (λ k d within. h 0 (suc k) d (omega arith) (omega (arith, within))),
  rising_from_pairs ps (λ i j d less within. h (suc i) (suc j) d (omega (arith, less)) (omega (arith, within))),
)

pub issued_rise : (m : MachineSpec) (s : State) (journal : List Event) → Agrees m s journal → rising (issued_peis journal)
issued_rise m s journal g = rising_from_pairs (issued_peis journal) g.ordered

pub looks_rise : (m : MachineSpec) (s : State) (journal : List Event) → Agrees m s journal → rising (map as_issued s.peis)
looks_rise m s journal g = subst rising g.unfinished (rising_from_pairs (unfinished_peis journal) (AllPairs-filter (λ p q. same_core p.id.core q.id.core ≡ true → p.id.seq < q.id.seq) (λ p. not (has_left journal p.id)) (issued_peis journal) g.ordered))

in_map_left : (ls : List PeiLook) (l : PeiLook) → In l ls → In (as_issued l) (map as_issued ls)
in_map_left [] l i = absurd i
in_map_left (k ∷ ls) l (inl e) = inl (ap as_issued e)
in_map_left (k ∷ ls) l (inr i) = inr (in_map_left ls l i)

-- the first that passes a test has the least number of those of its core that do
pub find_least : (test : PeiLook → Bool) (ls : List PeiLook) (p q : PeiLook) → rising (map as_issued ls) → find test ls ≡ Some q → In p ls → test p ≡ true → same_core p.id.core q.id.core ≡ true → p.id.seq < q.id.seq → ⊥
find_least test [] p q r f i t c h = absurd i
find_least test (l ∷ ls) p q r f i t c h = by (test l) refl f i (find_least test ls p q r.1)
  where
    from_head : l ≡ q → (p ≡ l) ⊎ In p ls → ⊥
    from_head same (inl e) = absurd (irreflexive (ap (λ k. k.id.seq) (e ∙ same)))
      where
        irreflexive : p.id.seq ≡ q.id.seq → ⊥
        irreflexive e' = omega (arith, e', h)
    from_head same (inr j) =
        let after : l.id.seq < p.id.seq = each_of (λ k. same_core l.id.core k.id.core ≡ true → l.id.seq < k.id.seq) (map as_issued ls) (as_issued p) r.0 (in_map_left ls p j) (ap (λ k. same_core k.id.core p.id.core) same ∙ eqb_sym q.id.core.0 p.id.core.0 ∙ c)
        in absurd (crossed after (ap (λ k. k.id.seq) same))
      where
        crossed : l.id.seq < p.id.seq → l.id.seq ≡ q.id.seq → ⊥
        crossed after e = omega (arith, after, e, h)

    by : (b : Bool) → test l ≡ b → cond b (Some l) (find test ls) ≡ Some q → (p ≡ l) ⊎ In p ls → (find test ls ≡ Some q → In p ls → test p ≡ true → same_core p.id.core q.id.core ≡ true → p.id.seq < q.id.seq → ⊥) → ⊥
    by true e g j rest = from_head (same_Some l q g) j
    by false e g (inl same) rest = absurd (cc (sym t ∙ ap test same ∙ e))
    by false e g (inr j) rest = rest g j t c h

-- ---- what keeps the turns

pub in_turn_same : (m : MachineSpec) (s t : State) → t.peis ≡ s.peis → InTurn m s → InTurn m t
in_turn_same m s t same g =
    record {
      entered = λ p q i j. g.entered p q (subst (In p) same i) (subst (In q) same j);
      alone = λ p q i j. g.alone p q (subst (In p) same i) (subst (In q) same j);
    }

-- fewer PEIs
pub in_turn_fewer : (m : MachineSpec) (s t : State) → ((l : PeiLook) → In l t.peis → In l s.peis) → InTurn m s → InTurn m t
in_turn_fewer m s t sub g =
    record {
      entered = λ p q i j. g.entered p q (sub p i) (sub q j);
      alone = λ p q i j. g.alone p q (sub p i) (sub q j);
    }

-- the same PEI, as far as turns go
record SameTurn (l k : PeiLook) : Type 0 where
  id : l.id ≡ k.id
  block : l.block ≡ k.block
  op : l.op ≡ k.op
  past : is_past_issue l ≡ is_past_issue k

in_turn_map : (m : MachineSpec) (s t : State) (f : PeiLook → PeiLook) → t.peis ≡ map f s.peis → ((l : PeiLook) → In l s.peis → SameTurn (f l) l) → InTurn m s → InTurn m t
in_turn_map m s t f same keeps g = record { entered = entered; alone = alone }
  where
    entered : (p q : PeiLook) → In p t.peis → In q t.peis → same_core p.id.core q.id.core ≡ true → p.id.seq < q.id.seq → is_past_issue q ≡ true → is_past_issue p ≡ true
    entered p q i j c h past =
        let x = in_map f s.peis p (subst (In p) same i)
        in let y = in_map f s.peis q (subst (In q) same j)
        in let kx = keeps x.0 x.1
        in let ky = keeps y.0 y.1
        in let px : p.id ≡ x.0.id = ap (λ l. l.id) x.2 ∙ kx.id
        in let qy : q.id ≡ y.0.id = ap (λ l. l.id) y.2 ∙ ky.id
        in ap is_past_issue x.2 ∙ kx.past
        ∙ g.entered x.0 y.0 x.1 y.1 (subst (λ d. same_core d.core y.0.id.core ≡ true) px (subst (λ d. same_core p.id.core d.core ≡ true) qy c)) (subst (λ d. d.seq < y.0.id.seq) px (subst (λ d. p.id.seq < d.seq) qy h)) (sym (ap is_past_issue y.2 ∙ ky.past) ∙ past)

    alone : (p q : PeiLook) → In p t.peis → In q t.peis → same_pei p.id q.id ≡ false → is_past_issue p ≡ true → is_past_issue q ≡ true → conflicts m p.block p.op q.block q.op ≡ false
    alone p q i j other past past' =
        let x = in_map f s.peis p (subst (In p) same i)
        in let y = in_map f s.peis q (subst (In q) same j)
        in let kx = keeps x.0 x.1
        in let ky = keeps y.0 y.1
        in let px : p.id ≡ x.0.id = ap (λ l. l.id) x.2 ∙ kx.id
        in let qy : q.id ≡ y.0.id = ap (λ l. l.id) y.2 ∙ ky.id
        in ap₂ (λ b c. conflicts m b p.op c q.op) (ap (λ l. l.block) x.2 ∙ kx.block) (ap (λ l. l.block) y.2 ∙ ky.block)
        ∙ ap₂ (λ o u. conflicts m x.0.block o y.0.block u) (ap (λ l. l.op) x.2 ∙ kx.op) (ap (λ l. l.op) y.2 ∙ ky.op)
        ∙ g.alone x.0 y.0 x.1 y.1 (subst (λ d. same_pei d y.0.id ≡ false) px (subst (λ d. same_pei p.id d ≡ false) qy other)) (sym (ap is_past_issue x.2 ∙ kx.past) ∙ past) (sym (ap is_past_issue y.2 ∙ ky.past) ∙ past')

-- a PEI that moves on, and does not enter, was active and is
pub in_turn_moved : (m : MachineSpec) (s t : State) (journal : List Event) (a : Actor) (kind : EventKind) (seq : ℕ) (ph : Phase) → Moves kind seq ph → is_enter kind seq ≡ false → t.peis ≡ map (with_phase (pei_id a seq) ph) s.peis → MatchOption (phase_of journal (pei_id a seq)) ⊥ (λ from. IsTrue (follows_phase from kind)) → Agrees m s journal → InTurn m s → InTurn m t
in_turn_moved m s t journal a kind seq ph moves later peis follows g turn = in_turn_map m s t (with_phase (pei_id a seq) ph) peis (λ l i. keeps l i (same_pei l.id (pei_id a seq)) refl) turn
  where
    keeps : (l : PeiLook) → In l s.peis → (b : Bool) → same_pei l.id (pei_id a seq) ≡ b → SameTurn (if b then moved ph l else l) l
    keeps l i true h =
        let follow : follows_phase l.phase kind ≡ true = MatchOption-at_some ⊥ (λ from. IsTrue (follows_phase from kind)) l.phase (ap (phase_of journal) (sym (same_pei_is l.id (pei_id a seq) h)) ∙ (look_tracked m s journal g l i).stands) follows
        in record {
          id = refl;
          block = refl;
          op = refl;
          past = sym (moves.enters l.phase follow) ∙ ap (λ x. is_past_issue l || x) later ∙ or-false (is_past_issue l);
        }
    keeps l i false h = record { id = refl; block = refl; op = refl; past = refl }

-- ---- a PEI enters

-- the PEI of this id may enter
pub record MayEnter (m : MachineSpec) (s : State) (id : PeiId) : Type 0 where
  pub entering : PeiLook
  pub here : In entering s.peis
  pub named : entering.id ≡ id
  pub first : find (λ p. same_core p.id.core id.core && is_phase p.phase phase.Issued) s.peis ≡ Some entering
  pub free : entry_is_taken m s entering ≡ false

is_pei_some : (o : Option PeiId) (id : PeiId) → is_pei o id ≡ true → o ≡ Some id
is_pei_some None id h = absurd (cc h)
is_pei_some (Some p) id h = ap Some (same_pei_is p id h)

mapped_some : (o : Option PeiLook) (id : PeiId) → option_map (λ l. l.id) o ≡ Some id → (l : PeiLook) × (o ≡ Some l) × (l.id ≡ id)
mapped_some None id h = absurd (cc h)
mapped_some (Some l) id h = (l, refl, same_Some l.id id h)

pub may_enter : (m : MachineSpec) (s : State) (journal : List Event) (a : Actor) (seq : ℕ) → Agrees m s journal → IsTrue (pei_guard m s (event.Enter seq) (look_of s (pei_id a seq))) → MayEnter m s (pei_id a seq)
may_enter m s journal a seq g h = by (look_of s (pei_id a seq)) refl h
  where
    by : (o : Option PeiLook) → look_of s (pei_id a seq) ≡ o → IsTrue (pei_guard m s (event.Enter seq) o) → MayEnter m s (pei_id a seq)
    by None e k = absurd (cc k)
    by (Some p) e k =
        let both = and_parts (is_pei (first_unentered s p.id.core) p.id) (not (entry_is_taken m s p)) k
        in let seen = find_Some (λ q. same_pei q.id (pei_id a seq)) s.peis p e
        in let named : p.id ≡ pei_id a seq = same_pei_is p.id (pei_id a seq) seen.1
        in let first = mapped_some (find (λ q. same_core q.id.core p.id.core && is_phase q.phase phase.Issued) s.peis) p.id (is_pei_some (first_unentered s p.id.core) p.id both.0)
        in let found = find_Some (λ q. same_core q.id.core p.id.core && is_phase q.phase phase.Issued) s.peis first.0 first.1
        in let same : first.0 ≡ p = look_same m s journal g first.0 p found.0 seen.0 first.2
        in record {
          entering = p;
          here = seen.0;
          named = named;
          first = subst (λ d. find (λ q. same_core q.id.core d.core && is_phase q.phase phase.Issued) s.peis ≡ Some p) named (first.1 ∙ ap Some same);
          free = not-true (entry_is_taken m s p) both.1;
        }

pub conflicts_sym : (m : MachineSpec) (b : BlockNo) (o : Op) (c : BlockNo) (q : Op) → conflicts m b o c q ≡ conflicts m c q b o
conflicts_sym m b o c q = ap₂ (λ x y. x && y) (eqb_sym (entry_of m b) (entry_of m c)) (or_comm (is_writer o) (is_writer q))

pub in_turn_enter : (m : MachineSpec) (s t : State) (journal : List Event) (id : PeiId) → MayEnter m s id → t.peis ≡ map (with_phase id phase.Entered) s.peis → Agrees m s journal → InTurn m s → InTurn m t
in_turn_enter m s t journal id may peis g turn = record { entered = entered; alone = alone }
  where
    f : PeiLook → PeiLook
    f = with_phase id phase.Entered

    n : PeiLook
    n = may.entering

    f_id : (b : Bool) (l : PeiLook) → (if b then moved phase.Entered l else l).id ≡ l.id
    f_id true l = refl
    f_id false l = refl

    f_block : (b : Bool) (l : PeiLook) → (if b then moved phase.Entered l else l).block ≡ l.block
    f_block true l = refl
    f_block false l = refl

    f_op : (b : Bool) (l : PeiLook) → (if b then moved phase.Entered l else l).op ≡ l.op
    f_op true l = refl
    f_op false l = refl

    -- a PEI that was active is
    f_past : (b : Bool) (l : PeiLook) → is_past_issue l ≡ true → is_past_issue (if b then moved phase.Entered l else l) ≡ true
    f_past true l h = refl
    f_past false l h = h

    -- one that is active and was not is the one that enters
    was : (b : Bool) (l : PeiLook) → In l s.peis → same_pei l.id id ≡ b → is_past_issue (if b then moved phase.Entered l else l) ≡ true → (l ≡ n) ⊎ (is_past_issue l ≡ true)
    was true l i h past = inl (look_same m s journal g l n i may.here (same_pei_is l.id id h ∙ sym may.named))
    was false l i h past = inr past

    entered : (p q : PeiLook) → In p t.peis → In q t.peis → same_core p.id.core q.id.core ≡ true → p.id.seq < q.id.seq → is_past_issue q ≡ true → is_past_issue p ≡ true
    entered p q i j c h past =
        let x = in_map f s.peis p (subst (In p) peis i)
        in let y = in_map f s.peis q (subst (In q) peis j)
        in let px : p.id ≡ x.0.id = ap (λ l. l.id) x.2 ∙ f_id (same_pei x.0.id id) x.0
        in let qy : q.id ≡ y.0.id = ap (λ l. l.id) y.2 ∙ f_id (same_pei y.0.id id) y.0
        in ap is_past_issue x.2
        ∙ f_past (same_pei x.0.id id) x.0 (before x.0 y.0 x.1 y.1 (subst (λ d. same_core d.core y.0.id.core ≡ true) px (subst (λ d. same_core p.id.core d.core ≡ true) qy c)) (subst (λ d. d.seq < y.0.id.seq) px (subst (λ d. p.id.seq < d.seq) qy h)) (was (same_pei y.0.id id) y.0 y.1 refl (sym (ap is_past_issue y.2) ∙ past)))
      where
        before : (k l : PeiLook) → In k s.peis → In l s.peis → same_core k.id.core l.id.core ≡ true → k.id.seq < l.id.seq → (l ≡ n) ⊎ (is_past_issue l ≡ true) → is_past_issue k ≡ true
        before k l i' j' c' h' (inr past') = turn.entered k l i' j' c' h' past'
        before k l i' j' c' h' (inl same) = go (is_phase k.phase phase.Issued) refl
          where
            at_n : same_core k.id.core n.id.core ≡ true
            at_n = subst (λ z. same_core k.id.core z.id.core ≡ true) same c'

            go : (b : Bool) → is_phase k.phase phase.Issued ≡ b → is_past_issue k ≡ true
            go true e =
                absurd (find_least (λ z. same_core z.id.core id.core && is_phase z.phase phase.Issued) s.peis k n (looks_rise m s journal g) may.first i' (rw (subst (λ d. same_core k.id.core d.core ≡ true) may.named at_n, e) refl) at_n (subst (λ z. k.id.seq < z.id.seq) same h'))
            go false e = ap not e

    alone : (p q : PeiLook) → In p t.peis → In q t.peis → same_pei p.id q.id ≡ false → is_past_issue p ≡ true → is_past_issue q ≡ true → conflicts m p.block p.op q.block q.op ≡ false
    alone p q i j other past past' =
        let x = in_map f s.peis p (subst (In p) peis i)
        in let y = in_map f s.peis q (subst (In q) peis j)
        in let px : p.id ≡ x.0.id = ap (λ l. l.id) x.2 ∙ f_id (same_pei x.0.id id) x.0
        in let qy : q.id ≡ y.0.id = ap (λ l. l.id) y.2 ∙ f_id (same_pei y.0.id id) y.0
        in ap₂ (λ b c. conflicts m b p.op c q.op) (ap (λ l. l.block) x.2 ∙ f_block (same_pei x.0.id id) x.0) (ap (λ l. l.block) y.2 ∙ f_block (same_pei y.0.id id) y.0)
        ∙ ap₂ (λ o u. conflicts m x.0.block o y.0.block u) (ap (λ l. l.op) x.2 ∙ f_op (same_pei x.0.id id) x.0) (ap (λ l. l.op) y.2 ∙ f_op (same_pei y.0.id id) y.0)
        ∙ apart x.0 y.0 x.1 y.1 (subst (λ d. same_pei d y.0.id ≡ false) px (subst (λ d. same_pei p.id d ≡ false) qy other)) (was (same_pei x.0.id id) x.0 x.1 refl (sym (ap is_past_issue x.2) ∙ past)) (was (same_pei y.0.id id) y.0 y.1 refl (sym (ap is_past_issue y.2) ∙ past'))
      where
        beside : (l : PeiLook) → In l s.peis → is_past_issue l ≡ true → conflicts m n.block n.op l.block l.op ≡ false
        beside l i' past'' = and_second (is_past_issue l) (conflicts m n.block n.op l.block l.op) past'' (any_false (λ z. is_past_issue z && conflicts m n.block n.op z.block z.op) s.peis l may.free i')
          where
            and_second : (u v : Bool) → u ≡ true → (u && v) ≡ false → v ≡ false
            and_second u v e w = subst (λ z. (z && v) ≡ false) e w

        apart : (k l : PeiLook) → In k s.peis → In l s.peis → same_pei k.id l.id ≡ false → (k ≡ n) ⊎ (is_past_issue k ≡ true) → (l ≡ n) ⊎ (is_past_issue l ≡ true) → conflicts m k.block k.op l.block l.op ≡ false
        apart k l i' j' o (inr u) (inr v) = turn.alone k l i' j' o u v
        apart k l i' j' o (inl e) (inr v) = subst (λ z. conflicts m z.block z.op l.block l.op ≡ false) (sym e) (beside l j' v)
        apart k l i' j' o (inr u) (inl e) = conflicts_sym m k.block k.op l.block l.op ∙ subst (λ z. conflicts m z.block z.op k.block k.op ≡ false) (sym e) (beside k i' u)
        apart k l i' j' o (inl e) (inl d) = absurd (cc (sym (same_pei_refl k.id) ∙ ap (same_pei k.id) (ap (λ z. z.id) (e ∙ sym d)) ∙ o))

-- ---- a PEI is issued

pub in_turn_issued : (m : MachineSpec) (s t : State) (journal : List Event) (a : Actor) (l : PeiLook) → t.peis ≡ s.peis ++ l ∷ [] → is_past_issue l ≡ false → l.id.core ≡ a.core → l.id.seq ≡ issue_count a.core journal → Agrees m s journal → InTurn m s → InTurn m t
in_turn_issued m s t journal a l peis fresh own next g turn = record { entered = entered; alone = alone }
  where
    entered : (p q : PeiLook) → In p t.peis → In q t.peis → same_core p.id.core q.id.core ≡ true → p.id.seq < q.id.seq → is_past_issue q ≡ true → is_past_issue p ≡ true
    entered p q i j c h past = by (in_push s.peis l p (subst (In p) peis i)) (in_push s.peis l q (subst (In q) peis j))
      where
        by : In p s.peis ⊎ (p ≡ l) → In q s.peis ⊎ (q ≡ l) → is_past_issue p ≡ true
        by _ (inr e) = absurd (cc (sym past ∙ ap is_past_issue e ∙ fresh))
        by (inl i') (inl j') = turn.entered p q i' j' c h past
        by (inr e) (inl j') = absurd (past_count (look_below m s journal g q j'))
          where
            core_is : q.id.core ≡ a.core
            core_is = sym (same_core_is p.id.core q.id.core c) ∙ ap (λ z. z.id.core) e ∙ own

            past_count : q.id.seq < issue_count q.id.core journal → ⊥
            past_count k = omega (arith, subst (λ d. q.id.seq < issue_count d journal) core_is k, ap (λ z. z.id.seq) e, next, h)

    alone : (p q : PeiLook) → In p t.peis → In q t.peis → same_pei p.id q.id ≡ false → is_past_issue p ≡ true → is_past_issue q ≡ true → conflicts m p.block p.op q.block q.op ≡ false
    alone p q i j other past past' = by (in_push s.peis l p (subst (In p) peis i)) (in_push s.peis l q (subst (In q) peis j))
      where
        by : In p s.peis ⊎ (p ≡ l) → In q s.peis ⊎ (q ≡ l) → conflicts m p.block p.op q.block q.op ≡ false
        by (inl i') (inl j') = turn.alone p q i' j' other past past'
        by (inr e) _ = absurd (cc (sym past ∙ ap is_past_issue e ∙ fresh))
        by (inl i') (inr e) = absurd (cc (sym past' ∙ ap is_past_issue e ∙ fresh))

-- ---- each event

-- The turns hold after one more event, where a PEI that enters is the first of its core and its entry is not taken.
pub in_turn_next : (x : CoreNext) (m : MachineSpec) (s : State) (journal : List Event) (a : Actor) (kind : EventKind) → AnswersCall x m journal a kind → IsTrue (issues_next s a kind) → IsTrue (enters_rightly m s a kind) → Agrees m s journal → InTurn m s → InTurn m (next_state m s a kind)
in_turn_next x m s journal a (event.Load addr value) calls next enters g turn = in_turn_same m s (next_state m s a (event.Load addr value)) refl turn
in_turn_next x m s journal a (event.Store addr value) calls next enters g turn = in_turn_same m s (next_state m s a (event.Store addr value)) refl turn
in_turn_next x m s journal a (event.Out value) calls next enters g turn = in_turn_same m s (next_state m s a (event.Out value)) refl turn
in_turn_next x m s journal a (event.Race pc b by) calls next enters g turn = in_turn_same m s (next_state m s a (event.Race pc b by)) refl turn
in_turn_next x m s journal a (event.End how) calls next enters g turn = in_turn_same m s (next_state m s a (event.End how)) refl turn
in_turn_next x m s journal a (event.Clean b) calls next enters g turn = in_turn_same m s (next_state m s a (event.Clean b)) refl turn
in_turn_next x m s journal a (event.EvictLlc b) calls next enters g turn = in_turn_same m s (next_state m s a (event.EvictLlc b)) refl turn
in_turn_next x m s journal a (event.Fill b) calls next enters g turn = in_turn_same m s (next_state m s a (event.Fill b)) refl turn
in_turn_next x m s journal a (event.GrantS b) calls next enters g turn = in_turn_same m s (next_state m s a (event.GrantS b)) refl turn
in_turn_next x m s journal a (event.GrantE b) calls next enters g turn = in_turn_same m s (next_state m s a (event.GrantE b)) refl turn
in_turn_next x m s journal a (event.GrantM b) calls next enters g turn = in_turn_same m s (next_state m s a (event.GrantM b)) refl turn
in_turn_next x m s journal a (event.FenceBegin) calls next enters g turn = in_turn_same m s (next_state m s a (event.FenceBegin)) refl turn
in_turn_next x m s journal a (event.FenceEnd) calls next enters g turn = in_turn_same m s (next_state m s a (event.FenceEnd)) refl turn
in_turn_next x m s journal a (event.Invalidate c b) calls next enters g turn = in_turn_same m s (next_state m s a (event.Invalidate c b)) (keeps_invalidating m s c b).peis turn
in_turn_next x m s journal a (event.EvictL1 c b) calls next enters g turn = in_turn_same m s (next_state m s a (event.EvictL1 c b)) (keeps_invalidating m s c b).peis turn
in_turn_next x m s journal a (event.Downgrade c b) calls next enters g turn = in_turn_same m s (next_state m s a (event.Downgrade c b)) (keeps_downgrading m s c b).peis turn
in_turn_next x m s journal a (event.Issue seq lane o b operands) calls next enters g turn =
    in_turn_issued m s (next_state m s a (event.Issue seq lane o b operands)) journal a (new_look a seq lane o b operands) refl refl refl (eqb-true seq (slice_index s.issues a.core.0) next ∙ g.counts a.core) g turn
in_turn_next x m s journal a (event.Leave seq) calls next enters g turn =
    in_turn_fewer m s (next_state m s a (event.Leave seq)) (λ l i. (in_filter (λ p. not (same_pei p.id (pei_id a seq))) s.peis l i).0) turn
in_turn_next x m s journal a (event.Enter seq) calls next enters g turn =
    in_turn_enter m s (next_state m s a (event.Enter seq)) journal (pei_id a seq) (may_enter m s journal a seq g enters) refl g turn
in_turn_next x m s journal a (event.Place seq place.Host) calls next enters g turn =
    in_turn_moved m s (next_state m s a (event.Place seq place.Host)) journal a (event.Place seq place.Host) seq phase.HostPlaced (moves_place_host seq) refl (ap (map (with_phase (pei_id a seq) phase.HostPlaced)) (keeps_placing m s (look_of s (pei_id a seq))).peis) calls.1.1.1 g turn
in_turn_next x m s journal a (event.Place seq place.Memory) calls next enters g turn =
    in_turn_moved m s (next_state m s a (event.Place seq place.Memory)) journal a (event.Place seq place.Memory) seq phase.MemoryPlaced (moves_place_memory seq) refl (ap (map (with_phase (pei_id a seq) phase.MemoryPlaced)) (keeps_placing m s (look_of s (pei_id a seq))).peis) calls.1.1.1 g turn
in_turn_next x m s journal a (event.Read seq) calls next enters g turn =
    in_turn_moved m s (next_state m s a (event.Read seq)) journal a (event.Read seq) seq phase.Read (moves_read seq) refl (ap (map (with_phase (pei_id a seq) phase.Read)) (keeps_reading m s (look_of s (pei_id a seq))).peis) calls.1.1.1 g turn
in_turn_next x m s journal a (event.Seal seq vault) calls next enters g turn =
    in_turn_moved m s (next_state m s a (event.Seal seq vault)) journal a (event.Seal seq vault) seq phase.Sealed (moves_seal seq vault) refl refl calls.1.1.1 g turn
in_turn_next x m s journal a (event.Act seq reply) calls next enters g turn =
    in_turn_moved m s (next_state m s a (event.Act seq reply)) journal a (event.Act seq reply) seq phase.Acted (moves_act seq reply) refl (ap (map (with_phase (pei_id a seq) phase.Acted)) (keeps_acting m s (look_of s (pei_id a seq))).peis) calls.1.1.1 g turn

pub in_turn_at_start : (m : MachineSpec) → InTurn m (start_state m)
in_turn_at_start m = record { entered = λ p q i. absurd i; alone = λ p q i. absurd i }
