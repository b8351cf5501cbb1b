-- The order of a core's operations, as the PEIs on their way tell it.
use Rattle.std.proofs.Common.{◌≡◌, Bool, true, false, not, ◌&&◌, ◌||◌, ◌⊎◌, inl, inr, if◌then◌else◌, true≢false, List, [], ◌∷◌, ◌++◌, map, filter, find, Option, Some, None, refl, sym, ◌∙◌, ap, subst}
use Rattle.std.specs.List.{AllByRecursion, cons_option, list_any}
use Rattle.std.proofs.lemmas.Bool.{and_parts}
use Rattle.std.proofs.lemmas.List.{append_assoc}
use Rattle.pei_types.specs.declared.identifiers.BlockNo.{BlockNo}
use Rattle.pei_types.specs.declared.identifiers.CoreId.{CoreId}
use Rattle.pei_types.specs.declared.identifiers.PeiId.{PeiId}
use Rattle.pei_types.specs.declared.inflight_looks.PeiLook.{PeiLook}
use Rattle.pei_types.specs.declared.inflight_looks.Phase.TheVariants as phase
use Rattle.pei_types.specs.declared.events.Event.{Event}
use Rattle.pei_types.specs.declared.machines.MachineSpec.{MachineSpec}
use Rattle.pei_types.specs.Blocks.{same_block, same_core, same_pei}
use Rattle.pei_types.specs.MachineState.{State, is_phase}
use Rattle.pei_types.specs.History.{Pei, ends_fence, has_acted, has_left, issued_peis, pei_issued_by}
use Rattle.pei_types.specs.Operation.{is_writer}
use Rattle.pei_types.specs.Order.{comes_first, earlier_acted, has_acted_if_first}
use Rattle.history_laws.specs.Fences.{Settles}
use Rattle.history_laws.specs.Members.{In}
use Rattle.history_laws.specs.TrackedPeis.{Agrees, IsTracked, as_issued}
use Rattle.trace_check.specs.InState.{waits_for_own}

-- an access waits for a PEI, as the history has it: they are on one block, and one of them writes
abbrev on_block : CoreId → BlockNo → Bool → Pei → Bool
on_block c b store p = same_core p.id.core c && (same_block p.block b && (store || is_writer p.op))

abbrev is_waited_for : CoreId → BlockNo → Bool → PeiLook → Bool
is_waited_for c b store p = same_core p.id.core c && (same_block p.block b && (store || is_writer p.op)) && not (is_phase p.phase phase.Acted)

or_swap : (x y : Bool) → (x || y) ≡ (y || x)
or_swap true true = refl
or_swap true false = refl
or_swap false true = refl
or_swap false false = refl

or_true : (x : Bool) → (x || true) ≡ true
or_true true = refl
or_true false = refl

-- ---- members of lists

pub all_in : {A : Type 0} (P : A → Type 0) (xs : List A) (x : A) → AllByRecursion P xs → In x xs → P x
all_in P [] x h there = absurd there
all_in P (y ∷ xs) x h (inl same) = subst P (sym same) h.0
all_in P (y ∷ xs) x h (inr there) = all_in P xs x h.1 there

none_in : {A : Type 0} (test : A → Bool) (xs : List A) (x : A) → list_any test xs ≡ false → In x xs → test x ≡ false
none_in test [] x h there = absurd there
none_in {A} test (y ∷ xs) x h there = by (test y) refl h there (none_in test xs x)
  where
    by : (t : Bool) → test y ≡ t → (t || list_any test xs) ≡ false → (x ≡ y) ⊎ In x xs → (list_any test xs ≡ false → In x xs → test x ≡ false) → test x ≡ false
    by true e k there rest = absurd (cc k)
    by false e k (inl same) rest = ap test same ∙ e
    by false e k (inr there) rest = rest k there

in_filter : {A : Type 0} (test : A → Bool) (xs : List A) (x : A) → In x xs → test x ≡ true → In x (filter test xs)
in_filter test [] x there passes = absurd there
in_filter {A} test (y ∷ xs) x there passes = by (test y) refl there (λ k. in_filter test xs x k passes)
  where
    by : (t : Bool) → test y ≡ t → (x ≡ y) ⊎ In x xs → (In x xs → In x (filter test xs)) → In x (if t then y ∷ filter test xs else filter test xs)
    by true e (inl same) rest = inl same
    by true e (inr there) rest = inr (rest there)
    by false e (inl same) rest = absurd (true≢false (sym passes ∙ ap test same ∙ e))
    by false e (inr there) rest = rest there

in_map : {A B : Type 0} (f : A → B) (xs : List A) (y : B) → In y (map f xs) → (x : A) × In x xs × (f x ≡ y)
in_map f [] y there = absurd there
in_map f (x ∷ xs) y (inl same) = (x, inl refl, sym same)
in_map f (x ∷ xs) y (inr there) = let t = in_map f xs y there in (t.0, inr t.1, t.2)

in_more : (o : Option Pei) (p : Pei) (ps : List Pei) → In p ps → In p (cons_option o ps)
in_more None p ps there = there
in_more (Some q) p ps there = inr there

in_issued : (front : List Event) (e : Event) (rest : List Event) (p : Pei) → pei_issued_by e.actor e.kind ≡ Some p → In p (issued_peis (front ++ e ∷ rest))
in_issued [] e rest p is = subst (λ (o : Option Pei). In p (cons_option o (issued_peis rest))) (sym is) (inl refl)
in_issued (f ∷ front) e rest p is = in_more (pei_issued_by f.actor f.kind) p (issued_peis (front ++ e ∷ rest)) (in_issued front e rest p is)

pub found_in : {A : Type 0} (test : A → Bool) (xs : List A) (x : A) → find test xs ≡ Some x → In x xs
found_in test [] x h = absurd (cc h)
found_in {A} test (y ∷ xs) x h = by (test y) h (found_in test xs x)
  where
    by : (t : Bool) → (if t then Some y else find test xs) ≡ Some x → (find test xs ≡ Some x → In x xs) → (x ≡ y) ⊎ In x xs
    by true k rest = let same : x ≡ y = cc k in inl same
    by false k rest = inr (rest k)

none_of : {A : Type 0} (test : A → Bool) (xs : List A) → ((x : A) → In x xs → test x ≡ false) → list_any test xs ≡ false
none_of test [] h = refl
none_of test (x ∷ xs) h = ap (λ t. t || list_any test xs) (h x (inl refl)) ∙ none_of test xs (λ y there. h y (inr there))

and_false : (x : Bool) → (x && false) ≡ false
and_false true = refl
and_false false = refl

-- where each that comes first has acted, each on the block has
acted_in : (acted : PeiId → Bool) (c : CoreId) (b : BlockNo) (store : Bool) (events : List Event) (p : Pei) → earlier_acted acted c b store events ≡ true → In p (issued_peis events) → on_block c b store p ≡ true → acted p.id ≡ true
acted_in acted c b store [] p h there on = absurd there
acted_in acted c b store (e ∷ rest) p h there on = by (pei_issued_by e.actor e.kind) h there (λ k t. acted_in acted c b store rest p k t on)
  where
    must : (own near fenced done : Bool) → (not (own && (near || fenced)) || done) ≡ true → own ≡ true → near ≡ true → done ≡ true
    must true true fenced done k eo en = k
    must true false fenced done k eo en = absurd (cc en)
    must false near fenced done k eo en = absurd (cc eo)

    by : (o : Option Pei) → (has_acted_if_first acted c b store rest o && earlier_acted acted c b store rest) ≡ true → In p (cons_option o (issued_peis rest)) → (earlier_acted acted c b store rest ≡ true → In p (issued_peis rest) → acted p.id ≡ true) → acted p.id ≡ true
    by None k t behind = behind k t
    by (Some q) k (inr t) behind = behind (and_parts (not (comes_first c b store rest q) || acted q.id) (earlier_acted acted c b store rest) k).1 t
    by (Some q) k (inl same) behind =
        let first = (and_parts (not (comes_first c b store rest q) || acted q.id) (earlier_acted acted c b store rest) k).0
        in let onq : on_block c b store q ≡ true = ap (on_block c b store) (sym same) ∙ on
        in let parts = and_parts (same_core q.id.core c) (same_block q.block b && (store || is_writer q.op)) onq
        in let near : (same_block q.block b && (is_writer q.op || store)) ≡ true = ap (λ t. same_block q.block b && t) (or_swap (is_writer q.op) store) ∙ parts.1
        in ap (λ (r : Pei). acted r.id) same ∙ must (same_core q.id.core c) (same_block q.block b && (is_writer q.op || store)) (is_writer q.op && list_any (ends_fence c) rest) (acted q.id) first parts.0 near

-- ---- what the state tells of each PEI that was issued

acted_of : (x y : Bool) → (x && not y) ≡ false → x ≡ true → y ≡ true
acted_of true true h k = refl
acted_of true false h k = absurd (cc h)
acted_of false y h k = absurd (cc k)

module _ (m : MachineSpec) (s : State) (past : List Event) (agrees : Agrees m s past) (settles : Settles past) (c : CoreId) (b : BlockNo) (store : Bool) where
  -- a PEI on the block has acted, where the state has none that is waited for
  acted_on_block : waits_for_own s c b store ≡ false → (p : Pei) → In p (issued_peis past) → on_block c b store p ≡ true → has_acted past p.id ≡ true
  acted_on_block none p there on = by (has_left past p.id) refl
    where
      by : (t : Bool) → has_left past p.id ≡ t → has_acted past p.id ≡ true
      by true left = agrees.left_acted p.id left
      by false staying =
          let unfinished : In p (map as_issued s.peis) = subst (λ (ps : List Pei). In p ps) agrees.unfinished (in_filter (λ q. not (has_left past q.id)) (issued_peis past) p there (ap not staying))
          in let l = in_map as_issued s.peis p unfinished
          in let quiet = none_in (is_waited_for c b store) s.peis l.0 none l.1
          in let here : on_block c b store (as_issued l.0) ≡ true = ap (on_block c b store) l.2 ∙ on
          in let done : is_phase l.0.phase phase.Acted ≡ true = acted_of (on_block c b store (as_issued l.0)) (is_phase l.0.phase phase.Acted) quiet here
          in ap (λ (q : Pei). has_acted past q.id) (sym l.2) ∙ (all_in (IsTracked past) s.peis l.0 agrees.tracked l.1).acted ∙ done

  -- each PEI that comes first has
  one_acted : waits_for_own s c b store ≡ false → (front rest : List Event) (e : Event) (p : Pei) → past ≡ front ++ e ∷ rest → pei_issued_by e.actor e.kind ≡ Some p → In p (issued_peis past) → (not (comes_first c b store rest p) || has_acted past p.id) ≡ true
  one_acted none front rest e p whole issued there = by (same_core p.id.core c) (same_block p.block b && (is_writer p.op || store)) (is_writer p.op) (list_any (ends_fence c) rest) refl refl refl refl
    where
      by : (own near writes fenced : Bool) → same_core p.id.core c ≡ own → (same_block p.block b && (is_writer p.op || store)) ≡ near → is_writer p.op ≡ writes → list_any (ends_fence c) rest ≡ fenced → (not (own && (near || writes && fenced)) || has_acted past p.id) ≡ true
      by false near writes fenced eo en ew ef = refl
      by true true writes fenced eo en ew ef =
          let on : on_block c b store p ≡ true = ap (λ t. t && (same_block p.block b && (store || is_writer p.op))) eo ∙ ap (λ t. same_block p.block b && t) (or_swap store (is_writer p.op)) ∙ en
          in acted_on_block none p there on
      by true false true true eo en ew ef = agrees.left_acted p.id (settles.settled c front rest e p whole issued eo ew ef)
      by true false true false eo en ew ef = refl
      by true false false fenced eo en ew ef = refl

  all_acted : waits_for_own s c b store ≡ false → (front rest : List Event) → past ≡ front ++ rest → earlier_acted (has_acted past) c b store rest ≡ true
  all_acted none front [] whole = refl
  all_acted none front (e ∷ rest) whole =
      by (pei_issued_by e.actor e.kind) refl (all_acted none (front ++ e ∷ []) rest (whole ∙ sym (append_assoc front (e ∷ []) rest)))
    where
      by : (o : Option Pei) → pei_issued_by e.actor e.kind ≡ o → earlier_acted (has_acted past) c b store rest ≡ true → (has_acted_if_first (has_acted past) c b store rest o && earlier_acted (has_acted past) c b store rest) ≡ true
      by None is behind = behind
      by (Some p) is behind =
          ap (λ t. t && earlier_acted (has_acted past) c b store rest) (one_acted none front rest e p whole is (subst (λ (es : List Event). In p (issued_peis es)) (sym whole) (in_issued front e rest p is))) ∙ behind

  pub order_told : waits_for_own s c b store ≡ false → earlier_acted (has_acted past) c b store past ≡ true
  order_told none = all_acted none [] past refl

  pub order_seen : earlier_acted (has_acted past) c b store past ≡ true → waits_for_own s c b store ≡ false
  order_seen earlier = none_of (is_waited_for c b store) s.peis (λ l there. by l there (on_block c b store (as_issued l)) refl)
    where
      by : (l : PeiLook) → In l s.peis → (t : Bool) → on_block c b store (as_issued l) ≡ t → is_waited_for c b store l ≡ false
      by l there false e = ap (λ t. t && not (is_phase l.phase phase.Acted)) e
      by l there true e =
          let tracked = all_in (IsTracked past) s.peis l agrees.tracked there
          in let done : has_acted past l.id ≡ true = acted_in (has_acted past) c b store past (as_issued l) earlier (found_in (λ q. same_pei q.id l.id) (issued_peis past) (as_issued l) tracked.found) e
          in ap (λ t. on_block c b store (as_issued l) && not t) (sym tracked.acted ∙ done) ∙ and_false (on_block c b store (as_issued l))
