-- What stays true of the lists after each change.
use Rattle.std.proofs.Common.{◌≡◌, ◌≢◌, ◌⊎◌, ℕ, ◌<◌, Bool, true, false, ◌||◌, List, [], ◌∷◌, ◌++◌, length, Some, None, nat_eq, refl, sym, ◌∙◌, ap, inl, inr}
use Rattle.std.specs.List.{IsDistinct}
use Rattle.std.proofs.lemmas.Bool.Decides.{eqb_tells}
use Rattle.pei_types.specs.Recency.{change_at, list_at, without, to_front}
use Rattle.link_list.specs.Linked.{Linked, IsWellFormed, has_node, list_of, pushed_front, pushed_back, unlinked, moved_front}
use Rattle.link_list.proofs.Nodes.{has_node-append, has_node-cons_other, has_node-middle, distinct-push, has_node-without_other, without-absent}
use Rattle.link_list.proofs.Changing.{list_at-change_at_other, list_at-map, map-one, change_at-same, position-change_at, position-map, list_of-none, list_of-some, list_of-free, list_of-found, others_absent}
use Rattle.pei_types.proofs.Members.{filter-absent, filter-once, member_before-without, distinct-cons, first_is_member, absent-without, distinct-without}
use Rattle.pei_types.proofs.Tests.{not_both}
use Rattle.pei_types.proofs.Lists.{list_at-change_at_same}

-- ---- one list is changed

pub at_changed : (lists : List (List ℕ)) (list : ℕ) (f : List ℕ → List ℕ) → list < length lists → (l : ℕ)
    → ((l ≡ list) × (list_at (change_at lists list f) l ≡ f (list_at lists list))) ⊎ ((l ≢ list) × (list_at (change_at lists list f) l ≡ list_at lists l))
at_changed lists list f within l = elim (eqb_tells l list) [
  | inl same ↦ inl (same.1, ap (λ i. list_at (change_at lists list f) i) same.1 ∙ list_at-change_at_same lists list f within)
  | inr other ↦ inr (other.1, list_at-change_at_other lists list l f other.1)
]

pub changed-well_formed : (n : ℕ) (lists : List (List ℕ)) (list : ℕ) (f : List ℕ → List ℕ) → list < length lists
    → IsWellFormed (record { nodes = n; lists = lists })
    → IsDistinct nat_eq (f (list_at lists list))
    → ((x : ℕ) → has_node (f (list_at lists list)) x ≡ true → (x < n) × ((m : ℕ) → has_node (list_at lists m) x ≡ true → m ≡ list))
    → IsWellFormed (record { nodes = n; lists = change_at lists list f })
changed-well_formed n lists list f within formed differ own = record {
  in_range = λ l x here. elim (at_changed lists list f within l) [
    | inl same ↦ (own x (ap (λ xs. has_node xs x) (sym same.1) ∙ here)).0
    | inr other ↦ formed.in_range l x (ap (λ xs. has_node xs x) (sym other.1) ∙ here)
  ];
  distinct = λ l. elim (at_changed lists list f within l) [
    | inl same ↦ rw same.1 differ
    | inr other ↦ rw other.1 (formed.distinct l)
  ];
  apart = λ l m x here there. elim (at_changed lists list f within l) [
    | inl same ↦ elim (at_changed lists list f within m) [
      | inl also ↦ same.0 ∙ sym also.0
      | inr other ↦ same.0 ∙ sym ((own x (ap (λ xs. has_node xs x) (sym same.1) ∙ here)).1 m (ap (λ xs. has_node xs x) (sym other.1) ∙ there))
    ]
    | inr other ↦ elim (at_changed lists list f within m) [
      | inl also ↦ (own x (ap (λ xs. has_node xs x) (sym also.1) ∙ there)).1 l (ap (λ xs. has_node xs x) (sym other.1) ∙ here) ∙ sym also.0
      | inr more ↦ formed.apart l m x (ap (λ xs. has_node xs x) (sym other.1) ∙ here) (ap (λ xs. has_node xs x) (sym more.1) ∙ there)
    ]
  ];
}

-- a node that comes in, or one that is in
pub comes_or_is : (x node : ℕ) (xs : List ℕ) → has_node (node ∷ xs) x ≡ true → (x ≡ node) ⊎ (has_node xs x ≡ true)
comes_or_is x node xs here = elim (eqb_tells x node) [
  | inl same ↦ inl same.1
  | inr other ↦ inr (rw other.0 at here)
]

pub has_node-push : (x node : ℕ) (xs : List ℕ) → has_node (xs ++ node ∷ []) x ≡ has_node (node ∷ xs) x
has_node-push x node xs = has_node-append xs (node ∷ []) x ∙ swapped (has_node xs x) (nat_eq x node)
  where
    swapped : (a b : Bool) → (a || (b || false)) ≡ (b || a)
    swapped true true = refl
    swapped true false = refl
    swapped false true = refl
    swapped false false = refl

pushed_own : (v : Linked) → IsWellFormed v → (list node : ℕ) → node < v.nodes → list_of v node ≡ None → (x : ℕ) → has_node (node ∷ list_at v.lists list) x ≡ true
    → (x < v.nodes) × ((m : ℕ) → has_node (list_at v.lists m) x ≡ true → m ≡ list)
pushed_own v formed list node within free x here = elim (comes_or_is x node (list_at v.lists list) here) [
  | inl same ↦ (rw same within, λ m there. absurd (not_both (has_node (list_at v.lists m) x) there (ap (λ z. has_node (list_at v.lists m) z) same ∙ list_of-none v node free m)))
  | inr was ↦ (formed.in_range list x was, λ m there. formed.apart m list x there was)
]

pub pushed_front-well_formed : (v : Linked) → IsWellFormed v → (list node : ℕ) → list < length v.lists → node < v.nodes → list_of v node ≡ None → IsWellFormed (pushed_front v list node)
pushed_front-well_formed v formed list node on within free =
    changed-well_formed v.nodes v.lists list (λ xs. node ∷ xs) on formed
    (distinct-cons node (list_at v.lists list) (list_of-none v node free list) (formed.distinct list))
    (pushed_own v formed list node within free)

pub pushed_back-well_formed : (v : Linked) → IsWellFormed v → (list node : ℕ) → list < length v.lists → node < v.nodes → list_of v node ≡ None → IsWellFormed (pushed_back v list node)
pushed_back-well_formed v formed list node on within free =
    changed-well_formed v.nodes v.lists list (λ xs. xs ++ node ∷ []) on formed
    (distinct-push (list_at v.lists list) node (list_of-none v node free list) (formed.distinct list))
    (λ x here. pushed_own v formed list node within free x (sym (has_node-push x node (list_at v.lists list)) ∙ here))

-- ---- a node is taken out

pub list_at-unlinked : (v : Linked) (node l : ℕ) → list_at (unlinked v node).lists l ≡ without (nat_eq node) (list_at v.lists l)
list_at-unlinked v node l = list_at-map (without (nat_eq node)) refl v.lists l

pub unlinked-well_formed : (v : Linked) → IsWellFormed v → (node : ℕ) → IsWellFormed (unlinked v node)
unlinked-well_formed v formed node = record {
  in_range = λ l x here. formed.in_range l x (member_before-without x node (list_at v.lists l) (ap (λ xs. has_node xs x) (sym (list_at-unlinked v node l)) ∙ here));
  distinct = λ l. rw (list_at-unlinked v node l) (distinct-without node (list_at v.lists l) (formed.distinct l));
  apart = λ l m x here there. formed.apart l m x
      (member_before-without x node (list_at v.lists l) (ap (λ xs. has_node xs x) (sym (list_at-unlinked v node l)) ∙ here))
      (member_before-without x node (list_at v.lists m) (ap (λ xs. has_node xs x) (sym (list_at-unlinked v node m)) ∙ there));
}

pub unlinked-one : (v : Linked) → IsWellFormed v → (node l : ℕ) → list_of v node ≡ Some l → unlinked v node ≡ record v { lists = change_at v.lists l (without (nat_eq node)) }
unlinked-one v formed node l h =
    ap (λ ls. record v { lists = ls }) (map-one (without (nat_eq node)) v.lists l (λ j apart. without-absent node (list_at v.lists j) (others_absent v formed node l h j apart)))

-- ---- a node goes to the front

pub to_front-absent : (node : ℕ) (xs : List ℕ) → has_node xs node ≡ false → to_front (nat_eq node) xs ≡ xs
to_front-absent node xs none = ap (λ ys. ys ++ without (nat_eq node) xs) (filter-absent node xs none) ∙ without-absent node xs none

pub to_front-once : (node : ℕ) (xs : List ℕ) → IsDistinct nat_eq xs → has_node xs node ≡ true → to_front (nat_eq node) xs ≡ node ∷ without (nat_eq node) xs
to_front-once node xs h here = ap (λ ys. ys ++ without (nat_eq node) xs) (filter-once node xs h here)

pub list_at-moved_front : (v : Linked) (node l : ℕ) → list_at (moved_front v node).lists l ≡ to_front (nat_eq node) (list_at v.lists l)
list_at-moved_front v node l = list_at-map (to_front (nat_eq node)) refl v.lists l

pub moved_front-one : (v : Linked) → IsWellFormed v → (node l : ℕ) → list_of v node ≡ Some l → moved_front v node ≡ record v { lists = change_at v.lists l (λ xs. node ∷ without (nat_eq node) xs) }
moved_front-one v formed node l h =
    ap (λ ls. record v { lists = ls })
    (map-one (to_front (nat_eq node)) v.lists l (λ j apart. to_front-absent node (list_at v.lists j) (others_absent v formed node l h j apart))
    ∙ change_at-same (to_front (nat_eq node)) (λ xs. node ∷ without (nat_eq node) xs) v.lists l (to_front-once node (list_at v.lists l) (formed.distinct l) (list_of-some v node l h).1))

-- ---- the list of each node

pub list_of-pushed_front_other : (v : Linked) (list node x : ℕ) → x ≢ node → list_of (pushed_front v list node) x ≡ list_of v x
list_of-pushed_front_other v list node x other = position-change_at (λ xs. has_node xs x) (λ xs. node ∷ xs) (λ xs. has_node-cons_other x node xs other) v.lists list 0

pub list_of-pushed_back_other : (v : Linked) (list node x : ℕ) → x ≢ node → list_of (pushed_back v list node) x ≡ list_of v x
list_of-pushed_back_other v list node x other = position-change_at (λ xs. has_node xs x) (λ xs. xs ++ node ∷ []) (λ xs. has_node-push x node xs ∙ has_node-cons_other x node xs other) v.lists list 0

pub list_of-pushed_front_same : (v : Linked) → IsWellFormed v → (list node : ℕ) → list < length v.lists → node < v.nodes → list_of v node ≡ None → list_of (pushed_front v list node) node ≡ Some list
list_of-pushed_front_same v formed list node on within free =
    list_of-found (pushed_front v list node) (pushed_front-well_formed v formed list node on within free) node list
    (ap (λ xs. has_node xs node) (list_at-change_at_same v.lists list (λ xs. node ∷ xs) on) ∙ first_is_member node (list_at v.lists list))

pub list_of-pushed_back_same : (v : Linked) → IsWellFormed v → (list node : ℕ) → list < length v.lists → node < v.nodes → list_of v node ≡ None → list_of (pushed_back v list node) node ≡ Some list
list_of-pushed_back_same v formed list node on within free =
    list_of-found (pushed_back v list node) (pushed_back-well_formed v formed list node on within free) node list
    (ap (λ xs. has_node xs node) (list_at-change_at_same v.lists list (λ xs. xs ++ node ∷ []) on) ∙ has_node-middle (list_at v.lists list) [] node)

pub list_of-unlinked_other : (v : Linked) (node x : ℕ) → x ≢ node → list_of (unlinked v node) x ≡ list_of v x
list_of-unlinked_other v node x other = position-map (λ xs. has_node xs x) (without (nat_eq node)) (λ xs. has_node-without_other x node xs other) v.lists 0

pub list_of-unlinked_same : (v : Linked) (node : ℕ) → list_of (unlinked v node) node ≡ None
list_of-unlinked_same v node = list_of-free (unlinked v node) node (λ l. ap (λ xs. has_node xs node) (list_at-unlinked v node l) ∙ absent-without node (list_at v.lists l))
