-- The lists forward and backward, and the number of each node's list, after each change.
use Rattle.std.proofs.Common.{true, ◌≡◌, ℕ, zero, suc, ◌+◌, ◌<◌, not, List, [], ◌∷◌, ◌++◌, map, reverse, length, replicate, Option, Some, None, nat_eq, refl, sym, ◌∙◌, ap, inl, inr, arith}
use Rattle.std.specs.Prelude.{IfSome, slice_get, slice_set, slice_index_or}
use Rattle.std.specs.List.{last_or}
use Rattle.std.proofs.lemmas.Grind.{get_or-set_at}
use Rattle.std.proofs.lemmas.List.{length-set, length-map, length-replicate, get_or-replicate, get_or_read_under, get_or-set_other, reverse-append, reverse-reverse, append-nil}
use Rattle.std.proofs.lemmas.List.Elements.{filter-append}
use Rattle.std.proofs.lemmas.Bool.Decides.{eqb_tells}
use Rattle.pei_types.specs.Recency.{list_at, without}
use Rattle.link_list.specs.Linked.{Linked, IsWellFormed, IsOn, has_node, rest_from, list_of, follower, pushed_front, pushed_back, unlinked, moved_front, reversed}
use Rattle.link_list.specs.Walks.{IsTied}
use Rattle.link_list.proofs.Nodes.{same_nodes-reverse}
use Rattle.link_list.proofs.Followers.{follower_is_in, rest_from-front, rest_from-node, last_or-reverse, first-reverse, follower-place, has_node-place}
use Rattle.link_list.proofs.Changing.{list_at-map, position-map, list_of-free, list_of-some, list_of-found}
use Rattle.link_list.proofs.Linking.{none_formed}
use Rattle.link_list.proofs.Formed.{list_of-pushed_front_same, list_of-pushed_front_other, list_of-pushed_back_same, list_of-pushed_back_other, list_of-unlinked_same, list_of-unlinked_other, unlinked-one, moved_front-one}
use Rattle.pei_types.proofs.Lists.{change_at-change_at, map-change_at, list_at-none}
use Rattle.pei_types.proofs.Members.{last_is_member}

-- ---- what is read

list_at-tied : (f b : Linked) (o : List (Option ℕ)) → IsTied f b o → (list : ℕ) → list_at b.lists list ≡ reverse (list_at f.lists list)
list_at-tied f b o tied list = ap (λ v. list_at v.lists list) tied.both_ways ∙ list_at-map reverse refl f.lists list

pub back_read : (f b : Linked) (o : List (Option ℕ)) → IsTied f b o → (list : ℕ) (x : Option ℕ) → x ≡ slice_get (list_at b.lists list) 0 → x ≡ last_or None (list_at f.lists list)
back_read f b o tied list x read = read ∙ ap (λ xs. slice_get xs 0) (list_at-tied f b o tied list) ∙ first-reverse (list_at f.lists list)

pub last_read : (f b : Linked) (o : List (Option ℕ)) → IsTied f b o → (list : ℕ) (x : Option ℕ) → x ≡ slice_get (list_at f.lists list) 0 → x ≡ last_or None (list_at b.lists list)
last_read f b o tied list x read = read ∙ sym (last_or-reverse (list_at f.lists list)) ∙ ap (λ xs. last_or None xs) (sym (list_at-tied f b o tied list))

pub list_of-tied : (f b : Linked) (o : List (Option ℕ)) → IsTied f b o → (node : ℕ) → list_of b node ≡ list_of f node
list_of-tied f b o tied node = ap (λ v. list_of v node) tied.both_ways ∙ position-map (λ xs. has_node xs node) reverse (λ xs. same_nodes-reverse xs node) f.lists 0

pub before_read : (f b : Linked) (o : List (Option ℕ)) → IsTied f b o → (list node : ℕ) (x : Option ℕ) → x ≡ follower (list_at b.lists list) node → x ≡ follower (reverse (list_at f.lists list)) node
before_read f b o tied list node x read = read ∙ ap (λ xs. follower xs node) (list_at-tied f b o tied list)

pub after_read : (f b : Linked) (o : List (Option ℕ)) → IsTied f b o → (list node : ℕ) (x : Option ℕ) → x ≡ follower (list_at f.lists list) node → x ≡ follower (reverse (list_at b.lists list)) node
after_read f b o tied list node x read =
    read ∙ ap (λ xs. follower xs node) (sym (reverse-reverse (list_at f.lists list))) ∙ ap (λ xs. follower (reverse xs) node) (sym (list_at-tied f b o tied list))

pub owner_read : (f b : Linked) (o : List (Option ℕ)) → IsTied f b o → (node : ℕ) → node < f.nodes → (x : Option ℕ) → x ≡ slice_index_or o node x → list_of f node ≡ x
owner_read f b o tied node within x read =
    sym (get_or_read_under o node (length o) x None read (omega (arith, within, tied.all_owned)) refl ∙ tied.owned node within)

pub next_read : (v : Linked) → IsWellFormed v → (node : ℕ) (x : Option ℕ) → ((list : ℕ) → list_of v node ≡ Some list → x ≡ follower (list_at v.lists list) node)
    → (list place : ℕ) → slice_get (list_at v.lists list) place ≡ Some node → x ≡ slice_get (list_at v.lists list) (place + 1)
next_read v formed node x read list place here =
    read list (list_of-found v formed node list (has_node-place (list_at v.lists list) place node here))
    ∙ follower-place (list_at v.lists list) place node (formed.distinct list) here

-- ---- which nodes are read

if_on : (v : Linked) → IsWellFormed v → (list : ℕ) (x : Option ℕ) → ((y : ℕ) → x ≡ Some y → has_node (list_at v.lists list) y ≡ true) → IfSome x (λ y. IsOn v list y)
if_on v formed list None here = tt
if_on v formed list (Some y) here = (formed.in_range list y (here y refl), list_of-found v formed y list (here y refl))

pub front_on : (v : Linked) → IsWellFormed v → (list : ℕ) (x : Option ℕ) → x ≡ slice_get (list_at v.lists list) 0 → IfSome x (λ y. IsOn v list y)
front_on v formed list x read = if_on v formed list x (λ y some. has_node-place (list_at v.lists list) 0 y (sym read ∙ some))

pub back_on : (v : Linked) → IsWellFormed v → (list : ℕ) (x : Option ℕ) → x ≡ last_or None (list_at v.lists list) → IfSome x (λ y. IsOn v list y)
back_on v formed list x read = if_on v formed list x (λ y some. last_is_member (list_at v.lists list) y (sym read ∙ some))

pub next_on : (v : Linked) → IsWellFormed v → (node list : ℕ) (x : Option ℕ) → x ≡ follower (list_at v.lists list) node → IfSome x (λ y. IsOn v list y)
next_on v formed node list x read = if_on v formed list x (λ y some. follower_is_in (list_at v.lists list) node y (sym read ∙ some))

pub front_rest : (v : Linked) (list : ℕ) (x : Option ℕ) → x ≡ slice_get (list_at v.lists list) 0 → rest_from (list_at v.lists list) x ≡ list_at v.lists list
front_rest v list x read = ap (λ o. rest_from (list_at v.lists list) o) read ∙ rest_from-front (list_at v.lists list)

pub next_rest : (v : Linked) → IsWellFormed v → (node list : ℕ) → list_of v node ≡ Some list → (x : Option ℕ) → x ≡ follower (list_at v.lists list) node
    → rest_from (list_at v.lists list) (Some node) ≡ node ∷ rest_from (list_at v.lists list) x
next_rest v formed node list listed x read =
    rest_from-node (list_at v.lists list) node (formed.distinct list) (list_of-some v node list listed).1 ∙ ap (λ o. node ∷ rest_from (list_at v.lists list) o) (sym read)

pub list_within : (v : Linked) (node : ℕ) (x : Option ℕ) → x ≡ list_of v node → IfSome x (λ list. list < length v.lists)
list_within v node None read = tt
list_within v node (Some list) read = (list_of-some v node list (sym read)).0

-- ---- what is made

reverse-none : (m : ℕ) → map reverse (replicate {A = List ℕ} m []) ≡ replicate m []
reverse-none zero = refl
reverse-none (suc m) = ap (λ ls. [] ∷ ls) (reverse-none m)

pub tied_none : (n m : ℕ) → IsTied (record { nodes = n; lists = replicate m [] }) (record { nodes = n; lists = replicate m [] }) (replicate n None)
tied_none n m = record {
  both_ways = ap (λ ls. record { nodes = n; lists = ls }) (sym (reverse-none m));
  well_formed = none_formed n m;
  all_owned = length-replicate n None;
  owned = λ node within. get_or-replicate n node None None within
      ∙ sym (list_of-free (record { nodes = n; lists = replicate m [] }) node (λ l. ap (λ xs. has_node xs node) (list_at-none m l)));
}

-- ---- what is changed

pub tied_front : (f b : Linked) (o : List (Option ℕ)) → IsTied f b o → (list node : ℕ) → list < length f.lists → node < f.nodes → list_of f node ≡ None
    → (f' b' : Linked) → f' ≡ pushed_front f list node → b' ≡ pushed_back b list node → IsWellFormed f' → IsTied f' b' (slice_set o node (Some list))
tied_front f b o tied list node on within free f' b' is_f is_b formed = record {
  both_ways = is_b ∙ ap (λ v. pushed_back v list node) tied.both_ways
      ∙ ap (λ ls. record { nodes = f.nodes; lists = ls }) (sym (map-change_at reverse (λ xs. node ∷ xs) (λ xs. xs ++ node ∷ []) (λ xs. reverse-append (node ∷ []) xs) f.lists list))
      ∙ ap (λ v. reversed v) (sym is_f);
  well_formed = formed;
  all_owned = length-set o node (Some list) ∙ tied.all_owned ∙ ap (λ v. v.nodes) (sym is_f);
  owned = λ x there. elim (eqb_tells x node) [
    | inl same ↦ get_or-set_at o node x (Some list) None same.1 (omega (arith, within, tied.all_owned))
        ∙ sym (ap (λ z. list_of f' z) same.1 ∙ ap (λ v. list_of v node) is_f ∙ list_of-pushed_front_same f tied.well_formed list node on within free)
    | inr other ↦ get_or-set_other o node x (Some list) None other.1 ∙ tied.owned x (omega (arith, there, ap (λ v. v.nodes) is_f))
        ∙ sym (ap (λ v. list_of v x) is_f ∙ list_of-pushed_front_other f list node x other.1)
  ];
}

pub tied_back : (f b : Linked) (o : List (Option ℕ)) → IsTied f b o → (list node : ℕ) → list < length f.lists → node < f.nodes → list_of f node ≡ None
    → (f' b' : Linked) → f' ≡ pushed_back f list node → b' ≡ pushed_front b list node → IsWellFormed f' → IsTied f' b' (slice_set o node (Some list))
tied_back f b o tied list node on within free f' b' is_f is_b formed = record {
  both_ways = is_b ∙ ap (λ v. pushed_front v list node) tied.both_ways
      ∙ ap (λ ls. record { nodes = f.nodes; lists = ls }) (sym (map-change_at reverse (λ xs. xs ++ node ∷ []) (λ xs. node ∷ xs) (λ xs. reverse-append xs (node ∷ [])) f.lists list))
      ∙ ap (λ v. reversed v) (sym is_f);
  well_formed = formed;
  all_owned = length-set o node (Some list) ∙ tied.all_owned ∙ ap (λ v. v.nodes) (sym is_f);
  owned = λ x there. elim (eqb_tells x node) [
    | inl same ↦ get_or-set_at o node x (Some list) None same.1 (omega (arith, within, tied.all_owned))
        ∙ sym (ap (λ z. list_of f' z) same.1 ∙ ap (λ v. list_of v node) is_f ∙ list_of-pushed_back_same f tied.well_formed list node on within free)
    | inr other ↦ get_or-set_other o node x (Some list) None other.1 ∙ tied.owned x (omega (arith, there, ap (λ v. v.nodes) is_f))
        ∙ sym (ap (λ v. list_of v x) is_f ∙ list_of-pushed_back_other f list node x other.1)
  ];
}

without-reverse : (node : ℕ) (xs : List ℕ) → without (nat_eq node) (reverse xs) ≡ reverse (without (nat_eq node) xs)
without-reverse node [] = refl
without-reverse node (x ∷ xs) =
    ap (λ l. without (nat_eq node) l) (reverse-append (x ∷ []) xs) ∙ filter-append (λ y. not (nat_eq node y)) (reverse xs) (x ∷ [])
    ∙ elim (eqb_tells node x) [
      | inl same ↦ rw same.0 (append-nil (without (nat_eq node) (reverse xs)) ∙ without-reverse node xs)
      | inr other ↦ rw other.0 (ap (λ l. l ++ x ∷ []) (without-reverse node xs) ∙ sym (reverse-append (x ∷ []) (without (nat_eq node) xs)))
    ]

without-reverse_all : (node : ℕ) (lists : List (List ℕ)) → map (without (nat_eq node)) (map reverse lists) ≡ map reverse (map (without (nat_eq node)) lists)
without-reverse_all node [] = refl
without-reverse_all node (xs ∷ lists) = rw (without-reverse node xs, without-reverse_all node lists) refl

pub tied_out : (f b : Linked) (o : List (Option ℕ)) → IsTied f b o → (node : ℕ) → node < f.nodes
    → (f' b' : Linked) → f' ≡ unlinked f node → b' ≡ unlinked b node → IsWellFormed f' → IsTied f' b' (slice_set o node None)
tied_out f b o tied node within f' b' is_f is_b formed = record {
  both_ways = is_b ∙ ap (λ v. unlinked v node) tied.both_ways ∙ ap (λ ls. record { nodes = f.nodes; lists = ls }) (without-reverse_all node f.lists) ∙ ap (λ v. reversed v) (sym is_f);
  well_formed = formed;
  all_owned = length-set o node None ∙ tied.all_owned ∙ ap (λ v. v.nodes) (sym is_f);
  owned = λ x there. elim (eqb_tells x node) [
    | inl same ↦ get_or-set_at o node x None None same.1 (omega (arith, within, tied.all_owned))
        ∙ sym (ap (λ z. list_of f' z) same.1 ∙ ap (λ v. list_of v node) is_f ∙ list_of-unlinked_same f node)
    | inr other ↦ get_or-set_other o node x None None other.1 ∙ tied.owned x (omega (arith, there, ap (λ v. v.nodes) is_f))
        ∙ sym (ap (λ v. list_of v x) is_f ∙ list_of-unlinked_other f node x other.1)
  ];
}

-- ---- a move to the front, in two steps

pub moved-steps : (v : Linked) → IsWellFormed v → (node list : ℕ) → list_of v node ≡ Some list → pushed_front (unlinked v node) list node ≡ moved_front v node
moved-steps v formed node list listed =
    ap (λ w. pushed_front w list node) (unlinked-one v formed node list listed)
    ∙ ap (λ ls. record { nodes = v.nodes; lists = ls }) (change_at-change_at (without (nat_eq node)) (λ xs. node ∷ xs) v.lists list)
    ∙ sym (moved_front-one v formed node list listed)

pub listed_within : (v : Linked) (node list : ℕ) → list_of v node ≡ Some list → list < length (unlinked v node).lists
listed_within v node list listed = omega (arith, (list_of-some v node list listed).0, length-map v.lists (without (nat_eq node)))
