-- What each change of the arrays does to the lists that they have.
use Rattle.std.proofs.Common.{◌≡◌, ℕ, ◌<◌, true, false, List, [], ◌∷◌, ◌++◌, reverse, length, replicate, Option, Some, None, nat_eq, refl, sym, ◌∙◌, ap, subst, arith}
use Rattle.std.specs.Prelude.{slice_set, slice_index_or}
use Rattle.std.specs.List.{last_or, IsDistinct}
use Rattle.std.proofs.lemmas.List.{length-set, get_or_read_under, length-replicate}
use Rattle.pei_types.specs.Recency.{change_at, list_at, without}
use Rattle.link_list.specs.Linked.{Linked, IsWellFormed, has_node, list_of, follower, pushed_front, pushed_back, unlinked}
use Rattle.link_list.specs.Walks.{walked, shown, Links, IsChained, behind_led, firsts_led}
use Rattle.link_list.proofs.Nodes.{has_node-split, has_node-append, distinct-back}
use Rattle.link_list.proofs.Followers.{follower-reverse}
use Rattle.link_list.proofs.Changing.{list_of-none, list_of-some}
use Rattle.link_list.proofs.Formed.{pushed_front-well_formed, pushed_back-well_formed, unlinked-well_formed, unlinked-one}
use Rattle.link_list.proofs.Arrays.{walked-lists, chained}
use Rattle.link_list.proofs.Linking.{front_linked, back_linked, out_linked, length-behind_led, none_linked}
use Rattle.std.proofs.lemmas.Bool.{or_left}
use Rattle.pei_types.proofs.Members.{distinct-head, last_is_member}

-- the arrays have these lists
pub record Has (behind firsts : List (Option ℕ)) (v : Linked) : Type 0 where
  pub in_order : IsChained behind firsts
  pub is : shown behind firsts ≡ v
  pub formed : IsWellFormed (shown behind firsts)

from_links : (behind firsts : List (Option ℕ)) (lists : List (List ℕ)) (n : ℕ) → length behind ≡ n → Links behind firsts lists → Has behind firsts (record { nodes = n; lists = lists })
from_links behind firsts lists n many links =
    let order = chained behind firsts lists links
    in record {
      in_order = order;
      is = ap (λ ls. record { nodes = length behind; lists = ls }) (walked-lists behind firsts lists links) ∙ ap (λ k. record { nodes = k; lists = lists }) many;
      formed = order.well_formed;
    }

pub has_none : (behind firsts : List (Option ℕ)) (n m : ℕ) → behind ≡ replicate n None → firsts ≡ replicate m None → Has behind firsts (record { nodes = n; lists = replicate m [] })
has_none behind firsts n m b f = rw b (rw f (from_links (replicate n None) (replicate m None) (replicate m []) n (length-replicate n None) (none_linked n m)))

-- ---- what is read

pub follower_read : (behind firsts : List (Option ℕ)) (v : Linked) → IsChained behind firsts → shown behind firsts ≡ v → (list node : ℕ) → list_of v node ≡ Some list → (x : Option ℕ) → x ≡ slice_index_or behind node x → x ≡ follower (list_at v.lists list) node
follower_read behind firsts v order e list node listed x read =
    let here : has_node (list_at (walked behind firsts) list) node ≡ true = (list_of-some (shown behind firsts) node list (rw (sym e) at listed)).1
    in subst (λ w. x ≡ follower (list_at w.lists list) node) e
    (get_or_read_under behind node (length behind) x None read (order.well_formed.in_range list node here) refl ∙ order.next list node here)

-- ---- in front

front_shown : (behind firsts : List (Option ℕ)) → IsChained behind firsts → (list node : ℕ) → list < length (walked behind firsts) → node < length behind → list_of (shown behind firsts) node ≡ None
    → Has (slice_set behind node (slice_index_or firsts list None)) (slice_set firsts list (Some node)) (pushed_front (shown behind firsts) list node)
front_shown behind firsts order list node on within free =
    from_links (slice_set behind node (slice_index_or firsts list None)) (slice_set firsts list (Some node)) (change_at (walked behind firsts) list (λ xs. node ∷ xs)) (length behind)
    (length-set behind node (slice_index_or firsts list None))
    (front_linked behind firsts (walked behind firsts) list node order on within (list_of-none (shown behind firsts) node free)
    (pushed_front-well_formed (shown behind firsts) order.well_formed list node on within free))

pub has_front : (behind firsts : List (Option ℕ)) (v : Linked) → IsChained behind firsts → shown behind firsts ≡ v → (list node : ℕ) → list < length v.lists → node < v.nodes → list_of v node ≡ None
    → (x : Option ℕ) → x ≡ slice_index_or firsts list x → Has (slice_set behind node x) (slice_set firsts list (Some node)) (pushed_front v list node)
has_front behind firsts v order e list node on within free x read =
    let there : list < length (walked behind firsts) = rw (sym e) at on
    in let is_first : x ≡ slice_index_or firsts list None = get_or_read_under firsts list (length firsts) x None read (omega (arith, there, order.same_length)) refl
    in rw is_first (subst (λ w. Has (slice_set behind node (slice_index_or firsts list None)) (slice_set firsts list (Some node)) (pushed_front w list node)) e
    (front_shown behind firsts order list node there (rw (sym e) at within) (rw (sym e) at free)))

-- ---- behind

back_shown : (behind firsts : List (Option ℕ)) → IsChained behind firsts → (list node : ℕ) → list < length (walked behind firsts) → node < length behind → list_of (shown behind firsts) node ≡ None
    → Has (slice_set (behind_led behind (last_or None (list_at (walked behind firsts) list)) (Some node)) node None) (firsts_led firsts list (last_or None (list_at (walked behind firsts) list)) (Some node)) (pushed_back (shown behind firsts) list node)
back_shown behind firsts order list node on within free =
    let last : Option ℕ = last_or None (list_at (walked behind firsts) list)
    in from_links (slice_set (behind_led behind last (Some node)) node None) (firsts_led firsts list last (Some node)) (change_at (walked behind firsts) list (λ xs. xs ++ node ∷ [])) (length behind)
    (length-set (behind_led behind last (Some node)) node None ∙ length-behind_led behind last (Some node))
    (back_linked behind firsts (walked behind firsts) list node order on within (list_of-none (shown behind firsts) node free)
    (pushed_back-well_formed (shown behind firsts) order.well_formed list node on within free))

pub has_back : (behind firsts : List (Option ℕ)) (v : Linked) → IsChained behind firsts → shown behind firsts ≡ v → (list node : ℕ) → list < length v.lists → node < v.nodes → list_of v node ≡ None
    → (last : Option ℕ) → last ≡ last_or None (list_at v.lists list) → (led led_firsts : List (Option ℕ)) → led ≡ behind_led behind last (Some node) → led_firsts ≡ firsts_led firsts list last (Some node)
    → Has (slice_set led node None) led_firsts (pushed_back v list node)
has_back behind firsts v order e list node on within free last is_last led led_firsts is_led is_led_firsts =
    let was_last : last ≡ last_or None (list_at (walked behind firsts) list) = rw (sym e) at is_last
    in rw is_led (rw is_led_firsts (rw was_last (subst (λ w. Has (slice_set (behind_led behind (last_or None (list_at (walked behind firsts) list)) (Some node)) node None) (firsts_led firsts list (last_or None (list_at (walked behind firsts) list)) (Some node)) (pushed_back w list node)) e
    (back_shown behind firsts order list node (rw (sym e) at on) (rw (sym e) at within) (rw (sym e) at free)))))

pub last_within : (behind firsts : List (Option ℕ)) (v : Linked) → IsChained behind firsts → shown behind firsts ≡ v → (list : ℕ) (last : Option ℕ) → last ≡ last_or None (list_at v.lists list) → (x : ℕ) → last ≡ Some x → x < length behind
last_within behind firsts v order e list last is_last x some =
    order.well_formed.in_range list x (last_is_member (list_at (walked behind firsts) list) x (sym (rw (sym e) at is_last) ∙ some))

-- ---- out

-- the nodes in front of a node and behind it
record Parts (xs : List ℕ) (node : ℕ) (before : Option ℕ) : Type 0 where
  ys : List ℕ
  zs : List ℕ
  split : xs ≡ ys ++ node ∷ zs
  last : before ≡ last_or None ys

parts : (xs : List ℕ) (node : ℕ) → IsDistinct nat_eq xs → has_node xs node ≡ true → (before : Option ℕ) → before ≡ follower (reverse xs) node → Parts xs node before
parts xs node differ here before is_before =
    let found = has_node-split node xs here
    in let split : xs ≡ found.0 ++ node ∷ found.1 = found.2
    in let free : has_node found.1 node ≡ false = distinct-head node found.1 (distinct-back found.0 (node ∷ found.1) (rw split at differ))
    in record { ys = found.0; zs = found.1; split = split; last = is_before ∙ ap (λ l. follower (reverse l) node) split ∙ follower-reverse found.0 found.1 node free }

out_shown : (behind firsts : List (Option ℕ)) → IsChained behind firsts → (list node : ℕ) → list_of (shown behind firsts) node ≡ Some list
    → (before : Option ℕ) → before ≡ follower (reverse (list_at (walked behind firsts) list)) node
    → Has (behind_led behind before (slice_index_or behind node None)) (firsts_led firsts list before (slice_index_or behind node None)) (unlinked (shown behind firsts) node)
out_shown behind firsts order list node listed before is_before =
    let there = list_of-some (shown behind firsts) node list listed
    in let part = parts (list_at (walked behind firsts) list) node (order.well_formed.distinct list) there.1 before is_before
    in let one = unlinked-one (shown behind firsts) order.well_formed node list listed
    in let to : Option ℕ = slice_index_or behind node None
    in let formed : IsWellFormed (record { nodes = length behind; lists = change_at (walked behind firsts) list (without (nat_eq node)) }) = rw one at (unlinked-well_formed (shown behind firsts) order.well_formed node)
    in rw part.last (subst (λ w. Has (behind_led behind (last_or None part.ys) to) (firsts_led firsts list (last_or None part.ys) to) w) (sym one)
    (from_links (behind_led behind (last_or None part.ys) to) (firsts_led firsts list (last_or None part.ys) to) (change_at (walked behind firsts) list (without (nat_eq node))) (length behind)
    (length-behind_led behind (last_or None part.ys) to)
    (out_linked behind firsts (walked behind firsts) list node part.ys part.zs order there.0 part.split formed)))

pub has_out : (behind firsts : List (Option ℕ)) (v : Linked) → IsChained behind firsts → shown behind firsts ≡ v → (list node : ℕ) → list_of v node ≡ Some list
    → (before : Option ℕ) → before ≡ follower (reverse (list_at v.lists list)) node → (after : Option ℕ) → after ≡ slice_index_or behind node after → node < v.nodes
    → (led led_firsts : List (Option ℕ)) → led ≡ behind_led behind before after → led_firsts ≡ firsts_led firsts list before after
    → Has led led_firsts (unlinked v node)
has_out behind firsts v order e list node listed before is_before after read within led led_firsts is_led is_led_firsts =
    let is_after : after ≡ slice_index_or behind node None = get_or_read_under behind node (length behind) after None read (rw (sym e) at within) refl
    in rw is_led (rw is_led_firsts (rw is_after (subst (λ w. Has (behind_led behind before (slice_index_or behind node None)) (firsts_led firsts list before (slice_index_or behind node None)) (unlinked w node)) e
    (out_shown behind firsts order list node (rw (sym e) at listed) before (rw (sym e) at is_before)))))

pub before_within : (behind firsts : List (Option ℕ)) (v : Linked) → IsChained behind firsts → shown behind firsts ≡ v → (list node : ℕ) → list_of v node ≡ Some list
    → (before : Option ℕ) → before ≡ follower (reverse (list_at v.lists list)) node → (x : ℕ) → before ≡ Some x → x < length behind
before_within behind firsts v order e list node listed before is_before x some =
    let there = list_of-some (shown behind firsts) node list (rw (sym e) at listed)
    in let part = parts (list_at (walked behind firsts) list) node (order.well_formed.distinct list) there.1 before (rw (sym e) at is_before)
    in order.well_formed.in_range list x (ap (λ xs. has_node xs x) part.split ∙ has_node-append part.ys (node ∷ part.zs) x ∙ or_left (has_node part.ys x) (has_node (node ∷ part.zs) x) (last_is_member part.ys x (sym part.last ∙ some)))

pub list_within : (behind firsts : List (Option ℕ)) (v : Linked) → IsChained behind firsts → shown behind firsts ≡ v → (list node : ℕ) → list_of v node ≡ Some list → list < length firsts
list_within behind firsts v order e list node listed =
    omega (arith, (list_of-some (shown behind firsts) node list (rw (sym e) at listed)).0, order.same_length)
