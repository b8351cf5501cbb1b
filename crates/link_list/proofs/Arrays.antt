-- The arrays that link nodes, and the lists that they have.
use Rattle.std.proofs.Common.{◌≡◌, ℕ, zero, suc, ◌<◌, ◌≤◌, true, List, [], ◌∷◌, length, Option, None, nat_eq, refl, ◌∙◌, ap, arith}
use Rattle.std.specs.Prelude.{slice_get, slice_index_or}
use Rattle.std.specs.List.{IsDistinct}
use Rattle.std.proofs.lemmas.List.{ext_get_or, length-map, get_or-map}
use Rattle.std.proofs.lemmas.Map.Steps.{length-le_from_distinct_below}
use Rattle.pei_types.specs.Recency.{list_at}
use Rattle.link_list.specs.Linked.{has_node, follower}
use Rattle.link_list.specs.Walks.{walk, walked, Links, IsChained}
use Rattle.link_list.proofs.Nodes.{has_node-same}
use Rattle.link_list.proofs.Followers.{follower-cons_same, follower-cons_other}
use Rattle.std.proofs.lemmas.Bool.{or_right}
use Rattle.pei_types.proofs.Tests.{not_both}
use Rattle.pei_types.proofs.Members.{distinct-head, distinct-tail, first_is_member}

walk-list : (behind : List (Option ℕ)) (xs : List ℕ) (n : ℕ) → IsDistinct nat_eq xs
    → ((x : ℕ) → has_node xs x ≡ true → slice_index_or behind x None ≡ follower xs x) → length xs ≤ n → walk behind n (slice_get xs 0) ≡ xs
walk-list behind [] zero d next fits = refl
walk-list behind [] (suc n) d next fits = refl
walk-list behind (x ∷ xs) zero d next fits = absurd (omega arith)
walk-list behind (x ∷ xs) (suc n) d next fits =
    let on : slice_index_or behind x None ≡ slice_get xs 0 = next x (first_is_member x xs) ∙ follower-cons_same x xs
    in let rest = walk-list behind xs n (distinct-tail x xs d) (λ y here. next y (or_right (nat_eq y x) (has_node xs y) here) ∙ follower-cons_other y x xs (λ same. not_both (has_node xs x) (has_node-same xs y x same here) (distinct-head x xs d))) (omega arith)
    in rw on (ap (λ ys. x ∷ ys) rest)

-- the walks give the lists that the arrays have
pub walked-lists : (behind firsts : List (Option ℕ)) (lists : List (List ℕ)) → Links behind firsts lists → walked behind firsts ≡ lists
walked-lists behind firsts lists links =
    let many : length (walked behind firsts) ≡ length lists = length-map firsts (walk behind (length behind)) ∙ links.same_length
    in ext_get_or [] (walked behind firsts) lists many (λ i within.
    let on : i < length firsts = omega (arith, within, length-map firsts (walk behind (length behind)))
    in let there : i < length lists = omega (arith, within, many)
    in get_or-map (walk behind (length behind)) firsts i None [] on
    ∙ ap (λ o. walk behind (length behind) o) (links.first i there)
    ∙ walk-list behind (list_at lists i) (length behind) (links.well_formed.distinct i) (λ x here. links.next i x here)
    (length-le_from_distinct_below (list_at lists i) (length behind) (links.well_formed.distinct i) (λ x here. links.well_formed.in_range i x here)))

pub chained : (behind firsts : List (Option ℕ)) (lists : List (List ℕ)) → Links behind firsts lists → IsChained behind firsts
chained behind firsts lists links = rw (walked-lists behind firsts lists links) links
