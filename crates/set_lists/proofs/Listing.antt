-- Which slots are in the lists after each call.
use Rattle.std.proofs.Common.{◌≡◌, ◌≢◌, ◌⊎◌, ℕ, zero, suc, true, true≢false, List, [], ◌∷◌, nat_eq, Some, None, refl, sym, ◌∙◌, ap, inl, inr, arith}
use Rattle.std.proofs.lemmas.Bool.Decides.{eqb_tells}
use Rattle.pei_types.specs.Recency.{change_at, list_at, without}
use Rattle.link_list.specs.Linked.{has_node}
use Rattle.set_lists.specs.Placed.{Placed, IsListed, IsPlaced, key_at, touched, inserted, removed}
use Rattle.set_lists.proofs.Members.{is_later, other_without}
use Rattle.pei_types.proofs.Members.{member_before-without}

-- a slot in the lists of which one was changed
changed_has : (lists : List (List ℕ)) (i : ℕ) (f : List ℕ → List ℕ) (l x : ℕ) → has_node (list_at (change_at lists i f) l) x ≡ true
    → ((l ≡ i) × (has_node (f (list_at lists i)) x ≡ true)) ⊎ ((l ≢ i) × (has_node (list_at lists l) x ≡ true))
changed_has [] i f l x here = absurd (true≢false (sym here))
changed_has (xs ∷ lists) zero f zero x here = inl (refl, here)
changed_has (xs ∷ lists) zero f (suc l) x here = inr (λ e. absurd (omega arith), here)
changed_has (xs ∷ lists) (suc i) f zero x here = inr (λ e. absurd (omega arith), here)
changed_has (xs ∷ lists) (suc i) f (suc l) x here = elim (changed_has lists i f l x here) [
  | inl same ↦ inl (ap suc same.0, same.1)
  | inr other ↦ inr (λ e. other.0 (omega arith), other.1)
]

in_set : (v : Placed) (set other x : ℕ) → other ≡ set → IsListed v set x → IsListed v other x
in_set v set other x same here = ap (λ s. has_node (list_at v.lists s) x) same ∙ here

pub touching : (v : Placed) (set slot : ℕ) → IsListed v set slot → (other x : ℕ) → IsListed (touched v set slot) other x → IsListed v other x
touching v set slot listed other x here = elim (changed_has v.lists set (λ xs. slot ∷ without (nat_eq slot) xs) other x here) [
  | inl same ↦ in_set v set other x same.0 (elim (eqb_tells x slot) [
    | inl at_slot ↦ ap (λ z. has_node (list_at v.lists set) z) at_slot.1 ∙ listed
    | inr apart ↦ member_before-without x slot (list_at v.lists set) (is_later x slot (without (nat_eq slot) (list_at v.lists set)) apart.1 same.1)
  ])
  | inr apart ↦ apart.1
]

not_free : (v : Placed) → IsPlaced v → (slot : ℕ) → key_at v.keys slot ≡ None → (set x : ℕ) → IsListed v set x → x ≢ slot
not_free v placed slot free set x here same =
    let kept = placed.keyed set x here
    in let e : None ≡ Some kept.0 = sym free ∙ ap (λ z. key_at v.keys z) (sym same) ∙ kept.1
    in cc e

pub inserting : (v : Placed) → IsPlaced v → (set slot key : ℕ) → key_at v.keys slot ≡ None → (other x : ℕ) → IsListed (inserted v set slot key) other x → ((other ≡ set) × (x ≡ slot)) ⊎ (IsListed v other x × (x ≢ slot))
inserting v placed set slot key free other x here = elim (changed_has v.lists set (λ xs. slot ∷ xs) other x here) [
  | inl same ↦ elim (eqb_tells x slot) [
    | inl at_slot ↦ inl (same.0, at_slot.1)
    | inr apart ↦ inr (in_set v set other x same.0 (is_later x slot (list_at v.lists set) apart.1 same.1), apart.1)
  ]
  | inr apart ↦ inr (apart.1, not_free v placed slot free other x apart.1)
]

pub removing : (v : Placed) → IsPlaced v → (set slot : ℕ) → IsListed v set slot → (other x : ℕ) → IsListed (removed v set slot) other x → IsListed v other x × (x ≢ slot)
removing v placed set slot listed other x here = elim (changed_has v.lists set (without (nat_eq slot)) other x here) [
  | inl same ↦ (in_set v set other x same.0 (member_before-without x slot (list_at v.lists set) same.1), other_without x slot (list_at v.lists set) same.1)
  | inr apart ↦ (apart.1, λ e. apart.0 (placed.apart other set slot (ap (λ z. has_node (list_at v.lists other) z) (sym e) ∙ apart.1) listed))
]
