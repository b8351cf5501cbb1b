-- The look-up of a key, one pair further on.
use Rattle.std.proofs.Common.{◌≡◌, ℕ, suc, ◌+◌, ◌*◌, ◌<◌, List, length, drop, get_or, Some, cond, eqb, refl, arith}
use Rattle.std.proofs.lemmas.List.{drop_more}
use Rattle.pei_types.specs.Operation.{value_of_key}

-- the first of the pairs from place j on, and those behind it
value_of_key-drop : (key n j : ℕ) (words : List ℕ) → j + 1 < length words → value_of_key key (suc n) (drop j words) ≡ cond (eqb (get_or words j 0) key) (Some (get_or words (j + 1) 0)) (value_of_key key n (drop (j + 1 + 1) words))
value_of_key-drop key n j words h =
    rw (drop_more words j 0 (omega arith), drop_more words (j + 1) 0 h) refl

-- the same, where m pairs are left and pair i is the first of them
pub value_of_key-more : (key m n i : ℕ) (words : List ℕ) → m ≡ suc n → 2 * i + 1 < length words → value_of_key key m (drop (2 * i) words) ≡ cond (eqb (get_or words (2 * i) 0) key) (Some (get_or words (2 * i + 1) 0)) (value_of_key key n (drop (2 * (i + 1)) words))
value_of_key-more key m n i words e h =
    let next : 2 * (i + 1) ≡ 2 * i + 1 + 1 = omega arith in
    rw (e, next) (value_of_key-drop key n (2 * i) words h)
