-- A table of packed words, and the claims that it is seen as.
use Rattle.std.proofs.Common.{◌≡◌, ℕ, zero, suc, ◌/◌, ◌%◌, ◌<◌, List, [], ◌∷◌, map, length, set, get_or, replicate, refl, ap, sym, ◌∙◌, subst, arith, Some}
use Rattle.std.specs.Prelude.{slice_get, IsTrue}
use lib.Seq.{map-set}
use Rattle.pei_types.specs.declared.operations.Mode.{Mode}
use Rattle.pei_types.specs.declared.operations.Mode.TheVariants.{Reader, Writer}
use Rattle.pei_types.specs.Claims.{Claims, word_of_claims, with_announcement, with_claim, without_claim, no_claims, is_granted}
use Rattle.pim_directory.specs.Words.{IsPacked, IsReady, claims_of_word, AllPacked}

-- claims by their counts
abbrev pub claims : ℕ → ℕ → ℕ → Claims
claims readers writers waiting = record { readers = readers; writers = writers; waiting = waiting }

-- a word is that of the claims that it packs
pub word_is : (w : ℕ) → w ≡ word_of_claims (claims_of_word w)
word_is w = omega arith

-- the claims that a word of packed claims packs
pub claims_are : (t : Claims) → IsPacked t → claims_of_word (word_of_claims t) ≡ t
claims_are t p =
    let a : word_of_claims t % 256 ≡ t.readers = let x = p.0 in let y = p.1 in omega arith in
    let b : word_of_claims t / 256 % 256 ≡ t.writers = let x = p.0 in let y = p.1 in omega arith in
    let c : word_of_claims t / 65536 ≡ t.waiting = let x = p.0 in let y = p.1 in omega arith in
    λ i. record { readers = a i; writers = b i; waiting = c i }

-- the word at a place packs the claims that are seen there
pub seen_at : (ws : List ℕ) (i : ℕ) (t : Claims) (d : ℕ) → slice_get (map claims_of_word ws) i ≡ Some t → (slice_get ws i ≡ Some (get_or ws i d)) × (claims_of_word (get_or ws i d) ≡ t) × (i < length ws)
seen_at [] i t d e = absurd (cc)
seen_at (w ∷ ws) zero t d e = (refl, the_some (claims_of_word w) t e, omega arith)
  where
    the_some : (x y : Claims) → Some x ≡ Some y → x ≡ y
    the_some x y q = cc
seen_at (w ∷ ws) (suc i) t d e = let r = seen_at ws i t d e in (r.0, r.1, (let l = r.2 in omega arith))

-- the word at a place is that of the claims that are seen there, and they are packed
pub packed_at : (ws : List ℕ) (i : ℕ) (t : Claims) (d : ℕ) → AllPacked ws → slice_get (map claims_of_word ws) i ≡ Some t → (get_or ws i d ≡ word_of_claims t) × IsPacked t
packed_at ws i t d all e = let s = seen_at ws i t d e in (word_is (get_or ws i d) ∙ ap word_of_claims s.1, subst IsPacked s.1 (all i (get_or ws i d) s.0))

-- a word of packed claims may be written
pub packed_set : (ws : List ℕ) (i : ℕ) (t : Claims) (w : ℕ) → w ≡ word_of_claims t → IsPacked t → AllPacked ws → AllPacked (set ws i w)
packed_set [] i t w is p all j v e = all j v e
packed_set (x ∷ ws) zero t w is p all zero v e = subst IsPacked (sym (claims_are t p) ∙ ap claims_of_word (sym is ∙ the_some w v e)) p
  where
    the_some : (a b : ℕ) → Some a ≡ Some b → a ≡ b
    the_some a b q = cc
packed_set (x ∷ ws) zero t w is p all (suc j) v e = all (suc j) v e
packed_set (x ∷ ws) (suc i) t w is p all zero v e = all zero v e
packed_set (x ∷ ws) (suc i) t w is p all (suc j) v e = packed_set ws i t w is p (λ k u f. all (suc k) u f) j v e

-- a write of a word is seen as a write of its claims
pub view_set : (ws : List ℕ) (i : ℕ) (t : Claims) (w : ℕ) → w ≡ word_of_claims t → IsPacked t → map claims_of_word (set ws i w) ≡ set (map claims_of_word ws) i t
view_set ws i t w is p = map-set claims_of_word ws i w ∙ ap (set (map claims_of_word ws) i) (ap claims_of_word is ∙ claims_are t p)

-- words of 0 are seen as entries without claims
pub map_zeros : (n : ℕ) → map claims_of_word (replicate n 0) ≡ replicate n no_claims
map_zeros zero = refl
map_zeros (suc n) = ap (λ l. no_claims ∷ l) (map_zeros n)

-- what was read at a place
pub read_at : (ws : List ℕ) (now : List Claims) (i : ℕ) (t : Claims) (r : ℕ) → map claims_of_word ws ≡ now → AllPacked ws → slice_get now i ≡ Some t → r ≡ get_or ws i r → (r ≡ word_of_claims t) × IsPacked t
read_at ws now i t r seen all e is = let p = packed_at ws i t r all (subst (λ (l : List Claims). slice_get l i ≡ Some t) (sym seen) e) in (is ∙ p.0, p.1)

-- what is seen after a write
pub wrote : (ws : List ℕ) (now : List Claims) (i : ℕ) (t : Claims) (w : ℕ) → map claims_of_word ws ≡ now → w ≡ word_of_claims t → IsPacked t → map claims_of_word (set ws i w) ≡ set now i t
wrote ws now i t w seen is p = view_set ws i t w is p ∙ ap (λ l. set l i t) seen

-- what fits the bits of a word after an announcement, a grant and a release
pub packed_announce : (t : Claims) → IsPacked t → t.waiting < 255 → IsPacked (with_announcement t)
packed_announce t p h = let a = p.0 in let b = p.1 in (a, b, omega arith)

-- a writer is granted where no writer holds the entry
free_of : (t : Claims) → IsTrue (is_granted t Writer) → t.writers ≡ 0
free_of t g = grind arith

pub packed_grant : (mode : Mode) (t : Claims) → IsPacked t → IsReady t mode → IsTrue (is_granted t mode) → IsPacked (with_claim t mode)
packed_grant Reader t p r g = let a = p.0 in let b = p.1 in let c = p.2 in (omega arith, b, c)
packed_grant Writer t p r g = let a = p.0 in let b = p.1 in let c = p.2 in let z = free_of t g in (a, omega arith, omega arith)

pub packed_release : (mode : Mode) (t : Claims) → IsPacked t → IsPacked (without_claim t mode)
packed_release Reader t p = let a = p.0 in let b = p.1 in let c = p.2 in (omega arith, b, c)
packed_release Writer t p = let a = p.0 in let b = p.1 in let c = p.2 in (a, omega arith, c)

-- one place has one entry
pub same_claims : (xs : List Claims) (i : ℕ) (t u : Claims) → slice_get xs i ≡ Some t → slice_get xs i ≡ Some u → t ≡ u
same_claims xs i t u p q = cc
