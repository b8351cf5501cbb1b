-- Look-ups in a list of declared names.
use Rattle.std.proofs.Common.{◌≡◌, ℕ, List, [], ◌∷◌, ◌++◌, Bool, true, false, if◌then◌else◌, Some, None, Bor, refl, ap, ◌∙◌, map}
use Rattle.std.proofs.lemmas.List.{map-append}
use Rattle.indexmap.specs.IndexMap.{insert_entry}
use Rattle.std.specs.Map.{lookup}
use Rattle.std.specs.Str.{bytes_eq}
use Rattle.kernel_text.specs.Known.{kind_of}

-- the same entries, with the bytes of the keys
pub kind_by_bytes : (name : List ℕ) (entries : List (Bor (List ℕ) × Bool)) → lookup (λ k. bytes_eq name k.now) entries ≡ kind_of (map (λ e. (e.0.now, e.1)) entries) name
kind_by_bytes name [] = refl
kind_by_bytes name (e ∷ es) = ap (λ o. if bytes_eq name e.0.now then Some e.1 else o) (kind_by_bytes name es)

-- an entry that is put in under a new name
pub put_new : (name : Bor (List ℕ)) (array : Bool) (entries after : List (Bor (List ℕ) × Bool)) (declared : List (List ℕ × Bool))
    → map (λ e. (e.0.now, e.1)) entries ≡ declared → kind_of declared name.now ≡ None
    → after ≡ insert_entry (λ a b. bytes_eq a.now b.now) entries name array
    → map (λ e. (e.0.now, e.1)) after ≡ declared ++ (name.now, array) ∷ []
put_new name array entries after declared seen new e =
    ap (map (λ x. (x.0.now, x.1))) (e ∙ at_the_end entries (kind_by_bytes name.now entries ∙ ap (λ ls. kind_of ls name.now) seen ∙ new))
    ∙ map-append (λ x. (x.0.now, x.1)) entries ((name, array) ∷ []) ∙ ap (λ ls. ls ++ (name.now, array) ∷ []) seen
  where
    at_the_end : (es : List (Bor (List ℕ) × Bool)) → lookup (λ k. bytes_eq name.now k.now) es ≡ None → insert_entry (λ a b. bytes_eq a.now b.now) es name array ≡ es ++ (name, array) ∷ []
    at_the_end [] h = refl
    at_the_end (e ∷ es) h = by_first (bytes_eq name.now e.0.now) h (at_the_end es)
      where
        by_first : (b : Bool) → (if b then Some e.1 else lookup (λ k. bytes_eq name.now k.now) es) ≡ None
            → (lookup (λ k. bytes_eq name.now k.now) es ≡ None → insert_entry (λ a b. bytes_eq a.now b.now) es name array ≡ es ++ (name, array) ∷ [])
            → (if b then (e.0, array) ∷ es else e ∷ insert_entry (λ a b. bytes_eq a.now b.now) es name array) ≡ e ∷ (es ++ (name, array) ∷ [])
        by_first true h more = absurd (cc h)
        by_first false h more = ap (λ xs. e ∷ xs) (more h)
