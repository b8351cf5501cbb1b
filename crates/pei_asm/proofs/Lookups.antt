-- Look-ups in a list of labels with their places.
use Rattle.std.proofs.Common.{◌≡◌, ℕ, List, [], ◌∷◌, ◌++◌, Bool, true, false, if◌then◌else◌, Option, Some, None, Bor, refl, ap, ◌∙◌, map}
use Rattle.std.proofs.lemmas.List.{map-append}
use Rattle.indexmap.specs.IndexMap.{insert_entry}
use Rattle.std.specs.Map.{lookup}
use Rattle.std.specs.Option.{option_or}
use Rattle.std.specs.Str.{bytes_eq}
use Rattle.pei_asm.specs.Sources.{place_in}

-- the same entries, with the bytes of the keys
pub lookup_bytes : (label : List ℕ) (entries : List (Bor (List ℕ) × ℕ)) → lookup (λ k. bytes_eq label k.now) entries ≡ place_in (map (λ e. (e.0.now, e.1)) entries) label
lookup_bytes label [] = refl
lookup_bytes label (e ∷ es) = ap (λ o. if bytes_eq label e.0.now then Some e.1 else o) (lookup_bytes label es)

-- a label more
pub lookup_snoc : (labels : List (List ℕ × ℕ)) (label : List ℕ) (place : ℕ) (other : List ℕ)
    → place_in (labels ++ (label, place) ∷ []) other ≡ option_or (place_in labels other) (if bytes_eq other label then Some place else None)
lookup_snoc [] label place other = refl
lookup_snoc (e ∷ es) label place other = ap (λ o. if bytes_eq other e.0 then Some e.1 else o) (lookup_snoc es label place other) ∙ by_key (bytes_eq other e.0) _ _
  where
    by_key : (b : Bool) (o p : Option ℕ) → (if b then Some e.1 else option_or o p) ≡ option_or (if b then Some e.1 else o) p
    by_key true o p = refl
    by_key false o p = refl

-- an entry that is put in under a new key
pub put_new : (label : Bor (List ℕ)) (place : ℕ) (entries after : List (Bor (List ℕ) × ℕ)) (labels : List (List ℕ × ℕ))
    → map (λ e. (e.0.now, e.1)) entries ≡ labels → place_in labels label.now ≡ None
    → after ≡ insert_entry (λ a b. bytes_eq a.now b.now) entries label place
    → map (λ e. (e.0.now, e.1)) after ≡ labels ++ (label.now, place) ∷ []
put_new label place entries after labels seen new e =
    ap (map (λ x. (x.0.now, x.1))) (e ∙ at_the_end entries (lookup_bytes label.now entries ∙ ap (λ ls. place_in ls label.now) seen ∙ new))
    ∙ map-append (λ x. (x.0.now, x.1)) entries ((label, place) ∷ []) ∙ ap (λ ls. ls ++ (label.now, place) ∷ []) seen
  where
    at_the_end : (es : List (Bor (List ℕ) × ℕ)) → lookup (λ k. bytes_eq label.now k.now) es ≡ None → insert_entry (λ a b. bytes_eq a.now b.now) es label place ≡ es ++ (label, place) ∷ []
    at_the_end [] h = refl
    at_the_end (e ∷ es) h = by_first (bytes_eq label.now e.0.now) h (at_the_end es)
      where
        by_first : (b : Bool) → (if b then Some e.1 else lookup (λ k. bytes_eq label.now k.now) es) ≡ None
            → (lookup (λ k. bytes_eq label.now k.now) es ≡ None → insert_entry (λ a b. bytes_eq a.now b.now) es label place ≡ es ++ (label, place) ∷ [])
            → (if b then (e.0, place) ∷ es else e ∷ insert_entry (λ a b. bytes_eq a.now b.now) es label place) ≡ e ∷ (es ++ (label, place) ∷ [])
        by_first true h more = absurd (cc h)
        by_first false h more = ap (λ xs. e ∷ xs) (more h)
