-- Look-ups in a list of declared names.
use Rattle.std.proofs.Common.{◌≡◌, ℕ, List, [], ◌∷◌, ◌++◌, Bool, true, false, if◌then◌else◌, Option, Some, None, Bor, refl, sym, ap, subst, ◌∙◌, map, arith}
use Rattle.std.proofs.lemmas.List.{map-append}
use Rattle.indexmap.specs.IndexMap.{insert_entry}
use Rattle.std.specs.List.{AllByRecursion}
use Rattle.std.specs.Map.{lookup}
use Rattle.std.specs.Str.{bytes_eq}
use Rattle.kernel_lang.specs.declared.homes.Home.{Home}
use Rattle.kernel_lang.specs.Homes.{Frame, IsInReach, home_of, or_nowhere}

abbrev Entries : Type 0
Entries = List (Bor (List ℕ) × Home)

-- the same entries, with the bytes of the keys
pub found_by_bytes : (name : List ℕ) (entries : Entries) → lookup (λ k. bytes_eq name k.now) entries ≡ lookup (bytes_eq name) (map (λ e. (e.0.now, e.1)) entries)
found_by_bytes name [] = refl
found_by_bytes name (e ∷ es) = ap (λ o. if bytes_eq name e.0.now then Some e.1 else o) (found_by_bytes name es)

-- an entry that is put in under a new name
pub put_new : (name : Bor (List ℕ)) (home : Home) (entries after : Entries) (homes : List (List ℕ × Home))
    → map (λ e. (e.0.now, e.1)) entries ≡ homes → lookup (bytes_eq name.now) homes ≡ None
    → after ≡ insert_entry (λ a b. bytes_eq a.now b.now) entries name home
    → map (λ e. (e.0.now, e.1)) after ≡ homes ++ (name.now, home) ∷ []
put_new name home entries after homes seen new e =
    ap (map (λ x. (x.0.now, x.1))) (e ∙ at_the_end entries (found_by_bytes name.now entries ∙ ap (lookup (bytes_eq name.now)) seen ∙ new))
    ∙ map-append (λ x. (x.0.now, x.1)) entries ((name, home) ∷ []) ∙ ap (λ ls. ls ++ (name.now, home) ∷ []) seen
  where
    at_the_end : (es : Entries) → lookup (λ k. bytes_eq name.now k.now) es ≡ None → insert_entry (λ a b. bytes_eq a.now b.now) es name home ≡ es ++ (name, home) ∷ []
    at_the_end [] h = refl
    at_the_end (e ∷ es) h = by_first (bytes_eq name.now e.0.now) h (at_the_end es)
      where
        by_first : (b : Bool) → (if b then Some e.1 else lookup (λ k. bytes_eq name.now k.now) es) ≡ None
            → (lookup (λ k. bytes_eq name.now k.now) es ≡ None → insert_entry (λ a b. bytes_eq a.now b.now) es name home ≡ es ++ (name, home) ∷ [])
            → (if b then (e.0, home) ∷ es else e ∷ insert_entry (λ a b. bytes_eq a.now b.now) es name home) ≡ e ∷ (es ++ (name, home) ∷ [])
        by_first true h more = absurd (cc h)
        by_first false h more = ap (λ xs. e ∷ xs) (more h)

-- a home that is found is in reach, and so is the one of names that are not found
found_in_reach : (name : List ℕ) (homes : List (List ℕ × Home)) → AllByRecursion (λ (e : List ℕ × Home). IsInReach e.1) homes → IsInReach (or_nowhere (lookup (bytes_eq name) homes))
found_in_reach name [] all = (omega arith, omega arith, omega arith)
found_in_reach name (e ∷ es) all = by_first (bytes_eq name e.0) (found_in_reach name es all.1)
  where
    by_first : (b : Bool) → IsInReach (or_nowhere (lookup (bytes_eq name) es)) → IsInReach (or_nowhere (if b then Some e.1 else lookup (bytes_eq name) es))
    by_first true later = all.0
    by_first false later = later

pub in_reach : (f : Frame) (name : List ℕ) → AllByRecursion (λ (e : List ℕ × Home). IsInReach e.1) f.homes → IsInReach (home_of f name)
in_reach f name all = found_in_reach name f.homes all

-- what is found by the entries
pub home_found : (f : Frame) (name : List ℕ) (es : Entries) (o : Option Home) → map (λ e. (e.0.now, e.1)) es ≡ f.homes → o ≡ lookup (λ k. bytes_eq name k.now) es → or_nowhere o ≡ home_of f name
home_found f name es o seen is = ap or_nowhere (is ∙ found_by_bytes name es ∙ ap (lookup (bytes_eq name)) seen)
