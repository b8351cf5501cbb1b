-- Seats go back one by one, in the order of their cores.
use Rattle.std.proofs.Common.{All, ◌≡◌, ℕ, suc, ◌+◌, ◌-◌, ◌<◌, ◌≤◌, List, [], ◌∷◌, ◌++◌, map, set, length, replicate, get_or, Option, None, refl, sym, ◌∙◌, ap, subst, arith, length-append}
use Rattle.std.specs.List.{range_with_len}
use Rattle.std.proofs.lemmas.List.{append_assoc, append-nil, length-map, map-append}
use Rattle.std.proofs.lemmas.List.FromFn.{get_or-range_with_len}
use Rattle.atomic_table.specs.Seated.{TableId}
use Rattle.pei_types.specs.declared.calls.EndKind.{EndKind}
use Rattle.shared_table.specs.Parts.{core_number}
use Rattle.shared_table.specs.Place.{SeatView}
use Rattle.host_run.proofs.ClosingBanks.{length_middle}

read_middle : {A : Type 0} (front rest : List A) (x d : A) → get_or (front ++ x ∷ rest) (length front) d ≡ x
read_middle [] rest x d = refl
read_middle (y ∷ front) rest x d = read_middle front rest x d

-- a list is written behind its first items
write_behind : {A : Type 0} (front : List A) (k : ℕ) (x none : A) → set (front ++ replicate (suc k) none) (length front) x ≡ (front ++ x ∷ []) ++ replicate k none
write_behind [] k x none = refl
write_behind (y ∷ front) k x none = ap (λ xs. y ∷ xs) (write_behind front k x none)

abbrev pub no_ends : ℕ → List (Option EndKind)
no_ends n = replicate (8 - n) None

-- of these seats with their ends, those in front are back, and x comes next
module _ (t : TableId) (items front left rest : List (SeatView × Option EndKind)) (x : SeatView × Option EndKind) (few : length items ≤ 8) (same : front ++ left ≡ items) (next : left ≡ x ∷ rest) where
  whole : front ++ x ∷ rest ≡ items
  whole = ap (λ xs. front ++ xs) (sym next) ∙ same

  below : length front < length items
  below = subst (λ xs. length front < length xs) whole (length_middle front rest x)

  pub room : length front < 8
  room = let less = below in omega (arith, less, few)

  pub of_table : All (λ y. y.0.table ≡ t) items → x.0.table ≡ t
  of_table all = ap (λ (y : SeatView × Option EndKind). y.0.table) (sym (ap (λ ys. get_or ys (length front) x) (sym whole) ∙ read_middle front rest x x)) ∙ all (length front) x below

  pub its_number : map (λ y. core_number y.0) items ≡ range_with_len 0 (length items) → core_number x.0 ≡ length front
  its_number order =
      let here : get_or (map (λ (y : SeatView × Option EndKind). core_number y.0) (front ++ x ∷ rest)) (length front) 0 ≡ core_number x.0 = (
      ap (λ ys. get_or ys (length front) 0) (map-append (λ (y : SeatView × Option EndKind). core_number y.0) front (x ∷ rest))
      ∙ ap (λ n. get_or (map (λ (y : SeatView × Option EndKind). core_number y.0) front ++ core_number x.0 ∷ map (λ (y : SeatView × Option EndKind). core_number y.0) rest) n 0) (sym (length-map front (λ (y : SeatView × Option EndKind). core_number y.0)))
      ∙ read_middle (map (λ (y : SeatView × Option EndKind). core_number y.0) front) (map (λ (y : SeatView × Option EndKind). core_number y.0) rest) (core_number x.0) 0)
      in let there = get_or-range_with_len 0 (length items) (length front) 0 below
      in let zero_more : 0 + length front ≡ length front = omega arith
      in sym here ∙ ap (λ ys. get_or (map (λ (y : SeatView × Option EndKind). core_number y.0) ys) (length front) 0) whole ∙ ap (λ ns. get_or ns (length front) 0) order ∙ there ∙ zero_more

  pub one_more : (front ++ x ∷ []) ++ rest ≡ items
  one_more = append_assoc front (x ∷ []) rest ∙ whole

  pub ends_more : (ends : List (Option EndKind)) (n : ℕ) → n ≡ length front → ends ≡ map (λ y. y.1) front ++ no_ends (length front) → set ends n x.1 ≡ map (λ y. y.1) (front ++ x ∷ []) ++ no_ends (length (front ++ x ∷ []))
  ends_more ends n at told =
      let less = room
      in let left_over : 8 - length front ≡ suc (8 - length (front ++ x ∷ [])) = (let more = length-append front (x ∷ []) in omega (arith, less, more))
      in let count : length (map (λ (y : SeatView × Option EndKind). y.1) front) ≡ length front = length-map front (λ (y : SeatView × Option EndKind). y.1)
      in ap (λ k. set ends k x.1) (at ∙ sym count)
      ∙ ap (λ es. set es (length (map (λ (y : SeatView × Option EndKind). y.1) front)) x.1) (told ∙ ap (λ k. map (λ (y : SeatView × Option EndKind). y.1) front ++ replicate k None) left_over)
      ∙ write_behind (map (λ (y : SeatView × Option EndKind). y.1) front) (8 - length (front ++ x ∷ [])) x.1 None
      ∙ ap (λ es. es ++ no_ends (length (front ++ x ∷ []))) (sym (map-append (λ (y : SeatView × Option EndKind). y.1) front (x ∷ [])))

-- all are back
pub none_left : {A : Type 0} (front left items : List A) → front ++ left ≡ items → left ≡ [] → front ≡ items
none_left front left items same none = sym (append-nil front) ∙ ap (λ xs. front ++ xs) (sym none) ∙ same

pub no_items : {A : Type 0} (xs : List A) → length xs ≡ 0 → xs ≡ []
no_items [] h = refl
no_items (x ∷ xs) h = absurd (omega (arith, h))
