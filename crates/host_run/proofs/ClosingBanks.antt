-- The banks of a machine behind slots, before a run and after it.
use Rattle.std.proofs.Common.{◌≡◌, ℕ, zero, suc, ◌+◌, ◌<◌, ◌≤◌, List, [], ◌∷◌, ◌++◌, map, length, refl, sym, ◌∙◌, ap, subst, arith}
use Rattle.std.specs.List.{range_with_len}
use Rattle.std.proofs.lemmas.List.{append_assoc}
use Rattle.std.proofs.lemmas.List.FromFn.{length-map-range_with_len}
use mathlib.Core.Option.{some, some-injective, some-ne-none}
use lib.ListN.{get_elem?}
use Rattle.pei_types.specs.declared.machines.MachineSpec.{MachineSpec}
use Rattle.pei_types.specs.Program.{Contents}
use Rattle.fabric.specs.Banks.{BankHistory, bank_at_start, banks_at_start}
use Rattle.fabric.specs.Merge.{without_log}

-- each bank is of this machine and image, and has the number of its place
abbrev pub AreOf : MachineSpec → Contents → ℕ → List BankHistory → Type 0
AreOf m image a banks = (i : ℕ) (x : BankHistory) → get_elem? banks i ≡ some x → (x.machine ≡ m) × (x.image ≡ image) × (x.bank ≡ a + i)

-- all banks of a machine are, but for their logs, those that it starts with
at_start : (m : MachineSpec) (image : Contents) (a : ℕ) (banks : List BankHistory) → AreOf m image a banks → map without_log banks ≡ map (bank_at_start m image) (range_with_len a (length banks))
at_start m image a [] h = refl
at_start m image a (x ∷ xs) h =
    let here = h 0 x refl
    in let first : without_log x ≡ bank_at_start m image a = (let place : x.bank ≡ a = (let b = here.2 in omega (arith, b)) in rw (← here.0, ← here.1, ← place) refl)
    in rw first (ap (λ ys. bank_at_start m image a ∷ ys) (at_start m image (a + 1) xs (λ i y e. let r = h (suc i) y e in (r.0, r.1, (let b = r.2 in omega (arith, b))))))

pub all_banks : (m : MachineSpec) (image : Contents) (banks : List BankHistory) → length banks ≡ m.banks → AreOf m image 0 banks → map without_log banks ≡ banks_at_start m image
all_banks m image banks count h = at_start m image 0 banks h ∙ ap (λ n. map (bank_at_start m image) (range_with_len 0 n)) count

-- the banks that a machine starts with
starting : (m : MachineSpec) (image : Contents) (a n i : ℕ) (x : BankHistory) → get_elem? (map (bank_at_start m image) (range_with_len a n)) i ≡ some x → x ≡ bank_at_start m image (a + i)
starting m image a zero i x e = absurd (some-ne-none x (sym e))
starting m image a (suc n) zero x e = let same : a ≡ a + 0 = omega arith in sym (some-injective (bank_at_start m image a) x e) ∙ ap (bank_at_start m image) same
starting m image a (suc n) (suc i) x e = let same : a + 1 + i ≡ a + suc i = omega arith in starting m image (a + 1) n i x e ∙ ap (bank_at_start m image) same

pub at_number : (m : MachineSpec) (image : Contents) (i : ℕ) (x : BankHistory) → get_elem? (banks_at_start m image) i ≡ some x → x ≡ bank_at_start m image i
at_number m image i x e = let same : 0 + i ≡ i = omega arith in starting m image 0 m.banks i x e ∙ ap (bank_at_start m image) same

-- ---- one list goes into another, item by item

at_middle : {A : Type 0} (front rest : List A) (x : A) → get_elem? (front ++ x ∷ rest) (length front) ≡ some x
at_middle [] rest x = refl
at_middle (y ∷ front) rest x = at_middle front rest x

pub length_middle : {A : Type 0} (front rest : List A) (x : A) → length front < length (front ++ x ∷ rest)
length_middle [] rest x = omega arith
length_middle (y ∷ front) rest x = let h = length_middle front rest x in omega (arith, h)

-- the next bank is of the machine, and there is room for it
pub next_of : (m : MachineSpec) (image : Contents) (front banks rest : List BankHistory) (x : BankHistory) → front ++ banks ≡ banks_at_start m image → banks ≡ x ∷ rest → (x.machine ≡ m) × (x.image ≡ image)
next_of m image front banks rest x same next =
    let whole : front ++ x ∷ rest ≡ banks_at_start m image = ap (λ xs. front ++ xs) (sym next) ∙ same
    in let it = at_number m image (length front) x (subst (λ xs. get_elem? xs (length front) ≡ some x) whole (at_middle front rest x))
    in (ap (λ (h : BankHistory). h.machine) it, ap (λ (h : BankHistory). h.image) it)

pub has_room : {A : Type 0} (front banks rest whole : List A) (x : A) → front ++ banks ≡ whole → banks ≡ x ∷ rest → length front < length whole
has_room front banks rest whole x same next = subst (λ xs. length front < length xs) (ap (λ xs. front ++ xs) (sym next) ∙ same) (length_middle front rest x)

pub bank_count : (m : MachineSpec) (image : Contents) → length (banks_at_start m image) ≤ 8
bank_count m image = let few : m.banks ≤ 8 = m.banks_in_limits.0.1 in let n = length-map-range_with_len (bank_at_start m image) 0 m.banks in omega (arith, few, n)

pub moved_on : {A B : Type 0} (f : B → A) (front after : List A) (items rest : List B) (x : B) (y : A) (whole : List A) → front ++ map f items ≡ whole → items ≡ x ∷ rest → y ≡ f x → after ≡ front ++ y ∷ [] → after ++ map f rest ≡ whole
moved_on f front after items rest x y whole same next here grown =
    ap (λ xs. xs ++ map f rest) (grown ∙ ap (λ z. front ++ z ∷ []) here) ∙ append_assoc front (f x ∷ []) (map f rest) ∙ ap (λ xs. front ++ map f xs) (sym next) ∙ same
