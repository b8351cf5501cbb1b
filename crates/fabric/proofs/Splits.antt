-- The banks that a fabric splits into.
use Rattle.std.proofs.Common.{◌≡◌, inl, ℕ, zero, suc, ◌+◌, ◌≤◌, List, [], ◌∷◌, ◌++◌, map, length, refl, sym, ◌∙◌, ap, subst, arith}
use Rattle.std.specs.List.{AllByRecursion, range_with_len}
use Rattle.std.proofs.lemmas.List.{length-map}
use Rattle.std.proofs.lemmas.List.FromFn.{length-map-range_with_len}
use Rattle.pei_types.specs.declared.machines.MachineSpec.{MachineSpec}
use Rattle.pei_types.specs.declared.stamps.Stamped.{Stamped}
use Rattle.pei_types.specs.Program.{Contents}
use Rattle.pei_types.specs.Recency.{list_at}
use Rattle.history_laws.specs.Members.{In}
use Rattle.bank_laws.specs.Logs.{AreStamped, merged}
use Rattle.fabric.specs.Banks.{BankHistory, bank_at_start, banks_at_start}
use Rattle.fabric.specs.KeptReserve.{IsFresh}
use Rattle.fabric.specs.Laws.{MergeLaws}
use Rattle.fabric.specs.Merge.{CanMerge, IsCons, logs_of, without_log}
use Rattle.fabric.specs.declared.bank.Reserve.{Reserve}

pub banks_length : (m : MachineSpec) (image : Contents) → length (banks_at_start m image) ≡ m.banks
banks_length m image = length-map-range_with_len (bank_at_start m image) 0 m.banks

pub banks_cons : (m : MachineSpec) (image : Contents) → IsCons (banks_at_start m image)
banks_cons m image = by m.banks m.banks_in_limits.0.0
  where
    by : (n : ℕ) → 1 ≤ n → IsCons (map (bank_at_start m image) (range_with_len 0 n))
    by zero h = absurd (omega (arith, h))
    by (suc n) h = tt

-- the first bank is bank 0, and all behind it have greater numbers
pub record StartsWith (m : MachineSpec) (image : Contents) (x : BankHistory) (xs : List BankHistory) : Type 0 where
  pub first : x ≡ bank_at_start m image 0
  pub later : AllByRecursion (λ (h : BankHistory). 1 ≤ h.bank) xs

later_banks : (m : MachineSpec) (image : Contents) (start count : ℕ) → 1 ≤ start → AllByRecursion (λ (h : BankHistory). 1 ≤ h.bank) (map (bank_at_start m image) (range_with_len start count))
later_banks m image start zero h = tt
later_banks m image start (suc n) h = (h, later_banks m image (start + 1) n (omega arith))

pub starts_with : (m : MachineSpec) (image : Contents) (x : BankHistory) (xs : List BankHistory) → x ∷ xs ≡ banks_at_start m image → StartsWith m image x xs
starts_with m image x xs e = by m.banks e
  where
    head : (y : BankHistory) (ys : List BankHistory) → x ∷ xs ≡ y ∷ ys → x ≡ y
    head y ys h = cc

    tail : (y : BankHistory) (ys : List BankHistory) → x ∷ xs ≡ y ∷ ys → ys ≡ xs
    tail y ys h = cc

    none : x ∷ xs ≡ [] → ⊥
    none h = cc

    by : (n : ℕ) → x ∷ xs ≡ map (bank_at_start m image) (range_with_len 0 n) → StartsWith m image x xs
    by zero h = absurd (none h)
    by (suc n) h =
        record {
          first = head (bank_at_start m image 0) (map (bank_at_start m image) (range_with_len (0 + 1) n)) h;
          later = subst (AllByRecursion (λ (v : BankHistory). 1 ≤ v.bank)) (tail (bank_at_start m image 0) (map (bank_at_start m image) (range_with_len (0 + 1) n)) h) (later_banks m image (0 + 1) n (omega arith));
        }

-- ---- the banks that merge

heads_of : (m : MachineSpec) (image : Contents) (n : ℕ) (banks : List BankHistory) (first : BankHistory) (rest : List BankHistory) → CanMerge m image n banks → banks ≡ first ∷ rest → without_log first ∷ map without_log rest ≡ banks_at_start m image
heads_of m image n banks first rest can is = ap (map without_log) (sym is) ∙ can.all

-- the first is bank 0
pub first_bank : (m : MachineSpec) (image : Contents) (n : ℕ) (banks : List BankHistory) (first : BankHistory) (rest : List BankHistory) → CanMerge m image n banks → banks ≡ first ∷ rest → without_log first ≡ bank_at_start m image 0
first_bank m image n banks first rest can is = (starts_with m image (without_log first) (map without_log rest) (heads_of m image n banks first rest can is)).first

-- and has what all merge into
pub first_fresh : (m : MachineSpec) (image : Contents) (n : ℕ) (banks : List BankHistory) (first : BankHistory) (rest : List BankHistory) (reserve : Reserve) → CanMerge m image n banks → banks ≡ first ∷ rest → IsFresh first.machine first.image reserve → IsFresh m image reserve
first_fresh m image n banks first rest reserve can is fresh = subst (λ (v : BankHistory). IsFresh v.machine v.image reserve) (first_bank m image n banks first rest can is) fresh

pub all_banks : (m : MachineSpec) (image : Contents) (n : ℕ) (banks : List BankHistory) (first : BankHistory) (rest : List BankHistory) → CanMerge m image n banks → banks ≡ first ∷ rest → suc (length rest) ≡ m.banks
all_banks m image n banks first rest can is =
    let whole : length banks ≡ m.banks = sym (length-map banks without_log) ∙ ap length can.all ∙ banks_length m image
    in sym (ap length is) ∙ whole

-- the sections that are gathered are all banks again
pub gathered_all : (banks items pushed gathered : List BankHistory) (first opened : BankHistory) (rest : List BankHistory) → banks ≡ first ∷ rest → opened ≡ first → items ≡ [] → pushed ≡ items ++ opened ∷ [] → gathered ≡ pushed ++ rest → gathered ≡ banks
gathered_all banks items pushed gathered first opened rest is same none push gather =
    gather ∙ ap (λ (xs : List BankHistory). xs ++ rest) (push ∙ ap (λ (xs : List BankHistory). xs ++ opened ∷ []) none) ∙ ap (λ (h : BankHistory). h ∷ rest) same ∙ sym is

-- ---- logs without events

no_events : (banks : List BankHistory) → ((k : ℕ) (x : Stamped) → In x (list_at (logs_of banks) k) → ⊥) → map without_log banks ≡ banks
no_events [] none = refl
no_events (b ∷ banks) none = ap (λ (rest : List BankHistory). without_log b ∷ rest) (no_events banks (λ k x i. none (suc k) x i)) ∙ ap (λ (h : BankHistory). h ∷ banks) (emptied b.log (λ x i. none 0 x i))
  where
    emptied : (log : List Stamped) → ((x : Stamped) → In x log → ⊥) → without_log b ≡ record b { log = log }
    emptied [] h = refl
    emptied (x ∷ xs) h = absurd (h x (inl refl))

-- where the journal of all banks is empty, each log is
pub all_empty : MergeLaws → (n : ℕ) (banks : List BankHistory) → AreStamped n (logs_of banks) → merged n (logs_of banks) ≡ [] → map without_log banks ≡ banks
all_empty laws zero banks h none = no_events banks (λ k x i. let under = h.below k x i in omega (arith, under))
all_empty laws (suc n) banks h none =
    let next = laws.logs.next (suc n) 0 (logs_of banks) h (omega arith)
    in absurd (cc (sym next.whole ∙ none))
