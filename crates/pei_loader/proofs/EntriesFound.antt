-- The first core without an entry.
use Rattle.std.proofs.Common.{◌≡◌, ℕ, zero, suc, ◌+◌, ◌<◌, ◌≤◌, Bool, true, false, nat_lt, cond, List, map, find, Option, Some, None, is_none, option_map, refl, sym, ◌∙◌, ap, arith}
use Rattle.std.specs.List.{range_with_len}
use Rattle.std.proofs.lemmas.Bool.Decides.{nat_tests}
use Rattle.pei_types.specs.declared.identifiers.CoreId.{CoreId}
use Rattle.pei_types.specs.declared.machines.MachineSpec.{MachineSpec}
use Rattle.pei_types.specs.Image.{NoEntry, entry_refusal}
use Rattle.pei_types.specs.Program.{Listing, Contents, entry_of_core}
use Rattle.pei_loader.specs.Entries.{Enters}

-- the first core without an entry is found
found_at : (p : Listing) (a i n : ℕ) → ((c : ℕ) → a ≤ c → c < i → is_none (entry_of_core p (record { 0 = c })) ≡ false) → a ≤ i → i < a + n → is_none (entry_of_core p (record { 0 = i })) ≡ true → find (λ (c : CoreId). is_none (entry_of_core p c)) (map (λ c. record { 0 = c }) (range_with_len a n)) ≡ Some (record { 0 = i })
found_at p a i zero before low high none = absurd (omega (arith, low, high))
found_at p a i (suc n) before low high none = by (is_none (entry_of_core p (record { 0 = a }))) (nat_lt a i) refl refl (λ above. found_at p (a + 1) i n (λ c l g. before c (omega (arith, l)) g) (omega (arith, above)) (omega (arith, high)) none)
  where
    true_is_false : (b : Bool) → b ≡ true → b ≡ false → ⊥
    true_is_false b t f = absurd (cc (t, f))

    less : (x y : ℕ) → nat_lt x y ≡ true → x < y
    less x y h = grind (arith, nat_tests)

    same : (x y : ℕ) → nat_lt x y ≡ false → x ≤ y → x ≡ y
    same x y h l = grind (arith, nat_tests)

    by : (b t : Bool) → is_none (entry_of_core p (record { 0 = a })) ≡ b → nat_lt a i ≡ t → (a < i → find (λ (c : CoreId). is_none (entry_of_core p c)) (map (λ c. record { 0 = c }) (range_with_len (a + 1) n)) ≡ Some (record { 0 = i })) → cond b (Some (record { 0 = a })) (find (λ (c : CoreId). is_none (entry_of_core p c)) (map (λ c. record { 0 = c }) (range_with_len (a + 1) n))) ≡ Some (record { 0 = i })
    by true true e h next = absurd (true_is_false _ e (before a (omega arith) (less a i h)))
    by true false e h next = ap (λ k. Some (record { 0 = k })) (same a i h low)
    by false true e h next = next (less a i h)
    by false false e h next =
        let is_a = same a i h low
        in absurd (true_is_false _ none (ap (λ k. is_none (entry_of_core p (record { 0 = k }))) (sym is_a) ∙ e))

is_some_entry : (o : Option ℕ) (x : ℕ) → o ≡ Some x → is_none o ≡ false
is_some_entry o x e = ap is_none e

is_no_entry : (o : Option ℕ) → o ≡ None → is_none o ≡ true
is_no_entry o e = ap is_none e

-- none is found where each has an entry
none_found : (p : Listing) (a n : ℕ) → ((c : ℕ) → a ≤ c → c < a + n → is_none (entry_of_core p (record { 0 = c })) ≡ false) → find (λ (c : CoreId). is_none (entry_of_core p c)) (map (λ c. record { 0 = c }) (range_with_len a n)) ≡ None
none_found p a zero all = refl
none_found p a (suc n) all =
    ap (λ b. cond b (Some (record { 0 = a })) (find (λ (c : CoreId). is_none (entry_of_core p c)) (map (λ c. record { 0 = c }) (range_with_len (a + 1) n)))) (all a (omega arith) (omega arith))
    ∙ none_found p (a + 1) n (λ c l h. all c (omega (arith, l)) (omega (arith, h)))

-- The refusal is of the first core without an entry.
pub refused_at : (p : Listing) (m : MachineSpec) (words : List ℕ) (image : Contents) (i : ℕ) → Enters p i words image → i < m.cores → entry_of_core p (record { 0 = i }) ≡ None → entry_refusal p m ≡ Some (NoEntry i)
refused_at p m words image i enters within none =
    ap (option_map (λ (c : CoreId). NoEntry c.0))
    (found_at p 0 i m.cores (λ c l h. is_some_entry _ _ (enters.entered c h)) (omega arith) (omega (arith, within)) (is_no_entry _ none))

-- Where all cores are entered, none is refused.
pub none_refused : (p : Listing) (m : MachineSpec) (words : List ℕ) (image : Contents) (k : ℕ) → k ≡ m.cores → Enters p k words image → entry_refusal p m ≡ None
none_refused p m words image k all enters =
    ap (option_map (λ (c : CoreId). NoEntry c.0))
    (none_found p 0 m.cores (λ c l h. is_some_entry _ _ (enters.entered c (omega (arith, h, all)))))
