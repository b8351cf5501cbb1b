-- The lowest number among lanes, one lane at a time.
use Rattle.std.proofs.Common.{◌≡◌, ◌⊎◌, inl, inr, ℕ, ◌≤◌, Bool, true, false, nat_lt, if◌then◌else◌, List, [], ◌∷◌, ◌++◌, Option, Some, None, refl, sym, ◌∙◌, arith}
use Rattle.std.proofs.lemmas.Bool.{ltb-true, ltb-false}
use Rattle.std.proofs.lemmas.Option.{same_Some}
use Rattle.history_laws.specs.Members.{In}
use Rattle.history_laws.proofs.Lists.{in_push}
use Rattle.bank_laws.proofs.Lists.{in_back, in_front}
use Rattle.host_run.specs.declared.own_peis.OwnPei.{OwnPei}
use Rattle.host_run.specs.Own.{IsFirst, NoneCounts, counts, lower, lower_of}

-- what was found among these lanes
abbrev pub Found : List (Option OwnPei) → Bool → Option ℕ → Type 0
Found lanes unentered None = NoneCounts lanes unentered
Found lanes unentered (Some seq) = IsFirst lanes unentered seq

-- a lane that does not change what was found
past_none : (lanes : List (Option OwnPei)) (x : Option OwnPei) (u : Bool) (found : Option ℕ) → ((p : OwnPei) → x ≡ Some p → counts u p ≡ false) → Found lanes u found → Found (lanes ++ x ∷ []) u found
past_none lanes x u None off h = λ p i. by p (in_push lanes x (Some p) i)
  where
    by : (p : OwnPei) → In (Some p) lanes ⊎ (Some p ≡ x) → counts u p ≡ false
    by p (inl j) = h p j
    by p (inr e) = off p (sym e)
past_none lanes x u (Some n) off h =
    record { pei = h.pei; there = in_front lanes (x ∷ []) (Some h.pei) h.there; counted = h.counted; number = h.number; least = λ p i on. by p on (in_push lanes x (Some p) i) }
  where
    by : (p : OwnPei) → counts u p ≡ true → In (Some p) lanes ⊎ (Some p ≡ x) → n ≤ p.seq
    by p on (inl j) = h.least p j on
    by p on (inr e) = absurd (cc (sym (off p (sym e)) ∙ on))

-- a lane whose PEI counts
past_some : (lanes : List (Option OwnPei)) (p : OwnPei) (u : Bool) (found : Option ℕ) → counts u p ≡ true → Found lanes u found → Found (lanes ++ Some p ∷ []) u (lower found p.seq)
past_some lanes p u None on h =
    record { pei = p; there = in_back lanes (Some p ∷ []) (Some p) (inl refl); counted = on; number = refl; least = λ q i k. by q k (in_push lanes (Some p) (Some q) i) }
  where
    by : (q : OwnPei) → counts u q ≡ true → In (Some q) lanes ⊎ (Some q ≡ Some p) → p.seq ≤ q.seq
    by q k (inl j) = absurd (cc (sym (h q j) ∙ k))
    by q k (inr e) = rw (same_Some q p e) (omega arith)
past_some lanes p u (Some n) on h = by (nat_lt p.seq n) refl
  where
    lowest : (k : ℕ) → k ≤ n → k ≤ p.seq → (q : OwnPei) → counts u q ≡ true → In (Some q) lanes ⊎ (Some q ≡ Some p) → k ≤ q.seq
    lowest k low at q is (inl j) = let less = h.least q j is in omega (arith, less, low)
    lowest k low at q is (inr e) = rw (same_Some q p e) at

    by : (b : Bool) → nat_lt p.seq n ≡ b → Found (lanes ++ Some p ∷ []) u (if b then Some p.seq else Some n)
    by true e =
        let less = ltb-true p.seq n e
        in record { pei = p; there = in_back lanes (Some p ∷ []) (Some p) (inl refl); counted = on; number = refl; least = λ q i k. lowest p.seq (omega (arith, less)) (omega arith) q k (in_push lanes (Some p) (Some q) i) }
    by false e =
        let not_less = ltb-false p.seq n e
        in record { pei = h.pei; there = in_front lanes (Some p ∷ []) (Some h.pei) h.there; counted = h.counted; number = h.number; least = λ q i k. lowest n (omega arith) not_less q k (in_push lanes (Some p) (Some q) i) }

pub past_lane : (lanes : List (Option OwnPei)) (x : Option OwnPei) (u : Bool) (found : Option ℕ) → Found lanes u found → Found (lanes ++ x ∷ []) u (lower_of u found x)
past_lane lanes None u found h = past_none lanes None u found (λ p e. absurd (cc e)) h
past_lane lanes (Some p) u found h = by (counts u p) refl
  where
    by : (b : Bool) → counts u p ≡ b → Found (lanes ++ Some p ∷ []) u (if b then lower found p.seq else found)
    by true e = past_some lanes p u found e h
    by false e = past_none lanes (Some p) u found (λ q same. rw (← same_Some p q same) e) h
