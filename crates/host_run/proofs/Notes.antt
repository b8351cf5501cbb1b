-- What an event of a core does to what its thread keeps of its lanes.
use Rattle.std.proofs.Common.{◌≡◌, ◌≢◌, ◌⊎◌, inl, inr, ℕ, zero, suc, ◌-◌, ◌≤◌, Bool, true, false, not, ◌&&◌, cond, if◌then◌else◌, List, [], ◌∷◌, ◌++◌, map, find, set, Option, Some, None, refl, sym, ◌∙◌, ap, ap₂, eq-eqb, eqb-true, arith}
use Rattle.std.specs.Prelude.{option_map}
use Rattle.std.specs.List.{range_with_len}
use Rattle.std.proofs.lemmas.Bool.{and_parts}
use Rattle.std.proofs.lemmas.List.Folds.{find-append}
use Rattle.pei_types.specs.declared.identifiers.CoreId.{CoreId}
use Rattle.pei_types.specs.declared.identifiers.PeiId.{PeiId}
use Rattle.pei_types.specs.declared.inflight_looks.PeiLook.{PeiLook}
use Rattle.pei_types.specs.declared.inflight_looks.Phase.{Phase}
use Rattle.pei_types.specs.declared.inflight_looks.Phase.TheVariants as phase
use Rattle.pei_types.specs.Blocks.{same_core, same_lane, same_pei}
use Rattle.pei_types.specs.MachineState.{State, is_phase, with_phase}
use Rattle.pei_types.specs.Recency.{without}
use Rattle.pei_types.proofs.Identities.{same_core_is, same_pei_is}
use Rattle.pei_types.proofs.Tests.{same_self}
use Rattle.history_laws.specs.Members.{In}
use Rattle.history_laws.proofs.Lists.{each_in, each_of, find-map, find_agree, find_None, find_Some}
use Rattle.thread_laws.proofs.Lanes.{paired}
use Rattle.host_run.specs.declared.own_peis.OwnPei.{OwnPei}
use Rattle.host_run.specs.Own.{as_own}
use Rattle.host_run.proofs.Looks.{Ascends, Lined}

-- the PEI in a core's lane among these, and by lane
abbrev pub in_lane : CoreId → List PeiLook → ℕ → Option PeiLook
in_lane c ps l = find (λ p. same_core p.id.core c && same_lane p.lane (record { 0 = l })) ps

abbrev pub by_lane : CoreId → List PeiLook → List (Option OwnPei)
by_lane c ps = map (λ l. option_map as_own (in_lane c ps l)) (range_with_len 1 4)

-- one lane is changed, and the others are not
one_lane : (c : CoreId) (ps qs : List PeiLook) (l : ℕ) (x : Option OwnPei) → 1 ≤ l → l ≤ 4 → option_map as_own (in_lane c qs l) ≡ x → ((k : ℕ) → k ≢ l → option_map as_own (in_lane c qs k) ≡ option_map as_own (in_lane c ps k)) → by_lane c qs ≡ set (by_lane c ps) (l - 1) x
one_lane c ps qs zero x low high here other = absurd (omega (arith, low))
one_lane c ps qs (suc zero) x low high here other = rw (here, other 2 (λ e. cc e), other 3 (λ e. cc e), other 4 (λ e. cc e)) refl
one_lane c ps qs (suc (suc zero)) x low high here other = rw (here, other 1 (λ e. cc e), other 3 (λ e. cc e), other 4 (λ e. cc e)) refl
one_lane c ps qs (suc (suc (suc zero))) x low high here other = rw (here, other 1 (λ e. cc e), other 2 (λ e. cc e), other 4 (λ e. cc e)) refl
one_lane c ps qs (suc (suc (suc (suc zero)))) x low high here other = rw (here, other 1 (λ e. cc e), other 2 (λ e. cc e), other 3 (λ e. cc e)) refl
one_lane c ps qs (suc (suc (suc (suc (suc n))))) x low high here other = absurd (omega (arith, high))

-- a lane that is in a core's lane is not in another
not_in : (c : CoreId) (p : PeiLook) (k l : ℕ) → p.lane.0 ≡ l → k ≢ l → (same_core p.id.core c && same_lane p.lane (record { 0 = k })) ≡ false
not_in c p k l at other = by (same_core p.id.core c && same_lane p.lane (record { 0 = k })) refl
  where
    by : (b : Bool) → (same_core p.id.core c && same_lane p.lane (record { 0 = k })) ≡ b → b ≡ false
    by false h = refl
    by true h = absurd (other (sym (eqb-true p.lane.0 k (and_parts (same_core p.id.core c) (same_lane p.lane (record { 0 = k })) h).1) ∙ at))

-- ---- an issue

pub issued : (c : CoreId) (ps : List PeiLook) (x : PeiLook) (l : ℕ) → x.id.core ≡ c → x.lane.0 ≡ l → 1 ≤ l → l ≤ 4 → in_lane c ps l ≡ None → by_lane c (ps ++ x ∷ []) ≡ set (by_lane c ps) (l - 1) (Some (as_own x))
issued c ps x l core lane low high free = one_lane c ps (ps ++ x ∷ []) l (Some (as_own x)) low high here other
  where
    there : (k : ℕ) → PeiLook → Bool
    there k p = same_core p.id.core c && same_lane p.lane (record { 0 = k })

    passes : there l x ≡ true
    passes = rw (core, lane) (rw (same_self c.0, same_self l) refl)

    at_end : in_lane c (ps ++ x ∷ []) l ≡ Some x
    at_end = find-append (there l) ps (x ∷ []) ∙ rw (free, passes) refl

    here : option_map as_own (in_lane c (ps ++ x ∷ []) l) ≡ Some (as_own x)
    here = ap (option_map as_own) at_end

    behind : (o : Option PeiLook) (k : ℕ) → in_lane c ps k ≡ o → k ≢ l → in_lane c (ps ++ x ∷ []) k ≡ o
    behind None k e at = find-append (there k) ps (x ∷ []) ∙ rw (e, not_in c x k l lane at) refl
    behind (Some p) k e at = find-append (there k) ps (x ∷ []) ∙ rw e refl

    other : (k : ℕ) → k ≢ l → option_map as_own (in_lane c (ps ++ x ∷ []) k) ≡ option_map as_own (in_lane c ps k)
    other k at = ap (option_map as_own) (behind (in_lane c ps k) k refl at)

-- ---- a PEI goes on or leaves

-- the PEIs of a core, none of which has the name of another
pub record Named (c : CoreId) (ps : List PeiLook) : Type 0 where
  pub once : (p q : PeiLook) → In p ps → In q ps → p.id ≡ q.id → p ≡ q
  pub apart : (p q : PeiLook) → In p ps → In q ps → p.lane.0 ≡ q.lane.0 → p ≡ q

pub named : (s : State) (c : CoreId) → Lined s c → Named c s.peis
named s c g = record { once = once; apart = apart }
  where
    once : (p q : PeiLook) → In p s.peis → In q s.peis → p.id ≡ q.id → p ≡ q
    once p q i j e = by (paired Ascends s.peis p q g.order.0 i j)
      where
        same : p.id.seq ≡ q.id.seq
        same = ap (λ (d : PeiId). d.seq) e

        by : (p ≡ q) ⊎ (Ascends p q ⊎ Ascends q p) → p ≡ q
        by (inl k) = k
        by (inr (inl k)) = absurd (omega (arith, k, same))
        by (inr (inr k)) = absurd (omega (arith, k, same))

    core : (p : PeiLook) → In p s.peis → p.id.core ≡ c
    core p i = same_core_is p.id.core c (each_of (λ (x : PeiLook). same_core x.id.core c ≡ true) s.peis p g.mine i)

    apart : (p q : PeiLook) → In p s.peis → In q s.peis → p.lane.0 ≡ q.lane.0 → p ≡ q
    apart p q i j e = g.apart p q i j (ap₂ same_core (core p i) (core q j) ∙ same_self c.0) (eq-eqb p.lane.0 q.lane.0 e)

-- what is in a lane is of this lane
pub found_there : (c : CoreId) (ps : List PeiLook) (k : ℕ) (p : PeiLook) → in_lane c ps k ≡ Some p → In p ps × (p.lane.0 ≡ k) × (p.id.core ≡ c)
found_there c ps k p h =
    let r = find_Some (λ q. same_core q.id.core c && same_lane q.lane (record { 0 = k })) ps p h
    in let both = and_parts (same_core p.id.core c) (same_lane p.lane (record { 0 = k })) r.1
    in (r.0, eqb-true p.lane.0 k both.1, same_core_is p.id.core c both.0)

-- one in another lane has another name
other_name : (c : CoreId) (ps : List PeiLook) (p q : PeiLook) (k l : ℕ) → Named c ps → in_lane c ps l ≡ Some p → in_lane c ps k ≡ Some q → k ≢ l → same_pei q.id p.id ≡ false
other_name c ps p q k l g here there at = by (same_pei q.id p.id) refl
  where
    by : (b : Bool) → same_pei q.id p.id ≡ b → b ≡ false
    by false h = refl
    by true h =
        let x = found_there c ps l p here
        in let y = found_there c ps k q there
        in let same : q ≡ p = g.once q p y.0 x.0 (same_pei_is q.id p.id h)
        in absurd (at (sym y.1 ∙ ap (λ (r : PeiLook). r.lane.0) same ∙ x.1))

kept_name : (id : PeiId) (ph : Phase) (c : CoreId) (k : ℕ) (p : PeiLook) → (same_core (with_phase id ph p).id.core c && same_lane (with_phase id ph p).lane (record { 0 = k })) ≡ (same_core p.id.core c && same_lane p.lane (record { 0 = k }))
kept_name id ph c k p = by (same_pei p.id id)
  where
    by : (b : Bool) → (same_core (if b then record p { phase = ph } else p).id.core c && same_lane (if b then record p { phase = ph } else p).lane (record { 0 = k })) ≡ (same_core p.id.core c && same_lane p.lane (record { 0 = k }))
    by true = refl
    by false = refl

phased_in : (c : CoreId) (ps : List PeiLook) (id : PeiId) (ph : Phase) (k : ℕ) → in_lane c (map (with_phase id ph) ps) k ≡ option_map (with_phase id ph) (in_lane c ps k)
phased_in c ps id ph k =
    find-map (λ q. same_core q.id.core c && same_lane q.lane (record { 0 = k })) (with_phase id ph) ps
    ∙ ap (option_map (with_phase id ph)) (find_agree (λ q. same_core (with_phase id ph q).id.core c && same_lane (with_phase id ph q).lane (record { 0 = k })) (λ q. same_core q.id.core c && same_lane q.lane (record { 0 = k })) ps (each_in (λ q. (same_core (with_phase id ph q).id.core c && same_lane (with_phase id ph q).lane (record { 0 = k })) ≡ (same_core q.id.core c && same_lane q.lane (record { 0 = k }))) ps (λ q i. kept_name id ph c k q)))

same_name : (id : PeiId) → same_pei id id ≡ true
same_name id = rw (same_self id.core.0, same_self id.seq) refl

pub phased : (c : CoreId) (ps : List PeiLook) (p : PeiLook) (ph : Phase) (l : ℕ) → Named c ps → in_lane c ps l ≡ Some p → 1 ≤ l → l ≤ 4 → by_lane c (map (with_phase p.id ph) ps) ≡ set (by_lane c ps) (l - 1) (Some (as_own (record p { phase = ph })))
phased c ps p ph l g at low high = one_lane c ps (map (with_phase p.id ph) ps) l (Some (as_own (record p { phase = ph }))) low high here other
  where
    here : option_map as_own (in_lane c (map (with_phase p.id ph) ps) l) ≡ Some (as_own (record p { phase = ph }))
    here = ap (option_map as_own) (phased_in c ps p.id ph l ∙ ap (option_map (with_phase p.id ph)) at) ∙ rw (same_name p.id) refl

    by : (o : Option PeiLook) (k : ℕ) → in_lane c ps k ≡ o → k ≢ l → option_map as_own (option_map (with_phase p.id ph) o) ≡ option_map as_own o
    by None k e off = refl
    by (Some q) k e off = rw (other_name c ps p q k l g at e off) refl

    other : (k : ℕ) → k ≢ l → option_map as_own (in_lane c (map (with_phase p.id ph) ps) k) ≡ option_map as_own (in_lane c ps k)
    other k off = ap (option_map as_own) (phased_in c ps p.id ph k) ∙ by (in_lane c ps k) k refl off

-- a PEI that has entered goes on: its lane is as it was
pub went_on : (c : CoreId) (ps : List PeiLook) (p : PeiLook) (ph : Phase) (l : ℕ) → Named c ps → in_lane c ps l ≡ Some p → is_phase p.phase phase.Issued ≡ false → is_phase ph phase.Issued ≡ false → by_lane c (map (with_phase p.id ph) ps) ≡ by_lane c ps
went_on c ps p ph l g at was is = rw (same 1, same 2, same 3, same 4) refl
  where
    by : (o : Option PeiLook) (k : ℕ) → in_lane c ps k ≡ o → option_map as_own (option_map (with_phase p.id ph) o) ≡ option_map as_own o
    by None k e = refl
    by (Some q) k e = at_name (same_pei q.id p.id) refl
      where
        at_name : (b : Bool) → same_pei q.id p.id ≡ b → Some (as_own (if b then record q { phase = ph } else q)) ≡ Some (as_own q)
        at_name false h = refl
        at_name true h =
            let it : q ≡ p = g.once q p (found_there c ps k q e).0 (found_there c ps l p at).0 (same_pei_is q.id p.id h)
            in let past : is_phase q.phase phase.Issued ≡ false = ap (λ (r : PeiLook). is_phase r.phase phase.Issued) it ∙ was
            in rw (past, is) refl

    same : (k : ℕ) → option_map as_own (in_lane c (map (with_phase p.id ph) ps) k) ≡ option_map as_own (in_lane c ps k)
    same k = ap (option_map as_own) (phased_in c ps p.id ph k) ∙ by (in_lane c ps k) k refl

-- ---- a leave

find_without : {A : Type 0} (test gone : A → Bool) (xs : List A) (x : A) → find test xs ≡ Some x → gone x ≡ false → find test (without gone xs) ≡ Some x
find_without test gone [] x h keep = absurd (cc h)
find_without {A} test gone (y ∷ ys) x h keep = by (test y) (gone y) refl refl h (find_without test gone ys x)
  where
    by : (b d : Bool) → test y ≡ b → gone y ≡ d → cond b (Some y) (find test ys) ≡ Some x → (find test ys ≡ Some x → gone x ≡ false → find test (without gone ys) ≡ Some x) → find test (cond (not d) (y ∷ without gone ys) (without gone ys)) ≡ Some x
    by true false e f k rest = rw e k
    by true true e f k rest = let it : y ≡ x = cc k in absurd (cc (sym f ∙ ap gone it ∙ keep))
    by false false e f k rest = rw e (rest k keep)
    by false true e f k rest = rest k keep

none_without : {A : Type 0} (test gone : A → Bool) (xs : List A) → ((x : A) → In x xs → test x ≡ true → gone x ≡ true) → find test (without gone xs) ≡ None
none_without test gone [] h = refl
none_without {A} test gone (y ∷ ys) h = by (test y) (gone y) refl refl (none_without test gone ys (λ x i on. h x (inr i) on))
  where
    by : (b d : Bool) → test y ≡ b → gone y ≡ d → find test (without gone ys) ≡ None → find test (cond (not d) (y ∷ without gone ys) (without gone ys)) ≡ None
    by true false e f rest = absurd (cc (sym f ∙ h y (inl refl) e))
    by true true e f rest = rest
    by false false e f rest = rw e rest
    by false true e f rest = rest

pub left : (c : CoreId) (ps : List PeiLook) (p : PeiLook) (l : ℕ) → Named c ps → in_lane c ps l ≡ Some p → 1 ≤ l → l ≤ 4 → by_lane c (without (λ q. same_pei q.id p.id) ps) ≡ set (by_lane c ps) (l - 1) None
left c ps p l g at low high = one_lane c ps (without gone ps) l None low high here other
  where
    gone : PeiLook → Bool
    gone q = same_pei q.id p.id

    there : (k : ℕ) → PeiLook → Bool
    there k q = same_core q.id.core c && same_lane q.lane (record { 0 = k })

    here : option_map as_own (in_lane c (without gone ps) l) ≡ None
    here = ap (option_map as_own) (none_without (there l) gone ps (λ q i on.
        let it : q ≡ p = g.apart q p i (found_there c ps l p at).0 (eqb-true q.lane.0 l (and_parts (same_core q.id.core c) (same_lane q.lane (record { 0 = l })) on).1 ∙ sym (found_there c ps l p at).1)
        in rw it (same_name p.id)))

    by : (o : Option PeiLook) (k : ℕ) → in_lane c ps k ≡ o → k ≢ l → in_lane c (without gone ps) k ≡ o
    by None k e off = none_without (there k) gone ps (λ q i on. absurd (cc (sym on ∙ find_None (there k) ps q e i)))
    by (Some q) k e off = find_without (there k) gone ps q e (other_name c ps p q k l g at e off)

    other : (k : ℕ) → k ≢ l → option_map as_own (in_lane c (without gone ps) k) ≡ option_map as_own (in_lane c ps k)
    other k off = ap (option_map as_own) (by (in_lane c ps k) k refl off)
