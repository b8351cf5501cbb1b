-- The earlier writers of a bank that a fence waits for.
use Rattle.std.proofs.Common.{◌≡◌, ℕ, ◌<◌, ◌≤◌, Bool, true, false, not, ◌||◌, nat_lt, List, [], ◌∷◌, ◌++◌, filter, Some, refl, sym, ◌∙◌, ap, ap₂, subst, arith, ltb-true, ltb-false}
use Rattle.std.specs.List.{list_any, list_all, AllByRecursion}
use Rattle.std.proofs.lemmas.Bool.{le-ltb}
use Rattle.std.proofs.lemmas.List.{append-nil, map-append}
use Rattle.std.proofs.lemmas.List.Elements.{filter-append}
use Rattle.std.proofs.lemmas.List.Folds.{list_any-append}
use Rattle.pei_types.specs.declared.stamps.Stamped.{Stamped}
use Rattle.pei_types.specs.declared.identifiers.PeiId.{PeiId}
use Rattle.pei_types.specs.declared.inflight_looks.PeiLook.{PeiLook}
use Rattle.pei_types.specs.History.{Pei, issued_peis, pei_issued_by, has_left, unfinished_peis}
use Rattle.pei_types.specs.Operation.{is_writer}
use Rattle.pei_types.proofs.Lists.{all_true, each_weaker, true_all}
use Rattle.history_laws.specs.Members.{In}
use Rattle.history_laws.specs.TrackedPeis.{as_issued}
use Rattle.bank_laws.specs.Across.{leaves}
use Rattle.shared_table.specs.Claims.{earlier_left}
use Rattle.shared_table.specs.Journal.{events}
use Rattle.thread_laws.specs.Waits.{WaitsForNone}
use Rattle.thread_laws.proofs.Entering.{picked_in, in_picked, not_left}
use Rattle.thread_laws.proofs.Tracks.{Tracks}
use Rattle.history_laws.proofs.Lists.{each_of, each_in, in_map, map_in, in_filter, filter_in}

-- which event of a log issued a PEI
issue_in : (log : List Stamped) (p : Pei) → In p (issued_peis (events log)) → (x : Stamped) × In x log × (pei_issued_by x.event.actor x.event.kind ≡ Some p)
issue_in log p i =
    let r = picked_in (λ e. pei_issued_by e.actor e.kind) (events log) p i
    in let x = in_map (λ (y : Stamped). y.event) log r.0 r.1
    in (x.0, x.1, ap (λ e. pei_issued_by e.actor e.kind) (sym x.2) ∙ r.2)

in_issued : (log : List Stamped) (x : Stamped) (p : Pei) → In x log → pei_issued_by x.event.actor x.event.kind ≡ Some p → In p (issued_peis (events log))
in_issued log x p i h = in_picked (λ e. pei_issued_by e.actor e.kind) (events log) x.event p (map_in (λ (y : Stamped). y.event) log x i) h

-- the bank is cleared where its state has no earlier writer
pub clear_so : (log : List Stamped) (f : ℕ) (ls : List PeiLook) → Tracks (events log) ls → WaitsForNone f log ls → earlier_left f log ≡ true
clear_so log f ls g none = true_all (λ p. not (is_writer p.op) || has_left (events log) p.id) earlier (each_in (λ p. (not (is_writer p.op) || has_left (events log) p.id) ≡ true) earlier (λ p i. by p i (is_writer p.op) (has_left (events log) p.id) refl refl))
  where
    earlier : List Pei
    earlier = issued_peis (events (filter (λ x. nat_lt x.stamp f) log))

    by : (p : Pei) → In p (issued_peis (events (filter (λ x. nat_lt x.stamp f) log))) → (writes left : Bool) → is_writer p.op ≡ writes → has_left (events log) p.id ≡ left → (not (is_writer p.op) || has_left (events log) p.id) ≡ true
    by p i false left e h = ap (λ b. not b || has_left (events log) p.id) e
    by p i true true e h = ap₂ (λ b c. not b || c) e h
    by p i true false e h =
        let r = issue_in (filter (λ x. nat_lt x.stamp f) log) p i
        in let there = in_filter (λ x. nat_lt x.stamp f) log r.0 r.1
        in let stays : In p (unfinished_peis (events log)) = filter_in (λ q. not (has_left (events log) q.id)) (issued_peis (events log)) p (in_issued log r.0 p there.0 r.2) (ap not h)
        in let l = in_map as_issued ls p (subst (In p) g.unfinished stays)
        in let late : f ≤ r.0.stamp = none l.0 r.0 l.1 (ap (λ q. is_writer q.op) (sym l.2) ∙ e) there.0 (r.2 ∙ ap Some l.2)
        in let early : r.0.stamp < f = ltb-true r.0.stamp f there.1
        in absurd (omega (arith, late, early))

-- and only there
pub clear_only : (log : List Stamped) (f : ℕ) (ls : List PeiLook) → Tracks (events log) ls → earlier_left f log ≡ true → WaitsForNone f log ls
clear_only log f ls g left l x i writes there issued = by (nat_lt x.stamp f) refl
  where
    earlier : List Pei
    earlier = issued_peis (events (filter (λ y. nat_lt y.stamp f) log))

    by : (b : Bool) → nat_lt x.stamp f ≡ b → f ≤ x.stamp
    by false h = ltb-false x.stamp f h
    by true h =
        let before : In (as_issued l) (issued_peis (events (filter (λ y. nat_lt y.stamp f) log))) = in_issued (filter (λ y. nat_lt y.stamp f) log) x (as_issued l) (filter_in (λ y. nat_lt y.stamp f) log x there h) issued
        in let each = all_true (λ p. not (is_writer p.op) || has_left (events log) p.id) (issued_peis (events (filter (λ y. nat_lt y.stamp f) log))) left
        in let gone : (not (is_writer l.op) || has_left (events log) l.id) ≡ true = each_of (λ p. (not (is_writer p.op) || has_left (events log) p.id) ≡ true) (issued_peis (events (filter (λ y. nat_lt y.stamp f) log))) (as_issued l) each before
        in absurd (cc (sym (ap₂ (λ b c. not b || c) writes (not_left (events log) ls g l i)) ∙ gone))

none_below : (n : ℕ) (xs : List Stamped) → AllByRecursion (λ y. n ≤ y.stamp) xs → filter (λ y. nat_lt y.stamp n) xs ≡ []
none_below n [] h = refl
none_below n (x ∷ xs) h = rw (le-ltb x.stamp n h.0) (none_below n xs h.1)

-- it stays cleared while its log goes on behind the fence's begin
pub clear_stays : (log more : List Stamped) (f : ℕ) → AllByRecursion (λ x. f ≤ x.stamp) more → earlier_left f log ≡ true → earlier_left f (log ++ more) ≡ true
clear_stays log more f late left =
    ap (λ xs. list_all (λ p. not (is_writer p.op) || has_left (events (log ++ more)) p.id) (issued_peis (events xs))) same
    ∙ true_all (λ p. not (is_writer p.op) || has_left (events (log ++ more)) p.id) (issued_peis (events (filter (λ x. nat_lt x.stamp f) log)))
    (each_weaker (λ p. (not (is_writer p.op) || has_left (events log) p.id) ≡ true) (λ p. (not (is_writer p.op) || has_left (events (log ++ more)) p.id) ≡ true) (λ p h. by p (not (is_writer p.op)) (has_left (events log) p.id) refl h)
    (issued_peis (events (filter (λ x. nat_lt x.stamp f) log)))
    (all_true (λ p. not (is_writer p.op) || has_left (events log) p.id) (issued_peis (events (filter (λ x. nat_lt x.stamp f) log))) left))
  where
    same : filter (λ x. nat_lt x.stamp f) (log ++ more) ≡ filter (λ x. nat_lt x.stamp f) log
    same = filter-append (λ (x : Stamped). nat_lt x.stamp f) log more ∙ ap (λ xs. filter (λ x. nat_lt x.stamp f) log ++ xs) (none_below f more late) ∙ append-nil (filter (λ x. nat_lt x.stamp f) log)

    longer : (id : PeiId) → has_left (events (log ++ more)) id ≡ (has_left (events log) id || has_left (events more) id)
    longer id = ap (list_any (leaves id)) (map-append (λ (x : Stamped). x.event) log more) ∙ list_any-append (leaves id) (events log) (events more)

    by : (p : Pei) (reads gone : Bool) → has_left (events log) p.id ≡ gone → (reads || gone) ≡ true → (reads || has_left (events (log ++ more)) p.id) ≡ true
    by p true gone e h = refl
    by p false true e h = longer p.id ∙ ap (λ b. b || has_left (events more) p.id) e
    by p false false e h = absurd (cc h)
