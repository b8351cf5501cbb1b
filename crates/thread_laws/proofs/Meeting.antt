-- The PEIs of a core that a bank has are those of the core's own state on the bank's blocks.
use Rattle.std.proofs.Common.{◌≡◌, ◌⊎◌, inl, inr, ℕ, ◌<◌, Bool, true, false, not, ◌&&◌, ◌||◌, cond, if◌then◌else◌, List, [], ◌∷◌, ◌++◌, map, filter, find, fold, Option, Some, None, is_none, slice_index, refl, sym, ◌∙◌, ap, subst, arith, eqb-true, eq-eqb}
use Rattle.std.specs.List.{cons_option, AllByRecursion}
use Rattle.std.specs.Prelude.{is_some}
use Rattle.std.proofs.lemmas.Bool.{and_parts}
use Rattle.pei_types.specs.declared.identifiers.Actor.{Actor}
use Rattle.pei_types.specs.declared.identifiers.CoreId.{CoreId}
use Rattle.pei_types.specs.declared.identifiers.Lane.{Lane}
use Rattle.pei_types.specs.declared.identifiers.PeiId.{PeiId}
use Rattle.pei_types.specs.declared.operations.Place.TheVariants as place
use Rattle.pei_types.specs.declared.inflight_looks.PeiLook.{PeiLook}
use Rattle.pei_types.specs.declared.inflight_looks.Phase.{Phase}
use Rattle.pei_types.specs.declared.inflight_looks.Phase.TheVariants as phase
use Rattle.pei_types.specs.declared.events.Event.{Event}
use Rattle.pei_types.specs.declared.events.EventKind.{EventKind}
use Rattle.pei_types.specs.declared.events.EventKind.TheVariants as event
use Rattle.pei_types.specs.declared.machines.MachineSpec.{MachineSpec}
use Rattle.pei_types.specs.Blocks.{same_core, same_lane, same_pei}
use Rattle.pei_types.specs.MachineState.{state_after, with_phase, look_in, lanes_of, free_lane, fence_of, pei_id}
use Rattle.pei_types.specs.Core.{events_of}
use Rattle.pei_types.specs.History.{Pei, issued_peis, pei_issued_by, pei_of, begins_fence, ends_fence}
use Rattle.pei_types.proofs.Identities.{same_pei_is, same_pei_sym}
use Rattle.pei_types.proofs.Lists.{each_append, each_filter, each_map, each_weaker, found_passes}
use Rattle.pei_types.proofs.Pushes.{issued_peis-push}
use Rattle.pei_types.proofs.Tests.{none_is, same_self}
use Rattle.history_laws.specs.Members.{In}
use Rattle.history_laws.specs.TrackedPeis.{as_issued}
use Rattle.bank_laws.specs.Banks.{Placed, is_made_in, journal_of, log_of}
use Rattle.bank_laws.specs.Laws.{BanksKeepApart, BanksMerge, CoresGoOn}
use Rattle.bank_laws.specs.Own.{new_look, next_peis}
use Rattle.bank_laws.specs.Parts.{is_in_bank, is_issued_in, is_of_core}
use Rattle.bank_laws.specs.Rows.{without_waits}
use Rattle.thread_laws.specs.OwnEvents.{KnowsItsPart, if_passes, look_there, pei_there}
use Rattle.thread_laws.proofs.Following.{every_log}
use Rattle.thread_laws.proofs.Lanes.{paired}
use Rattle.thread_laws.proofs.Own.{IsBelow, all_below, have_names, own_lanes}
use Rattle.history_laws.proofs.Lists.{each_in, in_filter}

-- ---- searches

find_within : {A : Type 0} (test keep : A → Bool) → ((x : A) → test x ≡ true → keep x ≡ true) → (xs : List A) → find test (filter keep xs) ≡ find test xs
find_within test keep h [] = refl
find_within {A} test keep h (x ∷ xs) = by (test x) (keep x) refl refl (find_within test keep h xs)
  where
    by : (t k : Bool) → test x ≡ t → keep x ≡ k → find test (filter keep xs) ≡ find test xs → find test (cond k (x ∷ filter keep xs) (filter keep xs)) ≡ cond t (Some x) (find test xs)
    by true true e f rest = rw e refl
    by true false e f rest = absurd (cc (sym f ∙ h x e))
    by false true e f rest = rw e rest
    by false false e f rest = rest

none_found : {A : Type 0} (test : A → Bool) (xs : List A) → AllByRecursion (λ x. test x ≡ false) xs → find test xs ≡ None
none_found test [] h = refl
none_found test (x ∷ xs) h = rw h.0 (none_found test xs h.1)

-- where no two items pass, the one that is kept is found
find_kept : {A : Type 0} (test keep : A → Bool) (xs : List A) → ((x y : A) → In x xs → In y xs → test x ≡ true → test y ≡ true → x ≡ y) → find test (filter keep xs) ≡ if_passes keep (find test xs)
find_kept test keep [] h = refl
find_kept {A} test keep (x ∷ xs) h = by (test x) (keep x) refl refl (find_kept test keep xs (λ y z i j. h y z (inr i) (inr j)))
  where
    others : test x ≡ true → keep x ≡ false → find test (filter keep xs) ≡ None
    others e f = none_found test (filter keep xs) (each_in (λ y. test y ≡ false) (filter keep xs) (λ y i. at y (in_filter keep xs y i) (test y) refl))
      where
        at : (y : A) → In y xs × (keep y ≡ true) → (t : Bool) → test y ≡ t → test y ≡ false
        at y i false g = g
        at y i true g = absurd (cc (sym f ∙ ap keep (h x y (inl refl) (inr i.0) e g) ∙ i.1))

    by : (t k : Bool) → test x ≡ t → keep x ≡ k → find test (filter keep xs) ≡ if_passes keep (find test xs) → find test (cond k (x ∷ filter keep xs) (filter keep xs)) ≡ if_passes keep (cond t (Some x) (find test xs))
    by true true e f rest = rw (e, f) refl
    by true false e f rest = others e f ∙ rw f refl
    by false true e f rest = rw e rest
    by false false e f rest = rest

all_kept : {A : Type 0} (keep : A → Bool) (xs : List A) → AllByRecursion (λ x. keep x ≡ true) xs → filter keep xs ≡ xs
all_kept keep [] h = refl
all_kept keep (x ∷ xs) h = rw h.0 (ap (λ ys. x ∷ ys) (all_kept keep xs h.1))

-- ---- PEIs were issued

in_front : {A : Type 0} (xs ys : List A) (x : A) → In x xs → In x (xs ++ ys)
in_front [] ys x i = absurd i
in_front (y ∷ xs) ys x (inl e) = inl e
in_front (y ∷ xs) ys x (inr i) = inr (in_front xs ys x i)

in_end : {A : Type 0} (xs : List A) (x : A) → In x (xs ++ x ∷ [])
in_end [] x = inl refl
in_end (y ∷ xs) x = inr (in_end xs x)

same_issued : (id : PeiId) (ph : Phase) (p : PeiLook) → as_issued p ≡ as_issued (with_phase id ph p)
same_issued id ph p = by (same_pei p.id id)
  where
    by : (b : Bool) → as_issued p ≡ as_issued (if b then record p { phase = ph } else p)
    by true = refl
    by false = refl

abbrev WereIssued : List Pei → List PeiLook → Type 0
WereIssued qs ps = AllByRecursion (λ p. In (as_issued p) qs) ps

moved_issued : (id : PeiId) (ph : Phase) (qs : List Pei) (ps : List PeiLook) → WereIssued qs ps → WereIssued qs (map (with_phase id ph) ps)
moved_issued id ph qs ps h = each_map (λ p. In (as_issued p) qs) (λ p. In (as_issued p) qs) (with_phase id ph) (λ p i. subst (λ q. In q qs) (same_issued id ph p) i) ps h

next_issued : (a : Actor) (kind : EventKind) (qs : List Pei) (ps : List PeiLook) → WereIssued qs ps → WereIssued (qs ++ cons_option (pei_issued_by a kind) []) (next_peis a kind ps)
next_issued a kind qs ps h = by kind
  where
    more : (kind : EventKind) → WereIssued (qs ++ cons_option (pei_issued_by a kind) []) ps
    more k = each_weaker (λ p. In (as_issued p) qs) (λ p. In (as_issued p) (qs ++ cons_option (pei_issued_by a k) [])) (λ p i. in_front qs (cons_option (pei_issued_by a k) []) (as_issued p) i) ps h

    moved : (kind : EventKind) (id : PeiId) (ph : Phase) → WereIssued (qs ++ cons_option (pei_issued_by a kind) []) (map (with_phase id ph) ps)
    moved k id ph = moved_issued id ph (qs ++ cons_option (pei_issued_by a k) []) ps (more k)

    by : (kind : EventKind) → WereIssued (qs ++ cons_option (pei_issued_by a kind) []) (next_peis a kind ps)
    by (event.Issue seq lane o b operands) =
        each_append (λ p. In (as_issued p) (qs ++ as_issued (new_look a seq lane o b operands) ∷ [])) ps (new_look a seq lane o b operands ∷ []) (more (event.Issue seq lane o b operands))
        (in_end qs (as_issued (new_look a seq lane o b operands)), tt)
    by (event.Enter seq) = moved (event.Enter seq) (pei_id a seq) phase.Entered
    by (event.Place seq place.Host) = moved (event.Place seq place.Host) (pei_id a seq) phase.HostPlaced
    by (event.Place seq place.Memory) = moved (event.Place seq place.Memory) (pei_id a seq) phase.MemoryPlaced
    by (event.Read seq) = moved (event.Read seq) (pei_id a seq) phase.Read
    by (event.Seal seq vault) = moved (event.Seal seq vault) (pei_id a seq) phase.Sealed
    by (event.Act seq reply) = moved (event.Act seq reply) (pei_id a seq) phase.Acted
    by (event.Leave seq) = each_filter (λ p. In (as_issued p) (qs ++ [])) (λ p. not (same_pei p.id (pei_id a seq))) ps (more (event.Leave seq))
    by k = more k

-- each PEI on its way is as the log issued it
pub were_issued : CoresGoOn → (m : MachineSpec) (log : List Event) → WereIssued (issued_peis log) (state_after m log).peis
were_issued cores m log = every_log (λ past. WereIssued (issued_peis past) (state_after m past).peis) tt step log
  where
    step : (before : List Event) (e : Event) → WereIssued (issued_peis before) (state_after m before).peis → WereIssued (issued_peis (before ++ e ∷ [])) (state_after m (before ++ e ∷ [])).peis
    step before e h =
        subst (WereIssued (issued_peis (before ++ e ∷ []))) (sym (cores.peis m before e))
        (subst (λ qs. WereIssued qs (next_peis e.actor e.kind (state_after m before).peis)) (sym (issued_peis-push before e)) (next_issued e.actor e.kind (issued_peis before) (state_after m before).peis h))

-- ---- a core and a bank

abbrev in_lane : CoreId → Lane → PeiLook → Bool
in_lane c l p = same_core p.id.core c && same_lane p.lane l

-- the PEIs that a core issued are those that its own events issued
core_issued : (c : CoreId) (log : List Event) → filter (λ p. same_core p.id.core c) (issued_peis log) ≡ issued_peis (events_of c log)
core_issued c [] = refl
core_issued c (e ∷ log) = by (same_core e.actor.core c) refl (core_issued c log)
  where
    kept : (kind : EventKind) (b : Bool) → same_core e.actor.core c ≡ b → filter (λ p. same_core p.id.core c) (cons_option (pei_issued_by e.actor kind) (issued_peis log)) ≡ cond b (cons_option (pei_issued_by e.actor kind) (filter (λ p. same_core p.id.core c) (issued_peis log))) (filter (λ p. same_core p.id.core c) (issued_peis log))
    kept (event.Issue seq lane o block operands) true h = rw h refl
    kept (event.Issue seq lane o block operands) false h = rw h refl
    kept _ true h = refl
    kept _ false h = refl

    by : (b : Bool) → same_core e.actor.core c ≡ b → filter (λ p. same_core p.id.core c) (issued_peis log) ≡ issued_peis (events_of c log) → filter (λ p. same_core p.id.core c) (cons_option (pei_issued_by e.actor e.kind) (issued_peis log)) ≡ issued_peis (cond b (e ∷ events_of c log) (events_of c log))
    by true h rest = kept e.kind true h ∙ ap (cons_option (pei_issued_by e.actor e.kind)) rest
    by false h rest = kept e.kind false h ∙ rest

module _ (cores : CoresGoOn) (merge : BanksMerge) (apart : BanksKeepApart) (m : MachineSpec) (k : ℕ) (c : CoreId) (own : List Placed) (log : List Event) (h : KnowsItsPart m k c own log) where
  -- the bank's part of the own events leaves PEIs of the bank alone
  in_the_bank : AllByRecursion (λ p. is_in_bank m k p ≡ true) (state_after m (log_of k own)).peis
  in_the_bank =
      each_weaker (λ p. In (as_issued p) (issued_peis (log_of k own))) (λ p. is_in_bank m k p ≡ true)
      (λ p i. (in_filter (is_issued_in m k) (issued_peis (journal_of own)) (as_issued p) (subst (λ qs. In (as_issued p) qs) (apart.issued m own k h.stands) i)).1)
      (state_after m (log_of k own)).peis (were_issued cores m (log_of k own))

  -- the bank's PEIs of the core
  alike : filter (is_of_core c) (state_after m log).peis ≡ filter (is_of_core c) (filter (is_in_bank m k) (state_after m (journal_of own)).peis)
  alike =
      (apart.core m log c).peis
      ∙ ap (λ es. filter (is_of_core c) (state_after m es).peis) h.part
      ∙ ap (filter (is_of_core c)) (sym ((apart.state m own k h.banks h.stands).peis ∙ all_kept (is_in_bank m k) (state_after m (log_of k own)).peis in_the_bank))

  pub look_meets : (l : Lane) → look_in (state_after m log) c l ≡ look_there m k (look_in (state_after m (journal_of own)) c l)
  look_meets l =
      sym (find_within (in_lane c l) (is_of_core c) own_core (state_after m log).peis)
      ∙ ap (find (in_lane c l)) alike
      ∙ find_within (in_lane c l) (is_of_core c) own_core (filter (is_in_bank m k) (state_after m (journal_of own)).peis)
      ∙ find_kept (in_lane c l) (is_in_bank m k) (state_after m (journal_of own)).peis one
    where
      own_core : (p : PeiLook) → in_lane c l p ≡ true → is_of_core c p ≡ true
      own_core p e = (and_parts (same_core p.id.core c) (same_lane p.lane l) e).0

      one : (p q : PeiLook) → In p (state_after m (journal_of own)).peis → In q (state_after m (journal_of own)).peis → in_lane c l p ≡ true → in_lane c l q ≡ true → p ≡ q
      one p q i j e f =
          let a = and_parts (same_core p.id.core c) (same_lane p.lane l) e
          in let b = and_parts (same_core q.id.core c) (same_lane q.lane l) f
          in own_lanes cores m (journal_of own) h.issues p q i j
          (eq-eqb p.id.core.0 q.id.core.0 (eqb-true p.id.core.0 c.0 a.0 ∙ sym (eqb-true q.id.core.0 c.0 b.0)))
          (eq-eqb p.lane.0 q.lane.0 (eqb-true p.lane.0 l.0 a.1 ∙ sym (eqb-true q.lane.0 l.0 b.1)))

  pub pei_meets : (id : PeiId) → same_core id.core c ≡ true → pei_of log id ≡ pei_there m k (pei_of (journal_of own) id)
  pei_meets id of_core =
      sym (find_within (λ p. same_pei p.id id) (λ p. same_core p.id.core c) own_core (issued_peis log))
      ∙ ap (find (λ p. same_pei p.id id)) (core_issued c log ∙ ap issued_peis h.part ∙ apart.issued m own k h.stands)
      ∙ find_kept (λ p. same_pei p.id id) (is_issued_in m k) (issued_peis (journal_of own)) one
    where
      own_core : (p : Pei) → same_pei p.id id ≡ true → same_core p.id.core c ≡ true
      own_core p e = ap (λ i. same_core i.core c) (same_pei_is p.id id e) ∙ of_core

      one : (p q : Pei) → In p (issued_peis (journal_of own)) → In q (issued_peis (journal_of own)) → same_pei p.id id ≡ true → same_pei q.id id ≡ true → p ≡ q
      one p q i j e f = by (paired (λ x y. same_pei x.id y.id ≡ false) (issued_peis (journal_of own)) p q (have_names cores merge m (journal_of own) h.issues) i j)
        where
          same : same_pei p.id q.id ≡ true
          same = ap (same_pei p.id) (same_pei_is q.id id f) ∙ e

          by : (p ≡ q) ⊎ ((same_pei p.id q.id ≡ false) ⊎ (same_pei q.id p.id ≡ false)) → p ≡ q
          by (inl g) = g
          by (inr (inl g)) = absurd (cc (sym g ∙ same))
          by (inr (inr g)) = absurd (cc (sym g ∙ same_pei_sym q.id p.id ∙ same))

  -- the core's next number names no PEI of the bank
  pub next_name : pei_of log (record { core = c; seq = slice_index (state_after m (journal_of own)).issues c.0 }) ≡ None
  next_name = pei_meets (record { core = c; seq = slice_index (state_after m (journal_of own)).issues c.0 }) (same_self c.0) ∙ ap (pei_there m k) (none_found (λ q. same_pei q.id (record { core = c; seq = slice_index (state_after m (journal_of own)).issues c.0 })) (issued_peis (journal_of own)) others)
    where
      one : (q : Pei) → IsBelow (state_after m (journal_of own)).issues q → (t : Bool) → same_pei q.id (record { core = c; seq = slice_index (state_after m (journal_of own)).issues c.0 }) ≡ t → same_pei q.id (record { core = c; seq = slice_index (state_after m (journal_of own)).issues c.0 }) ≡ false
      one q below false e = e
      one q below true e =
          let same = same_pei_is q.id (record { core = c; seq = slice_index (state_after m (journal_of own)).issues c.0 }) e
          in let less : slice_index (state_after m (journal_of own)).issues c.0 < slice_index (state_after m (journal_of own)).issues c.0 = subst (λ (i : PeiId). i.seq < slice_index (state_after m (journal_of own)).issues i.core.0) same below
          in absurd (omega (arith, less))

      others : AllByRecursion (λ q. same_pei q.id (record { core = c; seq = slice_index (state_after m (journal_of own)).issues c.0 }) ≡ false) (issued_peis (journal_of own))
      others = each_weaker (IsBelow (state_after m (journal_of own)).issues) (λ q. same_pei q.id (record { core = c; seq = slice_index (state_after m (journal_of own)).issues c.0 }) ≡ false) (λ q below. one q below (same_pei q.id (record { core = c; seq = slice_index (state_after m (journal_of own)).issues c.0 })) refl) (issued_peis (journal_of own)) (all_below cores merge m (journal_of own) h.issues)

  -- the core's lowest free lane has no PEI of the bank
  pub next_lane : (l : Lane) → free_lane m (state_after m (journal_of own)) c ≡ Some l → look_in (state_after m log) c l ≡ None
  next_lane l free =
      look_meets l
      ∙ ap (look_there m k) (none_is (look_in (state_after m (journal_of own)) c l) (found_passes (λ x. is_none (look_in (state_after m (journal_of own)) c x)) (lanes_of m) l free))

-- ---- fences

-- an event of a core's fence
abbrev pub is_of_fence : CoreId → Event → Bool
is_of_fence c e = begins_fence c e || ends_fence c e

fold_part : (k : ℕ) (c : CoreId) (on : Bool) (own : List Placed) → AllByRecursion (λ x. is_of_fence c x.event ≡ true → x.bank ≡ k) own
    → fold (λ y e. begins_fence c e || y && not (ends_fence c e)) on (log_of k own) ≡ fold (λ y e. begins_fence c e || y && not (ends_fence c e)) on (journal_of own)
fold_part k c on [] h = refl
fold_part k c on (x ∷ own) h = by (is_made_in k x) refl (λ y. fold_part k c y own h.1)
  where
    beside : (a b : Bool) → (a || b) ≡ false → (a || on && not b) ≡ on
    beside false false e = both on
      where
        both : (z : Bool) → (z && true) ≡ z
        both true = refl
        both false = refl
    beside true b e = absurd (cc e)
    beside false true e = absurd (cc e)

    other : is_made_in k x ≡ false → is_of_fence c x.event ≡ false
    other e = at (is_of_fence c x.event) refl
      where
        at : (b : Bool) → is_of_fence c x.event ≡ b → is_of_fence c x.event ≡ false
        at false f = f
        at true f = absurd (cc (sym e ∙ eq-eqb x.bank k (h.0 f)))

    by : (b : Bool) → is_made_in k x ≡ b → ((z : Bool) → fold (λ y e. begins_fence c e || y && not (ends_fence c e)) z (log_of k own) ≡ fold (λ y e. begins_fence c e || y && not (ends_fence c e)) z (journal_of own)) → fold (λ y e. begins_fence c e || y && not (ends_fence c e)) on (map (λ z. z.event) (cond b (x ∷ filter (is_made_in k) own) (filter (is_made_in k) own))) ≡ fold (λ y e. begins_fence c e || y && not (ends_fence c e)) on (journal_of (x ∷ own))
    by true e rest = rest (begins_fence c x.event || on && not (ends_fence c x.event))
    by false e rest =
        rest on
        ∙ ap (λ z. fold (λ y v. begins_fence c v || y && not (ends_fence c v)) z (journal_of own)) (sym (beside (begins_fence c x.event) (ends_fence c x.event) (other e)))

some_on : (o : Option (List PeiId)) → is_some (without_waits o) ≡ not (is_none o)
some_on None = refl
some_on (Some ws) = refl

not_same : (x y : Bool) → not x ≡ not y → x ≡ y
not_same true true h = refl
not_same false false h = refl
not_same true false h = absurd (cc h)
not_same false true h = absurd (cc h)

pub fence_meets : CoresGoOn → BanksKeepApart → (m : MachineSpec) (k : ℕ) (c : CoreId) (own : List Placed) (log : List Event) → c.0 < m.cores → events_of c log ≡ log_of k own → AllByRecursion (λ x. is_of_fence c x.event ≡ true → x.bank ≡ k) own → is_none (fence_of (state_after m log) c) ≡ is_none (fence_of (state_after m (journal_of own)) c)
fence_meets cores apart m k c own log within part all =
    (apart.core m log c).fence
    ∙ ap (λ es. is_none (fence_of (state_after m es) c)) part
    ∙ not_same (is_none (fence_of (state_after m (log_of k own)) c)) (is_none (fence_of (state_after m (journal_of own)) c))
    (sym (some_on (fence_of (state_after m (log_of k own)) c)) ∙ cores.fence m (log_of k own) c within ∙ fold_part k c false own all
    ∙ sym (cores.fence m (journal_of own) c within) ∙ some_on (fence_of (state_after m (journal_of own)) c))
