-- A PEI enters once and leaves behind that, where each log has the events of its PEIs in their order.
use Rattle.std.proofs.Common.{◌≡◌, ◌⊎◌, inl, inr, ℕ, zero, suc, ◌<◌, ◌≤◌, Bool, true, false, ◌&&◌, ◌||◌, nat_lt, List, [], ◌∷◌, ◌++◌, map, filter, Option, Some, None, MatchOption, IsTrue, refl, sym, ◌∙◌, ap, ap₂, subst, arith, eq-eqb, eqb-true, ltb-true, ltb-false}
use Rattle.std.specs.Prelude.{◌==◌}
use Rattle.std.specs.List.{list_any, cons_option}
use Rattle.std.proofs.Math.Bool.{and-false, or-false}
use Rattle.std.proofs.lemmas.Bool.{and_parts, lt-ltb}
use Rattle.std.proofs.lemmas.List.Folds.{list_any-append}
use Rattle.pei_types.specs.declared.stamps.Stamped.{Stamped}
use Rattle.pei_types.specs.declared.identifiers.PeiId.{PeiId}
use Rattle.pei_types.specs.declared.operations.Place.TheVariants as place
use Rattle.pei_types.specs.declared.inflight_looks.Phase.{Phase}
use Rattle.pei_types.specs.declared.inflight_looks.Phase.TheVariants as phase
use Rattle.pei_types.specs.declared.events.Event.{Event}
use Rattle.pei_types.specs.declared.events.EventKind.{EventKind}
use Rattle.pei_types.specs.declared.events.EventKind.TheVariants as event
use Rattle.pei_types.specs.Blocks.{same_core, same_lane, same_pei}
use Rattle.pei_types.specs.Calls.{FollowsPei, follows_phase}
use Rattle.pei_types.specs.MachineState.{is_phase, pei_id}
use Rattle.pei_types.specs.History.{Pei, issued_peis, pei_issued_by, pei_of, phase_of, phase_after, is_about, is_number, seq_named, is_enter, is_leave}
use Rattle.pei_types.specs.Recency.{list_at}
use Rattle.pei_types.proofs.Identities.{same_core_is, same_pei_is}
use Rattle.pei_types.proofs.Lists.{found_passes}
use Rattle.pei_types.proofs.Pushes.{phase_of-push}
use Rattle.history_laws.specs.Members.{In}
use Rattle.bank_laws.specs.Across.{Happens, Issues, enters, leaves, FollowInLogs, FollowsItsPei}
use Rattle.bank_laws.specs.Logs.{events_below, AreStamped}
use Rattle.bank_laws.proofs.Lists.{found_in}
use Rattle.bank_laws.proofs.Logs.{NextIs, next_is}
use Rattle.bank_laws.proofs.Main.{name_is}
use Rattle.bank_laws.proofs.Merging.{at_item}
use Rattle.bank_laws.proofs.Stamps.{events_more, events_same, events_at_start, Lacks}
use Rattle.history_laws.proofs.Lists.{in_filter, filter_in}

-- ---- events below a stamp

any_more : (test : Event → Bool) (events : List Event) (e : Event) → list_any test (events ++ e ∷ []) ≡ (list_any test events || test e)
any_more test events e = list_any-append test events (e ∷ []) ∙ ap (λ b. list_any test events || b) (or-false (test e))

pub or_either : (x y : Bool) → (x || y) ≡ true → (x ≡ true) ⊎ (y ≡ true)
or_either true y h = inl refl
or_either false y h = inr h

-- an event that passes, below a stamp
any_in : (test : Event → Bool) (xs : List Stamped) (x : Stamped) → In x xs → test x.event ≡ true → list_any test (map (λ y. y.event) xs) ≡ true
any_in test [] x i h = absurd i
any_in test (y ∷ xs) x (inl e) h = rw (sym (ap (λ (z : Stamped). test z.event) e) ∙ h) refl
any_in test (y ∷ xs) x (inr i) h = by (test y.event) (any_in test xs x i h)
  where
    by : (b : Bool) → list_any test (map (λ z. z.event) xs) ≡ true → (b || list_any test (map (λ z. z.event) xs)) ≡ true
    by true q = refl
    by false q = q

some_in : (test : Event → Bool) (xs : List Stamped) → list_any test (map (λ y. y.event) xs) ≡ true → (x : Stamped) × In x xs × (test x.event ≡ true)
some_in test [] h = absurd (cc h)
some_in test (y ∷ xs) h = by (test y.event) refl h (some_in test xs)
  where
    by : (b : Bool) → test y.event ≡ b → (b || list_any test (map (λ z. z.event) xs)) ≡ true → (list_any test (map (λ z. z.event) xs) ≡ true → (x : Stamped) × In x xs × (test x.event ≡ true)) → (x : Stamped) × In x (y ∷ xs) × (test x.event ≡ true)
    by true e q rest = (y, inl refl, e)
    by false e q rest = let r = rest q in (r.0, inr r.1, r.2)

issue_in : (xs : List Stamped) (p : Pei) → In p (issued_peis (map (λ y. y.event) xs)) → (x : Stamped) × In x xs × (pei_issued_by x.event.actor x.event.kind ≡ Some p)
issue_in [] p i = absurd i
issue_in (y ∷ xs) p i = by (pei_issued_by y.event.actor y.event.kind) refl i (issue_in xs p)
  where
    by : (o : Option Pei) → pei_issued_by y.event.actor y.event.kind ≡ o → In p (cons_option o (issued_peis (map (λ z. z.event) xs))) → (In p (issued_peis (map (λ z. z.event) xs)) → (x : Stamped) × In x xs × (pei_issued_by x.event.actor x.event.kind ≡ Some p)) → (x : Stamped) × In x (y ∷ xs) × (pei_issued_by x.event.actor x.event.kind ≡ Some p)
    by None e j rest = let r = rest j in (r.0, inr r.1, r.2)
    by (Some q) e (inl same) rest = (y, inl refl, e ∙ ap Some (sym same))
    by (Some q) e (inr j) rest = let r = rest j in (r.0, inr r.1, r.2)

is_below : ℕ → Stamped → Bool
is_below n x = nat_lt x.stamp n

-- ---- kinds of events

-- an event that is not about a PEI does not have it enter
not_about : (kind : EventKind) (same : Bool) (n : ℕ) → (same && is_number (seq_named kind) n) ≡ false → (same && is_enter kind n) ≡ false
not_about (event.Enter seq) same n h = h
not_about _ same n h = and-false same

-- whose the event is, where it is about a PEI
about_is : (id : PeiId) (e : Event) (seq : ℕ) → seq_named e.kind ≡ Some seq → is_about id e ≡ true → id ≡ pei_id e.actor seq
about_is id e seq named h =
    let both = and_parts (same_core e.actor.core id.core) (is_number (seq_named e.kind) id.seq) h
    in let core : e.actor.core ≡ id.core = same_core_is e.actor.core id.core both.0
    in let number : seq ≡ id.seq = eqb-true seq id.seq (sym (ap (λ o. is_number o id.seq) named) ∙ both.1)
    in subst (λ n. id ≡ pei_id e.actor n) (sym number) (name_is id e.actor.core (sym core))

-- only an enter follows an issue
issued_enters : (ph : Phase) (kind : EventKind) → ((seq : ℕ) → kind ≡ event.Enter seq → ⊥) → IsTrue (follows_phase ph kind) → is_phase ph phase.Issued ≡ false
issued_enters phase.Issued (event.Enter seq) apart h = absurd (apart seq refl)
issued_enters phase.Issued _ apart h = absurd (cc h)
issued_enters _ kind apart h = refl

enter_is_issued : (ph : Phase) (seq : ℕ) → IsTrue (follows_phase ph (event.Enter seq)) → ph ≡ phase.Issued
enter_is_issued phase.Issued seq h = refl
enter_is_issued _ seq h = absurd (cc h)

matched : (o : Option Phase) (P : Phase → Type 0) → MatchOption o ⊥ P → (ph : Phase) × (o ≡ Some ph) × P ph
matched None P h = absurd h
matched (Some ph) P h = (ph, refl, h)

matched_pei : (o : Option Pei) (P : Pei → Type 0) → MatchOption o ⊥ P → (p : Pei) × (o ≡ Some p) × P p
matched_pei None P h = absurd h
matched_pei (Some p) P h = (p, refl, h)

-- ---- phases and enters, along one log

-- a PEI that was issued and no more has not entered; one that is in another phase has
pub record PhaseTells (id : PeiId) (events : List Event) : Type 0 where
  pub issued : phase_of events id ≡ Some phase.Issued → list_any (enters id) events ≡ false
  pub past : (ph : Phase) → phase_of events id ≡ Some ph → is_phase ph phase.Issued ≡ false → list_any (enters id) events ≡ true

-- an event about the PEI that is neither its issue nor its enter
past_more : (id : PeiId) (events : List Event) (e : Event) (seq : ℕ) → seq_named e.kind ≡ Some seq → is_about id e ≡ true → FollowsPei events e.actor e.kind seq → ((n : ℕ) → e.kind ≡ event.Enter n → ⊥) → PhaseTells id events → list_any (enters id) events ≡ true
past_more id events e seq named about follows apart h =
    let own : id ≡ pei_id e.actor seq = about_is id e seq named about
    in let at = matched (phase_of events (pei_id e.actor seq)) (λ ph. IsTrue (follows_phase ph e.kind)) follows.1
    in h.past at.0 (ap (phase_of events) own ∙ at.1) (issued_enters at.0 e.kind apart at.2)

module _ (last : ℕ) (logs : List (List Stamped)) (h : AreStamped last logs) (f : FollowInLogs logs) where
  -- the event follows its PEI in its own log
  follows_at : (k : ℕ) (x : Stamped) → In x (list_at logs k) → FollowsItsPei (events_below x.stamp (list_at logs k)) x.event.actor x.event.kind
  follows_at k x i = at_item (λ before e. FollowsItsPei before e.actor e.kind) (list_at logs k) x (h.rising k) i (f.follows k)

  -- a PEI that a log's event is about was issued in that log, with a smaller stamp
  issued_before : (k n : ℕ) (id : PeiId) (p : Pei) → pei_of (events_below n (list_at logs k)) id ≡ Some p → (x : Stamped) × In x (list_at logs k) × (x.stamp < n) × (pei_issued_by x.event.actor x.event.kind ≡ Some p) × (same_pei p.id id ≡ true)
  issued_before k n id p e =
      let there : In p (issued_peis (events_below n (list_at logs k))) = found_in (λ q. same_pei q.id id) (issued_peis (events_below n (list_at logs k))) p e
      in let r = issue_in (filter (λ y. nat_lt y.stamp n) (list_at logs k)) p there
      in let kept = in_filter (λ y. nat_lt y.stamp n) (list_at logs k) r.0 r.1
      in (r.0, kept.0, ltb-true r.0.stamp n kept.1, r.2, found_passes (λ q. same_pei q.id id) (issued_peis (events_below n (list_at logs k))) p e)

  issues_of : (k : ℕ) (x : Stamped) (p : Pei) → In x (list_at logs k) → pei_issued_by x.event.actor x.event.kind ≡ Some p → Issues logs p x.stamp
  issues_of k x p i e = record { bank = k; item = x; there = i; at = refl; issues = e }

  -- an event that enters, in a log
  enters_kind : (id : PeiId) (e : Event) → enters id e ≡ true → (seq : ℕ) × (e.kind ≡ event.Enter seq) × (id ≡ pei_id e.actor seq)
  enters_kind id e t = by e.kind refl
    where
      by : (kind : EventKind) → e.kind ≡ kind → (seq : ℕ) × (e.kind ≡ event.Enter seq) × (id ≡ pei_id e.actor seq)
      by (event.Enter seq) same = (seq, same, about_is id e seq (ap seq_named same) (subst (λ y. (same_core e.actor.core id.core && is_number (seq_named y) id.seq) ≡ true) (sym same) (subst (λ y. (same_core e.actor.core id.core && is_enter y id.seq) ≡ true) same t)))
      by _ same = absurd (cc (sym (subst (λ y. (same_core e.actor.core id.core && is_enter y id.seq) ≡ true) same t) ∙ and-false (same_core e.actor.core id.core)))

  -- what an enter finds: the PEI issued before, and in no other phase
  enter_finds : (k : ℕ) (x : Stamped) (id : PeiId) → In x (list_at logs k) → enters id x.event ≡ true → ((p : Pei) × (pei_of (events_below x.stamp (list_at logs k)) id ≡ Some p)) × (phase_of (events_below x.stamp (list_at logs k)) id ≡ Some phase.Issued)
  enter_finds k x id i t =
      let r = enters_kind id x.event t
      in let before : List Event = events_below x.stamp (list_at logs k)
      in let follows : FollowsPei before x.event.actor (event.Enter r.0) r.0 = subst (λ kind. FollowsItsPei before x.event.actor kind) r.1 (follows_at k x i)
      in let found = matched_pei (pei_of before (pei_id x.event.actor r.0)) (λ p. IsTrue (same_lane p.lane x.event.actor.lane)) follows.0
      in let at = matched (phase_of before (pei_id x.event.actor r.0)) (λ ph. IsTrue (follows_phase ph (event.Enter r.0))) follows.1
      in ((found.0, ap (pei_of before) r.2 ∙ found.1), ap (phase_of before) r.2 ∙ at.1 ∙ ap Some (enter_is_issued at.0 r.0 at.2))

  -- an issue comes before every enter of its PEI
  no_enter_before_issue : (k : ℕ) (x : Stamped) (id : PeiId) (p : Pei) → In x (list_at logs k) → pei_issued_by x.event.actor x.event.kind ≡ Some p → p.id ≡ id → list_any (enters id) (events_below x.stamp (list_at logs k)) ≡ true → ⊥
  no_enter_before_issue k x id p i e named entered =
      let r = some_in (enters id) (filter (λ y. nat_lt y.stamp x.stamp) (list_at logs k)) entered
      in let kept = in_filter (λ y. nat_lt y.stamp x.stamp) (list_at logs k) r.0 r.1
      in let less : r.0.stamp < x.stamp = ltb-true r.0.stamp x.stamp kept.1
      in let found = (enter_finds k r.0 id kept.0 r.2).0
      in let origin = issued_before k r.0.stamp id found.0 found.1
      in let names : same_pei found.0.id p.id ≡ true = ap (same_pei found.0.id) named ∙ origin.4
      in let one : origin.0.stamp ≡ x.stamp = f.numbered found.0 p origin.0.stamp x.stamp (issues_of k origin.0 found.0 origin.1 origin.3) (issues_of k x p i e) names
      in let earlier : origin.0.stamp < r.0.stamp = origin.2
      in absurd (omega (arith, one, earlier, less))

  -- one more event of the log
  tell_step : (k n : ℕ) (id : PeiId) (x : Stamped) → In x (list_at logs k) → x.stamp ≡ n → PhaseTells id (events_below n (list_at logs k)) → PhaseTells id (events_below n (list_at logs k) ++ x.event ∷ [])
  tell_step k n id x i at t = by (is_about id x.event) refl
    where
      before : List Event
      before = events_below n (list_at logs k)

      e : Event
      e = x.event

      either_no : list_any (enters id) before ≡ false → enters id e ≡ false → list_any (enters id) (before ++ e ∷ []) ≡ false
      either_no p q = any_more (enters id) before e ∙ ap₂ (λ a b. a || b) p q

      first_yes : list_any (enters id) before ≡ true → list_any (enters id) (before ++ e ∷ []) ≡ true
      first_yes p = any_more (enters id) before e ∙ ap (λ a. a || enters id e) p

      second_yes : enters id e ≡ true → list_any (enters id) (before ++ e ∷ []) ≡ true
      second_yes q = any_more (enters id) before e ∙ ap (λ b. list_any (enters id) before || b) q ∙ or_true (list_any (enters id) before)
        where
          or_true : (a : Bool) → (a || true) ≡ true
          or_true true = refl
          or_true false = refl

      follows : FollowsItsPei before e.actor e.kind
      follows = subst (λ m. FollowsItsPei (events_below m (list_at logs k)) e.actor e.kind) at (follows_at k x i)

      no_enter : (kind : EventKind) → e.kind ≡ kind → ((s : Bool) (m : ℕ) → (s && is_enter kind m) ≡ false) → enters id e ≡ false
      no_enter kind same none = subst (λ y. (same_core e.actor.core id.core && is_enter y id.seq) ≡ false) (sym same) (none (same_core e.actor.core id.core) id.seq)

      -- the event sets the phase
      moved : is_about id e ≡ true → phase_of (before ++ e ∷ []) id ≡ phase_after e.kind
      moved q = phase_of-push before e id ∙ rw q refl

      -- a phase other than that of an issue, reached by an event that is neither issue nor enter
      reached : (ph : Phase) (seq : ℕ) → is_about id e ≡ true → phase_after e.kind ≡ Some ph → is_phase ph phase.Issued ≡ false → seq_named e.kind ≡ Some seq → FollowsPei before e.actor e.kind seq → ((m : ℕ) → e.kind ≡ event.Enter m → ⊥) → PhaseTells id (before ++ e ∷ [])
      reached ph seq about after not_issued named follow apart =
          record {
            issued = λ p. absurd (let same : ph ≡ phase.Issued = some_is ph phase.Issued (sym after ∙ sym (moved about) ∙ p) in cc (sym not_issued ∙ ap (λ y. is_phase y phase.Issued) same));
            past = λ q p other. first_yes (past_more id before e seq named about follow apart t);
          }
        where
          some_is : (a b : Phase) → Some a ≡ Some b → a ≡ b
          some_is a b r = cc

      by : (b : Bool) → is_about id e ≡ b → PhaseTells id (before ++ e ∷ [])
      by false q =
          let stays : phase_of (before ++ e ∷ []) id ≡ phase_of before id = phase_of-push before e id ∙ rw q refl
          in let none : enters id e ≡ false = not_about e.kind (same_core e.actor.core id.core) id.seq q
          in record {
            issued = λ p. either_no (t.issued (sym stays ∙ p)) none;
            past = λ ph p other. first_yes (t.past ph (sym stays ∙ p) other);
          }
      by true q = at_kind e.kind refl
        where
          unnamed : (kind : EventKind) → e.kind ≡ kind → seq_named kind ≡ None → PhaseTells id (before ++ e ∷ [])
          unnamed kind same none =
              absurd (cc (sym q ∙ ap (λ o. same_core e.actor.core id.core && is_number o id.seq) (ap seq_named same ∙ none) ∙ and-false (same_core e.actor.core id.core)))

          at_kind : (kind : EventKind) → e.kind ≡ kind → PhaseTells id (before ++ e ∷ [])
          at_kind (event.Issue seq lane o b operands) same =
              let p : Pei = record { id = pei_id e.actor seq; lane = lane; op = o; block = b; operands = operands }
              in let issues : pei_issued_by e.actor e.kind ≡ Some p = ap (pei_issued_by e.actor) same
              in let named : p.id ≡ id = sym (about_is id e seq (ap seq_named same) q)
              in record {
                issued = λ _. either_no (none_before p issues named (list_any (enters id) before) refl) (no_enter (event.Issue seq lane o b operands) same (λ s m. and-false s));
                past = λ ph r other. absurd (let is : Some phase.Issued ≡ Some ph = sym (moved q ∙ ap phase_after same) ∙ r in let ph_is : phase.Issued ≡ ph = cc in cc (sym other ∙ ap (λ y. is_phase y phase.Issued) (sym ph_is)));
              }
            where
              none_before : (p : Pei) → pei_issued_by e.actor e.kind ≡ Some p → p.id ≡ id → (b : Bool) → list_any (enters id) before ≡ b → list_any (enters id) before ≡ false
              none_before p issues named true r = absurd (no_enter_before_issue k x id p i issues named (subst (λ m. list_any (enters id) (events_below m (list_at logs k)) ≡ true) (sym at) r))
              none_before p issues named false r = r
          at_kind (event.Enter seq) same =
              record {
                issued = λ r. absurd (let is : Some phase.Entered ≡ Some phase.Issued = sym (moved q ∙ ap phase_after same) ∙ r in let ph_is : phase.Entered ≡ phase.Issued = cc in cc (ap (λ y. is_phase y phase.Entered) ph_is));
                past = λ ph r other. second_yes (subst (λ y. (same_core e.actor.core id.core && is_enter y id.seq) ≡ true) (sym same) (subst (λ y. (same_core e.actor.core id.core && is_number (seq_named y) id.seq) ≡ true) same q));
              }
          at_kind (event.Place seq place.Host) same = reached phase.HostPlaced seq q (ap phase_after same) refl (ap seq_named same) (subst (λ y. FollowsPei before e.actor y seq) (sym same) (subst (FollowsItsPei before e.actor) same follows)) (λ m r. absurd (cc (sym same ∙ r)))
          at_kind (event.Place seq place.Memory) same = reached phase.MemoryPlaced seq q (ap phase_after same) refl (ap seq_named same) (subst (λ y. FollowsPei before e.actor y seq) (sym same) (subst (FollowsItsPei before e.actor) same follows)) (λ m r. absurd (cc (sym same ∙ r)))
          at_kind (event.Read seq) same = reached phase.Read seq q (ap phase_after same) refl (ap seq_named same) (subst (λ y. FollowsPei before e.actor y seq) (sym same) (subst (FollowsItsPei before e.actor) same follows)) (λ m r. absurd (cc (sym same ∙ r)))
          at_kind (event.Seal seq vault) same = reached phase.Sealed seq q (ap phase_after same) refl (ap seq_named same) (subst (λ y. FollowsPei before e.actor y seq) (sym same) (subst (FollowsItsPei before e.actor) same follows)) (λ m r. absurd (cc (sym same ∙ r)))
          at_kind (event.Act seq reply) same = reached phase.Acted seq q (ap phase_after same) refl (ap seq_named same) (subst (λ y. FollowsPei before e.actor y seq) (sym same) (subst (FollowsItsPei before e.actor) same follows)) (λ m r. absurd (cc (sym same ∙ r)))
          at_kind (event.Leave seq) same =
              let gone : phase_of (before ++ e ∷ []) id ≡ None = moved q ∙ ap phase_after same
              in record { issued = λ r. absurd (cc (sym gone ∙ r)); past = λ ph r other. absurd (cc (sym gone ∙ r)) }
          at_kind event.FenceBegin same = unnamed event.FenceBegin same refl
          at_kind event.FenceEnd same = unnamed event.FenceEnd same refl
          at_kind (event.Load addr value) same = unnamed (event.Load addr value) same refl
          at_kind (event.Store addr value) same = unnamed (event.Store addr value) same refl
          at_kind (event.Out value) same = unnamed (event.Out value) same refl
          at_kind (event.Race pc at by) same = unnamed (event.Race pc at by) same refl
          at_kind (event.End how) same = unnamed (event.End how) same refl
          at_kind (event.Invalidate c b) same = unnamed (event.Invalidate c b) same refl
          at_kind (event.Downgrade c b) same = unnamed (event.Downgrade c b) same refl
          at_kind (event.EvictL1 c b) same = unnamed (event.EvictL1 c b) same refl
          at_kind (event.Clean b) same = unnamed (event.Clean b) same refl
          at_kind (event.EvictLlc b) same = unnamed (event.EvictLlc b) same refl
          at_kind (event.Fill b) same = unnamed (event.Fill b) same refl
          at_kind (event.GrantS b) same = unnamed (event.GrantS b) same refl
          at_kind (event.GrantE b) same = unnamed (event.GrantE b) same refl
          at_kind (event.GrantM b) same = unnamed (event.GrantM b) same refl

  phases : (k : ℕ) (id : PeiId) (n : ℕ) → n ≤ last → PhaseTells id (events_below n (list_at logs k))
  phases k id zero within = subst (PhaseTells id) (sym (events_at_start (list_at logs k))) (record { issued = λ p. refl; past = λ ph p other. absurd (cc p) })
  phases k id (suc n) within = by (next_is last n logs h (omega (arith, within))) (phases k id n (omega (arith, within)))
    where
      by : (x : NextIs n logs) → PhaseTells id (events_below n (list_at logs k)) → PhaseTells id (events_below (suc n) (list_at logs k))
      by x before = own (x.bank == k) refl
        where
          own : (b : Bool) → (x.bank == k) ≡ b → PhaseTells id (events_below (suc n) (list_at logs k))
          own true e =
              let here : In x.item (list_at logs k) = subst (λ j. In x.item (list_at logs j)) (eqb-true x.bank k e) x.there
              in subst (PhaseTells id) (sym (events_more n (list_at logs k) x.item (h.rising k) here x.stamp)) (tell_step k n id x.item here x.stamp before)
          own false e =
              let lacks : Lacks n (list_at logs k) = λ y i q. absurd (cc (sym e ∙ eq-eqb x.bank k (sym (h.once k x.bank y x.item i x.there (q ∙ sym x.stamp)))))
              in subst (PhaseTells id) (sym (events_same n (list_at logs k) (h.rising k) lacks)) before

  -- ---- once, and later

  -- two enters of a PEI stand in one log
  one_log : (id : PeiId) (x y : Stamped) (k l : ℕ) → In x (list_at logs k) → In y (list_at logs l) → enters id x.event ≡ true → enters id y.event ≡ true → k ≡ l
  one_log id x y k l i j p q =
      let found = (enter_finds k x id i p).0
      in let other = (enter_finds l y id j q).0
      in let origin = issued_before k x.stamp id found.0 found.1
      in let source = issued_before l y.stamp id other.0 other.1
      in let names : same_pei found.0.id other.0.id ≡ true = subst (λ r. same_pei found.0.id r ≡ true) (sym (same_pei_is other.0.id id source.4)) origin.4
      in let stamps : origin.0.stamp ≡ source.0.stamp = f.numbered found.0 other.0 origin.0.stamp source.0.stamp (issues_of k origin.0 found.0 origin.1 origin.3) (issues_of l source.0 other.0 source.1 source.3) names
      in h.once k l origin.0 source.0 origin.1 source.1 stamps

  -- of two, the later finds that the PEI has entered
  not_twice : (id : PeiId) (x y : Stamped) (k : ℕ) → In x (list_at logs k) → In y (list_at logs k) → enters id x.event ≡ true → enters id y.event ≡ true → x.stamp < y.stamp → ⊥
  not_twice id x y k i j p q less =
      let finds : phase_of (events_below y.stamp (list_at logs k)) id ≡ Some phase.Issued = (enter_finds k y id j q).1
      in let within : y.stamp ≤ last = (let below : y.stamp < last = h.below k y j in omega (arith, below))
      in let none : list_any (enters id) (events_below y.stamp (list_at logs k)) ≡ false = (phases k id y.stamp within).issued finds
      in let some : list_any (enters id) (events_below y.stamp (list_at logs k)) ≡ true = any_in (enters id) (filter (λ z. nat_lt z.stamp y.stamp) (list_at logs k)) x (filter_in (λ z. nat_lt z.stamp y.stamp) (list_at logs k) x i (lt-ltb x.stamp y.stamp less)) p
      in absurd (cc (sym none ∙ some))

  pub enters_once : (id : PeiId) (i j : ℕ) → Happens logs (enters id) i → Happens logs (enters id) j → i ≡ j
  enters_once id i j p q = by (nat_lt i j) (nat_lt j i) refl refl
    where
      bank : p.bank ≡ q.bank
      bank = one_log id p.item q.item p.bank q.bank p.there q.there p.passes q.passes

      there : In q.item (list_at logs p.bank)
      there = subst (λ k. In q.item (list_at logs k)) (sym bank) q.there

      by : (b c : Bool) → nat_lt i j ≡ b → nat_lt j i ≡ c → i ≡ j
      by true c e g = absurd (not_twice id p.item q.item p.bank p.there there p.passes q.passes (let less : i < j = ltb-true i j e in let a : p.item.stamp ≡ i = p.at in let b : q.item.stamp ≡ j = q.at in omega (arith, less, a, b)))
      by false true e g = absurd (not_twice id q.item p.item p.bank there p.there q.passes p.passes (let less : j < i = ltb-true j i g in let a : p.item.stamp ≡ i = p.at in let b : q.item.stamp ≡ j = q.at in omega (arith, less, a, b)))
      by false false e g = let le : j ≤ i = ltb-false i j e in let ge : i ≤ j = ltb-false j i g in omega (arith, le, ge)

  leaves_kind : (id : PeiId) (e : Event) → leaves id e ≡ true → (seq : ℕ) × (e.kind ≡ event.Leave seq) × (id ≡ pei_id e.actor seq)
  leaves_kind id e t = by e.kind refl
    where
      by : (kind : EventKind) → e.kind ≡ kind → (seq : ℕ) × (e.kind ≡ event.Leave seq) × (id ≡ pei_id e.actor seq)
      by (event.Leave seq) same = (seq, same, about_is id e seq (ap seq_named same) (subst (λ y. (same_core e.actor.core id.core && is_number (seq_named y) id.seq) ≡ true) (sym same) (subst (λ y. (same_core e.actor.core id.core && is_leave y id.seq) ≡ true) same t)))
      by _ same = absurd (cc (sym (subst (λ y. (same_core e.actor.core id.core && is_leave y id.seq) ≡ true) same t) ∙ and-false (same_core e.actor.core id.core)))

  pub leaves_later : (id : PeiId) (i j : ℕ) → Happens logs (enters id) i → Happens logs (leaves id) j → i < j
  leaves_later id i j p q =
      let y : Stamped = q.item
      in let before : List Event = events_below y.stamp (list_at logs q.bank)
      in let r = leaves_kind id y.event q.passes
      in let follows : FollowsPei before y.event.actor (event.Leave r.0) r.0 = subst (λ kind. FollowsItsPei before y.event.actor kind) r.1 (follows_at q.bank y q.there)
      in let at = matched (phase_of before (pei_id y.event.actor r.0)) (λ ph. IsTrue (follows_phase ph (event.Leave r.0))) follows.1
      in let within : y.stamp ≤ last = (let below : y.stamp < last = h.below q.bank y q.there in omega (arith, below))
      in let entered : list_any (enters id) before ≡ true = (phases q.bank id y.stamp within).past at.0 (ap (phase_of before) r.2 ∙ at.1) (issued_enters at.0 (event.Leave r.0) (λ n same. absurd (cc same)) at.2)
      in let z = some_in (enters id) (filter (λ w. nat_lt w.stamp y.stamp) (list_at logs q.bank)) entered
      in let kept = in_filter (λ w. nat_lt w.stamp y.stamp) (list_at logs q.bank) z.0 z.1
      in let earlier : z.0.stamp < y.stamp = ltb-true z.0.stamp y.stamp kept.1
      in let same : z.0.stamp ≡ i = enters_once id z.0.stamp i (record { bank = q.bank; item = z.0; there = kept.0; at = refl; passes = z.2 }) p
      in let stamp : y.stamp ≡ j = q.at
      in omega (arith, earlier, same, stamp)
