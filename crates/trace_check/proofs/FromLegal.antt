-- What a legal journal tells of the state that it leaves and of the PEIs that it issued.
use Rattle.std.proofs.Common.{◌≡◌, ℕ, suc, ◌≤◌, Bool, true, false, ◌&&◌, inl, inr, if◌then◌else◌, List, [], ◌∷◌, ◌++◌, length, filter, Option, Some, None, option_map, refl, sym, ◌∙◌, ap, subst, arith}
use Rattle.std.specs.Prelude.{slice_index}
use Rattle.std.specs.List.{cons_option}
use Rattle.pei_types.specs.declared.identifiers.Actor.{Actor}
use Rattle.pei_types.specs.declared.identifiers.CoreId.{CoreId}
use Rattle.pei_types.specs.declared.identifiers.Lane.{Lane}
use Rattle.pei_types.specs.declared.calls.Call.TheVariants as call
use Rattle.pei_types.specs.declared.events.Event.{Event}
use Rattle.pei_types.specs.declared.events.EventKind.{EventKind}
use Rattle.pei_types.specs.declared.events.EventKind.TheVariants as event
use Rattle.pei_types.specs.declared.machines.MachineSpec.{MachineSpec}
use Rattle.pei_types.specs.Blocks.{same_core, same_lane, same_pei}
use Rattle.pei_types.specs.Calls.{AnswersCall, AnswersNext}
use Rattle.pei_types.specs.MachineState.{state_after}
use Rattle.pei_types.specs.Core.{CoreNext, Calls, Busy, Ended, core_after, core_at_start, core_config, events_of, next_of_core}
use Rattle.pei_types.specs.History.{Pei, issued_peis, pei_issued_by}
use Rattle.pei_types.specs.Laws.{AsksWhatFits}
use Rattle.pei_types.specs.Legal.{Legal}
use Rattle.pei_types.specs.Program.{Listing, Contents}
use Rattle.pei_types.proofs.Lists.{found_has}
use Rattle.history_laws.specs.Members.{In}
use Rattle.history_laws.specs.TrackedPeis.{Agrees, IsTracked, as_issued, issue_count}
use Rattle.machine_laws.specs.Laws.{RowsMakeLegal}
use Rattle.machine_laws.specs.InOrder.{RunInOrder}
use Rattle.trace_check.specs.InState.{FitsMemory, LooksFit}
use Rattle.trace_check.specs.Issues.{AllFit, AreAsIssued, FitsBlocks, issued_as}
use Rattle.trace_check.proofs.Ordering.{found_in}

-- ---- calls fit

fits_by : (p : Listing) (m : MachineSpec) (laws : AsksWhatFits) (image : Contents) (past : List Event) (c : CoreId) (x : CoreNext) → next_of_core p m image past c ≡ x → FitsMemory m.blocks x
fits_by p m laws image past c (Calls x) is = laws p (core_config m) (core_after p (core_config m) (core_at_start image c) (events_of c past)) x is
fits_by p m laws image past c (Busy register pei) is = tt
fits_by p m laws image past c (Ended how) is = tt

pub next_fits : (p : Listing) (m : MachineSpec) (laws : AsksWhatFits) (image : Contents) (past : List Event) (c : CoreId) → FitsMemory m.blocks (next_of_core p m image past c)
next_fits p m laws image past c = fits_by p m laws image past c (next_of_core p m image past c) refl

-- ---- the issue of a PEI in a list of events

record IssuedAt (events : List Event) (q : Pei) : Type 0 where
  front : List Event
  rest : List Event
  e : Event
  whole : events ≡ front ++ e ∷ rest
  issue : pei_issued_by e.actor e.kind ≡ Some q

in_split : (events : List Event) (q : Pei) → In q (issued_peis events) → IssuedAt events q
in_split [] q there = absurd there
in_split (f ∷ events) q there = by (pei_issued_by f.actor f.kind) refl there (in_split events q)
  where
    later : IssuedAt events q → IssuedAt (f ∷ events) q
    later t = record { front = f ∷ t.front; rest = t.rest; e = t.e; whole = ap (λ es. f ∷ es) t.whole; issue = t.issue }

    by : (o : Option Pei) → pei_issued_by f.actor f.kind ≡ o → In q (cons_option o (issued_peis events)) → (In q (issued_peis events) → IssuedAt events q) → IssuedAt (f ∷ events) q
    by None is t behind = later (behind t)
    by (Some r) is (inl same) behind = record { front = []; rest = events; e = f; whole = refl; issue = is ∙ ap Some (sym same) }
    by (Some r) is (inr t) behind = later (behind t)

answered_fits : (blocks : ℕ) (x : CoreNext) (a : Actor) (seq : ℕ) (lane : Lane) (q : Pei) → FitsMemory blocks x → AnswersNext x (event.Issue seq lane q.op q.block q.operands) → FitsBlocks blocks (issued_as q)
answered_fits blocks (Calls (call.Pei o b operands)) a seq lane q fits h =
    subst (λ ops. FitsBlocks blocks (record { op = q.op; block = q.block; operands = ops })) (sym h.2)
    (subst (λ blk. FitsBlocks blocks (record { op = q.op; block = blk; operands = operands })) (sym h.1)
    (subst (λ opr. FitsBlocks blocks (record { op = opr; block = b; operands = operands })) (sym h.0) (record { applies = fits.0; inside = fits.1 })))
answered_fits blocks (Calls _) a seq lane q fits h = absurd h
answered_fits blocks (Busy register pei) a seq lane q fits h = absurd h
answered_fits blocks (Ended how) a seq lane q fits h = absurd h

issue_fits : (m : MachineSpec) (x : CoreNext) (front : List Event) (a : Actor) (kind : EventKind) (q : Pei) → FitsMemory m.blocks x → AnswersCall x m front a kind → pei_issued_by a kind ≡ Some q → FitsBlocks m.blocks (issued_as q)
issue_fits m x front a (event.Issue seq lane o b operands) q fits calls issue =
    let same : record { id = record { core = a.core; seq = seq }; lane = lane; op = o; block = b; operands = operands } ≡ q = cc issue
    in subst (λ (r : Pei). FitsBlocks m.blocks (issued_as r)) same (answered_fits m.blocks x a seq lane (record { id = record { core = a.core; seq = seq }; lane = lane; op = o; block = b; operands = operands }) fits calls.1.1)
issue_fits m x front a _ q fits calls issue = absurd (cc issue)

-- ---- how many PEIs

filtered : {A : Type 0} (test : A → Bool) (xs : List A) → length (filter test xs) ≤ length xs
filtered test [] = omega arith
filtered {A} test (x ∷ xs) = by (test x) (filtered test xs)
  where
    by : (t : Bool) → length (filter test xs) ≤ length xs → length (if t then x ∷ filter test xs else filter test xs) ≤ suc (length xs)
    by true h = omega (arith, h)
    by false h = omega (arith, h)

issued_few : (events : List Event) → length (issued_peis events) ≤ length events
issued_few [] = omega arith
issued_few (e ∷ events) = by (pei_issued_by e.actor e.kind) (issued_few events)
  where
    by : (o : Option Pei) → length (issued_peis events) ≤ length events → length (cons_option o (issued_peis events)) ≤ suc (length events)
    by None h = omega (arith, h)
    by (Some q) h = omega (arith, h)

-- ---- what a legal journal tells

module _ (p : Listing) (m : MachineSpec) (image : Contents) (past : List Event) (laws : RowsMakeLegal) (asks : AsksWhatFits) (legal : Legal p m image past) where
  pub in_order : RunInOrder p m image past
  in_order = laws.order p m image past legal

  agrees : Agrees m (state_after m past) past
  agrees = in_order.run.sound.agrees

  pub all_fit : AllFit m.blocks past
  all_fit id q found =
      let t = in_split past q (found_in (λ r. same_pei r.id id) (issued_peis past) q found)
      in let meets = legal t.front t.rest t.e t.whole
      in issue_fits m (next_of_core p m image t.front t.e.actor.core) t.front t.e.actor t.e.kind q (next_fits p m asks image t.front t.e.actor.core) meets.flat.calls t.issue

  pub looks_fit : LooksFit m.blocks (state_after m past)
  looks_fit c l q found =
      let t = found_has (IsTracked past) (λ r. same_core r.id.core c && same_lane r.lane l) (state_after m past).peis q agrees.tracked found
      in let fits = all_fit q.id (as_issued q) t.found
      in (fits.applies, fits.inside)

  pub as_they_were : AreAsIssued (state_after m past) past
  as_they_were l found =
      let t = found_has (IsTracked past) (λ r. same_pei r.id l.id) (state_after m past).peis l agrees.tracked found
      in ap (option_map issued_as) t.found

  pub few_issued : (c : CoreId) → slice_index (state_after m past).issues c.0 ≤ length past
  few_issued c =
      let counts : slice_index (state_after m past).issues c.0 ≡ issue_count c past = agrees.counts c
      in let few : issue_count c past ≤ length (issued_peis past) = filtered (λ q. same_core q.id.core c) (issued_peis past)
      in let all : length (issued_peis past) ≤ length past = issued_few past
      in omega (arith, counts, few, all)
