-- A bank that a fence waits for no more is cleared for it.
use Rattle.std.proofs.Common.{◌≡◌, ℕ, ◌≤◌, Bool, true, false, ◌&&◌, nat_lt, List, [], ◌∷◌, map, find, Option, Some, None, refl, sym, ◌∙◌, ap, subst}
use Rattle.std.proofs.lemmas.Bool.{ltb-false}
use Rattle.std.proofs.lemmas.Option.{same_Some}
use Rattle.std.specs.Prelude.{option_map}
use Rattle.std.specs.List.{list_any}
use Rattle.pei_types.specs.declared.events.Event.{Event}
use Rattle.pei_types.specs.declared.events.EventKind.{EventKind}
use Rattle.pei_types.specs.declared.events.EventKind.TheVariants as event
use Rattle.pei_types.specs.declared.identifiers.Actor.{Actor}
use Rattle.pei_types.specs.declared.inflight_looks.PeiLook.{PeiLook}
use Rattle.pei_types.specs.declared.machines.MachineSpec.{MachineSpec}
use Rattle.pei_types.specs.declared.stamps.Stamped.{Stamped}
use Rattle.pei_types.specs.MachineState.{state_after, pei_id}
use Rattle.pei_types.specs.History.{Pei, pei_issued_by}
use Rattle.pei_types.specs.Operation.{is_writer}
use Rattle.pei_types.proofs.Tests.{same_self}
use Rattle.fabric.specs.Banks.{BankHistory, bank_state, events_of, is_issued_below, issues, waits_of}
use Rattle.history_laws.specs.Members.{In}
use Rattle.history_laws.specs.TrackedPeis.{as_issued}
use Rattle.history_laws.proofs.Lists.{find_None}
use Rattle.shared_table.specs.Claims.{earlier_left}
use Rattle.thread_laws.specs.BankLogs.{IsBankLog}
use Rattle.thread_laws.specs.Waits.{WaitsForNone}
use Rattle.thread_laws.proofs.Lists.{any_in}
use Rattle.host_run.specs.Laws.{TurnLaws}

-- the event that issues a PEI is its issue
issue_is : (a : Actor) (kind : EventKind) (l : PeiLook) → pei_issued_by a kind ≡ Some (as_issued l) → issues l.id (record { actor = a; kind = kind }) ≡ true
issue_is a (event.Issue seq lane o b x) l h =
    let same : record { id = pei_id a seq; lane = lane; op = o; block = b; operands = x } ≡ as_issued l = same_Some _ (as_issued l) h
    in subst (λ (p : Pei). issues p.id (record { actor = a; kind = event.Issue seq lane o b x }) ≡ true) same (rw (same_self a.core.0, same_self seq) refl)
issue_is a _ l h = absurd (cc h)

not_found : (o : Option PeiLook) → option_map (λ (p : PeiLook). p.id) o ≡ None → o ≡ None
not_found None h = refl
not_found (Some p) h = absurd (cc h)

waits_for_none : (h : BankHistory) (begin : ℕ) → waits_of h begin ≡ None → WaitsForNone begin h.log (bank_state h).peis
waits_for_none h begin none l x here writes there issued = by (nat_lt x.stamp begin) refl
  where
    test : PeiLook → Bool
    test p = is_writer p.op && is_issued_below h.log begin p.id

    fails : test l ≡ false
    fails = find_None test (bank_state h).peis l (not_found (find test (bank_state h).peis) none) here

    by : (b : Bool) → nat_lt x.stamp begin ≡ b → begin ≤ x.stamp
    by false e = ltb-false x.stamp begin e
    by true e =
        let one : (issues l.id x.event && nat_lt x.stamp begin) ≡ true = rw (issue_is x.event.actor x.event.kind l issued, e) refl
        in let some : is_issued_below h.log begin l.id ≡ true = any_in (λ (y : Stamped). issues l.id y.event && nat_lt y.stamp begin) h.log x there one
        in absurd (cc (sym fails ∙ ap (λ b. b && is_issued_below h.log begin l.id) writes ∙ some))

pub is_cleared : TurnLaws → (h : BankHistory) (begin : ℕ) → IsBankLog h.machine h.image h.bank (events_of h) → waits_of h begin ≡ None → earlier_left begin h.log ≡ true
is_cleared laws h begin log none =
    laws.cleared.cleared h.machine h.log begin (laws.follow.continues h.machine h.image h.bank (events_of h) log) (waits_for_none h begin none)
