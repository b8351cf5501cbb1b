-- A thread begins in turn: its core has made no event, and its seat has nothing.
use Rattle.std.proofs.Common.{◌≡◌, ℕ, zero, suc, ◌-◌, ◌%◌, ◌^◌, ◌<◌, ◌≤◌, Bool, true, false, List, [], ◌∷◌, map, length, replicate, get_or, Option, Some, None, slice_index, slice_get, filter_map, refl, sym, ◌∙◌, ap, subst, arith}
use Rattle.std.specs.List.{AllByRecursion}
use mathlib.Core.Option.{some, some-ne-none}
use lib.ListN.{get_elem?}
use Rattle.atomic_table.specs.Seated.{TableId}
use Rattle.pei_types.specs.declared.calls.EndKind.{EndKind}
use Rattle.pei_types.specs.declared.events.Event.{Event}
use Rattle.pei_types.specs.declared.identifiers.CoreId.{CoreId}
use Rattle.pei_types.specs.declared.machines.MachineSpec.{MachineSpec}
use Rattle.pei_types.specs.declared.stamps.Stamped.{Stamped}
use Rattle.pei_types.specs.MachineState.{state_after}
use Rattle.pei_types.specs.Core.{at_stop, core_after, core_at_start, core_config}
use Rattle.pei_types.specs.Ends.{end_in}
use Rattle.pei_types.specs.Legal.{EachEvent}
use Rattle.pei_types.specs.Program.{Listing, Contents}
use Rattle.bank_laws.specs.Banks.{EachPlaced, StandsRightly}
use Rattle.bank_laws.proofs.Histories.{placed_none}
use Rattle.thread_laws.specs.OwnEvents.{placed_of}
use Rattle.history_laws.specs.Members.{In}
use Rattle.bank_laws.specs.Logs.{HandsBack, Rises}
use Rattle.shared_table.specs.declared.claims.Active.{Active}
use Rattle.shared_table.specs.declared.claims.Claim.{Claim}
use Rattle.shared_table.specs.declared.claims.Claim.TheVariants.{Free}
use Rattle.shared_table.specs.declared.claims.Made.{Made}
use Rattle.shared_table.specs.Own.{Has}
use Rattle.shared_table.specs.Parts.{active, claims, core_number, mine, seen}
use Rattle.shared_table.specs.Place.{SeatView}
use Rattle.host_run.specs.declared.cores.CoreRun.{CoreRun}
use Rattle.host_run.specs.declared.own_peis.OwnPei.{OwnPei}
use Rattle.host_run.specs.declared.own_peis.OwnPeis.{OwnPeis}
use Rattle.host_run.specs.ThreadInvariant.{FencesAtHome, HasFollowed, IsInTurn}
use Rattle.host_run.specs.Own.{KeepsActives, KeepsClaims, KeepsEvents, KeepsLane, KeepsPeis, core_of, is_spent, no_peis, own_events, own_log, pei_in, seen_logs}
use Rattle.host_run.specs.NewSeat.{IsNewSeat}

no_event : (P : List Event → Event → Type 0) → EachEvent P []
no_event P [] rest e h = absurd (cc h)
no_event P (x ∷ before) rest e h = absurd (cc h)

-- each of four lanes is free
all_free : (lane : ℕ) → 1 ≤ lane → lane ≤ 4 → Has (Free ∷ Free ∷ Free ∷ Free ∷ []) lane Free
all_free zero low high = absurd (omega (arith, low))
all_free (suc zero) low high = (omega arith, refl)
all_free (suc (suc zero)) low high = (omega arith, refl)
all_free (suc (suc (suc zero))) low high = (omega arith, refl)
all_free (suc (suc (suc (suc zero)))) low high = (omega arith, refl)
all_free (suc (suc (suc (suc (suc n))))) low high = absurd (omega (arith, high))

-- a list of one value has it wherever it is read
always : {A : Type 0} (n i : ℕ) (a : A) → get_or (replicate n a) i a ≡ a
always zero i a = refl
always (suc n) zero a = refl
always (suc n) (suc i) a = always n i a

begins_claims : (m : MachineSpec) (t : TableId) (s : SeatView) → IsNewSeat t s → KeepsClaims m s no_peis
begins_claims m t s new lane low high = (
  Free,
  subst (λ xs. Has xs lane Free) (sym new.lanes) (all_free lane low high),
  subst (λ b. KeepsLane m Free b (pei_in no_peis lane)) (sym (always 4 (lane - 1) false)) (subst (KeepsLane m Free false) (sym (always 4 (lane - 1) None)) refl),
)

begins_actives : (m : MachineSpec) (t : TableId) (s : SeatView) → IsNewSeat t s → KeepsActives m s no_peis
begins_actives m t s new b i a h = absurd (some-ne-none a (sym (subst (λ xs. get_elem? xs i ≡ some a) (new.actives b) h)))

begins_events : (m : MachineSpec) (c : CoreId) → c.0 < m.cores → KeepsEvents m c [] no_peis
begins_events m c within = record {
  events = record { core = within; mine = tt; issues = no_event _ };
  lanes = refl;
  issues = sym (always m.cores c.0 0);
  fence = refl;
}

begins_peis : (m : MachineSpec) (t : TableId) (s : SeatView) → core_number s < m.cores → IsNewSeat t s → KeepsPeis m s no_peis
begins_peis m t s within new = record {
  kept = subst (λ es. KeepsEvents m (core_of s) es no_peis) (sym (ap (map (λ (x : Made). x.event)) new.own)) (begins_events m (core_of s) within);
  four = refl;
  fence_is = sym new.fenced;
  unfenced = λ off. refl;
  few = omega arith;
  cleared_are = λ k less. absurd (omega (arith, less));
}

begins_followed : (p : Listing) (m : MachineSpec) (image : Contents) (t : TableId) (s : SeatView) → core_number s < m.cores → IsNewSeat t s → HasFollowed p m image s
begins_followed p m image t s within new = record {
  core = within;
  rows = subst (λ xs. HandsBack p m image xs (seen_logs m s)) (sym none) (λ x i. absurd i);
  own_rises = subst Rises (sym none) tt;
  seen_rise = λ k. subst Rises (sym (new.logs k)) tt;
  stand = subst (λ ms. EachPlaced (StandsRightly m) (placed_of ms)) (sym new.own) (placed_none (StandsRightly m));
  home = subst (λ ms. AllByRecursion (FencesAtHome (core_of s)) (placed_of ms)) (sym new.own) tt;
}
  where
    none : own_log s ≡ []
    none = ap (map (λ (x : Made). record { stamp = x.stamp; event = x.event })) new.own

-- A core that has made no event, with a new seat, is in turn.
pub begins : (p : Listing) (m : MachineSpec) (image : Contents) (t : TableId) (s : SeatView) (run : CoreRun) → core_number s < m.cores → IsNewSeat t s → run.core.state ≡ core_at_start image (core_of s) → run.own ≡ no_peis → run.end ≡ None → IsInTurn p m image t s run
begins p m image t s run within new core own end = record {
  rest = record { table = new.table; slot = new.slot; stamp = new.stamp };
  missed = new.missed;
  keeps = record {
    followed = begins_followed p m image t s within new;
    taken_in = ap (at_stop p (core_config m)) (core ∙ sym (ap (λ ms. core_after p (core_config m) (core_at_start image (core_of s)) (map (λ (x : Made). x.event) ms)) new.own));
    ended = end ∙ sym (ap (λ ms. ended_in ms) new.own);
    peis = subst (KeepsPeis m s) (sym own) (begins_peis m t s within new);
    actives = subst (KeepsActives m s) (sym own) (begins_actives m t s new);
    lanes = subst (KeepsClaims m s) (sym own) (begins_claims m t s new);
  };
}
  where
    ended_in : List Made → Option EndKind
    ended_in ms = slice_get (filter_map (λ (e : Event). end_in e.kind) (map (λ (x : Made). x.event) ms)) 0
