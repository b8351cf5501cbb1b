-- Logs each of whose events is its PEI's next.
use Rattle.std.proofs.Common.{◌≡◌, true, List, [], ◌∷◌, ◌++◌, map, filter, find, Option, Some, None, refl, sym, ◌∙◌, ap, subst}
use Rattle.std.proofs.lemmas.List.{append_assoc, append-nil}
use Rattle.pei_types.specs.declared.inflight_looks.PeiLook.{PeiLook}
use Rattle.pei_types.specs.declared.identifiers.PeiId.{PeiId}
use Rattle.pei_types.specs.declared.events.Event.{Event}
use Rattle.pei_types.specs.declared.machines.MachineSpec.{MachineSpec}
use Rattle.pei_types.specs.MachineState.{state_after}
use Rattle.pei_types.specs.History.{active_peis, has_entered, has_left, phase_of}
use Rattle.pei_types.specs.Legal.{EachEvent, EachFrom}
use Rattle.pei_types.proofs.Histories.{from_of_each}
use Rattle.pei_types.proofs.Lists.{each_weaker}
use Rattle.history_laws.specs.TrackedPeis.{as_issued, is_past_issue, IsTracked}
use Rattle.bank_laws.specs.Laws.{CoresGoOn}
use Rattle.bank_laws.specs.Own.{next_peis}
use Rattle.shared_table.specs.Orderly.{Continues}
use Rattle.pei_types.specs.Blocks.{same_pei}
use Rattle.pei_types.proofs.Identities.{same_pei_is}
use Rattle.thread_laws.proofs.Tracks.{Tracks, tracks_step}
use Rattle.history_laws.proofs.Lists.{each_of, filter-map, filter_agree_each, find_Some}

-- What holds at the start, and after each event where it held before, holds in the end.
pub log_induction : (P : List Event → Event → Type 0) (G : List Event → Type 0) → G [] → ((before : List Event) (e : Event) → P before e → G before → G (before ++ e ∷ [])) → (log : List Event) → EachEvent P log → G log
log_induction P G start step log each = go [] log (from_of_each P log each) start
  where
    go : (past rest : List Event) → EachFrom P past rest → G past → G (past ++ rest)
    go past [] h g = subst G (sym (append-nil past)) g
    go past (e ∷ rest) h g = subst G (append_assoc past (e ∷ []) rest) (go (past ++ e ∷ []) rest h.1 (step past e h.0 g))

abbrev pub TracksState : MachineSpec → List Event → Type 0
TracksState m log = Tracks log (state_after m log).peis

tracks_none : Tracks [] []
tracks_none = record { unfinished = refl; tracked = tt; named = λ id h. refl; gone = λ id h. absurd (cc h) }

pub tracks_start : (m : MachineSpec) → TracksState m []
tracks_start m = tracks_none

pub tracks_next : CoresGoOn → (m : MachineSpec) (log : List Event) (e : Event) → Continues log e → TracksState m log → TracksState m (log ++ e ∷ [])
tracks_next cores m log e h g = subst (Tracks (log ++ e ∷ [])) (sym (cores.peis m log e)) (tracks_step log (state_after m log).peis e.actor e.kind h.0 h.1 g)

pub log_tracks : CoresGoOn → (m : MachineSpec) (log : List Event) → EachEvent Continues log → TracksState m log
log_tracks cores m log each = log_induction Continues (TracksState m) (tracks_start m) (tracks_next cores m) log each

pub active_are : (log : List Event) (ls : List PeiLook) → Tracks log ls → active_peis log ≡ map as_issued (filter is_past_issue ls)
active_are log ls g =
    ap (filter (λ p. has_entered log p.id)) g.unfinished
    ∙ filter-map (λ p. has_entered log p.id) as_issued ls
    ∙ ap (map as_issued) (filter_agree_each (λ l. has_entered log l.id) is_past_issue ls (each_weaker (IsTracked log) (λ l. has_entered log l.id ≡ is_past_issue l) (λ l t. t.entered) ls g.tracked))

-- a PEI that has left is not on its way
pub left_is_gone : (log : List Event) (ls : List PeiLook) (id : PeiId) → Tracks log ls → has_left log id ≡ true → find (λ p. same_pei p.id id) ls ≡ None
left_is_gone log ls id g left = by (find (λ p. same_pei p.id id) ls) refl
  where
    by : (o : Option PeiLook) → find (λ p. same_pei p.id id) ls ≡ o → find (λ p. same_pei p.id id) ls ≡ None
    by None e = e
    by (Some l) e =
        let seen = find_Some (λ p. same_pei p.id id) ls l e
        in absurd (cc (sym (each_of (IsTracked log) ls l g.tracked seen.0).stands ∙ ap (phase_of log) (same_pei_is l.id id seen.1) ∙ g.gone id left))

-- some PEIs are on their way after each such log, whatever the machine
pub tracked_anywhere : (log : List Event) → EachEvent Continues log → (ls : List PeiLook) × Tracks log ls
tracked_anywhere log each = log_induction Continues (λ past. (ls : List PeiLook) × Tracks past ls) ([], tracks_none) step log each
  where
    step : (before : List Event) (e : Event) → Continues before e → (ls : List PeiLook) × Tracks before ls → (ls : List PeiLook) × Tracks (before ++ e ∷ []) ls
    step before e h g = (next_peis e.actor e.kind g.0, tracks_step before g.0 e.actor e.kind h.0 h.1 g.1)

pub every_log : (G : List Event → Type 0) → G [] → ((before : List Event) (e : Event) → G before → G (before ++ e ∷ [])) → (log : List Event) → G log
every_log G start step log = log_induction (λ before e. Unit {0}) G start (λ before e _ g. step before e g) log (λ before rest e same. tt)
