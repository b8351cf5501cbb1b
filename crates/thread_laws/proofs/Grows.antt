-- What one more event does to each look-up in a log.
use Rattle.std.proofs.Common.{◌≡◌, Bool, true, false, not, ◌&&◌, ◌||◌, if◌then◌else◌, List, [], ◌∷◌, ◌++◌, filter, find, Some, None, refl, sym, ◌∙◌, ap}
use Rattle.std.specs.List.{cons_option}
use Rattle.std.proofs.lemmas.List.{append-nil}
use Rattle.std.proofs.lemmas.List.Folds.{find-append}
use Rattle.std.proofs.lemmas.List.Elements.{filter_agree}
use Rattle.std.proofs.Math.Bool.{or-false}
use Rattle.pei_types.specs.declared.identifiers.PeiId.{PeiId}
use Rattle.pei_types.specs.declared.events.Event.{Event}
use Rattle.pei_types.specs.Blocks.{same_core, same_pei}
use Rattle.pei_types.specs.History.{Pei, issued_peis, pei_issued_by, pei_of, phase_of, phase_after, is_about, is_act, has_entered, has_acted, has_left, unfinished_peis}
use Rattle.pei_types.proofs.Pushes.{issued_peis-push, phase_of-push}
use Rattle.pei_types.proofs.Tests.{not-or}
use Rattle.bank_laws.specs.Across.{enters, leaves}
use Rattle.history_laws.proofs.Grows.{enters_about, acts_about}
use Rattle.history_laws.proofs.Lists.{any_push, filter-filter}

abbrev pub acts : PeiId → Event → Bool
acts id e = same_core e.actor.core id.core && is_act e.kind id.seq

pub has_left-push : (log : List Event) (e : Event) (id : PeiId) → has_left (log ++ e ∷ []) id ≡ (has_left log id || leaves id e)
has_left-push log e id = any_push (leaves id) log e

pub has_entered-push : (log : List Event) (e : Event) (id : PeiId) → has_entered (log ++ e ∷ []) id ≡ (has_entered log id || enters id e)
has_entered-push log e id = any_push (enters id) log e

pub has_acted-push : (log : List Event) (e : Event) (id : PeiId) → has_acted (log ++ e ∷ []) id ≡ (has_acted log id || acts id e)
has_acted-push log e id = any_push (acts id) log e

-- no event is about a PEI that it does not name
pub left_kept : (log : List Event) (e : Event) (id : PeiId) → leaves id e ≡ false → has_left (log ++ e ∷ []) id ≡ has_left log id
left_kept log e id h = has_left-push log e id ∙ ap (λ x. has_left log id || x) h ∙ or-false (has_left log id)

pub entered_kept : (log : List Event) (e : Event) (id : PeiId) → is_about id e ≡ false → has_entered (log ++ e ∷ []) id ≡ has_entered log id
entered_kept log e id h = has_entered-push log e id ∙ ap (λ x. has_entered log id || x) (enters_about e.kind (same_core e.actor.core id.core) id.seq h) ∙ or-false (has_entered log id)

pub acted_kept : (log : List Event) (e : Event) (id : PeiId) → is_about id e ≡ false → has_acted (log ++ e ∷ []) id ≡ has_acted log id
acted_kept log e id h = has_acted-push log e id ∙ ap (λ x. has_acted log id || x) (acts_about e.kind (same_core e.actor.core id.core) id.seq h) ∙ or-false (has_acted log id)

pub phase_kept : (log : List Event) (e : Event) (id : PeiId) → is_about id e ≡ false → phase_of (log ++ e ∷ []) id ≡ phase_of log id
phase_kept log e id h = phase_of-push log e id ∙ ap (λ b. if b then phase_after e.kind else phase_of log id) h

pub phase_set : (log : List Event) (e : Event) (id : PeiId) → is_about id e ≡ true → phase_of (log ++ e ∷ []) id ≡ phase_after e.kind
phase_set log e id h = phase_of-push log e id ∙ ap (λ b. if b then phase_after e.kind else phase_of log id) h

pub pei_more : (log : List Event) (e : Event) (id : PeiId) → pei_of (log ++ e ∷ []) id ≡ find (λ q. same_pei q.id id) (issued_peis log ++ cons_option (pei_issued_by e.actor e.kind) [])
pei_more log e id = ap (find (λ q. same_pei q.id id)) (issued_peis-push log e)

-- a PEI that was found is found later, and one that is not found was not found before
pub pei_kept : (log : List Event) (e : Event) (id : PeiId) (p : Pei) → pei_of log id ≡ Some p → pei_of (log ++ e ∷ []) id ≡ Some p
pei_kept log e id p h =
    pei_more log e id ∙ find-append (λ q. same_pei q.id id) (issued_peis log) (cons_option (pei_issued_by e.actor e.kind) [])
    ∙ rw h refl

pub issued_kept : (log : List Event) (e : Event) → pei_issued_by e.actor e.kind ≡ None → issued_peis (log ++ e ∷ []) ≡ issued_peis log
issued_kept log e h = issued_peis-push log e ∙ ap (λ o. issued_peis log ++ cons_option o []) h ∙ append-nil (issued_peis log)

pub issued_more : (log : List Event) (e : Event) (p : Pei) → pei_issued_by e.actor e.kind ≡ Some p → issued_peis (log ++ e ∷ []) ≡ issued_peis log ++ p ∷ []
issued_more log e p h = issued_peis-push log e ∙ ap (λ o. issued_peis log ++ cons_option o []) h

-- where nothing leaves, the PEIs of a list that have not left stay
pub left_none : (log : List Event) (e : Event) (ps : List Pei) → ((id : PeiId) → leaves id e ≡ false) → filter (λ p. not (has_left (log ++ e ∷ []) p.id)) ps ≡ filter (λ p. not (has_left log p.id)) ps
left_none log e ps h = filter_agree _ _ (λ p. ap not (left_kept log e p.id (h p.id))) ps

left_more : (log : List Event) (e : Event) (ps : List Pei) → filter (λ p. not (has_left (log ++ e ∷ []) p.id)) ps ≡ filter (λ p. not (leaves p.id e)) (filter (λ p. not (has_left log p.id)) ps)
left_more log e ps =
    filter_agree (λ p. not (has_left (log ++ e ∷ []) p.id)) (λ p. not (has_left log p.id) && not (leaves p.id e)) (λ p. ap not (has_left-push log e p.id) ∙ not-or (has_left log p.id) (leaves p.id e)) ps
    ∙ sym (filter-filter (λ p. not (leaves p.id e)) (λ p. not (has_left log p.id)) ps)

pub unfinished_kept : (log : List Event) (e : Event) → pei_issued_by e.actor e.kind ≡ None → ((id : PeiId) → leaves id e ≡ false) → unfinished_peis (log ++ e ∷ []) ≡ unfinished_peis log
unfinished_kept log e i h = ap (filter (λ p. not (has_left (log ++ e ∷ []) p.id))) (issued_kept log e i) ∙ left_none log e (issued_peis log) h

pub unfinished_left : (log : List Event) (e : Event) → pei_issued_by e.actor e.kind ≡ None → unfinished_peis (log ++ e ∷ []) ≡ filter (λ p. not (leaves p.id e)) (unfinished_peis log)
unfinished_left log e i = ap (filter (λ p. not (has_left (log ++ e ∷ []) p.id))) (issued_kept log e i) ∙ left_more log e (issued_peis log)
