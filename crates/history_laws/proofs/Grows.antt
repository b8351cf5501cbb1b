-- What one more event does to each look-up in a list of events.
use Rattle.std.proofs.Common.{◌≡◌, ℕ, ◌+◌, ◌-◌, Bool, true, false, not, ◌&&◌, ◌||◌, if◌then◌else◌, List, [], ◌∷◌, ◌++◌, map, length, take, reverse, filter, find, Some, None, refl, sym, ◌∙◌, ap, ap₂, arith}
use Rattle.std.specs.List.{list_any, before_last, prefix_len, cons_option}
use Rattle.std.proofs.lemmas.List.{take-append-le, reverse-append, length-append, append-nil}
use Rattle.std.proofs.lemmas.List.Sums.{fold-append}
use Rattle.std.proofs.lemmas.List.Folds.{find-append}
use Rattle.std.proofs.lemmas.List.Elements.{filter_agree}
use Rattle.pei_types.specs.declared.identifiers.CoreId.{CoreId}
use Rattle.pei_types.specs.declared.identifiers.PeiId.{PeiId}
use Rattle.pei_types.specs.declared.events.Event.{Event}
use Rattle.pei_types.specs.declared.events.EventKind.{EventKind}
use Rattle.pei_types.specs.declared.events.EventKind.TheVariants as event
use Rattle.pei_types.specs.Blocks.{same_core, same_pei}
use Rattle.pei_types.specs.History.{Pei, issued_peis, pei_issued_by, pei_of, phase_of, phase_after, is_about, seq_named, is_number, is_enter, is_act, is_leave, has_entered, has_acted, has_left, unfinished_peis, begins_fence, ends_fence, before_fence}
use Rattle.pei_types.specs.Operation.{is_writer}
use Rattle.pei_types.proofs.Pushes.{issued_peis-push, phase_of-push}
use Rattle.history_laws.specs.TrackedPeis.{fence_is_on, fence_in}
use Rattle.history_laws.proofs.Lists.{any_push, filter-filter}
use Rattle.pei_types.proofs.Tests.{not-or}
use Rattle.std.proofs.Math.Bool.{or-false}

pub and-true : (x : Bool) → (x && true) ≡ x
and-true true = refl
and-true false = refl

-- whether an event has a PEI leave, enter, act
abbrev pub leaves : PeiId → Event → Bool
leaves id e = same_core e.actor.core id.core && is_leave e.kind id.seq

abbrev pub enters : PeiId → Event → Bool
enters id e = same_core e.actor.core id.core && is_enter e.kind id.seq

abbrev pub acts : PeiId → Event → Bool
acts id e = same_core e.actor.core id.core && is_act e.kind id.seq

pub has_left-push : (events : List Event) (e : Event) (id : PeiId) → has_left (events ++ e ∷ []) id ≡ (has_left events id || leaves id e)
has_left-push events e id = any_push (leaves id) events e

pub has_entered-push : (events : List Event) (e : Event) (id : PeiId) → has_entered (events ++ e ∷ []) id ≡ (has_entered events id || enters id e)
has_entered-push events e id = any_push (enters id) events e

pub has_acted-push : (events : List Event) (e : Event) (id : PeiId) → has_acted (events ++ e ∷ []) id ≡ (has_acted events id || acts id e)
has_acted-push events e id = any_push (acts id) events e

pub named-push : (events : List Event) (e : Event) (id : PeiId) → list_any (is_about id) (events ++ e ∷ []) ≡ (list_any (is_about id) events || is_about id e)
named-push events e id = any_push (is_about id) events e

-- no event is about a PEI that it does not name
pub leaves_about : (kind : EventKind) (b : Bool) (n : ℕ) → (b && is_number (seq_named kind) n) ≡ false → (b && is_leave kind n) ≡ false
leaves_about kind false n h = refl
leaves_about (event.Leave seq) true n h = h
leaves_about _ true n h = refl

pub enters_about : (kind : EventKind) (b : Bool) (n : ℕ) → (b && is_number (seq_named kind) n) ≡ false → (b && is_enter kind n) ≡ false
enters_about kind false n h = refl
enters_about (event.Enter seq) true n h = h
enters_about _ true n h = refl

pub acts_about : (kind : EventKind) (b : Bool) (n : ℕ) → (b && is_number (seq_named kind) n) ≡ false → (b && is_act kind n) ≡ false
acts_about kind false n h = refl
acts_about (event.Act seq reply) true n h = h
acts_about _ true n h = refl

pub left_kept : (events : List Event) (e : Event) (id : PeiId) → leaves id e ≡ false → has_left (events ++ e ∷ []) id ≡ has_left events id
left_kept events e id h = has_left-push events e id ∙ ap (λ x. has_left events id || x) h ∙ or-false (has_left events id)

pub entered_kept : (events : List Event) (e : Event) (id : PeiId) → is_about id e ≡ false → has_entered (events ++ e ∷ []) id ≡ has_entered events id
entered_kept events e id h = has_entered-push events e id ∙ ap (λ x. has_entered events id || x) (enters_about e.kind (same_core e.actor.core id.core) id.seq h) ∙ or-false (has_entered events id)

pub acted_kept : (events : List Event) (e : Event) (id : PeiId) → is_about id e ≡ false → has_acted (events ++ e ∷ []) id ≡ has_acted events id
acted_kept events e id h = has_acted-push events e id ∙ ap (λ x. has_acted events id || x) (acts_about e.kind (same_core e.actor.core id.core) id.seq h) ∙ or-false (has_acted events id)

pub phase_kept : (events : List Event) (e : Event) (id : PeiId) → is_about id e ≡ false → phase_of (events ++ e ∷ []) id ≡ phase_of events id
phase_kept events e id h = phase_of-push events e id ∙ ap (λ b. if b then phase_after e.kind else phase_of events id) h

pub phase_set : (events : List Event) (e : Event) (id : PeiId) → is_about id e ≡ true → phase_of (events ++ e ∷ []) id ≡ phase_after e.kind
phase_set events e id h = phase_of-push events e id ∙ ap (λ b. if b then phase_after e.kind else phase_of events id) h

-- a PEI that was found is found later
pub pei_kept : (events : List Event) (e : Event) (id : PeiId) (p : Pei) → pei_of events id ≡ Some p → pei_of (events ++ e ∷ []) id ≡ Some p
pei_kept events e id p h =
    ap (find (λ q. same_pei q.id id)) (issued_peis-push events e)
    ∙ find-append (λ q. same_pei q.id id) (issued_peis events) (cons_option (pei_issued_by e.actor e.kind) [])
    ∙ rw h refl

pub issued_kept : (events : List Event) (e : Event) → pei_issued_by e.actor e.kind ≡ None → issued_peis (events ++ e ∷ []) ≡ issued_peis events
issued_kept events e h = issued_peis-push events e ∙ ap (λ o. issued_peis events ++ cons_option o []) h ∙ append-nil (issued_peis events)

pub issued_more : (events : List Event) (e : Event) (p : Pei) → pei_issued_by e.actor e.kind ≡ Some p → issued_peis (events ++ e ∷ []) ≡ issued_peis events ++ p ∷ []
issued_more events e p h = issued_peis-push events e ∙ ap (λ o. issued_peis events ++ cons_option o []) h

-- where nothing leaves, the PEIs of a list that have not left stay
pub left_none : (events : List Event) (e : Event) (ps : List Pei) → ((id : PeiId) → leaves id e ≡ false) → filter (λ p. not (has_left (events ++ e ∷ []) p.id)) ps ≡ filter (λ p. not (has_left events p.id)) ps
left_none events e ps h = filter_agree _ _ (λ p. ap not (left_kept events e p.id (h p.id))) ps

pub left_more : (events : List Event) (e : Event) (ps : List Pei) → filter (λ p. not (has_left (events ++ e ∷ []) p.id)) ps ≡ filter (λ p. not (leaves p.id e)) (filter (λ p. not (has_left events p.id)) ps)
left_more events e ps =
    filter_agree (λ p. not (has_left (events ++ e ∷ []) p.id)) (λ p. not (has_left events p.id) && not (leaves p.id e)) (λ p. ap not (has_left-push events e p.id) ∙ not-or (has_left events p.id) (leaves p.id e)) ps
    ∙ sym (filter-filter (λ p. not (leaves p.id e)) (λ p. not (has_left events p.id)) ps)

pub unfinished_kept : (events : List Event) (e : Event) → pei_issued_by e.actor e.kind ≡ None → ((id : PeiId) → leaves id e ≡ false) → unfinished_peis (events ++ e ∷ []) ≡ unfinished_peis events
unfinished_kept events e i h = ap (filter (λ p. not (has_left (events ++ e ∷ []) p.id))) (issued_kept events e i) ∙ left_none events e (issued_peis events) h

pub unfinished_left : (events : List Event) (e : Event) → pei_issued_by e.actor e.kind ≡ None → unfinished_peis (events ++ e ∷ []) ≡ filter (λ p. not (leaves p.id e)) (unfinished_peis events)
unfinished_left events e i = ap (filter (λ p. not (has_left (events ++ e ∷ []) p.id))) (issued_kept events e i) ∙ left_more events e (issued_peis events)

-- ---- fences

pub before_last_other : (p : Event → Bool) (xs : List Event) (x : Event) → p x ≡ false → before_last p (xs ++ x ∷ []) ≡ before_last p xs
before_last_other p xs x h =
    let k : ℕ = prefix_len (λ y. not (p y)) (reverse xs)
    in let same : prefix_len (λ y. not (p y)) (reverse (xs ++ x ∷ [])) ≡ 1 + k = ap (prefix_len (λ y. not (p y))) (reverse-append xs (x ∷ [])) ∙ rw h refl
    in let n : length (xs ++ x ∷ []) - prefix_len (λ y. not (p y)) (reverse (xs ++ x ∷ [])) - 1 ≡ length xs - k - 1 = rw (same, length-append xs (x ∷ [])) (omega arith)
    in ap (λ j. take j (xs ++ x ∷ [])) n ∙ take-append-le (length xs - k - 1) xs (x ∷ []) (omega arith)

pub before_last_same : (p : Event → Bool) (xs : List Event) (x : Event) → p x ≡ true → before_last p (xs ++ x ∷ []) ≡ xs
before_last_same p xs x h =
    let same : prefix_len (λ y. not (p y)) (reverse (xs ++ x ∷ [])) ≡ 0 = ap (prefix_len (λ y. not (p y))) (reverse-append xs (x ∷ [])) ∙ rw h refl
    in let n : length (xs ++ x ∷ []) - prefix_len (λ y. not (p y)) (reverse (xs ++ x ∷ [])) - 1 ≡ length xs = rw (same, length-append xs (x ∷ [])) (omega arith)
    in ap (λ j. take j (xs ++ x ∷ [])) n ∙ take-append-le (length xs) xs (x ∷ []) (omega arith) ∙ take_whole xs
  where
    take_whole : (ys : List Event) → take (length ys) ys ≡ ys
    take_whole [] = refl
    take_whole (y ∷ ys) = ap (λ zs. y ∷ zs) (take_whole ys)

pub fence_is_on-push : (c : CoreId) (events : List Event) (e : Event) → fence_is_on c (events ++ e ∷ []) ≡ (begins_fence c e || fence_is_on c events && not (ends_fence c e))
fence_is_on-push c events e = fold-append (λ on x. begins_fence c x || on && not (ends_fence c x)) false events (e ∷ [])

pub before_fence_kept : (c : CoreId) (events : List Event) (e : Event) → begins_fence c e ≡ false → before_fence c (events ++ e ∷ []) ≡ before_fence c events
before_fence_kept c events e h = before_last_other (begins_fence c) events e h

pub before_fence_here : (c : CoreId) (events : List Event) (e : Event) → begins_fence c e ≡ true → before_fence c (events ++ e ∷ []) ≡ events
before_fence_here c events e h = before_last_same (begins_fence c) events e h

pub fence_kept : (c : CoreId) (events : List Event) (e : Event) → begins_fence c e ≡ false → ends_fence c e ≡ false → ((id : PeiId) → leaves id e ≡ false) → fence_in c (events ++ e ∷ []) ≡ fence_in c events
fence_kept c events e begins ends leave =
    ap₂ (λ on ws. if on then Some ws else None)
    (fence_is_on-push c events e ∙ rw (begins, ends) (and-true (fence_is_on c events)))
    (ap (λ ps. map (λ p. p.id) (filter (λ p. is_writer p.op) (filter (λ p. not (has_left (events ++ e ∷ []) p.id)) (issued_peis ps)))) (before_fence_kept c events e begins)
    ∙ ap (λ ps. map (λ p. p.id) (filter (λ p. is_writer p.op) ps)) (left_none events e (issued_peis (before_fence c events)) leave))
