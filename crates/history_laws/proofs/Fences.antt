-- What fences leave behind, after one more event.
use Rattle.std.proofs.Common.{◌≡◌, ◌⊎◌, inl, inr, Bool, true, false, not, ◌&&◌, ◌||◌, if◌then◌else◌, List, [], ◌∷◌, ◌++◌, filter, Option, Some, None, is_none, IsTrue, refl, sym, ◌∙◌, ap, subst}
use Rattle.std.specs.List.{list_any, list_all, cons_option}
use Rattle.std.proofs.lemmas.List.{append_assoc, append-nil, same_from_push}
use Rattle.std.proofs.lemmas.List.Elements.{filter-append}
use Rattle.pei_types.specs.declared.identifiers.Actor.{Actor}
use Rattle.pei_types.specs.declared.identifiers.CoreId.{CoreId}
use Rattle.pei_types.specs.declared.identifiers.PeiId.{PeiId}
use Rattle.pei_types.specs.declared.operations.Place.TheVariants as place
use Rattle.pei_types.specs.declared.events.Event.{Event}
use Rattle.pei_types.specs.declared.events.EventKind.{EventKind}
use Rattle.pei_types.specs.declared.events.EventKind.TheVariants as event
use Rattle.pei_types.specs.declared.machines.MachineSpec.{MachineSpec}
use Rattle.pei_types.specs.Blocks.{same_core}
use Rattle.pei_types.specs.MachineState.{State, fence_of}
use Rattle.pei_types.specs.Fence.{earlier_writers_left}
use Rattle.pei_types.specs.Guard.{waits_for_none}
use Rattle.pei_types.specs.History.{Pei, issued_peis, pei_issued_by, has_left, begins_fence, ends_fence, before_fence}
use Rattle.pei_types.specs.Operation.{is_writer}
use Rattle.history_laws.specs.Members.{In}
use Rattle.history_laws.specs.TrackedPeis.{issued_by, fence_is_on, writers_awaited, Agrees}
use Rattle.history_laws.specs.Fences.{Settles, fences_rightly}
use Rattle.history_laws.proofs.Lists.{any_push, or_parts_cases, in_filter, filter_in}
use Rattle.history_laws.proofs.Grows.{issued_kept, issued_more, fence_is_on-push, before_fence_kept, before_fence_here}
use Rattle.history_laws.proofs.Agree.{left_stays}
use Rattle.history_laws.proofs.Derived.{fence_done, fence_ends_rightly}
use Rattle.std.proofs.Math.Bool.{or-false, and-false}
use Rattle.std.proofs.lemmas.Bool.{and_parts}
use Rattle.pei_types.proofs.Identities.{same_core_is}
use Rattle.pei_types.proofs.Lists.{all_true, true_all, each_weaker}

-- ---- a part of a journal ends where the journal does

-- a list is empty, or ends in an element
ends_in : (xs : List Event) → (xs ≡ []) ⊎ ((ys : List Event) × (y : Event) × (xs ≡ ys ++ y ∷ []))
ends_in [] = inl refl
ends_in (x ∷ xs) = by (ends_in xs)
  where
    by : (xs ≡ []) ⊎ ((ys : List Event) × (y : Event) × (xs ≡ ys ++ y ∷ [])) → (x ∷ xs ≡ []) ⊎ ((ys : List Event) × (y : Event) × (x ∷ xs ≡ ys ++ y ∷ []))
    by (inl e) = inr ([], x, ap (λ zs. x ∷ zs) e)
    by (inr r) = inr (x ∷ r.0, r.1, ap (λ zs. x ∷ zs) r.2)

-- of a journal that ends in x, what stands behind an event ends in x too, or the event is x
pub behind_ends : (journal front rest : List Event) (e x : Event) → journal ++ x ∷ [] ≡ front ++ e ∷ rest → ((rest ≡ []) × (x ≡ e)) ⊎ ((ys : List Event) × (rest ≡ ys ++ x ∷ []) × (journal ≡ front ++ e ∷ ys))
behind_ends journal front rest e x same = by (ends_in rest)
  where
    by : (rest ≡ []) ⊎ ((ys : List Event) × (y : Event) × (rest ≡ ys ++ y ∷ [])) → ((rest ≡ []) × (x ≡ e)) ⊎ ((ys : List Event) × (rest ≡ ys ++ x ∷ []) × (journal ≡ front ++ e ∷ ys))
    by (inl none) = inl (none, (same_from_push journal front x e (same ∙ ap (λ zs. front ++ e ∷ zs) none)).1)
    by (inr r) =
        let both = same_from_push journal (front ++ e ∷ r.0) x r.1 (same ∙ ap (λ zs. front ++ e ∷ zs) r.2 ∙ sym (append_assoc front (e ∷ r.0) (r.1 ∷ [])))
        in inr (r.0, r.2 ∙ ap (λ z. r.0 ++ z ∷ []) (sym both.1), both.0)

-- ---- one more event

-- a fence that is on after an event that begins none was on before
pub on_before : (c : CoreId) (journal : List Event) (e : Event) → begins_fence c e ≡ false → fence_is_on c (journal ++ e ∷ []) ≡ true → fence_is_on c journal ≡ true
on_before c journal e begins h = (and_parts (fence_is_on c journal) (not (ends_fence c e)) (subst (λ b. (b || fence_is_on c journal && not (ends_fence c e)) ≡ true) begins (sym (fence_is_on-push c journal e) ∙ h))).0

-- a fence that is off after an event that ends none was off before
off_before : (c : CoreId) (journal : List Event) (e : Event) → ends_fence c e ≡ false → fence_is_on c (journal ++ e ∷ []) ≡ false → fence_is_on c journal ≡ false
off_before c journal e ends h = by (begins_fence c e) (fence_is_on c journal) refl (subst (λ b. (begins_fence c e || fence_is_on c journal && not b) ≡ false) ends (sym (fence_is_on-push c journal e) ∙ h))
  where
    by : (b on : Bool) → fence_is_on c journal ≡ on → (b || on && true) ≡ false → fence_is_on c journal ≡ false
    by b false e' k = e'
    by true true e' k = absurd (cc k)
    by false true e' k = absurd (cc k)

-- writers that have left before a fence began have done so after an event that begins none
over_kept : (c : CoreId) (journal : List Event) (e : Event) → begins_fence c e ≡ false → IsTrue (earlier_writers_left journal c) → IsTrue (earlier_writers_left (journal ++ e ∷ []) c)
over_kept c journal e begins h =
    ap (λ before. list_all (λ p. not (is_writer p.op) || has_left (journal ++ e ∷ []) p.id) (issued_peis before)) (before_fence_kept c journal e begins)
    ∙ true_all (λ p. not (is_writer p.op) || has_left (journal ++ e ∷ []) p.id) (issued_peis (before_fence c journal))
    (each_weaker (λ p. (not (is_writer p.op) || has_left journal p.id) ≡ true) _ (λ p. later p (not (is_writer p.op))) (issued_peis (before_fence c journal))
    (all_true (λ p. not (is_writer p.op) || has_left journal p.id) (issued_peis (before_fence c journal)) h))
  where
    later : (p : Pei) (b : Bool) → (b || has_left journal p.id) ≡ true → (b || has_left (journal ++ e ∷ []) p.id) ≡ true
    later p true k = refl
    later p false k = left_stays journal e p.id k

-- What has settled stays so after an event that ends no fence.
settled_kept : (journal : List Event) (x : Event) → ((c : CoreId) → ends_fence c x ≡ false) → Settles journal → (c : CoreId) (front rest : List Event) (e : Event) (p : Pei) → journal ++ x ∷ [] ≡ front ++ e ∷ rest → pei_issued_by e.actor e.kind ≡ Some p → same_core p.id.core c ≡ true → is_writer p.op ≡ true → list_any (ends_fence c) rest ≡ true → has_left (journal ++ x ∷ []) p.id ≡ true
settled_kept journal x ends st c front rest e p same issue own writes ended = by (behind_ends journal front rest e x same)
  where
    by : ((rest ≡ []) × (x ≡ e)) ⊎ ((ys : List Event) × (rest ≡ ys ++ x ∷ []) × (journal ≡ front ++ e ∷ ys)) → has_left (journal ++ x ∷ []) p.id ≡ true
    by (inl none) = absurd (cc (sym ended ∙ ap (list_any (ends_fence c)) none.0))
    by (inr r) =
        left_stays journal x p.id
        (st.settled c front r.0 e p r.2 issue own writes
        (sym (ap (list_any (ends_fence c)) r.1 ∙ any_push (ends_fence c) r.0 x ∙ ap (λ b. list_any (ends_fence c) r.0 || b) (ends c) ∙ or-false (list_any (ends_fence c) r.0)) ∙ ended))

-- an event that is no issue and no fence
pub settles_kept : (journal : List Event) (x : Event) → pei_issued_by x.actor x.kind ≡ None → ((c : CoreId) → begins_fence c x ≡ false) → ((c : CoreId) → ends_fence c x ≡ false) → Settles journal → Settles (journal ++ x ∷ [])
settles_kept journal x none begins ends st =
    record {
      still = λ c on. ap (filter (λ p. same_core p.id.core c)) (issued_kept journal x none) ∙ st.still c (on_before c journal x (begins c) on) ∙ ap (issued_by c) (sym (before_fence_kept c journal x (begins c)));
      settled = settled_kept journal x ends st;
      over = λ c off. over_kept c journal x (begins c) (st.over c (off_before c journal x (ends c) off));
    }

-- a fence begins
pub settles_begin : (journal : List Event) (a : Actor) → Settles journal → Settles (journal ++ record { actor = a; kind = event.FenceBegin } ∷ [])
settles_begin journal a st =
    record {
      still = λ c on. ap (filter (λ p. same_core p.id.core c)) (issued_kept journal x refl) ∙ by c (same_core a.core c) refl on;
      settled = settled_kept journal x (λ c. and-false (same_core a.core c)) st;
      over = λ c off. ends c (same_core a.core c) refl off;
    }
  where
    x : Event
    x = record { actor = a; kind = event.FenceBegin }

    ends : (c : CoreId) (b : Bool) → same_core a.core c ≡ b → fence_is_on c (journal ++ x ∷ []) ≡ false → IsTrue (earlier_writers_left (journal ++ x ∷ []) c)
    ends c true h off = absurd (cc (sym (fence_is_on-push c journal x ∙ ap (λ b. b || fence_is_on c journal && not (ends_fence c x)) (begun c h)) ∙ off))
      where
        begun : (c : CoreId) → same_core a.core c ≡ true → begins_fence c x ≡ true
        begun c h = rw h refl
    ends c false h off = over_kept c journal x (rw h refl) (st.over c (off_before c journal x (and-false (same_core a.core c)) off))

    by : (c : CoreId) (b : Bool) → same_core a.core c ≡ b → fence_is_on c (journal ++ x ∷ []) ≡ true → issued_by c journal ≡ issued_by c (before_fence c (journal ++ x ∷ []))
    by c true h on = ap (issued_by c) (sym (before_fence_here c journal x (rw h refl)))
    by c false h on = st.still c (on_before c journal x (rw h refl) on) ∙ ap (issued_by c) (sym (before_fence_kept c journal x (rw h refl)))

waits_none_is : (o : Option (List PeiId)) → waits_for_none o ≡ true → o ≡ Some []
waits_none_is None h = absurd (cc h)
waits_none_is (Some []) h = refl
waits_none_is (Some (p ∷ ps)) h = absurd (cc h)

-- a fence ends
pub settles_end : (m : MachineSpec) (s : State) (journal : List Event) (a : Actor) → fence_of s a.core ≡ Some [] → Agrees m s journal → Settles journal → Settles (journal ++ record { actor = a; kind = event.FenceEnd } ∷ [])
settles_end m s journal a waits g st =
    record {
      still = λ c on. ap (filter (λ p. same_core p.id.core c)) (issued_kept journal x refl) ∙ st.still c (on_before c journal x (and-false (same_core a.core c)) on) ∙ ap (issued_by c) (sym (before_fence_kept c journal x (and-false (same_core a.core c))));
      settled = settled;
      over = λ c off. over c (same_core a.core c) refl off;
    }
  where
    x : Event
    x = record { actor = a; kind = event.FenceEnd }

    over : (c : CoreId) (b : Bool) → same_core a.core c ≡ b → fence_is_on c (journal ++ x ∷ []) ≡ false → IsTrue (earlier_writers_left (journal ++ x ∷ []) c)
    over c true h off =
        over_kept c journal x (and-false (same_core a.core c))
        (subst (λ d. IsTrue (earlier_writers_left journal d)) (same_core_is a.core c h) (fence_ends_rightly m s journal g a.core waits))
    over c false h off = over_kept c journal x (and-false (same_core a.core c)) (st.over c (off_before c journal x (rw h refl) off))

    split : (front rest : List Event) (e : Event) (p : Pei) → pei_issued_by e.actor e.kind ≡ Some p → In p (issued_peis (front ++ e ∷ rest))
    split [] rest e p h = rw h (inl refl)
    split (y ∷ front) rest e p h = under (pei_issued_by y.actor y.kind) (split front rest e p h)
      where
        under : (o : Option Pei) → In p (issued_peis (front ++ e ∷ rest)) → In p (cons_option o (issued_peis (front ++ e ∷ rest)))
        under None i = i
        under (Some q) i = inr i

    -- each own writer has left
    left : (p : Pei) → In p (issued_peis journal) → same_core p.id.core a.core ≡ true → is_writer p.op ≡ true → has_left journal p.id ≡ true
    left p i own writes =
        let done = fence_done m s journal g a.core waits
        in done.1 p (in_filter (λ q. same_core q.id.core a.core) (issued_peis (before_fence a.core journal)) p (subst (In p) (st.still a.core done.0) (filter_in (λ q. same_core q.id.core a.core) (issued_peis journal) p i own))).0 writes

    settled : (c : CoreId) (front rest : List Event) (e : Event) (p : Pei) → journal ++ x ∷ [] ≡ front ++ e ∷ rest → pei_issued_by e.actor e.kind ≡ Some p → same_core p.id.core c ≡ true → is_writer p.op ≡ true → list_any (ends_fence c) rest ≡ true → has_left (journal ++ x ∷ []) p.id ≡ true
    settled c front rest e p same issue own writes ended = by (behind_ends journal front rest e x same)
      where
        by : ((rest ≡ []) × (x ≡ e)) ⊎ ((ys : List Event) × (rest ≡ ys ++ x ∷ []) × (journal ≡ front ++ e ∷ ys)) → has_left (journal ++ x ∷ []) p.id ≡ true
        by (inl none) = absurd (cc (sym ended ∙ ap (list_any (ends_fence c)) none.0))
        by (inr r) = left_stays journal x p.id (go (or_parts_cases (list_any (ends_fence c) r.0) (ends_fence c x) (sym (ap (list_any (ends_fence c)) r.1 ∙ any_push (ends_fence c) r.0 x) ∙ ended)))
          where
            go : (list_any (ends_fence c) r.0 ≡ true) ⊎ (ends_fence c x ≡ true) → has_left journal p.id ≡ true
            go (inl h) = st.settled c front r.0 e p r.2 issue own writes h
            go (inr h) =
                let core : a.core ≡ c = same_core_is a.core c (and_parts (same_core a.core c) true h).0
                in left p (subst (λ ys. In p (issued_peis ys)) (sym r.2) (split front r.0 e p issue)) (subst (λ d. same_core p.id.core d ≡ true) (sym core) own) writes

-- a PEI is issued while no fence of its core is on
pub settles_issue : (journal : List Event) (x : Event) (p : Pei) → pei_issued_by x.actor x.kind ≡ Some p → p.id.core ≡ x.actor.core → ((c : CoreId) → begins_fence c x ≡ false) → ((c : CoreId) → ends_fence c x ≡ false) → fence_is_on x.actor.core journal ≡ false → Settles journal → Settles (journal ++ x ∷ [])
settles_issue journal x p issue own begins ends off st =
    record {
      still = λ c on. by c (same_core p.id.core c) refl (on_before c journal x (begins c) on);
      settled = settled_kept journal x ends st;
      over = λ c off'. over_kept c journal x (begins c) (st.over c (off_before c journal x (ends c) off'));
    }
  where
    by : (c : CoreId) (b : Bool) → same_core p.id.core c ≡ b → fence_is_on c journal ≡ true → issued_by c (journal ++ x ∷ []) ≡ issued_by c (before_fence c (journal ++ x ∷ []))
    by c true h on = absurd (cc (sym on ∙ ap (λ d. fence_is_on d journal) (sym (same_core_is p.id.core c h) ∙ own) ∙ off))
    by c false h on =
        ap (filter (λ q. same_core q.id.core c)) (issued_more journal x p issue)
        ∙ filter-append (λ q. same_core q.id.core c) (issued_peis journal) (p ∷ [])
        ∙ rw h (append-nil (issued_by c journal))
        ∙ st.still c on ∙ ap (issued_by c) (sym (before_fence_kept c journal x (begins c)))

-- ---- each event

none_is : (o : Option (List PeiId)) → is_none o ≡ true → o ≡ None
none_is None h = refl
none_is (Some ps) h = absurd (cc h)

-- a fence that the state does not have is off
pub fence_off : (m : MachineSpec) (s : State) (journal : List Event) (c : CoreId) → Agrees m s journal → fence_of s c ≡ None → fence_is_on c journal ≡ false
fence_off m s journal c g h = by (fence_is_on c journal) refl (sym (g.fences c) ∙ h)
  where
    by : (b : Bool) → fence_is_on c journal ≡ b → (if b then Some (writers_awaited c journal) else None) ≡ None → fence_is_on c journal ≡ false
    by true e k = absurd (cc k)
    by false e k = e

-- What fences leave behind holds after one more event, where a core issues nothing while its fence is on, and a fence
-- ends that waits for no writer.
pub settles_next : (m : MachineSpec) (s : State) (journal : List Event) (a : Actor) (kind : EventKind) → IsTrue (fences_rightly s a kind) → Agrees m s journal → Settles journal → Settles (journal ++ record { actor = a; kind = kind } ∷ [])
settles_next m s journal a (event.Issue seq lane o b operands) h g st =
    settles_issue journal (record { actor = a; kind = event.Issue seq lane o b operands }) (record { id = record { core = a.core; seq = seq }; lane = lane; op = o; block = b; operands = operands }) refl refl (λ c. and-false (same_core a.core c)) (λ c. and-false (same_core a.core c)) (fence_off m s journal a.core g (none_is (fence_of s a.core) h)) st
settles_next m s journal a event.FenceBegin h g st = settles_begin journal a st
settles_next m s journal a event.FenceEnd h g st = settles_end m s journal a (waits_none_is (fence_of s a.core) h) g st
settles_next m s journal a (event.Place seq place.Host) h g st = settles_kept journal (record { actor = a; kind = event.Place seq place.Host }) refl (λ c. and-false (same_core a.core c)) (λ c. and-false (same_core a.core c)) st
settles_next m s journal a (event.Place seq place.Memory) h g st = settles_kept journal (record { actor = a; kind = event.Place seq place.Memory }) refl (λ c. and-false (same_core a.core c)) (λ c. and-false (same_core a.core c)) st
settles_next m s journal a _ h g st = settles_kept journal (record { actor = a; kind = _ }) refl (λ c. and-false (same_core a.core c)) (λ c. and-false (same_core a.core c)) st

pub settles_at_start : Settles []
settles_at_start =
    record {
      still = λ c on. refl;
      settled = λ c front rest e p same. absurd (no_event front rest e same);
      over = λ c off. refl;
    }
  where
    no_event : (front rest : List Event) (e : Event) → [] ≡ front ++ e ∷ rest → ⊥
    no_event [] rest e h = absurd (cc h)
    no_event (x ∷ front) rest e h = absurd (cc h)
