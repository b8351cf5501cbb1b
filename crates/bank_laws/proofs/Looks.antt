-- What a core knows of itself, by its own events.
use Rattle.std.proofs.Common.{◌≡◌, ℕ, zero, suc, ◌<◌, true, false, not, ◌&&◌, ◌||◌, List, [], ◌∷◌, ◌++◌, get_or, None, is_none, refl, sym, ◌∙◌, ap, subst, is_some, Some}
use Rattle.std.specs.Prelude.{IfSome, replicate, Option}
use Rattle.std.specs.List.{AllByRecursion}
use Rattle.std.proofs.lemmas.List.Sums.{fold-append}
use Rattle.pei_types.specs.declared.identifiers.CoreId.{CoreId}
use Rattle.pei_types.specs.declared.identifiers.PeiId.{PeiId}
use Rattle.pei_types.specs.declared.events.Event.{Event}
use Rattle.pei_types.specs.declared.events.EventKind.{EventKind}
use Rattle.pei_types.specs.declared.events.EventKind.TheVariants as event
use Rattle.pei_types.specs.declared.machines.MachineSpec.{MachineSpec}
use Rattle.pei_types.specs.Blocks.{same_core}
use Rattle.pei_types.specs.MachineState.{State, state_after, fence_of, unfinished_writers}
use Rattle.pei_types.specs.History.{pei_issued_by, begins_fence, ends_fence}
use Rattle.pei_types.proofs.Pushes.{state_after-push}
use Rattle.history_laws.specs.TrackedPeis.{fence_is_on}
use Rattle.bank_laws.specs.Rows.{bank_look, without_waits}
use Rattle.bank_laws.proofs.Cores.{peis_after, fence_after}
use Rattle.bank_laws.proofs.Histories.{journal_induction}
use Rattle.bank_laws.proofs.Peis.{each_next, fences_next}
use Rattle.bank_laws.proofs.Sizes.{sizes_after}

no_fence : (n i : ℕ) → is_none (get_or (replicate {A = Option (List PeiId)} n None) i None) ≡ true
no_fence zero i = refl
no_fence (suc n) zero = refl
no_fence (suc n) (suc i) = no_fence n i

pub fence_known : (m : MachineSpec) (own : List Event) (c : CoreId) → c.0 < m.cores → is_some (bank_look m (state_after m own) c).fence ≡ fence_is_on c own
fence_known m own c within = is_on (fence_of (state_after m own) c) ∙ journal_induction (λ events. not (is_none (fence_of (state_after m events) c)) ≡ fence_is_on c events) (ap not (no_fence m.cores c.0)) next own
  where
    is_on : (o : Option (List PeiId)) → is_some (without_waits o) ≡ not (is_none o)
    is_on None = refl
    is_on (Some ws) = refl

    next : (before : List Event) (e : Event) → not (is_none (fence_of (state_after m before) c)) ≡ fence_is_on c before → not (is_none (fence_of (state_after m (before ++ e ∷ [])) c)) ≡ fence_is_on c (before ++ e ∷ [])
    next before e h =
        let s : State = state_after m before
        in ap (λ (t : State). not (is_none (fence_of t c))) (state_after-push m before e)
        ∙ ap (λ fs. not (is_none (get_or fs c.0 None))) (fences_next m s e.actor e.kind)
        ∙ fence_after c e.actor e.kind (unfinished_writers s) s.fences (subst (λ n. c.0 < n) (sym (sizes_after m before).fences) within)
        ∙ ap (λ b. begins_fence c e || b && not (ends_fence c e)) h
        ∙ sym (fold-append (λ on x. begins_fence c x || on && not (ends_fence c x)) false before (e ∷ []))

-- own events leave own PEIs alone
pub own_peis_only : (m : MachineSpec) (own : List Event) (c : CoreId) → AllByRecursion (λ e. same_core e.actor.core c ≡ true) own → AllByRecursion (λ p. same_core p.id.core c ≡ true) (state_after m own).peis
own_peis_only m own c all = journal_induction (λ events. AllByRecursion (λ e. same_core e.actor.core c ≡ true) events → AllByRecursion (λ p. same_core p.id.core c ≡ true) (state_after m events).peis) (λ h. tt) next own all
  where
    front : (xs : List Event) (e : Event) → AllByRecursion (λ x. same_core x.actor.core c ≡ true) (xs ++ e ∷ []) → AllByRecursion (λ x. same_core x.actor.core c ≡ true) xs × (same_core e.actor.core c ≡ true)
    front [] e h = (tt, h.0)
    front (x ∷ xs) e h = let r = front xs e h.1 in ((h.0, r.0), r.1)

    new : (e : Event) → same_core e.actor.core c ≡ true → (kind : EventKind) → IfSome (pei_issued_by e.actor kind) (λ p. same_core p.id.core c ≡ true)
    new e h (event.Issue seq lane o b operands) = h
    new e h _ = tt

    next : (before : List Event) (e : Event) → (AllByRecursion (λ x. same_core x.actor.core c ≡ true) before → AllByRecursion (λ p. same_core p.id.core c ≡ true) (state_after m before).peis) → AllByRecursion (λ x. same_core x.actor.core c ≡ true) (before ++ e ∷ []) → AllByRecursion (λ p. same_core p.id.core c ≡ true) (state_after m (before ++ e ∷ [])).peis
    next before e h each =
        let r = front before e each
        in subst (AllByRecursion (λ p. same_core p.id.core c ≡ true)) (sym (peis_after m before e)) (each_next (λ p. same_core p.id.core c ≡ true) e.actor e.kind (state_after m before).peis (h r.0) (new e r.1 e.kind))
