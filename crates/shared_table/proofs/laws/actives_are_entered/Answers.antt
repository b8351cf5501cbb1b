use Rattle.std.proofs.Common.{◌≡◌, ℕ, Bool, true, false, List, [], ◌∷◌, map, filter_map, if◌then◌else◌, Option, Some, None, refl, ap, ◌∙◌}
use Rattle.std.specs.List.{cons_option}
use Rattle.std.specs.Prelude.{option_map}
use Rattle.pei_types.specs.declared.identifiers.Actor.{Actor}
use Rattle.pei_types.specs.declared.identifiers.PeiId.{PeiId}
use Rattle.pei_types.specs.declared.events.Event.{Event}
use Rattle.pei_types.specs.declared.events.EventKind.{EventKind}
use Rattle.pei_types.specs.declared.events.EventKind.TheVariants as event
use Rattle.pei_types.specs.History.{Pei, entering, has_left, pei_of}
use Rattle.shared_table.specs.Actives.{active_in, active_pei, entered_by, issued_active, unless_left}
use Rattle.shared_table.proofs.laws.actives_are_entered.Goals as goal

-- one event
same_of : (entries : ℕ) (o : Option Pei) → issued_active entries o ≡ option_map (active_pei entries) o
same_of entries None = refl
same_of entries (Some p) = refl

same_by : (entries : ℕ) (log : List Event) (a : Actor) (kind : EventKind) → entered_by entries log a kind ≡ option_map (active_pei entries) (entering log a kind)
same_by entries log a (event.Enter seq) = by (has_left log (record { core = a.core; seq = seq }))
  where
    by : (t : Bool) → (if t then None else issued_active entries (pei_of log (record { core = a.core; seq = seq }))) ≡ option_map (active_pei entries) (if t then None else pei_of log (record { core = a.core; seq = seq }))
    by true = refl
    by false = same_of entries (pei_of log (record { core = a.core; seq = seq }))
same_by entries log a _ = refl

-- all of them
same_map : {A B C : Type 0} (f : B → C) (g : A → Option B) (h : A → Option C) → ((x : A) → h x ≡ option_map f (g x)) → (xs : List A) → filter_map h xs ≡ map f (filter_map g xs)
same_map f g h same [] = refl
same_map {B = B} f g h same (x ∷ xs) = ap (λ o. cons_option o (filter_map h xs)) (same x) ∙ by (g x) (same_map f g h same xs)
  where
    by : (o : Option B) → filter_map h xs ≡ map f (filter_map g xs) → cons_option (option_map f o) (filter_map h xs) ≡ map f (cons_option o (filter_map g xs))
    by None rest = rest
    by (Some y) rest = ap (λ ys. f y ∷ ys) rest

pub returns : goal.returns
returns c entries log = same_map (active_pei entries) (λ (e : Event). entering log e.actor e.kind) (λ (e : Event). entered_by entries log e.actor e.kind) (λ e. same_by entries log e.actor e.kind) log
