-- The line of an event: its core, its lane, and what happened.
use Rattle.std.proofs.Common.{◌≡◌, ℕ, List, [], ◌∷◌, ◌++◌, decimal, sym, ◌∙◌, ap}
use Rattle.std.proofs.lemmas.List.{append_assoc}
use Rattle.pei_types.specs.declared.events.Event.{Event}
use Rattle.pei_types.specs.Texts.{actor_word, event_line, event_words}
use Rattle.journal.specs.Words.{args_of, name_of, words_then}
use Rattle.journal.proofs.Leading.{line_then}
use Rattle.journal.proofs.Naming.{named_words}

pub event_then : (e : Event) (more : List ℕ) → event_line e ++ more ≡ decimal e.actor.core.0 ++ 46 ∷ (decimal e.actor.lane.0 ++ 32 ∷ words_then (event_words e.kind) more)
event_then e more =
    line_then (actor_word e.actor) (event_words e.kind) more
    ∙ ap (λ words. words_then (actor_word e.actor ∷ words) more) (named_words e.kind)
    ∙ append_assoc (decimal e.actor.core.0 ++ 46 ∷ []) (decimal e.actor.lane.0) (32 ∷ words_then (name_of e.kind ∷ args_of e.kind) more)
    ∙ append_assoc (decimal e.actor.core.0) (46 ∷ []) (decimal e.actor.lane.0 ++ 32 ∷ words_then (name_of e.kind ∷ args_of e.kind) more)
    ∙ ap (λ words. decimal e.actor.core.0 ++ 46 ∷ (decimal e.actor.lane.0 ++ 32 ∷ words_then words more)) (sym (named_words e.kind))
