-- Laws of traces.
use Rattle.std.specs.Prelude.{◌≡◌, ℕ, true, List, ◌++◌}
use Rattle.pei_types.specs.declared.events.Event.{Event}
use Rattle.pei_types.specs.Texts.{event_line}
use Rattle.journal.specs.Traces.{IsTrace, in_ranges}

-- A line that stands first in a text is that of one event in the ranges of a trace, and a text is the trace of at most one
-- journal.
pub record TracesAreApart : Type 0 where
  pub one_event : (e other : Event) (more behind : List ℕ) → in_ranges e ≡ true → in_ranges other ≡ true → event_line e ++ more ≡ event_line other ++ behind → (e ≡ other) × (more ≡ behind)
  pub one_journal : (text : List ℕ) (journal other : List Event) → IsTrace text journal → IsTrace text other → journal ≡ other
