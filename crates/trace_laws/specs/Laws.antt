-- Laws of traces and their first bad lines.
use Rattle.std.specs.Prelude.{◌≡◌, ℕ, List}
use Rattle.pei_types.specs.declared.events.Event.{Event}
use Rattle.journal.specs.Traces.{IsFirstBad, IsTrace}

-- A text is never both the trace of a journal and one with a first bad line, and its first bad line has one number.
pub record TracesHaveNoBadLine : Type 0 where
  pub never_both : (text : List ℕ) (journal : List Event) (line : ℕ) → IsTrace text journal → IsFirstBad text line → ⊥
  pub one_line : (text : List ℕ) (line other : ℕ) → IsFirstBad text line → IsFirstBad text other → line ≡ other
