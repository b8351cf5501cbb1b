-- The statistics, as a list.
use Rattle.std.specs.Prelude.{ℕ, List, [], ◌∷◌, codes}
use Rattle.pei_types.specs.Texts.{stat_line}
use Rattle.journal.specs.declared.stats.Stats.{Stats}

-- the line of a name and a count
abbrev pub row_line : List ℕ × ℕ → List ℕ
row_line row = stat_line row.0 row.1

-- names and counts, in the order of the report
abbrev pub rows_of : Stats → List (List ℕ × ℕ)
rows_of s =
    (codes "events", s.events) ∷ (codes "loads", s.loads) ∷ (codes "stores", s.stores) ∷ (codes "issues", s.issues) ∷ (codes "host", s.host) ∷ (codes "memory", s.memory) ∷ (codes "reads", s.reads) ∷ (codes "seals", s.seals) ∷ (codes "acts", s.acts) ∷ (codes "fences", s.fences) ∷ (codes "races", s.races) ∷ (codes "inv", s.inv) ∷ (codes "down", s.down) ∷ (codes "evict1", s.evict1) ∷ (codes "clean", s.clean) ∷ (codes "evict2", s.evict2) ∷ (codes "fill", s.fill) ∷ (codes "grants", s.grants) ∷ (codes "grante", s.grante) ∷ (codes "grantm", s.grantm) ∷ []
