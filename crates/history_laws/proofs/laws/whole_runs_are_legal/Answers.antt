use Rattle.history_laws.proofs.WholeRuns.{whole_at_start, whole_turn, whole_runs_rows, whole_runs_legal, whole_runs_sound, entry_free, held_enters_free}
use Rattle.history_laws.proofs.laws.whole_runs_are_legal.Goals as goal

pub returns : goal.returns
returns c =
    record {
      start = whole_at_start;
      step = λ p m image r a actor room run. whole_turn p m image r a (actor, room) run;
      legal = whole_runs_legal;
      sound = λ p m image policy n chooses. (whole_runs_sound p m image policy n chooses).run;
      rows = whole_runs_rows;
      counts = λ p m image policy n chooses. (whole_runs_sound p m image policy n chooses).holding;
      free = entry_free;
      enters = held_enters_free;
    }
