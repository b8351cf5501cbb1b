use Rattle.std.proofs.Common.{◌≡◌, ◌++◌, ◌≤◌, drop, length, reverse}
use Rattle.kernel_text.proofs.agenda.Agenda.want.Given as goal

abbrev pub invariant-loop-left : goal.invariant-loop-left
invariant-loop-left l =
    record {
      within : l.left ≤ length l.phrase;
      stacked : reverse l.self-inside.items.items ≡ drop l.left l.phrase ++ reverse l.initial.self-inside.items.items;
    }

abbrev pub decreases-loop-left : goal.decreases-loop-left
decreases-loop-left l = l.left
