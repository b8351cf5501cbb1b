use Rattle.std.proofs.Common.{◌≡◌, drop}
use Rattle.kernel_text.specs.Readings.{may_end}
use Rattle.kernel_text.proofs.agenda.Agenda.may_end.Given as goal

abbrev pub invariant-loop-wanted : goal.invariant-loop-wanted
invariant-loop-wanted l = may_end (drop l.wanted-index l.wanted-items) ≡ may_end l.wanted-items
