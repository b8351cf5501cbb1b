use Rattle.std.proofs.Common.{◌≡◌, ◌≤◌, take}
use Rattle.trace_check.specs.CheckedFront.{Follows}
use Rattle.trace_check.proofs.checking.check.Given as goal

-- the checker has followed the events so far, which are no more than the machine's
abbrev pub invariant-loop-i : goal.invariant-loop-i
invariant-loop-i l = record {
  machine : l.checker.machine ≡ l.spec;
  short : l.i ≤ l.spec.events;
  follows : Follows l.program l.spec l.image (take l.i l.journal.events) l.checker;
}
