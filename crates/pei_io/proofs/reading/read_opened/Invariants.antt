use Rattle.std.proofs.Common.{◌≡◌, ◌<◌, ◌≤◌, ◌+◌, length}
use Rattle.pei_io.specs.Outside.{LeavesOthers}
use Rattle.pei_io.proofs.Progress.{ReadSoFar}
use Rattle.pei_io.proofs.reading.read_opened.Given as goal

abbrev pub invariant-loop-count : goal.invariant-loop-count
invariant-loop-count g l = record {
  some : 0 < l.room;
  room : l.room + length l.bytes.items ≡ l.limit + 1;
  taken : g.F.Files.taken l.files l.which ≡ length l.bytes.items;
  read : ReadSoFar l.bytes.items (g.F.Files.left l.initial.files l.which) (g.F.Files.left l.files l.which);
  named : g.F.Files.name l.files l.which ≡ g.F.Files.name l.initial.files l.which;
  reads : g.F.Files.reads l.files + l.room ≤ g.F.Files.reads l.initial.files + (l.limit + 1);
  rising : g.F.Files.faults l.initial.files l.which ≤ g.F.Files.faults l.files l.which;
  others : LeavesOthers g.F.Files.held g.F.Files.left g.F.Files.name g.F.Files.taken g.F.Files.faults l.which l.initial.files l.files;
}

abbrev pub decreases-loop-count : goal.decreases-loop-count
decreases-loop-count g l = l.room
