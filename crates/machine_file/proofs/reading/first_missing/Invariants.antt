use Rattle.std.proofs.Common.{◌≡◌, drop, map, find}
use Rattle.toml.specs.View.{table_view}
use Rattle.machine_file.specs.Keys.{row_of}
use Rattle.machine_file.specs.Machine.{is_missing}
use Rattle.machine_file.proofs.reading.first_missing.Given as goal

abbrev pub invariant-loop-key : goal.invariant-loop-key
invariant-loop-key l = find (is_missing (table_view l.table)) (map row_of (drop l.key-index l.keys)) ≡ find (is_missing (table_view l.table)) (map row_of l.keys)
