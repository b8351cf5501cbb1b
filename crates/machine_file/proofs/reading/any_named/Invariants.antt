use Rattle.std.proofs.Common.{◌≡◌, drop, map}
use Rattle.std.specs.List.{list_any}
use Rattle.std.specs.Str.{bytes_eq}
use Rattle.machine_file.specs.Keys.{row_of}
use Rattle.machine_file.proofs.reading.any_named.Given as goal

abbrev pub invariant-loop-key : goal.invariant-loop-key
invariant-loop-key l = list_any (λ r. bytes_eq r.name l.name) (map row_of (drop l.key-index l.keys)) ≡ list_any (λ r. bytes_eq r.name l.name) (map row_of l.keys)
