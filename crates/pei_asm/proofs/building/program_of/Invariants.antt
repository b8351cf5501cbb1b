use Rattle.std.proofs.Common.{◌≡◌, ◌≤◌, drop, map, fold, length}
use Rattle.std.specs.Prelude.{filter_map}
use Rattle.pei_asm.specs.Items.{with_item}
use Rattle.pei_asm.specs.Places.{item_on, place_or_start}
use Rattle.pei_asm.specs.Sources.{line_of}
use Rattle.pei_asm.specs.Meaning.{program_of}
use Rattle.pei_asm.specs.Stored.{stored}
use Rattle.pei_asm.proofs.building.program_of.Given as goal

abbrev pub invariant-loop-line : goal.invariant-loop-line
invariant-loop-line l =
    record {
      left : fold with_item l.program (filter_map (item_on (place_or_start (stored l.lines))) (map line_of (drop l.line-index l.line-items))) ≡ program_of (stored l.lines);
      few : length l.program.lines ≤ l.line-index;
    }
