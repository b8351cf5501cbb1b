use Rattle.std.proofs.Common.{◌≡◌, [], drop}
use Rattle.pei_types.specs.Image.{lines_refusal}
use Rattle.pei_loader.specs.Filled.{Filled, given_before}
use Rattle.pei_loader.proofs.memory.Memory.place_lines.Given as goal

abbrev pub invariant-loop-i : goal.invariant-loop-i
invariant-loop-i l = record {
  filled : Filled l.spec.blocks (given_before l.program l.i) l.self.image.words l.self.given.items;
  entries : l.self.image.entries ≡ l.fn.self.image.entries;
  rest : lines_refusal l.spec.blocks (given_before l.program l.i) (drop l.i l.program.lines) ≡ lines_refusal l.spec.blocks [] l.program.lines;
}
