use Rattle.std.proofs.Common.{◌≡◌}
use Rattle.pei_loader.specs.Filled.{given_before}
use Rattle.pei_loader.proofs.Lines.{Reached}
use Rattle.pei_loader.proofs.memory.Memory.place_line.Given as goal

abbrev pub invariant-loop-word : goal.invariant-loop-word
invariant-loop-word l = record {
  entries : l.self.image.entries ≡ l.fn.self.image.entries;
  reached : Reached l.spec.blocks (given_before l.program l.i) l.addr l.words l.word-index l.next l.self.image.words l.self.given.items;
}
