use Rattle.std.proofs.Common.{◌≡◌, ◌++◌, drop, flat_map, string_bytes}
use Rattle.pei_asm.specs.Canonical.{ask_line}
use Rattle.pei_asm.specs.MachineNumbers.{HasNumbers}
use Rattle.pei_asm.proofs.AddingOn.{AllBelow}
use Rattle.pei_asm.proofs.printing.add_asks.Given as goal

abbrev pub invariant-loop-ask : goal.invariant-loop-ask
invariant-loop-ask l =
    record {
      text : string_bytes l.text ++ flat_map ask_line (drop l.ask-index l.asks) ≡ string_bytes l.fn.text ++ flat_map ask_line l.asks;
      numbers : AllBelow HasNumbers l.ask-index l.asks;
    }
