use Rattle.std.proofs.Common.{◌≡◌, drop}
use Rattle.pei_types.specs.Image.{asks_refusal}
use Rattle.pei_loader.proofs.asks.check_asks.Given as goal

abbrev pub invariant-loop-ask : goal.invariant-loop-ask
invariant-loop-ask l =
    asks_refusal l.spec.blocks (drop l.ask-index l.ask-items) ≡ asks_refusal l.spec.blocks l.program.asks
