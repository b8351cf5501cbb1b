use Rattle.std.specs.Prelude.{◌≡◌, drop, option_map}
use Rattle.bank_laws.specs.Logs.{event_with}
use Rattle.fabric.specs.Merge.{logs_of}
use Rattle.fabric.proofs.merging.next_event.Given as goal

-- no bank so far has it
abbrev pub invariant-loop-bank : goal.invariant-loop-bank
invariant-loop-bank l = option_map (λ x. x.event) (event_with l.stamp (logs_of l.banks)) ≡ option_map (λ x. x.event) (event_with l.stamp (logs_of (drop l.bank l.banks)))
