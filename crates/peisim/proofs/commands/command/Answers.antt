use Rattle.std.proofs.Common.{◌≡◌, ℕ, List, Option, Some, None, Result, option_map, refl, sym, ◌∙◌, ap, subst}
use Rattle.pei_io.specs.declared.files.Failed.{Failed}
use Rattle.pei_io.specs.Outside.{Writes}
use Rattle.pei_cli.specs.FaultLines.{fault_line}
use Rattle.pei_cli.specs.declared.faults.Fault.{Fault}
use Rattle.peisim.specs.Commands.{TellsFault}
use Rattle.peisim.specs.Ends.{fault_of_end}
use Rattle.peisim.proofs.commands.command.Goals as goal
use Rattle.peisim.proofs.commands.command.Goals.{in-Some, in_default}

-- the line of a fault, or nothing, by what the end has
tells_some : {E : Type 0} (written : E → Option (List ℕ)) (faults : E → ℕ) (o : Option Fault) (f : Fault) (old new : E) → o ≡ Some f → (end : Result (Unit {0}) Failed) × Writes (fault_line f) (written old) (written new) (faults old) (faults new) end → TellsFault written faults o old new
tells_some {E} written faults o f old new same told = subst (λ (x : Option Fault). TellsFault written faults x old new) (sym same) told

tells_none : {E : Type 0} (written : E → Option (List ℕ)) (faults : E → ℕ) (o : Option Fault) (old new : E) → o ≡ None → new ≡ old → TellsFault written faults o old new
tells_none {E} written faults o old new same told = subst (λ (x : Option Fault). TellsFault written faults x old new) (sym same) told

pub returns : goal.returns
returns g c =
    let told : TellsFault g.E.Sink.written g.E.Sink.faults (fault_of_end c.serve-ended.result) c.args.faults.now c.match-fault.faults
    = elim c.match-fault.branch [
      | in-Some w ↦ rw w.faults-is (tells_some g.E.Sink.written g.E.Sink.faults _ w.in-Some.fault.now c.args.faults.now w.write_fault.new.sink (sym c.fault.ensures ∙ ap (option_map (λ f. f.now)) w.in-Some.is) (w.write_fault.result, w.write_fault.ensures))
      | in_default w ↦ rw w.faults-is (tells_none g.E.Sink.written g.E.Sink.faults _ c.args.faults.now c.args.faults.now (sym c.fault.ensures ∙ ap (option_map (λ f. f.now)) w.in_default.is) refl)
    ]
    in (c.serve-ended.result, c.serve-ended.ensures, told, c.status.ensures)
