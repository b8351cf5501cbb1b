-- What the program ends with.
use Rattle.std.specs.Prelude.{ℕ, Option, Some, None, Ok, Err}
use Rattle.pei_cli.specs.FaultLines.{status_of_fault}
use Rattle.pei_cli.specs.declared.ends.PlainEnd.TheVariants as ends
use Rattle.pei_cli.specs.declared.faults.Fault.{Fault}
use Rattle.peisim.specs.declared.commands.Ended.{Ended}
use Rattle.peisim.specs.declared.commands.Ended.TheVariants as ended

-- why the command was refused, if it was
abbrev pub fault_of_end : Ended → Option Fault
fault_of_end (ended.Plain (Ok end)) = None
fault_of_end (ended.Plain (Err f)) = Some f
fault_of_end (ended.Threaded (Ok end)) = None
fault_of_end (ended.Threaded (Err f)) = Some f

-- the status that the answer tells, or the fault's
abbrev pub status_of_end : Ended → ℕ
status_of_end (ended.Plain (Ok (ends.Sched status journal cores turns))) = status
status_of_end (ended.Plain (Ok (ends.Checked status verdict))) = status
status_of_end (ended.Plain (Ok (ends.Text status))) = status
status_of_end (ended.Plain (Ok (ends.Kernel status program))) = status
status_of_end (ended.Plain (Ok (ends.KernelSched status program journal cores turns))) = status
status_of_end (ended.Plain (Err f)) = status_of_fault f
status_of_end (ended.Threaded (Ok end)) = end.status
status_of_end (ended.Threaded (Err f)) = status_of_fault f
