-- What a run by threads comes to.
use Rattle.std.specs.Prelude.{◌≡◌, ◌≢◌, ◌⊎◌, List, Result, Ok, Err}
use Rattle.pei_types.specs.declared.events.Event.{Event}
use Rattle.pei_types.specs.declared.machines.MachineSpec.{MachineSpec}
use Rattle.pei_types.specs.Ends.{status_of}
use Rattle.pei_types.specs.Legal.{Legal}
use Rattle.pei_types.specs.Program.{Listing, Contents}
use Rattle.pei_io.specs.Outside.{Rose}
use Rattle.pei_io.specs.declared.files.Which.{Which}
use Rattle.pei_io.specs.declared.files.Which.TheVariants as which
use Rattle.host_run.specs.Runs.{IsOver, IsRunOf}
use Rattle.sched_run.specs.ElevenClauses.{ElevenClauses}
use Rattle.pei_cli.specs.Jobs.{ThreadedJob}
use Rattle.pei_cli.specs.Outcomes.{Begins, IsFirstLoadFault, ReadsMachine, ReadsProgram, WritesFront, WritesText, output_text}
use Rattle.pei_cli.specs.Uses.{FileUse, SinkUse, IsUnopened}
use Rattle.pei_cli.specs.declared.ends.RunEnd.{RunEnd}
use Rattle.pei_cli.specs.declared.faults.Fault.{Fault}
use Rattle.pei_cli.specs.declared.faults.Fault.TheVariants as fault

-- Whatever the interleaving of the threads: the journal is one legal history of the program on the machine, and meets each of
-- the eleven clauses; the cores ended as it says, and each has ended, or the journal is full; the receipt has each core's
-- events of it; and the status is the journal's, and never that of a run which stopped with turns to go.
pub record IsThreadedEnd (p : Listing) (m : MachineSpec) (image : Contents) (end : RunEnd) : Type 0 where
  pub run : IsRunOf p m image end.journal.events end.cores end.receipt
  pub laws : ElevenClauses p m image end.journal.events
  pub status : end.status ≡ status_of m end.journal.events
  pub over : end.status ≢ 7

-- The run of a program by threads on a machine, and its report or its trace, which was written whole. At a fault of writing a
-- front was written of that of a legal run which was over; before any other fault nothing was.
abbrev pub RunsThreads : ThreadedJob → Listing → MachineSpec → SinkUse → Result RunEnd Fault → Type 0
RunsThreads job p m sink (Ok end) =
    (image : Contents) × Begins p m image × IsThreadedEnd p m image end
    × WritesText (output_text job.output p m image end.journal.events) sink
RunsThreads job p m sink (Err fault.WriteFault) =
    (image : Contents) × Begins p m image × (journal : List Event) × Legal p m image journal × IsOver m journal
    × WritesFront (output_text job.output p m image journal) sink × Rose sink.faults sink.faults_now
RunsThreads job p m sink (Err (fault.LoadBad f)) = IsFirstLoadFault p m f × (sink.now ≡ sink.before)
RunsThreads job p m sink (Err fault.OutOfMemory) = sink.now ≡ sink.before
RunsThreads job p m sink (Err _) = ⊥

-- The machine was not read, and nothing was written; or it was, and this is the program's run on it.
abbrev pub RunsThreadsOnMachine : ThreadedJob → Listing → FileUse → SinkUse → Result RunEnd Fault → Type 0
RunsThreadsOnMachine job p u sink result =
    ((f : Fault) × (result ≡ Err f) × ReadsMachine job.machine u (Err f) × (sink.now ≡ sink.before))
    ⊎ ((m : MachineSpec) × ReadsMachine job.machine u (Ok m) × RunsThreads job p m sink result)

-- The program was not read, no file of a machine was opened, and nothing was written; or the program was read, and what comes
-- behind it is the above.
abbrev pub ServesThreads : ThreadedJob → (Which → FileUse) → SinkUse → Result RunEnd Fault → Type 0
ServesThreads job uses sink result =
    ((f : Fault) × (result ≡ Err f) × ReadsProgram job.program (uses which.Program) (Err f) × IsUnopened (uses which.Machine) × (sink.now ≡ sink.before))
    ⊎ ((p : Listing) × ReadsProgram job.program (uses which.Program) (Ok p) × RunsThreadsOnMachine job p (uses which.Machine) sink result)
