-- A scheduled run, by the reading of its program and of its machine.
use Rattle.std.proofs.Common.{◌≡◌, inl, inr, ℕ, List, Option, Result, Ok, Err, subst, sym}
use Rattle.pei_types.specs.declared.machines.MachineSpec.{MachineSpec}
use Rattle.pei_types.specs.Program.{Listing}
use Rattle.pei_io.specs.declared.files.Which.{Which}
use Rattle.pei_io.specs.declared.files.Which.TheVariants as which
use Rattle.pei_io.specs.Outside.{LeavesOthers}
use Rattle.pei_cli.specs.Commands.{MachineWord}
use Rattle.pei_cli.specs.Jobs.{Job, Runs}
use Rattle.pei_cli.specs.Outcomes.{ReadsMachine, ReadsProgram, RunsJob, Serves}
use Rattle.pei_cli.specs.Uses.{FileUse, SinkUse, file_use}
use Rattle.pei_cli.specs.declared.ends.PlainEnd.{PlainEnd}
use Rattle.pei_cli.specs.declared.faults.Fault.{Fault}
use Rattle.pei_cli.proofs.FileUses.{use_after, use_before}

-- what was read of the program stays so, whatever becomes of the machine
pub program_read : {F : Type 0} (held : F → Which → List ℕ → Option (List ℕ)) (left name : F → Which → Option (List ℕ)) (taken faults : F → Which → ℕ) (file : List ℕ) (p : Listing) (old mid new : F) → LeavesOthers held left name taken faults which.Machine mid new → ReadsProgram file (file_use held left name taken faults old mid which.Program) (Ok p) → ReadsProgram file (file_use held left name taken faults old new which.Program) (Ok p)
program_read held left name taken faults file p old mid new leaves read =
    subst (λ (u : FileUse). ReadsProgram file u (Ok p)) (use_after held left name taken faults which.Machine which.Program old mid new (λ e. cc e) leaves) read

-- what was read of the machine is so whatever became of the program
pub machine_read : {F : Type 0} (held : F → Which → List ℕ → Option (List ℕ)) (left name : F → Which → Option (List ℕ)) (taken faults : F → Which → ℕ) (machine : MachineWord) (found : Result MachineSpec Fault) (old mid new : F) → LeavesOthers held left name taken faults which.Program old mid → ReadsMachine machine (file_use held left name taken faults mid new which.Machine) found → ReadsMachine machine (file_use held left name taken faults old new which.Machine) found
machine_read held left name taken faults machine found old mid new leaves read =
    subst (λ (u : FileUse). ReadsMachine machine u found) (use_before held left name taken faults which.Program which.Machine old mid new (λ e. cc e) leaves) read

-- the program was read, and the machine was not
pub machine_refused : {F : Type 0} (held : F → Which → List ℕ → Option (List ℕ)) (left name : F → Which → Option (List ℕ)) (taken faults : F → Which → ℕ) (job : Job) (p : Listing) (f : Fault) (old mid new : F) (sink : SinkUse) (result : Result PlainEnd Fault) → LeavesOthers held left name taken faults which.Program old mid → LeavesOthers held left name taken faults which.Machine mid new → ReadsProgram job.program (file_use held left name taken faults old mid which.Program) (Ok p) → ReadsMachine job.machine (file_use held left name taken faults mid new which.Machine) (Err f) → result ≡ Err f → sink.now ≡ sink.before → Serves (Runs job) (file_use held left name taken faults old new) sink result
machine_refused held left name taken faults job p f old mid new sink result first second program machine told same =
    inr (p, program_read held left name taken faults job.program p old mid new second program, inl (f, told, machine_read held left name taken faults job.machine (Err f) old mid new first machine, same))

-- both were read, and the program was run
pub machine_run : {F : Type 0} (held : F → Which → List ℕ → Option (List ℕ)) (left name : F → Which → Option (List ℕ)) (taken faults : F → Which → ℕ) (job : Job) (p : Listing) (m : MachineSpec) (old mid new : F) (sink : SinkUse) (result : Result PlainEnd Fault) → LeavesOthers held left name taken faults which.Program old mid → LeavesOthers held left name taken faults which.Machine mid new → ReadsProgram job.program (file_use held left name taken faults old mid which.Program) (Ok p) → ReadsMachine job.machine (file_use held left name taken faults mid new which.Machine) (Ok m) → RunsJob job p m sink result → Serves (Runs job) (file_use held left name taken faults old new) sink result
machine_run held left name taken faults job p m old mid new sink result first second program machine ran =
    inr (p, program_read held left name taken faults job.program p old mid new second program, inr (m, machine_read held left name taken faults job.machine (Ok m) old mid new first machine, ran))

-- a run that failed
pub failed : (job : Job) (p : Listing) (m : MachineSpec) (sink : SinkUse) (result : Result PlainEnd Fault) (f : Fault) → result ≡ Err f → RunsJob job p m sink (Err f) → RunsJob job p m sink result
failed job p m sink result f is ran = subst (λ (r : Result PlainEnd Fault). RunsJob job p m sink r) (sym is) ran
