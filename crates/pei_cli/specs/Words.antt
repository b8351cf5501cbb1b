-- What the code makes of the words.
use Rattle.std.specs.Prelude.{◌≡◌, ⊤, ℕ, ◌<◌, List, [], length, get_or, Option, Some, None}
use Rattle.pei_types.specs.Limits.{IsWithin}
use Rattle.pei_types.specs.declared.machines.MachineSpec.{MachineSpec}
use Rattle.sched_run.specs.Choice.{HasActorsOf}
use Rattle.pei_cli.specs.Commands.{MachineWord, BuiltIn, FromFile, Output, Report, Trace}
use Rattle.pei_cli.specs.Jobs.{Job, Asked, Runs, Checks, Prints, Generates, Compiles, RunsKernel, ThreadedJob, asked_of, threaded_of}
use Rattle.pei_cli.specs.declared.words.Asked.{Asked as Parsed}
use Rattle.pei_cli.specs.declared.words.Asked.TheVariants as parsed
use Rattle.pei_cli.specs.declared.words.Machine.{Machine}
use Rattle.pei_cli.specs.declared.words.Machine.TheVariants as machine
use Rattle.pei_cli.specs.declared.words.Output.{Output as Written}
use Rattle.pei_cli.specs.declared.words.Output.TheVariants as output
use Rattle.pei_cli.specs.declared.words.Run.{Run}
use Rattle.pei_cli.specs.declared.words.ThreadedRun.{ThreadedRun}

-- the machine of a word: a built-in one, or the file whose name the word is
abbrev pub machine_as : List ℕ → Machine → MachineWord
machine_as name (machine.BuiltIn cores) = BuiltIn cores
machine_as name machine.File = FromFile name

-- a built-in machine has one core to eight
abbrev pub HasBuiltInCores : Machine → Type 0
HasBuiltInCores (machine.BuiltIn cores) = IsWithin 1 8 cores
HasBuiltInCores machine.File = ⊤

-- what a run writes
abbrev pub output_as : Written → Output
output_as output.Report = Report
output_as output.Trace = Trace

-- a run with the names of its program and, where it is a file, of its machine
abbrev pub job_of : List ℕ → List ℕ → Run → Job
job_of program name j = record { program = program; machine = machine_as name j.machine; policy = j.policy; turns = j.turns; output = output_as j.output }

abbrev pub runs_as : List ℕ → List ℕ → Run → Asked
runs_as program name j = Runs (job_of program name j)

abbrev pub runs_kernel_as : List ℕ → List ℕ → Run → Asked
runs_kernel_as kernel name j = RunsKernel (job_of kernel name j)

abbrev pub checks_as : List ℕ → List ℕ → List ℕ → Machine → Asked
checks_as program name trace k = Checks (record { program = program; machine = machine_as name k; trace = trace })

-- It is what the words ask for; the program or the kernel is the second word, the machine of a run or of a check the third, and a
-- trace the fourth; a run's policy names only actors of its machine.
abbrev pub Asks : List (List ℕ) → Option Parsed → Type 0
Asks words None = asked_of words ≡ None
Asks words (Some (parsed.Run j)) =
    (asked_of words ≡ Some (runs_as (get_or words 1 []) (get_or words 2 []) j)) × (2 < length words) × HasBuiltInCores j.machine
    × ((m : MachineSpec) → HasActorsOf m j.policy)
Asks words (Some (parsed.Check k)) =
    (asked_of words ≡ Some (checks_as (get_or words 1 []) (get_or words 2 []) (get_or words 3 []) k)) × (3 < length words) × HasBuiltInCores k
Asks words (Some parsed.Print) = (asked_of words ≡ Some (Prints (get_or words 1 []))) × (1 < length words)
Asks words (Some (parsed.Generate n)) = asked_of words ≡ Some (Generates n)
Asks words (Some parsed.Compile) = (asked_of words ≡ Some (Compiles (get_or words 1 []))) × (1 < length words)
Asks words (Some (parsed.RunKernel j)) =
    (asked_of words ≡ Some (runs_kernel_as (get_or words 1 []) (get_or words 2 []) j)) × (2 < length words) × HasBuiltInCores j.machine
    × ((m : MachineSpec) → HasActorsOf m j.policy)

-- a run by threads with the names of its program and, where it is a file, of its machine
abbrev pub threaded_job_of : List ℕ → List ℕ → ThreadedRun → ThreadedJob
threaded_job_of program name j = record { program = program; machine = machine_as name j.machine; output = output_as j.output }

-- It is the run by threads that the words ask for; the program is the second word, and the machine the third.
abbrev pub AsksForThreads : List (List ℕ) → Option ThreadedRun → Type 0
AsksForThreads words None = threaded_of words ≡ None
AsksForThreads words (Some j) =
    (threaded_of words ≡ Some (threaded_job_of (get_or words 1 []) (get_or words 2 []) j)) × (2 < length words) × HasBuiltInCores j.machine
