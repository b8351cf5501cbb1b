-- What the words ask for.
use Rattle.std.specs.Prelude.{ℕ, List, Option, Some, None, option_and_then, if◌then◌else◌}
use Rattle.sched_run.specs.declared.policies.Policy.{Policy}
use Rattle.sched_run.specs.declared.policies.Policy.TheVariants as policy
use Rattle.pei_io.specs.declared.files.Which.{Which}
use Rattle.pei_io.specs.declared.files.Which.TheVariants as which
use Rattle.pei_cli.specs.Commands.{Command, Asm, Sched, Run, Check, Gen, Kernel, KernelSched, MachineWord, ScheduleWord, InTurn, Serial, Seeded, Output, file_of_machine, is_run, command_of, plain_command_of}

-- A scheduled run: the name of the program's file, or of its kernel's, the machine, who takes the turns, how many at most, and
-- what is written of it.
pub record Job : Type 0 where
  pub program : List ℕ
  pub machine : MachineWord
  pub policy : Policy
  pub turns : ℕ
  pub output : Output

abbrev pub policy_of_word : ScheduleWord → Policy
policy_of_word InTurn = policy.RoundRobin
policy_of_word Serial = policy.Serial
policy_of_word (Seeded seed) = policy.Seeded seed

-- a check of a trace: the names of the program's file and of the trace's, and the machine
pub record Question : Type 0 where
  pub program : List ℕ
  pub machine : MachineWord
  pub trace : List ℕ

-- what words can ask the call without threads for
pub data Asked : Type 0 where
  Runs : Job → Asked
  Checks : Question → Asked
  Prints : (file : List ℕ) → Asked
  Generates : (n : ℕ) → Asked
  Compiles : (file : List ℕ) → Asked
  RunsKernel : Job → Asked

abbrev pub job_of_words : List ℕ → MachineWord → ScheduleWord → ℕ → Output → Job
job_of_words file machine schedule turns output =
    record { program = file; machine = machine; policy = policy_of_word schedule; turns = turns; output = output }

-- of the commands, all but the run by threads
abbrev pub built : Command → Option Asked
built (Asm program) = Some (Prints program)
built (Sched program machine schedule turns output) = Some (Runs (job_of_words program machine schedule turns output))
built (Check program machine trace) = Some (Checks (record { program = program; machine = machine; trace = trace }))
built (Gen n) = Some (Generates n)
built (Kernel kernel) = Some (Compiles kernel)
built (KernelSched kernel machine schedule turns output) = Some (RunsKernel (job_of_words kernel machine schedule turns output))
built _ = None

-- what a command asks for, and what the words do, if that is no run by threads
abbrev pub asked_by : Option Command → Option Asked
asked_by c = option_and_then built (option_and_then (λ x. if is_run x then None else Some x) c)

abbrev pub asked_of : List (List ℕ) → Option Asked
asked_of words = option_and_then built (plain_command_of words)

-- the name of the file that it has in each place: its program or its kernel, its machine where that is a file, and its trace
abbrev pub file_of : Asked → Which → Option (List ℕ)
file_of (Runs job) which.Program = Some job.program
file_of (Runs job) which.Machine = file_of_machine job.machine
file_of (Checks question) which.Program = Some question.program
file_of (Checks question) which.Machine = file_of_machine question.machine
file_of (Checks question) which.Trace = Some question.trace
file_of (Prints file) which.Program = Some file
file_of (Compiles file) which.Kernel = Some file
file_of (RunsKernel job) which.Kernel = Some job.program
file_of (RunsKernel job) which.Machine = file_of_machine job.machine
file_of _ _ = None

-- ---- with threads

-- A run by threads: the name of the program's file, the machine, and what is written of it.
pub record ThreadedJob : Type 0 where
  pub program : List ℕ
  pub machine : MachineWord
  pub output : Output

-- of the commands, the run alone
abbrev pub threaded_job : Command → Option ThreadedJob
threaded_job (Run program machine output) = Some (record { program = program; machine = machine; output = output })
threaded_job _ = None

abbrev pub threaded_by : Option Command → Option ThreadedJob
threaded_by c = option_and_then threaded_job c

-- the run by threads that the words ask for
abbrev pub threaded_of : List (List ℕ) → Option ThreadedJob
threaded_of words = threaded_by (command_of words)

-- the name of the file that it has in each place
abbrev pub threaded_file_of : ThreadedJob → Which → Option (List ℕ)
threaded_file_of job which.Program = Some job.program
threaded_file_of job which.Machine = file_of_machine job.machine
threaded_file_of job _ = None
