-- What a command comes to.
use Rattle.std.specs.Prelude.{◌≡◌, ◌≢◌, ◌⊎◌, ℕ, ◌+◌, ◌<◌, ◌≤◌, List, [], length, take, Some, None, IfSome, IsSomeAnd, Result, Ok, Err}
use Rattle.pei_types.specs.declared.events.Event.{Event}
use Rattle.pei_types.specs.declared.machines.MachineSpec.{MachineSpec}
use Rattle.pei_types.specs.Ends.{ends_of, status_of}
use Rattle.pei_types.specs.Image.{IsImageOf, load_refusal}
use Rattle.pei_types.specs.Legal.{Legal}
use Rattle.pei_types.specs.Program.{Listing, Contents}
use Rattle.pei_types.specs.Schedule.{Run}
use Rattle.pei_types.specs.Texts.{report_text, trace_text}
use Rattle.pei_io.specs.Outside.{Rose, Added}
use Rattle.pei_io.specs.declared.files.Which.{Which}
use Rattle.pei_io.specs.declared.files.Which.TheVariants as which
use Rattle.pei_asm.specs.declared.faults.AsmKind.TheVariants as kind
use Rattle.pei_asm.specs.Canonical.{canonical}
use Rattle.pei_asm.specs.Faults.{first_fault}
use Rattle.pei_asm.specs.Meaning.{Spells}
use Rattle.kernel_text.specs.declared.faults.KernelKind.TheVariants as kernel_kind
use Rattle.kernel_text.specs.Faults.{first_fault as first_kernel_fault}
use Rattle.kernel_text.specs.Grammar.{Spells as SpellsKernel}
use Rattle.kernel_text.specs.Sound.{IsSound}
use Rattle.kernel_text.specs.Trees.{Kernel}
use Rattle.kernel_lang.specs.Programs.{IsCompiled}
use Rattle.pei_loader.specs.Faults.{IsLoadRefusal}
use Rattle.pei_loader.specs.declared.faults.LoadFault.{LoadFault}
use Rattle.pei_loader.specs.declared.faults.LoadFault.TheVariants as load
use Rattle.journal.specs.Recorded.{Recorded}
use Rattle.journal.specs.Traces.{IsFirstBad, IsTrace}
use Rattle.machine_file.specs.Faults.{refusal_of}
use Rattle.machine_file.specs.Machine.{DescribesOf, IsBuiltIn, file_fault, table_of}
use Rattle.sched_run.specs.Scheduled.{EndsInTime, SpendsTurns, run_of}
use Rattle.sched_run.specs.ElevenClauses.{ElevenClauses}
use Rattle.trace_check.specs.Verdicts.{IsVerdict}
use Rattle.trace_check.specs.declared.verdicts.Verdict.{Verdict}
use Rattle.workload_gen.specs.Generated.{generated}
use Rattle.pei_cli.specs.Commands.{MachineWord, BuiltIn, FromFile, Output, Report, Trace}
use Rattle.pei_cli.specs.FaultLines.{fault_of_loading}
use Rattle.pei_cli.specs.Jobs.{Job, Question, Asked, Runs, Checks, Prints, Generates, Compiles, RunsKernel}
use Rattle.pei_cli.specs.VerdictLines.{status_of_verdict, verdict_line}
use Rattle.pei_cli.specs.Uses.{FileUse, SinkUse, IsUnopened}
use Rattle.pei_cli.specs.declared.ends.PlainEnd.{PlainEnd}
use Rattle.pei_cli.specs.declared.ends.PlainEnd.TheVariants as ends
use Rattle.pei_cli.specs.declared.faults.Fault.{Fault}
use Rattle.pei_cli.specs.declared.running.Ran.{Ran}
use Rattle.pei_cli.specs.declared.faults.Fault.TheVariants as fault

-- ---- reading a file

-- the most bytes of a file
abbrev pub most_bytes : Which → ℕ
most_bytes which.Program = 1048576
most_bytes which.Machine = 1048576
most_bytes which.Trace = 134217728
most_bytes which.Kernel = 1048576

-- The file of this name was opened and read: these bytes are what it holds, where that is told, as many were taken, and
-- they are no more than a file may have.
pub record IsRead (w : Which) (u : FileUse) (file bytes : List ℕ) : Type 0 where
  pub named : u.now.name ≡ Some file
  pub content : IfSome (u.held file) (λ b. bytes ≡ b)
  pub count : u.now.taken ≡ length bytes
  pub within : length bytes ≤ most_bytes w

-- Why the file of this name was not read: it has more bytes than it may have, of which one more than that was taken; or it
-- could not be opened or read, and that was counted. Want of memory is free, but of a file that is too long the first is
-- told: so a file is too long exactly where one byte more than it may have was taken.
abbrev pub FailsToRead : Which → List ℕ → FileUse → Fault → Type 0
FailsToRead w file u (fault.InputTooLong x) =
    (x ≡ w) × (u.now.name ≡ Some file) × (u.now.taken ≡ most_bytes w + 1) × IfSome (u.held file) (λ b. most_bytes w < length b)
FailsToRead w file u (fault.ReadFault x) = (x ≡ w) × (u.now.name ≡ Some file) × Rose u.before.faults u.now.faults × (u.now.taken ≤ most_bytes w)
FailsToRead w file u fault.OutOfMemory = u.now.taken ≤ most_bytes w
FailsToRead w file u _ = ⊥

-- ---- reading the program

-- The program that the file's text spells, or why there is none: the first fault of the text, or that it was not read.
abbrev pub ReadsProgram : List ℕ → FileUse → Result Listing Fault → Type 0
ReadsProgram file u (Ok p) = (text : List ℕ) × IsRead which.Program u file text × Spells text p
ReadsProgram file u (Err (fault.ProgramBad f)) =
    (f.kind ≢ kind.OutOfMemory) × (text : List ℕ) × IsRead which.Program u file text × (first_fault text ≡ Some f)
ReadsProgram file u (Err f) = FailsToRead which.Program file u f

-- ---- reading a kernel

-- The compiled program of the kernel that the file's text spells, or why there is none: the first fault of the text, or that it
-- was not read.
abbrev pub ReadsKernel : List ℕ → FileUse → Result Listing Fault → Type 0
ReadsKernel file u (Ok p) = (text : List ℕ) × IsRead which.Kernel u file text × (k : Kernel) × SpellsKernel text k × IsSound k × IsCompiled k p
ReadsKernel file u (Err (fault.KernelBad f)) =
    (f.kind ≢ kernel_kind.OutOfMemory) × (text : List ℕ) × IsRead which.Kernel u file text × (first_kernel_fault text ≡ Some f)
ReadsKernel file u (Err f) = FailsToRead which.Kernel file u f

-- ---- reading the machine

-- The built-in machine, for which no file is opened; or the machine that the file describes, or why there is none: the
-- first fault of the file, and never want of memory in its place, or that it was not read.
abbrev pub ReadsMachine : MachineWord → FileUse → Result MachineSpec Fault → Type 0
ReadsMachine (BuiltIn cores) u (Ok m) = IsBuiltIn cores m × IsUnopened u
ReadsMachine (BuiltIn cores) u (Err f) = ⊥
ReadsMachine (FromFile file) u (Ok m) = (bytes : List ℕ) × IsRead which.Machine u file bytes × DescribesOf (table_of bytes) m
ReadsMachine (FromFile file) u (Err (fault.MachineBad f)) =
    (bytes : List ℕ) × IsRead which.Machine u file bytes × IsSomeAnd (refusal_of f) (λ r. file_fault bytes ≡ Some r)
ReadsMachine (FromFile file) u (Err f) = FailsToRead which.Machine file u f

-- ---- reading a trace

-- The journal whose trace the file holds, or why there is none: the first bad line of a text that is the trace of no journal, or
-- that it was not read.
abbrev pub ReadsTrace : List ℕ → FileUse → Result Recorded Fault → Type 0
ReadsTrace file u (Ok journal) = (text : List ℕ) × IsRead which.Trace u file text × IsTrace text journal.events
ReadsTrace file u (Err (fault.TraceBad line)) =
    (text : List ℕ) × IsRead which.Trace u file text × IsFirstBad text line × ((journal : List Event) → IsTrace text journal → ⊥)
ReadsTrace file u (Err f) = FailsToRead which.Trace file u f

-- ---- running a program

-- the program is loaded on the machine, and nothing of it was refused
pub record Begins (p : Listing) (m : MachineSpec) (image : Contents) : Type 0 where
  pub whole : load_refusal p m ≡ None
  pub loaded : IsImageOf p m image

-- The fault is the first of loading this program. Want of memory is told as such, and never as a fault of loading.
abbrev pub IsFirstLoadFault : Listing → MachineSpec → LoadFault → Type 0
IsFirstLoadFault p m load.OutOfMemory = ⊥
IsFirstLoadFault p m f = IsLoadRefusal p m f

-- the run of the job
abbrev pub run_of_job : Job → Listing → MachineSpec → Contents → Run
run_of_job job p m image = run_of p m image job.policy job.turns

-- The answer is this run's: its status, its journal, how each core ended, and its number of turns.
abbrev pub IsAnswerOf : MachineSpec → Run → PlainEnd → Type 0
IsAnswerOf m r (ends.Sched status journal cores turns) =
    (status ≡ status_of m r.journal) × (journal.events ≡ r.journal) × (cores ≡ ends_of r.journal) × (turns ≡ r.turns)
IsAnswerOf m r _ = ⊥

-- what is written of a run: its report, or the trace of its journal
abbrev pub output_text : Output → Listing → MachineSpec → Contents → List Event → List ℕ
output_text Report p m image journal = report_text p m image journal
output_text Trace p m image journal = trace_text journal

-- This text was written: the whole, or a front of it.
abbrev pub WritesText : List ℕ → SinkUse → Type 0
WritesText text sink = Added text sink.before sink.now

abbrev pub WritesFront : List ℕ → SinkUse → Type 0
WritesFront text sink = (n : ℕ) × (n ≤ length text) × Added (take n text) sink.before sink.now

-- The run of a program on a machine, whose journal is legal and meets each of the eleven clauses, which ends in time on one core
-- that goes on until it stalls, and which stops before its turns are spent only where it is over; and what is written of it, or
-- why there is none. Before a fault other than that of writing, nothing was written.
abbrev pub RunsJob : Job → Listing → MachineSpec → SinkUse → Result PlainEnd Fault → Type 0
RunsJob job p m sink (Ok end) =
    (image : Contents) × Begins p m image × IsAnswerOf m (run_of_job job p m image) end
    × Legal p m image (run_of_job job p m image).journal × ElevenClauses p m image (run_of_job job p m image).journal
    × EndsInTime m job.policy job.turns (run_of_job job p m image).journal
    × SpendsTurns m job.policy job.turns (run_of_job job p m image).journal (run_of_job job p m image).turns
    × WritesText (output_text job.output p m image (run_of_job job p m image).journal) sink
RunsJob job p m sink (Err fault.WriteFault) =
    (image : Contents) × Begins p m image × WritesFront (output_text job.output p m image (run_of_job job p m image).journal) sink × Rose sink.faults sink.faults_now
RunsJob job p m sink (Err (fault.LoadBad f)) = IsFirstLoadFault p m f × (sink.now ≡ sink.before)
RunsJob job p m sink (Err fault.OutOfMemory) = sink.now ≡ sink.before
RunsJob job p m sink (Err _) = ⊥

-- what a run came to, as the answer of `sched`
abbrev pub sched_end : Result Ran Fault → Result PlainEnd Fault
sched_end (Ok ran) = Ok (ends.Sched ran.status ran.journal ran.cores ran.turns)
sched_end (Err f) = Err f

-- A run of a kernel's program: the answer has that program, and is otherwise that of a run of any program.
abbrev pub RunsKernelJob : Job → Listing → MachineSpec → SinkUse → Result PlainEnd Fault → Type 0
RunsKernelJob job p m sink (Ok (ends.KernelSched status program journal cores turns)) =
    (program ≡ p) × RunsJob job p m sink (Ok (ends.Sched status journal cores turns))
RunsKernelJob job p m sink (Ok _) = ⊥
RunsKernelJob job p m sink (Err f) = RunsJob job p m sink (Err f)

-- ---- checking a trace

-- the verdict on a journal that was answered, its status, and its line
abbrev pub IsVerdictOf : Listing → MachineSpec → Contents → List Event → PlainEnd → Type 0
IsVerdictOf p m image journal (ends.Checked status verdict) = IsVerdict p m image journal verdict × (status ≡ status_of_verdict verdict)
IsVerdictOf p m image journal _ = ⊥

abbrev pub line_of_end : PlainEnd → List ℕ
line_of_end (ends.Checked status verdict) = verdict_line verdict
line_of_end _ = []

-- The exact verdict on a journal, of which its line was written, or a front of it. Before a fault other than that of writing,
-- nothing was written.
abbrev pub Judges : Listing → MachineSpec → Contents → List Event → SinkUse → Result PlainEnd Fault → Type 0
Judges p m image journal sink (Ok end) = IsVerdictOf p m image journal end × WritesText (line_of_end end) sink
Judges p m image journal sink (Err fault.WriteFault) =
    (verdict : Verdict) × IsVerdict p m image journal verdict × WritesFront (verdict_line verdict) sink × Rose sink.faults sink.faults_now
Judges p m image journal sink (Err fault.OutOfMemory) = sink.now ≡ sink.before
Judges p m image journal sink (Err _) = ⊥

-- The trace was not read, and nothing was written; or it was, and this is the verdict on its journal.
abbrev pub JudgesFile : List ℕ → Listing → MachineSpec → Contents → FileUse → SinkUse → Result PlainEnd Fault → Type 0
JudgesFile file p m image u sink result =
    ((f : Fault) × (result ≡ Err f) × ReadsTrace file u (Err f) × (sink.now ≡ sink.before))
    ⊎ ((journal : Recorded) × ReadsTrace file u (Ok journal) × Judges p m image journal.events sink result)

-- The program was not loaded, no trace was opened, and nothing was written: its first load fault, or want of memory; or it was
-- loaded, and what comes behind it is the above.
abbrev pub LoadsAndJudges : List ℕ → Listing → MachineSpec → FileUse → SinkUse → Result PlainEnd Fault → Type 0
LoadsAndJudges file p m u sink result =
    ((f : LoadFault) × (result ≡ Err (fault_of_loading f)) × IsLoadRefusal p m f × IsUnopened u × (sink.now ≡ sink.before))
    ⊎ ((image : Contents) × Begins p m image × JudgesFile file p m image u sink result)

-- ---- printing a program

-- The canonical text of the program was written, or a front of it. Before a fault other than that of writing, nothing was
-- written.
abbrev pub PrintsProgram : Listing → SinkUse → Result PlainEnd Fault → Type 0
PrintsProgram p sink (Ok (ends.Text status)) = (status ≡ 0) × WritesText (canonical p) sink
PrintsProgram p sink (Err fault.WriteFault) =
    WritesFront (canonical p) sink × Rose sink.faults sink.faults_now
PrintsProgram p sink (Err fault.OutOfMemory) = sink.now ≡ sink.before
PrintsProgram p sink _ = ⊥

-- a status, as the answer of `asm`
abbrev pub text_end : Result ℕ Fault → Result PlainEnd Fault
text_end (Ok status) = Ok (ends.Text status)
text_end (Err f) = Err f

-- A kernel's program: the answer has it, and its canonical text was written as that of any program.
abbrev pub PrintsKernel : Listing → SinkUse → Result PlainEnd Fault → Type 0
PrintsKernel p sink (Ok (ends.Kernel status program)) = (program ≡ p) × PrintsProgram p sink (Ok (ends.Text status))
PrintsKernel p sink (Ok _) = ⊥
PrintsKernel p sink (Err f) = PrintsProgram p sink (Err f)

-- ---- a generated program

-- The generated program of a number was written, or a front of it.
abbrev pub WritesGenerated : ℕ → SinkUse → Result PlainEnd Fault → Type 0
WritesGenerated n sink (Ok (ends.Text status)) = (status ≡ 0) × WritesText (generated n) sink
WritesGenerated n sink (Err fault.WriteFault) =
    WritesFront (generated n) sink × Rose sink.faults sink.faults_now
WritesGenerated n sink _ = ⊥

-- ---- the whole command

-- The machine was not read, and nothing was written; or it was, and this is what comes behind it.
abbrev pub OnMachine : (MachineSpec → Type 0) → MachineWord → FileUse → SinkUse → Result PlainEnd Fault → Type 0
OnMachine behind machine u sink result =
    ((f : Fault) × (result ≡ Err f) × ReadsMachine machine u (Err f) × (sink.now ≡ sink.before))
    ⊎ ((m : MachineSpec) × ReadsMachine machine u (Ok m) × behind m)

-- The machine was not read, no trace was opened, and nothing was written; or the machine was read, and this is the check.
abbrev pub ChecksOnMachine : Question → Listing → (Which → FileUse) → SinkUse → Result PlainEnd Fault → Type 0
ChecksOnMachine question p uses sink result =
    ((f : Fault) × (result ≡ Err f) × ReadsMachine question.machine (uses which.Machine) (Err f) × IsUnopened (uses which.Trace) × (sink.now ≡ sink.before))
    ⊎ ((m : MachineSpec) × ReadsMachine question.machine (uses which.Machine) (Ok m) × LoadsAndJudges question.trace p m (uses which.Trace) sink result)

-- A run: the program was not read, no file of a machine was opened, and nothing was written; or the program was read, and
-- what comes behind it is its run. A check likewise: no file is opened behind one that was not read. A canonical text: the
-- program was not read, and nothing was written; or it was, and this is its text. Or a generated program. A kernel's program is
-- written and run as any other.
abbrev pub Serves : Asked → (Which → FileUse) → SinkUse → Result PlainEnd Fault → Type 0
Serves (Runs job) uses sink result =
    ((f : Fault) × (result ≡ Err f) × ReadsProgram job.program (uses which.Program) (Err f) × IsUnopened (uses which.Machine) × (sink.now ≡ sink.before))
    ⊎ ((p : Listing) × ReadsProgram job.program (uses which.Program) (Ok p) × OnMachine (λ m. RunsJob job p m sink result) job.machine (uses which.Machine) sink result)
Serves (Checks question) uses sink result =
    ((f : Fault) × (result ≡ Err f) × ReadsProgram question.program (uses which.Program) (Err f) × IsUnopened (uses which.Machine) × IsUnopened (uses which.Trace) × (sink.now ≡ sink.before))
    ⊎ ((p : Listing) × ReadsProgram question.program (uses which.Program) (Ok p) × ChecksOnMachine question p uses sink result)
Serves (Prints file) uses sink result =
    ((f : Fault) × (result ≡ Err f) × ReadsProgram file (uses which.Program) (Err f) × (sink.now ≡ sink.before))
    ⊎ ((p : Listing) × ReadsProgram file (uses which.Program) (Ok p) × PrintsProgram p sink result)
Serves (Generates n) uses sink result = WritesGenerated n sink result
Serves (Compiles file) uses sink result =
    ((f : Fault) × (result ≡ Err f) × ReadsKernel file (uses which.Kernel) (Err f) × (sink.now ≡ sink.before))
    ⊎ ((p : Listing) × ReadsKernel file (uses which.Kernel) (Ok p) × PrintsKernel p sink result)
Serves (RunsKernel job) uses sink result =
    ((f : Fault) × (result ≡ Err f) × ReadsKernel job.program (uses which.Kernel) (Err f) × IsUnopened (uses which.Machine) × (sink.now ≡ sink.before))
    ⊎ ((p : Listing) × ReadsKernel job.program (uses which.Kernel) (Ok p) × OnMachine (λ m. RunsKernelJob job p m sink result) job.machine (uses which.Machine) sink result)
