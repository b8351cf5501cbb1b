-- A run by threads and its output, as the answer of a command; and the same by the reading of its program and of its machine.
use Rattle.std.proofs.Common.{◌≡◌, ◌≢◌, inl, inr, ℕ, ◌*◌, ◌==◌, Bool, true, false, if◌then◌else◌, List, length, Option, All, Result, Ok, Err, None, sym, ◌∙◌, ap, subst, arith}
use Rattle.std.proofs.lemmas.Bool.Decides.{nat_tests}
use Rattle.pei_types.specs.declared.events.Event.{Event}
use Rattle.pei_types.specs.declared.machines.MachineSpec.{MachineSpec}
use Rattle.pei_types.specs.Ends.{all_ended, all_halted, status_of}
use Rattle.pei_types.specs.Image.{load_refusal}
use Rattle.pei_types.specs.Program.{Listing, Contents}
use Rattle.journal.specs.Recorded.{Recorded}
use Rattle.pei_io.specs.declared.files.Failed.{Failed}
use Rattle.pei_io.specs.declared.files.Which.{Which}
use Rattle.pei_io.specs.declared.files.Which.TheVariants as which
use Rattle.pei_io.specs.Outside.{LeavesOthers, Writes}
use Rattle.pei_loader.specs.Faults.{IsLoadRefusal}
use Rattle.pei_loader.specs.declared.faults.LoadFault.{LoadFault}
use Rattle.pei_loader.specs.declared.faults.LoadFault.TheVariants as load
use Rattle.report.specs.Shown.{HasWords}
use Rattle.host_run.specs.Runs.{IsOver, IsRunOf}
use Rattle.host_run.specs.declared.runs.RunParts.{RunParts}
use Rattle.sched_run.specs.ElevenClauses.{ElevenClauses}
use Rattle.pei_cli.specs.Commands.{Output}
use Rattle.pei_cli.specs.FaultLines.{fault_of_loading}
use Rattle.pei_cli.specs.Jobs.{ThreadedJob}
use Rattle.pei_cli.specs.Outcomes.{Begins, ReadsMachine, ReadsProgram, output_text}
use Rattle.pei_cli.specs.ThreadedOutcomes.{RunsThreads, ServesThreads}
use Rattle.pei_cli.specs.Uses.{SinkUse, file_use}
use Rattle.pei_cli.specs.declared.ends.RunEnd.{RunEnd}
use Rattle.pei_cli.specs.declared.faults.Fault.{Fault}
use Rattle.pei_cli.specs.declared.faults.Fault.TheVariants as fault
use Rattle.pei_cli.proofs.Loaded.{loaded_asks}
use Rattle.pei_cli.proofs.RunsServed.{machine_read, program_read}

-- ---- the run

-- what is known when the output is written
pub record RanByThreads (p : Listing) (m : MachineSpec) (image : Contents) (v : RunParts) (status : ℕ) : Type 0 where
  pub begins : Begins p m image
  pub of_machine : v.fabric.machine ≡ m
  pub from : v.fabric.image ≡ image
  pub run : IsRunOf p m image v.fabric.journal v.cores v.receipt
  pub laws : ElevenClauses p m image v.fabric.journal
  pub told : status ≡ status_of m v.fabric.journal

-- the asked words are in the memory of the machine at the end
pub asks_of_threads : (p : Listing) (m k : MachineSpec) → load_refusal p m ≡ None → k ≡ m → All (HasWords (64 * k.blocks)) p.asks
asks_of_threads p m k whole same = subst (λ (x : MachineSpec). All (HasWords (64 * x.blocks)) p.asks) (sym same) (loaded_asks p m whole)

-- a run that is over has no turns to go
over_is_told : (m : MachineSpec) (journal : List Event) → IsOver m journal → status_of m journal ≢ 7
over_is_told m journal (inl complete) = by (all_halted m journal) (all_ended m journal) complete
  where
    by : (h a : Bool) → a ≡ true → ◌≡◌ {A = ℕ} (if a then (if h then 0 else 5) else (if length journal == m.events then 6 else 7)) 7 → ⊥
    by h false e = absurd (cc e)
    by true true e = λ s. cc s
    by false true e = λ s. cc s
over_is_told m journal (inr full) = by (all_halted m journal) (all_ended m journal) (length journal == m.events) (equal (length journal) m.events full)
  where
    equal : (x y : ℕ) → x ≡ y → (x == y) ≡ true
    equal x y e = grind (arith, nat_tests)

    by : (h a f : Bool) → f ≡ true → ◌≡◌ {A = ℕ} (if a then (if h then 0 else 5) else (if f then 6 else 7)) 7 → ⊥
    by true true f e = λ s. cc s
    by false true f e = λ s. cc s
    by h false false e = absurd (cc e)
    by h false true e = λ s. cc s

-- what is written is the output of the run's journal, from the image that it began with
text_of_threads : (job : ThreadedJob) (output : Output) (p : Listing) (m : MachineSpec) (image began : Contents) (journal : List Event) → job.output ≡ output → began ≡ image → output_text output p m began journal ≡ output_text job.output p m image journal
text_of_threads job output p m image began journal same from = ap (λ o. output_text o p m began journal) (sym same) ∙ ap (λ i. output_text job.output p m i journal) from

pub threads_served : (job : ThreadedJob) (output : Output) (p : Listing) (m : MachineSpec) (image : Contents) (v : RunParts) (status : ℕ) (journal : Recorded) (sink : SinkUse) → job.output ≡ output → RanByThreads p m image v status → journal.events ≡ v.fabric.journal → Writes (output_text output p m v.fabric.image v.fabric.journal) sink.before sink.now sink.faults sink.faults_now (Ok tt) → RunsThreads job p m sink (Ok (record { status = status; journal = journal; cores = v.cores; receipt = v.receipt }))
threads_served job output p m image v status journal sink same ran events written =
    let whole = subst (λ (text : List ℕ). Writes text sink.before sink.now sink.faults sink.faults_now (Ok tt)) (text_of_threads job output p m image v.fabric.image v.fabric.journal same ran.from ∙ ap (λ js. output_text job.output p m image js) (sym events)) written
    in (
      image,
      ran.begins,
      record {
        run = subst (λ (js : List Event). IsRunOf p m image js v.cores v.receipt) (sym events) ran.run;
        laws = subst (λ (js : List Event). ElevenClauses p m image js) (sym events) ran.laws;
        status = ran.told ∙ ap (status_of m) (sym events);
        over = λ e. over_is_told m v.fabric.journal ran.run.over (sym ran.told ∙ e);
      },
      whole.0,
    )

pub front_of_threads : (job : ThreadedJob) (output : Output) (p : Listing) (m : MachineSpec) (image : Contents) (v : RunParts) (status : ℕ) (sink : SinkUse) (failed : Failed) → job.output ≡ output → RanByThreads p m image v status → Writes (output_text output p m v.fabric.image v.fabric.journal) sink.before sink.now sink.faults sink.faults_now (Err failed) → RunsThreads job p m sink (Err fault.WriteFault)
front_of_threads job output p m image v status sink failed same ran written =
    let front = subst (λ (text : List ℕ). Writes text sink.before sink.now sink.faults sink.faults_now (Err failed)) (text_of_threads job output p m image v.fabric.image v.fabric.journal same ran.from) written
    in (image, ran.begins, v.fabric.journal, ran.run.legal, ran.run.over, front.0, front.1)

-- its program was not loaded
pub threads_refused : (job : ThreadedJob) (p : Listing) (m : MachineSpec) (f : LoadFault) (sink : SinkUse) → IsLoadRefusal p m f → sink.now ≡ sink.before → RunsThreads job p m sink (Err (fault_of_loading f))
threads_refused job p m load.OutOfMemory sink told same = same
threads_refused job p m f sink told same = (told, same)

-- ---- the files

-- the program was read, and the machine was not
pub threads_without_machine : {F : Type 0} (held : F → Which → List ℕ → Option (List ℕ)) (left name : F → Which → Option (List ℕ)) (taken faults : F → Which → ℕ) (job : ThreadedJob) (p : Listing) (f : Fault) (old mid new : F) (sink : SinkUse) (result : Result RunEnd Fault) → LeavesOthers held left name taken faults which.Program old mid → LeavesOthers held left name taken faults which.Machine mid new → ReadsProgram job.program (file_use held left name taken faults old mid which.Program) (Ok p) → ReadsMachine job.machine (file_use held left name taken faults mid new which.Machine) (Err f) → result ≡ Err f → sink.now ≡ sink.before → ServesThreads job (file_use held left name taken faults old new) sink result
threads_without_machine held left name taken faults job p f old mid new sink result first second program machine told same =
    inr (p, program_read held left name taken faults job.program p old mid new second program, inl (f, told, machine_read held left name taken faults job.machine (Err f) old mid new first machine, same))

-- both were read, and the program was run
pub threads_run : {F : Type 0} (held : F → Which → List ℕ → Option (List ℕ)) (left name : F → Which → Option (List ℕ)) (taken faults : F → Which → ℕ) (job : ThreadedJob) (p : Listing) (m : MachineSpec) (old mid new : F) (sink : SinkUse) (result : Result RunEnd Fault) → LeavesOthers held left name taken faults which.Program old mid → LeavesOthers held left name taken faults which.Machine mid new → ReadsProgram job.program (file_use held left name taken faults old mid which.Program) (Ok p) → ReadsMachine job.machine (file_use held left name taken faults mid new which.Machine) (Ok m) → RunsThreads job p m sink result → ServesThreads job (file_use held left name taken faults old new) sink result
threads_run held left name taken faults job p m old mid new sink result first second program machine ran =
    inr (p, program_read held left name taken faults job.program p old mid new second program, inr (m, machine_read held left name taken faults job.machine (Ok m) old mid new first machine, ran))
