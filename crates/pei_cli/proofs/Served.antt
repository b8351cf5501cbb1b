-- A run and its output, as the answer of a command.
use Rattle.std.proofs.Common.{◌≡◌, ℕ, ◌*◌, List, Ok, Err, All, None, sym, ◌∙◌, ap, subst}
use Rattle.pei_types.specs.declared.events.Event.{Event}
use Rattle.pei_types.specs.declared.machines.MachineSpec.{MachineSpec}
use Rattle.pei_types.specs.Ends.{status_of}
use Rattle.pei_types.specs.Image.{load_refusal}
use Rattle.pei_types.specs.Legal.{Legal}
use Rattle.pei_types.specs.Program.{Listing, Contents}
use Rattle.pei_types.specs.Schedule.{Run}
use Rattle.journal.specs.Recorded.{Recorded}
use Rattle.pei_io.specs.declared.files.Failed.{Failed}
use Rattle.pei_io.specs.Outside.{Writes}
use Rattle.pei_loader.specs.Faults.{IsLoadRefusal}
use Rattle.pei_loader.specs.declared.faults.LoadFault.{LoadFault}
use Rattle.pei_loader.specs.declared.faults.LoadFault.TheVariants as load
use Rattle.report.specs.Shown.{HasWords}
use Rattle.sched_run.specs.Scheduled.{EndsInTime, IsEndOf, SpendsTurns, run_of}
use Rattle.sched_run.specs.ElevenClauses.{ElevenClauses}
use Rattle.sched_run.specs.declared.schedule.SchedEnd.{SchedEnd}
use Rattle.fabric.specs.History.{History}
use Rattle.pei_cli.specs.Commands.{Output}
use Rattle.pei_cli.specs.FaultLines.{fault_of_loading}
use Rattle.pei_cli.specs.Jobs.{Job}
use Rattle.pei_cli.specs.Outcomes.{Begins, RunsJob, output_text}
use Rattle.pei_cli.specs.Uses.{SinkUse}
use Rattle.pei_cli.specs.declared.ends.PlainEnd.TheVariants as ends
use Rattle.pei_cli.specs.declared.faults.Fault.TheVariants as fault
use Rattle.pei_cli.proofs.Loaded.{loaded_asks}

-- what is known when the output is written
pub record Ran (job : Job) (p : Listing) (m : MachineSpec) (image : Contents) (v : SchedEnd) (status : ℕ) : Type 0 where
  pub begins : Begins p m image
  pub end : IsEndOf m image (run_of p m image job.policy job.turns) v
  pub legal : Legal p m image v.fabric.journal
  pub laws : ElevenClauses p m image v.fabric.journal
  pub ends : EndsInTime m job.policy job.turns v.fabric.journal
  pub spends : SpendsTurns m job.policy job.turns v.fabric.journal v.turns
  pub told : status ≡ status_of m v.fabric.journal

-- the journal and the image at the end
journal_is : (m : MachineSpec) (image : Contents) (r : Run) (v : SchedEnd) → IsEndOf m image r v → v.fabric.journal ≡ r.journal
journal_is m image r v end = ap (λ (h : History). h.journal) end.fabric

-- the asked words are in the memory of the machine at the end
pub asks_at_end : (p : Listing) (m : MachineSpec) (image : Contents) (r : Run) (v : SchedEnd) → load_refusal p m ≡ None → IsEndOf m image r v → All (HasWords (64 * v.fabric.machine.blocks)) p.asks
asks_at_end p m image r v whole end = subst (λ (h : History). All (HasWords (64 * h.machine.blocks)) p.asks) (sym end.fabric) (loaded_asks p m whole)

-- the output is that of the run's journal, from the image that it began with
text_is : (output : Output) (p : Listing) (m : MachineSpec) (image : Contents) (r : Run) (v : SchedEnd) → IsEndOf m image r v → output_text output p m v.fabric.image v.fabric.journal ≡ output_text output p m image r.journal
text_is output p m image r v end = ap (λ (h : History). output_text output p m h.image h.journal) end.fabric

pub served : (job : Job) (p : Listing) (m : MachineSpec) (image : Contents) (v : SchedEnd) (status : ℕ) (journal : Recorded) (sink : SinkUse) → Ran job p m image v status → journal.events ≡ v.fabric.journal → Writes (output_text job.output p m v.fabric.image v.fabric.journal) sink.before sink.now sink.faults sink.faults_now (Ok tt) → RunsJob job p m sink (Ok (ends.Sched status journal v.cores v.turns))
served job p m image v status journal sink ran events written =
    let r : Run = run_of p m image job.policy job.turns
    in let is = journal_is m image r v ran.end
    in let whole = subst (λ (text : List ℕ). Writes text sink.before sink.now sink.faults sink.faults_now (Ok tt)) (text_is job.output p m image r v ran.end) written
    in (
      image,
      ran.begins,
      (ran.told ∙ ap (status_of m) is, events ∙ is, ran.end.cores, ran.end.turns),
      subst (λ (js : List Event). Legal p m image js) is ran.legal,
      subst (λ (js : List Event). ElevenClauses p m image js) is ran.laws,
      subst (λ (js : List Event). EndsInTime m job.policy job.turns js) is ran.ends,
      subst (λ (js : List Event). SpendsTurns m job.policy job.turns js r.turns) is (subst (λ (n : ℕ). SpendsTurns m job.policy job.turns v.fabric.journal n) ran.end.turns ran.spends),
      whole.0,
    )

pub served_front : (job : Job) (p : Listing) (m : MachineSpec) (image : Contents) (v : SchedEnd) (status : ℕ) (sink : SinkUse) (failed : Failed) → Ran job p m image v status → Writes (output_text job.output p m v.fabric.image v.fabric.journal) sink.before sink.now sink.faults sink.faults_now (Err failed) → RunsJob job p m sink (Err fault.WriteFault)
served_front job p m image v status sink failed ran written =
    let front = subst (λ (text : List ℕ). Writes text sink.before sink.now sink.faults sink.faults_now (Err failed)) (text_is job.output p m image (run_of p m image job.policy job.turns) v ran.end) written
    in (image, ran.begins, front.0, front.1)

-- its program was not loaded
pub refused : (job : Job) (p : Listing) (m : MachineSpec) (f : LoadFault) (sink : SinkUse) → IsLoadRefusal p m f → sink.now ≡ sink.before → RunsJob job p m sink (Err (fault_of_loading f))
refused job p m load.OutOfMemory sink told same = same
refused job p m f sink told same = (told, same)
