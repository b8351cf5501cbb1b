-- A check of a trace, by the reading of its files.
use Rattle.std.proofs.Common.{◌≡◌, inl, inr, ℕ, List, Option, Result, Ok, Err, subst, ◌∙◌}
use Rattle.pei_types.specs.declared.machines.MachineSpec.{MachineSpec}
use Rattle.pei_types.specs.Program.{Listing}
use Rattle.pei_io.specs.declared.files.Which.{Which}
use Rattle.pei_io.specs.declared.files.Which.TheVariants as which
use Rattle.pei_io.specs.Outside.{LeavesOthers}
use Rattle.pei_cli.specs.Jobs.{Question, Checks}
use Rattle.pei_cli.specs.Outcomes.{LoadsAndJudges, ReadsMachine, ReadsProgram, Serves}
use Rattle.pei_cli.specs.Uses.{FileUse, IsUnopened, SinkUse, file_use}
use Rattle.pei_cli.specs.declared.ends.PlainEnd.{PlainEnd}
use Rattle.pei_cli.specs.declared.faults.Fault.{Fault}
use Rattle.pei_cli.proofs.FileUses.{use_after, use_before}

module _ {F : Type 0} (held : F → Which → List ℕ → Option (List ℕ)) (left name : F → Which → Option (List ℕ)) (taken faults : F → Which → ℕ) (question : Question) (p : Listing) where
  -- the program was read, and the machine was not
  pub machine_refused : (f : Fault) (old mid new : F) (sink : SinkUse) (result : Result PlainEnd Fault) → LeavesOthers held left name taken faults which.Program old mid → LeavesOthers held left name taken faults which.Machine mid new → ReadsProgram question.program (file_use held left name taken faults old mid which.Program) (Ok p) → ReadsMachine question.machine (file_use held left name taken faults mid new which.Machine) (Err f) → IsUnopened (file_use held left name taken faults old new which.Trace) → result ≡ Err f → sink.now ≡ sink.before → Serves (Checks question) (file_use held left name taken faults old new) sink result
  machine_refused f old mid new sink result first second program machine unopened told same =
      inr (
        p,
        subst (λ (u : FileUse). ReadsProgram question.program u (Ok p)) (use_after held left name taken faults which.Machine which.Program old mid new (λ e. cc e) second) program,
        inl (
          f,
          told,
          subst (λ (u : FileUse). ReadsMachine question.machine u (Err f)) (use_before held left name taken faults which.Program which.Machine old mid new (λ e. cc e) first) machine,
          unopened,
          same,
        ),
      )

  -- both were read, and the program was loaded and the trace judged, or not
  pub judged : (m : MachineSpec) (old mid late new : F) (sink : SinkUse) (result : Result PlainEnd Fault) → LeavesOthers held left name taken faults which.Program old mid → LeavesOthers held left name taken faults which.Machine mid late → LeavesOthers held left name taken faults which.Trace late new → ReadsProgram question.program (file_use held left name taken faults old mid which.Program) (Ok p) → ReadsMachine question.machine (file_use held left name taken faults mid late which.Machine) (Ok m) → LoadsAndJudges question.trace p m (file_use held left name taken faults late new which.Trace) sink result → Serves (Checks question) (file_use held left name taken faults old new) sink result
  judged m old mid late new sink result first second third program machine checked =
      inr (
        p,
        subst (λ (u : FileUse). ReadsProgram question.program u (Ok p))
            (use_after held left name taken faults which.Machine which.Program old mid late (λ e. cc e) second ∙ use_after held left name taken faults which.Trace which.Program old late new (λ e. cc e) third) program,
        inr (
          m,
          subst (λ (u : FileUse). ReadsMachine question.machine u (Ok m))
              (use_before held left name taken faults which.Program which.Machine old mid late (λ e. cc e) first ∙ use_after held left name taken faults which.Trace which.Machine old late new (λ e. cc e) third) machine,
          subst (λ (u : FileUse). LoadsAndJudges question.trace p m u sink result)
              (use_before held left name taken faults which.Machine which.Trace mid late new (λ e. cc e) second ∙ use_before held left name taken faults which.Program which.Trace old mid new (λ e. cc e) first) checked,
        ),
      )
