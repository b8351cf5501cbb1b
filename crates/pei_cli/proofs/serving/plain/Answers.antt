use Rattle.std.proofs.Common.{rules, ◌≡◌, ℕ, List, [], get_or, Option, Some, IfSome, subst, sym}
use Rattle.pei_cli.specs.Words.{checks_as, runs_as, runs_kernel_as}
use Rattle.pei_cli.specs.Jobs.{Asked}
use Rattle.pei_cli.specs.Outcomes.{Serves}
use Rattle.pei_cli.specs.Uses.{file_use, sink_use}
use Rattle.pei_cli.specs.declared.words.Machine.{Machine}
use Rattle.pei_cli.specs.declared.words.Run.{Run}
use Rattle.pei_cli.proofs.serving.plain.Goals as goal

-- a fact of the run that is asked for, by the names of its files
of_run : (asked : Option Asked) (words : List (List ℕ)) (program machine : List ℕ) (run : Run) (P : Asked → Type 0) → asked ≡ Some (runs_as (get_or words 1 []) (get_or words 2 []) run) → get_or words 1 [] ≡ program → get_or words 2 [] ≡ machine → P (runs_as program machine run) → IfSome asked P
of_run asked words program machine run P same first second fact =
    subst (λ (o : Option Asked). IfSome o P) (sym same)
    (subst (λ (name : List ℕ). P (runs_as name (get_or words 2 []) run)) (sym first)
    (subst (λ (name : List ℕ). P (runs_as program name run)) (sym second) fact))

pub returns-in-Some-Run-clause-serves : goal.returns-in-Some-Run-clause-serves
returns-in-Some-Run-clause-serves g c =
    let asks = rw c.in-Some-Run.field-0-is at c.in-Some-Run.ensures
    in of_run _ c.args.words.now c.as_str.result.now c.as_str-in-Some-Run.result.now c.in-Some-Run.run'
    (λ a. Serves a (file_use g.F.Files.held g.F.Files.left g.F.Files.name g.F.Files.taken g.F.Files.faults c.args.files.now c.run_file.new.files) (sink_use g.K.Sink.written g.K.Sink.faults c.args.sink.now c.run_file.new.sink) c.run_file.result)
    asks.0 (search rules) (search rules) c.run_file.ensures.serves

-- the same of the run of a kernel
of_kernel_run : (asked : Option Asked) (words : List (List ℕ)) (kernel machine : List ℕ) (run : Run) (P : Asked → Type 0) → asked ≡ Some (runs_kernel_as (get_or words 1 []) (get_or words 2 []) run) → get_or words 1 [] ≡ kernel → get_or words 2 [] ≡ machine → P (runs_kernel_as kernel machine run) → IfSome asked P
of_kernel_run asked words kernel machine run P same first second fact =
    subst (λ (o : Option Asked). IfSome o P) (sym same)
    (subst (λ (name : List ℕ). P (runs_kernel_as name (get_or words 2 []) run)) (sym first)
    (subst (λ (name : List ℕ). P (runs_kernel_as kernel name run)) (sym second) fact))

pub returns-in-Some-RunKernel-clause-serves : goal.returns-in-Some-RunKernel-clause-serves
returns-in-Some-RunKernel-clause-serves g c =
    let asks = rw c.in-Some-RunKernel.field-0-is at c.in-Some-RunKernel.ensures
    in of_kernel_run _ c.args.words.now c.as_str-in-Some-RunKernel.result.now c.as_str-in-Some-RunKernel-2.result.now c.in-Some-RunKernel.run'
    (λ a. Serves a (file_use g.F.Files.held g.F.Files.left g.F.Files.name g.F.Files.taken g.F.Files.faults c.args.files.now c.run_kernel_file.new.files) (sink_use g.K.Sink.written g.K.Sink.faults c.args.sink.now c.run_kernel_file.new.sink) c.run_kernel_file.result)
    asks.0 (search rules) (search rules) c.run_kernel_file.ensures.serves

-- the same of a check
of_check : (asked : Option Asked) (words : List (List ℕ)) (program machine trace : List ℕ) (k : Machine) (P : Asked → Type 0) → asked ≡ Some (checks_as (get_or words 1 []) (get_or words 2 []) (get_or words 3 []) k) → get_or words 1 [] ≡ program → get_or words 2 [] ≡ machine → get_or words 3 [] ≡ trace → P (checks_as program machine trace k) → IfSome asked P
of_check asked words program machine trace k P same first second third fact =
    subst (λ (o : Option Asked). IfSome o P) (sym same)
    (subst (λ (name : List ℕ). P (checks_as name (get_or words 2 []) (get_or words 3 []) k)) (sym first)
    (subst (λ (name : List ℕ). P (checks_as program name (get_or words 3 []) k)) (sym second)
    (subst (λ (name : List ℕ). P (checks_as program machine name k)) (sym third) fact)))

pub returns-in-Some-Check-clause-serves : goal.returns-in-Some-Check-clause-serves
returns-in-Some-Check-clause-serves g c =
    let asks = rw c.in-Some-Check.field-0-is at c.in-Some-Check.ensures
    in of_check _ c.args.words.now _ _ _ c.in-Some-Check.machine
    (λ a. Serves a (file_use g.F.Files.held g.F.Files.left g.F.Files.name g.F.Files.taken g.F.Files.faults c.args.files.now c.check_file.new.files) (sink_use g.K.Sink.written g.K.Sink.faults c.args.sink.now c.check_file.new.sink) c.check_file.result)
    asks.0 (search rules) (search rules) (search rules) c.check_file.ensures.serves
