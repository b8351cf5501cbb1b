use Rattle.std.proofs.Common.{rules, ◌≡◌, ℕ, List, [], get_or, Option, Some, IfSome, subst, sym}
use Rattle.pei_cli.specs.Words.{threaded_job_of}
use Rattle.pei_cli.specs.Jobs.{ThreadedJob, threaded_file_of}
use Rattle.pei_cli.specs.ThreadedOutcomes.{ServesThreads}
use Rattle.pei_cli.specs.Uses.{TouchesOnly, file_use, sink_use}
use Rattle.pei_cli.specs.declared.words.ThreadedRun.{ThreadedRun}
use Rattle.pei_cli.proofs.threading.threaded.Goals as goal

-- a fact of the run that is asked for, by the names of its files
of_threads : (asked : Option ThreadedJob) (words : List (List ℕ)) (program machine : List ℕ) (run : ThreadedRun) (P : ThreadedJob → Type 0) → asked ≡ Some (threaded_job_of (get_or words 1 []) (get_or words 2 []) run) → get_or words 1 [] ≡ program → get_or words 2 [] ≡ machine → P (threaded_job_of program machine run) → IfSome asked P
of_threads asked words program machine run P same first second fact =
    subst (λ (o : Option ThreadedJob). IfSome o P) (sym same)
    (subst (λ (name : List ℕ). P (threaded_job_of name (get_or words 2 []) run)) (sym first)
    (subst (λ (name : List ℕ). P (threaded_job_of program name run)) (sym second) fact))

pub returns-in-Some-clause-serves : goal.returns-in-Some-clause-serves
returns-in-Some-clause-serves g c =
    of_threads _ c.args.words.now c.as_str.result.now c.as_str-in-Some.result.now c.in-Some.run'
    (λ j. ServesThreads j (file_use g.F.Files.held g.F.Files.left g.F.Files.name g.F.Files.taken g.F.Files.faults c.args.files.now c.run_file_by_threads.new.files) (sink_use g.K.Sink.written g.K.Sink.faults c.args.sink.now c.run_file_by_threads.new.sink) c.run_file_by_threads.result)
    c.in-Some.ensures.0 (search rules) (search rules) c.run_file_by_threads.ensures.serves

pub returns-in-Some-clause-others : goal.returns-in-Some-clause-others
returns-in-Some-clause-others g c =
    of_threads _ c.args.words.now c.as_str.result.now c.as_str-in-Some.result.now c.in-Some.run'
    (λ j. TouchesOnly g.F.Files.held g.F.Files.left g.F.Files.name g.F.Files.taken g.F.Files.faults (threaded_file_of j) c.args.files.now c.run_file_by_threads.new.files)
    c.in-Some.ensures.0 (search rules) (search rules) c.run_file_by_threads.ensures.others
