use Rattle.std.proofs.Common.{rules, refl}
use Rattle.pei_cli.specs.Words.{threaded_job_of}
use Rattle.pei_cli.proofs.ThreadsServed.{threads_run, threads_without_machine}
use Rattle.pei_cli.proofs.threading.run_file_by_threads.Goals as goal

pub returns-in_err-machine-clause-serves : goal.returns-in_err-machine-clause-serves
returns-in_err-machine-clause-serves g c =
    threads_without_machine g.F.Files.held g.F.Files.left g.F.Files.name g.F.Files.taken g.F.Files.faults
    (threaded_job_of c.args.program_name.now c.args.machine_name.now c.args.run) c.in_ok-program.program c.in_err-machine.field-0.0
    c.args.files.now c.read_program.new.files c.find_machine.new.files _ _
    c.in_ok-program.ensures.others c.in_err-machine.ensures.others c.in_ok-program.ensures.reads c.in_err-machine.ensures.reads
    (search rules) refl

pub returns-clause-serves : goal.returns-clause-serves
returns-clause-serves g c =
    threads_run g.F.Files.held g.F.Files.left g.F.Files.name g.F.Files.taken g.F.Files.faults
    (threaded_job_of c.args.program_name.now c.args.machine_name.now c.args.run) c.in_ok-program.program c.in_ok-machine.machine
    c.args.files.now c.read_program.new.files c.find_machine.new.files _ _
    c.in_ok-program.ensures.others c.in_ok-machine.ensures.others c.in_ok-program.ensures.reads c.in_ok-machine.ensures.reads
    (c.run_by_threads.ensures.runs (threaded_job_of c.args.program_name.now c.args.machine_name.now c.args.run) refl)
