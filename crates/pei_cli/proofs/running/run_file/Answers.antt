use Rattle.std.proofs.Common.{rules, ◌≡◌, Err, refl}
use Rattle.pei_cli.specs.Uses.{sink_use}
use Rattle.pei_cli.specs.Words.{job_of}
use Rattle.pei_cli.proofs.RunsServed.{failed, machine_refused, machine_run}
use Rattle.pei_cli.proofs.running.run_file.Goals as goal

pub returns-in_err-machine-clause-serves : goal.returns-in_err-machine-clause-serves
returns-in_err-machine-clause-serves g c =
    machine_refused g.F.Files.held g.F.Files.left g.F.Files.name g.F.Files.taken g.F.Files.faults
    (job_of c.args.program_name.now c.args.machine_name.now c.args.run.now) c.in_ok-program.program c.in_err-machine.field-0.0
    c.args.files.now c.read_program.new.files c.find_machine.new.files _ _
    c.in_ok-program.ensures.others c.in_err-machine.ensures.others c.in_ok-program.ensures.reads c.in_err-machine.ensures.reads
    (search rules) refl

pub returns-in_err-ran-clause-serves : goal.returns-in_err-ran-clause-serves
returns-in_err-ran-clause-serves g c =
    let job = job_of c.args.program_name.now c.args.machine_name.now c.args.run.now
    in let sink = sink_use g.K.Sink.written g.K.Sink.faults c.args.sink.now c.run_program.new.sink
    in let p = c.in_ok-program.program
    in let m = c.in_ok-machine.machine
    in let told : c.from_residual-in_err-ran.result ≡ Err c.in_err-ran.field-0.0 = search rules
    in machine_run g.F.Files.held g.F.Files.left g.F.Files.name g.F.Files.taken g.F.Files.faults job p m
    c.args.files.now c.read_program.new.files c.find_machine.new.files sink c.from_residual-in_err-ran.result
    c.in_ok-program.ensures.others c.in_ok-machine.ensures.others c.in_ok-program.ensures.reads c.in_ok-machine.ensures.reads
    (failed job p m sink c.from_residual-in_err-ran.result c.in_err-ran.field-0.0 told (c.in_err-ran.ensures.runs c.args.program_name.now c.args.machine_name.now))

pub returns-clause-serves : goal.returns-clause-serves
returns-clause-serves g c =
    machine_run g.F.Files.held g.F.Files.left g.F.Files.name g.F.Files.taken g.F.Files.faults
    (job_of c.args.program_name.now c.args.machine_name.now c.args.run.now) c.in_ok-program.program c.in_ok-machine.machine
    c.args.files.now c.read_program.new.files c.find_machine.new.files (sink_use g.K.Sink.written g.K.Sink.faults c.args.sink.now c.run_program.new.sink) _
    c.in_ok-program.ensures.others c.in_ok-machine.ensures.others c.in_ok-program.ensures.reads c.in_ok-machine.ensures.reads
    (c.in_ok-ran.ensures.runs c.args.program_name.now c.args.machine_name.now)
