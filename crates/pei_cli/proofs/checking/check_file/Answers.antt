use Rattle.std.proofs.Common.{rules, refl}
use Rattle.pei_cli.specs.Words.{machine_as}
use Rattle.pei_cli.proofs.ChecksServed.{judged, machine_refused}
use Rattle.pei_cli.proofs.checking.check_file.Goals as goal

pub returns-in_err-machine-clause-serves : goal.returns-in_err-machine-clause-serves
returns-in_err-machine-clause-serves g c =
    machine_refused g.F.Files.held g.F.Files.left g.F.Files.name g.F.Files.taken g.F.Files.faults
    (record { program = c.args.program_name.now; machine = machine_as c.args.machine_name.now c.args.machine; trace = c.args.trace_name.now })
    c.in_ok-program.program c.in_err-machine.field-0.0
    c.args.files.now c.read_program.new.files c.find_machine.new.files _ _
    c.in_ok-program.ensures.others c.in_err-machine.ensures.others c.in_ok-program.ensures.reads c.in_err-machine.ensures.reads
    (search rules) (search rules) refl

pub returns-clause-serves : goal.returns-clause-serves
returns-clause-serves g c =
    judged g.F.Files.held g.F.Files.left g.F.Files.name g.F.Files.taken g.F.Files.faults
    (record { program = c.args.program_name.now; machine = machine_as c.args.machine_name.now c.args.machine; trace = c.args.trace_name.now })
    c.in_ok-program.program c.in_ok-machine.machine
    c.args.files.now c.read_program.new.files c.find_machine.new.files c.check_trace.new.files _ _
    c.in_ok-program.ensures.others c.in_ok-machine.ensures.others c.check_trace.ensures.others c.in_ok-program.ensures.reads c.in_ok-machine.ensures.reads
    c.check_trace.ensures.judges
