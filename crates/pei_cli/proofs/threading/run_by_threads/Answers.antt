use Rattle.std.proofs.Common.{◌∙◌, ap}
use Rattle.pei_types.specs.Ends.{status_of}
use Rattle.pei_cli.specs.Words.{output_as}
use Rattle.pei_cli.proofs.ThreadsServed.{asks_of_threads, front_of_threads, threads_served}
use Rattle.pei_cli.proofs.threading.run_by_threads.Goals as goal

pub write_output-requires-clause-asks : goal.write_output-requires-clause-asks
write_output-requires-clause-asks g c =
    asks_of_threads c.args.program.now c.args.machine.now _ c.in-Ok.ensures.ok.1 c.in-Ok-run_threads.ensures.fabric.0

pub returns-in-Ok-write_output-clause-runs : goal.returns-in-Ok-write_output-clause-runs
returns-in-Ok-write_output-clause-runs g c job same =
    threads_served job (output_as c.args.output)
    c.args.program.now c.args.machine.now c.in-Ok.image c.in-Ok-run_threads.parts c.run_status-status.result c.into_journal.result _ same
    (record {
      begins = record { whole = c.in-Ok.ensures.ok.1; loaded = c.in-Ok.ensures.ok.0 };
      of_machine = c.in-Ok-run_threads.ensures.fabric.0;
      from = c.in-Ok-run_threads.ensures.fabric.1;
      run = c.in-Ok-run_threads.ensures.run;
      laws = c.legal_journals_meet_clauses.ensures c.args.program.now c.args.machine.now c.in-Ok.image _ c.in-Ok-run_threads.ensures.run.legal;
      told = c.run_status-status.ensures ∙ ap (status_of c.args.machine.now) c.journal.ensures.events;
    })
    c.into_journal.ensures.events c.in-Ok-write_output.ensures

pub returns-clause-runs : goal.returns-clause-runs
returns-clause-runs g c job same =
    front_of_threads job (output_as c.args.output)
    c.args.program.now c.args.machine.now c.in-Ok.image c.in-Ok-run_threads.parts c.run_status-status.result _ _ same
    (record {
      begins = record { whole = c.in-Ok.ensures.ok.1; loaded = c.in-Ok.ensures.ok.0 };
      of_machine = c.in-Ok-run_threads.ensures.fabric.0;
      from = c.in-Ok-run_threads.ensures.fabric.1;
      run = c.in-Ok-run_threads.ensures.run;
      laws = c.legal_journals_meet_clauses.ensures c.args.program.now c.args.machine.now c.in-Ok.image _ c.in-Ok-run_threads.ensures.run.legal;
      told = c.run_status-status.ensures ∙ ap (status_of c.args.machine.now) c.journal.ensures.events;
    })
    c.in-Err-write_output.ensures
