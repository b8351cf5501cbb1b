use Rattle.std.proofs.Common.{◌∙◌, ap}
use Rattle.pei_types.specs.Ends.{status_of}
use Rattle.pei_cli.specs.Words.{job_of}
use Rattle.pei_cli.proofs.Served.{served, served_front, asks_at_end}
use Rattle.pei_cli.proofs.running.run_program.Goals as goal

pub run_schedule-requires-clause-actors : goal.run_schedule-requires-clause-actors
run_schedule-requires-clause-actors g c = c.requires c.args.machine.now

pub write_output-requires-clause-asks : goal.write_output-requires-clause-asks
write_output-requires-clause-asks g c =
    asks_at_end c.args.program.now c.args.machine.now c.in-Ok.image _ c.in-Ok-run_schedule.end c.in-Ok.ensures.ok.1 c.in-Ok-run_schedule.ensures.run

pub returns-in-Ok-write_output-clause-runs : goal.returns-in-Ok-write_output-clause-runs
returns-in-Ok-write_output-clause-runs g c file name =
    served (job_of file name c.args.run.now)
    c.args.program.now c.args.machine.now c.in-Ok.image c.in-Ok-run_schedule.end c.run_status-status.result c.into_journal.result _
    (record {
      begins = record { whole = c.in-Ok.ensures.ok.1; loaded = c.in-Ok.ensures.ok.0 };
      end = c.in-Ok-run_schedule.ensures.run;
      legal = c.in-Ok-run_schedule.ensures.legal;
      laws = c.in-Ok-run_schedule.ensures.laws;
      ends = c.in-Ok-run_schedule.ensures.ends_in_time;
      spends = c.in-Ok-run_schedule.ensures.spends;
      told = c.run_status-status.ensures ∙ ap (status_of c.args.machine.now) c.journal.ensures.events;
    })
    c.into_journal.ensures.events c.in-Ok-write_output.ensures

pub returns-clause-runs : goal.returns-clause-runs
returns-clause-runs g c file name =
    served_front (job_of file name c.args.run.now)
    c.args.program.now c.args.machine.now c.in-Ok.image c.in-Ok-run_schedule.end c.run_status-status.result _ _
    (record {
      begins = record { whole = c.in-Ok.ensures.ok.1; loaded = c.in-Ok.ensures.ok.0 };
      end = c.in-Ok-run_schedule.ensures.run;
      legal = c.in-Ok-run_schedule.ensures.legal;
      laws = c.in-Ok-run_schedule.ensures.laws;
      ends = c.in-Ok-run_schedule.ensures.ends_in_time;
      spends = c.in-Ok-run_schedule.ensures.spends;
      told = c.run_status-status.ensures ∙ ap (status_of c.args.machine.now) c.journal.ensures.events;
    })
    c.in-Err-write_output.ensures
