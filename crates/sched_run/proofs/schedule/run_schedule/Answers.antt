use Rattle.sched_run.proofs.Played.{each_clause, ended, ended_in_time, ended_legally, ended_spent}
use Rattle.sched_run.proofs.schedule.run_schedule.Goals as goal

pub play-made-requires-clause-running : goal.play-made-requires-clause-running
play-made-requires-clause-running c = c.in_ok-running.ensures.running c.args.program.now

pub returns-clause-run : goal.returns-clause-run
returns-clause-run c =
    ended c.args.program.now c.args.spec.now c.args.image.now c.args.policy.now c.args.turns c.play-made.result c.in_ok-running.running c.play-made.new.running c.in_ok-running.ensures.fabric c.play-made.ensures.after

pub returns-clause-laws : goal.returns-clause-laws
returns-clause-laws c =
    each_clause c.args.program.now c.args.spec.now c.args.image.now c.play-made.new.running.fabric.journal
    (ended_legally c.whole_runs_are_legal.ensures c.args.program.now c.args.spec.now c.args.image.now c.args.policy.now c.args.turns c.play-made.result c.in_ok-running.running c.play-made.new.running c.in_ok-running.ensures.fabric c.play-made.ensures.after)

pub returns-clause-legal : goal.returns-clause-legal
returns-clause-legal c =
    ended_legally c.whole_runs_are_legal.ensures c.args.program.now c.args.spec.now c.args.image.now c.args.policy.now c.args.turns c.play-made.result c.in_ok-running.running c.play-made.new.running c.in_ok-running.ensures.fabric c.play-made.ensures.after

pub returns-clause-ends_in_time : goal.returns-clause-ends_in_time
returns-clause-ends_in_time c =
    ended_in_time c.serial_runs_end.ensures c.args.program.now c.args.spec.now c.args.image.now c.args.policy.now c.args.turns (record { fabric = c.play-made.new.running.fabric; cores = c.play-made.new.running.ends; turns = c.play-made.result }) (returns-clause-run c)

pub returns-clause-spends : goal.returns-clause-spends
returns-clause-spends c =
    ended_spent c.args.program.now c.args.spec.now c.args.image.now c.args.policy.now c.args.turns c.play-made.result c.in_ok-running.running c.play-made.new.running c.in_ok-running.ensures.fabric c.play-made.ensures.after c.play-made.ensures.spends
