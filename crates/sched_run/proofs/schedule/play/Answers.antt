use Rattle.std.proofs.Common.{IsTrue, sym, ◌∙◌, ap, subst, arith, rules}
use Rattle.pei_types.specs.declared.machines.MachineSpec.{MachineSpec}
use Rattle.pei_types.specs.Calls.{is_actor_of}
use Rattle.sched_run.specs.Choice.{policy_of}
use Rattle.sched_run.proofs.Played.{all_spent, chooses, room_left, went_on, stopped_over, stopped_unchosen, unchosen_spent, unspent_over, used_up}
use Rattle.sched_run.proofs.schedule.play.Goals as goal

pub returns-then-is_over-clause-after : goal.returns-then-is_over-clause-after
returns-then-is_over-clause-after c =
    stopped_over c.args.program.now c.args.policy.now c.loop-made.made c.args.turns c.args.running.now c.loop-made.running c.loop-made.invariant.so_far (search rules) (sym c.is_over.ensures.over ∙ c.if-is_over.true)

pub returns-in_default-clause-after : goal.returns-in_default-clause-after
returns-in_default-clause-after c =
    stopped_unchosen c.args.program.now c.args.policy.now c.loop-made.made c.args.turns c.args.running.now c.loop-made.running c.loop-made.invariant.so_far (search rules) (sym c.is_over.ensures.over ∙ c.if-is_over.false)
    (ap (λ (m : MachineSpec). policy_of m c.args.policy.now c.loop-made.made c.loop-made.running.stalls) (sym c.machine-machine.ensures) ∙ sym c.in_default.ensures.actor)

pub turn-requires-clause-actor : goal.turn-requires-clause-actor
turn-requires-clause-actor c =
    subst (λ (m : MachineSpec). IsTrue (is_actor_of m c.in-Some.actor)) (sym c.loop-made.invariant.so_far.machine)
    (chooses c.policies_choose_actors.ensures c.args.running.now.fabric.machine c.args.policy.now c.requires.actors c.loop-made.made c.loop-made.running.stalls c.in-Some.actor (ap (λ (m : MachineSpec). policy_of m c.args.policy.now c.loop-made.made c.loop-made.running.stalls) (sym c.machine-machine.ensures) ∙ sym c.in-Some.ensures.actor))

pub turn-requires-clause-room : goal.turn-requires-clause-room
turn-requires-clause-room c = room_left c.loop-made.running c.is_over.ensures.within (sym c.is_over.ensures.over ∙ c.if-is_over.false)

pub loop-made-preserved : goal.loop-made-preserved
loop-made-preserved c = record {
  so_far = went_on c.args.program.now c.args.policy.now c.loop-made.made c.args.running.now c.loop-made.running c.turn.new.self c.in-Some.actor c.loop-made.invariant.so_far (sym c.is_over.ensures.over ∙ c.if-is_over.false)
      (ap (λ (m : MachineSpec). policy_of m c.args.policy.now c.loop-made.made c.loop-made.running.stalls) (sym c.machine-machine.ensures) ∙ sym c.in-Some.ensures.actor)
      c.turn.ensures.machine c.turn.ensures.image c.turn.ensures.running (c.turn.ensures.turn c.loop-made.made);
  drawn = c.in-Some.ensures.draws;
  stalls = omega (arith, c.turn.ensures.stalls, c.loop-made.invariant.stalls);
}

pub returns-clause-after : goal.returns-clause-after
returns-clause-after c = used_up c.args.program.now c.args.policy.now c.loop-made.made c.args.turns c.args.running.now c.loop-made.running c.loop-made.invariant.so_far (search rules)

pub returns-then-is_over-clause-spends : goal.returns-then-is_over-clause-spends
returns-then-is_over-clause-spends c =
    unspent_over c.args.program.now c.args.policy.now c.args.turns c.loop-made.made c.loop-made.running c.loop-made.invariant.so_far.running (sym c.is_over.ensures.over ∙ c.if-is_over.true)

pub returns-in_default-clause-spends : goal.returns-in_default-clause-spends
returns-in_default-clause-spends c =
    unchosen_spent c.args.running.now.fabric.machine c.loop-made.running.fabric.machine c.args.policy.now c.args.turns c.loop-made.running.fabric.journal c.loop-made.made c.loop-made.running.stalls
    (ap (λ (m : MachineSpec). policy_of m c.args.policy.now c.loop-made.made c.loop-made.running.stalls) (sym c.machine-machine.ensures) ∙ sym c.in_default.ensures.actor)

pub returns-clause-spends : goal.returns-clause-spends
returns-clause-spends c = all_spent c.loop-made.running.fabric.machine c.args.policy.now c.args.turns c.loop-made.running.fabric.journal
