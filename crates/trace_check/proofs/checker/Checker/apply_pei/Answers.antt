use Rattle.std.proofs.Common.{◌≡◌, ℕ, Some, refl, sym, ◌∙◌}
use Rattle.std.proofs.lemmas.Bool.{and_parts}
use Rattle.pei_types.specs.declared.events.EventKind.TheVariants as event
use Rattle.pei_types.specs.declared.inflight_looks.Phase.TheVariants as phase
use Rattle.pei_types.specs.MachineState.{is_phase, look_in}
use Rattle.pei_types.specs.Guard.{letter_serves}
use Rattle.trace_check.specs.CheckerParts.{state_of}
use Rattle.trace_check.proofs.Own.{own_guard, own_number, own_phase, before_act, serves_has, acts_owning, acts_ready, seal_of, moved_own}
use Rattle.trace_check.proofs.checker.Checker.apply_pei.Goals as goal

pub read-requires-clause-present : goal.read-requires-clause-present
read-requires-clause-present c =
    let v = c.args.self.now
    in let s = state_of v
    in let pei = c.in-Some.pei
    in let found : Some pei ≡ look_in s c.args.actor.core c.args.actor.lane = sym c.in-Some.is ∙ c.look.ensures.found
    in let guarded = own_guard s c.args.actor c.args.kind.now (event.Read c.in-Read.seq) c.in-Read.seq pei c.in-Read.is refl c.requires.may.own found c.in-Some.ensures.here.0 c.in-Some.ensures.named v.machine refl c.requires.may.guarded
    in serves_has v.machine s pei (and_parts (is_phase pei.phase phase.HostPlaced) (letter_serves v.machine s pei) guarded).1

pub act-requires-clause-inside : goal.act-requires-clause-inside
act-requires-clause-inside c = (c.requires.act c.args.actor.core c.args.actor.lane c.in-Some.pei (sym c.look.ensures.found ∙ c.in-Some.is)).1

pub act-requires-clause-seal : goal.act-requires-clause-seal
act-requires-clause-seal c sealed =
    let v = c.args.self.now
    in seal_of v.machine (state_of v) c.args.actor.core c.args.actor.lane c.in-Some.pei c.requires.invariants.on_the_way (sym c.look.ensures.found ∙ c.in-Some.is) sealed

pub act-requires-clause-owned : goal.act-requires-clause-owned
act-requires-clause-owned c =
    let v = c.args.self.now
    in let s = state_of v
    in let pei = c.in-Some.pei
    in let found : Some pei ≡ look_in s c.args.actor.core c.args.actor.lane = sym c.in-Some.is ∙ c.look.ensures.found
    in acts_owning v.machine s pei (own_guard s c.args.actor c.args.kind.now (event.Act c.in-Act.seq c.in-Act.reply) c.in-Act.seq pei c.in-Act.is refl c.requires.may.own found c.in-Some.ensures.here.0 c.in-Some.ensures.named v.machine refl c.requires.may.guarded)

pub act-requires-clause-ready : goal.act-requires-clause-ready
act-requires-clause-ready c =
    let v = c.args.self.now
    in let s = state_of v
    in let pei = c.in-Some.pei
    in let found : Some pei ≡ look_in s c.args.actor.core c.args.actor.lane = sym c.in-Some.is ∙ c.look.ensures.found
    in acts_ready v.machine s pei (own_guard s c.args.actor c.args.kind.now (event.Act c.in-Act.seq c.in-Act.reply) c.in-Act.seq pei c.in-Act.is refl c.requires.may.own found c.in-Some.ensures.here.0 c.in-Some.ensures.named v.machine refl c.requires.may.guarded)
    (before_act pei.phase c.in-Act.seq c.in-Act.reply (own_phase s c.args.actor c.args.kind.now (event.Act c.in-Act.seq c.in-Act.reply) c.in-Act.seq pei c.in-Act.is refl c.requires.may.own found c.in-Some.ensures.here.0 c.in-Some.ensures.named))

pub returns-in-Act : goal.returns-in-Act
returns-in-Act c =
    let v = c.args.self.now
    in let s = state_of v
    in let pei = c.in-Some.pei
    in let found : Some pei ≡ look_in s c.args.actor.core c.args.actor.lane = sym c.in-Some.is ∙ c.look.ensures.found
    in moved_own v c.act.new.self c.args.actor c.args.kind.now (λ (n : ℕ). event.Act n c.in-Act.reply) c.in-Act.seq pei c.in-Act.is c.in-Some.ensures.here.0 c.in-Some.ensures.here.1
    (own_number s c.args.actor c.args.kind.now (event.Act c.in-Act.seq c.in-Act.reply) c.in-Act.seq pei c.in-Act.is refl c.requires.may.own found c.in-Some.ensures.here.0 c.in-Some.ensures.named)
    (c.act.ensures c.in-Act.reply)
