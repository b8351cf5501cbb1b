use Rattle.std.proofs.Common.{Some, sym, ap, subst, ◌∙◌}
use Rattle.pei_types.specs.declared.operations.Mode.{Mode}
use Rattle.sched_run.specs.Steps.{Tries}
use Rattle.sched_run.proofs.Granting.{grant_needs}
use Rattle.sched_run.proofs.Stepped.{announce_goes, announced_goes, enter_goes, reader_goes}
use Rattle.sched_run.proofs.turns.toward_enter.Goals as goal

pub returns-in_default : goal.returns-in_default
returns-in_default c = absurd (cc ((grant_needs c.args.fabric.now c.args.actor.core c.args.actor.lane c.requires.grant).3, c.needs.ensures, c.in_default.is))

pub try_turn-requires-in-Announced-clause-ready : goal.try_turn-requires-in-Announced-clause-ready
try_turn-requires-in-Announced-clause-ready c = c.requires.ready.waits c.in-Some.entry c.in-Announced.entry c.in-Some.mode (sym c.claim.ensures ∙ c.in-Announced.is) (sym c.needs.ensures ∙ c.in-Some.is)

pub returns-in-Held : goal.returns-in-Held
returns-in-Held c turns stalls =
    enter_goes c.args.fabric.now c.args.desk.now c.args.actor turns stalls c.requires.lane c.in-Some.entry c.in-Held.entry c.in-Some.mode c.in-Held.mode c.enter_turn.result c.enter_turn.new.fabric c.enter_turn.new.desk c.requires.grant (sym c.needs.ensures ∙ c.in-Some.is) (sym c.claim.ensures ∙ c.in-Held.is) c.enter_turn.ensures

pub returns-in-Writer : goal.returns-in-Writer
returns-in-Writer c turns stalls =
    announce_goes c.args.fabric.now c.args.desk.now c.args.actor turns stalls c.requires.lane c.in-Some.entry c.announce.new.self c.requires.grant (sym c.needs.ensures ∙ c.in-Some.is ∙ ap (λ (k : Mode). Some (c.in-Some.entry, k)) c.in-Writer.is) (sym c.claim.ensures ∙ c.in-Free.is) c.announce.ensures

pub returns-in-Reader : goal.returns-in-Reader
returns-in-Reader c turns stalls =
    reader_goes c.args.fabric.now c.args.desk.now c.args.actor turns stalls c.requires.lane c.in-Some.entry c.try_turn.result c.try_turn.new.desk c.requires.grant (sym c.needs.ensures ∙ c.in-Some.is ∙ ap (λ (k : Mode). Some (c.in-Some.entry, k)) c.in-Reader.is) (sym c.claim.ensures ∙ c.in-Free.is) (subst (λ (k : Mode). Tries c.args.desk.now c.args.actor c.in-Some.entry k c.try_turn.result c.try_turn.new.desk) c.in-Reader.is c.try_turn.ensures)

pub returns-in-Announced : goal.returns-in-Announced
returns-in-Announced c turns stalls =
    announced_goes c.args.fabric.now c.args.desk.now c.args.actor turns stalls c.requires.lane c.in-Some.entry c.in-Announced.entry c.in-Some.mode c.try_turn-in-Announced.result c.try_turn-in-Announced.new.desk c.requires.grant (sym c.needs.ensures ∙ c.in-Some.is) (sym c.claim.ensures ∙ c.in-Announced.is) c.try_turn-in-Announced.ensures
