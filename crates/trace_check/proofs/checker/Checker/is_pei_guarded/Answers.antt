use Rattle.std.proofs.Common.{◌≡◌, Some, refl, sym, ◌∙◌}
use Rattle.pei_types.specs.declared.events.EventKind.TheVariants as event
use Rattle.pei_types.specs.MachineState.{look_in}
use Rattle.trace_check.specs.CheckerParts.{state_of}
use Rattle.trace_check.proofs.Own.{pei_guarded, own_phase, before_place, before_read, before_leave, place_by_phase, leave_by_phase, read_by_phase}
use Rattle.trace_check.proofs.checker.Checker.is_pei_guarded.Goals as goal

pub returns-in-Enter : goal.returns-in-Enter
returns-in-Enter c =
    let v = c.args.self.now
    in let s = state_of v
    in let pei = c.in-Some.pei
    in let found : Some pei ≡ look_in s c.args.actor.core c.args.actor.lane = sym c.in-Some.is ∙ c.look.ensures.found
    in pei_guarded s c.args.actor c.args.kind.now (event.Enter c.in-Enter.seq) c.in-Enter.seq pei c.in-Enter.is refl c.requires.own found c.in-Some.ensures.here.0 c.in-Some.ensures.named v.machine _ refl
    (c.may_enter.ensures)

pub returns-in-Place : goal.returns-in-Place
returns-in-Place c =
    let v = c.args.self.now
    in let s = state_of v
    in let pei = c.in-Some.pei
    in let found : Some pei ≡ look_in s c.args.actor.core c.args.actor.lane = sym c.in-Some.is ∙ c.look.ensures.found
    in pei_guarded s c.args.actor c.args.kind.now (event.Place c.in-Place.seq c.in-Place.place) c.in-Place.seq pei c.in-Place.is refl c.requires.own found c.in-Some.ensures.here.0 c.in-Some.ensures.named v.machine _ refl
    (place_by_phase pei.phase (before_place pei.phase c.in-Place.seq c.in-Place.place (own_phase s c.args.actor c.args.kind.now (event.Place c.in-Place.seq c.in-Place.place) c.in-Place.seq pei c.in-Place.is refl c.requires.own found c.in-Some.ensures.here.0 c.in-Some.ensures.named)))

pub returns-in-Leave : goal.returns-in-Leave
returns-in-Leave c =
    let v = c.args.self.now
    in let s = state_of v
    in let pei = c.in-Some.pei
    in let found : Some pei ≡ look_in s c.args.actor.core c.args.actor.lane = sym c.in-Some.is ∙ c.look.ensures.found
    in pei_guarded s c.args.actor c.args.kind.now (event.Leave c.in-Leave.seq) c.in-Leave.seq pei c.in-Leave.is refl c.requires.own found c.in-Some.ensures.here.0 c.in-Some.ensures.named v.machine _ refl
    (leave_by_phase pei.phase (before_leave pei.phase c.in-Leave.seq (own_phase s c.args.actor c.args.kind.now (event.Leave c.in-Leave.seq) c.in-Leave.seq pei c.in-Leave.is refl c.requires.own found c.in-Some.ensures.here.0 c.in-Some.ensures.named)))

pub returns-in-Read : goal.returns-in-Read
returns-in-Read c =
    let v = c.args.self.now
    in let s = state_of v
    in let pei = c.in-Some.pei
    in let found : Some pei ≡ look_in s c.args.actor.core c.args.actor.lane = sym c.in-Some.is ∙ c.look.ensures.found
    in pei_guarded s c.args.actor c.args.kind.now (event.Read c.in-Read.seq) c.in-Read.seq pei c.in-Read.is refl c.requires.own found c.in-Some.ensures.here.0 c.in-Some.ensures.named v.machine _ refl
    (c.letter_serves.ensures v.machine s (record { taken = c.looks.ensures.taken; core = c.looks.ensures.own; block = c.looks.ensures.block })
    ∙ read_by_phase pei.phase _ (before_read pei.phase c.in-Read.seq (own_phase s c.args.actor c.args.kind.now (event.Read c.in-Read.seq) c.in-Read.seq pei c.in-Read.is refl c.requires.own found c.in-Some.ensures.here.0 c.in-Some.ensures.named)))

pub returns-in-Seal : goal.returns-in-Seal
returns-in-Seal c =
    let v = c.args.self.now
    in let s = state_of v
    in let pei = c.in-Some.pei
    in let found : Some pei ≡ look_in s c.args.actor.core c.args.actor.lane = sym c.in-Some.is ∙ c.look.ensures.found
    in pei_guarded s c.args.actor c.args.kind.now (event.Seal c.in-Seal.seq c.in-Seal.vault) c.in-Seal.seq pei c.in-Seal.is refl c.requires.own found c.in-Some.ensures.here.0 c.in-Some.ensures.named v.machine _ refl
    (c.may_seal.ensures)

pub returns-in-Act : goal.returns-in-Act
returns-in-Act c =
    let v = c.args.self.now
    in let s = state_of v
    in let pei = c.in-Some.pei
    in let found : Some pei ≡ look_in s c.args.actor.core c.args.actor.lane = sym c.in-Some.is ∙ c.look.ensures.found
    in pei_guarded s c.args.actor c.args.kind.now (event.Act c.in-Act.seq c.in-Act.reply) c.in-Act.seq pei c.in-Act.is refl c.requires.own found c.in-Some.ensures.here.0 c.in-Some.ensures.named v.machine _ refl
    (c.may_act.ensures)
