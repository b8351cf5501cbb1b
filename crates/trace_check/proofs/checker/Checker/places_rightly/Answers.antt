use Rattle.std.proofs.Common.{◌≡◌, Some, refl, sym, ◌∙◌}
use Rattle.pei_types.specs.declared.events.EventKind.TheVariants as event
use Rattle.pei_types.specs.MachineState.{look_in}
use Rattle.trace_check.specs.CheckerParts.{state_of}
use Rattle.trace_check.proofs.Evictions.{placed_so}
use Rattle.trace_check.proofs.Own.{named_look}
use Rattle.trace_check.proofs.checker.Checker.places_rightly.Goals as goal

pub returns-in-Some : goal.returns-in-Some
returns-in-Some c =
    let v = c.args.self.now
    in let s = state_of v
    in let pei = c.in-Some.pei
    in let found : Some pei ≡ look_in s c.args.actor.core c.args.actor.lane = sym c.in-Some.is ∙ c.look.ensures.found
    in placed_so v.machine s c.args.actor c.args.kind.now c.in-Place.seq c.in-Place.place c.placement.result pei c.is_same_place.result c.in-Place.is
    (named_look s c.args.actor c.args.kind.now (event.Place c.in-Place.seq c.in-Place.place) c.in-Place.seq pei c.in-Place.is refl c.requires.own found c.in-Some.ensures.here.0 c.in-Some.ensures.named) c.placement.ensures c.is_same_place.ensures
