use Rattle.std.proofs.Common.{option_map, ap, sym, ◌∙◌, arith}
use Rattle.pei_types.specs.declared.stamps.Stamped.{Stamped}
use Rattle.fabric.proofs.Finding.{found_at, found_nowhere, some_within, stamps_rise}
use Rattle.fabric.proofs.sections.Section.event_with.Goals as goal

pub place_near-requires-clause-rising : goal.place_near-requires-clause-rising
place_near-requires-clause-rising c =
    let j = c.self.inside.journal
    in stamps_rise j.events j.stamps c.self.invariant.stamped c.self.invariant.rising

pub returns-in_err-place : goal.returns-in_err-place
returns-in_err-place c =
    let j = c.self.inside.journal
    in rw (← c.self.view_is) (c.from_residual.ensures ∙ sym (ap (option_map (λ (x : Stamped). x.event)) (found_nowhere j.events j.stamps c.args.stamp c.in_err-place.ensures.none)))

pub get-requires : goal.get-requires
get-requires c =
    let j = c.self.inside.journal
    in let within = some_within j.stamps c.in_ok-place.place c.args.stamp c.in_ok-place.ensures.some
    in omega (arith, within, c.self.invariant.stamped)

pub returns : goal.returns
returns c =
    let j = c.self.inside.journal
    in rw (← c.self.view_is) (sym (ap (option_map (λ (x : Stamped). x.event)) (found_at j.events j.stamps c.in_ok-place.place c.args.stamp c.get.result c.self.invariant.stamped c.self.invariant.rising c.in_ok-place.ensures.some c.get.ensures)))
