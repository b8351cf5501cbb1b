use Rattle.std.proofs.Common.{◌≡◌, option_map, ap, sym, ◌∙◌, rules}
use Rattle.std.specs.List.{position_from}
use Rattle.std.proofs.lemmas.Iterator.{YieldsList-from_slice}
use Rattle.std.proofs.lemmas.Iterator.Adapters.{position_from-zero}
use Rattle.std.proofs.lemmas.Iterator.Search.{position_from_yields_List}
use Rattle.pei_types.specs.MachineState.{is_owned}
use Rattle.pmu_dispatch.specs.Shown.{core_of}
use Rattle.pmu_dispatch.proofs.looks.owner.Goals as goal
use Rattle.pmu_dispatch.proofs.looks.owner.Goals.{After-position}

-- the first place of the array that the closure finds
found : (c : After-position) → c.position.result ≡ position_from is_owned 0 c.args.letters.now
found c =
    position_from_yields_List is_owned _ _ c.position.result c.position.ensures.ran (YieldsList-from_slice c.args.letters.now cc) (λ x b q k. search rules)
    ∙ position_from-zero is_owned c.args.letters.now

pub returns-in_err-place : goal.returns-in_err-place
returns-in_err-place c =
    c.from_residual.ensures ∙ ap (option_map core_of) (sym c.in_err-place.was ∙ found (goal.at.returns-in_err-place c).After-position)

pub returns : goal.returns
returns c = ap (option_map core_of) (sym c.in_ok-place.was ∙ found (goal.at.returns c).After-position)
