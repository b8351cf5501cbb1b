use Rattle.std.proofs.Common.{◌≡◌, sym, ap, subst, ◌∙◌}
use Rattle.kernel_lang.specs.declared.homes.Home.{Home}
use Rattle.kernel_lang.specs.Homes.{Frame, IsInReach}
use Rattle.kernel_lang.proofs.Lookups.{home_found, in_reach}
use Rattle.kernel_lang.proofs.homes.Names.home.Goals as goal

pub returns-in-Some-clause-home : goal.returns-in-Some-clause-home
returns-in-Some-clause-home c =
    home_found c.args.self.now c.args.name.now c.self.inside.homes.entries _ (ap (λ (f : Frame). f.homes) c.self.view_is) (sym c.in-Some.is ∙ c.copied.ensures ∙ c.get.ensures.value)

pub returns-in-Some-clause-size : goal.returns-in-Some-clause-size
returns-in-Some-clause-size c =
    let it = subst IsInReach {y = c.in-Some.home}
    (sym (home_found c.args.self.now c.args.name.now c.self.inside.homes.entries _ (ap (λ (f : Frame). f.homes) c.self.view_is) (sym c.in-Some.is ∙ c.copied.ensures ∙ c.get.ensures.value)))
    (in_reach c.args.self.now c.args.name.now c.requires.reach)
    in (it.0, it.1)

pub returns-in-Some-clause-reach : goal.returns-in-Some-clause-reach
returns-in-Some-clause-reach c =
    (subst IsInReach {y = c.in-Some.home}
    (sym (home_found c.args.self.now c.args.name.now c.self.inside.homes.entries _ (ap (λ (f : Frame). f.homes) c.self.view_is) (sym c.in-Some.is ∙ c.copied.ensures ∙ c.get.ensures.value)))
    (in_reach c.args.self.now c.args.name.now c.requires.reach)).2

pub returns-in-None-clause-home : goal.returns-in-None-clause-home
returns-in-None-clause-home c =
    home_found c.args.self.now c.args.name.now c.self.inside.homes.entries _ (ap (λ (f : Frame). f.homes) c.self.view_is) (sym c.in-None.is ∙ c.copied.ensures ∙ c.get.ensures.value)
