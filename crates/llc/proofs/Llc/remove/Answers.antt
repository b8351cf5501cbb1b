use Rattle.std.proofs.Common.{ap, ◌∙◌, sym}
use Rattle.set_lists.specs.Placed.{Placed}
use Rattle.llc.specs.Cache.{without_line}
use Rattle.llc.specs.Inside.{shown, cache_of}
use Rattle.llc.proofs.Changing.{out_is}
use Rattle.llc.proofs.Keeping.{kept_removed}
use Rattle.llc.proofs.Llc.remove.Goals as goal

pub returns-clause-lines : goal.returns-clause-lines
returns-clause-lines c =
    rw (← c.self.view_is) (ap (λ v. cache_of v c.self.inside.lines.items) c.take_out.ensures.removed
    ∙ out_is c.sets_follow.ensures c.self.inside.tags c.self.inside.lines.items c.self.invariant c.args.b c.home-set.result c.take_out.result c.home-set.ensures.home c.home-set.ensures.within c.take_out.ensures.at
    ∙ ap (λ k. record (without_line (shown c.self.inside) c.args.b) { slots = k }) (ap (λ (v : Placed). v.keys) (sym c.take_out.ensures.removed)))

pub invariant_of-self : goal.invariant_of-self
invariant_of-self c =
    rw c.take_out.ensures.removed (kept_removed c.sets_follow.ensures.slots c.self.inside.tags c.self.inside.lines.items c.home-set.result c.take_out.result c.take_out.ensures.at.listed (rw c.take_out.ensures.removed at c.take_out.ensures.placed) c.self.invariant)
