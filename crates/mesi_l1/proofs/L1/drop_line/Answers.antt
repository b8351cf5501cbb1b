use Rattle.std.proofs.Common.{ap, ◌∙◌, sym}
use Rattle.set_lists.specs.Placed.{Placed}
use Rattle.mesi_l1.specs.Cache.{letter_of, without_copy}
use Rattle.mesi_l1.specs.Inside.{shown, cache_of}
use Rattle.mesi_l1.proofs.Looking.{letter_read, content_read}
use Rattle.mesi_l1.proofs.Changing.{out_is}
use Rattle.mesi_l1.proofs.Keeping.{kept_removed}
use Rattle.mesi_l1.proofs.L1.drop_line.Goals as goal

pub returns-clause-had : goal.returns-clause-had
returns-clause-had c =
    let old = c.index-line.result.now
    in let letter_is = letter_read c.sets_follow.ensures c.self.inside.tags c.self.inside.lines.items c.self.invariant c.args.b c.home-set.result c.take_out-slot.result old c.home-set.ensures.home c.home-set.ensures.within c.take_out-slot.ensures.range c.take_out-slot.ensures.at c.index-line.ensures
    in let content_is = content_read c.sets_follow.ensures c.self.inside.tags c.self.inside.lines.items c.self.invariant c.args.b c.home-set.result c.take_out-slot.result old c.home-set.ensures.home c.home-set.ensures.within c.take_out-slot.ensures.range c.take_out-slot.ensures.at c.index-line.ensures
    in rw (← c.self.view_is) (ap (λ l. (l, old.content)) letter_is ∙ ap (λ k. (letter_of (shown c.self.inside) c.args.b, k)) content_is)

pub returns-clause-lines : goal.returns-clause-lines
returns-clause-lines c =
    rw (← c.self.view_is) (ap (λ v. cache_of v c.self.inside.lines.items) c.take_out-slot.ensures.removed
    ∙ out_is c.sets_follow.ensures c.self.inside.tags c.self.inside.lines.items c.self.invariant c.args.b c.home-set.result c.take_out-slot.result c.home-set.ensures.home c.home-set.ensures.within c.take_out-slot.ensures.at
    ∙ ap (λ k. record (without_copy (shown c.self.inside) c.args.b) { slots = k }) (ap (λ (v : Placed). v.keys) (sym c.take_out-slot.ensures.removed)))

pub invariant_of-self : goal.invariant_of-self
invariant_of-self c =
    rw c.take_out-slot.ensures.removed (kept_removed c.sets_follow.ensures.slots c.self.inside.tags c.self.inside.lines.items c.home-set.result c.take_out-slot.result c.take_out-slot.ensures.at.listed (rw c.take_out-slot.ensures.removed at c.take_out-slot.ensures.placed) c.self.invariant)
