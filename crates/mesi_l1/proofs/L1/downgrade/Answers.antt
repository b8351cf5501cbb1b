use Rattle.std.proofs.Common.{◌%◌, length, refl, ap, ◌∙◌}
use Rattle.pei_types.specs.declared.operations.Letter.TheVariants as letter
use Rattle.pei_types.specs.declared.lines.CopyLine.{CopyLine}
use Rattle.mesi_l1.specs.Cache.{letter_of}
use Rattle.mesi_l1.specs.Inside.{shown}
use Rattle.mesi_l1.proofs.Looking.{line_read, letter_read, content_read}
use Rattle.mesi_l1.proofs.Changing.{shared_is}
use Rattle.mesi_l1.proofs.L1.downgrade.Goals as goal

pub returns-clause-had : goal.returns-clause-had
returns-clause-had c =
    let old = c.index_mut-line.result.now
    in let letter_is = letter_read c.sets_follow.ensures c.self.inside.tags c.self.inside.lines.items c.self.invariant c.args.b (c.args.b.0 % length c.self.inside.tags.lists) c.place-slot.result old refl c.place-slot.ensures.within c.place-slot.ensures.range c.place-slot.ensures.at c.index_mut-line.ensures.value
    in let content_is = content_read c.sets_follow.ensures c.self.inside.tags c.self.inside.lines.items c.self.invariant c.args.b (c.args.b.0 % length c.self.inside.tags.lists) c.place-slot.result old refl c.place-slot.ensures.within c.place-slot.ensures.range c.place-slot.ensures.at c.index_mut-line.ensures.value
    in rw (← c.self.view_is) (ap (λ l. (l, old.content)) letter_is ∙ ap (λ k. (letter_of (shown c.self.inside) c.args.b, k)) content_is)

pub returns-clause-shared : goal.returns-clause-shared
returns-clause-shared c =
    let old = c.index_mut-line.result.now
    in rw (← c.self.view_is) (shared_is c.sets_follow.ensures c.self.inside.tags c.self.inside.lines.items c.self.invariant c.args.b (c.args.b.0 % length c.self.inside.tags.lists) c.place-slot.result (record { block = old.block; letter = letter.S; content = old.content }) refl c.place-slot.ensures.within c.place-slot.ensures.range c.place-slot.ensures.at
    (ap (λ (y : CopyLine). record { block = y.block; letter = letter.S; content = y.content }) (line_read c.self.inside.tags c.self.inside.lines.items c.self.invariant c.place-slot.result old c.place-slot.ensures.range c.index_mut-line.ensures.value)))
