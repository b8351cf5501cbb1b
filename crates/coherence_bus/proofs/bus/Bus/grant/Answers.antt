use Rattle.std.proofs.Common.{sym, ap, ◌∙◌}
use Rattle.pei_types.specs.declared.identifiers.Block.{Block}
use Rattle.pei_types.specs.MachineState.{is_i}
use Rattle.mesi_l1.specs.Cache.{Cache, with_front}
use Rattle.coherence_bus.proofs.MessageEffects.{letter_is, grants, granted, line_here, room_in}
use Rattle.coherence_bus.proofs.bus.Bus.grant.Goals as goal

pub line-content-requires : goal.line-content-requires
line-content-requires c = (grants c.laws.ensures c.self.inside c.self.invariant c.args.own c.args.b c.args.letter c.requires.letter (rw (← c.self.view_is) at c.requires.lacks) (rw (← c.self.view_is) at c.requires.guard)).0

pub install-requires-clause-absent : goal.install-requires-clause-absent
install-requires-clause-absent c =
    ap is_i (sym (letter_is c.laws.ensures c.self.inside c.self.invariant c.args.own c.index_mut.result.now _ c.args.b (rw (← c.self.view_is) at c.requires.own) c.index_mut.ensures.value)) ∙ (rw (← c.self.view_is) at c.requires.lacks)

pub install-requires-clause-room : goal.install-requires-clause-room
install-requires-clause-room c =
    let room = (grants c.laws.ensures c.self.inside c.self.invariant c.args.own c.args.b c.args.letter c.requires.letter (rw (← c.self.view_is) at c.requires.lacks) (rw (← c.self.view_is) at c.requires.guard)).1
    in room_in c.laws.ensures c.self.inside c.self.invariant c.args.own c.index_mut.result.now _ c.args.b (rw (← c.self.view_is) at c.requires.own) c.index_mut.ensures.value room

pub touch-requires : goal.touch-requires
touch-requires c = (grants c.laws.ensures c.self.inside c.self.invariant c.args.own c.args.b c.args.letter c.requires.letter (rw (← c.self.view_is) at c.requires.lacks) (rw (← c.self.view_is) at c.requires.guard)).0

pub invariant_of-self : goal.invariant_of-self
invariant_of-self c =
    let t = granted c.laws.ensures c.self.inside c.self.invariant c.args.own c.index_mut.result.now c.install.new.self _ c.args.b c.args.letter c.touch.new.self (rw (← c.self.view_is) at c.requires.own) c.requires.letter c.index_mut.ensures.value (rw (← c.self.view_is) at c.requires.guard)
    (ap (λ (x : Cache). x.ways) c.install.ensures.lines) (ap (λ (x : Cache). x.sets) c.install.ensures.lines ∙ ap (λ (x : Block). (with_front c.index_mut.result.now c.args.b c.args.letter x).sets) (c.line-content.ensures ∙ line_here c.laws.ensures c.self.inside c.self.invariant c.args.b)) c.touch.ensures
    in record { sizes = t.sizes; coheres = t.coheres }

pub returns : goal.returns
returns c =
    let t = granted c.laws.ensures c.self.inside c.self.invariant c.args.own c.index_mut.result.now c.install.new.self _ c.args.b c.args.letter c.touch.new.self (rw (← c.self.view_is) at c.requires.own) c.requires.letter c.index_mut.ensures.value (rw (← c.self.view_is) at c.requires.guard)
    (ap (λ (x : Cache). x.ways) c.install.ensures.lines) (ap (λ (x : Cache). x.sets) c.install.ensures.lines ∙ ap (λ (x : Block). (with_front c.index_mut.result.now c.args.b c.args.letter x).sets) (c.line-content.ensures ∙ line_here c.laws.ensures c.self.inside c.self.invariant c.args.b)) c.touch.ensures
    in rw (← c.self.view_is) t.shows
