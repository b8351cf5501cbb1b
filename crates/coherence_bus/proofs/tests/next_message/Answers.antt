use Rattle.std.proofs.Common.{sym, ◌∙◌, true}
use Rattle.coherence_bus.proofs.Driving.{enough, may_make}
use Rattle.coherence_bus.proofs.tests.next_message.Goals as goal

pub returns-then-suffices-clause-enough : goal.returns-then-suffices-clause-enough
returns-then-suffices-clause-enough c = enough c.args.bus.now c.args.own c.args.block c.args.modify c.want_looks-looks.result _ c.requires.own c.want_looks-looks.ensures true (sym c.suffices.ensures ∙ c.if-suffices.true)

pub message-requires-clause-message : goal.message-requires-clause-message
message-requires-clause-message c =
    let may = may_make c.args.bus.now c.args.own c.args.block c.args.modify c.want_looks-looks.result _ c.requires.own c.want_looks-looks.ensures c.wants_are_allowed.ensures c.agree.ensures c.requires.block (sym c.suffices.ensures ∙ c.if-suffices.false) c.want_next-kind.result c.want_next-kind.ensures
    in may.message

pub message-requires-clause-guard : goal.message-requires-clause-guard
message-requires-clause-guard c =
    let may = may_make c.args.bus.now c.args.own c.args.block c.args.modify c.want_looks-looks.result _ c.requires.own c.want_looks-looks.ensures c.wants_are_allowed.ensures c.agree.ensures c.requires.block (sym c.suffices.ensures ∙ c.if-suffices.false) c.want_next-kind.result c.want_next-kind.ensures
    in may.guarded

pub message-requires-clause-memory : goal.message-requires-clause-memory
message-requires-clause-memory c =
    let may = may_make c.args.bus.now c.args.own c.args.block c.args.modify c.want_looks-looks.result _ c.requires.own c.want_looks-looks.ensures c.wants_are_allowed.ensures c.agree.ensures c.requires.block (sym c.suffices.ensures ∙ c.if-suffices.false) c.want_next-kind.result c.want_next-kind.ensures
    in may.memory
