use Rattle.host_run.proofs.Sent.{slot_crosses}
use Rattle.std.proofs.Common.{refl, sym, ◌∙◌, ap, subst}
use Rattle.shared_table.specs.Actives.{active_in}
use Rattle.shared_table.specs.Journal.{events}
use Rattle.host_run.proofs.TurnSteps.{bank_log, bank_order, keeps_same, taken_has, taken_keeps}
use Rattle.host_run.proofs.visits.Place.hold.Goals as goal

pub returns-clause-slot : goal.returns-clause-slot
returns-clause-slot g c =
    let b = c.hold-held.result.value.bank.value
    in let is = c.is_in_order.ensures
    in taken_has c.laws.ensures g.L.Run.program g.L.Run.machine g.L.Run.image c.args.self.now.table.now.table c.args.seat.now c.hold-held.new.seat c.args.bank b.log (active_in g.L.Run.machine.directory (events b.log)) c.hold-held.ensures.seat c.hold-held.ensures.fits is.rising
    c.requires.turn.rest c.requires.bank refl c.hold-held.ensures.clear
    (bank_log g.L.Run.machine g.L.Run.image c.args.bank b c.hold-held.result.value.machine c.hold-held.result.value.image c.hold-held.ensures.bank is.rows is.fitting)
    is.order.0 (bank_order g.L.Run.machine g.L.Run.image b c.hold-held.result.value.machine c.hold-held.result.value.image is.order.0 is.order.1)

pub returns-clause-keeps : goal.returns-clause-keeps
returns-clause-keeps g c =
    let b = c.hold-held.result.value.bank.value
    in taken_keeps c.laws.ensures g.L.Run.program g.L.Run.machine g.L.Run.image c.args.self.now.table.now.table c.args.seat.now c.hold-held.new.seat c.args.bank b.log (active_in g.L.Run.machine.directory (events b.log)) c.hold-held.ensures.seat c.hold-held.ensures.fits c.is_in_order.ensures.rising
    c.come.new.run.core c.come.new.run.own c.come.new.run.end
    (keeps_same g.L.Run.program g.L.Run.machine g.L.Run.image c.args.seat.now (sym c.come.ensures.0) (sym c.come.ensures.1) (sym c.come.ensures.2) c.requires.turn.keeps)

pub hold-held-requires-send-S : goal.hold-held-requires-send-S
hold-held-requires-send-S g c κs within = slot_crosses _ _ g.L.Run c.type_bounds.send-L
