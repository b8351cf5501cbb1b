use Rattle.std.proofs.Common.{sym, ◌∙◌, ap}
use Rattle.pmu_dispatch.specs.Shown.{suffices}
use Rattle.pmu_dispatch.proofs.AccessRows.{race_row, hit_row, message_row}
use Rattle.pmu_dispatch.proofs.Cores.{blocks_letter}
use Rattle.pmu_dispatch.proofs.accesses.access_next.Goals as goal

pub returns-in-Some : goal.returns-in-Some
returns-in-Some c = race_row c.args.store c.args.looks.now c.args.conflict c.in-Some.by c.in-Some.is

pub returns-then-suffices : goal.returns-then-suffices
returns-then-suffices c =
    hit_row c.args.store c.args.looks.now c.args.conflict c.in_default.is
    (λ m s taken. ap (suffices c.args.store) (sym (blocks_letter m s c.args.looks.now taken) ∙ sym c.own_letter.ensures) ∙ sym c.suffices.ensures ∙ c.if-suffices.true)

pub returns-else-suffices : goal.returns-else-suffices
returns-else-suffices c =
    message_row c.args.store c.args.looks.now c.args.conflict c.want_next.result c.in_default.is
    (λ m s taken. ap (suffices c.args.store) (sym (blocks_letter m s c.args.looks.now taken) ∙ sym c.own_letter.ensures) ∙ sym c.suffices.ensures ∙ c.if-suffices.false)
    c.want_next.ensures
