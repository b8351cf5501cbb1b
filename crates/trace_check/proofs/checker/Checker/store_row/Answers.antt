use Rattle.pmu_dispatch.specs.declared.accesses.AccessNext.TheVariants as access
use Rattle.trace_check.specs.CheckerParts.{content_of, state_of}
use Rattle.trace_check.proofs.Rows.{store_made, message_turn, same_turn}
use Rattle.trace_check.proofs.checker.Checker.store_row.Goals as goal

pub returns-in-Race : goal.returns-in-Race
returns-in-Race c =
    let v = c.args.self.now
    in same_turn _ _ (store_made v.machine (state_of v) (content_of v) c.args.core c.args.pc c.args.addr c.block_of-block.result c.looks.result c.conflict-conflict.result (access.Race c.in-Race.by) c.args.value c.in-Race.ensures c.looks.ensures.taken c.looks.ensures.own c.looks.ensures.block c.block_of-block.ensures c.conflict-conflict.ensures)

pub returns-in-Hit : goal.returns-in-Hit
returns-in-Hit c =
    let v = c.args.self.now
    in same_turn _ _ (store_made v.machine (state_of v) (content_of v) c.args.core c.args.pc c.args.addr c.block_of-block.result c.looks.result c.conflict-conflict.result access.Hit c.args.value c.in-Hit.ensures c.looks.ensures.taken c.looks.ensures.own c.looks.ensures.block c.block_of-block.ensures c.conflict-conflict.ensures)

pub returns-in-Message : goal.returns-in-Message
returns-in-Message c =
    let v = c.args.self.now
    in message_turn c.in-Message.message _ (store_made v.machine (state_of v) (content_of v) c.args.core c.args.pc c.args.addr c.block_of-block.result c.looks.result c.conflict-conflict.result (access.Message c.in-Message.message) c.args.value c.in-Message.ensures c.looks.ensures.taken c.looks.ensures.own c.looks.ensures.block c.block_of-block.ensures c.conflict-conflict.ensures)
