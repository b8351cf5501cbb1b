use Rattle.std.proofs.Common.{ℕ, sym, ◌∙◌, ap}
use Rattle.std.specs.Prelude.{slice_index}
use Rattle.pei_types.specs.declared.identifiers.BlockNo.{BlockNo}
use Rattle.pei_types.specs.declared.events.EventKind.TheVariants as event
use Rattle.pei_types.specs.Blocks.{word_of}
use Rattle.pei_types.specs.Next.{Makes}
use Rattle.pmu_dispatch.specs.declared.accesses.AccessNext.TheVariants as access
use Rattle.trace_check.specs.CheckerParts.{content_of, state_of}
use Rattle.trace_check.proofs.Rows.{load_made, message_turn, same_turn}
use Rattle.trace_check.proofs.checker.Checker.load_row.Goals as goal

pub returns-in-Race : goal.returns-in-Race
returns-in-Race c =
    let v = c.args.self.now
    in same_turn _ _ (load_made v.machine (state_of v) (content_of v) c.args.core c.args.pc c.args.addr c.block_of-block.result c.looks.result c.conflict-conflict.result (access.Race c.in-Race.by) c.in-Race.ensures c.looks.ensures.taken c.looks.ensures.own c.looks.ensures.block c.block_of-block.ensures c.conflict-conflict.ensures)

pub returns-in-Hit : goal.returns-in-Hit
returns-in-Hit c =
    let v = c.args.self.now
    in ap (λ (n : ℕ). Makes (event.Load c.args.addr n)) (c.word_at.ensures ∙ ap (λ (b : BlockNo). slice_index (content_of v b).0 (word_of c.args.addr)) (sym c.block_of-block.ensures))
    ∙ same_turn _ _ (load_made v.machine (state_of v) (content_of v) c.args.core c.args.pc c.args.addr c.block_of-block.result c.looks.result c.conflict-conflict.result access.Hit c.in-Hit.ensures c.looks.ensures.taken c.looks.ensures.own c.looks.ensures.block c.block_of-block.ensures c.conflict-conflict.ensures)

pub returns-in-Message : goal.returns-in-Message
returns-in-Message c =
    let v = c.args.self.now
    in message_turn c.in-Message.message _ (load_made v.machine (state_of v) (content_of v) c.args.core c.args.pc c.args.addr c.block_of-block.result c.looks.result c.conflict-conflict.result (access.Message c.in-Message.message) c.in-Message.ensures c.looks.ensures.taken c.looks.ensures.own c.looks.ensures.block c.block_of-block.ensures c.conflict-conflict.ensures)
