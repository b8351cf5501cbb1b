use Rattle.std.proofs.Common.{rules, ℕ, ◌+◌, ◌*◌, ◌<◌, List, Ok, Err, subst, sym}
use Rattle.pei_io.specs.Outside.{Writes}
use Rattle.pei_types.specs.Texts.{addresses}
use Rattle.pei_types.specs.FlatMemory.{flat_word}
use Rattle.report.specs.Shown.{word_line}
use Rattle.report.proofs.Loops.{went_on, stopped, finished}
use Rattle.report.proofs.ReportLines.{addresses_count, address_at, line_of_word}
use Rattle.report.proofs.asks.write_words.Goals as goal

pub returns-in_err-write_word : goal.returns-in_err-write_word
returns-in_err-write_word g c =
    let i = c.loop-i.i
    in let at = c.args.addr + 8 * i
    in stopped c.writes_join.ensures (word_line (flat_word c.args.fabric.now.image c.args.fabric.now.journal)) (addresses c.args.addr c.args.count) i at at _ _ (g.K.Sink.written c.write_word.new.sink) _ _ (g.K.Sink.faults c.write_word.new.sink) c.in_err-write_word.field-0.0 c.from_residual.result
    (subst (λ (n : ℕ). i < n) (sym (addresses_count c.args.addr c.args.count)) c.loop-i-test.true) (address_at c.args.addr c.args.count i at c.loop-i-test.true) c.loop-i.invariant
    (subst (λ (t : List ℕ). Writes t (g.K.Sink.written c.loop-i.sink) (g.K.Sink.written c.write_word.new.sink) (g.K.Sink.faults c.loop-i.sink) (g.K.Sink.faults c.write_word.new.sink) (Err c.in_err-write_word.field-0.0))
    (line_of_word at _ _ c.peek.ensures) c.in_err-write_word.ensures)
    c.from_residual.ensures.0

pub loop-i-preserved : goal.loop-i-preserved
loop-i-preserved g c =
    let i = c.loop-i.i
    in let at = c.args.addr + 8 * i
    in went_on c.writes_join.ensures (word_line (flat_word c.args.fabric.now.image c.args.fabric.now.journal)) (addresses c.args.addr c.args.count) i at at _ _ (g.K.Sink.written c.write_word.new.sink) _ _ (g.K.Sink.faults c.write_word.new.sink)
    (subst (λ (n : ℕ). i < n) (sym (addresses_count c.args.addr c.args.count)) c.loop-i-test.true) (address_at c.args.addr c.args.count i at c.loop-i-test.true) c.loop-i.invariant
    (subst (λ (t : List ℕ). Writes t (g.K.Sink.written c.loop-i.sink) (g.K.Sink.written c.write_word.new.sink) (g.K.Sink.faults c.loop-i.sink) (g.K.Sink.faults c.write_word.new.sink) (Ok tt))
    (line_of_word at _ _ c.peek.ensures) c.in_ok-write_word.ensures)

pub returns : goal.returns
returns g c =
    finished (word_line (flat_word c.args.fabric.now.image c.args.fabric.now.journal)) (addresses c.args.addr c.args.count) c.loop-i.i (g.K.Sink.written c.args.sink.now) (g.K.Sink.written c.loop-i.sink) (g.K.Sink.faults c.args.sink.now) (g.K.Sink.faults c.loop-i.sink) (search (rules, addresses_count)) c.loop-i.invariant
