use Rattle.std.proofs.Common.{◌+◌, ◌≤◌, sym, ◌∙◌, arith}
use Rattle.trace_check.proofs.Issuing.{one_more, told_later}
use Rattle.trace_check.proofs.histories.issued_in.Goals as goal

pub returns-in-Some : goal.returns-in-Some
returns-in-Some c =
    let within : c.loop-k.k + 1 ≤ c.args.i = omega (arith, c.loop-k-test.true)
    in let here = one_more c.args.journal.now.events c.loop-k.k c.get.result c.args.id c.get.ensures c.loop-k.invariant
    in sym (told_later c.args.journal.now.events (c.loop-k.k + 1) c.args.i c.args.id c.in-Some.issued within (here ∙ sym c.issue_in.ensures ∙ c.in-Some.is))

pub loop-k-preserved : goal.loop-k-preserved
loop-k-preserved c = one_more c.args.journal.now.events c.loop-k.k c.get.result c.args.id c.get.ensures c.loop-k.invariant ∙ sym c.issue_in.ensures ∙ c.in_default.is
