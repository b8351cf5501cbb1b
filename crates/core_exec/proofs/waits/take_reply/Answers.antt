use Rattle.std.proofs.Common.{◌≡◌, ◌<◌, length, None, slice_index, slice_index_or, sym, ◌∙◌, arith}
use Rattle.std.proofs.lemmas.List.{length-set}
use Rattle.pei_types.specs.Core.{filled, wait_after}
use Rattle.core_exec.specs.Wait.{seen_wait}
use Rattle.core_exec.proofs.Replies.{below_more_set, above_more_set, neither, seen_wait-from_is_some, with_reply_all, waits_after_all, no_wait_all}
use Rattle.core_exec.proofs.waits.take_reply.Goals as goal

pub returns-clause-registers : goal.returns-clause-registers
returns-clause-registers c =
    with_reply_all 16 c.args.seq c.args.reply.now c.args.registers.now c.loop-i.registers c.args.waits.now c.told-registers c.loop-i.invariant.registers_long c.told-waits
    (λ k h. c.loop-i.invariant.filled_below k (omega arith))

pub returns-clause-waits : goal.returns-clause-waits
returns-clause-waits c =
    waits_after_all 16 c.args.seq c.args.waits.now c.loop-i.waits c.told-waits c.loop-i.invariant.waits_long
    (λ k h. c.loop-i.invariant.waits_below k (omega arith))

pub returns-clause-none : goal.returns-clause-none
returns-clause-none c = λ none. no_wait_all 16 c.loop-i.waits c.loop-i.invariant.waits_long (λ k h. c.loop-i.invariant.none_below none k (omega arith))

pub loop-i-preserved : goal.loop-i-preserved
loop-i-preserved c =
    let i = c.loop-i.i
    in let kept = c.loop-i.invariant
    in let registers = c.args.registers.now
    in let waits = c.args.waits.now
    in let in_registers : i < length c.loop-i.registers = omega arith
    in let in_waits : i < length c.loop-i.waits = omega arith
    in record {
      registers_long = length-set c.loop-i.registers i _ ∙ kept.registers_long;
      waits_long = length-set c.loop-i.waits i _ ∙ kept.waits_long;
      filled_below = below_more_set (λ k x. x ≡ filled c.args.seq c.args.reply.now (slice_index registers k) (seen_wait (slice_index_or waits k None))) c.loop-i.registers 0 c.filled.result i in_registers kept.filled_below (rw (← kept.same_above i (omega arith), ← kept.waits_above i (omega arith)) c.filled.ensures);
      same_above = above_more_set registers c.loop-i.registers 0 _ i kept.same_above;
      waits_below = below_more_set (λ k x. seen_wait x ≡ wait_after c.args.seq (seen_wait (slice_index_or waits k None))) c.loop-i.waits None c.wait_after-rest.result i in_waits kept.waits_below (rw (← kept.waits_above i (omega arith)) c.wait_after-rest.ensures);
      waits_above = above_more_set waits c.loop-i.waits None _ i kept.waits_above;
      none_below = λ none. let both = neither c.loop-i.waiting c.is_some-waiting.result none in below_more_set (λ k x. seen_wait x ≡ None) c.loop-i.waits None c.wait_after-rest.result i in_waits (kept.none_below both.0) (seen_wait-from_is_some c.wait_after-rest.result (sym c.is_some-waiting.ensures ∙ both.1));
    }
