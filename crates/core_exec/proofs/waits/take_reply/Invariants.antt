use Rattle.std.proofs.Common.{◌≡◌, ℕ, ◌<◌, ◌≤◌, false, None, length, slice_index, slice_index_or}
use Rattle.pei_types.specs.Core.{filled, wait_after}
use Rattle.core_exec.specs.Wait.{seen_wait}
use Rattle.core_exec.proofs.waits.take_reply.Given as goal

abbrev pub invariant-loop-i : goal.invariant-loop-i
invariant-loop-i l =
    record {
      registers_long : length l.registers ≡ 16;
      waits_long : length l.waits ≡ 16;
      filled_below : (k : ℕ) → k < l.i → slice_index l.registers k ≡ filled l.seq l.reply (slice_index l.initial.registers k) (seen_wait (slice_index_or l.initial.waits k None));
      same_above : (k : ℕ) → l.i ≤ k → slice_index l.registers k ≡ slice_index l.initial.registers k;
      waits_below : (k : ℕ) → k < l.i → seen_wait (slice_index_or l.waits k None) ≡ wait_after l.seq (seen_wait (slice_index_or l.initial.waits k None));
      waits_above : (k : ℕ) → l.i ≤ k → slice_index_or l.waits k None ≡ slice_index_or l.initial.waits k None;
      none_below : l.waiting ≡ false → (k : ℕ) → k < l.i → seen_wait (slice_index_or l.waits k None) ≡ None;
    }
