use Rattle.std.proofs.Common.{◌∙◌, ◌||◌, ap}
use Rattle.pei_asm.specs.Canonical.{is_at, target_of}
use Rattle.pei_asm.specs.Named.{is_marked}
use Rattle.pei_asm.proofs.AddingOn.{marked_on}
use Rattle.pei_asm.proofs.named.mark_targets.Goals as goal

pub loop-pc-preserved : goal.loop-pc-preserved
loop-pc-preserved c =
    record {
      size = c.mark.ensures.size ∙ c.loop-pc.invariant.size;
      each = λ k.
          marked_on (λ i. is_at k (target_of i)) c.args.program.now.instrs c.loop-pc.pc c.instr.result _ _ _ c.instr.ensures.found
          (c.mark.ensures.each k ∙ ap (λ o. is_marked c.loop-pc.places.items k || is_at k o) c.target_of.ensures)
          (c.loop-pc.invariant.each k);
    }
