use Rattle.std.proofs.Common.{◌++◌, length, take, arith, ap, ◌∙◌, append_assoc}
use Rattle.std.proofs.lemmas.List.{take-append-drop}
use Rattle.pei_io.proofs.Progress.{added_more, front_added, front_fits, rose_later}
use Rattle.pei_io.proofs.sink.write_all.Goals as goal

pub returns-in_default : goal.returns-in_default
returns-in_default g c =
    let so_far = c.loop-rest.invariant in (
      (length so_far.done, front_fits so_far.done c.loop-rest.rest.now c.args.piece.now so_far.whole, rw c.in_default.ensures.err (front_added so_far.done c.loop-rest.rest.now c.args.piece.now _ _ so_far.whole so_far.added)),
      rose_later _ _ _ so_far.rising c.in_default.ensures.failed,
      omega (arith, so_far.rising, c.in_default.ensures.rising),
    )

pub loop-rest-preserved : goal.loop-rest-preserved
loop-rest-preserved g c =
    let so_far = c.loop-rest.invariant
    in let count = c.in-Ok.count
    in let rest = c.loop-rest.rest.now
    in record {
      done = so_far.done ++ take count rest;
      whole =
          append_assoc so_far.done (take count rest) c.split_at.result.1.now
          ∙ ap (λ xs. so_far.done ++ (take count rest ++ xs)) c.split_at.ensures.back
          ∙ ap (λ xs. so_far.done ++ xs) (take-append-drop count rest)
          ∙ so_far.whole;
      added = added_more so_far.done (take count rest) _ _ _ so_far.added c.in-Ok.ensures.bytes;
      rising = omega (arith, so_far.rising, c.in-Ok.ensures.rising);
    }
