-- A core that issues behind its own open fence.
use Rattle.std.proofs.Common.{refl, lit<}
use Rattle.pei_types.specs.Blocks.{fold_of}
use Rattle.pei_types.specs.Core.{busy_register}
use Rattle.pei_types.specs.Limits.{log_two}
use Rattle.pei_types.specs.Operation.{probe, hist, dot}
use Rattle.pei_types.specs.Examples.Runs.{zeros, one}
use Rattle.pei_types.specs.Legal.{MachineLegal, MeetsSome}
use Rattle.pei_types.proofs.Histories.{each_of_from}
use Rattle.history_laws.specs.Fenced.{FencesNeedTheirCore, fenced_journal, fence_call, issue_call, load_call}

pub fenced_is_legal : MachineLegal one (zeros 4096 3) fenced_journal
unfolding fold_of log_two busy_register probe hist dot
fenced_is_legal =
    each_of_from (MeetsSome one (zeros 4096 3)) fenced_journal (
      (fence_call, record { flat = record { replies = tt; calls = (refl, (refl, tt, tt)); order = tt; directory = tt; fence = tt; race = tt }; guarded = refl; recency = tt; monitor = tt; next = (lit< tt, refl); seal = refl }),
      (
        (issue_call, record { flat = record { replies = tt; calls = (refl, (refl, (refl, refl, refl), tt)); order = tt; directory = tt; fence = tt; race = tt }; guarded = refl; recency = tt; monitor = tt; next = (lit< tt, refl); seal = refl }),
        (
          (fence_call, record { flat = record { replies = tt; calls = (refl, (refl, tt, tt)); order = tt; directory = tt; fence = refl; race = tt }; guarded = refl; recency = tt; monitor = tt; next = (lit< tt, refl); seal = refl }),
          (
            (load_call, record { flat = record { replies = tt; calls = (refl, tt); order = tt; directory = tt; fence = tt; race = tt }; guarded = refl; recency = tt; monitor = tt; next = (lit< tt, refl); seal = refl }),
            (
              (load_call, record { flat = record { replies = tt; calls = (refl, tt); order = tt; directory = tt; fence = tt; race = tt }; guarded = refl; recency = tt; monitor = tt; next = (lit< tt, refl); seal = refl }),
              tt,
            ),
          ),
        ),
      ),
    )

pub fences_need_their_core : FencesNeedTheirCore
unfolding fold_of log_two busy_register probe hist dot
fences_need_their_core = record { before = fenced_is_legal; next = (lit< tt, refl); guarded = refl; unordered = λ h. cc h }
