use Rattle.std.specs.Prelude.{◌≡◌, ◌+◌, ◌++◌, length, vec_capacity, vec_len}
use Rattle.host_run.proofs.runs.take_all.Given as goal

abbrev pub invariant-loop-seat : goal.invariant-loop-seat
invariant-loop-seat g l = (l.jobs.items ++ l.seats.list ≡ l.initial.seats.list) × (l.seats.table ≡ l.initial.seats.table) × (vec_capacity l.jobs ≡ 8) × (vec_len l.jobs + length l.seats.list ≡ length l.initial.seats.list)

abbrev pub decreases-loop-seat : goal.decreases-loop-seat
decreases-loop-seat g l = length l.seats.list
