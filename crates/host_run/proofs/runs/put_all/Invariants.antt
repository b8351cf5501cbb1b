use Rattle.std.specs.Prelude.{◌≡◌, ◌-◌, ◌++◌, length, map, replicate, None}
use Rattle.host_run.proofs.runs.put_all.Given as goal

-- the seats so far are back, and their ends told
abbrev pub invariant-loop-seat : goal.invariant-loop-seat
invariant-loop-seat g l =
    (goal.iterator-loop-seat g).can_next l.seat-iterator × (goal.iterator-loop-seat g).is_finite l.seat-iterator
    × (l.yielded ++ l.seat-iterator.rest.items ≡ l.fn.done.items)
    × (l.seats.table ≡ l.fn.seats.table)
    × (l.seats.list ≡ map (λ x. x.0) l.yielded)
    × (l.ends ≡ map (λ x. x.1) l.yielded ++ replicate (8 - length l.yielded) None)
