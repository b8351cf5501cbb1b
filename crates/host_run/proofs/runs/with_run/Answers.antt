use Rattle.std.proofs.Common.{[], map, arith}
use Rattle.std.proofs.lemmas.List.{length-map}
use Rattle.fabric.specs.Banks.{banks_at_start}
use Rattle.host_run.proofs.ClosingBanks.{bank_count, has_room, next_of}
use Rattle.host_run.proofs.runs.with_run.Goals as goal

pub slot_of-requires-after_bounds : goal.slot_of-requires-after_bounds
slot_of-requires-after_bounds g c κs within = next_of g.L.Run.machine g.L.Run.image [] c.args.banks c.take_first.new.self c.in-Some.first c.requires c.in-Some.ensures.some

pub slot_of-requires-in-Some-take_first-after_bounds : goal.slot_of-requires-in-Some-take_first-after_bounds
slot_of-requires-in-Some-take_first-after_bounds g c κs within =
    next_of g.L.Run.machine g.L.Run.image (map (λ s. s.bank.value) c.loop-bank.slots) c.loop-bank.banks c.take_first-in-loop-bank.new.self c.in-Some-take_first.bank c.loop-bank.invariant c.in-Some-take_first.ensures.some

pub push-requires : goal.push-requires
push-requires g c =
    let less = has_room (map (λ s. s.bank.value) c.loop-bank.slots) c.loop-bank.banks c.take_first-in-loop-bank.new.self (banks_at_start g.L.Run.machine g.L.Run.image) c.in-Some-take_first.bank c.loop-bank.invariant c.in-Some-take_first.ensures.some
    in let few = bank_count g.L.Run.machine g.L.Run.image
    in let same = length-map c.loop-bank.slots (λ s. s.bank.value)
    in omega (arith, less, few, same)
