use Rattle.std.proofs.Common.{map, ap, arith}
use Rattle.std.proofs.lemmas.List.{length-map}
use Rattle.host_run.proofs.ClosingBanks.{has_room, moved_on}
use Rattle.host_run.proofs.runs.without_run.Goals as goal

pub push-requires : goal.push-requires
push-requires g c =
    let less = has_room c.loop-slot.banks (map (λ s. s.bank.value) c.loop-slot.slots) (map (λ s. s.bank.value) c.take_first-in-loop-slot.new.self) (map (λ s. s.bank.value) c.args.slots) c.in-Some-take_first.slot.bank.value c.loop-slot.invariant (ap (map (λ s. s.bank.value)) c.in-Some-take_first.ensures.some)
    in let few = c.requires.1
    in let same = length-map c.args.slots (λ s. s.bank.value)
    in omega (arith, less, few, same)

pub loop-slot-preserved : goal.loop-slot-preserved
loop-slot-preserved g c =
    moved_on (λ s. s.bank.value) c.loop-slot.banks c.push.new.self c.loop-slot.slots c.take_first-in-loop-slot.new.self c.in-Some-take_first.slot c.bank_in-in-Some-take_first.result (map (λ s. s.bank.value) c.args.slots) c.loop-slot.invariant c.in-Some-take_first.ensures.some c.bank_in-in-Some-take_first.ensures c.push.ensures
