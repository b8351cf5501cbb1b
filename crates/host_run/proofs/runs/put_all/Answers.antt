use Rattle.std.proofs.Common.{◌++◌, ◌∷◌, [], map, length, Option, ap, sym, ◌∙◌, arith}
use Rattle.std.proofs.lemmas.List.{map-append, length-map}
use Rattle.pei_types.specs.declared.calls.EndKind.{EndKind}
use Rattle.shared_table.specs.Place.{SeatView}
use Rattle.host_run.proofs.Sent.{slot_crosses}
use Rattle.host_run.proofs.ClosingSeats.{ends_more, its_number, no_ends, no_items, none_left, of_table, one_more, room}
use Rattle.host_run.proofs.runs.put_all.Goals as goal

pub bounds-ends-core : goal.bounds-ends-core
bounds-ends-core g c =
    let i = c.loop-seat.invariant
    in let r = c.requires
    in let number = its_number c.args.seats.now.table c.args.done.items c.loop-seat.yielded c.loop-seat.seat-iterator.rest.items c.next.new.self.rest.items (c.in-Some.seat, c.in-Some.end) r.few i.2 c.in-Some.ensures.steps.0 r.order
    in let less = room c.args.seats.now.table c.args.done.items c.loop-seat.yielded c.loop-seat.seat-iterator.rest.items c.next.new.self.rest.items (c.in-Some.seat, c.in-Some.end) r.few i.2 c.in-Some.ensures.steps.0
    in let same = c.core.ensures
    in omega (arith, number, less, same)

pub put-requires-clause-table : goal.put-requires-clause-table
put-requires-clause-table g c κs within =
    let i = c.loop-seat.invariant
    in let r = c.requires
    in of_table c.args.seats.now.table c.args.done.items c.loop-seat.yielded c.loop-seat.seat-iterator.rest.items c.next.new.self.rest.items (c.in-Some.seat, c.in-Some.end) r.few i.2 c.in-Some.ensures.steps.0 r.table ∙ sym i.3

pub put-requires-clause-room : goal.put-requires-clause-room
put-requires-clause-room g c κs within =
    let i = c.loop-seat.invariant
    in let r = c.requires
    in let less = room c.args.seats.now.table c.args.done.items c.loop-seat.yielded c.loop-seat.seat-iterator.rest.items c.next.new.self.rest.items (c.in-Some.seat, c.in-Some.end) r.few i.2 c.in-Some.ensures.steps.0
    in let same = ap length i.4 ∙ length-map c.loop-seat.yielded (λ x. x.0)
    in omega (arith, less, same)

pub loop-seat-preserved : goal.loop-seat-preserved
loop-seat-preserved g c =
    let i = c.loop-seat.invariant
    in let r = c.requires
    in let x : SeatView × Option EndKind = (c.in-Some.seat, c.in-Some.end)
    in let number = its_number c.args.seats.now.table c.args.done.items c.loop-seat.yielded c.loop-seat.seat-iterator.rest.items c.next.new.self.rest.items x r.few i.2 c.in-Some.ensures.steps.0 r.order
    in (
      i.0,
      i.1,
      one_more c.args.seats.now.table c.args.done.items c.loop-seat.yielded c.loop-seat.seat-iterator.rest.items c.next.new.self.rest.items x r.few i.2 c.in-Some.ensures.steps.0,
      c.put.ensures.table ∙ i.3,
      c.put.ensures.list ∙ ap (λ xs. xs ++ c.in-Some.seat ∷ []) i.4 ∙ sym (map-append (λ y. y.0) c.loop-seat.yielded (x ∷ [])),
      ends_more c.args.seats.now.table c.args.done.items c.loop-seat.yielded c.loop-seat.seat-iterator.rest.items c.next.new.self.rest.items x r.few i.2 c.in-Some.ensures.steps.0 c.loop-seat.ends c.core.result.0 (c.core.ensures ∙ number) i.5,
    )

pub returns-clause-seats : goal.returns-clause-seats
returns-clause-seats g c =
    let i = c.loop-seat.invariant
    in let left = c.loop-seat.seat-iterator.rest
    in let whole = none_left c.loop-seat.yielded left.items c.args.done.items i.2 (no_items left.items (sym left.ok.0 ∙ c.in-None.ensures.steps.0))
    in (i.3, i.4 ∙ ap (map (λ y. y.0)) whole)

pub returns-clause-ends : goal.returns-clause-ends
returns-clause-ends g c =
    let i = c.loop-seat.invariant
    in let left = c.loop-seat.seat-iterator.rest
    in let whole = none_left c.loop-seat.yielded left.items c.args.done.items i.2 (no_items left.items (sym left.ok.0 ∙ c.in-None.ensures.steps.0))
    in i.5 ∙ ap (λ ys. map (λ y. y.1) ys ++ no_ends (length ys)) whole

pub core-requires-send-S : goal.core-requires-send-S
core-requires-send-S g c κs within = slot_crosses _ _ g.L.Run c.type_bounds.send-L

pub put-requires-send-S : goal.put-requires-send-S
put-requires-send-S g c κs within = slot_crosses _ _ g.L.Run c.type_bounds.send-L
