-- A bank behind a slot may go to another thread, in its box.
use denote.Exit.{yes}
use denote.Param.{arg, param}
use denote.Param.Send.{IsSend, IsSync, arg_send, param_send, sendable}
use denote.Param.SendFields.{as_row_send, as_row_sync, declared_send, declared_sync}
use denote.Struct.Field.{row_field}
use denote.Struct.Tuple.{Tuple, TupleAt, tuple_type, type_at}
use mathlib.Core.List.{List, [], ◌∷◌}
use denote.RattleType.{RattleType}
use mir.Syntax.{Sym, Ty}
use Rattle.std.below.std_heap.proofs.GlobalAllocator.TheSendSync.{the_frees}
use Rattle.std.proofs.boxed.Box.TheSendSync.{the_send as box_send}
use Rattle.std.proofs.option.Option.TheSendSync.{the_send as option_send}
use Rattle.std.specs.contracts.alloc.Global as allocator
use Rattle.std.specs.contracts.impls.GlobalAllocator.TheImpl.{ghosts}
use Rattle.std.specs.contracts.option.Option as option
use Rattle.pei_types.proofs.calls.EndKind.TheSendSync.{the_send as end_send}
use Rattle.pei_types.specs.contracts.calls.EndKind as end_kind
use Rattle.shared_table.proofs.table.CoreSeat.TheSendSync.{the_send as seat_send}
use Rattle.shared_table.specs.contracts.table.CoreSeat as seat
use Rattle.shared_table.specs.declared.rule.Shared.{Ghosts as Shown}
use Rattle.fabric.proofs.Sent.{bank_send}
use Rattle.fabric.specs.contracts.bank.Bank as bank
use Rattle.host_run.specs.contracts.slots.RunBank as run_bank
use Rattle.host_run.specs.declared.slots.Run.{Ghosts}

pub run_bank_send : (T : RattleType) (g : Ghosts T.Denot) → IsSend T → IsSend (run_bank.the_row T g)
run_bank_send T g s = declared_send (run_bank.the_type T g) (box_send bank.the_row allocator.the_row ghosts bank_send (search sendable) the_frees, (search sendable, tt))

-- as a table's type argument
pub slot_crosses : (t : Ty) (T : RattleType) (g : Ghosts T.Denot) → IsSend T → IsSend (param 0 (arg t yes (run_bank.the_row T g)))
slot_crosses t T g s = param_send 0 (arg t yes (run_bank.the_row T g)) (arg_send t yes (run_bank.the_row T g) (run_bank_send T g s))

-- a seat of a table of them may, and so may a seat with how its core ended
pub seat_crosses : (t : Ty) (T : RattleType) (g : Ghosts T.Denot) (shown : Shown (run_bank.the_row T g).Denot) → IsSend T → IsSend (param 1 (arg t yes (seat.the_row (run_bank.the_row T g) shown)))
seat_crosses t T g shown s = param_send 1 (arg t yes (seat.the_row (run_bank.the_row T g) shown)) (arg_send t yes (seat.the_row (run_bank.the_row T g) shown) (seat_send (run_bank.the_row T g) shown (run_bank_send T g s)))

abbrev done_rows : (T : RattleType) (g : Ghosts T.Denot) → Shown (run_bank.the_row T g).Denot → List RattleType
done_rows T g shown = seat.the_row (run_bank.the_row T g) shown ∷ option.the_row end_kind.the_row ∷ []

pub done_crosses : (t : Ty) (T : RattleType) (g : Ghosts T.Denot) (shown : Shown (run_bank.the_row T g).Denot) → IsSend T → IsSend (param 2 (arg t yes (Tuple (done_rows T g shown))))
done_crosses t T g shown s =
    param_send 2 (arg t yes (Tuple (done_rows T g shown)))
    (arg_send t yes (Tuple (done_rows T g shown))
    (declared_send (tuple_type (done_rows T g shown))
    (as_row_send (row_field (seat.the_row (run_bank.the_row T g) shown)) (seat_send (run_bank.the_row T g) shown (run_bank_send T g s)), (as_row_send (row_field (option.the_row end_kind.the_row)) (option_send end_kind.the_row end_send), tt))))

-- what six references to things that threads may share hold, threads may share
pub six_shared : (ν : Sym) (A B C D E F : RattleType) → IsSync A → IsSync B → IsSync C → IsSync D → IsSync E → IsSync F → IsSync (TupleAt ν (A ∷ B ∷ C ∷ D ∷ E ∷ F ∷ []))
six_shared ν A B C D E F a b c d e f =
    declared_sync (type_at ν (A ∷ B ∷ C ∷ D ∷ E ∷ F ∷ []))
    (as_row_sync (row_field A) a, (as_row_sync (row_field B) b, (as_row_sync (row_field C) c, (as_row_sync (row_field D) d, (as_row_sync (row_field E) e, (as_row_sync (row_field F) f, tt))))))
