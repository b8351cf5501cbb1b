-- A bank may go to another thread, since all that it is made of may.
use denote.Builtin.{u32}
use denote.Hole.{as_row}
use denote.Param.Send.{IsSend, sendable, view_send}
use denote.Param.SendFields.{declared_send}
use Rattle.std.below.std_heap.proofs.GlobalAllocator.TheSendSync.{the_frees}
use Rattle.std.proofs.option.Option.TheSendSync.{the_send as option_send}
use Rattle.std.proofs.vec.Vec.TheSendSync.{the_send as vec_send}
use Rattle.std.specs.contracts.alloc.Global as allocator
use Rattle.std.specs.contracts.impls.GlobalAllocator.TheImpl.{ghosts}
use Rattle.std.specs.contracts.vec.Vec as vec
use Rattle.pei_types.proofs.machines.MachineSpec.TheSendSync.{the_send as machine_send}
use Rattle.coherence_bus.proofs.bus.Bus.TheSendSync.{the_send as bus_send}
use Rattle.inflight.proofs.Inflight.TheSendSync.{the_send as inflight_send}
use Rattle.journal.proofs.Journal.TheSendSync.{the_send as journal_send}
use Rattle.locality_monitor.proofs.Monitor.TheSendSync.{the_send as monitor_send}
use Rattle.fabric.specs.contracts.bank.Bank as bank
use Rattle.fabric.specs.contracts.bank.Reserve as reserve
use Rattle.fabric.specs.contracts.parts.Parts as parts
use Rattle.fabric.specs.contracts.sections.Section as section

parts_send : IsSend parts.the_row
parts_send = view_send parts.TheInside.the_row _ _ _ _ (declared_send parts.TheInside.the_type (machine_send, (bus_send, (inflight_send, (monitor_send, tt)))))

section_send : IsSend section.the_row
section_send = view_send section.TheInside.the_row _ _ _ _ (declared_send section.TheInside.the_type (parts_send, (journal_send, (search sendable, (search sendable, (vec_send u32 allocator.the_row ghosts (search sendable) (search sendable) the_frees, tt))))))

sections_send : IsSend (as_row (vec.the_field section.the_row allocator.the_row ghosts))
sections_send = vec_send section.the_row allocator.the_row ghosts section_send (search sendable) the_frees

reserve_send : IsSend reserve.the_row
reserve_send = declared_send reserve.the_type (parts_send, (journal_send, (search sendable, (sections_send, tt))))

pub bank_send : IsSend bank.the_row
bank_send = view_send bank.TheInside.the_row _ _ _ _ (declared_send bank.TheInside.the_type (section_send, (option_send reserve.the_row reserve_send, tt)))
