use Rattle.std.proofs.Common.{◌≡◌, [], length, ap, ap₂, sym, ◌∙◌, subst, arith, rules}
use denote.Exit.{yes}
use denote.Param.Send.{arg_sync, param_sync, shr_sync}
use Rattle.pei_types.proofs.machines.MachineSpec.TheSendSync.{the_sync as spec_sync}
use Rattle.pei_types.proofs.programs.Image.TheSendSync.{the_sync as image_sync}
use Rattle.pei_types.proofs.programs.Program.TheSendSync.{the_sync as program_sync}
use Rattle.std.proofs.lemmas.List.{length-map}
use Rattle.atomic_table.proofs.Lists.{at_index}
use Rattle.pei_types.specs.declared.machines.MachineSpec.{MachineSpec}
use Rattle.pei_types.specs.Program.{Listing, Contents}
use Rattle.shared_table.specs.Actives.{active_in}
use Rattle.shared_table.specs.Journal.{events}
use Rattle.shared_table.specs.Parts.{core_number}
use Rattle.shared_table.specs.Place.{SeatList, all_seats}
use Rattle.fabric.specs.Banks.{BankHistory, banks_at_start}
use Rattle.fabric.specs.History.{History}
use Rattle.host_run.specs.Runs.{IsRunOf}
use Rattle.host_run.proofs.ClosingWhole.{AreDone, HasRun, all_new, done_count, few, has_run, idle, in_cores, order, seat_count, slot_at, slot_count, tables}
use Rattle.shared_table.proofs.table.SharedTable.TheSendSync.{the_sync as table_sync}
use Rattle.host_run.proofs.Sent.{done_crosses, run_bank_send, seat_crosses, six_shared, slot_crosses}
use Rattle.host_run.specs.contracts.slots.RunBank as run_bank
use Rattle.host_run.proofs.runs.run_as.Goals as goal

pub make-requires-2-clause-banks : goal.make-requires-2-clause-banks
make-requires-2-clause-banks g c κs within =
    let m = g.L.Run.machine
    in let f = c.in_ok-fabric.ensures
    in let same = c.in_ok-slots.ensures ∙ c.split.ensures ∙ ap₂ banks_at_start (ap (λ (h : History). h.machine) f ∙ c.requires.marker.1) (ap (λ (h : History). h.image) f ∙ c.requires.marker.2)
    in let count = slot_count (λ s. s.bank.value) m g.L.Run.image c.in_ok-slots.slots same
    in let some_bank = m.banks_in_limits.0.0
    in omega (arith, count, some_bank)

pub make-requires-2-clause-shared : goal.make-requires-2-clause-shared
make-requires-2-clause-shared g c κs within = λ b x e.
    let m = g.L.Run.machine
    in let f = c.in_ok-fabric.ensures
    in let same = c.in_ok-slots.ensures ∙ c.split.ensures ∙ ap₂ banks_at_start (ap (λ (h : History). h.machine) f ∙ c.requires.marker.1) (ap (λ (h : History). h.image) f ∙ c.requires.marker.2)
    in let it = slot_at (λ s. s.bank.value) m g.L.Run.image c.in_ok-slots.slots b x same e
    in (ap (λ (h : BankHistory). h.log) it, ap (λ (h : BankHistory). active_in m.directory (events h.log)) it, ap (λ (h : BankHistory). h.bank) it)

pub take_all-requires-after_bounds : goal.take_all-requires-after_bounds
take_all-requires-after_bounds g c κs within =
    let m = g.L.Run.machine
    in let made = ap (λ (s : SeatList). s.list) c.in_ok-table.ensures.seats ∙ ap (λ (n : MachineSpec). (all_seats c.in_ok-table.table.table n.cores).list) c.requires.marker.1
    in let count = seat_count c.in_ok-table.table.table m c.in_ok-table.seats.list made
    in let some_cores = m.cores_in_limits.1
    in omega (arith, count, some_cores)

pub map_vec-done-requires-after_bounds : goal.map_vec-done-requires-after_bounds
map_vec-done-requires-after_bounds g c κs within i x l e =
    let m = g.L.Run.machine
    in let t = c.in_ok-table.table.table
    in let r = c.requires.marker
    in let about = c.in_ok-table.ensures.table
    in let made = c.in_ok-jobs.ensures.taken ∙ ap (λ (s : SeatList). s.list) c.in_ok-table.ensures.seats ∙ ap (λ (n : MachineSpec). (all_seats t n.cores).list) r.1
    in let f = c.in_ok-fabric.ensures
    in let same = c.in_ok-slots.ensures ∙ c.split.ensures ∙ ap₂ banks_at_start (ap (λ (h : History). h.machine) f ∙ r.1) (ap (λ (h : History). h.image) f ∙ r.2)
    in let count = slot_count (λ s. s.bank.value) m g.L.Run.image c.in_ok-slots.slots same
    in let here = at_index c.in_ok-jobs.jobs.items i x l e
    in ((r.0, r.1, r.2, about.0 ∙ ap (λ (n : MachineSpec). n.directory) r.1, about.2 ∙ count, about.3 ∙ ap (λ (n : MachineSpec). n.events) r.1, all_new t m.cores c.in_ok-jobs.jobs.items made i x here, in_cores t m c.in_ok-jobs.jobs.items i x made here), search rules)

pub put_all-cores-requires-clause-few : goal.put_all-cores-requires-clause-few
put_all-cores-requires-clause-few g c κs within =
    let m = g.L.Run.machine
    in let t = c.in_ok-table.table.table
    in let r = c.requires.marker
    in let jobs = c.in_ok-jobs.jobs.items
    in let done = c.in-Ok.done.items
    in let made = c.in_ok-jobs.ensures.taken ∙ ap (λ (s : SeatList). s.list) c.in_ok-table.ensures.seats ∙ ap (λ (n : MachineSpec). (all_seats t n.cores).list) r.1
    in let count : length done ≡ length jobs = sym c.in-Ok.done.ok.0 ∙ c.in-Ok.ensures.len ∙ c.in_ok-jobs.jobs.ok.0
    in let told : AreDone g.L.Run.program m g.L.Run.image t jobs done = λ i d less. let k = c.in-Ok.ensures.each i d less in (k.1.call.met.0, λ s. k.1.call.met.1 ∙ ap core_number (sym (k.1.job_is s)))
    in few g.L.Run.program m g.L.Run.image t jobs done made count told

pub put_all-cores-requires-clause-table : goal.put_all-cores-requires-clause-table
put_all-cores-requires-clause-table g c κs within =
    let m = g.L.Run.machine
    in let t = c.in_ok-table.table.table
    in let r = c.requires.marker
    in let jobs = c.in_ok-jobs.jobs.items
    in let done = c.in-Ok.done.items
    in let made = c.in_ok-jobs.ensures.taken ∙ ap (λ (s : SeatList). s.list) c.in_ok-table.ensures.seats ∙ ap (λ (n : MachineSpec). (all_seats t n.cores).list) r.1
    in let count : length done ≡ length jobs = sym c.in-Ok.done.ok.0 ∙ c.in-Ok.ensures.len ∙ c.in_ok-jobs.jobs.ok.0
    in let told : AreDone g.L.Run.program m g.L.Run.image t jobs done = λ i d less. let k = c.in-Ok.ensures.each i d less in (k.1.call.met.0, λ s. k.1.call.met.1 ∙ ap core_number (sym (k.1.job_is s)))
    in let back = c.in_ok-jobs.ensures.left.1 ∙ ap (λ (s : SeatList). s.table) c.in_ok-table.ensures.seats
    in λ i d less. tables g.L.Run.program m g.L.Run.image t jobs done made count told i d less ∙ sym back

pub put_all-cores-requires-clause-order : goal.put_all-cores-requires-clause-order
put_all-cores-requires-clause-order g c κs within =
    let m = g.L.Run.machine
    in let t = c.in_ok-table.table.table
    in let r = c.requires.marker
    in let jobs = c.in_ok-jobs.jobs.items
    in let done = c.in-Ok.done.items
    in let made = c.in_ok-jobs.ensures.taken ∙ ap (λ (s : SeatList). s.list) c.in_ok-table.ensures.seats ∙ ap (λ (n : MachineSpec). (all_seats t n.cores).list) r.1
    in let count : length done ≡ length jobs = sym c.in-Ok.done.ok.0 ∙ c.in-Ok.ensures.len ∙ c.in_ok-jobs.jobs.ok.0
    in let told : AreDone g.L.Run.program m g.L.Run.image t jobs done = λ i d less. let k = c.in-Ok.ensures.each i d less in (k.1.call.met.0, λ s. k.1.call.met.1 ∙ ap core_number (sym (k.1.job_is s)))
    in order g.L.Run.program m g.L.Run.image t jobs done made count told

pub close-slots-requires-clause-all : goal.close-slots-requires-clause-all
close-slots-requires-clause-all g c κs within =
    let m = g.L.Run.machine
    in let t = c.in_ok-table.table.table
    in let r = c.requires.marker
    in let jobs = c.in_ok-jobs.jobs.items
    in let done = c.in-Ok.done.items
    in let made = c.in_ok-jobs.ensures.taken ∙ ap (λ (s : SeatList). s.list) c.in_ok-table.ensures.seats ∙ ap (λ (n : MachineSpec). (all_seats t n.cores).list) r.1
    in let count : length done ≡ length jobs = sym c.in-Ok.done.ok.0 ∙ c.in-Ok.ensures.len ∙ c.in_ok-jobs.jobs.ok.0
    in let told : AreDone g.L.Run.program m g.L.Run.image t jobs done = λ i d less. let k = c.in-Ok.ensures.each i d less in (k.1.call.met.0, λ s. k.1.call.met.1 ∙ ap core_number (sym (k.1.job_is s)))
    in ap length c.put_all-cores.ensures.seats.1 ∙ length-map done (λ y. y.0) ∙ done_count g.L.Run.program m g.L.Run.image t jobs done made count told ∙ sym (c.in_ok-table.ensures.table.1 ∙ ap (λ (n : MachineSpec). n.cores) r.1)

pub close-slots-requires-clause-idle : goal.close-slots-requires-clause-idle
close-slots-requires-clause-idle g c κs within =
    let m = g.L.Run.machine
    in let t = c.in_ok-table.table.table
    in let r = c.requires.marker
    in let jobs = c.in_ok-jobs.jobs.items
    in let done = c.in-Ok.done.items
    in let made = c.in_ok-jobs.ensures.taken ∙ ap (λ (s : SeatList). s.list) c.in_ok-table.ensures.seats ∙ ap (λ (n : MachineSpec). (all_seats t n.cores).list) r.1
    in let count : length done ≡ length jobs = sym c.in-Ok.done.ok.0 ∙ c.in-Ok.ensures.len ∙ c.in_ok-jobs.jobs.ok.0
    in let told : AreDone g.L.Run.program m g.L.Run.image t jobs done = λ i d less. let k = c.in-Ok.ensures.each i d less in (k.1.call.met.0, λ s. k.1.call.met.1 ∙ ap core_number (sym (k.1.job_is s)))
    in idle g.L.Run.program m g.L.Run.image t jobs done made count told c.put_all-cores.new.seats.list c.put_all-cores.ensures.seats.1

pub merge-requires : goal.merge-requires
merge-requires g c =
    let m = g.L.Run.machine
    in let t = c.in_ok-table.table.table
    in let r = c.requires.marker
    in let jobs = c.in_ok-jobs.jobs.items
    in let done = c.in-Ok.done.items
    in let made = c.in_ok-jobs.ensures.taken ∙ ap (λ (s : SeatList). s.list) c.in_ok-table.ensures.seats ∙ ap (λ (n : MachineSpec). (all_seats t n.cores).list) r.1
    in let count : length done ≡ length jobs = sym c.in-Ok.done.ok.0 ∙ c.in-Ok.ensures.len ∙ c.in_ok-jobs.jobs.ok.0
    in let told : AreDone g.L.Run.program m g.L.Run.image t jobs done = λ i d less. let k = c.in-Ok.ensures.each i d less in (k.1.call.met.0, λ s. k.1.call.met.1 ∙ ap core_number (sym (k.1.job_is s)))
    in let f = c.in_ok-fabric.ensures
    in let same = c.in_ok-slots.ensures ∙ c.split.ensures ∙ ap₂ banks_at_start (ap (λ (h : History). h.machine) f ∙ r.1) (ap (λ (h : History). h.image) f ∙ r.2)
    in let slots = slot_count (λ s. s.bank.value) m g.L.Run.image c.in_ok-slots.slots same
    in let about = c.in_ok-table.ensures.table
    in let closed = c.close-slots.ensures
    in let l = c.laws.ensures
    in let run : HasRun g.L.Run.program m g.L.Run.image c.without_run.result c.put_all-cores.result c.close-slots.result.1 = (
    has_run g.L.Run.program m g.L.Run.image t jobs done made count told l.legal l.apart l.sound (λ s. s.bank.value) c.close-slots.result.0 c.without_run.result c.without_run.ensures (closed.banks.0 ∙ about.2 ∙ slots)
    (λ b x e. (x.machine, x.image, closed.banks.1 b x e))
    c.in_ok-table.table.entries c.in_ok-table.table.events c.put_all-cores.new.seats.list closed.merged (about.0 ∙ ap (λ (n : MachineSpec). n.directory) r.1) (about.3 ∙ ap (λ (n : MachineSpec). n.events) r.1) c.put_all-cores.ensures.seats.1
    c.put_all-cores.result c.put_all-cores.ensures.ends c.close-slots.result.1 closed.receipt)
    in (m, g.L.Run.image, run.n, run.merges)

pub returns-clause-fabric : goal.returns-clause-fabric
returns-clause-fabric g c =
    let m = g.L.Run.machine
    in let t = c.in_ok-table.table.table
    in let r = c.requires.marker
    in let jobs = c.in_ok-jobs.jobs.items
    in let done = c.in-Ok.done.items
    in let made = c.in_ok-jobs.ensures.taken ∙ ap (λ (s : SeatList). s.list) c.in_ok-table.ensures.seats ∙ ap (λ (n : MachineSpec). (all_seats t n.cores).list) r.1
    in let count : length done ≡ length jobs = sym c.in-Ok.done.ok.0 ∙ c.in-Ok.ensures.len ∙ c.in_ok-jobs.jobs.ok.0
    in let told : AreDone g.L.Run.program m g.L.Run.image t jobs done = λ i d less. let k = c.in-Ok.ensures.each i d less in (k.1.call.met.0, λ s. k.1.call.met.1 ∙ ap core_number (sym (k.1.job_is s)))
    in let f = c.in_ok-fabric.ensures
    in let same = c.in_ok-slots.ensures ∙ c.split.ensures ∙ ap₂ banks_at_start (ap (λ (h : History). h.machine) f ∙ r.1) (ap (λ (h : History). h.image) f ∙ r.2)
    in let slots = slot_count (λ s. s.bank.value) m g.L.Run.image c.in_ok-slots.slots same
    in let about = c.in_ok-table.ensures.table
    in let closed = c.close-slots.ensures
    in let l = c.laws.ensures
    in let run : HasRun g.L.Run.program m g.L.Run.image c.without_run.result c.put_all-cores.result c.close-slots.result.1 = (
    has_run g.L.Run.program m g.L.Run.image t jobs done made count told l.legal l.apart l.sound (λ s. s.bank.value) c.close-slots.result.0 c.without_run.result c.without_run.ensures (closed.banks.0 ∙ about.2 ∙ slots)
    (λ b x e. (x.machine, x.image, closed.banks.1 b x e))
    c.in_ok-table.table.entries c.in_ok-table.table.events c.put_all-cores.new.seats.list closed.merged (about.0 ∙ ap (λ (n : MachineSpec). n.directory) r.1) (about.3 ∙ ap (λ (n : MachineSpec). n.events) r.1) c.put_all-cores.ensures.seats.1
    c.put_all-cores.result c.put_all-cores.ensures.ends c.close-slots.result.1 closed.receipt)
    in let whole = c.merge.ensures m g.L.Run.image run.n run.merges
    in (ap (λ (h : History). h.machine) whole ∙ sym r.1, ap (λ (h : History). h.image) whole ∙ sym r.2)

pub returns-clause-run : goal.returns-clause-run
returns-clause-run g c =
    let m = g.L.Run.machine
    in let t = c.in_ok-table.table.table
    in let r = c.requires.marker
    in let jobs = c.in_ok-jobs.jobs.items
    in let done = c.in-Ok.done.items
    in let made = c.in_ok-jobs.ensures.taken ∙ ap (λ (s : SeatList). s.list) c.in_ok-table.ensures.seats ∙ ap (λ (n : MachineSpec). (all_seats t n.cores).list) r.1
    in let count : length done ≡ length jobs = sym c.in-Ok.done.ok.0 ∙ c.in-Ok.ensures.len ∙ c.in_ok-jobs.jobs.ok.0
    in let told : AreDone g.L.Run.program m g.L.Run.image t jobs done = λ i d less. let k = c.in-Ok.ensures.each i d less in (k.1.call.met.0, λ s. k.1.call.met.1 ∙ ap core_number (sym (k.1.job_is s)))
    in let f = c.in_ok-fabric.ensures
    in let same = c.in_ok-slots.ensures ∙ c.split.ensures ∙ ap₂ banks_at_start (ap (λ (h : History). h.machine) f ∙ r.1) (ap (λ (h : History). h.image) f ∙ r.2)
    in let slots = slot_count (λ s. s.bank.value) m g.L.Run.image c.in_ok-slots.slots same
    in let about = c.in_ok-table.ensures.table
    in let closed = c.close-slots.ensures
    in let l = c.laws.ensures
    in let run : HasRun g.L.Run.program m g.L.Run.image c.without_run.result c.put_all-cores.result c.close-slots.result.1 = (
    has_run g.L.Run.program m g.L.Run.image t jobs done made count told l.legal l.apart l.sound (λ s. s.bank.value) c.close-slots.result.0 c.without_run.result c.without_run.ensures (closed.banks.0 ∙ about.2 ∙ slots)
    (λ b x e. (x.machine, x.image, closed.banks.1 b x e))
    c.in_ok-table.table.entries c.in_ok-table.table.events c.put_all-cores.new.seats.list closed.merged (about.0 ∙ ap (λ (n : MachineSpec). n.directory) r.1) (about.3 ∙ ap (λ (n : MachineSpec). n.events) r.1) c.put_all-cores.ensures.seats.1
    c.put_all-cores.result c.put_all-cores.ensures.ends c.close-slots.result.1 closed.receipt)
    in let whole = c.merge.ensures m g.L.Run.image run.n run.merges
    in subst (λ (p : Listing). IsRunOf p c.args.spec.now c.args.image.now c.merge.result.journal c.put_all-cores.result c.close-slots.result.1) (sym r.0)
    (subst (λ (n : MachineSpec). IsRunOf g.L.Run.program n c.args.image.now c.merge.result.journal c.put_all-cores.result c.close-slots.result.1) (sym r.1)
    (subst (λ (x : Contents). IsRunOf g.L.Run.program m x c.merge.result.journal c.put_all-cores.result c.close-slots.result.1) (sym r.2)
    (subst (λ js. IsRunOf g.L.Run.program m g.L.Run.image js c.put_all-cores.result c.close-slots.result.1) (sym (ap (λ (h : History). h.journal) whole)) run.run)))

-- ---- what goes to threads

pub make-requires-2-send-S : goal.make-requires-2-send-S
make-requires-2-send-S g c κs within = slot_crosses _ _ g.L.Run c.type_bounds.send-L

pub close-slots-requires-send-S : goal.close-slots-requires-send-S
close-slots-requires-send-S g c κs within = slot_crosses _ _ g.L.Run c.type_bounds.send-L

pub map_vec-done-requires-send-J : goal.map_vec-done-requires-send-J
map_vec-done-requires-send-J g c κs within = seat_crosses _ _ g.L.Run (record { log = λ x. []; active = λ x. []; bank = λ x. 0 }) c.type_bounds.send-L

pub map_vec-done-requires-send-X : goal.map_vec-done-requires-send-X
map_vec-done-requires-send-X g c κs within = done_crosses _ _ g.L.Run (record { log = λ x. []; active = λ x. []; bank = λ x. 0 }) c.type_bounds.send-L

pub map_vec-done-requires-sync-F : goal.map_vec-done-requires-sync-F
map_vec-done-requires-sync-F g c κs within =
    param_sync 4 _ (arg_sync _ yes _ (six_shared _ _ _ _ _ _ _ (shr_sync _ _ _ c.type_bounds.sync-R) (shr_sync _ _ _ (table_sync (run_bank.the_row _ g.L.Run) _ (run_bank_send _ g.L.Run c.type_bounds.send-L))) (shr_sync _ _ _ program_sync) (shr_sync _ _ _ spec_sync) (shr_sync _ _ _ image_sync) (shr_sync _ _ _ c.type_bounds.sync-G)))
