-- What each event makes of the parts, from what the calls on them ensure.
use Rattle.std.proofs.Common.{◌≡◌, ℕ, ◌<◌, true, false, ◌⊎◌, inl, inr, IsTrue, [], ◌∷◌, length, slice_index, Some, None, refl, sym, ◌∙◌, ap, subst}
use Rattle.std.specs.List.{AllByRecursion}
use Rattle.pei_types.specs.declared.identifiers.Actor.{Actor}
use Rattle.pei_types.specs.declared.identifiers.BlockNo.{BlockNo}
use Rattle.pei_types.specs.declared.identifiers.CoreId.{CoreId}
use Rattle.pei_types.specs.declared.identifiers.Lane.{Lane}
use Rattle.pei_types.specs.declared.operations.Op.{Op}
use Rattle.pei_types.specs.declared.operations.Operands.{Operands}
use Rattle.pei_types.specs.declared.inflight_looks.PeiLook.{PeiLook}
use Rattle.pei_types.specs.declared.inflight_looks.Phase.TheVariants as phase
use Rattle.pei_types.specs.declared.events.EventKind.{EventKind}
use Rattle.pei_types.specs.declared.events.EventKind.TheVariants as event
use Rattle.pei_types.specs.declared.machines.MachineSpec.{MachineSpec}
use Rattle.pei_types.specs.Blocks.{block_of, word_of}
use Rattle.pei_types.specs.Calls.{is_actor_of}
use Rattle.pei_types.specs.MachineState.{State, conflict, free_lane}
use Rattle.pei_types.specs.FlatMemory.{with_word}
use Rattle.pei_types.specs.Guard.{guard}
use Rattle.pei_types.specs.Operation.{CanApply}
use Rattle.coherence_bus.specs.Hierarchy.{Hierarchy, after, with_content}
use Rattle.inflight.specs.OnTheWay.{OnTheWay, after_issuing, after_fence_begin, after_fence_end}
use Rattle.locality_monitor.specs.Laws as monitors
use Rattle.locality_monitor.specs.Table.{Table, with_access}
use Rattle.pei_types.specs.declared.calls.Call.TheVariants as call
use Rattle.pei_types.specs.Next.{issue_row}
use Rattle.pmu_dispatch.specs.Steps.{is_message}
use Rattle.fabric.specs.History.{program_of}
use Rattle.fabric.specs.Joined.{joined, joined_state, Joins, CanAct}
use Rattle.fabric.specs.Laws.{Laws}
use Rattle.fabric.specs.Moves.{after_event}
use Rattle.fabric.specs.Whole.{content_at}
use Rattle.fabric.proofs.Effects.{is_grant, message_joined, AreAccessed, shared_joined, owned_joined, modified_joined}
use Rattle.fabric.proofs.Fresh.{AllFresh, fresh_stored, fresh_issued}
use Rattle.fabric.proofs.Going.{program_is_actor}
use Rattle.fabric.proofs.Joining.{Leaves, joins_next}
use Rattle.pei_types.proofs.Lists.{each_append}

-- The parts are those of one machine after an event too, and show what the event leaves.
pub record Goes (m : MachineSpec) (bus : Hierarchy) (table : OnTheWay) (monitor : Table) (a : Actor) (kind : EventKind) (bus' : Hierarchy) (table' : OnTheWay) (monitor' : Table) : Type 0 where
  pub joins : Joins m bus' table' monitor'
  pub shows : joined bus' table' monitor' ≡ after_event (joined bus table monitor) a kind

module _ (laws : Laws) (m : MachineSpec) (bus : Hierarchy) (table : OnTheWay) (monitor : Table) (j : Joins m bus table monitor) where
  abbrev pub s : State
  s = joined_state bus table monitor

  goes : (a : Actor) (kind : EventKind) (bus' : Hierarchy) (table' : OnTheWay) (monitor' : Table) → IsTrue (is_actor_of bus.machine a) → IsTrue (guard bus.machine s a kind) → joined bus' table' monitor' ≡ after_event (joined bus table monitor) a kind → Leaves bus table monitor bus' table' monitor' → Goes m bus table monitor a kind bus' table' monitor'
  goes a kind bus' table' monitor' actor ok shows left =
      record { joins = joins_next laws m bus table monitor bus' table' monitor' a kind j actor ok shows left; shows = shows }

  -- the PEIs stay as they are, and so does memory
  caches_alone_go : (own : CoreId) (kind : EventKind) (bus' : Hierarchy) (monitor' : Table) → own.0 < bus.machine.cores → IsTrue (guard bus.machine s (program_of own) kind) → joined bus' table monitor' ≡ after_event (joined bus table monitor) (program_of own) kind → bus'.memory ≡ bus.memory → monitor'.ways ≡ monitor.ways → Goes m bus table monitor (program_of own) kind bus' table monitor'
  caches_alone_go own kind bus' monitor' core ok shows same ways =
      goes (program_of own) kind bus' table monitor' (program_is_actor bus.machine own core) ok shows (record {
        table_machine = refl;
        ways = ways;
        buffers = refl;
        acts = j.acts;
        fresh = subst (λ memory. AllFresh memory table.buffers table.state.peis) (sym same) j.fresh;
      })

  pub load_goes : (own : CoreId) (addr value : ℕ) (bus' : Hierarchy) → own.0 < bus.machine.cores → IsTrue (guard bus.machine s (program_of own) (event.Load addr value)) → bus' ≡ after bus own (event.Load addr value) → Goes m bus table monitor (program_of own) (event.Load addr value) bus' table monitor
  load_goes own addr value bus' core ok is =
      caches_alone_go own (event.Load addr value) bus' monitor core ok (ap (λ x. joined x table monitor) is) (ap (λ (h : Hierarchy). h.memory) is) refl

  pub message_goes : (own : CoreId) (kind : EventKind) (bus' : Hierarchy) → is_message kind ≡ true → is_grant kind ≡ false → own.0 < bus.machine.cores → IsTrue (guard bus.machine s (program_of own) kind) → bus' ≡ after bus own kind → Goes m bus table monitor (program_of own) kind bus' table monitor
  message_goes own kind bus' message plain core ok is =
      caches_alone_go own kind bus' monitor core ok (ap (λ x. joined x table monitor) is ∙ message_joined bus table monitor own kind message plain) (ap (λ (h : Hierarchy). h.memory) is) refl

  pub shared_goes : (own : CoreId) (b : BlockNo) (bus' : Hierarchy) (monitor' : Table) → own.0 < bus.machine.cores → IsTrue (guard bus.machine s (program_of own) (event.GrantS b)) → bus' ≡ after bus own (event.GrantS b) → AreAccessed bus monitor b monitor' → monitor'.ways ≡ monitor.ways → Goes m bus table monitor (program_of own) (event.GrantS b) bus' table monitor'
  shared_goes own b bus' monitor' core ok is seen ways =
      caches_alone_go own (event.GrantS b) bus' monitor' core ok (ap (λ x. joined x table monitor') is ∙ shared_joined bus table monitor monitor' own b seen) (ap (λ (h : Hierarchy). h.memory) is) ways

  pub owned_goes : (own : CoreId) (b : BlockNo) (bus' : Hierarchy) (monitor' : Table) → own.0 < bus.machine.cores → IsTrue (guard bus.machine s (program_of own) (event.GrantE b)) → bus' ≡ after bus own (event.GrantE b) → AreAccessed bus monitor b monitor' → monitor'.ways ≡ monitor.ways → Goes m bus table monitor (program_of own) (event.GrantE b) bus' table monitor'
  owned_goes own b bus' monitor' core ok is seen ways =
      caches_alone_go own (event.GrantE b) bus' monitor' core ok (ap (λ x. joined x table monitor') is ∙ owned_joined bus table monitor monitor' own b seen) (ap (λ (h : Hierarchy). h.memory) is) ways

  pub modified_goes : (own : CoreId) (b : BlockNo) (bus' : Hierarchy) (monitor' : Table) → own.0 < bus.machine.cores → IsTrue (guard bus.machine s (program_of own) (event.GrantM b)) → bus' ≡ after bus own (event.GrantM b) → AreAccessed bus monitor b monitor' → monitor'.ways ≡ monitor.ways → Goes m bus table monitor (program_of own) (event.GrantM b) bus' table monitor'
  modified_goes own b bus' monitor' core ok is seen ways =
      caches_alone_go own (event.GrantM b) bus' monitor' core ok (ap (λ x. joined x table monitor') is ∙ modified_joined bus table monitor monitor' own b seen) (ap (λ (h : Hierarchy). h.memory) is) ways

  pub store_goes : (own : CoreId) (addr value : ℕ) (bus' : Hierarchy) → own.0 < bus.machine.cores → IsTrue (guard bus.machine s (program_of own) (event.Store addr value)) → conflict s (block_of addr) true ≡ None
      → bus' ≡ with_content (after bus own (event.Store addr value)) (block_of addr) (with_word (content_at bus.memory (block_of addr)) (word_of addr) value) → Goes m bus table monitor (program_of own) (event.Store addr value) bus' table monitor
  store_goes own addr value bus' core ok alone is =
      goes (program_of own) (event.Store addr value) bus' table monitor (program_is_actor bus.machine own core) ok (ap (λ x. joined x table monitor) is) (record {
        table_machine = refl;
        ways = refl;
        buffers = refl;
        acts = j.acts;
        fresh = subst (λ memory. AllFresh memory table.buffers table.state.peis) (sym (ap (λ (h : Hierarchy). h.memory) is)) (fresh_stored bus.memory table.buffers s (block_of addr) (λ x. with_word x (word_of addr) value) refl alone j.fresh);
      })

  -- ---- the table alone

  table_goes : (a : Actor) (kind : EventKind) (table' : OnTheWay) → IsTrue (is_actor_of bus.machine a) → IsTrue (guard bus.machine s a kind) → joined bus table' monitor ≡ after_event (joined bus table monitor) a kind → table'.machine ≡ table.machine → table'.buffers ≡ table.buffers → AllByRecursion (CanAct bus.machine.blocks) table'.state.peis → AllFresh bus.memory table.buffers table'.state.peis → Goes m bus table monitor a kind bus table' monitor
  table_goes a kind table' actor ok shows machine buffers acts fresh =
      goes a kind bus table' monitor actor ok shows (record {
        table_machine = machine;
        ways = refl;
        buffers = ap length buffers;
        acts = acts;
        fresh = subst (λ bs. AllFresh bus.memory bs table'.state.peis) (sym buffers) fresh;
      })

  pub issue_goes : (own : CoreId) (lane : Lane) (o : Op) (b : BlockNo) (operands : Operands) (table' : OnTheWay) → own.0 < bus.machine.cores → IsTrue (guard bus.machine s (program_of own) (event.Issue (slice_index s.issues own.0) lane o b operands)) → CanApply o operands × (b.0 < bus.machine.blocks)
      → table' ≡ record table { state = after_issuing table.state own lane o b operands } → Goes m bus table monitor (program_of own) (event.Issue (slice_index s.issues own.0) lane o b operands) bus table' monitor
  issue_goes own lane o b operands table' core ok fits is =
      table_goes (program_of own) (event.Issue (slice_index s.issues own.0) lane o b operands) table' (program_is_actor bus.machine own core) ok (ap (λ x. joined bus x monitor) is) (ap (λ (x : OnTheWay). x.machine) is) (ap (λ (x : OnTheWay). x.buffers) is)
      (subst (λ (x : OnTheWay). AllByRecursion (CanAct bus.machine.blocks) x.state.peis) (sym is) (each_append (CanAct bus.machine.blocks) table.state.peis (issued ∷ []) j.acts (fits, tt)))
      (subst (λ (x : OnTheWay). AllFresh bus.memory table.buffers x.state.peis) (sym is) (fresh_issued bus.memory table.buffers table.state.peis issued refl j.fresh))
    where
      issued : PeiLook
      issued = record { id = record { core = own; seq = slice_index table.state.issues own.0 }; lane = lane; op = o; block = b; operands = operands; phase = phase.Issued }

  pub fence_begins : (own : CoreId) (table' : OnTheWay) → own.0 < bus.machine.cores → IsTrue (guard bus.machine s (program_of own) event.FenceBegin) → table' ≡ record table { state = after_fence_begin table.state own } → Goes m bus table monitor (program_of own) event.FenceBegin bus table' monitor
  fence_begins own table' core ok is =
      table_goes (program_of own) event.FenceBegin table' (program_is_actor bus.machine own core) ok (ap (λ x. joined bus x monitor) is) (ap (λ (x : OnTheWay). x.machine) is) (ap (λ (x : OnTheWay). x.buffers) is)
      (subst (λ (x : OnTheWay). AllByRecursion (CanAct bus.machine.blocks) x.state.peis) (sym is) j.acts)
      (subst (λ (x : OnTheWay). AllFresh bus.memory table.buffers x.state.peis) (sym is) j.fresh)

  pub fence_ends : (own : CoreId) (table' : OnTheWay) → own.0 < bus.machine.cores → IsTrue (guard bus.machine s (program_of own) event.FenceEnd) → table' ≡ record table { state = after_fence_end table.state own } → Goes m bus table monitor (program_of own) event.FenceEnd bus table' monitor
  fence_ends own table' core ok is =
      table_goes (program_of own) event.FenceEnd table' (program_is_actor bus.machine own core) ok (ap (λ x. joined bus x monitor) is) (ap (λ (x : OnTheWay). x.machine) is) (ap (λ (x : OnTheWay). x.buffers) is)
      (subst (λ (x : OnTheWay). AllByRecursion (CanAct bus.machine.blocks) x.state.peis) (sym is) j.acts)
      (subst (λ (x : OnTheWay). AllFresh bus.memory table.buffers x.state.peis) (sym is) j.fresh)

-- ---- grants, by the monitor's own effect

pub granted_goes : (laws : Laws) (m : MachineSpec) (bus : Hierarchy) (table : OnTheWay) (monitor : Table) (j : Joins m bus table monitor) (own : CoreId) (b : BlockNo) (kind : EventKind) (bus' : Hierarchy) (monitor' : Table) → (kind ≡ event.GrantS b) ⊎ ((kind ≡ event.GrantE b) ⊎ (kind ≡ event.GrantM b)) → own.0 < bus.machine.cores
    → IsTrue (guard bus.machine (joined_state bus table monitor) (program_of own) kind) → bus' ≡ after bus own kind → monitor' ≡ with_access monitor b → Goes m bus table monitor (program_of own) kind bus' table monitor'
granted_goes laws m bus table monitor j own b kind bus' monitor' which core ok is seen = by which
  where
    of : monitors.IsMonitorOf bus.machine (joined_state bus table monitor) monitor
    of = record { sets = j.invariants.sizes.monitor_sets; ways = j.ways; entries = refl }

    accessed : AreAccessed bus monitor b monitor'
    accessed = (laws.monitor.access bus.machine (joined_state bus table monitor) monitor b of).entries ∙ ap (λ (t : Table). t.sets) (sym seen)

    ways : monitor'.ways ≡ monitor.ways
    ways = ap (λ (t : Table). t.ways) seen

    by : (kind ≡ event.GrantS b) ⊎ ((kind ≡ event.GrantE b) ⊎ (kind ≡ event.GrantM b)) → Goes m bus table monitor (program_of own) kind bus' table monitor'
    by (inl e) = subst (λ k. Goes m bus table monitor (program_of own) k bus' table monitor') (sym e) (shared_goes laws m bus table monitor j own b bus' monitor' core (subst (λ k. IsTrue (guard bus.machine (joined_state bus table monitor) (program_of own) k)) e ok) (is ∙ ap (after bus own) e) accessed ways)
    by (inr (inl e)) = subst (λ k. Goes m bus table monitor (program_of own) k bus' table monitor') (sym e) (owned_goes laws m bus table monitor j own b bus' monitor' core (subst (λ k. IsTrue (guard bus.machine (joined_state bus table monitor) (program_of own) k)) e ok) (is ∙ ap (after bus own) e) accessed ways)
    by (inr (inr e)) = subst (λ k. Goes m bus table monitor (program_of own) k bus' table monitor') (sym e) (modified_goes laws m bus table monitor j own b bus' monitor' core (subst (λ k. IsTrue (guard bus.machine (joined_state bus table monitor) (program_of own) k)) e ok) (is ∙ ap (after bus own) e) accessed ways)

pub no_grant : (kind : EventKind) → ((b : BlockNo) → kind ≡ event.GrantS b → ⊥) → ((b : BlockNo) → kind ≡ event.GrantE b → ⊥) → ((b : BlockNo) → kind ≡ event.GrantM b → ⊥) → is_grant kind ≡ false
no_grant (event.GrantS b) s e m = absurd (s b refl)
no_grant (event.GrantE b) s e m = absurd (e b refl)
no_grant (event.GrantM b) s e m = absurd (m b refl)
no_grant _ s e m = refl

-- the issue into a lane that is the lowest free one
pub issued_goes : (laws : Laws) (m : MachineSpec) (bus : Hierarchy) (table : OnTheWay) (monitor : Table) (j : Joins m bus table monitor) (own : CoreId) (lane : Lane) (o : Op) (b : BlockNo) (operands : Operands) (table' : OnTheWay) → own.0 < bus.machine.cores → free_lane table.machine table.state own ≡ Some lane → CanApply o operands × (b.0 < bus.machine.blocks)
    → table' ≡ record table { state = after_issuing table.state own lane o b operands } → Goes m bus table monitor (program_of own) (event.Issue (slice_index table.state.issues own.0) lane o b operands) bus table' monitor
issued_goes laws m bus table monitor j own lane o b operands table' core free fits is =
    let here : free_lane bus.machine (joined_state bus table monitor) own ≡ Some lane = ap (λ k. free_lane k (joined_state bus table monitor) own) (sym j.table_machine) ∙ free
    in let allowed = laws.rows.at_call bus.machine (joined_state bus table monitor) (content_at bus.memory) (program_of own) (call.Pei o b operands) (event.Issue (slice_index table.state.issues own.0) lane o b operands) j.invariants (ap (issue_row (slice_index table.state.issues own.0) o b operands) here)
    in issue_goes laws m bus table monitor j own lane o b operands table' core allowed.guarded fits is
