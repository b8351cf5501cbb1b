-- What each event makes of the parts, from what the calls on them ensure.
use Rattle.std.proofs.Common.{◌≡◌, ℕ, zero, suc, ◌==◌, Bool, true, false, not, ◌&&◌, ◌||◌, if◌then◌else◌, List, [], ◌∷◌, drop, length, ◌⊎◌, inl, inr, Option, Some, None, option_map, refl, sym, ◌∙◌, ap, subst}
use Rattle.std.specs.Prelude.{slice_index, slice_index_or}
use Rattle.std.specs.Option.{option_map_or}
use Rattle.pei_types.specs.declared.identifiers.Actor.{Actor}
use Rattle.pei_types.specs.declared.identifiers.Block.{Block}
use Rattle.pei_types.specs.declared.identifiers.BlockNo.{BlockNo}
use Rattle.pei_types.specs.declared.identifiers.CoreId.{CoreId}
use Rattle.pei_types.specs.declared.identifiers.Lane.{Lane}
use Rattle.pei_types.specs.declared.inflight_looks.PeiLook.{PeiLook}
use Rattle.pei_types.specs.declared.inflight_looks.Phase.{Phase}
use Rattle.pei_types.specs.declared.inflight_looks.Phase.TheVariants as phase
use Rattle.pei_types.specs.declared.events.EventKind.{EventKind}
use Rattle.pei_types.specs.declared.events.EventKind.TheVariants as event
use Rattle.pei_types.specs.declared.machines.MachineSpec.{MachineSpec}
use Rattle.pei_types.specs.declared.operations.Letter.{Letter}
use Rattle.pei_types.specs.declared.operations.Letter.TheVariants as letter
use Rattle.pei_types.specs.declared.operations.Mark.TheVariants as mark
use Rattle.pei_types.specs.declared.operations.Op.{Op}
use Rattle.pei_types.specs.declared.operations.Operands.{Operands}
use Rattle.pei_types.specs.declared.operations.Place.{Place}
use Rattle.pei_types.specs.declared.operations.Place.TheVariants as place
use Rattle.pei_types.specs.declared.operations.Reply.{Reply}
use Rattle.pei_types.specs.Blocks.{block_of, llc_set_of, same_block, tag_of, vault_of, word_of}
use Rattle.pei_types.specs.MachineState.{State, after_acting, after_acting_in, after_granting, after_placing, after_reading, free_lane, in_phase, is_absent, is_ahead, is_i, is_owned, is_sealed, mark_of, no_other_has, writer_is_sealed, letter_of, look_in, look_of, next_state, after_leaving, with_l1_front, with_l1_shared, with_l1_touch, with_llc_mark, with_queued, without_l1_line}
use Rattle.std.proofs.lemmas.Bool.{and_parts, eqb-true}
use Rattle.pei_types.proofs.Identities.{same_lane_is}
use Rattle.pei_types.specs.Guard.{guard, is_lane, l1_has_room, llc_has_room}
use Rattle.pei_types.specs.FlatMemory.{with_word}
use Rattle.pei_types.specs.Monitor.{MonitorEntry, after_access, after_policy}
use Rattle.pei_types.specs.Operation.{block_after, is_writer}
use Rattle.pei_types.specs.Recency.{change_at}
use Rattle.coherence_laws.specs.Data.{flat_act, next_flat}
use Rattle.coherence_bus.specs.Hierarchy.{Hierarchy, after, content_of, program_of, state_of, with_caches, with_content}
use Rattle.inflight.specs.OnTheWay.{OnTheWay, IsHead, after_fence_begin, after_fence_end, after_issuing, after_sealing, lane_in_phase, phase_at, phase_in, without_head, without_lane}
use Rattle.locality_monitor.specs.Laws.{FollowsState, IsMonitorOf}
use Rattle.locality_monitor.specs.Table.{Table, with_access}
use Rattle.pei_types.specs.declared.machines.Policy3.{Policy3}
use Rattle.pei_types.specs.declared.machines.Policy3.TheVariants as policy
use Rattle.pmu_dispatch.specs.Steps.{is_message}
use Rattle.trace_check.specs.CheckerParts.{Moved, actor_of, host_written, joined, placed_under}
use Rattle.trace_check.specs.declared.checker.Checker.{Checker}
use Rattle.trace_check.proofs.Contents.{acts_on_none, content_changed, reader_keeps}

-- whether a message grants a block
abbrev pub is_grant : EventKind → Bool
is_grant (event.GrantS b) = true
is_grant (event.GrantE b) = true
is_grant (event.GrantM b) = true
is_grant _ = false

-- the message grants this block
abbrev pub IsGrantOf : BlockNo → EventKind → Type 0
IsGrantOf b (event.GrantS e) = e ≡ b
IsGrantOf b (event.GrantE e) = e ≡ b
IsGrantOf b (event.GrantM e) = e ≡ b
IsGrantOf b _ = ⊥

-- The parts after an event show what the event leaves.
pub record Moves (bus : Hierarchy) (table : OnTheWay) (monitor : Table) (a : Actor) (kind : EventKind) (bus' : Hierarchy) (table' : OnTheWay) (monitor' : Table) : Type 0 where
  pub state : joined bus' table' monitor' ≡ next_state bus.machine (joined bus table monitor) a kind
  pub content : (b : BlockNo) → content_of bus' b ≡ next_flat (joined bus table monitor) (content_of bus) a kind b

pub moved_by : (v w : Checker) (a : Actor) (kind : EventKind) → w.machine ≡ v.machine → w.cores ≡ v.cores → w.ended ≡ v.ended → v.bus.machine ≡ v.machine → Moves v.bus v.inflight v.monitor a kind w.bus w.inflight w.monitor → Moved v w a kind
moved_by v w a kind em ec ee eb moves =
    record { machine = em; cores = ec; ended = ee; state = moves.state ∙ ap (λ (n : MachineSpec). next_state n (joined v.bus v.inflight v.monitor) a kind) eb; content = moves.content }

module _ (bus : Hierarchy) (table : OnTheWay) (monitor : Table) where
  abbrev s : State
  s = joined bus table monitor

  -- ---- a core's program

  pub load_moves : (a : Actor) (own : CoreId) (addr value got : ℕ) (bus' : Hierarchy) → a.core ≡ own → bus' ≡ after bus own (event.Load addr got) → Moves bus table monitor a (event.Load addr value) bus' table monitor
  load_moves a own addr value got bus' core is =
      record {
        state = ap (λ x. joined x table monitor) is ∙ ap (λ (c : CoreId). with_l1_touch bus.machine s c (block_of addr)) (sym core);
        content = λ b. ap (λ x. content_of x b) is;
      }

  pub store_moves : (a : Actor) (own : CoreId) (addr value : ℕ) (bus' : Hierarchy) → a.core ≡ own → bus' ≡ with_content (after bus own (event.Store addr value)) (block_of addr) (with_word (content_of bus (block_of addr)) (word_of addr) value) → Moves bus table monitor a (event.Store addr value) bus' table monitor
  store_moves a own addr value bus' core is =
      record {
        state = ap (λ x. joined x table monitor) is ∙ ap (λ (c : CoreId). with_l1_front bus.machine s c (block_of addr) letter.M) (sym core);
        content = λ b. ap (λ x. content_of x b) is ∙ content_changed bus (block_of addr) b (λ x. with_word x (word_of addr) value) refl;
      }

  pub issue_moves : (a : Actor) (own : CoreId) (seq : ℕ) (lane : Lane) (o : Op) (b : BlockNo) (operands : Operands) (table' : OnTheWay) → a.core ≡ own → seq ≡ slice_index table.state.issues own.0 → table' ≡ record table { state = after_issuing table.state own lane o b operands } → Moves bus table monitor a (event.Issue seq lane o b operands) bus table' monitor
  issue_moves a own seq lane o b operands table' core number is =
      record {
        state = ap (λ x. joined bus x monitor) is ∙ ap (λ (n : ℕ). next_state bus.machine s (record { core = own; lane = a.lane }) (event.Issue n lane o b operands)) (sym number) ∙ ap (λ (c : CoreId). next_state bus.machine s (record { core = c; lane = a.lane }) (event.Issue seq lane o b operands)) (sym core);
        content = λ e. refl;
      }

  pub begin_moves : (a : Actor) (own : CoreId) (table' : OnTheWay) → a.core ≡ own → table' ≡ record table { state = after_fence_begin table.state own } → Moves bus table monitor a event.FenceBegin bus table' monitor
  begin_moves a own table' core is =
      record {
        state = ap (λ x. joined bus x monitor) is ∙ ap (λ (c : CoreId). next_state bus.machine s (record { core = c; lane = a.lane }) event.FenceBegin) (sym core);
        content = λ e. refl;
      }

  pub end_moves : (a : Actor) (own : CoreId) (table' : OnTheWay) → a.core ≡ own → table' ≡ record table { state = after_fence_end table.state own } → Moves bus table monitor a event.FenceEnd bus table' monitor
  end_moves a own table' core is =
      record {
        state = ap (λ x. joined bus x monitor) is ∙ ap (λ (c : CoreId). next_state bus.machine s (record { core = c; lane = a.lane }) event.FenceEnd) (sym core);
        content = λ e. refl;
      }

  -- ---- messages

  taken_away : (c : CoreId) (b : BlockNo) (t : Bool) → joined (with_caches bus (without_l1_line bus.machine (if t then with_llc_mark bus.machine (state_of bus) b mark.Dirty else state_of bus) c b)) table monitor ≡ without_l1_line bus.machine (if t then with_llc_mark bus.machine s b mark.Dirty else s) c b
  taken_away c b true = refl
  taken_away c b false = refl

  shared : (c : CoreId) (b : BlockNo) (t : Bool) → joined (with_caches bus (with_l1_shared bus.machine (if t then with_llc_mark bus.machine (state_of bus) b mark.Dirty else state_of bus) c b)) table monitor ≡ with_l1_shared bus.machine (if t then with_llc_mark bus.machine s b mark.Dirty else s) c b
  shared c b true = refl
  shared c b false = refl

  message_state : (own : CoreId) (kind : EventKind) → is_message kind ≡ true → is_grant kind ≡ false → joined (after bus own kind) table monitor ≡ next_state bus.machine s (program_of own) kind
  message_state own (event.Invalidate c b) h g = taken_away c b (is_ahead (letter_of bus.machine (state_of bus) c b))
  message_state own (event.EvictL1 c b) h g = taken_away c b (is_ahead (letter_of bus.machine (state_of bus) c b))
  message_state own (event.Downgrade c b) h g = shared c b (is_ahead (letter_of bus.machine (state_of bus) c b))
  message_state own (event.Clean b) h g = refl
  message_state own (event.EvictLlc b) h g = refl
  message_state own (event.Fill b) h g = refl
  message_state own (event.GrantS b) h g = absurd (cc g)
  message_state own (event.GrantE b) h g = absurd (cc g)
  message_state own (event.GrantM b) h g = absurd (cc g)
  message_state own _ h g = absurd (cc h)

  -- what a message makes is made by no lane
  any_lane : (m : MachineSpec) (t : State) (a : Actor) (own : CoreId) (kind : EventKind) → a.core ≡ own → is_message kind ≡ true → next_state m t (program_of own) kind ≡ next_state m t a kind
  any_lane m t a own kind core h = by kind h ∙ ap (λ (c : CoreId). next_state m t (record { core = c; lane = a.lane }) kind) (sym core)
    where
      by : (k : EventKind) → is_message k ≡ true → next_state m t (program_of own) k ≡ next_state m t (record { core = own; lane = a.lane }) k
      by (event.Invalidate c b) h = refl
      by (event.Downgrade c b) h = refl
      by (event.EvictL1 c b) h = refl
      by (event.Clean b) h = refl
      by (event.EvictLlc b) h = refl
      by (event.Fill b) h = refl
      by (event.GrantS b) h = refl
      by (event.GrantE b) h = refl
      by (event.GrantM b) h = refl
      by _ h = absurd (cc h)

  same_memory : (a : Actor) (kind : EventKind) (b : BlockNo) → is_message kind ≡ true → content_of bus b ≡ next_flat s (content_of bus) a kind b
  same_memory a (event.Invalidate c d) b h = refl
  same_memory a (event.Downgrade c d) b h = refl
  same_memory a (event.EvictL1 c d) b h = refl
  same_memory a (event.Clean d) b h = refl
  same_memory a (event.EvictLlc d) b h = refl
  same_memory a (event.Fill d) b h = refl
  same_memory a (event.GrantS d) b h = refl
  same_memory a (event.GrantE d) b h = refl
  same_memory a (event.GrantM d) b h = refl
  same_memory a _ b h = absurd (cc h)

  pub message_moves : (a : Actor) (own : CoreId) (kind : EventKind) (bus' : Hierarchy) → a.core ≡ own → is_message kind ≡ true → is_grant kind ≡ false → bus' ≡ after bus own kind → Moves bus table monitor a kind bus' table monitor
  message_moves a own kind bus' core h g is =
      record {
        state = ap (λ x. joined x table monitor) is ∙ message_state own kind h g ∙ any_lane bus.machine s a own kind core h;
        content = λ b. ap (λ x. content_of x b) is ∙ same_memory a kind b h;
      }

  -- a grant, which the monitor sees as an access
  abbrev pub AreAccessed : BlockNo → Table → Type 0
  AreAccessed b accessed = change_at monitor.sets (llc_set_of bus.machine b) (after_access bus.machine.llc_ways (tag_of bus.machine b)) ≡ accessed.sets

  granted_state : (accessed : Table) (own : CoreId) (b : BlockNo) (l : Letter) → AreAccessed b accessed → joined (with_caches bus (after_granting bus.machine (state_of bus) own b l)) table accessed ≡ after_granting bus.machine s own b l
  granted_state accessed own b l same = ap (λ (sets : List (List MonitorEntry)). record (joined (with_caches bus (after_granting bus.machine (state_of bus) own b l)) table monitor) { monitor = sets }) (sym same)

  pub grant_moves : (a : Actor) (own : CoreId) (kind : EventKind) (b : BlockNo) (bus' : Hierarchy) (monitor' : Table) → a.core ≡ own → IsGrantOf b kind → bus' ≡ after bus own kind → AreAccessed b monitor' → Moves bus table monitor a kind bus' table monitor'
  grant_moves a own kind b bus' monitor' core of is same =
      record {
        state = ap (λ x. joined x table monitor') is ∙ by kind of ∙ any_lane bus.machine s a own kind core (grants kind of);
        content = λ e. ap (λ x. content_of x e) is ∙ same_memory a kind e (grants kind of);
      }
    where
      grants : (k : EventKind) → IsGrantOf b k → is_message k ≡ true
      grants (event.GrantS e) h = refl
      grants (event.GrantE e) h = refl
      grants (event.GrantM e) h = refl
      grants _ h = absurd h

      by : (k : EventKind) → IsGrantOf b k → joined (after bus own k) table monitor' ≡ next_state bus.machine s (program_of own) k
      by (event.GrantS e) h = granted_state monitor' own e letter.S (subst (λ (x : BlockNo). AreAccessed x monitor') (sym h) same)
      by (event.GrantE e) h = granted_state monitor' own e letter.E (subst (λ (x : BlockNo). AreAccessed x monitor') (sym h) same)
      by (event.GrantM e) h = granted_state monitor' own e letter.M (subst (λ (x : BlockNo). AreAccessed x monitor') (sym h) same)
      by _ h = absurd h

  -- ---- PEIs

  module _ (p : PeiLook) (here : look_in s p.id.core p.lane ≡ Some p) (named : look_of s p.id ≡ Some p) where
    phase_is : (t : State) (ph : Phase) → look_in t p.id.core p.lane ≡ Some p → lane_in_phase t p.id.core p.lane ph ≡ in_phase t p.id ph
    phase_is t ph found = ap (λ o. option_map_or (λ (q : PeiLook). in_phase t q.id ph) o t) found

    pub enter_moves : (table' : OnTheWay) → table' ≡ record table { state = lane_in_phase table.state p.id.core p.lane phase.Entered } → Moves bus table monitor (actor_of p) (event.Enter p.id.seq) bus table' monitor
    enter_moves table' is =
        record { state = ap (λ x. joined bus x monitor) (is ∙ ap (λ t. record table { state = t }) (phase_is table.state phase.Entered here)); content = λ e. refl }

    pub leave_moves : (table' : OnTheWay) → table' ≡ record table { state = without_lane table.state p.id.core p.lane } → Moves bus table monitor (actor_of p) (event.Leave p.id.seq) bus table' monitor
    leave_moves table' is =
        record { state = ap (λ x. joined bus x monitor) (is ∙ ap (λ o. record table { state = option_map_or (λ (q : PeiLook). after_leaving table.state q.id) o table.state }) here); content = λ e. refl }

    pub seal_moves : (v : ℕ) (table' : OnTheWay) → table' ≡ record table { state = after_sealing table.state p.id.core p.lane v } → Moves bus table monitor (actor_of p) (event.Seal p.id.seq v) bus table' monitor
    seal_moves v table' is =
        record { state = ap (λ x. joined bus x monitor) (is ∙ ap (λ o. record table { state = option_map_or (λ (q : PeiLook). in_phase (with_queued table.state v q.id) q.id phase.Sealed) o table.state }) here); content = λ e. refl }

    pub read_moves : (buffers : List Block) (bus' : Hierarchy) (table' : OnTheWay) → bus' ≡ with_caches bus (with_l1_touch bus.machine (state_of bus) p.id.core p.block) → table' ≡ record table { state = lane_in_phase table.state p.id.core p.lane phase.Read; buffers = buffers } → Moves bus table monitor (actor_of p) (event.Read p.id.seq) bus' table' monitor
    read_moves buffers bus' table' touched is =
        record {
          state = ap (λ x. joined x table' monitor) touched
              ∙ ap (λ x. joined (with_caches bus (with_l1_touch bus.machine (state_of bus) p.id.core p.block)) x monitor) (is ∙ ap (λ t. record table { state = t; buffers = buffers }) (phase_is table.state phase.Read here))
              ∙ sym (ap (λ o. in_phase (after_reading bus.machine s o) p.id phase.Read) named);
          content = λ e. ap (λ x. content_of x e) touched;
        }

    -- the monitor's lists after a placement are the state's
    abbrev pub ArePlaced : Table → Type 0
    ArePlaced placed = change_at monitor.sets (llc_set_of bus.machine p.block) (after_policy bus.machine.placement bus.machine.llc_ways (tag_of bus.machine p.block)) ≡ placed.sets

    placed_state : (ph : Phase) (table' : OnTheWay) (monitor' : Table) → ArePlaced monitor' → table' ≡ record table { state = lane_in_phase table.state p.id.core p.lane ph } → joined bus table' monitor' ≡ in_phase (after_placing bus.machine s (look_of s p.id)) p.id ph
    placed_state ph table' monitor' placed is =
        ap (λ x. joined bus x monitor') (is ∙ ap (λ t. record table { state = t }) (phase_is table.state ph here))
        ∙ ap (λ (sets : List (List MonitorEntry)). record (in_phase s p.id ph) { monitor = sets }) (sym placed)
        ∙ sym (ap (λ o. in_phase (after_placing bus.machine s o) p.id ph) named)

    pub place_moves : (to : Place) (table' : OnTheWay) (monitor' : Table) → ArePlaced monitor' → table' ≡ record table { state = lane_in_phase table.state p.id.core p.lane (phase_at to) } → Moves bus table monitor (actor_of p) (event.Place p.id.seq to) bus table' monitor'
    place_moves place.Host table' monitor' placed is = record { state = placed_state phase.HostPlaced table' monitor' placed is; content = λ e. refl }
    place_moves place.Memory table' monitor' placed is = record { state = placed_state phase.MemoryPlaced table' monitor' placed is; content = λ e. refl }

    -- ---- acts

    act_content : (bus' : Hierarchy) → bus'.memory ≡ (with_content bus p.block (block_after p.op p.operands (content_of bus p.block))).memory → (reply : Reply) (e : BlockNo) → content_of bus' e ≡ next_flat s (content_of bus) (actor_of p) (event.Act p.id.seq reply) e
    act_content bus' memory reply e =
        ap (λ (xs : List Block). slice_index_or xs e.0 (record { 0 = [] })) memory
        ∙ content_changed bus p.block e (block_after p.op p.operands) (acts_on_none p.op p.operands)
        ∙ sym (ap (λ o. flat_act (content_of bus) o e) named)

    pub memory_acts : (reply : Reply) (bus' : Hierarchy) (table' : OnTheWay) → p.phase ≡ phase.Sealed → bus' ≡ with_content bus p.block (block_after p.op p.operands (content_of bus p.block))
        → table' ≡ record table { state = lane_in_phase (without_head bus.machine table.state p.id.core p.lane) p.id.core p.lane phase.Acted } → Moves bus table monitor (actor_of p) (event.Act p.id.seq reply) bus' table' monitor
    memory_acts reply bus' table' sealed written is =
        let queued = λ (t : State). record t { queues = change_at t.queues (vault_of bus.machine p.block) (drop 1) }
        in let headless : without_head bus.machine table.state p.id.core p.lane ≡ queued table.state = ap (λ o. option_map_or (λ (q : PeiLook). record table.state { queues = change_at table.state.queues (vault_of bus.machine q.block) (drop 1) }) o table.state) here
        in let told : table' ≡ record table { state = in_phase (queued table.state) p.id phase.Acted } =
        is ∙ ap (λ t. record table { state = lane_in_phase t p.id.core p.lane phase.Acted }) headless
        ∙ ap (λ o. record table { state = option_map_or (λ (q : PeiLook). in_phase (queued table.state) q.id phase.Acted) o (queued table.state) }) here
        in let done : after_acting bus.machine s (look_of s p.id) ≡ queued s = ap (after_acting bus.machine s) named ∙ ap (after_acting_in bus.machine s p) sealed
        in record {
          state = ap (λ x. joined x table' monitor) written ∙ ap (λ x. joined bus x monitor) told ∙ sym (ap (λ t. in_phase t p.id phase.Acted) done);
          content = act_content bus' (ap (λ (h : Hierarchy). h.memory) written) reply;
        }

    -- at the host: a writer's core writes the block
    pub writer_acts : (reply : Reply) (block : Block) (bus' : Hierarchy) (table' : OnTheWay) → p.phase ≡ phase.Read → is_writer p.op ≡ true → block ≡ block_after p.op p.operands (content_of bus p.block) → bus' ≡ with_content (with_caches bus (with_l1_front bus.machine (state_of bus) p.id.core p.block letter.M)) p.block block
        → table' ≡ record table { state = lane_in_phase table.state p.id.core p.lane phase.Acted } → Moves bus table monitor (actor_of p) (event.Act p.id.seq reply) bus' table' monitor
    writer_acts reply block bus' table' read writes computed written is =
        let done : after_acting bus.machine s (look_of s p.id) ≡ with_l1_front bus.machine s p.id.core p.block letter.M =
        ap (after_acting bus.machine s) named ∙ ap (after_acting_in bus.machine s p) read ∙ ap (λ t. if t then with_l1_front bus.machine s p.id.core p.block letter.M else s) writes
        in let whole : bus' ≡ with_content (with_caches bus (with_l1_front bus.machine (state_of bus) p.id.core p.block letter.M)) p.block (block_after p.op p.operands (content_of bus p.block)) =
        written ∙ ap (with_content (with_caches bus (with_l1_front bus.machine (state_of bus) p.id.core p.block letter.M)) p.block) computed
        in record {
          state = ap (λ x. joined x table' monitor) whole
              ∙ ap (λ x. joined (with_caches bus (with_l1_front bus.machine (state_of bus) p.id.core p.block letter.M)) x monitor) (is ∙ ap (λ t. record table { state = t }) (phase_is table.state phase.Acted here))
              ∙ sym (ap (λ t. in_phase t p.id phase.Acted) done);
          content = act_content bus' (ap (λ (h : Hierarchy). h.memory) whole) reply;
        }

    pub reader_acts : (reply : Reply) (table' : OnTheWay) → p.phase ≡ phase.Read → is_writer p.op ≡ false → table' ≡ record table { state = lane_in_phase table.state p.id.core p.lane phase.Acted } → Moves bus table monitor (actor_of p) (event.Act p.id.seq reply) bus table' monitor
    reader_acts reply table' read keeps is =
        let done : after_acting bus.machine s (look_of s p.id) ≡ s =
        ap (after_acting bus.machine s) named ∙ ap (after_acting_in bus.machine s p) read ∙ ap (λ t. if t then with_l1_front bus.machine s p.id.core p.block letter.M else s) keeps
        in record {
          state = ap (λ x. joined bus x monitor) (is ∙ ap (λ t. record table { state = t }) (phase_is table.state phase.Acted here)) ∙ sym (ap (λ t. in_phase t p.id phase.Acted) done);
          content = λ e. sym (unchanged (same_block p.block e) e) ∙ sym (ap (λ o. flat_act (content_of bus) o e) named);
        }
      where
        unchanged : (t : Bool) (e : BlockNo) → (if t then block_after p.op p.operands (content_of bus e) else content_of bus e) ≡ content_of bus e
        unchanged true e = reader_keeps p (content_of bus e) keeps
        unchanged false e = refl

    abbrev written : Hierarchy
    written = with_content (with_caches bus (with_l1_front bus.machine (state_of bus) p.id.core p.block letter.M)) p.block (block_after p.op p.operands (content_of bus p.block))

    pub host_acts : (reply : Reply) (bus' : Hierarchy) (table' : OnTheWay) → p.phase ≡ phase.Read → bus' ≡ host_written bus p → table' ≡ record table { state = lane_in_phase table.state p.id.core p.lane phase.Acted } → Moves bus table monitor (actor_of p) (event.Act p.id.seq reply) bus' table' monitor
    host_acts reply bus' table' read wrote is = by (is_writer p.op) refl
      where
        by : (t : Bool) → is_writer p.op ≡ t → Moves bus table monitor (actor_of p) (event.Act p.id.seq reply) bus' table' monitor
        by true writes = writer_acts reply (block_after p.op p.operands (content_of bus p.block)) bus' table' read writes refl (wrote ∙ ap (λ t. if t then written else bus) writes) is
        by false reads = subst (λ (h : Hierarchy). Moves bus table monitor (actor_of p) (event.Act p.id.seq reply) h table' monitor) (sym (wrote ∙ ap (λ t. if t then written else bus) reads)) (reader_acts reply table' read reads is)

-- ---- what guards tell

lane_found : (o : Option Lane) (l : Lane) → is_lane o l ≡ true → o ≡ Some l
lane_found None l h = absurd (cc h)
lane_found (Some k) l h = ap Some (same_lane_is k l h)

pub issue_lane : (m : MachineSpec) (t : State) (a : Actor) (seq : ℕ) (lane : Lane) (o : Op) (b : BlockNo) (operands : Operands) → guard m t a (event.Issue seq lane o b operands) ≡ true → free_lane m t a.core ≡ Some lane
issue_lane m t a seq lane o b operands h = lane_found (free_lane m t a.core) lane (and_parts (is_lane (free_lane m t a.core) lane) (seq == slice_index t.issues a.core.0) h).0

pub issue_number : (m : MachineSpec) (t : State) (a : Actor) (seq : ℕ) (lane : Lane) (o : Op) (b : BlockNo) (operands : Operands) → guard m t a (event.Issue seq lane o b operands) ≡ true → seq ≡ slice_index t.issues a.core.0
issue_number m t a seq lane o b operands h = eqb-true seq (slice_index t.issues a.core.0) (and_parts (is_lane (free_lane m t a.core) lane) (seq == slice_index t.issues a.core.0) h).1

-- ---- the monitor

-- the monitor of the checker is the state's
pub monitor_is : (m : MachineSpec) (bus : Hierarchy) (table : OnTheWay) (monitor : Table) → length monitor.sets ≡ m.llc_sets → monitor.ways ≡ m.llc_ways → IsMonitorOf m (joined bus table monitor) monitor
monitor_is m bus table monitor sets ways = record { sets = sets; ways = ways; entries = refl }

pub accessed : (laws : FollowsState) (m : MachineSpec) (bus : Hierarchy) (table : OnTheWay) (monitor after_it : Table) (b : BlockNo) → length monitor.sets ≡ m.llc_sets → monitor.ways ≡ m.llc_ways → bus.machine ≡ m → after_it ≡ with_access monitor b → AreAccessed bus table monitor b after_it
accessed laws m bus table monitor after_it b sets ways machine is =
    ap (λ (n : MachineSpec). change_at monitor.sets (llc_set_of n b) (after_access n.llc_ways (tag_of n b))) machine
    ∙ (laws.access m (joined bus table monitor) monitor b (monitor_is m bus table monitor sets ways)).entries
    ∙ ap (λ (t : Table). t.sets) (sym is)

same_at : {A : Type 0} (xs : List A) (i : ℕ) → change_at xs i (λ x. x) ≡ xs
same_at [] i = refl
same_at (x ∷ xs) zero = refl
same_at (x ∷ xs) (suc i) = ap (λ ys. x ∷ ys) (same_at xs i)

-- the sizes of the monitor stay
pub accessed_sizes : (laws : FollowsState) (m : MachineSpec) (bus : Hierarchy) (table : OnTheWay) (monitor after_it : Table) (b : BlockNo) → length monitor.sets ≡ m.llc_sets → monitor.ways ≡ m.llc_ways → after_it ≡ with_access monitor b → (length after_it.sets ≡ m.llc_sets) × (after_it.ways ≡ m.llc_ways)
accessed_sizes laws m bus table monitor after_it b sets ways is =
    let t = laws.access m (joined bus table monitor) monitor b (monitor_is m bus table monitor sets ways)
    in (ap (λ (x : Table). length x.sets) is ∙ t.sets, ap (λ (x : Table). x.ways) is ∙ t.ways)

pub placed_sizes : (laws : FollowsState) (m : MachineSpec) (bus : Hierarchy) (table : OnTheWay) (monitor placed : Table) (b : BlockNo) → length monitor.sets ≡ m.llc_sets → monitor.ways ≡ m.llc_ways → placed ≡ placed_under m.placement monitor b → (length placed.sets ≡ m.llc_sets) × (placed.ways ≡ m.llc_ways)
placed_sizes laws m bus table monitor placed b sets ways is = by m.placement is
  where
    by : (how : Policy3) → placed ≡ placed_under how monitor b → (length placed.sets ≡ m.llc_sets) × (placed.ways ≡ m.llc_ways)
    by policy.Monitor is =
        let t = laws.placed m (joined bus table monitor) monitor b (monitor_is m bus table monitor sets ways)
        in (ap (λ (x : Table). length x.sets) is ∙ t.sets, ap (λ (x : Table). x.ways) is ∙ t.ways)
    by policy.Host is = (ap (λ (x : Table). length x.sets) is ∙ sets, ap (λ (x : Table). x.ways) is ∙ ways)
    by policy.Memory is = (ap (λ (x : Table). length x.sets) is ∙ sets, ap (λ (x : Table). x.ways) is ∙ ways)

-- a placement by the machine's policy
pub placed_by : (laws : FollowsState) (m : MachineSpec) (bus : Hierarchy) (table : OnTheWay) (monitor placed : Table) (b : BlockNo) → length monitor.sets ≡ m.llc_sets → monitor.ways ≡ m.llc_ways → bus.machine ≡ m → placed ≡ placed_under m.placement monitor b → change_at monitor.sets (llc_set_of bus.machine b) (after_policy bus.machine.placement bus.machine.llc_ways (tag_of bus.machine b)) ≡ placed.sets
placed_by laws m bus table monitor placed b sets ways machine is =
    ap (λ (n : MachineSpec). change_at monitor.sets (llc_set_of n b) (after_policy n.placement n.llc_ways (tag_of n b))) machine
    ∙ by m.placement
    ∙ ap (λ (t : Table). t.sets) (sym is)
  where
    by : (how : Policy3) → change_at monitor.sets (llc_set_of m b) (after_policy how m.llc_ways (tag_of m b)) ≡ (placed_under how monitor b).sets
    by policy.Monitor = (laws.placed m (joined bus table monitor) monitor b (monitor_is m bus table monitor sets ways)).entries
    by policy.Host = same_at monitor.sets (llc_set_of m b)
    by policy.Memory = same_at monitor.sets (llc_set_of m b)

-- a message that is a grant of a block
pub granted_of : (kind : EventKind) (b : BlockNo) → (kind ≡ event.GrantS b) ⊎ ((kind ≡ event.GrantE b) ⊎ (kind ≡ event.GrantM b)) → IsGrantOf b kind
granted_of kind b (inl is) = subst (λ (k : EventKind). IsGrantOf b k) (sym is) refl
granted_of kind b (inr (inl is)) = subst (λ (k : EventKind). IsGrantOf b k) (sym is) refl
granted_of kind b (inr (inr is)) = subst (λ (k : EventKind). IsGrantOf b k) (sym is) refl

-- a message that grants nothing
pub grants_nothing : (kind : EventKind) → ((b : BlockNo) → kind ≡ event.GrantS b → ⊥) → ((b : BlockNo) → kind ≡ event.GrantE b → ⊥) → ((b : BlockNo) → kind ≡ event.GrantM b → ⊥) → is_grant kind ≡ false
grants_nothing (event.GrantS b) s e m = absurd (s b refl)
grants_nothing (event.GrantE b) s e m = absurd (e b refl)
grants_nothing (event.GrantM b) s e m = absurd (m b refl)
grants_nothing _ s e m = refl

-- ---- guards on the caches alone

drop_third : (x y z : Bool) → (x && not y && z) ≡ true → (x && true && z) ≡ true
drop_third true true z h = absurd (cc h)
drop_third true false z h = h
drop_third false y z h = absurd (cc h)

drop_fourth : (u v w y z : Bool) → (u && v && w && not y && z) ≡ true → (u && v && w && true && z) ≡ true
drop_fourth true true true true z h = absurd (cc h)
drop_fourth true true true false z h = h
drop_fourth true true false y z h = absurd (cc h)
drop_fourth true false w y z h = absurd (cc h)
drop_fourth false v w y z h = absurd (cc h)

-- a message that meets its guard meets it beside no PEI, made by the core's program
pub guard_alone : (m : MachineSpec) (bus : Hierarchy) (table : OnTheWay) (monitor : Table) (a : Actor) (kind : EventKind) → bus.machine ≡ m → is_message kind ≡ true → guard m (joined bus table monitor) a kind ≡ true → guard bus.machine (state_of bus) (program_of a.core) kind ≡ true
guard_alone m bus table monitor a kind machine message g = by kind message (ap (λ (n : MachineSpec). guard n (joined bus table monitor) a kind) machine ∙ g)
  where
    by : (k : EventKind) → is_message k ≡ true → guard bus.machine (joined bus table monitor) a k ≡ true → guard bus.machine (state_of bus) (program_of a.core) k ≡ true
    by (event.Invalidate c b) h g = g
    by (event.EvictL1 c b) h g = g
    by (event.Downgrade c b) h g = g
    by (event.Clean b) h g = g
    by (event.EvictLlc b) h g = g
    by (event.Fill b) h g = drop_third (is_absent (mark_of bus.machine (state_of bus) b)) (writer_is_sealed (joined bus table monitor) b) (llc_has_room bus.machine (state_of bus) b) g
    by (event.GrantS b) h g = g
    by (event.GrantE b) h g = drop_fourth (is_i (letter_of bus.machine (state_of bus) a.core b)) (not (is_absent (mark_of bus.machine (state_of bus) b))) (no_other_has bus.machine (state_of bus) a.core b) (is_sealed (joined bus table monitor) b) (l1_has_room bus.machine (state_of bus) a.core b) g
    by (event.GrantM b) h g = drop_fourth (not (is_owned (letter_of bus.machine (state_of bus) a.core b))) (not (is_absent (mark_of bus.machine (state_of bus) b))) (no_other_has bus.machine (state_of bus) a.core b) (is_sealed (joined bus table monitor) b) (not (is_i (letter_of bus.machine (state_of bus) a.core b)) || l1_has_room bus.machine (state_of bus) a.core b) g
    by _ h g = absurd (cc h)

-- ---- what the table of PEIs ensures of an act

pub acted_headed : (m : MachineSpec) (bus : Hierarchy) (table : OnTheWay) (monitor : Table) (p : PeiLook) (table' : OnTheWay) → look_in (joined bus table monitor) p.id.core p.lane ≡ Some p → bus.machine ≡ m → table.machine ≡ m → IsHead m (joined bus table monitor) (Some p)
    → (IsHead table.machine table.state (look_in table.state p.id.core p.lane) → table' ≡ record table { state = lane_in_phase (without_head table.machine table.state p.id.core p.lane) p.id.core p.lane phase.Acted })
    → table' ≡ record table { state = lane_in_phase (without_head bus.machine table.state p.id.core p.lane) p.id.core p.lane phase.Acted }
acted_headed m bus table monitor p table' here eb et head told =
    told (subst (λ o. IsHead table.machine table.state o) (sym here) (subst (λ (k : MachineSpec). IsHead k table.state (Some p)) (sym et) head))
    ∙ ap (λ (k : MachineSpec). record table { state = lane_in_phase (without_head k table.state p.id.core p.lane) p.id.core p.lane phase.Acted }) (et ∙ sym eb)

pub acted_read : (bus : Hierarchy) (table : OnTheWay) (monitor : Table) (p : PeiLook) (table' : OnTheWay) → look_in (joined bus table monitor) p.id.core p.lane ≡ Some p → p.phase ≡ phase.Read → (phase_in table.state p.id.core p.lane ≡ Some phase.Read → table' ≡ record table { state = lane_in_phase table.state p.id.core p.lane phase.Acted }) → table' ≡ record table { state = lane_in_phase table.state p.id.core p.lane phase.Acted }
acted_read bus table monitor p table' here read told = told (ap (option_map (λ (q : PeiLook). q.phase)) here ∙ ap Some read)
