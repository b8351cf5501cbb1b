-- The state of the machine without its data, as its events leave it.
use Rattle.std.specs.Prelude.{ℕ, suc, Bool, true, false, not, ◌&&◌, ◌||◌, ◌==◌, if◌then◌else◌, List, [], ◌∷◌, ◌++◌, length, map, filter, find, fold, drop, replicate, Option, Some, None, is_none, option_map, slice_index_or, slice_set}
use Rattle.std.specs.List.{list_any, list_all, range_with_len}
use Rattle.pei_types.specs.declared.identifiers.Actor.{Actor}
use Rattle.pei_types.specs.declared.identifiers.BlockNo.{BlockNo}
use Rattle.pei_types.specs.declared.identifiers.CoreId.{CoreId}
use Rattle.pei_types.specs.declared.identifiers.Lane.{Lane}
use Rattle.pei_types.specs.declared.identifiers.PeiId.{PeiId}
use Rattle.pei_types.specs.declared.operations.Letter.{Letter}
use Rattle.pei_types.specs.declared.operations.Letter.TheVariants as letter
use Rattle.pei_types.specs.declared.operations.Mark.{Mark}
use Rattle.pei_types.specs.declared.operations.Mark.TheVariants as mark
use Rattle.pei_types.specs.declared.operations.Place.TheVariants as place
use Rattle.pei_types.specs.declared.inflight_looks.PeiLook.{PeiLook}
use Rattle.pei_types.specs.declared.inflight_looks.Phase.{Phase}
use Rattle.pei_types.specs.declared.inflight_looks.Phase.TheVariants as phase
use Rattle.pei_types.specs.declared.events.Event.{Event}
use Rattle.pei_types.specs.declared.events.EventKind.{EventKind}
use Rattle.pei_types.specs.declared.events.EventKind.TheVariants as event
use Rattle.pei_types.specs.declared.machines.MachineSpec.{MachineSpec}
use Rattle.pei_types.specs.Blocks.{block_of, same_block, same_core, same_lane, same_pei, l1_set_of, llc_set_of, vault_of, tag_of}
use Rattle.pei_types.specs.Exclusion.{conflicts}
use Rattle.pei_types.specs.Monitor.{MonitorEntry, after_access, after_policy}
use Rattle.pei_types.specs.Operation.{is_writer}
use Rattle.pei_types.specs.Recency.{change_at, list_at, without, to_front}

-- a line of a private cache, and of the last-level cache
pub record Line : Type 0 where
  pub block : BlockNo
  pub letter : Letter

pub record LlcLine : Type 0 where
  pub block : BlockNo
  pub mark : Mark

-- The state: for each core and set the lines of its private cache, for each set the lines of the last-level cache
-- and the entries of the monitor, all most recent first; the PEIs that have not left, in the order of their issue;
-- how many each core has issued; each vault's queue, its head first; and the fences that are on, each with the
-- writers that it waits for.
pub record State : Type 0 where
  pub l1 : List (List (List Line))
  pub llc : List (List LlcLine)
  pub monitor : List (List MonitorEntry)
  pub peis : List PeiLook
  pub issues : List ℕ
  pub queues : List (List PeiId)
  pub fences : List (Option (List PeiId))

abbrev pub start_state : MachineSpec → State
start_state m =
    record {
      l1 = replicate m.cores (replicate m.l1_sets []);
      llc = replicate m.llc_sets [];
      monitor = replicate m.llc_sets [];
      peis = [];
      issues = replicate m.cores 0;
      queues = replicate m.vaults [];
      fences = replicate m.cores None;
    }

-- what a state has of PEIs alone: the state without its caches and its monitor
abbrev pub pei_state : State → State
pei_state s = record s { l1 = []; llc = []; monitor = [] }

-- ---- letters and marks

abbrev pub is_line_of : BlockNo → Line → Bool
is_line_of b line = same_block line.block b

abbrev pub is_llc_line_of : BlockNo → LlcLine → Bool
is_llc_line_of b line = same_block line.block b

abbrev pub letter_in : Option Line → Letter
letter_in None = letter.I
letter_in (Some line) = line.letter

abbrev pub mark_in : Option LlcLine → Mark
mark_in None = mark.Absent
mark_in (Some line) = line.mark

abbrev pub l1_set : MachineSpec → State → CoreId → BlockNo → List Line
l1_set m s c b = list_at (list_at s.l1 c.0) (l1_set_of m b)

abbrev pub llc_set : MachineSpec → State → BlockNo → List LlcLine
llc_set m s b = list_at s.llc (llc_set_of m b)

abbrev pub letter_of : MachineSpec → State → CoreId → BlockNo → Letter
letter_of m s c b = letter_in (find (is_line_of b) (l1_set m s c b))

abbrev pub mark_of : MachineSpec → State → BlockNo → Mark
mark_of m s b = mark_in (find (is_llc_line_of b) (llc_set m s b))

-- whether a core has no copy
abbrev pub is_i : Letter → Bool
is_i letter.I = true
is_i letter.S = false
is_i letter.E = false
is_i letter.M = false

-- whether a copy is ahead of the last-level cache, which has to take its content back
abbrev pub is_ahead : Letter → Bool
is_ahead letter.I = false
is_ahead letter.S = false
is_ahead letter.E = false
is_ahead letter.M = true

-- whether a letter lets its core write
abbrev pub is_owned : Letter → Bool
is_owned letter.I = false
is_owned letter.S = false
is_owned letter.E = true
is_owned letter.M = true

abbrev pub is_absent : Mark → Bool
is_absent mark.Absent = true
is_absent _ = false

abbrev pub is_clean : Mark → Bool
is_clean mark.Clean = true
is_clean _ = false

abbrev pub is_dirty : Mark → Bool
is_dirty mark.Dirty = true
is_dirty _ = false

-- the cores of the machine in order, and the letters of a block in them
abbrev pub cores_of : MachineSpec → List CoreId
cores_of m = map (λ c. record { 0 = c }) (range_with_len 0 m.cores)

abbrev pub letters_of : MachineSpec → State → BlockNo → List Letter
letters_of m s b = map (λ c. letter_of m s c b) (cores_of m)

-- whether no core has the block, and whether none may write it or is ahead with it
abbrev pub none_has : MachineSpec → State → BlockNo → Bool
none_has m s b = list_all is_i (letters_of m s b)

abbrev pub none_owns : MachineSpec → State → BlockNo → Bool
none_owns m s b = list_all (λ l. not (is_owned l || is_ahead l)) (letters_of m s b)

-- the same of all cores but one
abbrev pub no_other_has : MachineSpec → State → CoreId → BlockNo → Bool
no_other_has m s c b = list_all (λ d. same_core d c || is_i (letter_of m s d b)) (cores_of m)

abbrev pub no_other_owns : MachineSpec → State → CoreId → BlockNo → Bool
no_other_owns m s c b = list_all (λ d. same_core d c || not (is_owned (letter_of m s d b))) (cores_of m)

-- ---- PEIs

abbrev pub is_phase : Phase → Phase → Bool
is_phase phase.Issued phase.Issued = true
is_phase phase.Entered phase.Entered = true
is_phase phase.HostPlaced phase.HostPlaced = true
is_phase phase.MemoryPlaced phase.MemoryPlaced = true
is_phase phase.Read phase.Read = true
is_phase phase.Sealed phase.Sealed = true
is_phase phase.Acted phase.Acted = true
is_phase _ _ = false

-- the PEI of this id, and the PEI in a lane
abbrev pub look_of : State → PeiId → Option PeiLook
look_of s id = find (λ p. same_pei p.id id) s.peis

abbrev pub look_in : State → CoreId → Lane → Option PeiLook
look_in s c l = find (λ p. same_core p.id.core c && same_lane p.lane l) s.peis

-- the lanes of operand buffer entries, and the lowest that is free
abbrev pub lanes_of : MachineSpec → List Lane
lanes_of m = map (λ l. record { 0 = l }) (range_with_len 1 m.buffer)

abbrev pub free_lane : MachineSpec → State → CoreId → Option Lane
free_lane m s c = find (λ l. is_none (look_in s c l)) (lanes_of m)

-- the first PEI of a core that has not entered, and the first that has not left
abbrev pub first_unentered : State → CoreId → Option PeiId
first_unentered s c = option_map (λ p. p.id) (find (λ p. same_core p.id.core c && is_phase p.phase phase.Issued) s.peis)

abbrev pub first_unfinished : State → CoreId → Option PeiId
first_unfinished s c = option_map (λ p. p.id) (find (λ p. same_core p.id.core c) s.peis)

-- the first PEI that an access races with
abbrev pub conflict : State → BlockNo → Bool → Option PeiId
conflict s b store = option_map (λ p. p.id) (find (λ p. same_block p.block b && (store || is_writer p.op)) s.peis)

-- whether an active PEI conflicts with this one
abbrev pub entry_is_taken : MachineSpec → State → PeiLook → Bool
entry_is_taken m s p = list_any (λ q. not (is_phase q.phase phase.Issued) && conflicts m p.block p.op q.block q.op) s.peis

-- whether a PEI is sealed on a block, and whether a writer is
abbrev pub is_sealed : State → BlockNo → Bool
is_sealed s b = list_any (λ p. same_block p.block b && is_phase p.phase phase.Sealed) s.peis

abbrev pub writer_is_sealed : State → BlockNo → Bool
writer_is_sealed s b = list_any (λ p. same_block p.block b && is_writer p.op && is_phase p.phase phase.Sealed) s.peis

abbrev pub queue_of : State → ℕ → List PeiId
queue_of s v = list_at s.queues v

abbrev pub queue_is_full : MachineSpec → State → ℕ → Bool
queue_is_full m s v = length (queue_of s v) == m.queue

abbrev pub fence_of : State → CoreId → Option (List PeiId)
fence_of s c = slice_index_or s.fences c.0 None

-- the writers that have not left
abbrev pub unfinished_writers : State → List PeiId
unfinished_writers s = map (λ p. p.id) (filter (λ p. is_writer p.op) s.peis)

-- ---- effects

abbrev pub with_l1_set : MachineSpec → State → CoreId → BlockNo → (List Line → List Line) → State
with_l1_set m s c b change = record s { l1 = change_at s.l1 c.0 (λ sets. change_at sets (l1_set_of m b) change) }

abbrev pub with_llc_set : MachineSpec → State → BlockNo → (List LlcLine → List LlcLine) → State
with_llc_set m s b change = record s { llc = change_at s.llc (llc_set_of m b) change }

abbrev pub with_monitor_set : MachineSpec → State → BlockNo → (List MonitorEntry → List MonitorEntry) → State
with_monitor_set m s b change = record s { monitor = change_at s.monitor (llc_set_of m b) change }

-- a core's line to the front, and in front with this letter
abbrev pub with_l1_touch : MachineSpec → State → CoreId → BlockNo → State
with_l1_touch m s c b = with_l1_set m s c b (to_front (is_line_of b))

abbrev pub with_l1_front : MachineSpec → State → CoreId → BlockNo → Letter → State
with_l1_front m s c b l = with_l1_set m s c b (λ set. record { block = b; letter = l } ∷ without (is_line_of b) set)

abbrev pub without_l1_line : MachineSpec → State → CoreId → BlockNo → State
without_l1_line m s c b = with_l1_set m s c b (without (is_line_of b))

-- a core's line shared, where it stands
abbrev pub with_l1_shared : MachineSpec → State → CoreId → BlockNo → State
with_l1_shared m s c b = with_l1_set m s c b (map (λ line. if is_line_of b line then record { block = line.block; letter = letter.S } else line))

abbrev pub with_llc_mark : MachineSpec → State → BlockNo → Mark → State
with_llc_mark m s b k = with_llc_set m s b (map (λ line. if is_llc_line_of b line then record { block = line.block; mark = k } else line))

abbrev pub with_llc_touch : MachineSpec → State → BlockNo → State
with_llc_touch m s b = with_llc_set m s b (to_front (is_llc_line_of b))

abbrev pub with_llc_line : MachineSpec → State → BlockNo → State
with_llc_line m s b = with_llc_set m s b (λ set. record { block = b; mark = mark.Clean } ∷ set)

abbrev pub without_llc_line : MachineSpec → State → BlockNo → State
without_llc_line m s b = with_llc_set m s b (without (is_llc_line_of b))

-- from a copy that is ahead the last-level cache takes the content
abbrev pub after_taking_back : MachineSpec → State → BlockNo → Letter → State
after_taking_back m s b l = if is_ahead l then with_llc_mark m s b mark.Dirty else s

abbrev pub after_invalidating : MachineSpec → State → CoreId → BlockNo → State
after_invalidating m s c b = without_l1_line m (after_taking_back m s b (letter_of m s c b)) c b

abbrev pub after_downgrading : MachineSpec → State → CoreId → BlockNo → State
after_downgrading m s c b = with_l1_shared m (after_taking_back m s b (letter_of m s c b)) c b

-- a block given to a core with this letter, which is an access of the last-level cache
abbrev pub after_granting : MachineSpec → State → CoreId → BlockNo → Letter → State
after_granting m s c b l =
    with_monitor_set m (with_llc_touch m (with_l1_front m s c b l) b) b (after_access m.llc_ways (tag_of m b))

-- the PEI of this id in another phase
abbrev pub with_phase : PeiId → Phase → PeiLook → PeiLook
with_phase id ph p = if same_pei p.id id then record p { phase = ph } else p

abbrev pub in_phase : State → PeiId → Phase → State
in_phase s id ph = record s { peis = map (with_phase id ph) s.peis }

-- what the effect of a PEI's event does beside its phase, where it is of this PEI
abbrev pub after_placing : MachineSpec → State → Option PeiLook → State
after_placing m s None = s
after_placing m s (Some p) = with_monitor_set m s p.block (after_policy m.placement m.llc_ways (tag_of m p.block))

abbrev pub after_reading : MachineSpec → State → Option PeiLook → State
after_reading m s None = s
after_reading m s (Some p) = with_l1_touch m s p.id.core p.block

abbrev pub with_queued : State → ℕ → PeiId → State
with_queued s v id = record s { queues = change_at s.queues v (λ queue. queue ++ id ∷ []) }

-- a host writer's line becomes M and goes to the front; a memory PEI leaves the head of its queue
abbrev pub after_acting_in : MachineSpec → State → PeiLook → Phase → State
after_acting_in m s p phase.Read = if is_writer p.op then with_l1_front m s p.id.core p.block letter.M else s
after_acting_in m s p phase.Sealed = record s { queues = change_at s.queues (vault_of m p.block) (drop 1) }
after_acting_in m s p _ = s

abbrev pub after_acting : MachineSpec → State → Option PeiLook → State
after_acting m s None = s
after_acting m s (Some p) = after_acting_in m s p p.phase

abbrev pub after_leaving : State → PeiId → State
after_leaving s id = record s { peis = without (λ p. same_pei p.id id) s.peis; fences = map (option_map (without (λ q. same_pei q id))) s.fences }

abbrev pub pei_id : Actor → ℕ → PeiId
pei_id a seq = record { core = a.core; seq = seq }

-- the state after an event
abbrev pub next_state : MachineSpec → State → Actor → EventKind → State
next_state m s a (event.Load addr value) = with_l1_touch m s a.core (block_of addr)
next_state m s a (event.Store addr value) = with_l1_front m s a.core (block_of addr) letter.M
next_state m s a (event.Issue seq lane o b operands) =
    record s {
      peis = s.peis ++ record { id = pei_id a seq; lane = lane; op = o; block = b; operands = operands; phase = phase.Issued } ∷ [];
      issues = change_at s.issues a.core.0 suc;
    }
next_state m s a event.FenceBegin = record s { fences = slice_set s.fences a.core.0 (Some (unfinished_writers s)) }
next_state m s a event.FenceEnd = record s { fences = slice_set s.fences a.core.0 None }
next_state m s a (event.Out value) = s
next_state m s a (event.Race pc b by) = s
next_state m s a (event.End kind) = s
next_state m s a (event.Enter seq) = in_phase s (pei_id a seq) phase.Entered
next_state m s a (event.Place seq place.Host) = in_phase (after_placing m s (look_of s (pei_id a seq))) (pei_id a seq) phase.HostPlaced
next_state m s a (event.Place seq place.Memory) = in_phase (after_placing m s (look_of s (pei_id a seq))) (pei_id a seq) phase.MemoryPlaced
next_state m s a (event.Read seq) = in_phase (after_reading m s (look_of s (pei_id a seq))) (pei_id a seq) phase.Read
next_state m s a (event.Seal seq vault) = in_phase (with_queued s vault (pei_id a seq)) (pei_id a seq) phase.Sealed
next_state m s a (event.Act seq reply) = in_phase (after_acting m s (look_of s (pei_id a seq))) (pei_id a seq) phase.Acted
next_state m s a (event.Leave seq) = after_leaving s (pei_id a seq)
next_state m s a (event.Invalidate c b) = after_invalidating m s c b
next_state m s a (event.Downgrade c b) = after_downgrading m s c b
next_state m s a (event.EvictL1 c b) = after_invalidating m s c b
next_state m s a (event.Clean b) = with_llc_mark m s b mark.Clean
next_state m s a (event.EvictLlc b) = without_llc_line m s b
next_state m s a (event.Fill b) = with_llc_line m s b
next_state m s a (event.GrantS b) = after_granting m s a.core b letter.S
next_state m s a (event.GrantE b) = after_granting m s a.core b letter.E
next_state m s a (event.GrantM b) = after_granting m s a.core b letter.M

-- the state that events leave
abbrev pub state_after : MachineSpec → List Event → State
state_after m events = fold (λ s e. next_state m s e.actor e.kind) (start_state m) events
