-- Runs of the whole machine are legal on the flat machine.
use Rattle.std.proofs.Common.{◌≤◌, ◌≡◌, ◌⊎◌, inl, inr, ℕ, zero, suc, ◌+◌, ◌<◌, Bool, true, false, not, ◌&&◌, ◌||◌, if◌then◌else◌, List, [], ◌∷◌, map, length, replicate, Option, Some, None, is_none, get_or, eqb, eqb-true, eq-eqb, IsTrue, refl, sym, ◌∙◌, ap, ap₂, subst, arith, slice_get}
use Rattle.std.specs.List.{list_any}
use Rattle.std.specs.Prelude.{⊤}
use Rattle.std.proofs.lemmas.List.{length_push, length-replicate, get_or-replicate}
use Rattle.pei_types.specs.declared.calls.Call.{Call}
use Rattle.pei_types.specs.declared.identifiers.Actor.{Actor}
use Rattle.pei_types.specs.declared.identifiers.CoreId.{CoreId}
use Rattle.pei_types.specs.declared.identifiers.Lane.{Lane}
use Rattle.pei_types.specs.declared.identifiers.PeiId.{PeiId}
use Rattle.pei_types.specs.declared.operations.Mode.{Mode}
use Rattle.pei_types.specs.declared.operations.Mode.TheVariants as mode
use Rattle.pei_types.specs.declared.operations.Op.{Op}
use Rattle.pei_types.specs.declared.operations.Place.TheVariants as place
use Rattle.pei_types.specs.declared.inflight_looks.PeiLook.{PeiLook}
use Rattle.pei_types.specs.declared.inflight_looks.Phase.{Phase}
use Rattle.pei_types.specs.declared.inflight_looks.Phase.TheVariants as phase
use Rattle.pei_types.specs.declared.inflight_looks.StallCause.{StallCause}
use Rattle.pei_types.specs.declared.inflight_looks.StallCause.TheVariants as stall
use Rattle.pei_types.specs.declared.events.Event.{Event}
use Rattle.pei_types.specs.declared.events.EventKind.{EventKind}
use Rattle.pei_types.specs.declared.events.EventKind.TheVariants as event
use Rattle.pei_types.specs.declared.machines.MachineSpec.{MachineSpec}
use Rattle.pei_types.specs.Blocks.{entry_of, same_core, same_lane, same_pei, vault_of}
use Rattle.pei_types.specs.Calls.{is_actor_of, follows_phase}
use Rattle.pei_types.specs.Claims.{Claims, no_claims, is_granted, with_claim}
use Rattle.pei_types.specs.MachineState.{State, start_state, state_after, next_state, look_in, look_of, lanes_of, free_lane, first_unentered, entry_is_taken, is_phase, pei_id, with_phase, queue_of, queue_is_full}
use Rattle.pei_types.specs.History.{is_enter}
use Rattle.pei_types.specs.Core.{CoreNext, Calls, Busy, Ended, next_of_core}
use Rattle.pei_types.specs.Ends.{all_ended}
use Rattle.pei_types.specs.Exclusion.{conflicts}
use Rattle.pei_types.specs.FlatMemory.{flat_block}
use Rattle.pei_types.specs.Legal.{FlatLegal, EachEvent}
use Rattle.pei_types.specs.Turns.{turn_of, lane_turn, program_turn, is_entering}
use Rattle.pei_types.proofs.Histories.{each_push, each_of_from}
use Rattle.pei_types.specs.Next.{holder, owner, Turn, Makes, Stalls, call_row, lane_row, pei_row, enter_row, seal_writer, seal_reader, head_row, act_kind}
use Rattle.pei_types.specs.Operation.{is_writer, mode_of}
use Rattle.pei_types.specs.Program.{Listing, Contents}
use Rattle.pei_types.specs.Recency.{change_at}
use Rattle.pei_types.specs.Schedule.{Run, Policy, LaneClaim, Free, Announced, Held, Spent, whole_table, by_row, after_stall, with_lane_event, with_step, claim_of, after_try, claims_at, after_leave, toward_enter, claiming, lane_step, program_step, step_of_lane, turn, run_at_start, next_actor, scheduled_run_from, scheduled_run}
use Rattle.pei_types.proofs.Pushes.{state_after-push}
use Rattle.history_laws.specs.Members.{In}
use Rattle.history_laws.specs.TrackedPeis.{is_past_issue, Agrees}
use Rattle.history_laws.specs.Fits.{Fits, EntersFree}
use Rattle.history_laws.specs.Holders.{claim_at, holds_entry, same_mode, count_in, count_all, counted, waits_on, Holding}
use Rattle.history_laws.specs.Runs.{WholeRun}
use Rattle.history_laws.specs.Sound.{ChoosesActors, GoesByRow}
use Rattle.history_laws.proofs.Lists.{find_Some, change_at_same, or_parts_cases}
use Rattle.history_laws.proofs.Agree.{Moves, moved, new_look}
use Rattle.history_laws.proofs.Steps.{moves_place_host, moves_place_memory, moves_read, moves_seal, moves_act, keeps_placing, keeps_reading, keeps_acting, keeps_invalidating, keeps_downgrading}
use Rattle.history_laws.proofs.Derived.{look_same}
use Rattle.history_laws.proofs.Clauses.{IsOf, of_lane}
use Rattle.history_laws.proofs.Fitting.{run_next, run_starts}
use Rattle.history_laws.proofs.Policies.{chosen}
use Rattle.history_laws.proofs.Rows.{fits_call_row, fits_pei_row}
use Rattle.history_laws.proofs.Counting.{changed}
use Rattle.history_laws.proofs.Holding.{Follows, may_try, holding_follows, follows_same, follows_moved, follows_issued, holding_left, holding_announced, holding_granted, holding_released}
use Rattle.pei_types.proofs.Identities.{same_lane_is, same_pei_is, makes_is}
use Rattle.std.proofs.Math.Bool.{or-false}
use Rattle.std.proofs.lemmas.Bool.{and_parts}
use Rattle.std.proofs.lemmas.Option.{same_Some}

-- ---- events

-- a PEI that enters has its entry
abbrev pub EntersHeld : MachineSpec → State → List (List LaneClaim) → Actor → EventKind → Type 0
EntersHeld m s claims a (event.Enter seq) = (l : PeiLook) → look_in s a.core a.lane ≡ Some l → claim_at claims a.core.0 a.lane.0 ≡ Held (entry_of m l.block) (mode_of l.op)
EntersHeld m s claims a _ = ⊤

changed_same : (claims : List (List LaneClaim)) (c l : ℕ) (f : LaneClaim → LaneClaim) → ((x : LaneClaim) → f x ≡ x) → changed claims c l f ≡ claims
changed_same claims c l f h = change_at_same claims c (λ lanes. change_at lanes l f) (λ lanes. change_at_same lanes l f h)

-- an event that changes no claim
kept : (m : MachineSpec) (s t : State) (entries : List Claims) (claims : List (List LaneClaim)) (a : Actor) (f : LaneClaim → LaneClaim) → ((x : LaneClaim) → f x ≡ x) → Follows m s t claims → Holding m s entries claims → Holding m t entries (changed claims a.core.0 a.lane.0 f)
kept m s t entries claims a f same follows h = subst (Holding m t entries) (sym (changed_same claims a.core.0 a.lane.0 f same)) (holding_follows m s t entries claims follows h)

past_of : (from : Phase) (kind : EventKind) (seq : ℕ) (ph : Phase) → Moves kind seq ph → is_enter kind seq ≡ false → follows_phase from kind ≡ true → not (is_phase ph phase.Issued) ≡ true → not (is_phase from phase.Issued) ≡ true
past_of from kind seq ph moves later follows to = sym (or-false (not (is_phase from phase.Issued))) ∙ ap (λ x. not (is_phase from phase.Issued) || x) (sym later) ∙ moves.enters from follows ∙ to

-- a PEI that moves on, and does not enter, has its entry
has_moved : (m : MachineSpec) (s : State) (journal : List Event) (entries : List Claims) (claims : List (List LaneClaim)) (a : Actor) (kind : EventKind) (seq : ℕ) (ph : Phase) (k : PeiLook) → Moves kind seq ph → is_enter kind seq ≡ false → not (is_phase ph phase.Issued) ≡ true → Agrees m s journal → look_in s a.core a.lane ≡ Some k → k.id.seq ≡ seq → follows_phase k.phase kind ≡ true → Holding m s entries claims → (l : PeiLook) → In l s.peis → is_past_issue (with_phase (pei_id a seq) ph l) ≡ true → claim_at claims l.id.core.0 l.lane.0 ≡ Held (entry_of m l.block) (mode_of l.op)
has_moved m s journal entries claims a kind seq ph k moves later to g here n follows h l i past = by (same_pei l.id (pei_id a seq)) refl past
  where
    o : IsOf m s journal a seq k
    o = of_lane m s journal a seq k g here n

    by : (b : Bool) → same_pei l.id (pei_id a seq) ≡ b → is_past_issue (if b then moved ph l else l) ≡ true → claim_at claims l.id.core.0 l.lane.0 ≡ Held (entry_of m l.block) (mode_of l.op)
    by true e p =
        let same : l ≡ k = look_same m s journal g l k i o.here (same_pei_is l.id (pei_id a seq) e ∙ sym o.named)
        in h.active l i (ap is_past_issue same ∙ past_of k.phase kind seq ph moves later follows to)
    by false e p = h.active l i p

-- a PEI that enters has its entry by its claim
has_entered_claim : (m : MachineSpec) (s : State) (journal : List Event) (entries : List Claims) (claims : List (List LaneClaim)) (a : Actor) (seq : ℕ) (k : PeiLook) → Agrees m s journal → look_in s a.core a.lane ≡ Some k → k.id.seq ≡ seq → claim_at claims a.core.0 a.lane.0 ≡ Held (entry_of m k.block) (mode_of k.op) → Holding m s entries claims → (l : PeiLook) → In l s.peis → is_past_issue (with_phase (pei_id a seq) phase.Entered l) ≡ true → claim_at claims l.id.core.0 l.lane.0 ≡ Held (entry_of m l.block) (mode_of l.op)
has_entered_claim m s journal entries claims a seq k g here n claim h l i past = by (same_pei l.id (pei_id a seq)) refl past
  where
    o : IsOf m s journal a seq k
    o = of_lane m s journal a seq k g here n

    by : (b : Bool) → same_pei l.id (pei_id a seq) ≡ b → is_past_issue (if b then moved phase.Entered l else l) ≡ true → claim_at claims l.id.core.0 l.lane.0 ≡ Held (entry_of m l.block) (mode_of l.op)
    by true e p =
        let same : l ≡ k = look_same m s journal g l k i o.here (same_pei_is l.id (pei_id a seq) e ∙ sym o.named)
        in subst (λ z. claim_at claims z.id.core.0 z.lane.0 ≡ Held (entry_of m z.block) (mode_of z.op)) (sym same)
        (ap₂ (claim_at claims) (ap (λ d. d.core.0) o.named) (eqb-true k.lane.0 a.lane.0 o.lane) ∙ claim)
    by false e p = h.active l i p

free_is_none : (m : MachineSpec) (s : State) (c : CoreId) (l : Lane) → free_lane m s c ≡ Some l → look_in s c l ≡ None
free_is_none m s c l h = none_of (look_in s c l) (find_Some (λ z. is_none (look_in s c z)) (lanes_of m) l h).1
  where
    none_of : (o : Option PeiLook) → is_none o ≡ true → o ≡ None
    none_of None k = refl
    none_of (Some p) k = absurd (cc k)

acted_past : (ph : Phase) (seq : ℕ) → follows_phase ph (event.Leave seq) ≡ true → not (is_phase ph phase.Issued) ≡ true
acted_past phase.Issued seq h = absurd (cc h)
acted_past _ seq h = refl

-- The directory's entries count who holds them after an event that fits its actor, where a PEI that enters has its
-- entry.
pub holding_next : (x : CoreNext) (m : MachineSpec) (image : Contents) (journal : List Event) (s : State) (entries : List Claims) (claims : List (List LaneClaim)) (a : Actor) (kind : EventKind) → Agrees m s journal → Fits x m image journal s a kind → EntersHeld m s claims a kind → Holding m s entries claims → Holding m (next_state m s a kind) entries (changed claims a.core.0 a.lane.0 (after_leave kind))
holding_next x m image journal s entries claims a (event.Load addr value) g f e h = kept m s (next_state m s a (event.Load addr value)) entries claims a (after_leave (event.Load addr value)) (λ z. refl) (follows_same m s (next_state m s a (event.Load addr value)) entries claims refl h) h
holding_next x m image journal s entries claims a (event.Store addr value) g f e h = kept m s (next_state m s a (event.Store addr value)) entries claims a (after_leave (event.Store addr value)) (λ z. refl) (follows_same m s (next_state m s a (event.Store addr value)) entries claims refl h) h
holding_next x m image journal s entries claims a (event.Out value) g f e h = kept m s (next_state m s a (event.Out value)) entries claims a (after_leave (event.Out value)) (λ z. refl) (follows_same m s (next_state m s a (event.Out value)) entries claims refl h) h
holding_next x m image journal s entries claims a (event.Race pc b by) g f e h = kept m s (next_state m s a (event.Race pc b by)) entries claims a (after_leave (event.Race pc b by)) (λ z. refl) (follows_same m s (next_state m s a (event.Race pc b by)) entries claims refl h) h
holding_next x m image journal s entries claims a (event.End how) g f e h = kept m s (next_state m s a (event.End how)) entries claims a (after_leave (event.End how)) (λ z. refl) (follows_same m s (next_state m s a (event.End how)) entries claims refl h) h
holding_next x m image journal s entries claims a (event.Clean b) g f e h = kept m s (next_state m s a (event.Clean b)) entries claims a (after_leave (event.Clean b)) (λ z. refl) (follows_same m s (next_state m s a (event.Clean b)) entries claims refl h) h
holding_next x m image journal s entries claims a (event.EvictLlc b) g f e h = kept m s (next_state m s a (event.EvictLlc b)) entries claims a (after_leave (event.EvictLlc b)) (λ z. refl) (follows_same m s (next_state m s a (event.EvictLlc b)) entries claims refl h) h
holding_next x m image journal s entries claims a (event.Fill b) g f e h = kept m s (next_state m s a (event.Fill b)) entries claims a (after_leave (event.Fill b)) (λ z. refl) (follows_same m s (next_state m s a (event.Fill b)) entries claims refl h) h
holding_next x m image journal s entries claims a (event.GrantS b) g f e h = kept m s (next_state m s a (event.GrantS b)) entries claims a (after_leave (event.GrantS b)) (λ z. refl) (follows_same m s (next_state m s a (event.GrantS b)) entries claims refl h) h
holding_next x m image journal s entries claims a (event.GrantE b) g f e h = kept m s (next_state m s a (event.GrantE b)) entries claims a (after_leave (event.GrantE b)) (λ z. refl) (follows_same m s (next_state m s a (event.GrantE b)) entries claims refl h) h
holding_next x m image journal s entries claims a (event.GrantM b) g f e h = kept m s (next_state m s a (event.GrantM b)) entries claims a (after_leave (event.GrantM b)) (λ z. refl) (follows_same m s (next_state m s a (event.GrantM b)) entries claims refl h) h
holding_next x m image journal s entries claims a (event.FenceBegin) g f e h = kept m s (next_state m s a (event.FenceBegin)) entries claims a (after_leave (event.FenceBegin)) (λ z. refl) (follows_same m s (next_state m s a (event.FenceBegin)) entries claims refl h) h
holding_next x m image journal s entries claims a (event.FenceEnd) g f e h = kept m s (next_state m s a (event.FenceEnd)) entries claims a (after_leave (event.FenceEnd)) (λ z. refl) (follows_same m s (next_state m s a (event.FenceEnd)) entries claims refl h) h
holding_next x m image journal s entries claims a (event.Invalidate c b) g f e h = kept m s (next_state m s a (event.Invalidate c b)) entries claims a (after_leave (event.Invalidate c b)) (λ z. refl) (follows_same m s (next_state m s a (event.Invalidate c b)) entries claims (keeps_invalidating m s c b).peis h) h
holding_next x m image journal s entries claims a (event.EvictL1 c b) g f e h = kept m s (next_state m s a (event.EvictL1 c b)) entries claims a (after_leave (event.EvictL1 c b)) (λ z. refl) (follows_same m s (next_state m s a (event.EvictL1 c b)) entries claims (keeps_invalidating m s c b).peis h) h
holding_next x m image journal s entries claims a (event.Downgrade c b) g f e h = kept m s (next_state m s a (event.Downgrade c b)) entries claims a (after_leave (event.Downgrade c b)) (λ z. refl) (follows_same m s (next_state m s a (event.Downgrade c b)) entries claims (keeps_downgrading m s c b).peis h) h
holding_next x m image journal s entries claims a (event.Issue seq lane o b operands) g f e h =
    kept m s (next_state m s a (event.Issue seq lane o b operands)) entries claims a (after_leave (event.Issue seq lane o b operands)) (λ z. refl)
    (follows_issued m s (next_state m s a (event.Issue seq lane o b operands)) entries claims (new_look a seq lane o b operands) refl refl (free_is_none m s a.core lane f.1.1.2) h) h
holding_next x m image journal s entries claims a (event.Enter seq) g f e h =
    kept m s (next_state m s a (event.Enter seq)) entries claims a (after_leave (event.Enter seq)) (λ z. refl)
    (follows_moved m s (next_state m s a (event.Enter seq)) entries claims (pei_id a seq) phase.Entered refl refl (has_entered_claim m s journal entries claims a seq f.1.1.0 g f.1.1.1 f.1.1.2 (e f.1.1.0 f.1.1.1) h) h) h
holding_next x m image journal s entries claims a (event.Leave seq) g f e h =
    let l = f.1.1.0
    in let o = of_lane m s journal a seq l g f.1.1.1 f.1.1.2
    in holding_left m s (next_state m s a (event.Leave seq)) entries claims a seq l f.0 refl o.here o.named (same_lane_is l.lane a.lane o.lane) (acted_past l.phase seq f.1.1.3) (λ z i same. look_same m s journal g z l i o.here same) h
holding_next x m image journal s entries claims a (event.Place seq place.Host) g f e h =
    kept m s (next_state m s a (event.Place seq place.Host)) entries claims a (after_leave (event.Place seq place.Host)) (λ z. refl)
    (follows_moved m s (next_state m s a (event.Place seq place.Host)) entries claims (pei_id a seq) phase.HostPlaced refl (ap (map (with_phase (pei_id a seq) phase.HostPlaced)) (keeps_placing m s (look_of s (pei_id a seq))).peis) (has_moved m s journal entries claims a (event.Place seq place.Host) seq phase.HostPlaced f.1.1.0 (moves_place_host seq) refl refl g f.1.1.1 f.1.1.2 f.1.1.3 h) h) h
holding_next x m image journal s entries claims a (event.Place seq place.Memory) g f e h =
    kept m s (next_state m s a (event.Place seq place.Memory)) entries claims a (after_leave (event.Place seq place.Memory)) (λ z. refl)
    (follows_moved m s (next_state m s a (event.Place seq place.Memory)) entries claims (pei_id a seq) phase.MemoryPlaced refl (ap (map (with_phase (pei_id a seq) phase.MemoryPlaced)) (keeps_placing m s (look_of s (pei_id a seq))).peis) (has_moved m s journal entries claims a (event.Place seq place.Memory) seq phase.MemoryPlaced f.1.1.0 (moves_place_memory seq) refl refl g f.1.1.1 f.1.1.2 f.1.1.3 h) h) h
holding_next x m image journal s entries claims a (event.Read seq) g f e h =
    kept m s (next_state m s a (event.Read seq)) entries claims a (after_leave (event.Read seq)) (λ z. refl)
    (follows_moved m s (next_state m s a (event.Read seq)) entries claims (pei_id a seq) phase.Read refl (ap (map (with_phase (pei_id a seq) phase.Read)) (keeps_reading m s (look_of s (pei_id a seq))).peis) (has_moved m s journal entries claims a (event.Read seq) seq phase.Read f.1.1.0 (moves_read seq) refl refl g f.1.1.1 f.1.1.2 f.1.1.3 h) h) h
holding_next x m image journal s entries claims a (event.Seal seq vault) g f e h =
    kept m s (next_state m s a (event.Seal seq vault)) entries claims a (after_leave (event.Seal seq vault)) (λ z. refl)
    (follows_moved m s (next_state m s a (event.Seal seq vault)) entries claims (pei_id a seq) phase.Sealed refl refl (has_moved m s journal entries claims a (event.Seal seq vault) seq phase.Sealed f.1.1.0 (moves_seal seq vault) refl refl g f.1.1.1 f.1.1.2 f.1.1.3 h) h) h
holding_next x m image journal s entries claims a (event.Act seq reply) g f e h =
    kept m s (next_state m s a (event.Act seq reply)) entries claims a (after_leave (event.Act seq reply)) (λ z. refl)
    (follows_moved m s (next_state m s a (event.Act seq reply)) entries claims (pei_id a seq) phase.Acted refl (ap (map (with_phase (pei_id a seq) phase.Acted)) (keeps_acting m s (look_of s (pei_id a seq))).peis) (has_moved m s journal entries claims a (event.Act seq reply) seq phase.Acted f.1.1.0 (moves_act seq reply) refl refl g f.1.1.1 f.1.1.2 f.1.1.3 h) h) h

-- ---- a run so far

stalled : (p : Listing) (m : MachineSpec) (image : Contents) (r : Run) → WholeRun p m image r → WholeRun p m image (after_stall r)
stalled p m image r d = record { run = d.run; holding = d.holding; rows = d.rows; within = d.within }

-- the journal has room
abbrev pub HasRoom : MachineSpec → Run → Type 0
HasRoom m r = length r.journal < m.events

-- an event that fits its actor
goes_on : (p : Listing) (m : MachineSpec) (image : Contents) (r : Run) (a : Actor) (kind : EventKind) → Fits (next_of_core p m image r.journal a.core) m image r.journal (state_after m r.journal) a kind → EntersHeld m (state_after m r.journal) r.claims a kind → GoesByRow p m image r.journal (record { actor = a; kind = kind }) → WholeRun p m image r → WholeRun p m image (with_lane_event r a kind)
goes_on p m image r a kind f e row d =
    record {
      run = run_next p m image r.journal a kind f d.run;
      holding =
          subst (λ s. Holding m s r.entries (changed r.claims a.core.0 a.lane.0 (after_leave kind))) (sym (state_after-push m r.journal (record { actor = a; kind = kind })))
          (holding_next (next_of_core p m image r.journal a.core) m image r.journal (state_after m r.journal) r.entries r.claims a kind d.run.sound.agrees f e d.holding);
      rows = each_push (GoesByRow p m image) r.journal (record { actor = a; kind = kind }) d.rows row;
      within = subst (λ n. n ≤ m.events) (sym (length_push r.journal (record { actor = a; kind = kind }))) (one_more row.2.0);
    }
  where
    one_more : length r.journal < m.events → length r.journal + 1 ≤ m.events
    one_more h = omega (arith, h)

goes_by_row : (p : Listing) (m : MachineSpec) (image : Contents) (r : Run) (a : Actor) (row : Turn) → ((kind : EventKind) → row ≡ Makes kind → Fits (next_of_core p m image r.journal a.core) m image r.journal (state_after m r.journal) a kind × EntersHeld m (state_after m r.journal) r.claims a kind × GoesByRow p m image r.journal (record { actor = a; kind = kind })) → WholeRun p m image r → WholeRun p m image (by_row r a row)
goes_by_row p m image r a (Makes kind) fits d = let all = fits kind refl in goes_on p m image r a kind all.0 all.1 all.2 d
goes_by_row p m image r a (Stalls cause) fits d = stalled p m image r d

-- the actor is one of the machine's, and the journal has room
abbrev pub IsReady : MachineSpec → Run → Actor → Type 0
IsReady m r a = IsTrue (is_actor_of m a) × HasRoom m r

-- an event that is no `Enter` has no entry to hold
held_other : (m : MachineSpec) (s : State) (claims : List (List LaneClaim)) (a : Actor) (kind : EventKind) → is_entering kind ≡ false → EntersHeld m s claims a kind
held_other m s claims a (event.Enter seq) h = absurd (cc h)
held_other m s claims a _ h = tt

free_other : (m : MachineSpec) (s : State) (a : Actor) (kind : EventKind) → is_entering kind ≡ false → EntersFree m s a kind
free_other m s a (event.Enter seq) h = absurd (cc h)
free_other m s a _ h = tt

-- ---- lane 0

no_enter_at_zero : (x : CoreNext) (m : MachineSpec) (image : Contents) (journal : List Event) (s : State) (a : Actor) (kind : EventKind) → a.lane.0 ≡ 0 → Fits x m image journal s a kind → is_entering kind ≡ false
no_enter_at_zero x m image journal s a (event.Enter seq) zero_lane f = absurd (positive f.1.0)
  where
    positive : 0 < a.lane.0 → ⊥
    positive k = omega (arith, k, zero_lane)
no_enter_at_zero x m image journal s a _ zero_lane f = refl

next_at_zero : (x : CoreNext) (m : MachineSpec) (image : Contents) (journal : List Event) (a : Actor) (kind : EventKind) (c : Call) (granted : Bool) → a.lane.0 ≡ 0 → x ≡ Calls c → call_row m (state_after m journal) (flat_block image journal) a.core c ≡ Makes kind → turn_of x m image journal a granted ≡ Some (Makes kind)
next_at_zero x m image journal a kind c granted lane same h =
    subst (λ n. lane_turn n x m image journal a granted ≡ Some (Makes kind)) (sym lane)
    (ap (program_turn m (state_after m journal) (flat_block image journal) a.core) same ∙ ap Some h)

program_goes : (p : Listing) (m : MachineSpec) (image : Contents) (r : Run) (a : Actor) (x : CoreNext) → IsReady m r a → a.lane.0 ≡ 0 → next_of_core p m image r.journal a.core ≡ x → WholeRun p m image r → WholeRun p m image (program_step (whole_table m image) r a x)
program_goes p m image r a (Calls c) ready lane same d = goes_by_row p m image r a (call_row m (state_after m r.journal) (flat_block image r.journal) a.core c) row d
  where
    row : (kind : EventKind) → call_row m (state_after m r.journal) (flat_block image r.journal) a.core c ≡ Makes kind → Fits (next_of_core p m image r.journal a.core) m image r.journal (state_after m r.journal) a kind × EntersHeld m (state_after m r.journal) r.claims a kind × GoesByRow p m image r.journal (record { actor = a; kind = kind })
    row kind h =
        let f = fits_call_row (next_of_core p m image r.journal a.core) m image r.journal (state_after m r.journal) a kind c ready.0 lane same h
        in let other = no_enter_at_zero (next_of_core p m image r.journal a.core) m image r.journal (state_after m r.journal) a kind lane f
        in (
          f,
          held_other m (state_after m r.journal) r.claims a kind other,
          (ready.0, free_other m (state_after m r.journal) a kind other, (ready.1, next_at_zero (next_of_core p m image r.journal a.core) m image r.journal a kind c (is_entering kind) lane same h)),
        )
program_goes p m image r a (Busy register pei) ready lane same d = stalled p m image r d
program_goes p m image r a (Ended how) ready lane same d = stalled p m image r d

-- ---- a lane with a PEI

enters_issued : (ph : Phase) (seq : ℕ) → follows_phase ph (event.Enter seq) ≡ true → ph ≡ phase.Issued
enters_issued phase.Issued seq h = refl
enters_issued _ seq h = absurd (cc h)

no_enter_row : (l : PeiLook) (o : Option PeiId) (kind : EventKind) → enter_row l false o ≡ Makes kind → ⊥
no_enter_row l None kind h = cc h
no_enter_row l (Some first) kind h = by (same_pei first l.id) h
  where
    by : (b : Bool) → (if b then (if false then Makes (event.Enter l.id.seq) else Stalls stall.NeedsGrant) else Stalls (stall.NotOldest first)) ≡ Makes kind → ⊥
    by true k = cc k
    by false k = cc k

-- without a grant no PEI enters
not_entering : (x : CoreNext) (m : MachineSpec) (image : Contents) (journal : List Event) (s : State) (a : Actor) (kind : EventKind) (l : PeiLook) → look_in s a.core a.lane ≡ Some l → Fits x m image journal s a kind → pei_row m s (flat_block image journal) false l l.phase ≡ Makes kind → is_entering kind ≡ false
not_entering x m image journal s a (event.Enter seq) l here f h =
    absurd (no_enter_row l (first_unentered s l.id.core) (event.Enter seq)
    (subst (λ ph. pei_row m s (flat_block image journal) false l ph ≡ Makes (event.Enter seq)) (ap (λ z. z.phase) (same_Some l f.1.1.0 (sym here ∙ f.1.1.1)) ∙ enters_issued f.1.1.0.phase seq f.1.1.3) h))
not_entering x m image journal s a _ l here f h = refl

-- under a grant a PEI that has not entered does nothing else
enters_granted : (l : PeiLook) (o : Option PeiId) (kind : EventKind) → enter_row l true o ≡ Makes kind → is_entering kind ≡ true
enters_granted l None kind h = absurd (cc h)
enters_granted l (Some first) kind h = by (same_pei first l.id) h
  where
    by : (b : Bool) → (if b then (if true then Makes (event.Enter l.id.seq) else Stalls stall.NeedsGrant) else Stalls (stall.NotOldest first)) ≡ Makes kind → is_entering kind ≡ true
    by true k = ap is_entering (sym (makes_is (event.Enter l.id.seq) kind k))
    by false k = absurd (cc k)

next_in_lane : (x : CoreNext) (m : MachineSpec) (image : Contents) (journal : List Event) (a : Actor) (kind : EventKind) (l : PeiLook) (granted : Bool) → 0 < a.lane.0 → look_in (state_after m journal) a.core a.lane ≡ Some l → pei_row m (state_after m journal) (flat_block image journal) granted l l.phase ≡ Makes kind → turn_of x m image journal a granted ≡ Some (Makes kind)
next_in_lane x m image journal a kind l granted lane here h = by a.lane.0 lane ∙ ap (λ o. Some (lane_row m (state_after m journal) (flat_block image journal) granted o)) here ∙ ap Some h
  where
    by : (n : ℕ) → 0 < n → lane_turn n x m image journal a granted ≡ Some (lane_row m (state_after m journal) (flat_block image journal) granted (look_in (state_after m journal) a.core a.lane))
    by zero k = absurd (omega (arith, k))
    by (suc n) k = refl

free_row : (m : MachineSpec) (image : Contents) (journal : List Event) (s : State) (l : PeiLook) (full : Bool) (kind : EventKind) (cause : StallCause) → (if full then Stalls (stall.VaultFull (vault_of m l.block)) else Makes kind) ≡ Stalls cause → (cause ≡ stall.NeedsGrant) → ⊥
free_row m image journal s l true kind cause h e = cc (h, e)
free_row m image journal s l false kind cause h e = cc h

-- only a PEI that has not entered waits for a grant
needs_issued : (m : MachineSpec) (image : Contents) (journal : List Event) (s : State) (l : PeiLook) (ph : Phase) → pei_row m s (flat_block image journal) false l ph ≡ Stalls stall.NeedsGrant → ph ≡ phase.Issued
needs_issued m image journal s l phase.Issued h = refl
needs_issued m image journal s l phase.Entered h = absurd (cc h)
needs_issued m image journal s l phase.HostPlaced h = absurd (cc h)
needs_issued m image journal s l phase.Read h = absurd (cc h)
needs_issued m image journal s l phase.Acted h = absurd (cc h)
needs_issued m image journal s l phase.MemoryPlaced h = absurd (free_row m image journal s l (queue_is_full m s (vault_of m l.block)) (if is_writer l.op then seal_writer m s l (holder m s l.block) else seal_reader m s l (owner m s l.block)) stall.NeedsGrant h refl)
needs_issued m image journal s l phase.Sealed h = absurd (head (slice_get (queue_of s (vault_of m l.block)) 0) h)
  where
    head : (o : Option PeiId) → head_row (flat_block image journal) l o ≡ Stalls stall.NeedsGrant → ⊥
    head None k = cc k
    head (Some z) k = by (same_pei z l.id) k
      where
        by : (b : Bool) → (if b then Makes (act_kind (flat_block image journal) l) else Stalls (stall.NotHead z)) ≡ Stalls stall.NeedsGrant → ⊥
        by true q = cc q
        by false q = cc q

writer_mode : (o : Op) → is_writer o ≡ true → mode_of o ≡ mode.Writer
writer_mode o h = rw h refl

-- where a PEI that has not entered holds its entry, no active one conflicts with it
pub entry_free : (m : MachineSpec) (s : State) (entries : List Claims) (claims : List (List LaneClaim)) (p : PeiLook) → In p s.peis → is_past_issue p ≡ false → claim_at claims p.id.core.0 p.lane.0 ≡ Held (entry_of m p.block) (mode_of p.op) → Holding m s entries claims → entry_is_taken m s p ≡ false
entry_free m s entries claims p i fresh claim h = none_of (λ q. is_past_issue q && conflicts m p.block p.op q.block q.op) s.peis (λ q j. apart q j (is_past_issue q && conflicts m p.block p.op q.block q.op) refl)
  where
    none_of : (t : PeiLook → Bool) (ls : List PeiLook) → ((l : PeiLook) → In l ls → t l ≡ false) → list_any t ls ≡ false
    none_of t [] g = refl
    none_of t (l ∷ ls) g = rw (g l (inl refl)) (none_of t ls (λ k j. g k (inr j)))

    same_mode_refl : (k : Mode) → same_mode k k ≡ true
    same_mode_refl mode.Reader = refl
    same_mode_refl mode.Writer = refl

    holds : (l : PeiLook) (e : ℕ) → claim_at claims l.id.core.0 l.lane.0 ≡ Held (entry_of m l.block) (mode_of l.op) → entry_of m l.block ≡ e → holds_entry e (mode_of l.op) (claim_at claims l.id.core.0 l.lane.0) ≡ true
    holds l e g q = ap (holds_entry e (mode_of l.op)) g ∙ rw (eq-eqb (entry_of m l.block) e q) (same_mode_refl (mode_of l.op))

    one_lane : (q : PeiLook) → In q s.peis → is_past_issue q ≡ true → (p.id.core.0 ≡ q.id.core.0) × (p.lane.0 ≡ q.lane.0) → ⊥
    one_lane q j past same = cc (sym past ∙ ap is_past_issue (sym (h.apart p q i j (eq-eqb p.id.core.0 q.id.core.0 same.0) (eq-eqb p.lane.0 q.lane.0 same.1))) ∙ fresh)

    clash : (q : PeiLook) → In q s.peis → is_past_issue q ≡ true → entry_of m p.block ≡ entry_of m q.block → (is_writer p.op ≡ true) ⊎ (is_writer q.op ≡ true) → ⊥
    clash q j past same (inl w) =
        one_lane q j past
        (h.lone p.id.core.0 p.lane.0 q.id.core.0 q.lane.0 (entry_of m p.block) (mode_of q.op)
        (subst (λ k. holds_entry (entry_of m p.block) k (claim_at claims p.id.core.0 p.lane.0) ≡ true) (writer_mode p.op w) (holds p (entry_of m p.block) claim refl))
        (holds q (entry_of m p.block) (h.active q j past) (sym same)))
    clash q j past same (inr w) =
        let r =
        h.lone q.id.core.0 q.lane.0 p.id.core.0 p.lane.0 (entry_of m p.block) (mode_of p.op)
        (subst (λ k. holds_entry (entry_of m p.block) k (claim_at claims q.id.core.0 q.lane.0) ≡ true) (writer_mode q.op w) (holds q (entry_of m p.block) (h.active q j past) (sym same)))
        (holds p (entry_of m p.block) claim refl)
        in one_lane q j past (sym r.0, sym r.1)

    apart : (q : PeiLook) → In q s.peis → (b : Bool) → (is_past_issue q && conflicts m p.block p.op q.block q.op) ≡ b → (is_past_issue q && conflicts m p.block p.op q.block q.op) ≡ false
    apart q j false e = e
    apart q j true e =
        let both = and_parts (is_past_issue q) (conflicts m p.block p.op q.block q.op) e
        in let parts = and_parts (eqb (entry_of m p.block) (entry_of m q.block)) (is_writer p.op || is_writer q.op) both.1
        in absurd (clash q j both.0 (eqb-true (entry_of m p.block) (entry_of m q.block) parts.0) (or_parts_cases (is_writer p.op) (is_writer q.op) parts.1))

-- ---- the steps of a lane toward its entry

tried : (p : Listing) (m : MachineSpec) (image : Contents) (r : Run) (a : Actor) (l : PeiLook) (k : Mode) → IsTrue (is_actor_of m a) → look_in (state_after m r.journal) a.core a.lane ≡ Some l → mode_of l.op ≡ k → may_try k (claim_of r a) ≡ true → WholeRun p m image r → WholeRun p m image (after_try r a (entry_of m l.block) k)
tried p m image r a l k actor here same free d = by (is_granted (claims_at r (entry_of m l.block)) k) refl
  where
    granted_run : is_granted (claims_at r (entry_of m l.block)) k ≡ true → WholeRun p m image (with_step r a (entry_of m l.block) (λ c. with_claim c k) (Held (entry_of m l.block) k))
    granted_run e =
        record {
          run = d.run;
          rows = d.rows;
          within = d.within;
          holding =
              subst (λ z. Holding m (state_after m r.journal) (change_at r.entries (entry_of m l.block) (λ c. with_claim c z)) (changed r.claims a.core.0 a.lane.0 (λ _. Held (entry_of m l.block) z))) same
              (holding_granted m (state_after m r.journal) r.entries r.claims a l actor here (ap (λ z. may_try z (claim_of r a)) same ∙ free) (subst (λ z. is_granted (claims_at r (entry_of m l.block)) z ≡ true) (sym same) e) d.holding);
        }

    by : (b : Bool) → is_granted (claims_at r (entry_of m l.block)) k ≡ b → WholeRun p m image (if b then with_step r a (entry_of m l.block) (λ c. with_claim c k) (Held (entry_of m l.block) k) else after_stall r)
    by true e = granted_run e
    by false e = stalled p m image r d

-- what a lane holds is its PEI's entry, in its PEI's mode
held_is_own : (m : MachineSpec) (s : State) (entries : List Claims) (claims : List (List LaneClaim)) (a : Actor) (l : PeiLook) (at : ℕ) (k : Mode) → Holding m s entries claims → look_in s a.core a.lane ≡ Some l → claim_at claims a.core.0 a.lane.0 ≡ Held at k → claim_at claims a.core.0 a.lane.0 ≡ Held (entry_of m l.block) (mode_of l.op)
held_is_own m s entries claims a l at k holding here claim =
    let q = holding.held a at k claim
    in let same : q.0 ≡ l = same_Some q.0 l (sym q.1 ∙ here)
    in claim ∙ ap₂ Held (sym q.2 ∙ ap (λ z. entry_of m z.block) same) (sym q.3 ∙ ap (λ z. mode_of z.op) same)

-- so its PEI, if it has not entered, finds the entry free
held_is_free : (m : MachineSpec) (s : State) (entries : List Claims) (claims : List (List LaneClaim)) (a : Actor) (l : PeiLook) (at : ℕ) (k : Mode) → Holding m s entries claims → look_in s a.core a.lane ≡ Some l → l.phase ≡ phase.Issued → claim_at claims a.core.0 a.lane.0 ≡ Held at k → entry_is_taken m s l ≡ false
held_is_free m s entries claims a l at k holding here issued claim =
    let seen = find_Some (λ z. same_core z.id.core a.core && same_lane z.lane a.lane) s.peis l here
    in let both = and_parts (same_core l.id.core a.core) (same_lane l.lane a.lane) seen.1
    in entry_free m s entries claims l seen.0 (ap (λ ph. not (is_phase ph phase.Issued)) issued)
    (ap₂ (claim_at claims) (eqb-true l.id.core.0 a.core.0 both.0) (eqb-true l.lane.0 a.lane.0 both.1) ∙ held_is_own m s entries claims a l at k holding here claim) holding

pub held_enters_free : (m : MachineSpec) (s : State) (entries : List Claims) (claims : List (List LaneClaim)) (a : Actor) (kind : EventKind) (l : PeiLook) (at : ℕ) (k : Mode) → Holding m s entries claims → look_in s a.core a.lane ≡ Some l → l.phase ≡ phase.Issued → claim_at claims a.core.0 a.lane.0 ≡ Held at k → EntersFree m s a kind
held_enters_free m s entries claims a (event.Enter seq) l at k holding here issued claim =
    λ z there. subst (λ y. entry_is_taken m s y ≡ false) (same_Some l z (sym here ∙ there)) (held_is_free m s entries claims a l at k holding here issued claim)
held_enters_free m s entries claims a _ l at k holding here issued claim = tt

-- a lane that holds its entry makes its row under the grant
held_row : (p : Listing) (m : MachineSpec) (image : Contents) (r : Run) (a : Actor) (l : PeiLook) (at : ℕ) (k : Mode) → IsReady m r a → 0 < a.lane.0 → look_in (state_after m r.journal) a.core a.lane ≡ Some l → l.phase ≡ phase.Issued → claim_of r a ≡ Held at k → WholeRun p m image r → WholeRun p m image (by_row r a (lane_row m (state_after m r.journal) (flat_block image r.journal) true (Some l)))
held_row p m image r a l at k ready lane here issued claim d =
    goes_by_row p m image r a (pei_row m s (flat_block image r.journal) true l l.phase) row d
  where
    s : State
    s = state_after m r.journal

    mine : claim_at r.claims a.core.0 a.lane.0 ≡ Held (entry_of m l.block) (mode_of l.op)
    mine = held_is_own m s r.entries r.claims a l at k d.holding here claim

    free : entry_is_taken m s l ≡ false
    free = held_is_free m s r.entries r.claims a l at k d.holding here issued claim

    enters : (kind : EventKind) → EntersHeld m s r.claims a kind
    enters (event.Enter seq) = λ z there. mine ∙ ap (λ y. Held (entry_of m y.block) (mode_of y.op)) (same_Some l z (sym here ∙ there))
    enters _ = tt

    row : (kind : EventKind) → pei_row m s (flat_block image r.journal) true l l.phase ≡ Makes kind → Fits (next_of_core p m image r.journal a.core) m image r.journal s a kind × EntersHeld m s r.claims a kind × GoesByRow p m image r.journal (record { actor = a; kind = kind })
    row kind h =
        let entering : is_entering kind ≡ true = enters_granted l (first_unentered s l.id.core) kind (subst (λ ph. pei_row m s (flat_block image r.journal) true l ph ≡ Makes kind) issued h)
        in (
          fits_pei_row (next_of_core p m image r.journal a.core) m image r.journal s a kind l ready.0 lane here true (λ _. free) l.phase refl h,
          enters kind,
          (ready.0, held_enters_free m s r.entries r.claims a kind l at k d.holding here issued claim, (ready.1, subst (λ g. turn_of (next_of_core p m image r.journal a.core) m image r.journal a g ≡ Some (Makes kind)) (sym entering) (next_in_lane (next_of_core p m image r.journal a.core) m image r.journal a kind l true lane here h))),
        )

toward : (p : Listing) (m : MachineSpec) (image : Contents) (r : Run) (a : Actor) (l : PeiLook) → IsReady m r a → 0 < a.lane.0 → look_in (state_after m r.journal) a.core a.lane ≡ Some l → l.phase ≡ phase.Issued → (k : Mode) (x : LaneClaim) → mode_of l.op ≡ k → claim_of r a ≡ x → WholeRun p m image r → WholeRun p m image (toward_enter (whole_table m image) r a l (entry_of m l.block) k x)
toward p m image r a l ready lane here issued mode.Writer Free same claim d =
    record { run = d.run; rows = d.rows; within = d.within; holding = holding_announced m (state_after m r.journal) r.entries r.claims a l ready.0 here issued same claim d.holding }
toward p m image r a l ready lane here issued mode.Reader Free same claim d = tried p m image r a l mode.Reader ready.0 here same (ap (may_try mode.Reader) claim) d
toward p m image r a l ready lane here issued mode.Writer (Announced at) same claim d = tried p m image r a l mode.Writer ready.0 here same (ap (may_try mode.Writer) claim) d
toward p m image r a l ready lane here issued mode.Reader (Announced at) same claim d = tried p m image r a l mode.Reader ready.0 here same (ap (may_try mode.Reader) claim) d
toward p m image r a l ready lane here issued mode.Writer (Held at how) same claim d = held_row p m image r a l at how ready lane here issued claim d
toward p m image r a l ready lane here issued mode.Reader (Held at how) same claim d = held_row p m image r a l at how ready lane here issued claim d
toward p m image r a l ready lane here issued mode.Writer (Spent at how) same claim d = stalled p m image r d
toward p m image r a l ready lane here issued mode.Reader (Spent at how) same claim d = stalled p m image r d

claims_turn : (p : Listing) (m : MachineSpec) (image : Contents) (r : Run) (a : Actor) (l : PeiLook) → IsReady m r a → 0 < a.lane.0 → look_in (state_after m r.journal) a.core a.lane ≡ Some l → (row : Turn) → pei_row m (state_after m r.journal) (flat_block image r.journal) false l l.phase ≡ row → WholeRun p m image r → WholeRun p m image (claiming (whole_table m image) m r a (Some l) row)
claims_turn p m image r a l ready lane here (Stalls stall.NeedsGrant) same d =
    toward p m image r a l ready lane here (needs_issued m image r.journal (state_after m r.journal) l l.phase same) (mode_of l.op) (claim_of r a) refl refl d
claims_turn p m image r a l ready lane here (Stalls _) same d = stalled p m image r d
claims_turn p m image r a l ready lane here (Makes kind) same d =
    let s = state_after m r.journal
    in let x = next_of_core p m image r.journal a.core
    in let f = fits_pei_row x m image r.journal s a kind l ready.0 lane here false (λ q. absurd (cc q)) l.phase refl same
    in let other = not_entering x m image r.journal s a kind l here f same
    in goes_on p m image r a kind f (held_other m s r.claims a kind other)
    (ready.0, free_other m s a kind other, (ready.1, subst (λ g. turn_of x m image r.journal a g ≡ Some (Makes kind)) (sym other) (next_in_lane x m image r.journal a kind l false lane here same))) d

-- a lane's turn, by what it has of the directory
lane_goes : (p : Listing) (m : MachineSpec) (image : Contents) (r : Run) (a : Actor) → IsReady m r a → 0 < a.lane.0 → (o : Option PeiLook) → look_in (state_after m r.journal) a.core a.lane ≡ o → (x : LaneClaim) → claim_of r a ≡ x → WholeRun p m image r → WholeRun p m image (lane_step (whole_table m image) m r a o x)
lane_goes p m image r a ready lane o here (Spent at how) claim d =
    record { run = d.run; rows = d.rows; within = d.within; holding = holding_released m (state_after m r.journal) r.entries r.claims a at how ready.0 claim d.holding }
lane_goes p m image r a ready lane None here Free claim d = stalled p m image r d
lane_goes p m image r a ready lane None here (Announced at) claim d = stalled p m image r d
lane_goes p m image r a ready lane None here (Held at how) claim d = stalled p m image r d
lane_goes p m image r a ready lane (Some l) here Free claim d = claims_turn p m image r a l ready lane here (pei_row m (state_after m r.journal) (flat_block image r.journal) false l l.phase) refl d
lane_goes p m image r a ready lane (Some l) here (Announced at) claim d = claims_turn p m image r a l ready lane here (pei_row m (state_after m r.journal) (flat_block image r.journal) false l l.phase) refl d
lane_goes p m image r a ready lane (Some l) here (Held at how) claim d = claims_turn p m image r a l ready lane here (pei_row m (state_after m r.journal) (flat_block image r.journal) false l l.phase) refl d

-- a turn of an actor of the whole machine
pub whole_turn : (p : Listing) (m : MachineSpec) (image : Contents) (r : Run) (a : Actor) → IsReady m r a → WholeRun p m image r → WholeRun p m image (turn (whole_table m image) p m image r a)
whole_turn p m image r a ready d = by a.lane.0 refl
  where
    by : (n : ℕ) → a.lane.0 ≡ n → WholeRun p m image (step_of_lane n (whole_table m image) p m image r a)
    by zero e = program_goes p m image r a (next_of_core p m image r.journal a.core) ready e refl d
    by (suc n) e = lane_goes p m image r a ready (omega (arith, e)) (look_in (state_after m r.journal) a.core a.lane) refl (claim_of r a) refl d

-- ---- whole runs

room : (m : MachineSpec) (policy : Policy) (r : Run) (a : Actor) → next_actor m policy r ≡ Some a → length r.journal ≤ m.events → HasRoom m r
room m policy r a h within = by (all_ended m r.journal) (eqb (length r.journal) m.events) refl h
  where
    less : (n k : ℕ) → n ≤ k → (n ≡ k → ⊥) → n < k
    less n k u v = omega (arith, u, v)

    by : (b c : Bool) → eqb (length r.journal) m.events ≡ c → (if b || c then None else policy r.turns r.stalls) ≡ Some a → HasRoom m r
    by true c e k = absurd (cc k)
    by false true e k = absurd (cc k)
    by false false e k = less (length r.journal) m.events within (λ q. absurd (cc (sym e ∙ eq-eqb (length r.journal) m.events q)))

whole_runs_from : (p : Listing) (m : MachineSpec) (image : Contents) (policy : Policy) (n : ℕ) (r : Run) → ChoosesActors m policy → WholeRun p m image r → WholeRun p m image (scheduled_run_from (whole_table m image) p m image policy n r)
whole_runs_from p m image policy zero r chooses d = d
whole_runs_from p m image policy (suc n) r chooses d = by (next_actor m policy r) refl (λ s h. whole_runs_from p m image policy n s chooses h)
  where
    by : (o : Option Actor) → next_actor m policy r ≡ o → ((s : Run) → WholeRun p m image s → WholeRun p m image (scheduled_run_from (whole_table m image) p m image policy n s)) → WholeRun p m image (elim o as (λ _. Run) [ None ↦ r | Some a ↦ scheduled_run_from (whole_table m image) p m image policy n (turn (whole_table m image) p m image r a) ])
    by None e rest = d
    by (Some a) e rest = rest (turn (whole_table m image) p m image r a) (whole_turn p m image r a (chosen m policy r a chooses e, room m policy r a e d.within) d)

holding_at_start : (m : MachineSpec) → Holding m (start_state m) (replicate m.directory no_claims) (replicate m.cores (replicate (m.buffer + 1) Free))
holding_at_start m =
    record {
      cores = length-replicate m.cores (replicate (m.buffer + 1) Free);
      lanes = λ c h. ap length (get_or-replicate m.cores c (replicate (m.buffer + 1) Free) [] h) ∙ length-replicate (m.buffer + 1) Free;
      size = length-replicate m.directory no_claims;
      counts = λ e k below. none_counted k (get_or (replicate m.directory no_claims) e no_claims) (same_everywhere m.directory e no_claims) ∙ sym (none_hold (holds_entry e k) refl m.cores);
      below = λ c l e k h. absurd (cc (sym h ∙ ap (holds_entry e k) (all_free c l)));
      lone = λ c l d n e k h. absurd (cc (sym h ∙ ap (holds_entry e mode.Writer) (all_free c l)));
      active = λ l i. absurd i;
      held = λ a e k h. absurd (cc (sym (all_free a.core.0 a.lane.0) ∙ h));
      waiting = λ e below. ap (λ c. c.waiting) (same_everywhere m.directory e no_claims) ∙ sym (none_hold (waits_on e) refl m.cores);
      announced = λ a e h. absurd (cc (sym (all_free a.core.0 a.lane.0) ∙ h));
      apart = λ p q i. absurd i;
    }
  where
    same_everywhere : {A : Type 0} (n i : ℕ) (x : A) → get_or (replicate n x) i x ≡ x
    same_everywhere zero i x = refl
    same_everywhere (suc n) zero x = refl
    same_everywhere (suc n) (suc i) x = same_everywhere n i x

    none_counted : (k : Mode) (c : Claims) → c ≡ no_claims → counted k c ≡ 0
    none_counted mode.Reader c h = ap (λ z. z.readers) h
    none_counted mode.Writer c h = ap (λ z. z.writers) h

    none_in : (t : LaneClaim → Bool) → t Free ≡ false → (n : ℕ) → count_in t (replicate n Free) ≡ 0
    none_in t h zero = refl
    none_in t h (suc n) = rw (h, none_in t h n) refl

    none_hold : (t : LaneClaim → Bool) → t Free ≡ false → (n : ℕ) → count_all t (replicate n (replicate (m.buffer + 1) Free)) ≡ 0
    none_hold t h zero = refl
    none_hold t h (suc n) = rw (none_in t h (m.buffer + 1), none_hold t h n) refl

    row_free : (n c l : ℕ) → claim_at (replicate n (replicate (m.buffer + 1) Free)) c l ≡ Free
    row_free zero c l = refl
    row_free (suc n) zero l = same_everywhere (m.buffer + 1) l Free
    row_free (suc n) (suc c) l = row_free n c l

    all_free : (c l : ℕ) → claim_at (replicate m.cores (replicate (m.buffer + 1) Free)) c l ≡ Free
    all_free c l = row_free m.cores c l

pub whole_at_start : (p : Listing) (m : MachineSpec) (image : Contents) → WholeRun p m image (run_at_start m)
whole_at_start p m image = record { run = run_starts p m image; holding = holding_at_start m; rows = each_of_from (GoesByRow p m image) [] tt; within = omega arith }

-- Every scheduled run of the whole machine has a sound journal, which is legal on the flat machine.
pub whole_runs_sound : (p : Listing) (m : MachineSpec) (image : Contents) (policy : Policy) (n : ℕ) → ChoosesActors m policy → WholeRun p m image (scheduled_run (whole_table m image) p m image policy n)
whole_runs_sound p m image policy n chooses = whole_runs_from p m image policy n (run_at_start m) chooses (whole_at_start p m image)

pub whole_runs_legal : (p : Listing) (m : MachineSpec) (image : Contents) (policy : Policy) (n : ℕ) → ChoosesActors m policy → FlatLegal p m image (scheduled_run (whole_table m image) p m image policy n).journal
whole_runs_legal p m image policy n chooses = (whole_runs_sound p m image policy n chooses).run.legal

-- each of its events is its actor's next row
pub whole_runs_rows : (p : Listing) (m : MachineSpec) (image : Contents) (policy : Policy) (n : ℕ) → ChoosesActors m policy → EachEvent (GoesByRow p m image) (scheduled_run (whole_table m image) p m image policy n).journal
whole_runs_rows p m image policy n chooses = (whole_runs_sound p m image policy n chooses).rows
