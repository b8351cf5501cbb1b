-- The state and the history agree after each event that answers a call, and numbers an issue rightly.
use Rattle.std.proofs.Common.{◌≡◌, ℕ, zero, suc, slice_index, Bool, true, false, not, ◌||◌, if◌then◌else◌, List, [], ◌∷◌, ◌++◌, map, replicate, get_or, Option, Some, None, IsTrue, refl, sym, ap, subst, arith, eqb, eqb-true}
use Rattle.std.proofs.lemmas.List.{length-replicate, append_assoc, append-nil}
use Rattle.pei_types.specs.declared.identifiers.Actor.{Actor}
use Rattle.pei_types.specs.declared.identifiers.BlockNo.{BlockNo}
use Rattle.pei_types.specs.declared.identifiers.CoreId.{CoreId}
use Rattle.pei_types.specs.declared.identifiers.PeiId.{PeiId}
use Rattle.pei_types.specs.declared.operations.Letter.{Letter}
use Rattle.pei_types.specs.declared.operations.Reply.{Reply}
use Rattle.pei_types.specs.declared.operations.Place.TheVariants as place
use Rattle.pei_types.specs.declared.inflight_looks.PeiLook.{PeiLook}
use Rattle.pei_types.specs.declared.inflight_looks.Phase.{Phase}
use Rattle.pei_types.specs.declared.inflight_looks.Phase.TheVariants as phase
use Rattle.pei_types.specs.declared.events.Event.{Event}
use Rattle.pei_types.specs.declared.events.EventKind.{EventKind}
use Rattle.pei_types.specs.declared.events.EventKind.TheVariants as event
use Rattle.pei_types.specs.declared.machines.MachineSpec.{MachineSpec}
use Rattle.pei_types.specs.Blocks.{same_core}
use Rattle.pei_types.specs.Calls.{AnswersCall, follows_phase}
use Rattle.pei_types.specs.MachineState.{State, start_state, next_state, state_after, after_placing, after_reading, after_acting, after_acting_in, after_taking_back, after_invalidating, after_downgrading, look_of, pei_id, is_phase, with_phase, is_ahead, letter_of, free_lane}
use Rattle.pei_types.specs.Core.{CoreNext}
use Rattle.pei_types.specs.Guard.{guard, is_lane}
use Rattle.pei_types.specs.Legal.{EachEvent, EachFrom, MachineLegal}
use Rattle.pei_types.specs.Program.{Contents}
use Rattle.pei_types.specs.History.{is_enter, is_act}
use Rattle.pei_types.specs.Operation.{is_writer}
use Rattle.pei_types.proofs.Histories.{from_of_each}
use Rattle.pei_types.proofs.Pushes.{state_after-push}
use Rattle.history_laws.specs.TrackedPeis.{Agrees, issues_next, IsTrackable}
use Rattle.history_laws.proofs.Agree.{Moves, Keeps, agrees_moved, agrees_quiet, agrees_begin, agrees_end, agrees_left, agrees_issued}
use Rattle.pei_types.proofs.Identities.{core_within}
use Rattle.std.proofs.Math.Bool.{and-false}
use Rattle.std.proofs.lemmas.Bool.{and_parts}
use Rattle.pei_types.proofs.Tests.{same_self}

-- ---- the events that move a PEI on

pub moves_enter : (seq : ℕ) → Moves (event.Enter seq) seq phase.Entered
moves_enter seq =
    record { names = refl; after = refl; issues = λ a. refl; leave = λ n. refl; enters = enters; acts = acts; begins = λ c a. and-false (same_core a.core c); ends = λ c a. and-false (same_core a.core c) }
  where
    enters : (from : Phase) → follows_phase from (event.Enter seq) ≡ true → (not (is_phase from phase.Issued) || is_enter (event.Enter seq) seq) ≡ not (is_phase phase.Entered phase.Issued)
    enters phase.Issued h = same_self seq
    enters _ h = absurd (cc h)

    acts : (from : Phase) → follows_phase from (event.Enter seq) ≡ true → (is_phase from phase.Acted || is_act (event.Enter seq) seq) ≡ is_phase phase.Entered phase.Acted
    acts phase.Issued h = refl
    acts _ h = absurd (cc h)

pub moves_place_host : (seq : ℕ) → Moves (event.Place seq place.Host) seq phase.HostPlaced
moves_place_host seq =
    record { names = refl; after = refl; issues = λ a. refl; leave = λ n. refl; enters = enters; acts = acts; begins = λ c a. and-false (same_core a.core c); ends = λ c a. and-false (same_core a.core c) }
  where
    enters : (from : Phase) → follows_phase from (event.Place seq place.Host) ≡ true → (not (is_phase from phase.Issued) || is_enter (event.Place seq place.Host) seq) ≡ not (is_phase phase.HostPlaced phase.Issued)
    enters phase.Entered h = refl
    enters _ h = absurd (cc h)

    acts : (from : Phase) → follows_phase from (event.Place seq place.Host) ≡ true → (is_phase from phase.Acted || is_act (event.Place seq place.Host) seq) ≡ is_phase phase.HostPlaced phase.Acted
    acts phase.Entered h = refl
    acts _ h = absurd (cc h)

pub moves_place_memory : (seq : ℕ) → Moves (event.Place seq place.Memory) seq phase.MemoryPlaced
moves_place_memory seq =
    record { names = refl; after = refl; issues = λ a. refl; leave = λ n. refl; enters = enters; acts = acts; begins = λ c a. and-false (same_core a.core c); ends = λ c a. and-false (same_core a.core c) }
  where
    enters : (from : Phase) → follows_phase from (event.Place seq place.Memory) ≡ true → (not (is_phase from phase.Issued) || is_enter (event.Place seq place.Memory) seq) ≡ not (is_phase phase.MemoryPlaced phase.Issued)
    enters phase.Entered h = refl
    enters _ h = absurd (cc h)

    acts : (from : Phase) → follows_phase from (event.Place seq place.Memory) ≡ true → (is_phase from phase.Acted || is_act (event.Place seq place.Memory) seq) ≡ is_phase phase.MemoryPlaced phase.Acted
    acts phase.Entered h = refl
    acts _ h = absurd (cc h)

pub moves_read : (seq : ℕ) → Moves (event.Read seq) seq phase.Read
moves_read seq =
    record { names = refl; after = refl; issues = λ a. refl; leave = λ n. refl; enters = enters; acts = acts; begins = λ c a. and-false (same_core a.core c); ends = λ c a. and-false (same_core a.core c) }
  where
    enters : (from : Phase) → follows_phase from (event.Read seq) ≡ true → (not (is_phase from phase.Issued) || is_enter (event.Read seq) seq) ≡ not (is_phase phase.Read phase.Issued)
    enters phase.HostPlaced h = refl
    enters _ h = absurd (cc h)

    acts : (from : Phase) → follows_phase from (event.Read seq) ≡ true → (is_phase from phase.Acted || is_act (event.Read seq) seq) ≡ is_phase phase.Read phase.Acted
    acts phase.HostPlaced h = refl
    acts _ h = absurd (cc h)

pub moves_seal : (seq vault : ℕ) → Moves (event.Seal seq vault) seq phase.Sealed
moves_seal seq vault =
    record { names = refl; after = refl; issues = λ a. refl; leave = λ n. refl; enters = enters; acts = acts; begins = λ c a. and-false (same_core a.core c); ends = λ c a. and-false (same_core a.core c) }
  where
    enters : (from : Phase) → follows_phase from (event.Seal seq vault) ≡ true → (not (is_phase from phase.Issued) || is_enter (event.Seal seq vault) seq) ≡ not (is_phase phase.Sealed phase.Issued)
    enters phase.MemoryPlaced h = refl
    enters _ h = absurd (cc h)

    acts : (from : Phase) → follows_phase from (event.Seal seq vault) ≡ true → (is_phase from phase.Acted || is_act (event.Seal seq vault) seq) ≡ is_phase phase.Sealed phase.Acted
    acts phase.MemoryPlaced h = refl
    acts _ h = absurd (cc h)

pub moves_act : (seq : ℕ) (reply : Reply) → Moves (event.Act seq reply) seq phase.Acted
moves_act seq reply =
    record { names = refl; after = refl; issues = λ a. refl; leave = λ n. refl; enters = enters; acts = acts; begins = λ c a. and-false (same_core a.core c); ends = λ c a. and-false (same_core a.core c) }
  where
    enters : (from : Phase) → follows_phase from (event.Act seq reply) ≡ true → (not (is_phase from phase.Issued) || is_enter (event.Act seq reply) seq) ≡ not (is_phase phase.Acted phase.Issued)
    enters phase.Read h = refl
    enters phase.Sealed h = refl
    enters _ h = absurd (cc h)

    acts : (from : Phase) → follows_phase from (event.Act seq reply) ≡ true → (is_phase from phase.Acted || is_act (event.Act seq reply) seq) ≡ is_phase phase.Acted phase.Acted
    acts phase.Read h = same_self seq
    acts phase.Sealed h = same_self seq
    acts _ h = absurd (cc h)

-- ---- what leaves PEIs, counts and fences as they are

pub keeps_itself : (s : State) → Keeps s s
keeps_itself s = record { peis = refl; issues = refl; fences = refl }

pub keeps_if : (b : Bool) (s t u : State) → Keeps s t → Keeps s u → Keeps s (if b then t else u)
keeps_if true s t u h k = h
keeps_if false s t u h k = k

pub keeps_placing : (m : MachineSpec) (s : State) (o : Option PeiLook) → Keeps s (after_placing m s o)
keeps_placing m s None = keeps_itself s
keeps_placing m s (Some p) = record { peis = refl; issues = refl; fences = refl }

pub keeps_reading : (m : MachineSpec) (s : State) (o : Option PeiLook) → Keeps s (after_reading m s o)
keeps_reading m s None = keeps_itself s
keeps_reading m s (Some p) = record { peis = refl; issues = refl; fences = refl }

pub keeps_acting_in : (m : MachineSpec) (s : State) (p : PeiLook) (ph : Phase) → Keeps s (after_acting_in m s p ph)
keeps_acting_in m s p phase.Read = keeps_if (is_writer p.op) s _ s (record { peis = refl; issues = refl; fences = refl }) (keeps_itself s)
keeps_acting_in m s p phase.Sealed = record { peis = refl; issues = refl; fences = refl }
keeps_acting_in m s p _ = keeps_itself s

pub keeps_acting : (m : MachineSpec) (s : State) (o : Option PeiLook) → Keeps s (after_acting m s o)
keeps_acting m s None = keeps_itself s
keeps_acting m s (Some p) = keeps_acting_in m s p p.phase

pub keeps_taking_back : (m : MachineSpec) (s : State) (b : BlockNo) (l : Letter) → Keeps s (after_taking_back m s b l)
keeps_taking_back m s b l = keeps_if (is_ahead l) s _ s (record { peis = refl; issues = refl; fences = refl }) (keeps_itself s)

pub keeps_invalidating : (m : MachineSpec) (s : State) (c : CoreId) (b : BlockNo) → Keeps s (after_invalidating m s c b)
keeps_invalidating m s c b = let k = keeps_taking_back m s b (letter_of m s c b) in record { peis = k.peis; issues = k.issues; fences = k.fences }

pub keeps_downgrading : (m : MachineSpec) (s : State) (c : CoreId) (b : BlockNo) → Keeps s (after_downgrading m s c b)
keeps_downgrading m s c b = let k = keeps_taking_back m s b (letter_of m s c b) in record { peis = k.peis; issues = k.issues; fences = k.fences }

-- ---- each event

-- The state and the history agree after one more event, which answers a call of its core or is its PEI's next. What
-- else is asked is that an issue has its core's next number.
pub agrees_next : (x : CoreNext) (m : MachineSpec) (s : State) (journal : List Event) (a : Actor) (kind : EventKind) → AnswersCall x m journal a kind → IsTrue (issues_next s a kind) → Agrees m s journal → Agrees m (next_state m s a kind) (journal ++ record { actor = a; kind = kind } ∷ [])
agrees_next x m s journal a (event.Load addr value) calls next g =
    agrees_quiet m s (next_state m s a (event.Load addr value)) journal a (event.Load addr value) (record { names = refl; issues = λ b'. refl; leave = λ n. refl }) (λ c'. and-false (same_core a.core c')) (λ c'. and-false (same_core a.core c')) (record { peis = refl; issues = refl; fences = refl }) g
agrees_next x m s journal a (event.Store addr value) calls next g =
    agrees_quiet m s (next_state m s a (event.Store addr value)) journal a (event.Store addr value) (record { names = refl; issues = λ b'. refl; leave = λ n. refl }) (λ c'. and-false (same_core a.core c')) (λ c'. and-false (same_core a.core c')) (record { peis = refl; issues = refl; fences = refl }) g
agrees_next x m s journal a (event.Out value) calls next g =
    agrees_quiet m s (next_state m s a (event.Out value)) journal a (event.Out value) (record { names = refl; issues = λ b'. refl; leave = λ n. refl }) (λ c'. and-false (same_core a.core c')) (λ c'. and-false (same_core a.core c')) (record { peis = refl; issues = refl; fences = refl }) g
agrees_next x m s journal a (event.Race pc b by) calls next g =
    agrees_quiet m s (next_state m s a (event.Race pc b by)) journal a (event.Race pc b by) (record { names = refl; issues = λ b'. refl; leave = λ n. refl }) (λ c'. and-false (same_core a.core c')) (λ c'. and-false (same_core a.core c')) (record { peis = refl; issues = refl; fences = refl }) g
agrees_next x m s journal a (event.End how) calls next g =
    agrees_quiet m s (next_state m s a (event.End how)) journal a (event.End how) (record { names = refl; issues = λ b'. refl; leave = λ n. refl }) (λ c'. and-false (same_core a.core c')) (λ c'. and-false (same_core a.core c')) (record { peis = refl; issues = refl; fences = refl }) g
agrees_next x m s journal a (event.Clean b) calls next g =
    agrees_quiet m s (next_state m s a (event.Clean b)) journal a (event.Clean b) (record { names = refl; issues = λ b'. refl; leave = λ n. refl }) (λ c'. and-false (same_core a.core c')) (λ c'. and-false (same_core a.core c')) (record { peis = refl; issues = refl; fences = refl }) g
agrees_next x m s journal a (event.EvictLlc b) calls next g =
    agrees_quiet m s (next_state m s a (event.EvictLlc b)) journal a (event.EvictLlc b) (record { names = refl; issues = λ b'. refl; leave = λ n. refl }) (λ c'. and-false (same_core a.core c')) (λ c'. and-false (same_core a.core c')) (record { peis = refl; issues = refl; fences = refl }) g
agrees_next x m s journal a (event.Fill b) calls next g =
    agrees_quiet m s (next_state m s a (event.Fill b)) journal a (event.Fill b) (record { names = refl; issues = λ b'. refl; leave = λ n. refl }) (λ c'. and-false (same_core a.core c')) (λ c'. and-false (same_core a.core c')) (record { peis = refl; issues = refl; fences = refl }) g
agrees_next x m s journal a (event.GrantS b) calls next g =
    agrees_quiet m s (next_state m s a (event.GrantS b)) journal a (event.GrantS b) (record { names = refl; issues = λ b'. refl; leave = λ n. refl }) (λ c'. and-false (same_core a.core c')) (λ c'. and-false (same_core a.core c')) (record { peis = refl; issues = refl; fences = refl }) g
agrees_next x m s journal a (event.GrantE b) calls next g =
    agrees_quiet m s (next_state m s a (event.GrantE b)) journal a (event.GrantE b) (record { names = refl; issues = λ b'. refl; leave = λ n. refl }) (λ c'. and-false (same_core a.core c')) (λ c'. and-false (same_core a.core c')) (record { peis = refl; issues = refl; fences = refl }) g
agrees_next x m s journal a (event.GrantM b) calls next g =
    agrees_quiet m s (next_state m s a (event.GrantM b)) journal a (event.GrantM b) (record { names = refl; issues = λ b'. refl; leave = λ n. refl }) (λ c'. and-false (same_core a.core c')) (λ c'. and-false (same_core a.core c')) (record { peis = refl; issues = refl; fences = refl }) g
agrees_next x m s journal a (event.Invalidate c b) calls next g =
    agrees_quiet m s (next_state m s a (event.Invalidate c b)) journal a (event.Invalidate c b) (record { names = refl; issues = λ b'. refl; leave = λ n. refl }) (λ c'. and-false (same_core a.core c')) (λ c'. and-false (same_core a.core c')) (keeps_invalidating m s c b) g
agrees_next x m s journal a (event.EvictL1 c b) calls next g =
    agrees_quiet m s (next_state m s a (event.EvictL1 c b)) journal a (event.EvictL1 c b) (record { names = refl; issues = λ b'. refl; leave = λ n. refl }) (λ c'. and-false (same_core a.core c')) (λ c'. and-false (same_core a.core c')) (keeps_invalidating m s c b) g
agrees_next x m s journal a (event.Downgrade c b) calls next g =
    agrees_quiet m s (next_state m s a (event.Downgrade c b)) journal a (event.Downgrade c b) (record { names = refl; issues = λ b'. refl; leave = λ n. refl }) (λ c'. and-false (same_core a.core c')) (λ c'. and-false (same_core a.core c')) (keeps_downgrading m s c b) g
agrees_next x m s journal a event.FenceBegin calls next g = agrees_begin m s (next_state m s a event.FenceBegin) journal a refl refl refl (core_within m a calls.0) g
agrees_next x m s journal a event.FenceEnd calls next g = agrees_end m s (next_state m s a event.FenceEnd) journal a refl refl refl (core_within m a calls.0) g
agrees_next x m s journal a (event.Issue seq lane o b operands) calls next g =
    agrees_issued m s (next_state m s a (event.Issue seq lane o b operands)) journal a seq lane o b operands refl refl refl (record { within = core_within m a calls.0; next = eqb-true seq (slice_index s.issues a.core.0) next }) g
agrees_next x m s journal a (event.Leave seq) calls next g = agrees_left m s (next_state m s a (event.Leave seq)) journal a seq refl refl refl calls.1.1.1 g
agrees_next x m s journal a (event.Enter seq) calls next g =
    agrees_moved m s (next_state m s a (event.Enter seq)) journal a (event.Enter seq) seq phase.Entered (moves_enter seq) refl refl refl calls.1.1.1 g
agrees_next x m s journal a (event.Place seq place.Host) calls next g =
    let k = keeps_placing m s (look_of s (pei_id a seq)) in agrees_moved m s (next_state m s a (event.Place seq place.Host)) journal a (event.Place seq place.Host) seq phase.HostPlaced (moves_place_host seq) (ap (map (with_phase (pei_id a seq) phase.HostPlaced)) k.peis) k.issues k.fences calls.1.1.1 g
agrees_next x m s journal a (event.Place seq place.Memory) calls next g =
    let k = keeps_placing m s (look_of s (pei_id a seq)) in agrees_moved m s (next_state m s a (event.Place seq place.Memory)) journal a (event.Place seq place.Memory) seq phase.MemoryPlaced (moves_place_memory seq) (ap (map (with_phase (pei_id a seq) phase.MemoryPlaced)) k.peis) k.issues k.fences calls.1.1.1 g
agrees_next x m s journal a (event.Read seq) calls next g =
    let k = keeps_reading m s (look_of s (pei_id a seq)) in agrees_moved m s (next_state m s a (event.Read seq)) journal a (event.Read seq) seq phase.Read (moves_read seq) (ap (map (with_phase (pei_id a seq) phase.Read)) k.peis) k.issues k.fences calls.1.1.1 g
agrees_next x m s journal a (event.Seal seq vault) calls next g =
    agrees_moved m s (next_state m s a (event.Seal seq vault)) journal a (event.Seal seq vault) seq phase.Sealed (moves_seal seq vault) refl refl refl calls.1.1.1 g
agrees_next x m s journal a (event.Act seq reply) calls next g =
    let k = keeps_acting m s (look_of s (pei_id a seq)) in agrees_moved m s (next_state m s a (event.Act seq reply)) journal a (event.Act seq reply) seq phase.Acted (moves_act seq reply) (ap (map (with_phase (pei_id a seq) phase.Acted)) k.peis) k.issues k.fences calls.1.1.1 g

-- ---- the start

pub agrees_at_start : (m : MachineSpec) → Agrees m (start_state m) []
agrees_at_start m =
    record {
      unfinished = refl;
      tracked = tt;
      counts = λ c. none_of m.cores c.0;
      fences = λ c. no_fence m.cores c.0;
      cores_counted = length-replicate m.cores 0;
      cores_fenced = length-replicate m.cores None;
      unnamed = λ id h. refl;
      ordered = λ i j d h k. absurd (omega (arith, k));
      left_acted = λ id h. absurd (cc h);
      left_gone = λ id h. refl;
    }
  where
    none_of : (n i : ℕ) → slice_index (replicate n 0) i ≡ 0
    none_of zero i = refl
    none_of (suc n) zero = refl
    none_of (suc n) (suc i) = none_of n i

    no_fence : (n i : ℕ) → get_or {A = Option (List PeiId)} (replicate n None) i None ≡ None
    no_fence zero i = refl
    no_fence (suc n) zero = refl
    no_fence (suc n) (suc i) = no_fence n i

agrees_from : (m : MachineSpec) (past rest : List Event) → EachFrom (IsTrackable m) past rest → Agrees m (state_after m past) past → Agrees m (state_after m (past ++ rest)) (past ++ rest)
agrees_from m past [] h g = rw (append-nil past) g
agrees_from m past (e ∷ rest) h g =
    subst (λ journal. Agrees m (state_after m journal) journal) (append_assoc past (e ∷ []) rest)
    (agrees_from m (past ++ e ∷ []) rest h.1
    (subst (λ s. Agrees m s (past ++ e ∷ [])) (sym (state_after-push m past e)) (agrees_next h.0.0 m (state_after m past) past e.actor e.kind h.0.1 h.0.2 g)))

-- the state after a journal agrees with it
pub agrees_after : (m : MachineSpec) (journal : List Event) → EachEvent (IsTrackable m) journal → Agrees m (state_after m journal) journal
agrees_after m journal h = agrees_from m [] journal (from_of_each (IsTrackable m) journal h) (agrees_at_start m)

-- a guard numbers an issue rightly
pub guard_numbers : (m : MachineSpec) (s : State) (a : Actor) (kind : EventKind) → IsTrue (guard m s a kind) → IsTrue (issues_next s a kind)
guard_numbers m s a (event.Issue seq lane o b operands) h = (and_parts (is_lane (free_lane m s a.core) lane) (eqb seq (slice_index s.issues a.core.0)) h).1
guard_numbers m s a _ h = refl

-- so it is on a journal of the machine alone
pub machine_trackable : (m : MachineSpec) (image : Contents) (journal : List Event) → MachineLegal m image journal → EachEvent (IsTrackable m) journal
machine_trackable m image journal h before rest e same =
    let some = h before rest e same
    in (some.0, some.1.flat.calls, guard_numbers m (state_after m before) e.actor e.kind some.1.guarded)
