-- The laws of this crate.
use Rattle.std.specs.Prelude.{true, false, ◌≡◌, ◌↔◌, ℕ, ◌<◌, ◌≤◌, length, slice_index_or, Bool, not, ◌&&◌, IsTrue, List, [], ◌∷◌, ◌++◌, map, filter, find, Some, None, option_map}
use Rattle.std.specs.List.{list_all, AllPairs}
use Rattle.pei_types.specs.declared.identifiers.Actor.{Actor}
use Rattle.pei_types.specs.declared.identifiers.BlockNo.{BlockNo}
use Rattle.pei_types.specs.declared.identifiers.CoreId.{CoreId}
use Rattle.pei_types.specs.declared.identifiers.PeiId.{PeiId}
use Rattle.pei_types.specs.declared.inflight_looks.PeiLook.{PeiLook}
use Rattle.pei_types.specs.declared.inflight_looks.Phase.{Phase}
use Rattle.pei_types.specs.declared.inflight_looks.Phase.TheVariants as phase
use Rattle.pei_types.specs.declared.operations.Mode.{Mode}
use Rattle.pei_types.specs.declared.events.Event.{Event}
use Rattle.pei_types.specs.declared.events.EventKind.{EventKind}
use Rattle.pei_types.specs.declared.events.EventKind.TheVariants as event
use Rattle.pei_types.specs.declared.machines.MachineSpec.{MachineSpec}
use Rattle.pei_types.specs.Blocks.{entry_of, same_core, same_pei, same_lane}
use Rattle.pei_types.specs.Calls.{AnswersCall, all_left, is_actor_of, FollowsPei, follows_phase}
use Rattle.pei_types.specs.MachineState.{State, entry_is_taken, start_state, next_state, state_after, conflict, first_unentered, first_unfinished, fence_of, look_in, look_of, pei_id}
use Rattle.pei_types.specs.Core.{CoreNext, next_of_core}
use Rattle.pei_types.specs.Exclusion.{conflicts, EntersAlone}
use Rattle.pei_types.specs.Fence.{earlier_writers_left}
use Rattle.pei_types.specs.History.{Pei, pei_of, phase_of, issued_peis, has_entered, unfinished_peis, active_peis, entered_peis}
use Rattle.pei_types.specs.Legal.{EachEvent, Legal, MachineLegal, FlatLegal, MeetsFlat, MeetsAll}
use Rattle.pei_types.specs.Guard.{guard}
use Rattle.pei_types.specs.StateClauses.{PlacesByMonitor}
use Rattle.pei_types.specs.Turns.{IsNextOf}
use Rattle.pei_types.specs.Operation.{mode_of}
use Rattle.pei_types.specs.Program.{Listing, Contents}
use Rattle.pei_types.specs.Race.{racing_pei}
use Rattle.pei_types.specs.Schedule.{Run, run_at_start, turn, Policy, LaneClaim, Held, whole_table, scheduled_run, round_robin, serial, by_draws, by_list}
use Rattle.pei_types.specs.Claims.{Claims, no_claims}
use Rattle.history_laws.specs.EntryOrder.{LanesApart}
use Rattle.history_laws.specs.Holders.{claim_at, counted, holds_entry, waits_on, Holding}
use Rattle.history_laws.specs.Members.{In}
use Rattle.history_laws.specs.TrackedPeis.{as_issued, is_past_issue, fence_is_on, IsTracked, Agrees, issues_next, IsTrackable}
use Rattle.history_laws.specs.Fits.{Fits, AsksForFence, EntersFree}
use Rattle.history_laws.specs.Runs.{WholeRun}
use Rattle.history_laws.specs.Sound.{Sound, IsSoundEvent, SoundRun, ChoosesActors, IssuesUnfenced, GoesByRow, MeetsState}

-- The state after a journal agrees with its history, where each event answers some call of its core or is its PEI's
-- next, and numbers an issue rightly. So it is on each journal of the machine alone.
pub record StatesAgree : Type 0 where
  pub start : (m : MachineSpec) → Agrees m (start_state m) []
  pub next : (x : CoreNext) (m : MachineSpec) (s : State) (journal : List Event) (a : Actor) (kind : EventKind) → AnswersCall x m journal a kind → IsTrue (issues_next s a kind) → Agrees m s journal → Agrees m (next_state m s a kind) (journal ++ record { actor = a; kind = kind } ∷ [])
  pub after : (m : MachineSpec) (journal : List Event) → EachEvent (IsTrackable m) journal → Agrees m (state_after m journal) journal
  pub alone : (m : MachineSpec) (image : Contents) (journal : List Event) → MachineLegal m image journal → EachEvent (IsTrackable m) journal

-- What a state that agrees with a history tells of it.
pub record AgreementTells : Type 0 where
  pub races : (m : MachineSpec) (s : State) (journal : List Event) → Agrees m s journal → (b : BlockNo) (store : Bool) → conflict s b store ≡ racing_pei journal b store
  pub unfinished : (m : MachineSpec) (s : State) (journal : List Event) → Agrees m s journal → (c : CoreId) → first_unfinished s c ≡ option_map (λ p. p.id) (find (λ p. same_core p.id.core c) (unfinished_peis journal))
  pub unentered : (m : MachineSpec) (s : State) (journal : List Event) → Agrees m s journal → (c : CoreId) → first_unentered s c ≡ option_map (λ p. p.id) (find (λ p. same_core p.id.core c && not (has_entered journal p.id)) (unfinished_peis journal))
  pub active : (m : MachineSpec) (s : State) (journal : List Event) → Agrees m s journal → active_peis journal ≡ map as_issued (filter is_past_issue s.peis)
  pub drained : (m : MachineSpec) (s : State) (journal : List Event) → Agrees m s journal → (c : CoreId) → (first_unfinished s c ≡ None) ↔ IsTrue (all_left journal c)
  pub looks : (m : MachineSpec) (s : State) (journal : List Event) → Agrees m s journal → (l : PeiLook) → In l s.peis → IsTracked journal l
  pub one : (m : MachineSpec) (s : State) (journal : List Event) → Agrees m s journal → (k l : PeiLook) → In k s.peis → In l s.peis → k.id ≡ l.id → k ≡ l
  pub distinct : (m : MachineSpec) (s : State) (journal : List Event) → Agrees m s journal → AllPairs (λ p q. same_pei p.id q.id ≡ false) (issued_peis journal)
  pub found : (m : MachineSpec) (s : State) (journal : List Event) → Agrees m s journal → (id : PeiId) (p : Pei) (ph : Phase) → pei_of journal id ≡ Some p → phase_of journal id ≡ Some ph → (l : PeiLook) × (look_of s id ≡ Some l) × (as_issued l ≡ p) × (l.phase ≡ ph)
  pub lost : (m : MachineSpec) (s : State) (journal : List Event) → Agrees m s journal → (id : PeiId) → phase_of journal id ≡ None → look_of s id ≡ None
  pub follows : (m : MachineSpec) (s : State) (journal : List Event) → Agrees m s journal → (a : Actor) (kind : EventKind) (seq : ℕ) → FollowsPei journal a kind seq → (l : PeiLook) × (look_of s (pei_id a seq) ≡ Some l) × (same_lane l.lane a.lane ≡ true) × (follows_phase l.phase kind ≡ true)
  pub fence : (m : MachineSpec) (s : State) (journal : List Event) → Agrees m s journal → (c : CoreId) → fence_is_on c journal ≡ true → (fence_of s c ≡ Some []) ↔ IsTrue (earlier_writers_left journal c)

-- Exclusion, in a state that agrees with a history. No active PEI of the history conflicts with a PEI on its way exactly
-- where the PEI's entry is not taken in the state; so it is where none of the PEIs with an Enter and no Leave does, in the order of
-- their Enter events. Where no two PEIs of a core are in one lane, a PEI that is to enter next in its lane enters alone in the
-- history exactly where it enters free in the state.
pub record ExclusionTells : Type 0 where
  pub active : (m : MachineSpec) (s : State) (journal : List Event) (l : PeiLook) → Agrees m s journal → IsTrue (list_all (λ q. not (conflicts m l.block l.op q.block q.op)) (active_peis journal)) ↔ (entry_is_taken m s l ≡ false)
  pub entered : (m : MachineSpec) (s : State) (journal : List Event) (l : PeiLook) → Agrees m s journal → IsTrue (list_all (λ q. not (conflicts m l.block l.op q.block q.op)) (entered_peis journal)) → entry_is_taken m s l ≡ false
  pub alone : (m : MachineSpec) (s : State) (journal : List Event) (a : Actor) (seq : ℕ) → Agrees m s journal → LanesApart s → FollowsPei journal a (event.Enter seq) seq → EntersAlone m journal a (event.Enter seq) ↔ EntersFree m s a (event.Enter seq)

-- Sound journals grow by sound events; an event that fits its actor is one.
pub record SoundGrows : Type 0 where
  pub start : (m : MachineSpec) → Sound m []
  pub next : (m : MachineSpec) (journal : List Event) (e : Event) → IsSoundEvent m journal e → Sound m journal → Sound m (journal ++ e ∷ [])
  pub fits : (x : CoreNext) (m : MachineSpec) (image : Contents) (journal : List Event) (a : Actor) (kind : EventKind) → Sound m journal → AsksForFence x journal a.core → Fits x m image journal (state_after m journal) a kind → IsSoundEvent m journal (record { actor = a; kind = kind })

-- An event that fits its actor meets each clause on the flat machine.
pub record FittingMeets : Type 0 where
  pub flat : (x : CoreNext) (m : MachineSpec) (image : Contents) (journal : List Event) (a : Actor) (kind : EventKind) → Sound m journal → Fits x m image journal (state_after m journal) a kind → MeetsFlat x m image journal (record { actor = a; kind = kind })

-- A core whose fence is on goes on asking for it, whatever happens; so a run goes on by an event that fits its actor.
pub record RunsGoOn : Type 0 where
  pub asks : (p : Listing) (m : MachineSpec) (image : Contents) (journal : List Event) (a : Actor) (kind : EventKind) → AnswersCall (next_of_core p m image journal a.core) m journal a kind → ((c : CoreId) → AsksForFence (next_of_core p m image journal c) journal c) → (c : CoreId) → AsksForFence (next_of_core p m image (journal ++ record { actor = a; kind = kind } ∷ []) c) (journal ++ record { actor = a; kind = kind } ∷ []) c
  pub start : (p : Listing) (m : MachineSpec) (image : Contents) → SoundRun p m image []
  pub next : (p : Listing) (m : MachineSpec) (image : Contents) (journal : List Event) (a : Actor) (kind : EventKind) → Fits (next_of_core p m image journal a.core) m image journal (state_after m journal) a kind → SoundRun p m image journal → SoundRun p m image (journal ++ record { actor = a; kind = kind } ∷ [])

-- The built-in policies give turns only to actors of the machine, and so does a list of such actors.
pub record PoliciesChooseActors : Type 0 where
  pub turns : (m : MachineSpec) → ChoosesActors m (round_robin m)
  pub serial : (m : MachineSpec) → ChoosesActors m (serial m)
  pub draws : (m : MachineSpec) (f : ℕ → ℕ) → ChoosesActors m (by_draws m f)
  pub lists : (m : MachineSpec) (list : List Actor) → IsTrue (list_all (is_actor_of m) list) → ChoosesActors m (by_list list)

-- A legal journal is that of a sound run; one of the machine alone is sound where no core issues while its fence is on.
pub record JournalsAreSound : Type 0 where
  pub legal : (p : Listing) (m : MachineSpec) (image : Contents) (journal : List Event) → Legal p m image journal → SoundRun p m image journal
  pub alone : (m : MachineSpec) (image : Contents) (journal : List Event) → MachineLegal m image journal → EachEvent (λ before e. IssuesUnfenced before e.actor e.kind) journal → Sound m journal
  pub guarded : (x : CoreNext) (m : MachineSpec) (journal : List Event) (e : Event) → AnswersCall x m journal e.actor e.kind → IsTrue (guard m (state_after m journal) e.actor e.kind) → IssuesUnfenced journal e.actor e.kind → Sound m journal → IsSoundEvent m journal e

-- The next event of an actor of the whole machine fits it and meets each clause on the flat machine, where x is what
-- its core does next, and a PEI that enters finds its entry free. The journal stays sound where the core goes on asking
-- for a fence that is on.
pub record NextEventsMeet : Type 0 where
  pub fits : (x : CoreNext) (m : MachineSpec) (image : Contents) (journal : List Event) (a : Actor) (kind : EventKind) → IsTrue (is_actor_of m a) → EntersFree m (state_after m journal) a kind → IsNextOf x m image journal a kind → Fits x m image journal (state_after m journal) a kind
  pub flat : (x : CoreNext) (m : MachineSpec) (image : Contents) (journal : List Event) (a : Actor) (kind : EventKind) → Sound m journal → IsTrue (is_actor_of m a) → EntersFree m (state_after m journal) a kind → IsNextOf x m image journal a kind → MeetsFlat x m image journal (record { actor = a; kind = kind })
  pub sound : (x : CoreNext) (m : MachineSpec) (image : Contents) (journal : List Event) (a : Actor) (kind : EventKind) → Sound m journal → IsTrue (is_actor_of m a) → EntersFree m (state_after m journal) a kind → AsksForFence x journal a.core → IsNextOf x m image journal a kind → Sound m (journal ++ record { actor = a; kind = kind } ∷ [])

-- A run of the whole machine starts sound, with a directory that counts who holds what, and a turn of an actor of the
-- machine keeps it so while the journal has room. So every scheduled run is legal on the flat machine too, by any policy
-- that chooses the machine's actors; each of its events is its actor's next row; and a PEI that has not entered finds its
-- entry free where it, or its lane, holds it.
pub record WholeRunsAreLegal : Type 0 where
  pub start : (p : Listing) (m : MachineSpec) (image : Contents) → WholeRun p m image (run_at_start m)
  pub step : (p : Listing) (m : MachineSpec) (image : Contents) (r : Run) (a : Actor) → IsTrue (is_actor_of m a) → length r.journal < m.events → WholeRun p m image r → WholeRun p m image (turn (whole_table m image) p m image r a)
  pub legal : (p : Listing) (m : MachineSpec) (image : Contents) (policy : Policy) (n : ℕ) → ChoosesActors m policy → FlatLegal p m image (scheduled_run (whole_table m image) p m image policy n).journal
  pub sound : (p : Listing) (m : MachineSpec) (image : Contents) (policy : Policy) (n : ℕ) → ChoosesActors m policy → SoundRun p m image (scheduled_run (whole_table m image) p m image policy n).journal
  pub rows : (p : Listing) (m : MachineSpec) (image : Contents) (policy : Policy) (n : ℕ) → ChoosesActors m policy → EachEvent (GoesByRow p m image) (scheduled_run (whole_table m image) p m image policy n).journal
  pub counts : (p : Listing) (m : MachineSpec) (image : Contents) (policy : Policy) (n : ℕ) → ChoosesActors m policy → Holding m (state_after m (scheduled_run (whole_table m image) p m image policy n).journal) (scheduled_run (whole_table m image) p m image policy n).entries (scheduled_run (whole_table m image) p m image policy n).claims
  pub free : (m : MachineSpec) (s : State) (entries : List Claims) (claims : List (List LaneClaim)) (p : PeiLook) → In p s.peis → is_past_issue p ≡ false → claim_at claims p.id.core.0 p.lane.0 ≡ Held (entry_of m p.block) (mode_of p.op) → Holding m s entries claims → entry_is_taken m s p ≡ false
  pub enters : (m : MachineSpec) (s : State) (entries : List Claims) (claims : List (List LaneClaim)) (a : Actor) (kind : EventKind) (l : PeiLook) (at : ℕ) (k : Mode) → Holding m s entries claims → look_in s a.core a.lane ≡ Some l → l.phase ≡ phase.Issued → claim_at claims a.core.0 a.lane.0 ≡ Held at k → EntersFree m s a kind

-- What the counts of a directory's entries tell: where a lane holds an entry, or waits for it, the count is not 0; and none is
-- above 40, the most lanes and programs that a machine has.
pub record HoldingTells : Type 0 where
  pub held : (m : MachineSpec) (s : State) (entries : List Claims) (claims : List (List LaneClaim)) → Holding m s entries claims → (c l e : ℕ) (k : Mode) → holds_entry e k (claim_at claims c l) ≡ true → 0 < counted k (slice_index_or entries e no_claims)
  pub waits : (m : MachineSpec) (s : State) (entries : List Claims) (claims : List (List LaneClaim)) → Holding m s entries claims → (c l e : ℕ) → e < m.directory → waits_on e (claim_at claims c l) ≡ true → 0 < (slice_index_or entries e no_claims).waiting
  pub few : (m : MachineSpec) (s : State) (entries : List Claims) (claims : List (List LaneClaim)) → Holding m s entries claims → (e : ℕ) (k : Mode) → e < m.directory → counted k (slice_index_or entries e no_claims) ≤ 40
  pub few_wait : (m : MachineSpec) (s : State) (entries : List Claims) (claims : List (List LaneClaim)) → Holding m s entries claims → (e : ℕ) → e < m.directory → (slice_index_or entries e no_claims).waiting ≤ 40

-- What is left of a legal journal is the state's: the next event of an actor meets all clauses, and a journal that goes
-- by rows is legal, where each event meets the guard, recency and seal.
pub record RestIsState : Type 0 where
  pub monitor : (x : CoreNext) (m : MachineSpec) (image : Contents) (journal : List Event) (a : Actor) (kind : EventKind) → Sound m journal → IsTrue (is_actor_of m a) → IsNextOf x m image journal a kind → PlacesByMonitor m (state_after m journal) a kind
  pub all : (x : CoreNext) (m : MachineSpec) (image : Contents) (journal : List Event) (a : Actor) (kind : EventKind) → Sound m journal → IsTrue (is_actor_of m a) → EntersFree m (state_after m journal) a kind → IsNextOf x m image journal a kind → MeetsState m journal (record { actor = a; kind = kind }) → MeetsAll x m image journal (record { actor = a; kind = kind })
  pub legal : (p : Listing) (m : MachineSpec) (image : Contents) (journal : List Event) → EachEvent (GoesByRow p m image) journal → EachEvent (MeetsState m) journal → Legal p m image journal
