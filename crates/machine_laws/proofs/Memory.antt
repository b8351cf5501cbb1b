-- Caches, vaults and buffers that hold memory, event by event.
use Rattle.std.proofs.Common.{◌≡◌, ℕ, false, List, [], ◌∷◌, ◌++◌, IsTrue, refl, sym, subst}
use Rattle.std.proofs.lemmas.List.{append_assoc, append-nil}
use Rattle.pei_types.specs.declared.identifiers.Actor.{Actor}
use Rattle.pei_types.specs.declared.identifiers.Block.{Block}
use Rattle.pei_types.specs.declared.identifiers.BlockNo.{BlockNo}
use Rattle.pei_types.specs.declared.inflight_looks.PeiLook.{PeiLook}
use Rattle.pei_types.specs.declared.inflight_looks.Phase.TheVariants as phase
use Rattle.pei_types.specs.declared.events.Event.{Event}
use Rattle.pei_types.specs.declared.events.EventKind.{EventKind}
use Rattle.pei_types.specs.declared.events.EventKind.TheVariants as event
use Rattle.pei_types.specs.declared.machines.MachineSpec.{MachineSpec}
use Rattle.pei_types.specs.Calls.{Messages, is_actor_of, side_of}
use Rattle.pei_types.specs.MachineState.{State, start_state, next_state, state_after}
use Rattle.pei_types.specs.Core.{CoreNext}
use Rattle.pei_types.specs.FlatMemory.{flat_block}
use Rattle.pei_types.specs.Guard.{guard}
use Rattle.pei_types.specs.History.{fold_from}
use Rattle.pei_types.specs.Legal.{MachineLegal, MeetsAll}
use Rattle.pei_types.specs.Program.{Contents, block_at}
use Rattle.pei_types.specs.Turns.{IsNextOf}
use Rattle.pei_types.proofs.Histories.{each_prefix}
use Rattle.pei_types.proofs.Pushes.{state_after-push}
use Rattle.history_laws.specs.TrackedPeis.{IsTracked}
use Rattle.coherence_laws.specs.Data.{next_data, next_flat, start_data, SameWhereThere}
use Rattle.coherence_laws.specs.Holdings.{Holdings, Follows, data_of, start_holdings, next_holdings}
use Rattle.coherence_laws.specs.Invariants.{Invariants, IsAsIssued}
use Rattle.coherence_laws.specs.Laws.{IsNoRace, PeisAreAsIssued, KeepsInvariants, KeepsContents, TurnsAreAllowed, FollowsContents, FlatMemoryGoesOn, HoldsFlatMemory}
use Rattle.coherence_laws.specs.Sets.{Each}
use Rattle.machine_laws.specs.Memory.{HoldsMemory, SameHoldings, seen_block, holdings_after}
use Rattle.machine_laws.specs.InOrder.{MachineInOrder}

-- lines follow the state and their own contents
pub follow_themselves : (m : MachineSpec) (s : State) (k : Holdings) (memory : BlockNo → Block) → HoldsMemory m s k memory → Follows m s k (data_of m k)
follow_themselves m s k memory h =
    record { l1 = h.l1; llc = h.llc; copies = λ c b e. refl; lines = λ b e. refl; vaults = λ b. refl; buffers = λ id. refl }

pub memory_at_start : FollowsContents → KeepsInvariants → HoldsFlatMemory → (m : MachineSpec) (image : Contents) → HoldsMemory m (start_state m) (start_holdings m image) (block_at image)
memory_at_start follows keeps flat m image =
    let f = follows.start m image
    in record {
      l1 = f.l1;
      llc = f.llc;
      current = follows.holds m (start_state m) (start_holdings m image) (start_data image) (block_at image) (keeps.start m) f (flat.holds m image [] (λ before rest e same. absurd (no_event before rest e same)));
      buffers = tt;
    }
  where
    no_event : (before rest : List Event) (e : Event) → [] ≡ before ++ e ∷ rest → ⊥
    no_event [] rest e same = absurd (cc same)
    no_event (x ∷ before) rest e same = absurd (cc same)

-- ---- one event

pub memory_next : KeepsInvariants → KeepsContents → FollowsContents → (m : MachineSpec) (s : State) (k : Holdings) (memory : BlockNo → Block) (a : Actor) (kind : EventKind) → Invariants m s → IsTrue (is_actor_of m a) → IsTrue (guard m s a kind) → IsNoRace s kind → HoldsMemory m s k memory → HoldsMemory m (next_state m s a kind) (next_holdings m s k a kind) (next_flat s memory a kind)
memory_next keeps contents follows m s k memory a kind i own ok alone h =
    let f = follows.next m s k (data_of m k) a kind i own ok (follow_themselves m s k memory h)
    in let after = keeps.next m s a kind i own ok
    in record {
      l1 = f.l1;
      llc = f.llc;
      current = follows.holds m (next_state m s a kind) (next_holdings m s k a kind) (next_data m s (data_of m k) a kind) (next_flat s memory a kind) after f (contents.next m s (data_of m k) memory a kind i own ok h.current);
      buffers = follows.buffers m (next_state m s a kind) (next_holdings m s k a kind) (next_data m s (data_of m k) a kind) (next_flat s memory a kind) f (contents.buffers m s (data_of m k) memory a kind i ok alone h.current h.buffers);
    }

-- an issue, into any lane, under any name
pub memory_issued : KeepsContents → (m : MachineSpec) (s : State) (k : Holdings) (memory : BlockNo → Block) (new : PeiLook) (counts : List ℕ) → new.phase ≡ phase.Issued → HoldsMemory m s k memory → HoldsMemory m (record s { peis = s.peis ++ new ∷ []; issues = counts }) k memory
memory_issued contents m s k memory new counts issued h =
    let after = contents.issued m s (data_of m k) memory new counts issued h.current h.buffers
    in record { l1 = h.l1; llc = h.llc; current = after.0; buffers = after.1 }

-- a message
message_alone : (s : State) (kind : EventKind) → side_of kind ≡ Messages → IsNoRace s kind
message_alone s (event.Load addr value) message = absurd (cc message)
message_alone s (event.Store addr value) message = absurd (cc message)
message_alone s _ message = tt

message_changes_none : (s : State) (memory : BlockNo → Block) (a : Actor) (kind : EventKind) → side_of kind ≡ Messages → next_flat s memory a kind ≡ memory
message_changes_none s memory a (event.Store addr value) message = absurd (cc message)
message_changes_none s memory a (event.Act seq reply) message = absurd (cc message)
message_changes_none s memory a _ message = refl

pub memory_message : KeepsInvariants → KeepsContents → FollowsContents → (m : MachineSpec) (s : State) (k : Holdings) (memory : BlockNo → Block) (a : Actor) (kind : EventKind) → side_of kind ≡ Messages → Invariants m s → IsTrue (is_actor_of m a) → IsTrue (guard m s a kind) → HoldsMemory m s k memory → HoldsMemory m (next_state m s a kind) (next_holdings m s k a kind) memory
memory_message keeps contents follows m s k memory a kind message i own ok h =
    subst (HoldsMemory m (next_state m s a kind) (next_holdings m s k a kind)) (message_changes_none s memory a kind message)
    (memory_next keeps contents follows m s k memory a kind i own ok (message_alone s kind message) h)

-- what is seen
pub memory_seen : KeepsContents → (m : MachineSpec) (s : State) (k : Holdings) (memory : BlockNo → Block) (b : BlockNo) → Invariants m s → HoldsMemory m s k memory → seen_block m s k b ≡ memory b
memory_seen contents m s k memory b i h = contents.seen m s (data_of m k) memory b i h.current

-- memory that is the same block by block
memory_same : (m : MachineSpec) (s : State) (k : Holdings) (memory other : BlockNo → Block) → ((b : BlockNo) → other b ≡ memory b) → HoldsMemory m s k memory → HoldsMemory m s k other
memory_same m s k memory other same h = subst (HoldsMemory m s k) (λ i b. sym (same b) i) h

pub memory_shows : KeepsInvariants → KeepsContents → FollowsContents → (m : MachineSpec) (s : State) (k : Holdings) (memory : BlockNo → Block) (a : Actor) (kind : EventKind) (b : BlockNo) → Invariants m s → IsTrue (is_actor_of m a) → IsTrue (guard m s a kind) → IsNoRace s kind → HoldsMemory m s k memory → seen_block m (next_state m s a kind) (next_holdings m s k a kind) b ≡ next_flat s (seen_block m s k) a kind b
memory_shows keeps contents follows m s k memory a kind b i own ok alone h =
    let seen = memory_same m s k memory (seen_block m s k) (λ e. memory_seen contents m s k memory e i h) h
    in memory_seen contents m (next_state m s a kind) (next_holdings m s k a kind) (next_flat s (seen_block m s k) a kind) b (keeps.next m s a kind i own ok)
    (memory_next keeps contents follows m s k (seen_block m s k) a kind i own ok alone seen)

-- other buffers where no PEI has read
pub memory_kept : KeepsContents → (m : MachineSpec) (s : State) (k l : Holdings) (memory : BlockNo → Block) → Invariants m s → SameHoldings s k l → HoldsMemory m s k memory → HoldsMemory m s l memory
memory_kept contents m s k l memory i same h =
    let there : SameWhereThere m s (data_of m k) (data_of m l) =
    record {
      copies = λ c b e. rw same.l1 refl;
      lines = λ b e. rw same.llc refl;
      vaults = same.vaults;
      buffers = same.buffers;
    }
    in record {
      l1 = rw same.l1 h.l1;
      llc = rw same.llc h.llc;
      current = contents.same m s (data_of m k) (data_of m l) memory i there h.current;
      buffers = contents.same_buffers m s (data_of m k) (data_of m l) memory there h.buffers;
    }

-- ---- an event of a journal

-- an event that is its actor's next races with nothing
next_alone : TurnsAreAllowed → (x : CoreNext) (m : MachineSpec) (image : Contents) (journal : List Event) (a : Actor) (kind : EventKind) → Invariants m (state_after m journal) → IsNextOf x m image journal a kind → IsNoRace (state_after m journal) kind
next_alone turns x m image journal a (event.Load addr value) i next = (turns.allowed x m image journal a false (event.Load addr value) i (λ p here entering. absurd (cc entering)) next.1).no_race
next_alone turns x m image journal a (event.Store addr value) i next = (turns.allowed x m image journal a false (event.Store addr value) i (λ p here entering. absurd (cc entering)) next.1).no_race
next_alone turns x m image journal a _ i next = tt

-- the laws that a step rests on
pub record Laws : Type 0 where
  pub keeps : KeepsInvariants
  pub turns : TurnsAreAllowed
  pub contents : KeepsContents
  pub follows : FollowsContents
  pub goes : FlatMemoryGoesOn

step : Laws → (x : CoreNext) (m : MachineSpec) (image : Contents) (journal : List Event) (k : Holdings) (e : Event) → Invariants m (state_after m journal) → PeisAreAsIssued m journal → MeetsAll x m image journal e → HoldsMemory m (state_after m journal) k (flat_block image journal) → HoldsMemory m (state_after m (journal ++ e ∷ [])) (next_holdings m (state_after m journal) k e.actor e.kind) (flat_block image (journal ++ e ∷ []))
step laws x m image journal k e i issued meets h =
    let s : State = state_after m journal
    in subst (λ t. HoldsMemory m t (next_holdings m (state_after m journal) k e.actor e.kind) (flat_block image (journal ++ e ∷ []))) (sym (state_after-push m journal e))
    (memory_same m (next_state m s e.actor e.kind) (next_holdings m s k e.actor e.kind) (next_flat s (flat_block image journal) e.actor e.kind) (flat_block image (journal ++ e ∷ []))
    (λ b. laws.goes m image journal e.actor e.kind b issued meets.guarded)
    (memory_next laws.keeps laws.contents laws.follows m s k (flat_block image journal) e.actor e.kind i meets.flat.calls.0 meets.guarded (next_alone laws.turns x m image journal e.actor e.kind i meets.next) h))

-- PEIs of a machine in order are as they were issued
all_found : (journal : List Event) (peis : List PeiLook) → Each (IsTracked journal) peis → Each (IsAsIssued journal) peis
all_found journal [] h = tt
all_found journal (p ∷ peis) h = (h.0.found, all_found journal peis h.1)

pub memory_event : Laws → (x : CoreNext) (m : MachineSpec) (image : Contents) (journal : List Event) (k : Holdings) (e : Event) → MachineInOrder m journal → MeetsAll x m image journal e → HoldsMemory m (state_after m journal) k (flat_block image journal) → HoldsMemory m (state_after m (journal ++ e ∷ [])) (next_holdings m (state_after m journal) k e.actor e.kind) (flat_block image (journal ++ e ∷ []))
memory_event laws x m image journal k e order meets h =
    let s : State = state_after m journal
    in step laws x m image journal k e order.invariants (all_found journal s.peis order.sound.agrees.tracked) meets h

-- ---- whole journals

memory_from : Laws → HoldsFlatMemory → (m : MachineSpec) (image : Contents) (past rest : List Event) (k : Holdings) → MachineLegal m image (past ++ rest) → HoldsMemory m (state_after m past) k (flat_block image past) → HoldsMemory m (state_after m (past ++ rest)) (fold_from (λ before l e. next_holdings m (state_after m before) l e.actor e.kind) past k rest) (flat_block image (past ++ rest))
memory_from laws flat m image past [] k legal h = rw (append-nil past) h
memory_from laws flat m image past (e ∷ rest) k legal h =
    let before : MachineLegal m image past = each_prefix _ past (e ∷ rest) legal
    in let met = legal past rest e refl
    in let longer : past ++ e ∷ rest ≡ (past ++ e ∷ []) ++ rest = sym (append_assoc past (e ∷ []) rest)
    in subst (λ events. HoldsMemory m (state_after m events) (fold_from (λ before l x. next_holdings m (state_after m before) l x.actor x.kind) past k (e ∷ rest)) (flat_block image events)) (sym longer)
    (memory_from laws flat m image (past ++ e ∷ []) rest (next_holdings m (state_after m past) k e.actor e.kind) (subst (MachineLegal m image) longer legal)
    (step laws met.0 m image past k e (laws.keeps.alone m image past before) (flat.as_issued m image past before) met.1 h))

pub memory_journal : Laws → HoldsFlatMemory → (m : MachineSpec) (image : Contents) (journal : List Event) → MachineLegal m image journal → HoldsMemory m (state_after m journal) (holdings_after m image journal) (flat_block image journal)
memory_journal laws flat m image journal legal = memory_from laws flat m image [] journal (start_holdings m image) legal (memory_at_start laws.follows laws.keeps flat m image)
