-- States that are alike but for counts and fences.
use Rattle.std.proofs.Common.{◌≡◌, ℕ, suc, Bool, true, false, List, map, slice_set, Option, Some, None, option_map, refl, sym, ◌∙◌, ap, subst}
use Rattle.std.specs.Prelude.{if◌then◌else◌}
use Rattle.pei_types.specs.declared.identifiers.Actor.{Actor}
use Rattle.pei_types.specs.declared.identifiers.Block.{Block}
use Rattle.pei_types.specs.declared.identifiers.BlockNo.{BlockNo}
use Rattle.pei_types.specs.declared.identifiers.PeiId.{PeiId}
use Rattle.pei_types.specs.declared.operations.Letter.{Letter}
use Rattle.pei_types.specs.declared.operations.Letter.TheVariants as letter
use Rattle.pei_types.specs.declared.operations.Place.TheVariants as place
use Rattle.pei_types.specs.declared.inflight_looks.PeiLook.{PeiLook}
use Rattle.pei_types.specs.declared.inflight_looks.Phase.{Phase}
use Rattle.pei_types.specs.declared.inflight_looks.Phase.TheVariants as phase
use Rattle.pei_types.specs.declared.events.EventKind.{EventKind}
use Rattle.pei_types.specs.declared.events.EventKind.TheVariants as event
use Rattle.pei_types.specs.declared.machines.MachineSpec.{MachineSpec}
use Rattle.pei_types.specs.Blocks.{same_pei}
use Rattle.pei_types.specs.MachineState.{State, next_state, look_of, letter_of, pei_id, in_phase, with_l1_front, after_placing, after_reading, after_acting, after_acting_in, after_taking_back, unfinished_writers, without_l1_line, with_l1_shared}
use Rattle.pei_types.specs.Operation.{is_writer}
use Rattle.pei_types.specs.Recency.{change_at, without}
use Rattle.coherence_laws.specs.Data.{next_flat}
use Rattle.fabric.specs.Likeness.{AreAlike, IsAfter}
use Rattle.fabric.specs.Moves.{after_event}
use Rattle.fabric.specs.Whole.{Whole}

abbrev Counts : Type 0
Counts = List ℕ

abbrev Fences : Type 0
Fences = List (Option (List PeiId))

-- a state with other counts and fences
abbrev patched : State → Counts → Fences → State
patched t i f = record t { issues = i; fences = f }

taking : (m : MachineSpec) (s : State) (i : Counts) (f : Fences) (b : BlockNo) (l : Letter) → after_taking_back m (patched s i f) b l ≡ patched (after_taking_back m s b l) i f
taking m s i f b letter.M = refl
taking m s i f b letter.E = refl
taking m s i f b letter.S = refl
taking m s i f b letter.I = refl

placing : (m : MachineSpec) (s : State) (i : Counts) (f : Fences) (o : Option PeiLook) → after_placing m (patched s i f) o ≡ patched (after_placing m s o) i f
placing m s i f None = refl
placing m s i f (Some p) = refl

reading : (m : MachineSpec) (s : State) (i : Counts) (f : Fences) (o : Option PeiLook) → after_reading m (patched s i f) o ≡ patched (after_reading m s o) i f
reading m s i f None = refl
reading m s i f (Some p) = refl

acting_in : (m : MachineSpec) (s : State) (i : Counts) (f : Fences) (p : PeiLook) (ph : Phase) → after_acting_in m (patched s i f) p ph ≡ patched (after_acting_in m s p ph) i f
acting_in m s i f p phase.Read = by (is_writer p.op)
  where
    by : (w : Bool) → (if w then with_l1_front m (patched s i f) p.id.core p.block letter.M else patched s i f) ≡ patched (if w then with_l1_front m s p.id.core p.block letter.M else s) i f
    by true = refl
    by false = refl
acting_in m s i f p phase.Sealed = refl
acting_in m s i f p phase.Issued = refl
acting_in m s i f p phase.Entered = refl
acting_in m s i f p phase.HostPlaced = refl
acting_in m s i f p phase.MemoryPlaced = refl
acting_in m s i f p phase.Acted = refl

acting : (m : MachineSpec) (s : State) (i : Counts) (f : Fences) (o : Option PeiLook) → after_acting m (patched s i f) o ≡ patched (after_acting m s o) i f
acting m s i f None = refl
acting m s i f (Some p) = acting_in m s i f p p.phase

abbrev Patches : State → State → Type 0
Patches s t = (i : Counts) × (f : Fences) × (s ≡ patched t i f)

patched_next : (m : MachineSpec) (s : State) (i : Counts) (f : Fences) (a : Actor) (kind : EventKind) → Patches (next_state m (patched s i f) a kind) (next_state m s a kind)
patched_next m s i f a (event.Issue seq lane o b operands) = (change_at i a.core.0 suc, f, refl)
patched_next m s i f a event.FenceBegin = (i, slice_set f a.core.0 (Some (unfinished_writers s)), refl)
patched_next m s i f a event.FenceEnd = (i, slice_set f a.core.0 None, refl)
patched_next m s i f a (event.Leave seq) = (i, map (option_map (without (λ q. same_pei q (pei_id a seq)))) f, refl)
patched_next m s i f a (event.Place seq place.Host) = (i, f, ap (λ t. in_phase t (pei_id a seq) phase.HostPlaced) (placing m s i f (look_of s (pei_id a seq))))
patched_next m s i f a (event.Place seq place.Memory) = (i, f, ap (λ t. in_phase t (pei_id a seq) phase.MemoryPlaced) (placing m s i f (look_of s (pei_id a seq))))
patched_next m s i f a (event.Read seq) = (i, f, ap (λ t. in_phase t (pei_id a seq) phase.Read) (reading m s i f (look_of s (pei_id a seq))))
patched_next m s i f a (event.Act seq reply) = (i, f, ap (λ t. in_phase t (pei_id a seq) phase.Acted) (acting m s i f (look_of s (pei_id a seq))))
patched_next m s i f a (event.Invalidate c b) = (i, f, ap (λ t. without_l1_line m t c b) (taking m s i f b (letter_of m s c b)))
patched_next m s i f a (event.Downgrade c b) = (i, f, ap (λ t. with_l1_shared m t c b) (taking m s i f b (letter_of m s c b)))
patched_next m s i f a (event.EvictL1 c b) = (i, f, ap (λ t. without_l1_line m t c b) (taking m s i f b (letter_of m s c b)))
patched_next m s i f a _ = (i, f, refl)

-- states that are alike differ in counts and fences alone
patches : (s t : State) → AreAlike s t → s ≡ patched t s.issues s.fences
patches s t h =
    ap (λ x. record s { l1 = x }) h.l1
    ∙ ap (λ x. record s { l1 = t.l1; llc = x }) h.llc
    ∙ ap (λ x. record s { l1 = t.l1; llc = t.llc; monitor = x }) h.monitor
    ∙ ap (λ x. record s { l1 = t.l1; llc = t.llc; monitor = t.monitor; peis = x }) h.peis
    ∙ ap (λ x. record s { l1 = t.l1; llc = t.llc; monitor = t.monitor; peis = t.peis; queues = x }) h.queues

alike_patched : (t : State) (i : Counts) (f : Fences) → AreAlike (patched t i f) t
alike_patched t i f = record { l1 = refl; llc = refl; monitor = refl; peis = refl; queues = refl }

pub alike_refl : (s : State) → AreAlike s s
alike_refl s = record { l1 = refl; llc = refl; monitor = refl; peis = refl; queues = refl }

pub alike_trans : (s t u : State) → AreAlike s t → AreAlike t u → AreAlike s u
alike_trans s t u h k = record { l1 = h.l1 ∙ k.l1; llc = h.llc ∙ k.llc; monitor = h.monitor ∙ k.monitor; peis = h.peis ∙ k.peis; queues = h.queues ∙ k.queues }

-- they stay so
pub alike_next : (m : MachineSpec) (s t : State) (a : Actor) (kind : EventKind) → AreAlike s t → AreAlike (next_state m s a kind) (next_state m t a kind)
alike_next m s t a kind h =
    let p = patched_next m t s.issues s.fences a kind
    in subst (λ x. AreAlike x (next_state m t a kind)) (sym (ap (λ x. next_state m x a kind) (patches s t h) ∙ p.2)) (alike_patched (next_state m t a kind) p.0 p.1)

-- what reads neither counts nor fences is the same
pub same_for : {A : Type 0} (read : State → A) → ((t : State) (i : Counts) (f : Fences) → read (record t { issues = i; fences = f }) ≡ read t) → (s t : State) → AreAlike s t → read s ≡ read t
same_for read blind s t h = ap read (patches s t h) ∙ blind t s.issues s.fences

pub alike_flat : (s t : State) (flat : BlockNo → Block) (a : Actor) (kind : EventKind) (b : BlockNo) → AreAlike s t → next_flat s flat a kind b ≡ next_flat t flat a kind b
alike_flat s t flat a (event.Act seq reply) b h = same_for (λ x. next_flat x flat a (event.Act seq reply) b) (λ x i f. refl) s t h
alike_flat s t flat a (event.Store addr value) b h = refl
alike_flat s t flat a _ b h = refl

-- what an event leaves of all parts
pub after_is : (v w : Whole) (a : Actor) (kind : EventKind) → w ≡ after_event v a kind → IsAfter v a kind w
after_is v w a kind is =
    subst (λ x. IsAfter v a kind x) (sym is) (record { machine = refl; memory = refl; state = alike_refl (next_state v.machine v.state a kind) })
