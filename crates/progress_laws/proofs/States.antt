-- What events leave of the PEIs and the fences.
use Rattle.std.proofs.Common.{◌≡◌, Bool, true, false, not, List, [], ◌∷◌, ◌++◌, filter, find, Option, Some, None, refl, ◌∙◌, ap, arith, if◌then◌else◌}
use Rattle.std.specs.Prelude.{◌||◌}
use Rattle.std.proofs.lemmas.Grind.{common_steps}
use Rattle.pei_types.specs.declared.identifiers.Actor.{Actor}
use Rattle.pei_types.specs.declared.identifiers.BlockNo.{BlockNo}
use Rattle.pei_types.specs.declared.identifiers.CoreId.{CoreId}
use Rattle.pei_types.specs.declared.operations.Letter.{Letter}
use Rattle.pei_types.specs.declared.operations.Letter.TheVariants as letter
use Rattle.pei_types.specs.declared.operations.Mark.TheVariants as mark
use Rattle.pei_types.specs.declared.inflight_looks.PeiLook.{PeiLook}
use Rattle.pei_types.specs.declared.inflight_looks.Phase.{Phase}
use Rattle.pei_types.specs.declared.inflight_looks.Phase.TheVariants as phase
use Rattle.pei_types.specs.declared.events.EventKind.{EventKind}
use Rattle.pei_types.specs.declared.events.EventKind.TheVariants as event
use Rattle.pei_types.specs.declared.machines.MachineSpec.{MachineSpec}
use Rattle.pei_types.specs.Blocks.{l1_set_of}
use Rattle.pei_types.specs.Calls.{Messages, side_of}
use Rattle.pei_types.specs.MachineState.{State, Line, LlcLine, next_state, letter_in, letter_of, mark_of, is_ahead, is_absent, is_dirty, is_line_of, l1_set, llc_set, no_other_has, is_sealed, with_llc_mark, with_l1_touch, after_taking_back, after_placing, after_reading, after_acting, after_acting_in, with_l1_front}
use Rattle.pei_types.specs.Next.{holder, other_holder, other_owner, evict, bring_in, grant_shared, grant_modify, grant, make_room, l1_victim, want}
use Rattle.pei_types.specs.Operation.{is_writer}
use Rattle.pei_types.specs.Recency.{change_at, list_at, without, to_front, victim}
use Rattle.progress_laws.proofs.Lists.{list_at-change_here, find-without}

-- the same PEIs and fences
pub record Same (s t : State) : Type 0 where
  pub peis : t.peis ≡ s.peis
  pub fences : t.fences ≡ s.fences

pub same_both : (s t : State) → t.peis ≡ s.peis → t.fences ≡ s.fences → Same s t
same_both s t h k = record { peis = h; fences = k }

taking_keeps : (m : MachineSpec) (s : State) (b : BlockNo) (l : Letter) → Same s (after_taking_back m s b l)
taking_keeps m s b l = go (is_ahead l)
  where
    go : (t : Bool) → Same s (if t then with_llc_mark m s b mark.Dirty else s)
    go true = record { peis = refl; fences = refl }
    go false = record { peis = refl; fences = refl }

-- a message leaves them
pub message_keeps : (m : MachineSpec) (s : State) (a : Actor) (kind : EventKind) → side_of kind ≡ Messages → Same s (next_state m s a kind)
message_keeps m s a (event.Load addr value) h = absurd (cc h)
message_keeps m s a (event.Store addr value) h = absurd (cc h)
message_keeps m s a (event.Issue seq lane o b operands) h = absurd (cc h)
message_keeps m s a event.FenceBegin h = absurd (cc h)
message_keeps m s a event.FenceEnd h = absurd (cc h)
message_keeps m s a (event.Out value) h = absurd (cc h)
message_keeps m s a (event.Race pc b by) h = absurd (cc h)
message_keeps m s a (event.End kind) h = absurd (cc h)
message_keeps m s a (event.Enter seq) h = absurd (cc h)
message_keeps m s a (event.Place seq to) h = absurd (cc h)
message_keeps m s a (event.Read seq) h = absurd (cc h)
message_keeps m s a (event.Seal seq v) h = absurd (cc h)
message_keeps m s a (event.Act seq reply) h = absurd (cc h)
message_keeps m s a (event.Leave seq) h = absurd (cc h)
message_keeps m s a (event.Invalidate c b) h = let k = taking_keeps m s b (letter_of m s c b) in record { peis = k.peis; fences = k.fences }
message_keeps m s a (event.Downgrade c b) h = let k = taking_keeps m s b (letter_of m s c b) in record { peis = k.peis; fences = k.fences }
message_keeps m s a (event.EvictL1 c b) h = let k = taking_keeps m s b (letter_of m s c b) in record { peis = k.peis; fences = k.fences }
message_keeps m s a (event.Clean b) h = record { peis = refl; fences = refl }
message_keeps m s a (event.EvictLlc b) h = record { peis = refl; fences = refl }
message_keeps m s a (event.Fill b) h = record { peis = refl; fences = refl }
message_keeps m s a (event.GrantS b) h = record { peis = refl; fences = refl }
message_keeps m s a (event.GrantE b) h = record { peis = refl; fences = refl }
message_keeps m s a (event.GrantM b) h = record { peis = refl; fences = refl }

-- what a core does that wants a block is a message
evict_message : (m : MachineSpec) (s : State) (v : BlockNo) (o : Option CoreId) → side_of (evict m s v o) ≡ Messages
evict_message m s v (Some c) = refl
evict_message m s v None = go (is_dirty (mark_of m s v))
  where
    go : (t : Bool) → side_of (if t then event.Clean v else event.EvictLlc v) ≡ Messages
    go true = refl
    go false = refl

bring_message : (m : MachineSpec) (s : State) (b : BlockNo) (o : Option LlcLine) → side_of (bring_in m s b o) ≡ Messages
bring_message m s b (Some line) = evict_message m s line.block (holder m s line.block)
bring_message m s b None = refl

modify_message : (b : BlockNo) (o : Option CoreId) → side_of (grant_modify b o) ≡ Messages
modify_message b (Some c) = refl
modify_message b None = refl

shared_message : (m : MachineSpec) (s : State) (c : CoreId) (b : BlockNo) (o : Option CoreId) → side_of (grant_shared m s c b o) ≡ Messages
shared_message m s c b (Some d) = refl
shared_message m s c b None = go (not (no_other_has m s c b) || is_sealed s b)
  where
    go : (t : Bool) → side_of (if t then event.GrantS b else event.GrantE b) ≡ Messages
    go true = refl
    go false = refl

grant_message : (m : MachineSpec) (s : State) (c : CoreId) (b : BlockNo) (modify : Bool) → side_of (grant m s c b modify) ≡ Messages
grant_message m s c b true = modify_message b (other_holder m s c b)
grant_message m s c b false = shared_message m s c b (other_owner m s c b)

room_message : (m : MachineSpec) (s : State) (c : CoreId) (b : BlockNo) (modify : Bool) (o : Option Line) → side_of (make_room m s c b modify o) ≡ Messages
room_message m s c b modify (Some line) = refl
room_message m s c b modify None = grant_message m s c b modify

pub want_message : (m : MachineSpec) (s : State) (c : CoreId) (b : BlockNo) (modify : Bool) → side_of (want m s c b modify) ≡ Messages
want_message m s c b modify = go (is_absent (mark_of m s b))
  where
    go : (t : Bool) → side_of (if t then bring_in m s b (victim m.llc_ways (llc_set m s b)) else make_room m s c b modify (l1_victim m s c b)) ≡ Messages
    go true = bring_message m s b (victim m.llc_ways (llc_set m s b))
    go false = room_message m s c b modify (l1_victim m s c b)

-- ---- what a PEI's events do beside its phase

pub placing_keeps : (m : MachineSpec) (s : State) (o : Option PeiLook) → Same s (after_placing m s o)
placing_keeps m s None = record { peis = refl; fences = refl }
placing_keeps m s (Some p) = record { peis = refl; fences = refl }

pub reading_keeps : (m : MachineSpec) (s : State) (o : Option PeiLook) → Same s (after_reading m s o)
reading_keeps m s None = record { peis = refl; fences = refl }
reading_keeps m s (Some p) = record { peis = refl; fences = refl }

acting_in_keeps : (m : MachineSpec) (s : State) (p : PeiLook) (ph : Phase) → Same s (after_acting_in m s p ph)
acting_in_keeps m s p phase.Read = go (is_writer p.op)
  where
    go : (t : Bool) → Same s (if t then with_l1_front m s p.id.core p.block letter.M else s)
    go true = record { peis = refl; fences = refl }
    go false = record { peis = refl; fences = refl }
acting_in_keeps m s p phase.Sealed = record { peis = refl; fences = refl }
acting_in_keeps m s p _ = record { peis = refl; fences = refl }

pub acting_keeps : (m : MachineSpec) (s : State) (o : Option PeiLook) → Same s (after_acting m s o)
acting_keeps m s None = record { peis = refl; fences = refl }
acting_keeps m s (Some p) = acting_in_keeps m s p p.phase

-- ---- a line that goes to the front keeps its letter

none_kept : {A : Type 0} (test : A → Bool) (xs : List A) → find test xs ≡ None → filter test xs ≡ []
none_kept test [] h = refl
none_kept test (x ∷ xs) h = grind (arith, common_steps, none_kept test xs)

first_kept : {A : Type 0} (test : A → Bool) (xs ys : List A) (x : A) → find test xs ≡ Some x → find test (filter test xs ++ ys) ≡ Some x
first_kept test [] ys x h = absurd (cc h)
first_kept {A} test (y ∷ xs) ys x h = go (test y) refl h (λ k. first_kept test xs ys x k)
  where
    go : (b : Bool) → test y ≡ b → (if b then Some y else find test xs) ≡ Some x → (find test xs ≡ Some x → find test (filter test xs ++ ys) ≡ Some x) → find test ((if b then y ∷ filter test xs else filter test xs) ++ ys) ≡ Some x
    go true e k ih = rw e k
    go false e k ih = ih k

find-to_front : {A : Type 0} (test : A → Bool) (xs : List A) → find test (to_front test xs) ≡ find test xs
find-to_front {A} test xs = go (find test xs) refl
  where
    go : (o : Option A) → find test xs ≡ o → find test (to_front test xs) ≡ o
    go None e = ap (λ ys. find test (ys ++ without test xs)) (none_kept test xs e) ∙ find-without test xs
    go (Some x) e = first_kept test xs (without test xs) x e

pub touched_letter : (m : MachineSpec) (s : State) (c : CoreId) (b : BlockNo) → letter_of m (with_l1_touch m s c b) c b ≡ letter_of m s c b
touched_letter m s c b =
    ap (λ sets. letter_in (find (is_line_of b) (list_at sets (l1_set_of m b)))) (list_at-change_here s.l1 c.0 (λ sets. change_at sets (l1_set_of m b) (to_front (is_line_of b))) refl)
    ∙ ap (λ set. letter_in (find (is_line_of b) set)) (list_at-change_here (list_at s.l1 c.0) (l1_set_of m b) (to_front (is_line_of b)) refl)
    ∙ ap letter_in (find-to_front (is_line_of b) (l1_set m s c b))
