-- The PEI in the lane of an event that is its next is the one that the event names.
use Rattle.std.proofs.Common.{◌≡◌, ℕ, Bool, true, false, not, ◌&&◌, ◌||◌, if◌then◌else◌, slice_get, ◌⊎◌, inl, inr, Option, Some, None, refl, sym, ◌∙◌, ap, subst}
use Rattle.pei_types.specs.declared.identifiers.Actor.{Actor}
use Rattle.pei_types.specs.declared.identifiers.CoreId.{CoreId}
use Rattle.pei_types.specs.declared.identifiers.PeiId.{PeiId}
use Rattle.pei_types.specs.declared.inflight_looks.PeiLook.{PeiLook}
use Rattle.pei_types.specs.declared.inflight_looks.Phase.{Phase}
use Rattle.pei_types.specs.declared.inflight_looks.Phase.TheVariants as phase
use Rattle.pei_types.specs.declared.operations.Place.{Place}
use Rattle.pei_types.specs.declared.operations.Reply.{Reply}
use Rattle.pei_types.specs.declared.events.EventKind.{EventKind}
use Rattle.pei_types.specs.declared.events.EventKind.TheVariants as event
use Rattle.pei_types.specs.declared.machines.MachineSpec.{MachineSpec}
use Rattle.pei_types.specs.Calls.{Side, Peis, follows_phase, side_of}
use Rattle.pei_types.specs.declared.identifiers.Lane.{Lane}
use Rattle.pei_types.specs.declared.operations.Letter.{Letter}
use Rattle.pei_types.specs.declared.operations.Letter.TheVariants as letter
use Rattle.pei_types.specs.Blocks.{same_core, same_lane, vault_of}
use Rattle.pei_types.specs.MachineState.{State, is_i, is_owned, is_phase, letter_of, look_in, look_of, mark_of, pei_id, queue_of}
use Rattle.pei_types.specs.Guard.{act_guard, guard, is_pei, letter_serves, pei_guard}
use Rattle.pei_types.specs.Operation.{is_writer}
use Rattle.pei_types.proofs.Identities.{same_pei_is}
use Rattle.pei_types.proofs.Lists.{found_has}
use Rattle.coherence_laws.specs.Sets.{Each}
use Rattle.coherence_laws.specs.Invariants.{HoldsSeal, IsOnItsWay}
use Rattle.inflight.specs.OnTheWay.{IsHead}
use Rattle.trace_check.specs.declared.checker.Checker.{Checker}
use Rattle.trace_check.specs.CheckerParts.{Moved, actor_of}
use Rattle.trace_check.specs.InState.{FollowsLook, IsOwn, IsOwnSide}

id_of : CoreId → ℕ → PeiId
id_of c n = record { core = c; seq = n }

own_look : (s : State) (a : Actor) (kind : EventKind) (seq : ℕ) (pei : PeiLook) → FollowsLook s a kind seq → Some pei ≡ look_in s a.core a.lane → pei.id.core ≡ a.core → look_of s pei.id ≡ Some pei → (look_of s (pei_id a seq) ≡ Some pei) × (follows_phase pei.phase kind ≡ true)
unfolding id_of
own_look s a kind seq pei own found core named =
    let both : Some own.0 ≡ Some pei = sym own.1 ∙ sym found
    in let same : own.0 ≡ pei = cc both
    in let number : pei.id.seq ≡ seq = ap (λ (p : PeiLook). p.id.seq) (sym same) ∙ own.2
    in let name : pei.id ≡ pei_id a seq = ap (λ c. id_of c pei.id.seq) core ∙ ap (id_of a.core) number
    in (
      subst (λ (x : PeiId). look_of s x ≡ Some pei) name named,
      subst (λ (p : PeiLook). follows_phase p.phase kind ≡ true) same own.3,
    )

-- what is its next tells its phase
pub before_place : (ph : Phase) (seq : ℕ) (to : Place) → follows_phase ph (event.Place seq to) ≡ true → ph ≡ phase.Entered
before_place phase.Entered seq to h = refl
before_place phase.Issued seq to h = absurd (cc h)
before_place _ seq to h = absurd (cc h)

pub before_read : (ph : Phase) (seq : ℕ) → follows_phase ph (event.Read seq) ≡ true → ph ≡ phase.HostPlaced
before_read phase.HostPlaced seq h = refl
before_read _ seq h = absurd (cc h)

pub before_seal : (ph : Phase) (seq vault : ℕ) → follows_phase ph (event.Seal seq vault) ≡ true → ph ≡ phase.MemoryPlaced
before_seal phase.MemoryPlaced seq vault h = refl
before_seal _ seq vault h = absurd (cc h)

pub before_act : (ph : Phase) (seq : ℕ) (reply : Reply) → follows_phase ph (event.Act seq reply) ≡ true → (ph ≡ phase.Read) ⊎ (ph ≡ phase.Sealed)
before_act phase.Read seq reply h = inl refl
before_act phase.Sealed seq reply h = inr refl
before_act _ seq reply h = absurd (cc h)

pub before_leave : (ph : Phase) (seq : ℕ) → follows_phase ph (event.Leave seq) ≡ true → ph ≡ phase.Acted
before_leave phase.Acted seq h = refl
before_leave _ seq h = absurd (cc h)

pub before_enter : (ph : Phase) (seq : ℕ) → follows_phase ph (event.Enter seq) ≡ true → ph ≡ phase.Issued
before_enter phase.Issued seq h = refl
before_enter _ seq h = absurd (cc h)

-- what an event of a PEI has of the PEI in its lane
module _ (s : State) (a : Actor) (kind k : EventKind) (seq : ℕ) (pei : PeiLook) (is : kind ≡ k) (side : side_of k ≡ Peis seq) (own : IsOwn s a kind) (found : Some pei ≡ look_in s a.core a.lane) (core : pei.id.core ≡ a.core) (named : look_of s pei.id ≡ Some pei) where
  follows_look : FollowsLook s a k seq
  follows_look =
      let at : IsOwn s a k = subst (λ (x : EventKind). IsOwn s a x) is own
      in let there : IsOwnSide (Peis seq) s a k = subst (λ (x : Side). IsOwnSide x s a k) side at
      in there.1

  pub named_look : look_of s (pei_id a seq) ≡ Some pei
  named_look = (own_look s a k seq pei follows_look found core named).0

  pub own_phase : follows_phase pei.phase k ≡ true
  own_phase = (own_look s a k seq pei follows_look found core named).1

  pub pei_guarded : (m : MachineSpec) (r : Bool) → guard m s a k ≡ pei_guard m s k (look_of s (pei_id a seq)) → r ≡ pei_guard m s k (Some pei) → r ≡ guard m s a kind
  pei_guarded m r same told = told ∙ sym (ap (pei_guard m s k) named_look) ∙ sym same ∙ ap (guard m s a) (sym is)

  pub own_guard : (m : MachineSpec) → guard m s a k ≡ pei_guard m s k (look_of s (pei_id a seq)) → guard m s a kind ≡ true → pei_guard m s k (Some pei) ≡ true
  own_guard m same guarded = sym (ap (pei_guard m s k) named_look) ∙ sym same ∙ ap (guard m s a) (sym is) ∙ guarded

  pub own_number : pei.id.seq ≡ seq
  own_number =
      let look = follows_look
      in let both : Some look.0 ≡ Some pei = sym look.1 ∙ sym found
      in let same : look.0 ≡ pei = cc both
      in ap (λ (p : PeiLook). p.id.seq) (sym same) ∙ look.2

-- the guards that its phase alone decides, or beside one test
pub place_by_phase : (ph : Phase) → ph ≡ phase.Entered → true ≡ is_phase ph phase.Entered
place_by_phase ph e = ap (λ x. is_phase x phase.Entered) (sym e)

pub leave_by_phase : (ph : Phase) → ph ≡ phase.Acted → true ≡ is_phase ph phase.Acted
leave_by_phase ph e = ap (λ x. is_phase x phase.Acted) (sym e)

pub read_by_phase : (ph : Phase) (r : Bool) → ph ≡ phase.HostPlaced → r ≡ (is_phase ph phase.HostPlaced && r)
read_by_phase ph r e = ap (λ x. is_phase x phase.HostPlaced && r) (sym e)

-- a PEI that its letter serves has a copy
pub serves_has : (m : MachineSpec) (s : State) (p : PeiLook) → letter_serves m s p ≡ true → is_i (letter_of m s p.id.core p.block) ≡ false
serves_has m s p h = by (letter_of m s p.id.core p.block) (is_writer p.op) h
  where
    by : (l : Letter) (t : Bool) → (if t then is_owned l else not (is_i l)) ≡ true → is_i l ≡ false
    by letter.I true h = absurd (cc h)
    by letter.I false h = absurd (cc h)
    by letter.S t h = refl
    by letter.E t h = refl
    by letter.M t h = refl

-- a PEI that may act: at the host a writer owns its block, and one that is sealed heads its queue
pub acts_owning : (m : MachineSpec) (s : State) (p : PeiLook) → act_guard m s p p.phase ≡ true → p.phase ≡ phase.Read → is_writer p.op ≡ true → is_owned (letter_of m s p.id.core p.block) ≡ true
acts_owning m s p guarded read writes =
    sym (ap (λ t. not t || is_owned (letter_of m s p.id.core p.block)) writes) ∙ sym (ap (act_guard m s p) read) ∙ guarded

is_pei_found : (o : Option PeiId) (id : PeiId) → is_pei o id ≡ true → o ≡ Some id
is_pei_found None id h = absurd (cc h)
is_pei_found (Some p) id h = ap Some (same_pei_is p id h)

pub acts_ready : (m : MachineSpec) (s : State) (p : PeiLook) → act_guard m s p p.phase ≡ true → (p.phase ≡ phase.Read) ⊎ (p.phase ≡ phase.Sealed) → (p.phase ≡ phase.Read) ⊎ IsHead m s (Some p)
acts_ready m s p guarded (inl read) = inl read
acts_ready m s p guarded (inr sealed) = inr (sealed, is_pei_found (slice_get (queue_of s (vault_of m p.block)) 0) p.id (sym (ap (act_guard m s p) sealed) ∙ guarded))

pub seal_of : (m : MachineSpec) (s : State) (c : CoreId) (l : Lane) (p : PeiLook) → Each (IsOnItsWay m s) s.peis → look_in s c l ≡ Some p → p.phase ≡ phase.Sealed → HoldsSeal (letter_of m s) (mark_of m s) p.block (is_writer p.op)
seal_of m s c l p way found sealed = (found_has (IsOnItsWay m s) (λ q. same_core q.id.core c && same_lane q.lane l) s.peis p way found).seal (ap (λ ph. is_phase ph phase.Sealed) sealed)

make_actor : CoreId → Lane → Actor
make_actor c l = record { core = c; lane = l }

-- what was made by the lane of the PEI was made by the actor
pub moved_own : (v w : Checker) (a : Actor) (kind : EventKind) (k : ℕ → EventKind) (seq : ℕ) (p : PeiLook) → kind ≡ k seq → p.id.core ≡ a.core → p.lane ≡ a.lane → p.id.seq ≡ seq → Moved v w (actor_of p) (k p.id.seq) → Moved v w a kind
unfolding make_actor
moved_own v w a kind k seq p is core lane number moved =
    let who : actor_of p ≡ a = ap (λ c. make_actor c p.lane) core ∙ ap (make_actor a.core) lane
    in subst (λ (x : Actor). Moved v w x kind) who (subst (λ (x : EventKind). Moved v w (actor_of p) x) (ap k number ∙ sym is) moved)
