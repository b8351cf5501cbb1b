-- What a turn of a lane tells of its row, and of the entry that its PEI needs.
use Rattle.std.proofs.Common.{◌≡◌, ℕ, ◌<◌, ◌==◌, Bool, true, false, ◌&&◌, if◌then◌else◌, length, find, Option, Some, None, slice_get, refl, sym, ◌∙◌, ap, arith}
use Rattle.std.proofs.lemmas.Bool.{and_parts}
use Rattle.std.proofs.lemmas.Bool.Decides.{nat_tests}
use Rattle.pei_types.specs.declared.identifiers.Actor.{Actor}
use Rattle.pei_types.specs.declared.identifiers.Block.{Block}
use Rattle.pei_types.specs.declared.identifiers.BlockNo.{BlockNo}
use Rattle.pei_types.specs.declared.identifiers.CoreId.{CoreId}
use Rattle.pei_types.specs.declared.identifiers.Lane.{Lane}
use Rattle.pei_types.specs.declared.identifiers.PeiId.{PeiId}
use Rattle.pei_types.specs.declared.events.Event.{Event}
use Rattle.pei_types.specs.declared.events.EventKind.{EventKind}
use Rattle.pei_types.specs.declared.inflight_looks.PeiLook.{PeiLook}
use Rattle.pei_types.specs.declared.inflight_looks.Phase.{Phase}
use Rattle.pei_types.specs.declared.inflight_looks.Phase.TheVariants as phase
use Rattle.pei_types.specs.declared.inflight_looks.StallCause.{StallCause}
use Rattle.pei_types.specs.declared.inflight_looks.StallCause.TheVariants as stall
use Rattle.pei_types.specs.declared.machines.MachineSpec.{MachineSpec}
use Rattle.pei_types.specs.declared.operations.Mode.{Mode}
use Rattle.pei_types.specs.Blocks.{entry_of, same_core, same_lane, same_pei, vault_of}
use Rattle.pei_types.specs.MachineState.{State, first_unentered, is_phase, look_in, queue_is_full, queue_of}
use Rattle.pei_types.specs.Guard.{is_pei}
use Rattle.pei_types.specs.Next.{Turn as Row, Makes, Stalls, act_kind, enter_row, head_row, lane_row, pei_row, seal_row}
use Rattle.pei_types.specs.Operation.{mode_of}
use Rattle.fabric.specs.History.{History, content_of, lane_row_of, needs_of, state_of}
use Rattle.fabric.specs.Needs.{entry_needed}
use Rattle.fabric.specs.Turns.{answer_of, turn_of}
use Rattle.fabric.specs.declared.turns.Turn.{Turn}
use Rattle.fabric.specs.declared.turns.Turn.TheVariants as turns
use Rattle.sched_run.specs.Steps.{IsUnspent, waits_for_grant}
use Rattle.sched_run.specs.declared.claims.LaneClaim.{LaneClaim as Claim}
use Rattle.sched_run.specs.declared.claims.LaneClaim.TheVariants as claim
use Rattle.pei_types.proofs.Identities.{look_core}
use Rattle.pei_types.proofs.Lists.{found_has, found_passes, none_pass}
use Rattle.pei_types.proofs.Tests.{none_of_map}

-- ---- the row that a turn tells

not_full : (n k : ℕ) → n < k → (n == k) ≡ false
not_full n k h = grind (arith, nat_tests)

told : (h : History) (a : Actor) (row : Row) (t : Turn) → length h.journal < h.machine.events → t ≡ turn_of h a row → t ≡ answer_of a row
told h a row t room is = is ∙ ap (λ (b : Bool). if b then turns.Full else answer_of a row) (not_full (length h.journal) h.machine.events room)

pub did_row : (h : History) (a : Actor) (row : Row) (t : Turn) (e : Event) → length h.journal < h.machine.events → t ≡ turn_of h a row → t ≡ turns.Did e → (row ≡ Makes e.kind) × (e.actor ≡ a)
did_row h a row t e room is did = by row (sym did ∙ told h a row t room is)
  where
    events : (x y : Event) → turns.Did x ≡ turns.Did y → x ≡ y
    events x y q = cc

    by : (k : Row) → turns.Did e ≡ answer_of a k → (k ≡ Makes e.kind) × (e.actor ≡ a)
    by (Makes kind) q =
        let same = events e (record { actor = a; kind = kind }) q
        in (ap (λ (x : Event). Makes x.kind) (sym same), ap (λ (x : Event). x.actor) same)
    by (Stalls cause) q = absurd (cc q)

pub stall_row : (h : History) (a : Actor) (row : Row) (t : Turn) (cause : StallCause) → length h.journal < h.machine.events → t ≡ turn_of h a row → t ≡ turns.Stalled cause → row ≡ Stalls cause
stall_row h a row t cause room is stalled = by row (sym stalled ∙ told h a row t room is)
  where
    causes : (x y : StallCause) → turns.Stalled x ≡ turns.Stalled y → y ≡ x
    causes x y q = cc

    by : (k : Row) → turns.Stalled cause ≡ answer_of a k → k ≡ Stalls cause
    by (Makes kind) q = absurd (cc q)
    by (Stalls why) q = ap Stalls (causes cause why q)

pub never_full : (h : History) (a : Actor) (row : Row) (t : Turn) → length h.journal < h.machine.events → t ≡ turn_of h a row → t ≡ turns.Full → ⊥
never_full h a row t room is full = by row (sym full ∙ told h a row t room is)
  where
    by : (k : Row) → turns.Full ≡ answer_of a k → ⊥
    by (Makes kind) q = cc q
    by (Stalls why) q = cc q

pub grant_is : (cause : StallCause) → waits_for_grant cause ≡ true → cause ≡ stall.NeedsGrant
grant_is stall.NeedsGrant h = refl
grant_is _ h = absurd (cc h)

pub grant_not : (cause : StallCause) → waits_for_grant cause ≡ false → cause ≡ stall.NeedsGrant → ⊥
grant_not cause h e = cc (sym (ap waits_for_grant e), h)

pub unspent_by : (c : Claim) → ((e : ℕ) (k : Mode) → c ≡ claim.Spent e k → ⊥) → IsUnspent c
unspent_by claim.Free n = tt
unspent_by (claim.Announced entry) n = tt
unspent_by (claim.Held entry mode) n = tt
unspent_by (claim.Spent entry mode) n = n entry mode refl

-- ---- a lane that waits for its entry needs one

first_there : (s : State) (c : CoreId) (l : Lane) (p : PeiLook) → look_in s c l ≡ Some p → p.phase ≡ phase.Issued → first_unentered s c ≡ None → ⊥
first_there s c l p here issued none =
    let fails = none_pass (λ q. same_core q.id.core c && is_phase q.phase phase.Issued) s.peis (none_of_map (λ q. q.id) (find (λ q. same_core q.id.core c && is_phase q.phase phase.Issued) s.peis) none)
    in let not = found_has (λ q. (same_core q.id.core c && is_phase q.phase phase.Issued) ≡ false) (λ q. same_core q.id.core c && same_lane q.lane l) s.peis p fails here
    in let own = (and_parts (same_core p.id.core c) (same_lane p.lane l) (found_passes (λ q. same_core q.id.core c && same_lane q.lane l) s.peis p here)).0
    in let both : (same_core p.id.core c && is_phase p.phase phase.Issued) ≡ true = both_of (same_core p.id.core c) (is_phase p.phase phase.Issued) own (ap (λ ph. is_phase ph phase.Issued) issued)
    in cc (sym both, not)
  where
    both_of : (x y : Bool) → x ≡ true → y ≡ true → (x && y) ≡ true
    both_of x y a b = rw (a, b) refl

seal_no_grant : (m : MachineSpec) (s : State) (p : PeiLook) → seal_row m s p ≡ Stalls stall.NeedsGrant → ⊥
seal_no_grant m s p = by _ (queue_is_full m s (vault_of m p.block))
  where
    by : (k : EventKind) (b : Bool) → (if b then Stalls (stall.VaultFull (vault_of m p.block)) else Makes k) ≡ Stalls stall.NeedsGrant → ⊥
    by k true h = cc h
    by k false h = cc h

head_no_grant : (content : BlockNo → Block) (p : PeiLook) (o : Option PeiId) → head_row content p o ≡ Stalls stall.NeedsGrant → ⊥
head_no_grant content p None h = cc h
head_no_grant content p (Some head) h = by (same_pei head p.id) h
  where
    by : (b : Bool) → (if b then Makes (act_kind content p) else Stalls (stall.NotHead head)) ≡ Stalls stall.NeedsGrant → ⊥
    by true q = cc q
    by false q = cc q

issued_by_row : (m : MachineSpec) (s : State) (content : BlockNo → Block) (p : PeiLook) (ph : Phase) → pei_row m s content false p ph ≡ Stalls stall.NeedsGrant → (ph ≡ phase.Issued) × (enter_row p false (first_unentered s p.id.core) ≡ Stalls stall.NeedsGrant)
issued_by_row m s content p phase.Issued h = (refl, h)
issued_by_row m s content p phase.Entered h = absurd (cc h)
issued_by_row m s content p phase.HostPlaced h = absurd (cc h)
issued_by_row m s content p phase.MemoryPlaced h = absurd (seal_no_grant m s p h)
issued_by_row m s content p phase.Read h = absurd (cc h)
issued_by_row m s content p phase.Sealed h = absurd (head_no_grant content p (slice_get (queue_of s (vault_of m p.block)) 0) h)
issued_by_row m s content p phase.Acted h = absurd (cc h)

first_by_row : (p : PeiLook) (o : Option PeiId) → enter_row p false o ≡ Stalls stall.NeedsGrant → (o ≡ None → ⊥) → is_pei o p.id ≡ true
first_by_row p None h n = absurd (n refl)
first_by_row p (Some first) h n = by (same_pei first p.id) refl h
  where
    by : (b : Bool) → same_pei first p.id ≡ b → (if b then Stalls stall.NeedsGrant else Stalls (stall.NotOldest first)) ≡ Stalls stall.NeedsGrant → same_pei first p.id ≡ true
    by true e q = e
    by false e q = absurd (cc q)

-- The lane of a PEI that waits for its entry: it was issued, and it needs the entry of its block.
pub grant_needs : (h : History) (c : CoreId) (l : Lane) → lane_row_of h false c l ≡ Stalls stall.NeedsGrant → (p : PeiLook) × (look_in (state_of h) c l ≡ Some p) × (p.phase ≡ phase.Issued) × (needs_of h c l ≡ Some (entry_of h.machine p.block, mode_of p.op))
grant_needs h c l row = by (look_in (state_of h) c l) refl row
  where
    by : (o : Option PeiLook) → look_in (state_of h) c l ≡ o → lane_row h.machine (state_of h) (content_of h) false o ≡ Stalls stall.NeedsGrant → (p : PeiLook) × (look_in (state_of h) c l ≡ Some p) × (p.phase ≡ phase.Issued) × (needs_of h c l ≡ Some (entry_of h.machine p.block, mode_of p.op))
    by None e q = absurd (cc q)
    by (Some p) e q =
        let issued = issued_by_row h.machine (state_of h) (content_of h) p p.phase q
        in let own = look_core (state_of h) c l p e
        in let first = first_by_row p (first_unentered (state_of h) p.id.core) issued.1 (λ none. first_there (state_of h) c l p e issued.0 (ap (first_unentered (state_of h)) (sym own) ∙ none))
        in (
          p,
          e,
          issued.0,
          ap (entry_needed h.machine (first_unentered (state_of h) c)) e
              ∙ ap (λ d. entry_needed h.machine (first_unentered (state_of h) d) (Some p)) (sym own)
              ∙ ap (λ (b : Bool). if b then Some (entry_of h.machine p.block, mode_of p.op) else None) first,
        )
