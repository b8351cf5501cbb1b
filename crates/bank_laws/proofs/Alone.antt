-- Banks that know no program: what they vouch for makes a machine in order.
use Rattle.std.proofs.Common.{◌≡◌, ℕ, zero, suc, ◌<◌, Bool, true, false, not, ◌&&◌, List, [], ◌∷◌, ◌++◌, Option, Some, None, is_none, slice_index, refl, sym, ◌∙◌, ap, subst, eqb-true}
use Rattle.std.specs.Prelude.{◌==◌, if◌then◌else◌}
use Rattle.std.specs.List.{AllByRecursion}
use Rattle.std.proofs.lemmas.Bool.{and_parts}
use Rattle.std.proofs.lemmas.List.{length-map}
use Rattle.std.proofs.lemmas.Option.{same_Some}
use Rattle.pei_types.specs.declared.identifiers.Actor.{Actor}
use Rattle.pei_types.specs.declared.identifiers.Block.{Block}
use Rattle.pei_types.specs.declared.identifiers.BlockNo.{BlockNo}
use Rattle.pei_types.specs.declared.identifiers.Lane.{Lane}
use Rattle.pei_types.specs.declared.identifiers.PeiId.{PeiId}
use Rattle.pei_types.specs.declared.calls.Call.{Call}
use Rattle.pei_types.specs.declared.calls.Call.TheVariants as call
use Rattle.pei_types.specs.declared.calls.EndKind.{EndKind}
use Rattle.pei_types.specs.declared.operations.Op.{Op}
use Rattle.pei_types.specs.declared.operations.Operands.{Operands}
use Rattle.pei_types.specs.declared.inflight_looks.PeiLook.{PeiLook}
use Rattle.pei_types.specs.declared.inflight_looks.Phase.{Phase}
use Rattle.pei_types.specs.declared.inflight_looks.Phase.TheVariants as phase
use Rattle.pei_types.specs.declared.inflight_looks.StallCause.TheVariants as stall
use Rattle.pei_types.specs.declared.events.Event.{Event}
use Rattle.pei_types.specs.declared.events.EventKind.{EventKind}
use Rattle.pei_types.specs.declared.events.EventKind.TheVariants as event
use Rattle.pei_types.specs.declared.machines.MachineSpec.{MachineSpec}
use Rattle.pei_types.specs.Blocks.{same_pei}
use Rattle.pei_types.specs.MachineState.{State, state_after, free_lane, first_unentered, first_unfinished, fence_of, look_in, look_of, pei_id, entry_is_taken}
use Rattle.pei_types.specs.Core.{CoreNext, Calls, Busy, Ended}
use Rattle.pei_types.specs.FlatMemory.{flat_block}
use Rattle.pei_types.specs.Guard.{pei_guard, is_pei, is_lane, waits_for_none}
use Rattle.pei_types.specs.Legal.{EachEvent, MachineLegal, MeetsSome}
use Rattle.pei_types.specs.Next.{Makes, Stalls, draining_or, enter_row, CoreLook, call_row_by, pei_row_by, issue_row, fence_row}
use Rattle.pei_types.specs.Program.{Contents}
use Rattle.pei_types.specs.Turns.{is_entering}
use Rattle.pei_types.proofs.Histories.{each_push}
use Rattle.pei_types.proofs.Identities.{makes_is, same_lane_is}
use Rattle.pei_types.proofs.Tests.{none_is}
use Rattle.history_laws.specs.Laws.{AgreementTells}
use Rattle.history_laws.specs.Sound.{IssuesUnfenced}
use Rattle.history_laws.specs.TrackedPeis.{Agrees}
use Rattle.coherence_laws.specs.Invariants.{Invariants}
use Rattle.coherence_laws.specs.Laws.{LanesHoldPeis}
use Rattle.machine_laws.specs.Laws.{MachineGoesOn}
use Rattle.machine_laws.specs.InOrder.{MachineInOrder}
use Rattle.bank_laws.specs.Banks.{HasBanks, Placed, EachPlaced, StandsRightly, bank_of, journal_of, log_of}
use Rattle.bank_laws.specs.Parts.{SameInBank}
use Rattle.bank_laws.specs.Rows.{IsGuardedWidely, GoesInSome, bank_look, program_turn_in, pei_turn_in, turn_in, without_waits}
use Rattle.bank_laws.proofs.Histories.{placed_induction, placed_prefix, journal_of-push}
use Rattle.bank_laws.proofs.Main.{LanePei, lane_pei}
use Rattle.bank_laws.proofs.Projection.{Kept, kept_at_start, kept_step, own_names, same_in_bank}
use Rattle.bank_laws.proofs.Rows.{turn_is}

-- ---- from the guards that look further, the row of what the core knows

found_lane : (o : Option Lane) (l : Lane) → is_lane o l ≡ true → o ≡ Some l
found_lane None l e = absurd (cc e)
found_lane (Some k) l e = ap Some (same_lane_is k l e)

found_first : (p : PeiLook) (granted : Bool) (o : Option PeiId) → is_pei o p.id ≡ true → granted ≡ true → enter_row p granted o ≡ Makes (event.Enter p.id.seq)
found_first p granted None e g = absurd (cc e)
found_first p granted (Some first) e g = rw (e, g) refl

module _ (m : MachineSpec) (s t : State) (look : CoreLook) (part : BlockNo → Block) (a : Actor) (kind : EventKind) where
  issue_known : (o : Op) (b : BlockNo) (operands : Operands) (lane : Option Lane) → IsGuardedWidely m s a kind → issue_row look.issues o b operands lane ≡ Makes kind → issue_row (slice_index s.issues a.core.0) o b operands (free_lane m s a.core) ≡ Makes kind
  issue_known o b operands None wide e = absurd (cc e)
  issue_known o b operands (Some lane) wide e =
      let kinds : event.Issue look.issues lane o b operands ≡ kind = makes_is (event.Issue look.issues lane o b operands) kind e
      in let ok : (is_lane (free_lane m s a.core) lane && (look.issues == slice_index s.issues a.core.0)) ≡ true = subst (IsGuardedWidely m s a) (sym kinds) wide
      in let both = and_parts (is_lane (free_lane m s a.core) lane) (look.issues == slice_index s.issues a.core.0) ok
      in ap (issue_row (slice_index s.issues a.core.0) o b operands) (found_lane (free_lane m s a.core) lane both.0)
      ∙ ap (λ n. Makes (event.Issue n lane o b operands)) (sym (eqb-true look.issues (slice_index s.issues a.core.0) both.1)) ∙ e

  fence_known : (o : Option (List PeiId)) → IsGuardedWidely m s a kind → fence_row o ≡ Makes kind → fence_row (without_waits (fence_of s a.core)) ≡ Makes kind
  fence_known (Some []) wide e =
      let ok : waits_for_none (fence_of s a.core) ≡ true = subst (IsGuardedWidely m s a) (sym (makes_is event.FenceEnd kind e)) wide
      in there (fence_of s a.core) ok ∙ e
    where
      there : (o : Option (List PeiId)) → waits_for_none o ≡ true → fence_row (without_waits o) ≡ Makes event.FenceEnd
      there None q = absurd (cc q)
      there (Some ws) q = refl
  fence_known (Some (w ∷ ws)) wide e = absurd (cc e)
  fence_known None wide e =
      let ok : is_none (fence_of s a.core) ≡ true = subst (IsGuardedWidely m s a) (sym (makes_is event.FenceBegin kind e)) wide
      in off (fence_of s a.core) ok ∙ e
    where
      off : (o : Option (List PeiId)) → is_none o ≡ true → fence_row (without_waits o) ≡ Makes event.FenceBegin
      off None q = refl
      off (Some ws) q = absurd (cc q)

  end_known : (how : EndKind) (o : Option PeiId) → IsGuardedWidely m s a kind → draining_or o (event.End how) ≡ Makes kind → draining_or (first_unfinished s a.core) (event.End how) ≡ Makes kind
  end_known how (Some p) wide e = absurd (cc e)
  end_known how None wide e =
      let ok : is_none (first_unfinished s a.core) ≡ true = subst (IsGuardedWidely m s a) (sym (makes_is (event.End how) kind e)) wide
      in ap (λ o. draining_or o (event.End how)) (none_is (first_unfinished s a.core) ok) ∙ e

  call_known : (x : Call) → IsGuardedWidely m s a kind → call_row_by look m t part a.core x ≡ Makes kind → call_row_by (bank_look m s a.core) m t part a.core x ≡ Makes kind
  call_known (call.Load pc addr) wide e = e
  call_known (call.Store pc addr value) wide e = e
  call_known (call.Pei o b operands) wide e = issue_known o b operands look.free wide e
  call_known call.Fence wide e = fence_known look.fence wide e
  call_known (call.Out value) wide e = e
  call_known (call.End how) wide e = end_known how look.first_unfinished wide e

  program_known : (x : CoreNext) → IsGuardedWidely m s a kind → program_turn_in m t look part a.core x ≡ Some (Makes kind) → program_turn_in m t (bank_look m s a.core) part a.core x ≡ Some (Makes kind)
  program_known (Calls x) wide e = ap Some (call_known x wide (same_Some (call_row_by look m t part a.core x) (Makes kind) e))
  program_known (Busy register pei) wide e = absurd (cc e)
  program_known (Ended how) wide e = absurd (cc e)

  -- a PEI enters first of its core
  enter_known : (p : PeiLook) (o : Option PeiId) → IsGuardedWidely m s a kind → p.id.core ≡ a.core → look_of s (pei_id a p.id.seq) ≡ Some p → enter_row p (is_entering kind) o ≡ Makes kind → enter_row p (is_entering kind) (first_unentered s a.core) ≡ Makes kind
  enter_known p None wide core looked e = absurd (cc e)
  enter_known p (Some first) wide core looked e = by (same_pei first p.id) (is_entering kind) refl e
    where
      by : (same g : Bool) → is_entering kind ≡ g → (if same then (if g then Makes (event.Enter p.id.seq) else Stalls stall.NeedsGrant) else Stalls (stall.NotOldest first)) ≡ Makes kind → enter_row p (is_entering kind) (first_unentered s a.core) ≡ Makes kind
      by false g q r = absurd (cc r)
      by true false q r = absurd (cc r)
      by true true q r =
          let kinds : event.Enter p.id.seq ≡ kind = makes_is (event.Enter p.id.seq) kind r
          in let ok : pei_guard m s (event.Enter p.id.seq) (look_of s (pei_id a p.id.seq)) ≡ true = subst (IsGuardedWidely m s a) (sym kinds) wide
          in let found : pei_guard m s (event.Enter p.id.seq) (Some p) ≡ true = subst (λ o. pei_guard m s (event.Enter p.id.seq) o ≡ true) looked ok
          in let first_is : is_pei (first_unentered s p.id.core) p.id ≡ true = (and_parts (is_pei (first_unentered s p.id.core) p.id) (not (entry_is_taken m s p)) found).0
          in found_first p (is_entering kind) (first_unentered s a.core) (subst (λ c. is_pei (first_unentered s c) p.id ≡ true) core first_is) q ∙ r

  pei_known : (p : PeiLook) (ph : Phase) → IsGuardedWidely m s a kind → p.id.core ≡ a.core → look_of s (pei_id a p.id.seq) ≡ Some p → pei_row_by look m t part (is_entering kind) p ph ≡ Makes kind → pei_row_by (bank_look m s a.core) m t part (is_entering kind) p ph ≡ Makes kind
  pei_known p phase.Issued wide core looked e = enter_known p look.first_unentered wide core looked e
  pei_known p phase.Entered wide core looked e = e
  pei_known p phase.HostPlaced wide core looked e = e
  pei_known p phase.MemoryPlaced wide core looked e = e
  pei_known p phase.Read wide core looked e = e
  pei_known p phase.Sealed wide core looked e = e
  pei_known p phase.Acted wide core looked e = e

  -- the turn, by what the core knows in the state of all banks
  pub turn_known : (k : ℕ) (journal : List Event) (x : CoreNext) → HasBanks m → SameInBank m k s t → AgreementTells → LanesHoldPeis → Invariants m s → Agrees m s journal → AllByRecursion (λ p. bank_of m p.block ≡ k) t.peis → IsGuardedWidely m s a kind → (l : ℕ) → turn_in l x m t look part a (is_entering kind) ≡ Some (Makes kind) → turn_in l x m t (bank_look m s a.core) part a (is_entering kind) ≡ Some (Makes kind)
  turn_known k journal x banks h tells lanes inv g names wide zero e = program_known x wide e
  turn_known k journal x banks h tells lanes inv g names wide (suc l) e = ap Some (by (look_in t a.core a.lane) refl (same_Some _ (Makes kind) e))
    where
      by : (o : Option PeiLook) → look_in t a.core a.lane ≡ o → pei_turn_in m t look part (is_entering kind) o ≡ Makes kind → pei_turn_in m t (bank_look m s a.core) part (is_entering kind) o ≡ Makes kind
      by None q r = absurd (cc r)
      by (Some p) q r =
          let f : LanePei m k s a p = lane_pei m k s t (bank_look m s a.core) part part journal a kind banks h refl (λ b same. refl) tells lanes inv g names p q
          in pei_known p p.phase wide f.core f.looked r

-- ---- histories

-- the laws that this rests on
pub record RestsAlone : Type 0 where
  pub tells : AgreementTells
  pub lanes : LanesHoldPeis
  pub goes : MachineGoesOn

-- what holds after each history of banks that know no program
pub record RunsAlone (m : MachineSpec) (image : Contents) (history : List Placed) : Type 0 where
  pub legal : MachineLegal m image (journal_of history)
  pub unfenced : EachEvent (λ before e. IssuesUnfenced before e.actor e.kind) (journal_of history)
  pub kept : Kept m history

each_none : (P : List Event → Event → Type 0) → EachEvent P []
each_none P [] rest e same = absurd (cc same)
each_none P (x ∷ before) rest e same = absurd (cc same)

alone_event : RestsAlone → (m : MachineSpec) (image : Contents) (before : List Placed) (x : Placed) → HasBanks m → RunsAlone m image before → GoesInSome m image before x → MeetsSome m image (journal_of before) x.event × StandsRightly m before x
alone_event rests m image before x banks runs g =
    let journal : List Event = journal_of before
    in let a : Actor = x.event.actor
    in let s : State = state_after m journal
    in let order : MachineInOrder m journal = rests.goes.alone m image journal runs.legal runs.unfenced
    in let bank = same_in_bank m before x.bank banks runs.kept
    in let names = own_names m before x.bank (runs.kept.issued x.bank)
    in let row = turn_known m s (state_after m (log_of x.bank before)) g.row.look (flat_block image (log_of x.bank before)) a x.event.kind x.bank journal g.row.next banks bank rests.tells rests.lanes order.invariants order.sound.agrees names g.guarded a.lane.0 g.row.row
    in let r = turn_is rests.tells rests.lanes m image x.bank (state_after m (log_of x.bank before)) (bank_look m s a.core) (flat_block image (log_of x.bank before)) journal a x.event.kind g.row.next banks order bank refl
    (λ b own. runs.kept.memory image b ∙ ap (λ k. flat_block image (log_of k before) b) own) names g.alone g.fenced (is_entering x.event.kind) a.lane.0 g.row.made row
    in (
      (g.row.next, rests.goes.meets g.row.next m image journal x.event order g.actor r.2 (subst (λ n. n < m.events) (sym (length-map before (λ (y : Placed). y.event))) g.room, r.0)),
      r.1,
    )

alone_on : RestsAlone → (m : MachineSpec) (image : Contents) → HasBanks m → (before : List Placed) (x : Placed) → GoesInSome m image before x → RunsAlone m image before → RunsAlone m image (before ++ x ∷ [])
alone_on rests m image banks before x g runs =
    let r = alone_event rests m image before x banks runs g
    in record {
      legal = subst (MachineLegal m image) (sym (journal_of-push before x)) (each_push (MeetsSome m image) (journal_of before) x.event runs.legal r.0);
      unfenced = subst (EachEvent (λ events e. IssuesUnfenced events e.actor e.kind)) (sym (journal_of-push before x)) (each_push (λ events e. IssuesUnfenced events e.actor e.kind) (journal_of before) x.event runs.unfenced g.unfenced);
      kept = kept_step m before x r.1 runs.kept;
    }

pub banks_alone : RestsAlone → (m : MachineSpec) (image : Contents) (history : List Placed) → HasBanks m → EachPlaced (GoesInSome m image) history → RunsAlone m image history
banks_alone rests m image history banks each =
    placed_induction (GoesInSome m image) (RunsAlone m image) (record { legal = each_none (MeetsSome m image); unfenced = each_none (λ events e. IssuesUnfenced events e.actor e.kind); kept = kept_at_start m }) (alone_on rests m image banks) history each

pub alone_stand : RestsAlone → (m : MachineSpec) (image : Contents) (history : List Placed) → HasBanks m → EachPlaced (GoesInSome m image) history → EachPlaced (StandsRightly m) history
alone_stand rests m image history banks each before rest x same =
    (alone_event rests m image before x banks (banks_alone rests m image before banks (placed_prefix (GoesInSome m image) before (x ∷ rest) (subst (EachPlaced (GoesInSome m image)) same each))) (each before rest x same)).1
