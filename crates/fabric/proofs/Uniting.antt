-- The events of banks, made again on one machine.
use Rattle.std.proofs.Common.{◌≡◌, ℕ, zero, suc, ◌+◌, ◌<◌, ◌≤◌, inl, inr, Bool, true, false, nat_lt, nat_le, IsTrue, List, [], ◌∷◌, ◌++◌, map, length, Option, Some, None, option_map, refl, sym, ◌∙◌, ap, subst, arith}
use Rattle.std.specs.List.{AllByRecursion, range_with_len}
use Rattle.std.proofs.lemmas.Bool.{and_parts, ltb-true, ltb-false, leb-true}
use Rattle.std.proofs.lemmas.List.{append_assoc}
use Rattle.std.proofs.lemmas.Option.{same_Some}
use Rattle.pei_types.specs.declared.identifiers.Actor.{Actor}
use Rattle.pei_types.specs.declared.identifiers.Block.{Block}
use Rattle.pei_types.specs.declared.identifiers.BlockNo.{BlockNo}
use Rattle.pei_types.specs.declared.identifiers.Lane.{Lane}
use Rattle.pei_types.specs.declared.identifiers.PeiId.{PeiId}
use Rattle.pei_types.specs.declared.calls.Call.{Call}
use Rattle.pei_types.specs.declared.calls.Call.TheVariants as call
use Rattle.pei_types.specs.declared.inflight_looks.PeiLook.{PeiLook}
use Rattle.pei_types.specs.declared.operations.Op.{Op}
use Rattle.pei_types.specs.declared.operations.Operands.{Operands}
use Rattle.pei_types.specs.declared.events.Event.{Event}
use Rattle.pei_types.specs.declared.events.EventKind.{EventKind}
use Rattle.pei_types.specs.declared.events.EventKind.TheVariants as event
use Rattle.pei_types.specs.declared.machines.MachineSpec.{MachineSpec}
use Rattle.pei_types.specs.declared.stamps.Stamped.{Stamped}
use Rattle.pei_types.specs.Blocks.{block_of}
use Rattle.pei_types.specs.Calls.{Answers, AnswersNext, BelongsTo, is_actor_of, side_of}
use Rattle.pei_types.specs.MachineState.{State, conflict, entry_is_taken, look_in, state_after}
use Rattle.pei_types.specs.Core.{CoreNext, Calls, Busy, Ended}
use Rattle.pei_types.specs.FlatMemory.{flat_block}
use Rattle.pei_types.specs.Guard.{guard}
use Rattle.pei_types.specs.Legal.{EachEvent, MeetsAll, MeetsSome}
use Rattle.pei_types.specs.Next.{Makes, call_row, lane_row, race_or}
use Rattle.pei_types.specs.Program.{Contents}
use Rattle.pei_types.specs.Recency.{list_at}
use Rattle.pei_types.specs.Turns.{is_entering, lane_turn, program_turn}
use Rattle.history_laws.specs.Fits.{EntersFree}
use Rattle.history_laws.specs.Members.{In}
use Rattle.machine_laws.specs.InOrder.{MachineInOrder}
use Rattle.bank_laws.specs.Banks.{EachPlaced, Placed}
use Rattle.bank_laws.specs.Logs.{AreStamped, NextInLogs, event_with, history_below, merged}
use Rattle.bank_laws.specs.Rows.{GoesInSome, IsRowOfBank}
use Rattle.journal.specs.Recorded.{Recorded}
use Rattle.fabric.specs.Banks.{BankHistory, bank_at_start, events_of}
use Rattle.fabric.specs.ValidEvents.{EventFits, KindFits, ProgramFits}
use Rattle.fabric.specs.Kept.{Keeps}
use Rattle.fabric.specs.Laws.{MergeLaws}
use Rattle.fabric.specs.Merge.{CanMerge, IsVouched, logs_of, without_log}
use Rattle.fabric.specs.Replay.{IsAgain, IsLanesAgain, IsProgramsAgain, IsRowOfCall}
use Rattle.fabric.specs.Whole.{Whole, content_in}
use Rattle.fabric.proofs.BankRows.{has_banks}
use Rattle.fabric.proofs.Going.{flat_call, flat_lane, issues_fit, positive_turn}
use Rattle.fabric.proofs.Rows.{guard_by_core}
use Rattle.pei_types.proofs.Histories.{each_of_from}
use Rattle.pei_types.proofs.Identities.{core_within}

-- ---- an event that the machine makes again

-- a load that is not a race does not tell its instruction
load_again : (o : Option PeiId) (pc : ℕ) (b : BlockNo) (kind : EventKind) (addr value : ℕ) → Makes (race_or o pc b kind) ≡ Makes (event.Load addr value) → Makes (race_or o 0 b kind) ≡ Makes (event.Load addr value)
load_again None pc b kind addr value e = e
load_again (Some by) pc b kind addr value e = absurd (cc e)

store_again : (o : Option PeiId) (pc : ℕ) (b : BlockNo) (kind : EventKind) (addr value : ℕ) → Makes (race_or o pc b kind) ≡ Makes (event.Store addr value) → Makes (race_or o 0 b kind) ≡ Makes (event.Store addr value)
store_again None pc b kind addr value e = e
store_again (Some by) pc b kind addr value e = absurd (cc e)

free_if : (m : MachineSpec) (s : State) (a : Actor) (kind : EventKind) → is_entering kind ≡ true → EntersFree m s a kind → (p : PeiLook) → look_in s a.core a.lane ≡ Some p → entry_is_taken m s p ≡ false
free_if m s a (event.Enter seq) h free = free
free_if m s a _ h free = absurd (cc h)

lane_in : (m : MachineSpec) (a : Actor) → IsTrue (is_actor_of m a) → a.lane.0 ≤ m.buffer
lane_in m a h = leb-true a.lane.0 m.buffer (and_parts (nat_lt a.core.0 m.cores) (nat_le a.lane.0 m.buffer) h).1

module _ (v : Whole) (journal : Recorded) (image : Contents) (k : Keeps v journal image) (a : Actor) (room : length journal.events < v.machine.events) where
  abbrev m : MachineSpec
  m = v.machine

  abbrev s : State
  s = state_after m journal.events

  abbrev flat : BlockNo → Block
  flat = flat_block image journal.events

  row_back : (y : Call) (kind : EventKind) → call_row m s flat a.core y ≡ Makes kind → call_row m v.state (content_in v) a.core y ≡ Makes kind
  row_back y kind h = flat_call v journal image a.core y k ∙ h

  load_case : (addr value : ℕ) (y : Call) → KindFits m.blocks (event.Load addr value) → call_row m s flat a.core y ≡ Makes (event.Load addr value) → Answers y (event.Load addr value) → IsRowOfCall v a.core (call.Load 0 addr) (event.Load addr value)
  load_case addr value (call.Load pc at) fits row same =
      record {
        fits = fits;
        row = row_back (call.Load 0 addr) (event.Load addr value) (load_again (conflict s (block_of addr) false) pc (block_of addr) _ addr value (subst (λ (i : ℕ). call_row m s flat a.core (call.Load pc i) ≡ Makes (event.Load addr value)) (sym same) row));
      }
  load_case addr value (call.Store pc at stored) fits row same = absurd same
  load_case addr value (call.Pei o b operands) fits row same = absurd same
  load_case addr value call.Fence fits row same = absurd same
  load_case addr value (call.Out n) fits row same = absurd same
  load_case addr value (call.End how) fits row same = absurd same

  store_case : (addr value : ℕ) (y : Call) → KindFits m.blocks (event.Store addr value) → call_row m s flat a.core y ≡ Makes (event.Store addr value) → Answers y (event.Store addr value) → IsRowOfCall v a.core (call.Store 0 addr value) (event.Store addr value)
  store_case addr value (call.Store pc at stored) fits row same =
      record {
        fits = fits;
        row = row_back (call.Store 0 addr value) (event.Store addr value) (store_again (conflict s (block_of addr) true) pc (block_of addr) _ addr value
            (subst (λ (i : ℕ). call_row m s flat a.core (call.Store pc i value) ≡ Makes (event.Store addr value)) (sym same.0) (subst (λ (n : ℕ). call_row m s flat a.core (call.Store pc at n) ≡ Makes (event.Store addr value)) (sym same.1) row)));
      }
  store_case addr value (call.Load pc at) fits row same = absurd same
  store_case addr value (call.Pei o b operands) fits row same = absurd same
  store_case addr value call.Fence fits row same = absurd same
  store_case addr value (call.Out n) fits row same = absurd same
  store_case addr value (call.End how) fits row same = absurd same

  issue_case : (seq : ℕ) (l : Lane) (o : Op) (b : BlockNo) (operands : Operands) (y : Call) → KindFits m.blocks (event.Issue seq l o b operands) → call_row m s flat a.core y ≡ Makes (event.Issue seq l o b operands) → Answers y (event.Issue seq l o b operands) → IsRowOfCall v a.core (call.Pei o b operands) (event.Issue seq l o b operands)
  issue_case seq l o b operands (call.Pei o' b' operands') fits row same =
      let kind = event.Issue seq l o b operands
      in record {
        fits = fits;
        row = row_back (call.Pei o b operands) kind
            (subst (λ (p : Op). call_row m s flat a.core (call.Pei p b operands) ≡ Makes kind) (sym same.0)
            (subst (λ (c : BlockNo). call_row m s flat a.core (call.Pei o' c operands) ≡ Makes kind) (sym same.1)
            (subst (λ (x : Operands). call_row m s flat a.core (call.Pei o' b' x) ≡ Makes kind) (sym same.2) row)));
      }
  issue_case seq l o b operands (call.Load pc at) fits row same = absurd same
  issue_case seq l o b operands (call.Store pc at stored) fits row same = absurd same
  issue_case seq l o b operands call.Fence fits row same = absurd same
  issue_case seq l o b operands (call.Out n) fits row same = absurd same
  issue_case seq l o b operands (call.End how) fits row same = absurd same

  begin_case : (y : Call) → call_row m s flat a.core y ≡ Makes event.FenceBegin → Answers y event.FenceBegin → IsRowOfCall v a.core call.Fence event.FenceBegin
  begin_case call.Fence row same = record { fits = tt; row = row_back call.Fence event.FenceBegin row }
  begin_case (call.Load pc at) row same = absurd same
  begin_case (call.Store pc at stored) row same = absurd same
  begin_case (call.Pei o b operands) row same = absurd same
  begin_case (call.Out n) row same = absurd same
  begin_case (call.End how) row same = absurd same

  end_case : (y : Call) → call_row m s flat a.core y ≡ Makes event.FenceEnd → Answers y event.FenceEnd → IsRowOfCall v a.core call.Fence event.FenceEnd
  end_case call.Fence row same = record { fits = tt; row = row_back call.Fence event.FenceEnd row }
  end_case (call.Load pc at) row same = absurd same
  end_case (call.Store pc at stored) row same = absurd same
  end_case (call.Pei o b operands) row same = absurd same
  end_case (call.Out n) row same = absurd same
  end_case (call.End how) row same = absurd same

  guard_back : (kind : EventKind) → IsTrue (guard m s a kind) → IsTrue (guard m v.state a kind)
  guard_back kind g = subst (λ (t : State). IsTrue (guard m t a kind)) (sym k.state) g

  -- the call that a core's event answers
  record Answered (kind : EventKind) : Type 0 where
    call : Call
    row : call_row m s flat a.core call ≡ Makes kind
    answers : Answers call kind

  answered : (x : CoreNext) (kind : EventKind) → program_turn m s flat a.core x ≡ Some (Makes kind) → AnswersNext x kind → Answered kind
  answered (Calls y) kind turn answers = record { call = y; row = same_Some (call_row m s flat a.core y) (Makes kind) turn; answers = answers }
  answered (Busy register pei) kind turn answers = absurd answers
  answered (Ended how) kind turn answers = absurd answers

  programs_again : (x : CoreNext) (kind : EventKind) → a.lane.0 ≡ 0 → KindFits m.blocks kind → program_turn m s flat a.core x ≡ Some (Makes kind) → BelongsTo (side_of kind) x journal.events a kind → IsTrue (guard m s a kind) → IsProgramsAgain v a.core kind
  programs_again x (event.Load addr value) own fits turn of g = let y = answered x (event.Load addr value) turn of.1 in load_case addr value y.call fits y.row y.answers
  programs_again x (event.Store addr value) own fits turn of g = let y = answered x (event.Store addr value) turn of.1 in store_case addr value y.call fits y.row y.answers
  programs_again x (event.Issue seq l o b operands) own fits turn of g =
      let y = answered x (event.Issue seq l o b operands) turn of.1
      in (issues_fit v journal image a.core k room, issue_case seq l o b operands y.call fits y.row y.answers)
  programs_again x event.FenceBegin own fits turn of g = let y = answered x event.FenceBegin turn of.1 in begin_case y.call y.row y.answers
  programs_again x event.FenceEnd own fits turn of g = let y = answered x event.FenceEnd turn of.1 in end_case y.call y.row y.answers
  programs_again x (event.Out value) own fits turn of g = tt
  programs_again x (event.Race pc b by) own fits turn of g = tt
  programs_again x (event.End how) own fits turn of g = tt
  programs_again x (event.Enter seq) own fits turn of g = absurd (omega (arith, own, of.0))
  programs_again x (event.Place seq place) own fits turn of g = absurd (omega (arith, own, of.0))
  programs_again x (event.Read seq) own fits turn of g = absurd (omega (arith, own, of.0))
  programs_again x (event.Seal seq vault) own fits turn of g = absurd (omega (arith, own, of.0))
  programs_again x (event.Act seq reply) own fits turn of g = absurd (omega (arith, own, of.0))
  programs_again x (event.Leave seq) own fits turn of g = absurd (omega (arith, own, of.0))
  programs_again x (event.Invalidate c b) own fits turn of g = record { message = refl; guarded = guard_by_core m v.state a (event.Invalidate c b) refl (guard_back (event.Invalidate c b) g); memory = tt }
  programs_again x (event.Downgrade c b) own fits turn of g = record { message = refl; guarded = guard_by_core m v.state a (event.Downgrade c b) refl (guard_back (event.Downgrade c b) g); memory = tt }
  programs_again x (event.EvictL1 c b) own fits turn of g = record { message = refl; guarded = guard_by_core m v.state a (event.EvictL1 c b) refl (guard_back (event.EvictL1 c b) g); memory = tt }
  programs_again x (event.Clean b) own fits turn of g = record { message = refl; guarded = guard_by_core m v.state a (event.Clean b) refl (guard_back (event.Clean b) g); memory = tt }
  programs_again x (event.EvictLlc b) own fits turn of g = record { message = refl; guarded = guard_by_core m v.state a (event.EvictLlc b) refl (guard_back (event.EvictLlc b) g); memory = tt }
  programs_again x (event.Fill b) own fits turn of g = record { message = refl; guarded = guard_by_core m v.state a (event.Fill b) refl (guard_back (event.Fill b) g); memory = fits }
  programs_again x (event.GrantS b) own fits turn of g = record { message = refl; guarded = guard_by_core m v.state a (event.GrantS b) refl (guard_back (event.GrantS b) g); memory = tt }
  programs_again x (event.GrantE b) own fits turn of g = record { message = refl; guarded = guard_by_core m v.state a (event.GrantE b) refl (guard_back (event.GrantE b) g); memory = tt }
  programs_again x (event.GrantM b) own fits turn of g = record { message = refl; guarded = guard_by_core m v.state a (event.GrantM b) refl (guard_back (event.GrantM b) g); memory = tt }

-- an event that meets all clauses is made again
pub again : (v : Whole) (journal : Recorded) (image : Contents) (e : Event) (x : CoreNext) → Keeps v journal image → MeetsAll x v.machine image journal.events e → EntersFree v.machine (state_after v.machine journal.events) e.actor e.kind → EventFits v.machine.blocks e → IsAgain e.actor.lane.0 v e.actor e.kind
again v journal image e x k all free fits = by e.actor.lane.0 refl
  where
    a : Actor
    a = e.actor

    m : MachineSpec
    m = v.machine

    s : State
    s = state_after m journal.events

    actor : IsTrue (is_actor_of m a)
    actor = all.flat.calls.0

    lanes : (l : ℕ) → a.lane.0 ≡ suc l → IsLanesAgain v a.core a.lane e.kind
    lanes l at =
        record {
          lane = record { core = core_within m a actor; first = omega (arith, at); last = lane_in m a actor };
          row =
              flat_lane v journal image (is_entering e.kind) a.core a.lane k
              ∙ same_Some (lane_row m s (flat_block image journal.events) (is_entering e.kind) (look_in s a.core a.lane)) (Makes e.kind) (sym (positive_turn a.lane.0 x m image journal.events a (is_entering e.kind) (omega (arith, at))) ∙ all.next.1);
          free = λ enters. subst (λ (t : State). (p : PeiLook) → look_in t a.core a.lane ≡ Some p → entry_is_taken m t p ≡ false) (sym k.state) (free_if m s a e.kind enters free);
        }

    by : (n : ℕ) → a.lane.0 ≡ n → IsAgain n v a e.kind
    by zero at = (
      core_within m a actor,
      programs_again v journal image k a all.next.0 x e.kind at (subst (λ n. ProgramFits m.blocks n e.kind) at fits)
          (subst (λ n. lane_turn n x m image journal.events a (is_entering e.kind) ≡ Some (Makes e.kind)) at all.next.1) all.flat.calls.1 all.guarded,
    )
    by (suc l) at = lanes l at

-- ---- what banks vouch for

fits_in : (blocks : ℕ) (log : List Stamped) (x : Stamped) → AllByRecursion (EventFits blocks) (map (λ (y : Stamped). y.event) log) → In x log → EventFits blocks x.event
fits_in blocks [] x h i = absurd i
fits_in blocks (y ∷ log) x h (inl same) = subst (λ (z : Stamped). EventFits blocks z.event) (sym same) h.0
fits_in blocks (y ∷ log) x h (inr there) = fits_in blocks log x h.1 there

stamp_in : (n : ℕ) (log : List Stamped) (x : Stamped) → AllByRecursion (λ (y : Stamped). y.stamp < n) log → In x log → x.stamp < n
stamp_in n [] x h i = absurd i
stamp_in n (y ∷ log) x h (inl same) = subst (λ (z : Stamped). z.stamp < n) (sym same) h.0
stamp_in n (y ∷ log) x h (inr there) = stamp_in n log x h.1 there

heads : (x y : BankHistory) (xs ys : List BankHistory) → x ∷ xs ≡ y ∷ ys → x ≡ y
heads x y xs ys e = cc

tails : (x y : BankHistory) (xs ys : List BankHistory) → x ∷ xs ≡ y ∷ ys → xs ≡ ys
tails x y xs ys e = cc

no_banks : (x : BankHistory) (xs : List BankHistory) → x ∷ xs ≡ [] → ⊥
no_banks x xs e = cc

-- the banks from `start` on, as they begin
abbrev AreFrom : MachineSpec → Contents → ℕ → ℕ → List BankHistory → Type 0
AreFrom m image start count banks = map without_log banks ≡ map (bank_at_start m image) (range_with_len start count)

rows_at : (m : MachineSpec) (image : Contents) (banks : List BankHistory) (start count : ℕ) → AreFrom m image start count banks → AllByRecursion IsVouched banks → (k : ℕ) → EachEvent (IsRowOfBank m image (start + k)) (map (λ (x : Stamped). x.event) (list_at (logs_of banks) k))
rows_at m image [] start count are h zero = each_of_from (IsRowOfBank m image (start + 0)) [] tt
rows_at m image [] start count are h (suc k) = each_of_from (IsRowOfBank m image (start + suc k)) [] tt
rows_at m image (b ∷ banks) start zero are h k = absurd (no_banks (without_log b) (map without_log banks) are)
rows_at m image (b ∷ banks) start (suc n) are h zero =
    let head = heads (without_log b) (bank_at_start m image start) (map without_log banks) (map (bank_at_start m image) (range_with_len (start + 1) n)) are
    in subst (λ (i : ℕ). EachEvent (IsRowOfBank m image i) (events_of b)) (let same : start ≡ start + 0 = omega arith in same)
    (subst (λ (v : BankHistory). EachEvent (IsRowOfBank v.machine v.image v.bank) (events_of b)) head h.0.rows)
rows_at m image (b ∷ banks) start (suc n) are h (suc k) =
    let tail = tails (without_log b) (bank_at_start m image start) (map without_log banks) (map (bank_at_start m image) (range_with_len (start + 1) n)) are
    in subst (λ (i : ℕ). EachEvent (IsRowOfBank m image i) (map (λ (x : Stamped). x.event) (list_at (logs_of banks) k))) (let same : start + 1 + k ≡ start + suc k = omega arith in same) (rows_at m image banks (start + 1) n tail h.1 k)

-- an event of a bank is below the machine's number of events, and what a program made the machine can be asked for
item_at : (m : MachineSpec) (image : Contents) (banks : List BankHistory) (start count : ℕ) → AreFrom m image start count banks → AllByRecursion IsVouched banks → (k : ℕ) (x : Stamped) → In x (list_at (logs_of banks) k) → (x.stamp < m.events) × EventFits m.blocks x.event
item_at m image [] start count are h zero x i = absurd i
item_at m image [] start count are h (suc k) x i = absurd i
item_at m image (b ∷ banks) start zero are h k x i = absurd (no_banks (without_log b) (map without_log banks) are)
item_at m image (b ∷ banks) start (suc n) are h zero x i =
    let head = heads (without_log b) (bank_at_start m image start) (map without_log banks) (map (bank_at_start m image) (range_with_len (start + 1) n)) are
    in subst (λ (v : BankHistory). (x.stamp < v.machine.events) × EventFits v.machine.blocks x.event) head (stamp_in b.machine.events b.log x h.0.within i, fits_in b.machine.blocks b.log x h.0.fits i)
item_at m image (b ∷ banks) start (suc n) are h (suc k) x i =
    item_at m image banks (start + 1) n (tails (without_log b) (bank_at_start m image start) (map without_log banks) (map (bank_at_start m image) (range_with_len (start + 1) n)) are) h.1 k x i

-- ---- the journal of all banks

-- What the machine says of the event with stamp i, behind those with smaller stamps.
pub record Stepped (m : MachineSpec) (image : Contents) (i : ℕ) (logs : List (List Stamped)) (e : Event) : Type 0 where
  pub call : CoreNext
  pub meets : MeetsAll call m image (merged i logs) e
  pub free : EntersFree m (state_after m (merged i logs)) e.actor e.kind
  pub order : MachineInOrder m (merged i logs ++ e ∷ [])
  pub fits : EventFits m.blocks e
  pub more : merged (suc i) logs ≡ merged i logs ++ e ∷ []

module _ (laws : MergeLaws) (m : MachineSpec) (image : Contents) (n : ℕ) (banks : List BankHistory) (can : CanMerge m image n banks) (vouched : AllByRecursion IsVouched banks) where
  abbrev logs : List (List Stamped)
  logs = logs_of banks

  -- there is room for all events
  pub few_events : (last : ℕ) → AreStamped last logs → last ≤ m.events
  few_events zero h = omega arith
  few_events (suc i) h =
      let t = h.there i (omega arith)
      in let under : t.1.stamp < m.events = (item_at m image banks 0 m.banks can.all vouched t.0 t.1 t.2).0
      in let at : t.1.stamp ≡ i = t.3
      in omega (arith, under, at)

  goes : EachPlaced (GoesInSome m image) (history_below n logs)
  goes =
      laws.machine.logs m image n logs (few_events n can.stamps) can.stamps
      (λ k. subst (λ (i : ℕ). EachEvent (IsRowOfBank m image i) (map (λ (x : Stamped). x.event) (list_at logs k))) (let same : 0 + k ≡ k = omega arith in same) (rows_at m image banks 0 m.banks can.all vouched k))
      can.actors can.guarded can.alone can.fenced can.unfenced

  front_goes : (i : ℕ) → i ≤ n → EachPlaced (GoesInSome m image) (history_below i logs)
  front_goes i within before rest x is =
      let front = laws.logs.front i n logs within
      in goes before (rest ++ front.0) x (front.1 ∙ ap (λ (h : List Placed). h ++ front.0) is ∙ append_assoc before (x ∷ rest) front.0)

  in_order : (i : ℕ) → i ≤ n → MachineInOrder m (merged i logs)
  in_order i within = laws.machine.order m image (history_below i logs) (has_banks laws.bank m) (front_goes i within)

  pub step_at : (i : ℕ) (x : Placed) → event_with i logs ≡ Some x → Stepped m image i logs x.event
  step_at i x found =
      let less : i < n = laws.logs.found n i logs x can.stamps found
      in let next : NextInLogs n i logs = laws.logs.next n i logs can.stamps less
      in let same : next.placed ≡ x = same_Some next.placed x (sym next.found ∙ found)
      in let some : MeetsSome m image (merged i logs) next.placed.event = laws.machine.legal m image (history_below n logs) (has_banks laws.bank m) goes (merged i logs) next.rest next.placed.event next.whole
      in subst (λ (y : Placed). Stepped m image i logs y.event) same (record {
        call = some.0;
        meets = some.1;
        free = laws.run.goes.free some.0 m image (merged i logs) next.placed.event (in_order i (omega (arith, less))) some.1;
        order = subst (MachineInOrder m) next.more (in_order (suc i) (omega (arith, less)));
        fits = subst (EventFits m.blocks) next.event (item_at m image banks 0 m.banks can.all vouched next.placed.bank next.item next.there).1;
        more = next.more;
      })

-- where no log has the event, all were made
pub all_made : MergeLaws → (n i : ℕ) (logs : List (List Stamped)) → AreStamped n logs → event_with i logs ≡ None → n ≤ i
all_made laws n i logs h none = by (nat_lt i n) refl
  where
    by : (t : Bool) → nat_lt i n ≡ t → n ≤ i
    by true less = absurd (cc (sym none ∙ (laws.logs.next n i logs h (ltb-true i n less)).found))
    by false more = ltb-false i n more

-- the event that was found
pub found_some : (o : Option Placed) (e : Event) → Some e ≡ option_map (λ (x : Placed). x.event) o → (x : Placed) × (o ≡ Some x) × (x.event ≡ e)
found_some None e h = absurd (cc h)
found_some (Some x) e h = (x, refl, sym (same_Some e x.event h))

pub found_none : (o : Option Placed) → None ≡ option_map (λ (x : Placed). x.event) o → o ≡ None
found_none None h = refl
found_none (Some x) h = absurd (cc h)
