-- A legal journal, each of whose events is made in the right bank, goes by rows in its banks.
use Rattle.std.proofs.Common.{◌≡◌, ℕ, zero, suc, ◌<◌, Bool, true, ◌&&◌, List, [], ◌∷◌, ◌++◌, Option, Some, None, refl, sym, ◌∙◌, ap, subst, arith, eq-eqb}
use Rattle.std.proofs.lemmas.Bool.{and_parts}
use Rattle.std.specs.List.{AllByRecursion}
use Rattle.std.proofs.lemmas.List.{append_assoc, append-nil, length-map, map-append}
use Rattle.std.proofs.lemmas.Option.{same_Some}
use Rattle.pei_types.specs.declared.identifiers.Actor.{Actor}
use Rattle.pei_types.specs.declared.identifiers.Block.{Block}
use Rattle.pei_types.specs.declared.identifiers.BlockNo.{BlockNo}
use Rattle.pei_types.specs.declared.identifiers.PeiId.{PeiId}
use Rattle.pei_types.specs.declared.calls.Call.{Call}
use Rattle.pei_types.specs.declared.calls.Call.TheVariants as call
use Rattle.pei_types.specs.declared.inflight_looks.PeiLook.{PeiLook}
use Rattle.pei_types.specs.declared.inflight_looks.Phase.{Phase}
use Rattle.pei_types.specs.declared.inflight_looks.Phase.TheVariants as phase
use Rattle.pei_types.specs.declared.events.Event.{Event}
use Rattle.pei_types.specs.declared.events.EventKind.{EventKind}
use Rattle.pei_types.specs.declared.machines.MachineSpec.{MachineSpec}
use Rattle.pei_types.specs.Blocks.{block_of, same_core, same_lane}
use Rattle.pei_types.specs.MachineState.{State, state_after, fence_of, free_lane, first_unentered, look_in, look_of, pei_id}
use Rattle.pei_types.specs.Core.{CoreNext, Calls, Busy, Ended, events_of, next_of_core}
use Rattle.pei_types.specs.FlatMemory.{flat_block}
use Rattle.pei_types.specs.Legal.{Legal, Meets}
use Rattle.pei_types.specs.Next.{Makes, call_row, pei_row, lane_row, fence_row, enter_row, CoreLook, call_row_by, pei_row_by}
use Rattle.pei_types.specs.Program.{Listing, Contents}
use Rattle.pei_types.specs.Turns.{is_entering, lane_turn, program_turn}
use Rattle.pei_types.proofs.Identities.{look_core}
use Rattle.pei_types.proofs.Lists.{found_passes}
use Rattle.history_laws.specs.Laws.{AgreementTells}
use Rattle.history_laws.specs.Members.{In}
use Rattle.history_laws.specs.Sound.{GoesByRow}
use Rattle.history_laws.specs.TrackedPeis.{Agrees}
use Rattle.coherence_laws.specs.Invariants.{Invariants, HasSets}
use Rattle.coherence_laws.specs.Laws.{LanesHoldPeis}
use Rattle.machine_laws.specs.InOrder.{RunInOrder}
use Rattle.bank_laws.specs.Banks.{HasBanks, Placed, EachPlaced, bank_of, journal_of, log_of}
use Rattle.bank_laws.specs.Parts.{SameInBank, is_in_bank}
use Rattle.bank_laws.specs.Rows.{IsCallOf, IsMadeIn, GoesInBank, MadeRightly, bank_look, program_turn_in, pei_turn_in, turn_in, without_waits}
use Rattle.bank_laws.proofs.Cores.{alike_for_core}
use Rattle.bank_laws.proofs.Histories.{placed_push, placed_none, journal_of-push}
use Rattle.bank_laws.proofs.Lists.{found_in}
use Rattle.bank_laws.proofs.Locality.{load_same, store_same, entered_same}
use Rattle.bank_laws.proofs.Main.{find_there, look_is, look_same, name_is, issue_is}
use Rattle.bank_laws.proofs.Projection.{own_names, same_in_bank}
use Rattle.bank_laws.proofs.Rows.{Rests, Runs, banks_run}
use Rattle.history_laws.proofs.Lists.{each_of, in_filter, filter_in}

module _ (m : MachineSpec) (k : ℕ) (s t : State) (look : CoreLook) (flat part : BlockNo → Block) (a : Actor) (kind : EventKind) (banks : HasBanks m) (h : SameInBank m k s t) (own : bank_look m s a.core ≡ look) (same : (b : BlockNo) → bank_of m b ≡ k → flat b ≡ part b) (sets : HasSets m s) where
  fence_back : (o : Option (List PeiId)) → fence_row o ≡ Makes kind → fence_row (without_waits o) ≡ Makes kind
  fence_back None e = e
  fence_back (Some []) e = e
  fence_back (Some (w ∷ ws)) e = absurd (cc e)

  call_back : (x : Call) → IsCallOf m k (Calls x) → call_row m s flat a.core x ≡ Makes kind → call_row_by (bank_look m s a.core) m t part a.core x ≡ Makes kind
  call_back (call.Load pc addr) made e = sym (ap Makes (load_same m k s t flat part a.core pc addr banks sets h made (same (block_of addr) made))) ∙ e
  call_back (call.Store pc addr value) made e = sym (ap Makes (store_same m k s t a.core pc addr value banks sets h made)) ∙ e
  call_back (call.Pei o b operands) made e = sym (issue_is m s a.core o b operands (free_lane m s a.core)) ∙ e
  call_back call.Fence made e = fence_back (fence_of s a.core) e
  call_back (call.Out value) made e = e
  call_back (call.End how) made e = e

  program_back : (x : CoreNext) → IsCallOf m k x → program_turn m s flat a.core x ≡ Some (Makes kind) → program_turn_in m t look part a.core x ≡ Some (Makes kind)
  program_back (Calls x) made e = ap Some (subst (λ l. call_row_by l m t part a.core x ≡ Makes kind) own (call_back x made (same_Some (call_row m s flat a.core x) (Makes kind) e)))
  program_back (Busy register pei) made e = absurd (cc e)
  program_back (Ended how) made e = absurd (cc e)

  phase_back : (granted : Bool) (p : PeiLook) (ph : Phase) → bank_of m p.block ≡ k → p.id.core ≡ a.core → pei_row m s flat granted p ph ≡ Makes kind → pei_row_by look m t part granted p ph ≡ Makes kind
  phase_back granted p phase.Issued there core e = sym (ap (λ c. enter_row p granted (first_unentered s c)) core ∙ ap (λ (l : CoreLook). enter_row p granted l.first_unentered) own) ∙ e
  phase_back granted p phase.Entered there core e = sym (entered_same m k s t flat part granted p phase.Entered banks sets h there (same p.block there) refl) ∙ e
  phase_back granted p phase.HostPlaced there core e = sym (entered_same m k s t flat part granted p phase.HostPlaced banks sets h there (same p.block there) refl) ∙ e
  phase_back granted p phase.MemoryPlaced there core e = sym (entered_same m k s t flat part granted p phase.MemoryPlaced banks sets h there (same p.block there) refl) ∙ e
  phase_back granted p phase.Read there core e = sym (entered_same m k s t flat part granted p phase.Read banks sets h there (same p.block there) refl) ∙ e
  phase_back granted p phase.Sealed there core e = sym (entered_same m k s t flat part granted p phase.Sealed banks sets h there (same p.block there) refl) ∙ e
  phase_back granted p phase.Acted there core e = sym (entered_same m k s t flat part granted p phase.Acted banks sets h there (same p.block there) refl) ∙ e

  -- the PEI in a lane is found in its bank
  look_back : AgreementTells → LanesHoldPeis → Invariants m s → (journal : List Event) → Agrees m s journal → AllByRecursion (λ p. bank_of m p.block ≡ k) t.peis → (p : PeiLook) → look_in s a.core a.lane ≡ Some p → bank_of m p.block ≡ k → look_in t a.core a.lane ≡ Some p
  look_back tells lanes inv journal g names p here there =
      let test : PeiLook → Bool = λ x. same_core x.id.core a.core && same_lane x.lane a.lane
      in let in_s : In p s.peis = found_in test s.peis p here
      in let in_t : In p t.peis = (in_filter (is_in_bank m k) t.peis p (subst (In p) h.peis (filter_in (is_in_bank m k) s.peis p in_s (eq-eqb (bank_of m p.block) k there)))).0
      in let r = find_there test t.peis p in_t (found_passes test s.peis p here)
      in r.1 ∙ ap Some (one r.0 r.1)
    where
      one : (q : PeiLook) → look_in t a.core a.lane ≡ Some q → q ≡ p
      one q found =
          let in_t : In q t.peis = found_in (λ x. same_core x.id.core a.core && same_lane x.lane a.lane) t.peis q found
          in let e : is_in_bank m k q ≡ true = eq-eqb (bank_of m q.block) k (each_of (λ x. bank_of m x.block ≡ k) t.peis q names in_t)
          in let in_s : In q s.peis = (in_filter (is_in_bank m k) s.peis q (subst (In q) (sym h.peis) (filter_in (is_in_bank m k) t.peis q in_t e))).0
          in let core : q.id.core ≡ a.core = look_core t a.core a.lane q found
          in let looked : look_of s (pei_id a q.id.seq) ≡ Some q = subst (λ id. look_of s id ≡ Some q) (name_is q.id a.core core) (look_is tells m s journal q g in_s)
          in let lane : same_lane q.lane a.lane ≡ true = (and_parts (same_core q.id.core a.core) (same_lane q.lane a.lane) (found_passes (λ x. same_core x.id.core a.core && same_lane x.lane a.lane) t.peis q found)).1
          in same_Some q p (sym (lanes.placed m s a q.id.seq q inv looked lane) ∙ here)

  turn_back : AgreementTells → LanesHoldPeis → (image : Contents) (journal : List Event) (x : CoreNext) (granted : Bool) → state_after m journal ≡ s → flat_block image journal ≡ flat → Invariants m s → Agrees m s journal → AllByRecursion (λ p. bank_of m p.block ≡ k) t.peis → (l : ℕ) → IsMadeIn m k l x → ((p : PeiLook) → 0 < l → look_in s a.core a.lane ≡ Some p → bank_of m p.block ≡ k) → (lane_turn l x m image journal a granted ≡ Some (Makes kind)) → turn_in l x m t look part a granted ≡ Some (Makes kind)
  turn_back tells lanes image journal x granted state memory inv g names zero made lane e =
      program_back x made (subst (λ f. program_turn m s f a.core x ≡ Some (Makes kind)) memory (subst (λ z. program_turn m z (flat_block image journal) a.core x ≡ Some (Makes kind)) state e))
  turn_back tells lanes image journal x granted state memory inv g names (suc l) made lane e =
      ap Some (by (look_in s a.core a.lane) refl (subst (λ f. lane_row m s f granted (look_in s a.core a.lane) ≡ Makes kind) memory (subst (λ z. lane_row m z (flat_block image journal) granted (look_in z a.core a.lane) ≡ Makes kind) state (same_Some _ (Makes kind) e))))
    where
      by : (o : Option PeiLook) → look_in s a.core a.lane ≡ o → lane_row m s flat granted o ≡ Makes kind → pei_turn_in m t look part granted (look_in t a.core a.lane) ≡ Makes kind
      by None q r = absurd (cc r)
      by (Some p) q r =
          let there : bank_of m p.block ≡ k = lane p (omega arith) q
          in ap (pei_turn_in m t look part granted) (look_back tells lanes inv journal g names p q there) ∙ phase_back granted p p.phase there (look_core s a.core a.lane p q) r

-- ---- histories

back_event : Rests → (p : Listing) (m : MachineSpec) (image : Contents) (before : List Placed) (x : Placed) → HasBanks m → Runs p m image before → Meets p m image (journal_of before) x.event → GoesByRow p m image (journal_of before) x.event → MadeRightly p m image before x → GoesInBank p m image before x
back_event rests p m image before x banks runs met row made =
    let journal : List Event = journal_of before
    in let a : Actor = x.event.actor
    in let order : RunInOrder p m image journal = rests.legal.order p m image journal (rests.legal.legal p m image journal runs.rows)
    in record {
      room = subst (λ n. n < m.events) (length-map before (λ (y : Placed). y.event)) row.2.0;
      row = record {
        actor = row.0;
        made = made.call;
        row =
            turn_back m x.bank (state_after m journal) (state_after m (log_of x.bank before)) (bank_look m (state_after m (events_of a.core journal)) a.core) (flat_block image journal) (flat_block image (log_of x.bank before)) a x.event.kind banks
            (same_in_bank m before x.bank banks runs.kept) (look_same m (state_after m journal) (state_after m (events_of a.core journal)) a.core (alike_for_core m journal a.core).same)
            (λ b own. runs.kept.memory image b ∙ ap (λ k. flat_block image (log_of k before) b) own) order.invariants.sets rests.tells rests.lanes image journal (next_of_core p m image journal a.core) (is_entering x.event.kind) refl refl order.invariants order.run.sound.agrees
            (own_names m before x.bank (runs.kept.issued x.bank)) a.lane.0 made.call made.lane row.2.1;
      };
      alone = met.flat.directory;
      fenced = met.flat.fence;
    }

back_from : Rests → (p : Listing) (m : MachineSpec) (image : Contents) (past rest : List Placed) → HasBanks m → Legal p m image (journal_of (past ++ rest)) → EachPlaced (MadeRightly p m image) (past ++ rest) → EachPlaced (GoesInBank p m image) past → EachPlaced (GoesInBank p m image) (past ++ rest)
back_from rests p m image past [] banks legal made goes = subst (EachPlaced (GoesInBank p m image)) (sym (append-nil past)) goes
back_from rests p m image past (x ∷ rest) banks legal made goes =
    let longer : (past ++ x ∷ []) ++ rest ≡ past ++ x ∷ rest = append_assoc past (x ∷ []) rest
    in let split : journal_of (past ++ x ∷ rest) ≡ journal_of past ++ x.event ∷ journal_of rest = map-append (λ (y : Placed). y.event) past (x ∷ rest)
    in let met : Meets p m image (journal_of past) x.event = legal (journal_of past) (journal_of rest) x.event split
    in let row : GoesByRow p m image (journal_of past) x.event = rests.legal.rows p m image (journal_of (past ++ x ∷ rest)) legal (journal_of past) (journal_of rest) x.event split
    in let goes_x : GoesInBank p m image past x = back_event rests p m image past x banks (banks_run rests p m image past banks goes) met row (made past rest x refl)
    in subst (EachPlaced (GoesInBank p m image)) longer
    (back_from rests p m image (past ++ x ∷ []) rest banks (subst (λ xs. Legal p m image (journal_of xs)) (sym longer) legal) (subst (EachPlaced (MadeRightly p m image)) (sym longer) made) (placed_push (GoesInBank p m image) past x goes goes_x))

pub legal_goes_in_banks : Rests → (p : Listing) (m : MachineSpec) (image : Contents) (history : List Placed) → HasBanks m → Legal p m image (journal_of history) → EachPlaced (MadeRightly p m image) history → EachPlaced (GoesInBank p m image) history
legal_goes_in_banks rests p m image history banks legal made = back_from rests p m image [] history banks legal made (placed_none (GoesInBank p m image))

-- ---- every journal can be placed

call_bank : MachineSpec → CoreNext → ℕ
call_bank m (Calls (call.Load pc addr)) = bank_of m (block_of addr)
call_bank m (Calls (call.Store pc addr value)) = bank_of m (block_of addr)
call_bank m (Calls (call.Pei o b operands)) = bank_of m b
call_bank m _ = 0

call_made : (m : MachineSpec) (x : CoreNext) → IsCallOf m (call_bank m x) x
unfolding call_bank
call_made m (Calls (call.Load pc addr)) = refl
call_made m (Calls (call.Store pc addr value)) = refl
call_made m (Calls (call.Pei o b operands)) = refl
call_made m (Calls call.Fence) = tt
call_made m (Calls (call.Out value)) = tt
call_made m (Calls (call.End how)) = tt
call_made m (Busy register pei) = tt
call_made m (Ended how) = tt

look_bank : MachineSpec → Option PeiLook → ℕ
look_bank m None = 0
look_bank m (Some l) = bank_of m l.block

-- a bank for the next event of an actor
next_bank : MachineSpec → State → Actor → CoreNext → ℕ → ℕ
next_bank m s a x zero = call_bank m x
next_bank m s a x (suc l) = look_bank m (look_in s a.core a.lane)

made_at : (m : MachineSpec) (s : State) (a : Actor) (x : CoreNext) (l : ℕ) → IsMadeIn m (next_bank m s a x l) l x
unfolding next_bank
made_at m s a x zero = call_made m x
made_at m s a x (suc l) = tt

looked_at : (m : MachineSpec) (s : State) (a : Actor) (x : CoreNext) (l : ℕ) (p : PeiLook) → 0 < l → look_in s a.core a.lane ≡ Some p → bank_of m p.block ≡ next_bank m s a x l
unfolding next_bank look_bank
looked_at m s a x zero p less here = absurd (omega (arith, less))
looked_at m s a x (suc l) p less here = sym (ap (look_bank m) here)

place_from : (p : Listing) (m : MachineSpec) (image : Contents) (past : List Placed) (rest : List Event) → EachPlaced (MadeRightly p m image) past → (history : List Placed) × (journal_of history ≡ journal_of past ++ rest) × EachPlaced (MadeRightly p m image) history
place_from p m image past [] made = (past, sym (append-nil (journal_of past)), made)
place_from p m image past (e ∷ rest) made =
    let journal : List Event = journal_of past
    in let s : State = state_after m journal
    in let x : CoreNext = next_of_core p m image journal e.actor.core
    in let placed : Placed = record { bank = next_bank m s e.actor x e.actor.lane.0; event = e }
    in let next = place_from p m image (past ++ placed ∷ []) rest (placed_push (MadeRightly p m image) past placed made (record { call = made_at m s e.actor x e.actor.lane.0; lane = λ l less here. looked_at m s e.actor x e.actor.lane.0 l less here }))
    in (next.0, next.1 ∙ ap (λ es. es ++ rest) (journal_of-push past placed) ∙ append_assoc journal (e ∷ []) rest, next.2)

-- each legal journal is that of a history of banks
pub legal_is_placed : Rests → (p : Listing) (m : MachineSpec) (image : Contents) (journal : List Event) → HasBanks m → Legal p m image journal → (history : List Placed) × (journal_of history ≡ journal) × EachPlaced (GoesInBank p m image) history
legal_is_placed rests p m image journal banks legal =
    let r = place_from p m image [] journal (placed_none (MadeRightly p m image))
    in (r.0, r.1, legal_goes_in_banks rests p m image r.0 banks (subst (Legal p m image) (sym r.1) legal) r.2)
