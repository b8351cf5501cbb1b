-- An event that goes by its row in its bank goes by its row in the journal of all banks.
use Rattle.std.proofs.Common.{◌≡◌, ◌⊎◌, inl, inr, ℕ, suc, ◌<◌, Bool, true, false, not, ◌&&◌, ◌||◌, cond, List, [], ◌∷◌, map, length, filter, find, Option, Some, None, is_none, IsTrue, AllPairs, get_or, slice_index, refl, sym, ◌∙◌, ap, ap₂, subst, arith, eq-eqb}
use Rattle.std.specs.Prelude.{IfSome}
use Rattle.std.specs.List.{AllByRecursion, list_any, list_all}
use Rattle.std.proofs.lemmas.Bool.{and_parts}
use Rattle.std.proofs.lemmas.Option.{same_Some}
use Rattle.pei_types.specs.declared.identifiers.Actor.{Actor}
use Rattle.pei_types.specs.declared.identifiers.Block.{Block}
use Rattle.pei_types.specs.declared.identifiers.BlockNo.{BlockNo}
use Rattle.pei_types.specs.declared.identifiers.CoreId.{CoreId}
use Rattle.pei_types.specs.declared.identifiers.PeiId.{PeiId}
use Rattle.pei_types.specs.declared.calls.Call.{Call}
use Rattle.pei_types.specs.declared.calls.Call.TheVariants as call
use Rattle.pei_types.specs.declared.identifiers.Lane.{Lane}
use Rattle.pei_types.specs.declared.operations.Op.{Op}
use Rattle.pei_types.specs.declared.operations.Operands.{Operands}
use Rattle.pei_types.specs.declared.inflight_looks.PeiLook.{PeiLook}
use Rattle.pei_types.specs.declared.inflight_looks.Phase.{Phase}
use Rattle.pei_types.specs.declared.inflight_looks.Phase.TheVariants as phase
use Rattle.pei_types.specs.declared.events.Event.{Event}
use Rattle.pei_types.specs.declared.events.EventKind.{EventKind}
use Rattle.pei_types.specs.declared.events.EventKind.TheVariants as event
use Rattle.pei_types.specs.declared.machines.MachineSpec.{MachineSpec}
use Rattle.pei_types.specs.Blocks.{block_of, same_core, same_lane, same_pei}
use Rattle.pei_types.specs.MachineState.{State, fence_of, free_lane, first_unentered, first_unfinished, look_of, look_in, is_phase, entry_is_taken, pei_id}
use Rattle.pei_types.specs.Core.{CoreNext, Calls, Busy, Ended}
use Rattle.pei_types.specs.Exclusion.{EntersAlone, conflicts}
use Rattle.pei_types.specs.Fence.{FencesEarlier, earlier_writers_left}
use Rattle.pei_types.specs.History.{Pei, issued_peis, pei_of, has_left, active_peis, before_fence}
use Rattle.pei_types.specs.Next.{Makes, call_row, pei_row, lane_row, issue_row, fence_row, enter_row, CoreLook, call_row_by, pei_row_by}
use Rattle.pei_types.specs.Operation.{is_writer}
use Rattle.pei_types.specs.Turns.{program_turn}
use Rattle.pei_types.proofs.Identities.{look_core, same_pei_is, same_pei_refl, same_pei_sym, makes_is}
use Rattle.pei_types.proofs.Lists.{found_passes}
use Rattle.history_laws.specs.Fits.{EntersFree}
use Rattle.history_laws.specs.Laws.{AgreementTells}
use Rattle.history_laws.specs.Members.{In}
use Rattle.history_laws.specs.TrackedPeis.{Agrees, as_issued, is_past_issue, fence_is_on, writers_awaited}
use Rattle.coherence_laws.specs.Invariants.{Invariants, HasSets}
use Rattle.coherence_laws.specs.Laws.{LanesHoldPeis}
use Rattle.bank_laws.specs.Banks.{HasBanks, Stands, IsPeiOf, bank_of}
use Rattle.bank_laws.specs.Parts.{SameInBank, SameForCore, is_in_bank}
use Rattle.bank_laws.specs.Rows.{IsCallOf, bank_look, program_turn_in, pei_turn_in, without_waits}
use Rattle.bank_laws.proofs.Lists.{found_in}
use Rattle.bank_laws.proofs.Locality.{load_same, store_same, entered_same, unfinished_same, unentered_same, free_lane_same}
use Rattle.bank_laws.proofs.Stays.{TurnStands, call_stays, pei_stays}
use Rattle.history_laws.proofs.Lists.{each_of, each_in, in_filter, filter_in}

-- ---- names are given once

each_later : {A : Type 0} (R : A → A → Type 0) (x : A) (xs : List A) → ((j : ℕ) (d : A) → j < length xs → R x (get_or xs j d)) → AllByRecursion (R x) xs
each_later R x [] h = tt
each_later R x (y ∷ ys) h = (h 0 x (omega arith), each_later R x ys (λ j d k. h (suc j) d (omega (arith, k))))

named_once : (ps : List Pei) (p q : Pei) → AllPairs (λ x y. same_pei x.id y.id ≡ false) ps → In p ps → In q ps → same_pei q.id p.id ≡ true → q ≡ p
named_once [] p q apart i j e = absurd i
named_once (x ∷ ps) p q apart i j e = by i j (λ f g. named_once ps p q (λ n l d less k. apart (suc n) (suc l) d (omega (arith, less)) (omega (arith, k))) f g e)
  where
    later : AllByRecursion (λ y. same_pei x.id y.id ≡ false) ps
    later = each_later (λ u v. same_pei u.id v.id ≡ false) x ps (λ n d k. apart 0 (suc n) d (omega arith) (omega (arith, k)))

    by : (p ≡ x) ⊎ In p ps → (q ≡ x) ⊎ In q ps → (In p ps → In q ps → q ≡ p) → q ≡ p
    by (inl f) (inl g) rest = g ∙ sym f
    by (inl f) (inr g) rest =
        let no : same_pei x.id q.id ≡ false = each_of (λ y. same_pei x.id y.id ≡ false) ps q later g
        in absurd (cc (sym e ∙ ap (λ z. same_pei q.id z.id) f ∙ same_pei_sym q.id x.id ∙ no))
    by (inr f) (inl g) rest =
        let no : same_pei x.id p.id ≡ false = each_of (λ y. same_pei x.id y.id ≡ false) ps p later f
        in absurd (cc (sym e ∙ ap (λ z. same_pei z.id p.id) g ∙ no))
    by (inr f) (inr g) rest = rest f g

-- ---- fences

none_awaited : (left : PeiId → Bool) (ps : List Pei) → list_all (λ p. not (is_writer p.op) || left p.id) ps ≡ true → filter (λ p. is_writer p.op) (filter (λ p. not (left p.id)) ps) ≡ []
none_awaited left [] h = refl
none_awaited left (p ∷ ps) h = by (is_writer p.op) (left p.id) refl h (none_awaited left ps)
  where
    by : (w l : Bool) → is_writer p.op ≡ w → ((not w || l) && list_all (λ q. not (is_writer q.op) || left q.id) ps) ≡ true → (list_all (λ q. not (is_writer q.op) || left q.id) ps ≡ true → filter (λ q. is_writer q.op) (filter (λ q. not (left q.id)) ps) ≡ []) → filter (λ q. is_writer q.op) (cond (not l) (p ∷ filter (λ q. not (left q.id)) ps) (filter (λ q. not (left q.id)) ps)) ≡ []
    by true true e g rest = rest g
    by true false e g rest = absurd (cc g)
    by false true e g rest = rest g
    by false false e g rest = rw e (rest g)

-- a fence that is on waits for none where each earlier writer has left
fence_over : (m : MachineSpec) (s : State) (journal : List Event) (c : CoreId) → Agrees m s journal → is_none (fence_of s c) ≡ false → earlier_writers_left journal c ≡ true → fence_of s c ≡ Some []
fence_over m s journal c g on left = by (fence_is_on c journal) refl
  where
    none : writers_awaited c journal ≡ []
    none = ap (map (λ (p : Pei). p.id)) (none_awaited (has_left journal) (issued_peis (before_fence c journal)) left)

    by : (b : Bool) → fence_is_on c journal ≡ b → fence_of s c ≡ Some []
    by true e = g.fences c ∙ rw e (ap Some none)
    by false e =
        let off : fence_of s c ≡ None = g.fences c ∙ rw e refl
        in absurd (cc (sym on ∙ ap is_none off))

-- ---- PEIs

-- the PEI of a name that was issued once
pub pei_of_bank : (m : MachineSpec) (k : ℕ) (journal : List Event) (p : PeiLook) → AllPairs (λ x y. same_pei x.id y.id ≡ false) (issued_peis journal) → In (as_issued p) (issued_peis journal) → bank_of m p.block ≡ k → IsPeiOf m k journal p.id
pei_of_bank m k journal p apart there own =
    each_in (λ q. same_pei q.id p.id ≡ true → bank_of m q.block ≡ k) (issued_peis journal)
    (λ q i e. ap (λ (r : Pei). bank_of m r.block) (named_once (issued_peis journal) (as_issued p) q apart there i e) ∙ own)

pub find_there : {A : Type 0} (test : A → Bool) (xs : List A) (x : A) → In x xs → test x ≡ true → (y : A) × (find test xs ≡ Some y)
find_there test [] x i t = absurd i
find_there {A} test (z ∷ xs) x (inl e) t = (z, rw (sym (ap test e) ∙ t) refl)
find_there {A} test (z ∷ xs) x (inr i) t = by (test z) (find_there test xs x i t)
  where
    by : (b : Bool) → (y : A) × (find test xs ≡ Some y) → (y : A) × (cond b (Some z) (find test xs) ≡ Some y)
    by true r = (z, refl)
    by false r = r

-- a PEI of the state is found under its name
pub look_is : AgreementTells → (m : MachineSpec) (s : State) (journal : List Event) (p : PeiLook) → Agrees m s journal → In p s.peis → look_of s p.id ≡ Some p
look_is tells m s journal p g i =
    let r = find_there (λ q. same_pei q.id p.id) s.peis p i (same_pei_refl p.id)
    in let id : r.0.id ≡ p.id = same_pei_is r.0.id p.id (found_passes (λ q. same_pei q.id p.id) s.peis r.0 r.1)
    in r.1 ∙ ap Some (tells.one m s journal g r.0 p (found_in (λ q. same_pei q.id p.id) s.peis r.0 r.1) i id)

-- a PEI that enters alone finds its entry free
none_taken : (m : MachineSpec) (l : PeiLook) (ps : List PeiLook) → list_all (λ q. not (conflicts m l.block l.op q.block q.op)) (map as_issued (filter is_past_issue ps)) ≡ true → list_any (λ q. not (is_phase q.phase phase.Issued) && conflicts m l.block l.op q.block q.op) ps ≡ false
none_taken m l [] h = refl
none_taken m l (q ∷ ps) h = by (is_past_issue q) (conflicts m l.block l.op q.block q.op) refl h (none_taken m l ps)
  where
    by : (past hits : Bool) → conflicts m l.block l.op q.block q.op ≡ hits → list_all (λ r. not (conflicts m l.block l.op r.block r.op)) (map as_issued (cond past (q ∷ filter is_past_issue ps) (filter is_past_issue ps))) ≡ true → (list_all (λ r. not (conflicts m l.block l.op r.block r.op)) (map as_issued (filter is_past_issue ps)) ≡ true → list_any (λ r. not (is_phase r.phase phase.Issued) && conflicts m l.block l.op r.block r.op) ps ≡ false) → (past && hits || list_any (λ r. not (is_phase r.phase phase.Issued) && conflicts m l.block l.op r.block r.op) ps) ≡ false
    by true true e g rest = absurd (cc (let no : (not (conflicts m l.block l.op q.block q.op) && list_all (λ r. not (conflicts m l.block l.op r.block r.op)) (map as_issued (filter is_past_issue ps))) ≡ true = g in rw e at no))
    by true false e g rest = rest (and_parts (not (conflicts m l.block l.op q.block q.op)) (list_all (λ r. not (conflicts m l.block l.op r.block r.op)) (map as_issued (filter is_past_issue ps))) g).1
    by false hits e g rest = rest g

pub enters_free : AgreementTells → (m : MachineSpec) (s : State) (journal : List Event) (a : Actor) (seq : ℕ) (p : PeiLook) → Agrees m s journal → look_in s a.core a.lane ≡ Some p → pei_id a seq ≡ p.id → EntersAlone m journal a (event.Enter seq) → EntersFree m s a (event.Enter seq)
enters_free tells m s journal a seq p g here named alone l found =
    let same : p ≡ l = same_Some p l (sym here ∙ found)
    in let tracked = tells.looks m s journal g p (found_in (λ q. same_core q.id.core a.core && same_lane q.lane a.lane) s.peis p here)
    in let known : pei_of journal (pei_id a seq) ≡ Some (as_issued p) = ap (pei_of journal) named ∙ tracked.found
    in let apart : IsTrue (list_all (λ q. not (conflicts m p.block p.op q.block q.op)) (active_peis journal)) = subst (λ o. IfSome o (λ r. IsTrue (list_all (λ q. not (conflicts m r.block r.op q.block q.op)) (active_peis journal)))) known alone
    in subst (λ (q : PeiLook). entry_is_taken m s q ≡ false) same (none_taken m p s.peis (subst (λ qs. list_all (λ q. not (conflicts m p.block p.op q.block q.op)) qs ≡ true) (tells.active m s journal g) apart))

-- a name by its core
with_core : ℕ → CoreId → PeiId
with_core n c = record { core = c; seq = n }

pub name_is : (id : PeiId) (c : CoreId) → id.core ≡ c → id ≡ record { core = c; seq = id.seq }
unfolding with_core
name_is id c f = ap (with_core id.seq) f

-- ---- rows

-- a PEI of the bank in the actor's lane
pub record LanePei (m : MachineSpec) (k : ℕ) (s : State) (a : Actor) (p : PeiLook) : Type 0 where
  pub there : bank_of m p.block ≡ k
  pub on_way : In p s.peis
  pub core : p.id.core ≡ a.core
  pub named : p.id ≡ pei_id a p.id.seq
  pub looked : look_of s (pei_id a p.id.seq) ≡ Some p
  pub here : look_in s a.core a.lane ≡ Some p

-- what a core knows of itself is what its own events tell
pub look_same : (m : MachineSpec) (s u : State) (c : CoreId) → SameForCore c s u → bank_look m s c ≡ bank_look m u c
look_same m s u c h =
    ap₂ (λ (l : Option PeiId) (f : Option (List PeiId)). record { free = free_lane m s c; issues = slice_index s.issues c.0; first_unentered = first_unentered s c; first_unfinished = l; fence = f }) (unfinished_same c s u h) (same_ending (fence_of s c) (fence_of u c) h.fence)
    ∙ ap₂ (λ l n. record { free = l; issues = n; first_unentered = first_unentered s c; first_unfinished = first_unfinished u c; fence = without_waits (fence_of u c) }) (free_lane_same m c s u h) h.issues
    ∙ ap (λ l. record { free = free_lane m u c; issues = slice_index u.issues c.0; first_unentered = l; first_unfinished = first_unfinished u c; fence = without_waits (fence_of u c) }) (unentered_same c s u h)
  where
    same_ending : (o q : Option (List PeiId)) → is_none o ≡ is_none q → without_waits o ≡ without_waits q
    same_ending None None e = refl
    same_ending None (Some ws) e = absurd (cc e)
    same_ending (Some ws) None e = absurd (cc e)
    same_ending (Some ws) (Some vs) e = refl

pub issue_is : (m : MachineSpec) (s : State) (c : CoreId) (o : Op) (b : BlockNo) (operands : Operands) (lane : Option Lane) → issue_row (slice_index s.issues c.0) o b operands lane ≡ issue_row (slice_index s.issues c.0) o b operands lane
issue_is m s c o b operands None = refl
issue_is m s c o b operands (Some lane) = refl

module _ (m : MachineSpec) (k : ℕ) (s t : State) (look : CoreLook) (flat part : BlockNo → Block) (journal : List Event) (a : Actor) (kind : EventKind) (banks : HasBanks m) (h : SameInBank m k s t) (own : bank_look m s a.core ≡ look) (same : (b : BlockNo) → bank_of m b ≡ k → flat b ≡ part b) where
  -- a fence begins where the core's own is off, and ends where it is on and each earlier writer has left
  fence_is : Agrees m s journal → FencesEarlier journal a kind → fence_row (without_waits (fence_of s a.core)) ≡ Makes kind → fence_row (fence_of s a.core) ≡ Makes kind
  fence_is g earlier e = by (fence_of s a.core) refl e
    where
      by : (o : Option (List PeiId)) → fence_of s a.core ≡ o → fence_row (without_waits o) ≡ Makes kind → fence_row (fence_of s a.core) ≡ Makes kind
      by None q r = ap fence_row q ∙ r
      by (Some ws) q r =
          let ends : event.FenceEnd ≡ kind = makes_is event.FenceEnd kind r
          in ap fence_row (fence_over m s journal a.core g (ap is_none q) (subst (FencesEarlier journal a) (sym ends) earlier)) ∙ r

  call_is : (x : Call) → HasSets m s → Agrees m s journal → IsCallOf m k (Calls x) → FencesEarlier journal a kind → call_row_by (bank_look m s a.core) m t part a.core x ≡ Makes kind → call_row m s flat a.core x ≡ Makes kind
  call_is (call.Load pc addr) sets g made earlier e = ap Makes (load_same m k s t flat part a.core pc addr banks sets h made (same (block_of addr) made)) ∙ e
  call_is (call.Store pc addr value) sets g made earlier e = ap Makes (store_same m k s t a.core pc addr value banks sets h made) ∙ e
  call_is (call.Pei o b operands) sets g made earlier e = issue_is m s a.core o b operands (free_lane m s a.core) ∙ e
  call_is call.Fence sets g made earlier e = fence_is g earlier e
  call_is (call.Out value) sets g made earlier e = e
  call_is (call.End how) sets g made earlier e = e

  -- a program's row, and no PEI enters by it
  pub program_is : (x : CoreNext) → HasSets m s → Agrees m s journal → IsCallOf m k x → FencesEarlier journal a kind → program_turn_in m t look part a.core x ≡ Some (Makes kind) → (program_turn m s flat a.core x ≡ Some (Makes kind)) × Stands m k (λ _. ⊥) a kind
  program_is (Calls x) sets g made earlier e =
      let row : call_row m s flat a.core x ≡ Makes kind = call_is x sets g made earlier (subst (λ l. call_row_by l m t part a.core x ≡ Makes kind) (sym own) (same_Some (call_row_by look m t part a.core x) (Makes kind) e))
      in (ap Some row, subst (TurnStands m k (λ _. ⊥) a) row (call_stays m k (λ _. ⊥) a s flat a.core x banks sets made))
  program_is (Busy register pei) sets g made earlier e = absurd (cc e)
  program_is (Ended how) sets g made earlier e = absurd (cc e)

  phase_is : (granted : Bool) (p : PeiLook) (ph : Phase) → HasSets m s → bank_of m p.block ≡ k → p.id.core ≡ a.core → pei_row_by look m t part granted p ph ≡ Makes kind → pei_row m s flat granted p ph ≡ Makes kind
  phase_is granted p phase.Issued sets there core e = ap (λ c. enter_row p granted (first_unentered s c)) core ∙ ap (λ (l : CoreLook). enter_row p granted l.first_unentered) own ∙ e
  phase_is granted p phase.Entered sets there core e = entered_same m k s t flat part granted p phase.Entered banks sets h there (same p.block there) refl ∙ e
  phase_is granted p phase.HostPlaced sets there core e = entered_same m k s t flat part granted p phase.HostPlaced banks sets h there (same p.block there) refl ∙ e
  phase_is granted p phase.MemoryPlaced sets there core e = entered_same m k s t flat part granted p phase.MemoryPlaced banks sets h there (same p.block there) refl ∙ e
  phase_is granted p phase.Read sets there core e = entered_same m k s t flat part granted p phase.Read banks sets h there (same p.block there) refl ∙ e
  phase_is granted p phase.Sealed sets there core e = entered_same m k s t flat part granted p phase.Sealed banks sets h there (same p.block there) refl ∙ e
  phase_is granted p phase.Acted sets there core e = entered_same m k s t flat part granted p phase.Acted banks sets h there (same p.block there) refl ∙ e

  -- the PEI in a lane of the bank is the machine's
  pub lane_pei : AgreementTells → LanesHoldPeis → Invariants m s → Agrees m s journal → AllByRecursion (λ p. bank_of m p.block ≡ k) t.peis → (p : PeiLook) → look_in t a.core a.lane ≡ Some p → LanePei m k s a p
  lane_pei tells lanes inv g names p q =
      let in_t : In p t.peis = found_in (λ y. same_core y.id.core a.core && same_lane y.lane a.lane) t.peis p q
      in let there : bank_of m p.block ≡ k = each_of (λ y. bank_of m y.block ≡ k) t.peis p names in_t
      in let in_s : In p s.peis = (in_filter (is_in_bank m k) s.peis p (subst (In p) (sym h.peis) (filter_in (is_in_bank m k) t.peis p in_t (eq-eqb (bank_of m p.block) k there)))).0
      in let core : p.id.core ≡ a.core = look_core t a.core a.lane p q
      in let named : p.id ≡ pei_id a p.id.seq = name_is p.id a.core core
      in let looked : look_of s (pei_id a p.id.seq) ≡ Some p = subst (λ id. look_of s id ≡ Some p) named (look_is tells m s journal p g in_s)
      in let lane : same_lane p.lane a.lane ≡ true = (and_parts (same_core p.id.core a.core) (same_lane p.lane a.lane) (found_passes (λ y. same_core y.id.core a.core && same_lane y.lane a.lane) t.peis p q)).1
      in record {
        there = there;
        on_way = in_s;
        core = core;
        named = named;
        looked = looked;
        here = lanes.placed m s a p.id.seq p inv looked lane;
      }

  -- a lane's row, and its PEI, which is the bank's
  pub lane_is : AgreementTells → LanesHoldPeis → (granted : Bool) → Invariants m s → Agrees m s journal → AllByRecursion (λ p. bank_of m p.block ≡ k) t.peis → pei_turn_in m t look part granted (look_in t a.core a.lane) ≡ Makes kind → (lane_row m s flat granted (look_in s a.core a.lane) ≡ Makes kind) × ((p : PeiLook) × LanePei m k s a p × Stands m k (λ id. id ≡ p.id) a kind)
  lane_is tells lanes granted inv g names e = by (look_in t a.core a.lane) refl e
    where
      by : (o : Option PeiLook) → look_in t a.core a.lane ≡ o → pei_turn_in m t look part granted o ≡ Makes kind → (lane_row m s flat granted (look_in s a.core a.lane) ≡ Makes kind) × ((p : PeiLook) × LanePei m k s a p × Stands m k (λ id. id ≡ p.id) a kind)
      by None q r = absurd (cc r)
      by (Some p) q r =
          let f : LanePei m k s a p = lane_pei tells lanes inv g names p q
          in let row : pei_row m s flat granted p p.phase ≡ Makes kind = phase_is granted p p.phase inv.sets f.there f.core r
          in (
            ap (lane_row m s flat granted) f.here ∙ row,
            (p, f, subst (TurnStands m k (λ id. id ≡ p.id) a) row (pei_stays m k (λ id. id ≡ p.id) a s flat granted p p.phase banks inv.sets f.there (sym f.named))),
          )
