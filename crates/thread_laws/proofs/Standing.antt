-- A core's own row stands in the bank that it was made in.
use Rattle.std.proofs.Common.{cond, filter, map, ◌≡◌, ◌⊎◌, inl, inr, ℕ, zero, suc, Bool, true, false, ◌&&◌, if◌then◌else◌, List, [], ◌∷◌, ◌++◌, Option, Some, None, refl, sym, ◌∙◌, ap, subst, eqb-true}
use Rattle.std.specs.Prelude.{◌==◌, ⊤, slice_index}
use Rattle.std.proofs.lemmas.Bool.{and_parts}
use Rattle.std.proofs.lemmas.List.{map-append}
use Rattle.std.proofs.lemmas.Option.{same_Some}
use Rattle.pei_types.specs.declared.stamps.Stamped.{Stamped}
use Rattle.pei_types.specs.declared.identifiers.Actor.{Actor}
use Rattle.pei_types.specs.declared.identifiers.Block.{Block}
use Rattle.pei_types.specs.declared.identifiers.BlockNo.{BlockNo}
use Rattle.pei_types.specs.declared.identifiers.CoreId.{CoreId}
use Rattle.pei_types.specs.declared.identifiers.Lane.{Lane}
use Rattle.pei_types.specs.declared.identifiers.PeiId.{PeiId}
use Rattle.pei_types.specs.declared.calls.Call.{Call}
use Rattle.pei_types.specs.declared.calls.Call.TheVariants as call
use Rattle.pei_types.specs.declared.inflight_looks.PeiLook.{PeiLook}
use Rattle.pei_types.specs.declared.inflight_looks.Phase.{Phase}
use Rattle.pei_types.specs.declared.inflight_looks.Phase.TheVariants as phase
use Rattle.pei_types.specs.declared.inflight_looks.StallCause.TheVariants as stall
use Rattle.pei_types.specs.declared.events.Event.{Event}
use Rattle.pei_types.specs.declared.events.EventKind.{EventKind}
use Rattle.pei_types.specs.declared.events.EventKind.TheVariants as event
use Rattle.pei_types.specs.declared.machines.MachineSpec.{MachineSpec}
use Rattle.pei_types.specs.Blocks.{same_core, same_lane, same_pei}
use Rattle.pei_types.specs.MachineState.{State, state_after, free_lane, look_in, pei_id}
use Rattle.pei_types.specs.Core.{CoreNext, Calls, Busy, Ended, core_next, core_config, events_of}
use Rattle.pei_types.specs.FlatMemory.{flat_block}
use Rattle.pei_types.specs.History.{Pei, issued_peis}
use Rattle.pei_types.specs.Legal.{EachEvent}
use Rattle.pei_types.specs.Next.{Turn, Makes, Stalls, core_look, issue_row, fence_row, draining_or, call_row_by, enter_row, pei_row_by}
use Rattle.pei_types.specs.Program.{Listing, Contents}
use Rattle.pei_types.specs.Turns.{is_entering}
use Rattle.pei_types.proofs.Histories.{each_of_from, each_push}
use Rattle.pei_types.proofs.Identities.{same_core_is, same_pei_sym}
use Rattle.history_laws.specs.Members.{In}
use Rattle.history_laws.specs.TrackedPeis.{as_issued}
use Rattle.coherence_laws.specs.Holdings.{Holdings}
use Rattle.coherence_laws.specs.Invariants.{HasSets}
use Rattle.bank_laws.specs.Banks.{HasBanks, Placed, EachPlaced, Stands, StandsRightly, IsPeiOf, bank_of, is_made_in, journal_of, log_of}
use Rattle.bank_laws.specs.Kept.{BankInOrder}
use Rattle.bank_laws.specs.Laws.{BanksKeepApart, BanksMerge, CoresGoOn, RowsAreLocal}
use Rattle.bank_laws.specs.Parts.{is_in_bank}
use Rattle.bank_laws.specs.Rows.{IsCallOf, IsMadeIn, IsRowIn, bank_look, program_turn_in, pei_turn_in, turn_in}
use Rattle.shared_table.specs.declared.claims.Made.{Made}
use Rattle.shared_table.specs.Diaries as diaries
use Rattle.shared_table.specs.Diaries.{made_in}
use Rattle.shared_table.specs.Journal.{events}
use Rattle.thread_laws.specs.OwnEvents.{placed_of, IssuesNext, KnowsItsPart, look_there}
use Rattle.thread_laws.proofs.Lanes.{paired}
use Rattle.thread_laws.proofs.Meeting.{were_issued, look_meets}
use Rattle.thread_laws.proofs.Own.{have_names}
use Rattle.history_laws.proofs.Lists.{each_of, each_in, find_Some}
use Rattle.bank_laws.proofs.Histories.{firsts, rests, placed_none}

-- an event stands where it stood, with more PEIs
stands_weaker : (m : MachineSpec) (k : ℕ) (Has Other : PeiId → Type 0) → ((id : PeiId) → Has id → Other id) → (a : Actor) (kind : EventKind) → Stands m k Has a kind → Stands m k Other a kind
stands_weaker m k Has Other f a (event.Enter seq) h = f (pei_id a seq) h
stands_weaker m k Has Other f a (event.Place seq where_to) h = f (pei_id a seq) h
stands_weaker m k Has Other f a (event.Read seq) h = f (pei_id a seq) h
stands_weaker m k Has Other f a (event.Seal seq vault) h = (f (pei_id a seq) h.0, h.1)
stands_weaker m k Has Other f a (event.Act seq reply) h = f (pei_id a seq) h
stands_weaker m k Has Other f a (event.Leave seq) h = f (pei_id a seq) h
stands_weaker m k Has Other f a _ h = h

bank_sets : (m : MachineSpec) (image : Contents) (log : List Event) (h : Holdings) → BankInOrder m image log h → HasSets m (state_after m log)
bank_sets m image log h order = let sets = order.invariants.holds.sets in record { l1 = sets.l1; llc = sets.llc; monitor = sets.monitor }

abbrev TurnStands : MachineSpec → ℕ → (PeiId → Type 0) → Actor → Turn → Type 0
TurnStands m k Has a (Makes kind) = Stands m k Has a kind
TurnStands m k Has a (Stalls cause) = ⊤

made_stands : (m : MachineSpec) (k : ℕ) (Has : PeiId → Type 0) (a : Actor) (x : Turn) → ((kind : EventKind) → x ≡ Makes kind → Stands m k Has a kind) → TurnStands m k Has a x
made_stands m k Has a (Makes kind) h = h kind refl
made_stands m k Has a (Stalls cause) h = tt

-- the row of a call that is made in the bank, however its core looks
call_stands : RowsAreLocal → (m : MachineSpec) (k : ℕ) (bank s : State) (content : BlockNo → Block) (a : Actor) (x : Call) → HasBanks m → HasSets m bank → IsCallOf m k (Calls x) → TurnStands m k (λ _. ⊥) a (call_row_by (bank_look m s a.core) m bank content a.core x)
call_stands local m k bank s content a (call.Load pc addr) banks sets made = made_stands m k (λ _. ⊥) a (call_row_by (bank_look m s a.core) m bank content a.core (call.Load pc addr)) (λ kind e. local.call_stays m k bank content a (call.Load pc addr) kind banks sets made e)
call_stands local m k bank s content a (call.Store pc addr value) banks sets made = made_stands m k (λ _. ⊥) a (call_row_by (bank_look m s a.core) m bank content a.core (call.Store pc addr value)) (λ kind e. local.call_stays m k bank content a (call.Store pc addr value) kind banks sets made e)
call_stands local m k bank s content a (call.Pei o b operands) banks sets made = by (free_lane m s a.core)
  where
    by : (l : Option Lane) → TurnStands m k (λ _. ⊥) a (issue_row (slice_index s.issues a.core.0) o b operands l)
    by None = tt
    by (Some l) = made
call_stands local m k bank s content a call.Fence banks sets made = by (bank_look m s a.core).fence
  where
    by : (o : Option (List PeiId)) → TurnStands m k (λ _. ⊥) a (fence_row o)
    by None = tt
    by (Some []) = tt
    by (Some (p ∷ ps)) = tt
call_stands local m k bank s content a (call.Out value) banks sets made = tt
call_stands local m k bank s content a (call.End kind) banks sets made = by (bank_look m s a.core).first_unfinished
  where
    by : (o : Option PeiId) → TurnStands m k (λ _. ⊥) a (draining_or o (event.End kind))
    by None = tt
    by (Some p) = tt

-- the row of a PEI of the bank, however its core looks
pei_stands : RowsAreLocal → (m : MachineSpec) (k : ℕ) (bank s : State) (content : BlockNo → Block) (a : Actor) (granted : Bool) (p : PeiLook) (ph : Phase) → p.phase ≡ ph → HasBanks m → HasSets m bank → p.id.core ≡ a.core → bank_of m p.block ≡ k → TurnStands m k (λ id. id ≡ p.id) a (pei_row_by (bank_look m s a.core) m bank content granted p ph)
pei_stands local m k bank s content a granted p phase.Issued is banks sets core there = by (bank_look m s a.core).first_unentered
  where
    own : pei_id a p.id.seq ≡ p.id
    own = λ i. record { core = sym core i; seq = p.id.seq }

    by : (o : Option PeiId) → TurnStands m k (λ id. id ≡ p.id) a (enter_row p granted o)
    by None = tt
    by (Some first) = at (same_pei first p.id) granted
      where
        at : (same g : Bool) → TurnStands m k (λ id. id ≡ p.id) a (if same then (if g then Makes (event.Enter p.id.seq) else Stalls stall.NeedsGrant) else Stalls (stall.NotOldest first))
        at true true = own
        at true false = tt
        at false g = tt
pei_stands local m k bank s content a granted p phase.Entered is banks sets core there =
    made_stands m k (λ id. id ≡ p.id) a _ (λ kind e. local.pei_stays m k bank content a granted p kind banks sets core there (ap (λ ph. pei_row_by (core_look m bank p.id.core) m bank content granted p ph) is ∙ e))
pei_stands local m k bank s content a granted p phase.HostPlaced is banks sets core there =
    made_stands m k (λ id. id ≡ p.id) a _ (λ kind e. local.pei_stays m k bank content a granted p kind banks sets core there (ap (λ ph. pei_row_by (core_look m bank p.id.core) m bank content granted p ph) is ∙ e))
pei_stands local m k bank s content a granted p phase.Read is banks sets core there =
    made_stands m k (λ id. id ≡ p.id) a _ (λ kind e. local.pei_stays m k bank content a granted p kind banks sets core there (ap (λ ph. pei_row_by (core_look m bank p.id.core) m bank content granted p ph) is ∙ e))
pei_stands local m k bank s content a granted p phase.MemoryPlaced is banks sets core there =
    made_stands m k (λ id. id ≡ p.id) a _ (λ kind e. local.pei_stays m k bank content a granted p kind banks sets core there (ap (λ ph. pei_row_by (core_look m bank p.id.core) m bank content granted p ph) is ∙ e))
pei_stands local m k bank s content a granted p phase.Sealed is banks sets core there =
    made_stands m k (λ id. id ≡ p.id) a _ (λ kind e. local.pei_stays m k bank content a granted p kind banks sets core there (ap (λ ph. pei_row_by (core_look m bank p.id.core) m bank content granted p ph) is ∙ e))
pei_stands local m k bank s content a granted p phase.Acted is banks sets core there =
    made_stands m k (λ id. id ≡ p.id) a _ (λ kind e. local.pei_stays m k bank content a granted p kind banks sets core there (ap (λ ph. pei_row_by (core_look m bank p.id.core) m bank content granted p ph) is ∙ e))

module _ (cores : CoresGoOn) (merge : BanksMerge) (apart : BanksKeepApart) (local : RowsAreLocal) (p : Listing) (m : MachineSpec) (image : Contents) (k : ℕ) (c : CoreId) (own : List Placed) (log : List Event) (h : KnowsItsPart m k c own log) where
  -- each PEI that the own events issued under the name of one on its way is on that one's block
  its_bank : (l : PeiLook) → In l (state_after m (journal_of own)).peis → bank_of m l.block ≡ k → IsPeiOf m k (journal_of own) l.id
  its_bank l i there = each_in (λ q. same_pei q.id l.id ≡ true → bank_of m q.block ≡ k) (issued_peis (journal_of own)) one
    where
      one : (q : Pei) → In q (issued_peis (journal_of own)) → same_pei q.id l.id ≡ true → bank_of m q.block ≡ k
      one q j same =
          by (paired (λ x y. same_pei x.id y.id ≡ false) (issued_peis (journal_of own)) q (as_issued l) (have_names cores merge m (journal_of own) h.issues) j
          (each_of (λ r. In (as_issued r) (issued_peis (journal_of own))) (state_after m (journal_of own)).peis l (were_issued cores m (journal_of own)) i))
        where
          by : (q ≡ as_issued l) ⊎ ((same_pei q.id l.id ≡ false) ⊎ (same_pei l.id q.id ≡ false)) → bank_of m q.block ≡ k
          by (inl e) = ap (λ (r : Pei). bank_of m r.block) e ∙ there
          by (inr (inl e)) = absurd (cc (sym e ∙ same))
          by (inr (inr e)) = absurd (cc (sym e ∙ same_pei_sym l.id q.id ∙ same))

  -- what the bank has in a lane of the core is the own PEI there, on a block of the bank
  there_is : (o : Option PeiLook) (q : PeiLook) → Some q ≡ look_there m k o → (o ≡ Some q) × (is_in_bank m k q ≡ true)
  there_is None q e = absurd (cc e)
  there_is (Some r) q e = by (is_in_bank m k r) refl e
    where
      by : (b : Bool) → is_in_bank m k r ≡ b → Some q ≡ (if b then Some r else None) → (Some r ≡ Some q) × (is_in_bank m k q ≡ true)
      by true f g = (sym g, ap (is_in_bank m k) (same_Some q r g) ∙ f)
      by false f g = absurd (cc g)

  pub own_row_stands : (held : Holdings) (e : Event) → BankInOrder m image log held → same_core e.actor.core c ≡ true → IsRowIn p m image k log (journal_of own) e → StandsRightly m own (record { bank = k; event = e })
  own_row_stands held e order core row = by e.actor.lane.0 row.made row.row
    where
      s : State
      s = state_after m (journal_of own)

      bank : State
      bank = state_after m log

      content : BlockNo → Block
      content = flat_block image log

      a : Actor
      a = e.actor

      program : (x : CoreNext) → IsMadeIn m k 0 x → program_turn_in m bank (bank_look m s a.core) content a.core x ≡ Some (Makes e.kind) → Stands m k (IsPeiOf m k (journal_of own)) a e.kind
      program (Calls x) made g =
          stands_weaker m k (λ _. ⊥) (IsPeiOf m k (journal_of own)) (λ id none. absurd none) a e.kind
          (subst (TurnStands m k (λ _. ⊥) a) (same_Some (call_row_by (bank_look m s a.core) m bank content a.core x) (Makes e.kind) g)
          (call_stands local m k bank s content a x h.banks (bank_sets m image log held order) made))
      program (Busy register pei) made g = absurd (cc g)
      program (Ended how) made g = absurd (cc g)

      lane : (o : Option PeiLook) → look_in bank a.core a.lane ≡ o → pei_turn_in m bank (bank_look m s a.core) content (is_entering e.kind) o ≡ Makes e.kind → Stands m k (IsPeiOf m k (journal_of own)) a e.kind
      lane None found g = absurd (cc g)
      lane (Some q) found g =
          let same : a.core ≡ c = same_core_is a.core c core
          in let mine = there_is (look_in s c a.lane) q (sym found ∙ ap (λ d. look_in bank d a.lane) same ∙ look_meets cores merge apart m k c own log h a.lane)
          in let seen = find_Some (λ r. same_core r.id.core c && same_lane r.lane a.lane) s.peis q mine.0
          in let of_core : q.id.core ≡ a.core = same_core_is q.id.core c (and_parts (same_core q.id.core c) (same_lane q.lane a.lane) seen.1).0 ∙ sym same
          in let there : bank_of m q.block ≡ k = eqb-true (bank_of m q.block) k mine.1
          in stands_weaker m k (λ id. id ≡ q.id) (IsPeiOf m k (journal_of own)) (λ id one. subst (IsPeiOf m k (journal_of own)) (sym one) (its_bank q seen.0 there)) a e.kind
          (subst (TurnStands m k (λ id. id ≡ q.id) a) g (pei_stands local m k bank s content a (is_entering e.kind) q q.phase refl h.banks (bank_sets m image log held order) of_core there))

      by : (l : ℕ) → IsMadeIn m k l (core_next p image (core_config m) a.core (journal_of own)) → turn_in l (core_next p image (core_config m) a.core (journal_of own)) m bank (bank_look m s a.core) content a (is_entering e.kind) ≡ Some (Makes e.kind) → Stands m k (IsPeiOf m k (journal_of own)) a e.kind
      by zero made g = program (core_next p image (core_config m) a.core (journal_of own)) made g
      by (suc l) made g =
          lane (look_in bank a.core a.lane) refl
          (same_Some (pei_turn_in m bank (bank_look m s a.core) content (is_entering e.kind) (look_in bank a.core a.lane)) (Makes e.kind) g)

-- ---- one more own event

-- a fact on each event of a history, and on one more
placed_push : (P : List Placed → Placed → Type 0) (history : List Placed) (x : Placed) → EachPlaced P history → P history x → EachPlaced P (history ++ x ∷ [])
placed_push P [] x each h [] back y same = subst (P []) (firsts x y [] back same) h
placed_push P [] x each h (w ∷ []) back y same = absurd (cc same)
placed_push P [] x each h (w ∷ v ∷ before) back y same = absurd (cc same)
placed_push P (z ∷ history) x each h [] back y same = subst (P []) (firsts z y (history ++ x ∷ []) back same) (each [] history z refl)
placed_push P (z ∷ history) x each h (w ∷ before) back y same =
    subst (λ v. P (v ∷ before) y) (firsts z w (history ++ x ∷ []) (before ++ y ∷ back) same)
    (placed_push (λ xs v. P (z ∷ xs) v) history x (λ front rest v is. each (z ∷ front) rest v (ap (λ xs. z ∷ xs) is)) h before back y (rests z w (history ++ x ∷ []) (before ++ y ∷ back) same))

pub goes_on : (m : MachineSpec) (k : ℕ) (c : CoreId) (own : List Placed) (log longer : List Event) (x : Placed) → KnowsItsPart m k c own log → StandsRightly m own x → IssuesNext m (journal_of own) x.event → events_of c longer ≡ log_of k (own ++ x ∷ []) → KnowsItsPart m k c (own ++ x ∷ []) longer
goes_on m k c own log longer x h stands issues part =
    record {
      banks = h.banks;
      stands = placed_push (StandsRightly m) own x h.stands stands;
      issues = subst (EachEvent (IssuesNext m)) (sym (map-append (λ (y : Placed). y.event) own (x ∷ []))) (each_push (IssuesNext m) (journal_of own) x.event h.issues issues);
      part = part;
    }

pub knows_at_start : (m : MachineSpec) (k : ℕ) (c : CoreId) (log : List Event) → HasBanks m → events_of c log ≡ [] → KnowsItsPart m k c [] log
knows_at_start m k c log banks none = record { banks = banks; stands = placed_none (StandsRightly m); issues = each_of_from (IssuesNext m) [] tt; part = none }

-- ---- what a seat has

-- a core's events of a log, with their stamps and without
events_alike : (c : CoreId) (log : List Stamped) → map (λ x. x.event) (diaries.events_of c.0 log) ≡ events_of c (events log)
events_alike c [] = refl
events_alike c (x ∷ log) = by (same_core x.event.actor.core c) (events_alike c log)
  where
    by : (b : Bool) → map (λ y. y.event) (diaries.events_of c.0 log) ≡ events_of c (events log) → map (λ y. y.event) (cond b (x ∷ diaries.events_of c.0 log) (diaries.events_of c.0 log)) ≡ cond b (x.event ∷ events_of c (events log)) (events_of c (events log))
    by true h = ap (λ es. x.event ∷ es) h
    by false h = h

made_alike : (k : ℕ) (mine : List Made) → map (λ x. x.event) (made_in k mine) ≡ log_of k (placed_of mine)
made_alike k [] = refl
made_alike k (x ∷ mine) = by (x.bank == k) (made_alike k mine)
  where
    by : (b : Bool) → map (λ y. y.event) (made_in k mine) ≡ log_of k (placed_of mine) → map (λ y. y.event) (cond b (record { stamp = x.stamp; event = x.event } ∷ made_in k mine) (made_in k mine)) ≡ map (λ y. y.event) (cond b (record { bank = x.bank; event = x.event } ∷ filter (is_made_in k) (placed_of mine)) (filter (is_made_in k) (placed_of mine)))
    by true h = ap (λ es. x.event ∷ es) h
    by false h = h

pub part_told : (k : ℕ) (c : CoreId) (log : List Stamped) (mine : List Made) → diaries.events_of c.0 log ≡ made_in k mine → events_of c (events log) ≡ log_of k (placed_of mine)
part_told k c log mine same = sym (events_alike c log) ∙ ap (map (λ (x : Stamped). x.event)) same ∙ made_alike k mine

pub own_told : (mine : List Made) → journal_of (placed_of mine) ≡ map (λ x. x.event) mine
own_told [] = refl
own_told (x ∷ mine) = ap (λ es. x.event ∷ es) (own_told mine)
