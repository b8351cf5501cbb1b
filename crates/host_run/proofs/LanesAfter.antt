-- What a thread keeps of its lanes goes on with the event that it gave back.
use Rattle.std.proofs.Common.{◌≡◌, ◌≢◌, ◌⊎◌, inl, inr, ℕ, zero, suc, ◌+◌, ◌-◌, ◌<◌, ◌≤◌, Bool, true, false, not, List, [], ◌∷◌, ◌++◌, length, map, Option, Some, None, slice_index_or, slice_set, refl, sym, ◌∙◌, ap, ap₂, subst, arith}
use Rattle.std.proofs.lemmas.List.{get_or-set_same, get_or-set_other}
use Rattle.std.proofs.lemmas.Option.{same_Some}
use Rattle.std.specs.Prelude.{option_map, is_none, find}
use mathlib.Core.Option.{some, some-injective}
use lib.ListN.{get_elem?}
use Rattle.atomic_table.specs.Seated.{TableId}
use Rattle.pei_types.specs.declared.calls.EndKind.{EndKind}
use Rattle.pei_types.specs.declared.events.Event.{Event}
use Rattle.pei_types.specs.declared.events.EventKind.{EventKind}
use Rattle.pei_types.specs.declared.events.EventKind.TheVariants as event
use Rattle.pei_types.specs.declared.identifiers.Actor.{Actor}
use Rattle.pei_types.specs.declared.identifiers.CoreId.{CoreId}
use Rattle.pei_types.specs.declared.identifiers.Lane.{Lane}
use Rattle.pei_types.specs.declared.inflight_looks.PeiLook.{PeiLook}
use Rattle.pei_types.specs.declared.inflight_looks.Phase.{Phase}
use Rattle.pei_types.specs.declared.inflight_looks.Phase.TheVariants as phase
use Rattle.pei_types.specs.declared.machines.MachineSpec.{MachineSpec}
use Rattle.pei_types.specs.declared.stamps.Stamped.{Stamped}
use Rattle.pei_types.specs.Calls.{Side, follows_phase, side_of}
use Rattle.pei_types.specs.MachineState.{State, state_after, free_lane, lanes_of, look_in}
use Rattle.pei_types.specs.declared.identifiers.BlockNo.{BlockNo}
use Rattle.pei_types.specs.declared.operations.Op.{Op}
use Rattle.pei_types.specs.declared.operations.Operands.{Operands}
use Rattle.pei_types.specs.MachineState.{is_phase}
use Rattle.pei_types.specs.Operation.{mode_of}
use Rattle.pei_types.specs.Program.{Listing, Contents}
use Rattle.pei_types.specs.Turns.{is_entering}
use Rattle.bank_laws.specs.Banks.{bank_of}
use Rattle.bank_laws.specs.Rows.{IsRowIn}
use Rattle.core_exec.specs.CoreView.{Standing}
use Rattle.history_laws.specs.Members.{In}
use Rattle.history_laws.proofs.Lists.{find_Some}
use Rattle.shared_table.specs.declared.claims.Active.{Active}
use Rattle.shared_table.specs.declared.claims.Claim.{Claim}
use Rattle.shared_table.specs.declared.claims.Claim.TheVariants.{Free, Announced, Held}
use Rattle.shared_table.specs.Actives.{active_in}
use Rattle.shared_table.specs.Diaries.{active_of}
use Rattle.shared_table.specs.Journal.{events}
use Rattle.shared_table.specs.Own.{Has, IsIdle}
use Rattle.shared_table.specs.Parts.{active, claims, core_number, seen, slot_given}
use Rattle.shared_table.specs.Place.{SeatView}
use Rattle.thread_laws.specs.BankLogs.{IsBankLog}
use Rattle.thread_laws.specs.OwnEvents.{IssuesBy}
use Rattle.thread_laws.proofs.Lanes.{at_of_in, in_of_at}
use Rattle.thread_laws.proofs.Rows.{IsNoPeis, KindIsOf}
use Rattle.host_run.specs.declared.own_peis.OwnPei.{OwnPei}
use Rattle.host_run.specs.declared.own_peis.OwnPeis.{OwnPeis}
use Rattle.host_run.specs.ThreadInvariant.{HasSlot, KeepsUp}
use Rattle.host_run.specs.Laws.{TurnLaws}
use Rattle.host_run.specs.Own.{IsActiveOf, IsLane, KeepsActives, KeepsClaims, KeepsLane, as_entered, as_own, core_of, entry_of, is_spent, lanes_after, own_events, own_lanes, pei_in, spent_after}
use Rattle.host_run.specs.Grant.{IsGranted}
use Rattle.host_run.proofs.Giving.{NewActive, active_of_in, claimed, continues, follows, in_active_of, issues_next, lane_pei, more_actives}
use Rattle.host_run.proofs.Looks.{lane_fits}
use Rattle.host_run.proofs.OwnLanes.{lane_is, lane_within, own_pei}
use Rattle.host_run.proofs.RowCases.{LaneRow, ProgramRow, program_no_peis, row_cases}
use Rattle.host_run.proofs.SeatSteps.{same_bank}

-- ---- one lane of four

pub lane_set : {A : Type 0} (xs : List A) (d y : A) (l n : ℕ) → length xs ≡ 4 → 1 ≤ l → l ≤ 4 → n ≡ l → slice_index_or (slice_set xs (l - 1) y) (n - 1) d ≡ y
lane_set xs d y l n four low high same = rw same (get_or-set_same xs (l - 1) y d (omega (arith, four, low, high)))

pub lane_apart : {A : Type 0} (xs : List A) (d y : A) (l n : ℕ) → 1 ≤ l → 1 ≤ n → n ≢ l → slice_index_or (slice_set xs (l - 1) y) (n - 1) d ≡ slice_index_or xs (n - 1) d
lane_apart xs d y l n low one apart = get_or-set_other xs (l - 1) (n - 1) y d (λ e. apart (omega (arith, e, low, one)))

pub same_number : (a b : ℕ) → (a ≡ b) ⊎ (a ≢ b)
same_number a b = same_bank ((a ≡ b) ⊎ (a ≢ b)) a b inl inr

-- ---- what becomes of a lane

-- the lane n of `after` is as it was in `before`, or one of these
pub record Stays (before after : OwnPeis) (n : ℕ) : Type 0 where
  pub pei : pei_in after n ≡ pei_in before n
  pub spent : is_spent after n ≡ is_spent before n

pub record GetsPei (before after : OwnPeis) (n : ℕ) : Type 0 where
  pub none : pei_in before n ≡ None
  pub pei : OwnPei
  pub there : pei_in after n ≡ Some pei
  pub waits : pei.entered ≡ false
  pub spent : is_spent after n ≡ is_spent before n

pub record LetsEnter (holds : ℕ → OwnPei → Type 0) (before after : OwnPeis) (n : ℕ) : Type 0 where
  pub pei : OwnPei
  pub claim : holds n pei
  pub there : pei_in before n ≡ Some pei
  pub waits : pei.entered ≡ false
  pub held : is_spent before n ≡ false
  pub now : pei_in after n ≡ Some (as_entered pei)
  pub spent : is_spent after n ≡ is_spent before n

pub record LosesPei (gone : ℕ → OwnPei → Type 0) (before after : OwnPeis) (n : ℕ) : Type 0 where
  pub pei : OwnPei
  pub leaves : gone n pei
  pub there : pei_in before n ≡ Some pei
  pub entered : pei.entered ≡ true
  pub none : pei_in after n ≡ None
  pub spent : is_spent after n ≡ true

-- `holds` says that the lane has the claim of its PEI, and `gone` what is known where a PEI leaves
pub data Change (holds gone : ℕ → OwnPei → Type 0) (before after : OwnPeis) (n : ℕ) : Type 0 where
  Same : Stays before after n → Change holds gone before after n
  Issued : GetsPei before after n → Change holds gone before after n
  Entered : LetsEnter holds before after n → Change holds gone before after n
  Left : LosesPei gone before after n → Change holds gone before after n

-- ---- the claim of a lane

-- the lane holds the PEI's entry in its mode
abbrev pub HoldsFor : MachineSpec → List Claim → ℕ → OwnPei → Type 0
HoldsFor m xs n q = Has xs n (Held (entry_of m q) q.mode)

pub one_claim : (xs : List Claim) (n : ℕ) (c d : Claim) → Has xs n c → Has xs n d → c ≡ d
one_claim xs n c d h k = some-injective c d (sym h.1 ∙ k.1)

changed_claim : (m : MachineSpec) (gone : ℕ → OwnPei → Type 0) (xs : List Claim) (c : Claim) (a b : OwnPeis) (n : ℕ) → Has xs n c → Change (HoldsFor m xs) gone a b n → KeepsLane m c (is_spent a n) (pei_in a n) → KeepsLane m c (is_spent b n) (pei_in b n)
changed_claim m gone xs c a b n has (Same h) k = rw (h.spent, h.pei) k
changed_claim m gone xs c a b n has (Issued h) k = rw (h.spent, h.there) (by (is_spent a n) c (subst (KeepsLane m c (is_spent a n)) h.none k))
  where
    by : (t : Bool) (d : Claim) → KeepsLane m d t None → KeepsLane m d t (Some h.pei)
    by true (Held e w) g = h.waits
    by true Free g = absurd g
    by true (Announced e) g = absurd g
    by false d g = rw g h.waits
changed_claim m gone xs c a b n has (Entered h) k = rw (h.spent, h.now, h.held, one_claim xs n c (Held (entry_of m h.pei) h.pei.mode) has h.claim) (refl, refl)
changed_claim m gone xs c a b n has (Left h) k = rw (h.spent, h.none) (by (is_spent a n) c (subst (KeepsLane m c (is_spent a n)) h.there k))
  where
    by : (t : Bool) (d : Claim) → KeepsLane m d t (Some h.pei) → KeepsLane m d true None
    by true (Held e w) g = tt
    by true Free g = absurd g
    by true (Announced e) g = absurd g
    by false (Held e w) g = tt
    by false Free g = absurd (cc (sym g ∙ h.entered))
    by false (Announced e) g = absurd (cc (sym g.0 ∙ h.entered))

-- ---- an active PEI's lane, of which the change says nothing but that it stays or its PEI leaves

changed_active : (m : MachineSpec) (holds gone : ℕ → OwnPei → Type 0) (a b : OwnPeis) (bank : ℕ) (x : Active) → Change holds gone a b x.lane.0 → (LosesPei gone a b x.lane.0 → ⊥) → IsActiveOf m a bank x → IsActiveOf m b bank x
changed_active m holds gone a b bank x (Same h) stays k = (k.0, h.pei ∙ k.1, k.2, k.3, k.4, k.5, k.6)
changed_active m holds gone a b bank x (Issued h) stays k = absurd (cc (sym h.none ∙ k.1))
changed_active m holds gone a b bank x (Entered h) stays k = absurd (cc (sym k.2 ∙ ap (λ (q : OwnPei). q.entered) (same_Some k.0 h.pei (sym k.1 ∙ h.there)) ∙ h.waits))
changed_active m holds gone a b bank x (Left h) stays k = absurd (stays h)

-- ---- the change by an event

module _ (laws : TurnLaws) (p : Listing) (m : MachineSpec) (image : Contents) (t : TableId) (k : ℕ) (stamp : ℕ) (s : SeatView) (core : Standing) (o : OwnPeis) (end : Option EndKind) (e : Event)
    (slot : HasSlot m image t k (seen k s) (Some stamp) s) (keeps : KeepsUp p m image s core o end) (own : e.actor.core ≡ core_of s) (row : IsRowIn p m image k (events (seen k s)) (own_events s) e)
    (granted : IsGranted m s o e) (longer : IsBankLog m image k (events (seen k s) ++ e ∷ [])) (n : OwnPeis)
    (lanes_are : n.lanes ≡ lanes_after e.actor e.kind o.lanes) (spent_are : n.spent ≡ spent_after e.actor e.kind o.spent) where
  -- a PEI leaves in the lane of the event, which is its Leave, and its block is the bank's
  abbrev Leaves : ℕ → OwnPei → Type 0
  Leaves l q = (l ≡ e.actor.lane.0) × (bank_of m q.block ≡ k) × (seq : ℕ) × (e.kind ≡ event.Leave seq)

  abbrev Changes : ℕ → Type 0
  Changes l = Change (HoldsFor m (claims s)) Leaves o n l

  four : length o.lanes ≡ 4
  four = ap length keeps.peis.kept.lanes

  kept : (l : ℕ) → n.lanes ≡ o.lanes → n.spent ≡ o.spent → Changes l
  kept l a b = Same (record { pei = ap (λ xs. slice_index_or xs (l - 1) None) a; spent = ap (λ xs. slice_index_or xs (l - 1) false) b })

  -- an issue
  issued : (seq : ℕ) (lane : Lane) (op : Op) (b : BlockNo) (x : Operands) → e.kind ≡ event.Issue seq lane op b x → (l : ℕ) → 1 ≤ l → l ≤ 4 → Changes l
  issued seq lane op b x is l low high =
      let fits = subst (IssuesBy m (state_after m (own_events s)) e.actor) is (issues_next laws p m image t k stamp s core o end e slot keeps own row granted longer)
      in let within = lane_fits m (state_after m (own_events s)) e.actor.core lane fits.2
      in by fits.2 within (same_number l lane.0)
    where
      made : OwnPei
      made = record { seq = seq; block = b; mode = mode_of op; entered = false }

      lanes_now : n.lanes ≡ slice_set o.lanes (lane.0 - 1) (Some made)
      lanes_now = lanes_are ∙ ap (λ kind. lanes_after e.actor kind o.lanes) is

      spent_now : n.spent ≡ o.spent
      spent_now = spent_are ∙ ap (λ kind. spent_after e.actor kind o.spent) is

      free : free_lane m (state_after m (own_events s)) e.actor.core ≡ Some lane → l ≡ lane.0 → pei_in o l ≡ None
      free found same =
          let none : is_none (look_in (state_after m (own_events s)) e.actor.core lane) ≡ true = (find_Some (λ y. is_none (look_in (state_after m (own_events s)) e.actor.core y)) (lanes_of m) lane found).1
          in lane_is (state_after m (own_events s)) (core_of s) o keeps.peis.kept.lanes l low high
          ∙ ap (λ j. option_map as_own (look_in (state_after m (own_events s)) (core_of s) (record { 0 = j }))) same
          ∙ ap (option_map as_own) (nothing (look_in (state_after m (own_events s)) (core_of s) lane) (subst (λ c. is_none (look_in (state_after m (own_events s)) c lane) ≡ true) own none))
        where
          nothing : (q : Option PeiLook) → is_none q ≡ true → q ≡ None
          nothing None h = refl
          nothing (Some q) h = absurd (cc h)

      by : free_lane m (state_after m (own_events s)) e.actor.core ≡ Some lane → (1 ≤ lane.0) × (lane.0 ≤ m.buffer) → (l ≡ lane.0) ⊎ (l ≢ lane.0) → Changes l
      by found within (inl same) =
          Issued (record {
            none = free found same;
            pei = made;
            there = ap (λ xs. slice_index_or xs (l - 1) None) lanes_now ∙ lane_set o.lanes None (Some made) lane.0 l four within.0 (omega (arith, same, high)) same;
            waits = refl;
            spent = ap (λ xs. slice_index_or xs (l - 1) false) spent_now;
          })
      by found within (inr apart) =
          Same (record {
            pei = ap (λ xs. slice_index_or xs (l - 1) None) lanes_now ∙ lane_apart o.lanes None (Some made) lane.0 l within.0 low apart;
            spent = ap (λ xs. slice_index_or xs (l - 1) false) spent_now;
          })

  -- a PEI enters
  enters_now : (seq : ℕ) → e.kind ≡ event.Enter seq → 0 < e.actor.lane.0 → pei_in n e.actor.lane.0 ≡ option_map as_entered (pei_in o e.actor.lane.0)
  enters_now seq is low =
      ap (λ xs. slice_index_or xs (e.actor.lane.0 - 1) None) (lanes_are ∙ ap (λ kind. lanes_after e.actor kind o.lanes) is)
      ∙ lane_set o.lanes None (option_map as_entered (pei_in o e.actor.lane.0)) e.actor.lane.0 e.actor.lane.0 four low (lane_within m e.actor row.actor) refl

  entered : (r : LaneRow m (events (seen k s)) e) (seq : ℕ) → e.kind ≡ event.Enter seq → (l : ℕ) → 1 ≤ l → l ≤ 4 → Changes l
  entered r seq is l low high = by (granted (ap is_entering is)) (same_number l e.actor.lane.0)
    where
      lanes_now : n.lanes ≡ slice_set o.lanes (e.actor.lane.0 - 1) (option_map as_entered (pei_in o e.actor.lane.0))
      lanes_now = lanes_are ∙ ap (λ kind. lanes_after e.actor kind o.lanes) is

      spent_now : n.spent ≡ o.spent
      spent_now = spent_are ∙ ap (λ kind. spent_after e.actor kind o.spent) is

      by : (q : OwnPei) × (pei_in o e.actor.lane.0 ≡ Some q) × (q.entered ≡ false) × (is_spent o e.actor.lane.0 ≡ false) × Has (claims s) e.actor.lane.0 (Held (entry_of m q) q.mode) → (l ≡ e.actor.lane.0) ⊎ (l ≢ e.actor.lane.0) → Changes l
      by g (inl same) =
          Entered (record {
            pei = g.0;
            claim = subst (λ j. Has (claims s) j (Held (entry_of m g.0) g.0.mode)) (sym same) g.4;
            there = ap (pei_in o) same ∙ g.1;
            waits = g.2;
            held = ap (is_spent o) same ∙ g.3;
            now = ap (pei_in n) same ∙ enters_now seq is r.lane ∙ ap (option_map as_entered) g.1;
            spent = ap (λ xs. slice_index_or xs (l - 1) false) spent_now;
          })
      by g (inr apart) =
          Same (record {
            pei = ap (λ xs. slice_index_or xs (l - 1) None) lanes_now ∙ lane_apart o.lanes None (option_map as_entered (pei_in o e.actor.lane.0)) e.actor.lane.0 l r.lane low apart;
            spent = ap (λ xs. slice_index_or xs (l - 1) false) spent_now;
          })

  -- a PEI leaves
  left : (r : LaneRow m (events (seen k s)) e) (seq : ℕ) → e.kind ≡ event.Leave seq → (l : ℕ) → 1 ≤ l → l ≤ 4 → Changes l
  left r seq is l low high = by (same_number l e.actor.lane.0)
    where
      lanes_now : n.lanes ≡ slice_set o.lanes (e.actor.lane.0 - 1) None
      lanes_now = lanes_are ∙ ap (λ kind. lanes_after e.actor kind o.lanes) is

      spent_now : n.spent ≡ slice_set o.spent (e.actor.lane.0 - 1) true
      spent_now = spent_are ∙ ap (λ kind. spent_after e.actor kind o.spent) is

      acted : (ph : Phase) → follows_phase ph (event.Leave seq) ≡ true → not (is_phase ph phase.Issued) ≡ true
      acted phase.Acted h = refl
      acted phase.Issued h = absurd (cc h)
      acted phase.Entered h = absurd (cc h)
      acted phase.HostPlaced h = absurd (cc h)
      acted phase.MemoryPlaced h = absurd (cc h)
      acted phase.Read h = absurd (cc h)
      acted phase.Sealed h = absurd (cc h)

      by : (l ≡ e.actor.lane.0) ⊎ (l ≢ e.actor.lane.0) → Changes l
      by (inl same) =
          Left (record {
            pei = as_own r.pei;
            leaves = (same, (own_pei laws p m image t k (Some stamp) s core o end slot keeps e own row.actor r).1, seq, is);
            there = ap (pei_in o) same ∙ lane_pei laws p m image t k stamp s core o end e slot keeps own row granted longer r;
            entered = acted r.pei.phase (subst (KindIsOf r.pei.id.seq r.pei.phase) is r.is_of).1;
            none = ap (λ xs. slice_index_or xs (l - 1) None) lanes_now ∙ lane_set o.lanes None None e.actor.lane.0 l four r.lane (lane_within m e.actor row.actor) same;
            spent = ap (λ xs. slice_index_or xs (l - 1) false) spent_now ∙ lane_set o.spent false true e.actor.lane.0 l keeps.peis.four r.lane (lane_within m e.actor row.actor) same;
          })
      by (inr apart) =
          Same (record {
            pei = ap (λ xs. slice_index_or xs (l - 1) None) lanes_now ∙ lane_apart o.lanes None None e.actor.lane.0 l r.lane low apart;
            spent = ap (λ xs. slice_index_or xs (l - 1) false) spent_now ∙ lane_apart o.spent false true e.actor.lane.0 l r.lane low apart;
          })

  pub changes : (l : ℕ) → 1 ≤ l → l ≤ 4 → Changes l
  changes l low high = by (row_cases p m image k (events (seen k s)) (own_events s) e row)
    where
      others : ((lanes : List (Option OwnPei)) → lanes_after e.actor e.kind lanes ≡ lanes) → ((spent : List Bool) → spent_after e.actor e.kind spent ≡ spent) → Changes l
      others a b = kept l (lanes_are ∙ a o.lanes) (spent_are ∙ b o.spent)

      plain : (kind : EventKind) → e.kind ≡ kind → ((lanes : List (Option OwnPei)) → lanes_after e.actor kind lanes ≡ lanes) → ((spent : List Bool) → spent_after e.actor kind spent ≡ spent) → Changes l
      plain kind is a b = others (λ xs. ap (λ kind. lanes_after e.actor kind xs) is ∙ a xs) (λ xs. ap (λ kind. spent_after e.actor kind xs) is ∙ b xs)

      program : (kind : EventKind) → e.kind ≡ kind → IsNoPeis (side_of kind) → Changes l
      program (event.Issue seq lane op b x) is h = issued seq lane op b x is l low high
      program (event.Enter seq) is h = absurd h
      program (event.Leave seq) is h = absurd h
      program _ is h = plain _ is (λ xs. refl) (λ xs. refl)

      lane : (r : LaneRow m (events (seen k s)) e) (kind : EventKind) → e.kind ≡ kind → KindIsOf r.pei.id.seq r.pei.phase kind → Changes l
      lane r (event.Issue seq l op b x) is h = absurd h
      lane r (event.Enter seq) is h = entered r seq is l low high
      lane r (event.Leave seq) is h = left r seq is l low high
      lane r _ is h = plain _ is (λ xs. refl) (λ xs. refl)

      by : ProgramRow p m image (events (seen k s)) (own_events s) e ⊎ LaneRow m (events (seen k s)) e → Changes l
      by (inl r) = program e.kind refl (program_no_peis p m image (events (seen k s)) (own_events s) e r)
      by (inr r) = lane r e.kind refl r.is_of

  pub lanes_next : KeepsClaims m s n
  lanes_next l low high =
      let has = keeps.lanes l low high
      in (has.0, has.1, changed_claim m Leaves (claims s) has.0 o n l has.1 (changes l low high) has.2)

  -- ---- the active PEIs

  enter_of : (kind : EventKind) → is_entering kind ≡ true → (seq : ℕ) × (kind ≡ event.Enter seq)
  enter_of (event.Enter seq) h = (seq, refl)
  enter_of _ h = absurd (cc h)

  module _ (x : Stamped) (left_now : List Active) (left_is : left_now ≡ active_in m.directory (events (seen k s) ++ e ∷ [])) where
    abbrev pub after : SeatView
    after = slot_given s k (seen k s ++ x ∷ []) left_now

    idle : (seq : ℕ) → e.kind ≡ event.Leave seq → (a : Active) → In a (active_of (core_number s) (active_in m.directory (events (seen k s) ++ e ∷ []))) → a.lane.0 ≡ e.actor.lane.0 → ⊥
    idle seq is a i same =
        let free = laws.actives.idle m.directory m image k (events (seen k s)) slot.order.0 e seq slot.bank slot.order.1 (follows laws p m image t k stamp s core o end e slot keeps own row granted longer) is
        in let there = at_of_in (active_of (core_number s) (active_in m.directory (events (seen k s) ++ e ∷ []))) a i
        in subst (λ (c : CoreId). IsIdle (active_of c.0 (active_in m.directory (events (seen k s) ++ e ∷ []))) e.actor.lane.0) own free there.0 a there.1 same

    -- one that was active before stays so
    old_active : (b : ℕ) (a : Active) → (LosesPei Leaves o n a.lane.0 → ⊥) → IsActiveOf m o b a → IsActiveOf m n b a
    old_active b a stays q = changed_active m (HoldsFor m (claims s)) Leaves o n b a (changes a.lane.0 q.6.0 q.6.1) stays q

    -- one that has entered now
    new_active : (a : Active) → NewActive laws p m image t k stamp s core o end e slot keeps own row granted longer a → IsActiveOf m n k a
    new_active a new = by (granted new.entering) (enter_of e.kind new.entering) (row_cases p m image k (events (seen k s)) (own_events s) e row)
      where
        by : (q : OwnPei) × (pei_in o e.actor.lane.0 ≡ Some q) × (q.entered ≡ false) × (is_spent o e.actor.lane.0 ≡ false) × Has (claims s) e.actor.lane.0 (Held (entry_of m q) q.mode) → (seq : ℕ) × (e.kind ≡ event.Enter seq)
            → ProgramRow p m image (events (seen k s)) (own_events s) e ⊎ LaneRow m (events (seen k s)) e → IsActiveOf m n k a
        by g is (inl r) = absurd (subst (λ kind. IsNoPeis (side_of kind)) is.1 (program_no_peis p m image (events (seen k s)) (own_events s) e r))
        by g is (inr r) =
            let mine = own_pei laws p m image t k (Some stamp) s core o end slot keeps e own row.actor r
            in let same : as_own r.pei ≡ g.0 = same_Some (as_own r.pei) g.0 (sym mine.0 ∙ g.1)
            in let names = new.entry g.0 g.1
            in let number : a.lane.0 ≡ e.actor.lane.0 = ap (λ (l : Lane). l.0) new.lane
            in (
              as_entered g.0,
              ap (pei_in n) number ∙ enters_now is.0 is.1 r.lane ∙ ap (option_map as_entered) g.1,
              refl,
              names.0,
              names.1,
              ap (λ (q : OwnPei). bank_of m q.block) (sym same) ∙ mine.1,
              (rw number r.lane, rw number (lane_within m e.actor row.actor)),
            )

    pub actives_next : KeepsActives m after n
    actives_next b i a at =
        same_bank (IsActiveOf m n b a) b k
        (λ same. subst (λ j. IsActiveOf m n j a) (sym same) (here (subst (λ j. In a (active j after)) same (in_of_at (active b after) a i at))))
        (λ apart.
        let q = keeps.actives b i a (subst (λ xs. get_elem? xs i ≡ some a) (laws.seats.given_active_else s k b (seen k s ++ x ∷ []) left_now apart) at)
        in old_active b a (λ lost. apart (sym q.5 ∙ ap (λ (z : OwnPei). bank_of m z.block) (same_Some q.0 lost.pei (sym q.1 ∙ lost.there)) ∙ lost.leaves.1)) q)
      where
        here : In a (active k after) → IsActiveOf m n k a
        here i =
            let there : In a (active_of (core_number s) (active_in m.directory (events (seen k s) ++ e ∷ []))) = subst (λ xs. In a (active_of (core_number s) xs)) left_is (subst (In a) (laws.seats.given_active s k (seen k s ++ x ∷ []) left_now) i)
            in let r = active_of_in (core_number s) (active_in m.directory (events (seen k s) ++ e ∷ [])) a there
            in by there r.1 (more_actives laws p m image t k stamp s core o end e slot keeps own row granted longer a r.0)
          where
            by : In a (active_of (core_number s) (active_in m.directory (events (seen k s) ++ e ∷ []))) → a.core.0 ≡ core_number s → In a (active_in m.directory (events (seen k s))) ⊎ NewActive laws p m image t k stamp s core o end e slot keeps own row granted longer a → IsActiveOf m n k a
            by there own_core (inl j) =
                let at = at_of_in (active k s) a (subst (In a) slot.active_is (in_active_of (core_number s) (active_in m.directory (events (seen k s))) a j own_core))
                in old_active k a (λ lost. idle lost.leaves.2 lost.leaves.3 a there lost.leaves.0) (keeps.actives k at.0 a at.1)
            by there own_core (inr new) = new_active a new
