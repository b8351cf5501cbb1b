-- What a thread owes of an event that it gives back with the slot.
use Rattle.std.proofs.Common.{◌≡◌, ◌≢◌, ◌⊎◌, inl, inr, ℕ, zero, suc, ◌+◌, ◌-◌, ◌<◌, ◌≤◌, ◌==◌, Bool, true, false, not, if◌then◌else◌, IsTrue, List, [], ◌∷◌, ◌++◌, map, filter_map, Option, Some, None, slice_index_or, refl, sym, ◌∙◌, ap, ap₂, subst, arith, eqb-true, eq-eqb, ◌&&◌}
use Rattle.std.proofs.lemmas.Bool.{and_parts}
use Rattle.std.proofs.lemmas.Option.{same_Some}
use mathlib.Core.Option.{some}
use lib.ListN.{get_elem?}
use Rattle.pei_types.specs.declared.calls.EndKind.{EndKind}
use Rattle.pei_types.specs.declared.events.Event.{Event}
use Rattle.pei_types.specs.declared.events.EventKind.{EventKind}
use Rattle.pei_types.specs.declared.events.EventKind.TheVariants as event
use Rattle.pei_types.specs.declared.identifiers.Actor.{Actor}
use Rattle.pei_types.specs.declared.identifiers.CoreId.{CoreId}
use Rattle.pei_types.specs.declared.identifiers.Lane.{Lane}
use Rattle.pei_types.specs.declared.operations.Mode.{Mode}
use Rattle.pei_types.specs.declared.inflight_looks.PeiLook.{PeiLook}
use Rattle.pei_types.specs.declared.machines.MachineSpec.{MachineSpec}
use Rattle.pei_types.specs.declared.stamps.Stamped.{Stamped}
use Rattle.pei_types.specs.Blocks.{fold_of, same_core, same_lane, same_pei}
use Rattle.pei_types.specs.Calls.{side_of}
use Rattle.pei_types.specs.MachineState.{state_after, pei_id}
use Rattle.pei_types.specs.History.{Pei, ends_fence, entered_peis, issued_peis, pei_issued_by, pei_of}
use Rattle.pei_types.specs.Legal.{EachEvent}
use Rattle.pei_types.specs.Limits.{log_two}
use Rattle.pei_types.specs.Operation.{mode_of}
use Rattle.pei_types.specs.Program.{Listing, Contents}
use Rattle.pei_types.specs.Recency.{without}
use Rattle.pei_types.specs.Turns.{is_entering}
use Rattle.pei_types.proofs.Identities.{same_core_is}
use Rattle.pei_types.proofs.Histories.{each_last}
use Rattle.atomic_table.specs.Seated.{TableId}
use Rattle.bank_laws.specs.Rows.{IsRowIn}
use Rattle.core_exec.specs.CoreView.{Standing}
use Rattle.history_laws.specs.Members.{In}
use Rattle.history_laws.specs.TrackedPeis.{IsTracked, as_issued}
use Rattle.history_laws.proofs.Lists.{each_of, find_Some, in_filter, in_map, map_in}
use Rattle.shared_table.specs.declared.claims.Active.{Active}
use Rattle.shared_table.specs.declared.claims.Claim.{Claim}
use Rattle.shared_table.specs.declared.claims.Claim.TheVariants.{Free, Announced, Held}
use Rattle.shared_table.specs.declared.claims.Made.{Made}
use Rattle.shared_table.specs.Actives.{active_in, active_pei}
use Rattle.shared_table.specs.Diaries.{Claimed, active_of}
use Rattle.shared_table.specs.Journal.{events}
use Rattle.shared_table.specs.Orderly.{Continues, Follows}
use Rattle.shared_table.specs.Own.{Has, IsIdle}
use Rattle.shared_table.specs.Owes.{MayMake}
use Rattle.shared_table.specs.Parts.{active, claims, cleared, core_number, lent, mine, seen}
use Rattle.shared_table.specs.Place.{SeatView}
use Rattle.shared_table.specs.Slot.{SameOthers}
use Rattle.thread_laws.specs.BankLogs.{IsBankLog}
use Rattle.thread_laws.specs.OwnEvents.{IssuesNext}
use Rattle.thread_laws.proofs.Entering.{in_picked}
use Rattle.thread_laws.proofs.Lanes.{at_of_in, in_of_at}
use Rattle.thread_laws.proofs.Rows.{IsNoPeis, KindIsOf}
use Rattle.host_run.specs.declared.own_peis.OwnPei.{OwnPei}
use Rattle.host_run.specs.declared.own_peis.OwnPeis.{OwnPeis}
use Rattle.host_run.specs.ThreadInvariant.{HasSlot, KeepsUp}
use Rattle.host_run.specs.Laws.{TurnLaws}
use Rattle.host_run.specs.Own.{FitsPei, IsActiveOf, KeepsActives, KeepsClaims, KeepsLane, as_own, core_of, entry_of, is_spent, own_events, pei_in}
use Rattle.host_run.specs.Grant.{IsGranted}
use Rattle.host_run.proofs.OwnLanes.{own_pei}
use Rattle.host_run.proofs.RowCases.{LaneRow, ProgramRow, program_no_peis, row_cases}

-- a PEI that has entered keeps the claim of its lane
entered_holds : (m : MachineSpec) (c : Claim) (spent : Bool) (q : OwnPei) → KeepsLane m c spent (Some q) → q.entered ≡ true → (c ≡ Held (entry_of m q) q.mode) × (spent ≡ false)
entered_holds m (Held e k) true q h on = absurd (cc (sym on ∙ h))
entered_holds m Free true q h on = absurd h
entered_holds m (Announced e) true q h on = absurd h
entered_holds m Free false q h on = absurd (cc (sym on ∙ h))
entered_holds m (Announced e) false q h on = absurd (cc (sym on ∙ h.0))
entered_holds m (Held e k) false q h on = (rw (h.0, h.1) refl, refl)

-- the active PEIs of one core
pub active_of_in : (c : ℕ) (xs : List Active) (a : Active) → In a (active_of c xs) → In a xs × (a.core.0 ≡ c)
active_of_in c [] a h = absurd h
active_of_in c (x ∷ xs) a h = by (x.core.0 == c) refl h (active_of_in c xs a)
  where
    by : (b : Bool) → (x.core.0 == c) ≡ b → In a (if b then (x ∷ active_of c xs) else active_of c xs) → (In a (active_of c xs) → In a xs × (a.core.0 ≡ c)) → In a (x ∷ xs) × (a.core.0 ≡ c)
    by true e (inl same) rest = (inl same, ap (λ (y : Active). y.core.0) same ∙ eqb-true x.core.0 c e)
    by true e (inr i) rest = let r = rest i in (inr r.0, r.1)
    by false e i rest = let r = rest i in (inr r.0, r.1)

pub in_active_of : (c : ℕ) (xs : List Active) (a : Active) → In a xs → a.core.0 ≡ c → In a (active_of c xs)
in_active_of c [] a h own = absurd h
in_active_of c (x ∷ xs) a h own = by (x.core.0 == c) refl h (λ i. in_active_of c xs a i own)
  where
    by : (b : Bool) → (x.core.0 == c) ≡ b → (a ≡ x) ⊎ In a xs → (In a xs → In a (active_of c xs)) → In a (if b then (x ∷ active_of c xs) else active_of c xs)
    by true e (inl same) rest = inl same
    by true e (inr i) rest = inr (rest i)
    by false e (inl same) rest = absurd (cc (sym e ∙ eq-eqb x.core.0 c (ap (λ (y : Active). y.core.0) (sym same) ∙ own)))
    by false e (inr i) rest = rest i

append_in : {A : Type 0} (xs ys : List A) (x : A) → In x (xs ++ ys) → In x xs ⊎ In x ys
append_in [] ys x h = inr h
append_in (y ∷ xs) ys x (inl e) = inl (inl e)
append_in {A} (y ∷ xs) ys x (inr i) = by (append_in xs ys x i)
  where
    by : In x xs ⊎ In x ys → In x (y ∷ xs) ⊎ In x ys
    by (inl j) = inl (inr j)
    by (inr j) = inr j

subst₂ : {A B : Type 0} (P : A → B → Type 0) {a b : A} {x y : B} → a ≡ b → x ≡ y → P a x → P b y
subst₂ P {a} {b} {x} {y} e f h = subst (λ z. P b z) f (subst (λ z. P z x) e h)

-- the core's active PEIs have the claims of their lanes
pub kept_claimed : (m : MachineSpec) (s : SeatView) (o : OwnPeis) → KeepsClaims m s o → KeepsActives m s o → (b : ℕ) → Claimed (active b s) (claims s)
kept_claimed m s o lanes actives b i a at =
    let q = actives b i a at
    in let lane = lanes a.lane.0 q.6.0 q.6.1
    in let holds = entered_holds m lane.0 (is_spent o a.lane.0) q.0 (subst (KeepsLane m lane.0 (is_spent o a.lane.0)) q.1 lane.2) q.2
    in subst₂ (λ e k. Has (claims s) a.lane.0 (Held e k)) (sym q.3) (sym q.4) (subst (Has (claims s) a.lane.0) holds.0 lane.1)

module _ (laws : TurnLaws) (p : Listing) (m : MachineSpec) (image : Contents) (t : TableId) (k : ℕ) (stamp : ℕ) (s : SeatView) (core : Standing) (o : OwnPeis) (end : Option EndKind) (e : Event)
    (slot : HasSlot m image t k (seen k s) (Some stamp) s) (keeps : KeepsUp p m image s core o end) (own : e.actor.core ≡ core_of s) (row : IsRowIn p m image k (events (seen k s)) (own_events s) e)
    (granted : IsGranted m s o e) (longer : IsBankLog m image k (events (seen k s) ++ e ∷ [])) where
  abbrev pub log : List Event
  log = events (seen k s)

  pub continues : EachEvent Continues log
  continues = laws.follow.continues m image k log slot.bank

  pub continues_on : EachEvent Continues (log ++ e ∷ [])
  continues_on = laws.follow.continues m image k (log ++ e ∷ []) longer

  pub follows : Follows log e
  follows = (each_last Continues log e continues_on).0

  pub issues_next : IssuesNext m (own_events s) e
  issues_next = laws.new.row p m image k log (own_events s) e row

  pub lane_pei : (r : LaneRow m log e) → pei_in o e.actor.lane.0 ≡ Some (as_own r.pei)
  lane_pei r = (own_pei laws p m image t k (Some stamp) s core o end slot keeps e own row.actor r).0

  fresh : (a b : Pei) (i : ℕ) (x : Made) → pei_issued_by e.actor e.kind ≡ Some a → get_elem? (mine s) i ≡ some x → pei_issued_by x.event.actor x.event.kind ≡ Some b → b.id ≢ a.id
  fresh a b i x is at issued =
      laws.new.fresh m (own_events s) e a b keeps.peis.kept.events.issues issues_next is
      (in_picked (λ y. pei_issued_by y.actor y.kind) (own_events s) x.event b (map_in (λ (y : Made). y.event) (mine s) x (in_of_at (mine s) x i at)) issued)

  -- no active PEI of the core is in the lane of one that enters
  alone : (seq b : ℕ) → e.kind ≡ event.Enter seq → IsIdle (active b s) e.actor.lane.0
  alone seq b is i a at same =
      let g = granted (ap is_entering is)
      in let there = keeps.actives b i a at
      in let one : there.0 ≡ g.0 = same_Some there.0 g.0 (sym there.1 ∙ ap (pei_in o) same ∙ g.1)
      in cc (sym there.2 ∙ ap (λ (q : OwnPei). q.entered) one ∙ g.2)

  pub may_make : ((ends_fence (core_of s) e ≡ true) → o.cleared ≡ m.banks) → MayMake m.banks s.knows.side log e
  may_make all = record {
    follows = follows;
    fresh = fresh;
    alone = alone;
    cleared = λ b less ends. keeps.peis.cleared_are b (omega (arith, less, all ends));
  }

  pub others : SameOthers (core_number s) (lent s) (active_in m.directory (log ++ e ∷ []))
  others d apart =
      laws.actives.others m.directory log e d continues follows (λ same. apart (same ∙ ap (λ (c : CoreId). c.0) own))
      ∙ ap (active_of d) (sym slot.lent_is)

  -- ---- the core's active PEIs of the longer log

  -- the PEI that enters, as it is active then
  pub record NewActive (a : Active) : Type 0 where
    pub entering : is_entering e.kind ≡ true
    pub lane : a.lane ≡ e.actor.lane
    pub entry : (q : OwnPei) → pei_in o e.actor.lane.0 ≡ Some q → (a.entry ≡ entry_of m q) × (a.mode ≡ q.mode)

  -- an active PEI of the longer log was one before, or has entered now
  pub more_actives : (a : Active) → In a (active_in m.directory (log ++ e ∷ [])) → In a (active_in m.directory log) ⊎ NewActive a
  more_actives a i = by e.kind refl
    where
      stays : ((seq : ℕ) → e.kind ≢ event.Enter seq) → ((seq : ℕ) → e.kind ≢ event.Leave seq) → In a (active_in m.directory log)
      stays x y = subst (In a) (laws.actives.keeps m.directory log e continues follows x y) i

      leaves : (seq : ℕ) → e.kind ≡ event.Leave seq → In a (active_in m.directory log)
      leaves seq is =
          let r = in_map (active_pei m.directory) (without (λ q. same_pei q.id (pei_id e.actor seq)) (entered_peis log)) a (subst (In a) (laws.actives.leaves m.directory log e seq continues follows is) i)
          in let there = in_filter (λ q. not (same_pei q.id (pei_id e.actor seq))) (entered_peis log) r.0 r.1
          in subst (In a) (sym (laws.entered m.directory log)) (subst (λ x. In x (map (active_pei m.directory) (entered_peis log))) (sym r.2) (map_in (active_pei m.directory) (entered_peis log) r.0 there.0))

      enters : (seq : ℕ) → e.kind ≡ event.Enter seq → In a (active_in m.directory log) ⊎ NewActive a
      enters seq is =
          let q = laws.actives.issued log e seq follows is
          in at seq is q.0 q.1 q.3 (append_in (active_in m.directory log) (active_pei m.directory q.0 ∷ []) a (subst (In a) (laws.actives.enters m.directory log e seq q.0 continues follows is q.1) i))
        where
          fits : (seq : ℕ) → e.kind ≡ event.Enter seq → (q : Pei) → pei_of log (pei_id e.actor seq) ≡ Some q → ProgramRow p m image log (own_events s) e ⊎ LaneRow m log e → (x : OwnPei) → pei_in o e.actor.lane.0 ≡ Some x → (fold_of q.block.0 (log_two m.directory) ≡ entry_of m x) × (mode_of q.op ≡ x.mode)
          fits seq is q found (inl r) x here = absurd (subst (λ kind. IsNoPeis (side_of kind)) is (program_no_peis p m image log (own_events s) e r))
          fits seq is q found (inr r) x here =
              let kept : as_own r.pei ≡ x = same_Some (as_own r.pei) x (sym (lane_pei r) ∙ here)
              in let number : r.pei.id.seq ≡ seq = (subst (KindIsOf r.pei.id.seq r.pei.phase) is r.is_of).0
              in let tracked = each_of (IsTracked log) (state_after m log).peis r.pei (laws.track.tracked m log continues) (find_Some (λ y. same_core y.id.core e.actor.core && same_lane y.lane e.actor.lane) (state_after m log).peis r.pei r.here).0
              in let name : r.pei.id ≡ pei_id e.actor seq = ap₂ (λ (c : CoreId) n. record { core = c; seq = n }) (core_is r) number
              in let same : as_issued r.pei ≡ q = same_Some (as_issued r.pei) q (sym tracked.found ∙ ap (pei_of log) name ∙ found)
              in (ap (λ (y : Pei). fold_of y.block.0 (log_two m.directory)) (sym same) ∙ ap (entry_of m) kept, ap (λ (y : Pei). mode_of y.op) (sym same) ∙ ap (λ (y : OwnPei). y.mode) kept)
            where
              core_is : (r : LaneRow m log e) → r.pei.id.core ≡ e.actor.core
              core_is r = same_core_is r.pei.id.core e.actor.core (and_parts (same_core r.pei.id.core e.actor.core) (same_lane r.pei.lane e.actor.lane) (find_Some (λ y. same_core y.id.core e.actor.core && same_lane y.lane e.actor.lane) (state_after m log).peis r.pei r.here).1).0

          at : (seq : ℕ) → e.kind ≡ event.Enter seq → (q : Pei) → pei_of log (pei_id e.actor seq) ≡ Some q → q.lane ≡ e.actor.lane → In a (active_in m.directory log) ⊎ In a (active_pei m.directory q ∷ []) → In a (active_in m.directory log) ⊎ NewActive a
          at seq is q found lane (inl j) = inl j
          at seq is q found lane (inr (inr j)) = absurd j
          at seq is q found lane (inr (inl same)) =
              let f = fits seq is q found (row_cases p m image k log (own_events s) e row)
              in inr (record {
                entering = ap is_entering is;
                lane = ap (λ (x : Active). x.lane) same ∙ lane;
                entry = λ x here. (ap (λ (y : Active). y.entry) same ∙ (f x here).0, ap (λ (y : Active). y.mode) same ∙ (f x here).1);
              })

      by : (kind : EventKind) → e.kind ≡ kind → In a (active_in m.directory log) ⊎ NewActive a
      by (event.Enter seq) is = enters seq is
      by (event.Leave seq) is = inl (leaves seq is)
      by _ is = inl (stays (λ seq h. cc (sym is ∙ h)) (λ seq h. cc (sym is ∙ h)))

  -- each of the core's has the claim of its lane
  pub claimed : Claimed (active_of (core_number s) (active_in m.directory (log ++ e ∷ []))) (claims s)
  claimed i a at =
      let r = active_of_in (core_number s) (active_in m.directory (log ++ e ∷ [])) a (in_of_at (active_of (core_number s) (active_in m.directory (log ++ e ∷ []))) a i at)
      in by r.1 (more_actives a r.0)
    where
      held : (a : Active) (l : ℕ) (x : ℕ) (y : Mode) → a.lane.0 ≡ l → a.entry ≡ x → a.mode ≡ y → Has (claims s) l (Held x y) → Has (claims s) a.lane.0 (Held a.entry a.mode)
      held a l x y one two three has = rw (one, two, three) has

      old : IsActiveOf m o k a → Has (claims s) a.lane.0 (Held a.entry a.mode)
      old q =
          let lane = keeps.lanes a.lane.0 q.6.0 q.6.1
          in let holds = entered_holds m lane.0 (is_spent o a.lane.0) q.0 (subst (KeepsLane m lane.0 (is_spent o a.lane.0)) q.1 lane.2) q.2
          in held a a.lane.0 (entry_of m q.0) q.0.mode refl q.3 q.4 (subst (Has (claims s) a.lane.0) holds.0 lane.1)

      by : a.core.0 ≡ core_number s → In a (active_in m.directory log) ⊎ NewActive a → Has (claims s) a.lane.0 (Held a.entry a.mode)
      by own_core (inl j) =
          let there = at_of_in (active k s) a (subst (In a) slot.active_is (in_active_of (core_number s) (active_in m.directory log) a j own_core))
          in old (keeps.actives k there.0 a there.1)
      by own_core (inr new) =
          let g = granted new.entering
          in let same = new.entry g.0 g.1
          in held a e.actor.lane.0 (entry_of m g.0) g.0.mode (ap (λ (l : Lane). l.0) new.lane) same.0 same.1 g.4
