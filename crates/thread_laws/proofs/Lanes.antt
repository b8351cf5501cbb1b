-- PEIs in lanes of their own, and entries that are free.
use Rattle.std.proofs.Common.{◌≡◌, ◌⊎◌, inl, inr, ℕ, zero, suc, Bool, true, false, not, ◌&&◌, ◌||◌, cond, List, [], ◌∷◌, Some, refl, sym, ◌∙◌, ap, subst, eq-eqb, eqb-true, nat_eq}
use Rattle.std.proofs.lemmas.Bool.{and_parts}
use mathlib.Core.Option.{some, some-ne-none, some-injective}
use lib.ListN.{get_elem?}
use Rattle.pei_types.specs.declared.identifiers.CoreId.{CoreId}
use Rattle.pei_types.specs.declared.identifiers.Lane.{Lane}
use Rattle.pei_types.specs.declared.operations.Mode.TheVariants.{Reader, Writer}
use Rattle.pei_types.specs.declared.inflight_looks.PeiLook.{PeiLook}
use Rattle.pei_types.specs.declared.inflight_looks.Phase.TheVariants as phase
use Rattle.pei_types.specs.declared.events.Event.{Event}
use Rattle.pei_types.specs.declared.machines.MachineSpec.{MachineSpec}
use Rattle.pei_types.specs.Blocks.{same_core, same_lane, entry_of}
use Rattle.pei_types.specs.MachineState.{State, state_after, look_in, entry_is_taken, is_phase}
use Rattle.pei_types.specs.Exclusion.{conflicts}
use Rattle.pei_types.specs.History.{Pei, entered_peis}
use Rattle.pei_types.specs.Operation.{is_writer, mode_of}
use Rattle.pei_types.specs.Program.{Contents}
use Rattle.pei_types.proofs.Identities.{same_core_is, same_lane_is}
use Rattle.pei_types.proofs.Tests.{same_self}
use Rattle.history_laws.specs.EntryOrder.{LanesApart}
use Rattle.history_laws.specs.Members.{In}
use Rattle.history_laws.specs.TrackedPeis.{as_issued, is_past_issue}
use Rattle.coherence_laws.specs.Holdings.{Holdings}
use Rattle.coherence_laws.specs.Invariants.{GoTogether}
use Rattle.coherence_laws.specs.Sets.{EachPair}
use Rattle.bank_laws.specs.Kept.{BankInOrder}
use Rattle.shared_table.specs.declared.claims.Active.{Active}
use Rattle.shared_table.specs.declared.claims.Claim.{Claim}
use Rattle.shared_table.specs.declared.claims.Claim.TheVariants.{Held}
use Rattle.shared_table.specs.Actives.{ActivesAreEntered, active_pei, active_in}
use Rattle.shared_table.specs.Own.{Has}
use Rattle.shared_table.specs.Rule.{IsClear}
use Rattle.thread_laws.proofs.Lists.{some_in}
use Rattle.thread_laws.proofs.Entering.{past_entered, entered_past}
use Rattle.thread_laws.proofs.Tracks.{Tracks}
use Rattle.history_laws.proofs.Lists.{each_of, map_in, find_Some}

-- two of a list are one, or one stands before the other
pub paired : {A : Type 0} (R : A → A → Type 0) (xs : List A) (x y : A) → EachPair R xs → In x xs → In y xs → (x ≡ y) ⊎ (R x y ⊎ R y x)
paired R [] x y h i j = absurd i
paired R (z ∷ zs) x y h (inl e) (inl f) = inl (e ∙ sym f)
paired R (z ∷ zs) x y h (inl e) (inr j) = inr (inl (subst (λ w. R w y) (sym e) (each_of (R z) zs y h.0 j)))
paired R (z ∷ zs) x y h (inr i) (inl f) = inr (inr (subst (λ w. R w x) (sym f) (each_of (R z) zs x h.0 i)))
paired R (z ∷ zs) x y h (inr i) (inr j) = paired R zs x y h.1 i j

pub bank_lanes : (m : MachineSpec) (image : Contents) (log : List Event) (h : Holdings) → BankInOrder m image log h → LanesApart (state_after m log)
bank_lanes m image log h order p q i j core lane = by (paired (GoTogether m) (state_after m log).peis p q order.invariants.holds.together i j)
  where
    turned : same_core q.id.core p.id.core ≡ true
    turned = ap (λ c. same_core c p.id.core) (sym (same_core_is p.id.core q.id.core core)) ∙ same_self p.id.core.0

    turned_lane : same_lane q.lane p.lane ≡ true
    turned_lane = ap (λ l. same_lane l p.lane) (sym (same_lane_is p.lane q.lane lane)) ∙ same_self p.lane.0

    by : (p ≡ q) ⊎ (GoTogether m p q ⊎ GoTogether m q p) → p ≡ q
    by (inl e) = e
    by (inr (inl g)) = absurd (cc (sym lane ∙ g.lanes core))
    by (inr (inr g)) = absurd (cc (sym turned_lane ∙ g.lanes turned))

-- two PEIs that have entered are not in one lane
pub entered_lanes : (log : List Event) (s : State) → Tracks log s.peis → LanesApart s → (p q : Pei) → In p (entered_peis log) → In q (entered_peis log) → same_core p.id.core q.id.core ≡ true → same_lane p.lane q.lane ≡ true → p ≡ q
entered_lanes log s g lanes p q i j core lane =
    let x = entered_past log s.peis g p i
    in let y = entered_past log s.peis g q j
    in let same : x.0 ≡ y.0 = lanes x.0 y.0 x.1 y.1
    (ap (λ r. same_core r.id.core y.0.id.core) x.3 ∙ ap (λ r. same_core p.id.core r.id.core) y.3 ∙ core)
    (ap (λ r. same_lane r.lane y.0.lane) x.3 ∙ ap (λ r. same_lane p.lane r.lane) y.3 ∙ lane)
    in sym x.3 ∙ ap as_issued same ∙ y.3

pub at_of_in : {A : Type 0} (xs : List A) (x : A) → In x xs → (i : ℕ) × (get_elem? xs i ≡ some x)
at_of_in [] x i = absurd i
at_of_in (y ∷ ys) x (inl e) = (0, ap some (sym e))
at_of_in (y ∷ ys) x (inr i) = let r = at_of_in ys x i in (suc r.0, r.1)

pub in_of_at : {A : Type 0} (xs : List A) (x : A) (i : ℕ) → get_elem? xs i ≡ some x → In x xs
in_of_at [] x i e = absurd (some-ne-none x (sym e))
in_of_at (y ∷ ys) x zero e = inl (sym (some-injective y x e))
in_of_at (y ∷ ys) x (suc i) e = inr (in_of_at ys x i e)

-- readers do not conflict
reader_reads : (b : Bool) → cond b Writer Reader ≡ Reader → b ≡ false
reader_reads true h = absurd (cc h)
reader_reads false h = refl

-- A PEI that has not entered, whose entry its lane holds, finds it free where no active PEI is in the way of the claims.
pub free_entry : ActivesAreEntered → (m : MachineSpec) (log : List Event) (s : State) (c : CoreId) (l : Lane) (p : PeiLook) (claims : List Claim) → Tracks log s.peis → LanesApart s → IsClear c.0 claims (active_in m.directory log) → look_in s c l ≡ Some p → is_past_issue p ≡ false → Has claims l.0 (Held (entry_of m p.block) (mode_of p.op)) → entry_is_taken m s p ≡ false
free_entry are m log s c l p claims g lanes clear here unentered held = by (entry_is_taken m s p) refl
  where
    seen : In p s.peis × ((same_core p.id.core c && same_lane p.lane l) ≡ true)
    seen = find_Some (λ x. same_core x.id.core c && same_lane x.lane l) s.peis p here

    in_lane : (same_core p.id.core c ≡ true) × (same_lane p.lane l ≡ true)
    in_lane = and_parts (same_core p.id.core c) (same_lane p.lane l) seen.1

    -- an active PEI is in another lane
    elsewhere : (q : PeiLook) → In q s.peis → is_past_issue q ≡ true → (q.id.core.0 ≡ c.0) × (q.lane.0 ≡ l.0) → ⊥
    elsewhere q i past at =
        let core : same_core p.id.core q.id.core ≡ true = eq-eqb p.id.core.0 q.id.core.0 (eqb-true p.id.core.0 c.0 in_lane.0 ∙ sym at.0)
        in let lane : same_lane p.lane q.lane ≡ true = eq-eqb p.lane.0 q.lane.0 (eqb-true p.lane.0 l.0 in_lane.1 ∙ sym at.1)
        in cc (sym unentered ∙ ap is_past_issue (lanes p q seen.0 i core lane) ∙ past)

    clash : (q : PeiLook) → In q s.peis → is_past_issue q ≡ true → conflicts m p.block p.op q.block q.op ≡ true → ⊥
    clash q i past conflict =
        let both = and_parts (nat_eq (entry_of m p.block) (entry_of m q.block)) (is_writer p.op || is_writer q.op) conflict
        in let a : Active = active_pei m.directory (as_issued q)
        in let there : In a (active_in m.directory log) = subst (In a) (sym (are m.directory log)) (map_in (active_pei m.directory) (entered_peis log) (as_issued q) (past_entered log s.peis g q i past))
        in let at = at_of_in (active_in m.directory log) a there
        in let read = clear at.0 a at.1 l.0 (entry_of m p.block) (mode_of p.op) held (sym (eqb-true (entry_of m p.block) (entry_of m q.block) both.0)) (elsewhere q i past)
        in none_writes (is_writer p.op) (is_writer q.op) (reader_reads (is_writer p.op) read.1) (reader_reads (is_writer q.op) read.0) both.1
      where
        none_writes : (x y : Bool) → x ≡ false → y ≡ false → (x || y) ≡ true → ⊥
        none_writes true y h k w = cc h
        none_writes false true h k w = cc k
        none_writes false false h k w = cc w

    by : (b : Bool) → entry_is_taken m s p ≡ b → entry_is_taken m s p ≡ false
    by false h = h
    by true h =
        let r = some_in (λ q. not (is_phase q.phase phase.Issued) && conflicts m p.block p.op q.block q.op) s.peis h
        in let both = and_parts (not (is_phase r.0.phase phase.Issued)) (conflicts m p.block p.op r.0.block r.0.op) r.2
        in absurd (clash r.0 r.1 both.0 both.1)
