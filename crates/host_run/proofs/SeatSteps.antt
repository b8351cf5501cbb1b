-- A seat after a step of its thread that makes no event: what the thread keeps goes on.
use Rattle.std.proofs.Common.{◌≡◌, ◌≢◌, ℕ, suc, ◌+◌, ◌<◌, ◌≤◌, Bool, true, false, not, nat_eq, nat_lt, nat_le, ◌||◌, if◌then◌else◌, List, [], ◌∷◌, ◌++◌, drop, length, Option, Some, None, refl, sym, ◌∙◌, ap, subst, arith, append-nil, eqb-true}
use Rattle.std.proofs.Math.Seq.{drop-append_seam}
use Rattle.std.proofs.lemmas.Bool.{eq-eqb, lt-ltb}
use mathlib.Core.Option.{some}
use lib.ListN.{get_elem?}
use Rattle.atomic_table.specs.Seated.{TableId}
use Rattle.pei_types.specs.declared.calls.EndKind.{EndKind}
use Rattle.pei_types.specs.declared.machines.MachineSpec.{MachineSpec}
use Rattle.pei_types.specs.declared.stamps.Stamped.{Stamped}
use Rattle.pei_types.specs.Program.{Listing, Contents}
use Rattle.bank_laws.specs.Kept.{BankInOrder}
use Rattle.bank_laws.specs.Logs.{IsFront, Rises}
use Rattle.coherence_laws.specs.Holdings.{Holdings}
use Rattle.thread_laws.specs.BankLogs.{IsBankLog}
use Rattle.core_exec.specs.CoreView.{Standing}
use Rattle.shared_table.specs.declared.claims.Active.{Active}
use Rattle.shared_table.specs.declared.claims.Knowledge.{Knowledge}
use Rattle.shared_table.specs.Actives.{active_in}
use Rattle.shared_table.specs.Claims.{beyond, cleared_after, cleared_with, earlier_left, fence_after, side_drawing, side_missing}
use Rattle.shared_table.specs.Diaries.{StartsWith, active_of}
use Rattle.shared_table.specs.Own.{bank_of}
use Rattle.shared_table.specs.Journal.{events}
use Rattle.shared_table.specs.Parts.{FitsSeat, active, claims, cleared, core_number, drawn, fence, filled, lent, misses, mine, number_drawn, seen, slot_given, slot_taken, stamps_found, turn}
use Rattle.shared_table.specs.Place.{SeatView}
use Rattle.shared_table.specs.Rule.{IsClear}
use Rattle.host_run.specs.declared.cores.CoreRun.{CoreRun}
use Rattle.host_run.specs.declared.own_peis.OwnPeis.{OwnPeis}
use Rattle.host_run.specs.ThreadInvariant.{HasFollowed, HasSlot, IsAtRest, IsFull, IsInTurn, KeepsUp}
use Rattle.host_run.specs.Laws.{TurnLaws}
use Rattle.host_run.proofs.Seats.{SeesMore, keeps_on}

-- the same bank, or another
pub same_bank : (P : Type 0) (k b : ℕ) → (k ≡ b → P) → (k ≢ b → P) → P
same_bank P k b here apart = by (nat_eq k b) refl
  where
    by : (t : Bool) → nat_eq k b ≡ t → P
    by true e = here (eqb-true k b e)
    by false e = apart (λ same. cc (sym e ∙ eq-eqb k b same))

-- ---- taking a slot

module _ (laws : TurnLaws) (m : MachineSpec) (s : SeatView) (b : ℕ) (log : List Stamped) (entered : List Active) where
  taken_front : StartsWith log (seen b s) → (k : ℕ) → IsFront (seen k s) (seen k (slot_taken s b log entered))
  taken_front h k =
      same_bank (IsFront (seen k s) (seen k (slot_taken s b log entered))) k b
      (λ e. subst (λ j. IsFront (seen j s) (seen j (slot_taken s b log entered))) (sym e) (subst (IsFront (seen b s)) (sym (laws.seats.taken_seen s b log entered)) h))
      (λ e. subst (IsFront (seen k s)) (sym (laws.seats.taken_else s b k log entered e)) ([], sym (append-nil (seen k s))))

  taken_rises : Rises log → ((k : ℕ) → Rises (seen k s)) → (k : ℕ) → Rises (seen k (slot_taken s b log entered))
  taken_rises h all k =
      same_bank (Rises (seen k (slot_taken s b log entered))) k b
      (λ e. subst (λ j. Rises (seen j (slot_taken s b log entered))) (sym e) (subst Rises (sym (laws.seats.taken_seen s b log entered)) h))
      (λ e. subst Rises (sym (laws.seats.taken_else s b k log entered e)) (all k))

  pub taken_more : StartsWith log (seen b s) → Rises log → ((k : ℕ) → Rises (seen k s)) → SeesMore s (slot_taken s b log entered)
  taken_more h rise all = record {
    core = refl;
    mine = refl;
    fence = refl;
    cleared = λ f i k on e. (i, e);
    active = λ c. laws.seats.taken_active s b c log entered;
    front = taken_front h;
    rises = taken_rises rise all;
  }

  pub taken_slot : (image : Contents) (t : TableId) → s.table ≡ t → b < m.banks → drawn s ≡ None → entered ≡ active_in m.directory (events log) → FitsSeat b log entered s → IsClear (core_number s) (claims s) entered → IsBankLog m image b (events log) → (h : Holdings) → BankInOrder m image (events log) h → HasSlot m image t b log None (slot_taken s b log entered)
  taken_slot image t table below none whole fits clear bank h order = record {
    table = table;
    below = below;
    slot = let next : b + 1 ≡ suc b = omega arith in ap bank_of next;
    stamp_is = none;
    seen_is = laws.seats.taken_seen s b log entered;
    lent_is = whole;
    own = fits.0;
    active_is = subst (λ xs. active_of (core_number s) xs ≡ active b (slot_taken s b log entered)) whole (fits.2 ∙ sym (laws.seats.taken_active s b b log entered));
    clear = subst (IsClear (core_number s) (claims s)) whole clear;
    bank = bank;
    order = (h, order);
  }

-- ---- a number of the stamp word

pub same_front : (xs : List Stamped) → IsFront xs xs
same_front xs = ([], sym (append-nil xs))

abbrev drawn_in : SeatView → ℕ → Bool → SeatView
drawn_in s n room = record s { knows = if room then record s.knows { side = side_drawing s.knows.side n } else record s.knows { side = side_missing s.knows.side } }

drawn_more_in : (s : SeatView) (n : ℕ) (room : Bool) → ((k : ℕ) → Rises (seen k s)) → SeesMore s (drawn_in s n room)
drawn_more_in s n true all = record { core = refl; mine = refl; fence = refl; cleared = λ f i k on e. (i, e); active = λ b. refl; front = λ k. same_front (seen k s); rises = all }
drawn_more_in s n false all = record { core = refl; mine = refl; fence = refl; cleared = λ f i k on e. (i, e); active = λ b. refl; front = λ k. same_front (seen k s); rises = all }

pub drawn_more : (room n : ℕ) (s : SeatView) → ((k : ℕ) → Rises (seen k s)) → SeesMore s (number_drawn room s n)
drawn_more room n s all = drawn_more_in s n (nat_lt n room) all

drawn_claims_in : (s : SeatView) (n : ℕ) (room : Bool) → claims (drawn_in s n room) ≡ claims s
drawn_claims_in s n true = refl
drawn_claims_in s n false = refl

pub drawn_claims : (room n : ℕ) (s : SeatView) → claims (number_drawn room s n) ≡ claims s
drawn_claims room n s = drawn_claims_in s n (nat_lt n room)

pub found_more : (room n : ℕ) (s : SeatView) → ((k : ℕ) → Rises (seen k s)) → SeesMore s (stamps_found room s n)
found_more room n s all = record { core = refl; mine = refl; fence = refl; cleared = λ f i k on e. (i, e); active = λ b. refl; front = λ k. same_front (seen k s); rises = all }

-- ---- giving a slot back without an event

pub beyond_none : (l : List Stamped) → beyond l l ≡ []
beyond_none l = ap (drop (length l)) (sym (append-nil l)) ∙ drop-append_seam l []

pub kept_cleared : (f b : ℕ) (log : List Stamped) (xs : List ℕ) (i k : ℕ) → get_elem? xs i ≡ some k → (j : ℕ) × (get_elem? (cleared_with (Some f) b log xs) j ≡ some k)
kept_cleared f b log xs i k e = by (earlier_left f log)
  where
    by : (t : Bool) → (j : ℕ) × (get_elem? (if t then (b ∷ xs) else xs) j ≡ some k)
    by true = (suc i, e)
    by false = (i, e)

now_cleared : (f b : ℕ) (log : List Stamped) (xs : List ℕ) → earlier_left f log ≡ true → (j : ℕ) × (get_elem? (cleared_with (Some f) b log xs) j ≡ some b)
now_cleared f b log xs h = rw h (0, refl)

module _ (laws : TurnLaws) (s : SeatView) (b : ℕ) (entered : List Active) where
  abbrev pub t : SeatView
  t = slot_given s b (seen b s) entered

  given_fence : fence t ≡ fence s
  given_fence = ap (fence_after (fence s)) (beyond_none (seen b s))

  given_cleared : cleared t ≡ cleared_with (fence s) b (seen b s) (cleared s)
  given_cleared = ap (λ more. cleared_after (fence_after (fence s) more) more b (seen b s) (cleared s)) (beyond_none (seen b s))

  given_front : (k : ℕ) → IsFront (seen k s) (seen k t)
  given_front k =
      same_bank (IsFront (seen k s) (seen k t)) k b
      (λ e. subst (λ j. IsFront (seen j s) (seen j t)) (sym e) (subst (IsFront (seen b s)) (sym (laws.seats.given_seen s b (seen b s) entered)) (same_front (seen b s))))
      (λ e. subst (IsFront (seen k s)) (sym (laws.seats.given_else s b k (seen b s) entered e)) (same_front (seen k s)))

  given_rises : ((k : ℕ) → Rises (seen k s)) → (k : ℕ) → Rises (seen k t)
  given_rises all k =
      same_bank (Rises (seen k t)) k b
      (λ e. subst (λ j. Rises (seen j t)) (sym e) (subst Rises (sym (laws.seats.given_seen s b (seen b s) entered)) (all b)))
      (λ e. subst Rises (sym (laws.seats.given_else s b k (seen b s) entered e)) (all k))

  given_active : active_of (core_number s) entered ≡ active b s → (c : ℕ) → active c t ≡ active c s
  given_active own c =
      same_bank (active c t ≡ active c s) c b
      (λ e. subst (λ j. active j t ≡ active j s) (sym e) (laws.seats.given_active s b (seen b s) entered ∙ own))
      (λ e. laws.seats.given_active_else s b c (seen b s) entered e)

  pub given_more : active_of (core_number s) entered ≡ active b s → ((k : ℕ) → Rises (seen k s)) → SeesMore s t
  given_more own all = record {
    core = refl;
    mine = laws.seats.given_none s b entered;
    fence = given_fence;
    cleared = λ f i k on e. let r = kept_cleared f b (seen b s) (cleared s) i k e in (r.0, subst (λ xs. get_elem? xs r.0 ≡ some k) (sym (given_cleared ∙ ap (λ o. cleared_with o b (seen b s) (cleared s)) on)) r.1);
    active = given_active own;
    front = given_front;
    rises = given_rises all;
  }

  -- the bank is cleared now, where no earlier writer is left in its log
  pub given_clears : (f : ℕ) → fence s ≡ Some f → earlier_left f (seen b s) ≡ true → (i : ℕ) × (get_elem? (cleared t) i ≡ some b)
  given_clears f on h =
      let r = now_cleared f b (seen b s) (cleared s) h
      in (r.0, subst (λ xs. get_elem? xs r.0 ≡ some b) (sym (given_cleared ∙ ap (λ o. cleared_with o b (seen b s) (cleared s)) on)) r.1)
