-- What a thread keeps goes on with the event that it gave back: what it has followed, its core, and its fence.
use Rattle.std.proofs.Common.{◌≡◌, ◌≢◌, ◌⊎◌, inl, inr, ℕ, zero, suc, ◌+◌, ◌-◌, ◌<◌, ◌≤◌, Bool, true, false, ◌||◌, if◌then◌else◌, List, [], ◌∷◌, ◌++◌, drop, length, map, filter_map, Option, Some, None, refl, sym, ◌∙◌, ap, ap₂, subst, arith, append-nil}
use Rattle.std.proofs.Math.Seq.{drop-append_seam}
use Rattle.std.proofs.lemmas.List.{map-append}
use Rattle.std.specs.Prelude.{slice_get}
use Rattle.std.specs.List.{AllByRecursion, list_any}
use mathlib.Core.Option.{some}
use lib.ListN.{get_elem?}
use Rattle.pei_types.specs.declared.calls.EndKind.{EndKind}
use Rattle.pei_types.specs.declared.events.Event.{Event}
use Rattle.pei_types.specs.declared.events.EventKind.{EventKind}
use Rattle.pei_types.specs.declared.events.EventKind.TheVariants as event
use Rattle.pei_types.specs.declared.identifiers.CoreId.{CoreId}
use Rattle.pei_types.specs.declared.machines.MachineSpec.{MachineSpec}
use Rattle.pei_types.specs.declared.stamps.Stamped.{Stamped}
use Rattle.pei_types.specs.Core.{CoreState, after_answer, at_stop, core_after, core_at_start, core_config}
use Rattle.pei_types.specs.Ends.{end_in}
use Rattle.pei_types.specs.Program.{Listing, Contents}
use Rattle.pei_types.specs.Recency.{list_at}
use Rattle.pei_types.specs.Blocks.{same_core}
use Rattle.pei_types.specs.declared.instructions.Instr.{Instr}
use Rattle.pei_types.proofs.Lists.{each_append, each_map}
use Rattle.pei_types.proofs.Tests.{same_self}
use Rattle.atomic_table.specs.Seated.{TableId}
use Rattle.bank_laws.specs.Banks.{EachPlaced, Placed, StandsRightly, journal_of}
use Rattle.bank_laws.specs.Logs.{HandsBack, IsFront, Rises}
use Rattle.bank_laws.specs.Rows.{IsRowIn}
use Rattle.bank_laws.proofs.Histories.{placed_push}
use Rattle.coherence_laws.specs.Sets.{EachPair}
use Rattle.core_exec.specs.CoreView.{Standing}
use Rattle.history_laws.specs.Members.{In}
use Rattle.history_laws.proofs.Lists.{each_in, map-map}
use Rattle.shared_table.specs.declared.claims.Active.{Active}
use Rattle.shared_table.specs.declared.claims.Made.{Made}
use Rattle.shared_table.specs.Claims.{beyond, cleared_with, earlier_left, fence_after, fence_at, is_fence}
use Rattle.shared_table.specs.Claims as table
use Rattle.shared_table.specs.Journal.{events}
use Rattle.shared_table.specs.Parts.{cleared, core_number, fence, mine, seen, slot_given}
use Rattle.shared_table.specs.Place.{SeatView}
use Rattle.shared_table.specs.Timed.{IsAbove}
use Rattle.thread_laws.specs.OwnEvents.{placed_of}
use Rattle.thread_laws.proofs.Lanes.{at_of_in}
use Rattle.host_run.specs.declared.own_peis.OwnPeis.{OwnPeis}
use Rattle.host_run.specs.ThreadInvariant.{FencesAtHome, HasFollowed, HasSlot, HasTakenIn, KeepsUp, end_after, own_end}
use Rattle.host_run.specs.Laws.{TurnLaws}
use Rattle.host_run.specs.Own.{KeepsEvents, KeepsPeis, cleared_after, core_of, own_events, own_log, seen_logs}
use Rattle.host_run.proofs.OwnLanes.{part}
use Rattle.host_run.proofs.Seats.{log_at, logs_front, logs_rise}
use Rattle.host_run.proofs.SeatSteps.{kept_cleared, same_bank, same_front}

-- ---- lists and ends

pair_push : {A : Type 0} (R : A → A → Type 0) (xs : List A) (y : A) → EachPair R xs → AllByRecursion (λ x. R x y) xs → EachPair R (xs ++ y ∷ [])
pair_push R [] y h k = (tt, tt)
pair_push R (x ∷ xs) y h k = (each_append (R x) xs (y ∷ []) h.0 (k.0, tt), pair_push R xs y h.1 k.1)

-- the first end, with one more event
pub first_end : (xs : List Event) (e : Event) → slice_get (filter_map (λ x. end_in x.kind) (xs ++ e ∷ [])) 0 ≡ end_after (slice_get (filter_map (λ x. end_in x.kind) xs) 0) e.kind
first_end [] e = by (end_in e.kind) refl
  where
    by : (o : Option EndKind) → end_in e.kind ≡ o → slice_get (filter_map (λ x. end_in x.kind) (e ∷ [])) 0 ≡ end_in e.kind
    by None h = rw h refl
    by (Some how) h = rw h refl
first_end (x ∷ xs) e = by (end_in x.kind) refl (first_end xs e)
  where
    by : (o : Option EndKind) → end_in x.kind ≡ o → slice_get (filter_map (λ y. end_in y.kind) (xs ++ e ∷ [])) 0 ≡ end_after (slice_get (filter_map (λ y. end_in y.kind) xs) 0) e.kind → slice_get (filter_map (λ y. end_in y.kind) (x ∷ (xs ++ e ∷ []))) 0 ≡ end_after (slice_get (filter_map (λ y. end_in y.kind) (x ∷ xs)) 0) e.kind
    by None h rest = rw h rest
    by (Some how) h rest = rw h refl

-- ---- the banks that are cleared

fence_clears : (n : ℕ) (kind : EventKind) → is_fence kind ≡ true → cleared_after kind n ≡ 0
fence_clears n event.FenceBegin h = refl
fence_clears n event.FenceEnd h = refl
fence_clears n _ h = absurd (cc h)

other_keeps : (n : ℕ) (kind : EventKind) → is_fence kind ≡ false → cleared_after kind n ≡ n
other_keeps n event.FenceBegin h = absurd (cc h)
other_keeps n event.FenceEnd h = absurd (cc h)
other_keeps n _ h = refl

fence_stays : (f : Option ℕ) (x : Stamped) (kind : EventKind) → is_fence kind ≡ false → fence_at f x kind ≡ f
fence_stays f x event.FenceBegin h = absurd (cc h)
fence_stays f x event.FenceEnd h = absurd (cc h)
fence_stays f x _ h = refl

-- a fence that is not on has no bank cleared for it
off_clears : (f : Option ℕ) (n : ℕ) (x : Stamped) (kind : EventKind) → (f ≡ None → n ≡ 0) → fence_at f x kind ≡ None → cleared_after kind n ≡ 0
off_clears f n x event.FenceBegin h off = refl
off_clears f n x event.FenceEnd h off = refl
off_clears f n x _ h off = h off

-- ---- after the event

module _ (laws : TurnLaws) (p : Listing) (m : MachineSpec) (image : Contents) (t : TableId) (k stamp : ℕ) (s : SeatView) (core : Standing) (o : OwnPeis) (end : Option EndKind) (e : Event) (left : List Active)
    (slot : HasSlot m image t k (seen k s) (Some stamp) s) (keeps : KeepsUp p m image s core o end) (own : e.actor.core ≡ core_of s) (row : IsRowIn p m image k (events (seen k s)) (own_events s) e) where
  abbrev pub x : Stamped
  x = record { stamp = stamp; event = e }

  abbrev pub u : SeatView
  u = slot_given s k (seen k s ++ x ∷ []) left

  mine_is : mine u ≡ mine s ++ record { stamp = stamp; bank = k; event = e } ∷ []
  mine_is = laws.seats.given_mine s k stamp e left

  pub own_is : own_events u ≡ own_events s ++ e ∷ []
  own_is = ap (λ (xs : List Made). map (λ y. y.event) xs) mine_is ∙ map-append (λ (y : Made). y.event) (mine s) (record { stamp = stamp; bank = k; event = e } ∷ [])

  own_log_is : own_log u ≡ own_log s ++ x ∷ []
  own_log_is =
      ap (λ (xs : List Made). map (λ y. record { stamp = y.stamp; event = y.event }) xs) mine_is
      ∙ map-append (λ (y : Made). record { stamp = y.stamp; event = y.event }) (mine s) (record { stamp = stamp; bank = k; event = e } ∷ [])

  placed_is : placed_of (mine u) ≡ placed_of (mine s) ++ record { bank = k; event = e } ∷ []
  placed_is =
      ap placed_of mine_is
      ∙ map-append (λ (y : Made). record { bank = y.bank; event = y.event }) (mine s) (record { stamp = stamp; bank = k; event = e } ∷ [])

  seen_here : seen k u ≡ seen k s ++ x ∷ []
  seen_here = laws.seats.given_seen s k (seen k s ++ x ∷ []) left

  seen_on : (j : ℕ) → IsFront (seen j s) (seen j u)
  seen_on j =
      same_bank (IsFront (seen j s) (seen j u)) j k
      (λ same. subst (λ i. IsFront (seen i s) (seen i u)) (sym same) (x ∷ [], seen_here))
      (λ apart. subst (IsFront (seen j s)) (sym (laws.seats.given_else s k j (seen k s ++ x ∷ []) left apart)) (same_front (seen j s)))

  seen_rises : Rises (seen k s ++ x ∷ []) → (j : ℕ) → Rises (seen j u)
  seen_rises h j =
      same_bank (Rises (seen j u)) j k
      (λ same. subst (λ i. Rises (seen i u)) (sym same) (subst Rises (sym seen_here) h))
      (λ apart. subst Rises (sym (laws.seats.given_else s k j (seen k s ++ x ∷ []) left apart)) (keeps.followed.seen_rise j))

  own_rises : IsAbove stamp s.knows.side → Rises (own_log s ++ x ∷ [])
  own_rises above =
      pair_push (λ y z. y.stamp < z.stamp) (own_log s) x keeps.followed.own_rises
      (each_map (λ (y : Made). y.stamp < stamp) (λ (y : Stamped). y.stamp < stamp) (λ (y : Made). record { stamp = y.stamp; event = y.event }) (λ y h. h) (mine s)
      (each_in (λ (y : Made). y.stamp < stamp) (mine s) (λ y i. let r = at_of_in (mine s) y i in above.0 r.0 y r.1)))

  -- what it hands back
  pub followed_next : Rises (seen k s ++ x ∷ []) → IsAbove stamp s.knows.side → FencesAtHome (core_of s) (record { bank = k; event = e }) → HasFollowed p m image u
  followed_next rise above home = record {
    core = keeps.followed.core;
    rows =
        subst (λ xs. HandsBack p m image xs (seen_logs m u)) (sym own_log_is)
        (laws.logs.next p m image (own_log s) (seen_logs m u) k (seen k s) x (own_rises above) (logs_rise (λ j. seen j u) m.banks (seen_rises rise) k)
        (log_at (λ j. seen j u) m.banks k slot.below ∙ seen_here)
        (subst (λ es. IsRowIn p m image k (events (seen k s)) es e) (sym (map-map (λ (y : Stamped). y.event) (λ (y : Made). record { stamp = y.stamp; event = y.event }) (mine s))) row)
        (laws.logs.seen p m image (own_log s) (seen_logs m s) (seen_logs m u) (logs_front (λ j. seen j s) (λ j. seen j u) m.banks seen_on) (logs_rise (λ j. seen j u) m.banks (seen_rises rise)) keeps.followed.rows));
    own_rises = subst Rises (sym own_log_is) (own_rises above);
    seen_rise = seen_rises rise;
    stand =
        subst (EachPlaced (StandsRightly m)) (sym placed_is)
        (placed_push (StandsRightly m) (placed_of (mine s)) (record { bank = k; event = e }) keeps.followed.stand
        (laws.meet.stands p m image k (core_of s) (placed_of (mine s)) (events (seen k s)) slot.order.0 e (part laws p m image t k (Some stamp) s core o end slot keeps) slot.order.1
        (ap (λ c. same_core c (core_of s)) own ∙ same_self (core_number s))
        (subst (λ es. IsRowIn p m image k (events (seen k s)) es e) (sym (laws.meet.own (mine s))) row)));
    home = subst (AllByRecursion (FencesAtHome (core_of s))) (sym placed_is) (each_append (FencesAtHome (core_of s)) (placed_of (mine s)) (record { bank = k; event = e } ∷ []) keeps.followed.home (home, tt));
  }

  -- its core
  pub taken_next : (after : CoreState) (instr : Option Instr) → after ≡ after_answer p (at_stop p (core_config m) core.state) e.kind → HasTakenIn p m image u (record { state = after; instr = instr })
  taken_next after instr is =
      ap (at_stop p (core_config m))
      (is
      ∙ ap (λ st. after_answer p st e.kind) keeps.taken_in
      ∙ sym (laws.folds.core p (core_config m) (core_at_start image (core_of s)) (own_events s) e)
      ∙ ap (core_after p (core_config m) (core_at_start image (core_of s))) (sym own_is))

  pub ended_next : end_after end e.kind ≡ own_end u
  ended_next = ap (λ how. end_after how e.kind) keeps.ended ∙ sym (first_end (own_events s) e) ∙ ap (λ es. slice_get (filter_map (λ y. end_in y.kind) es) 0) (sym own_is)

  -- its fence
  more_is : beyond (seen k s) (seen k s ++ x ∷ []) ≡ x ∷ []
  more_is = drop-append_seam (seen k s) (x ∷ [])

  cleared_is : cleared u ≡ (if is_fence e.kind || false then [] else cleared_with (fence_at (fence s) x e.kind) k (seen k s ++ x ∷ []) (cleared s))
  cleared_is = ap (λ more. table.cleared_after (fence_after (fence s) more) more k (seen k s ++ x ∷ []) (cleared s)) more_is

  pub cleared_next : (j : ℕ) → j < cleared_after e.kind o.cleared → (i : ℕ) × (get_elem? (cleared u) i ≡ some j)
  cleared_next j less = by (is_fence e.kind) refl
    where
      by : (b : Bool) → is_fence e.kind ≡ b → (i : ℕ) × (get_elem? (cleared u) i ≡ some j)
      by true on = absurd (let none = fence_clears o.cleared e.kind on in omega (arith, less, none))
      by false off =
          let same = other_keeps o.cleared e.kind off
          in let old = keeps.peis.cleared_are j (omega (arith, less, same))
          in on o.fence refl old.0 old.1
        where
          on : (f : Option ℕ) → o.fence ≡ f → (i : ℕ) → get_elem? (cleared s) i ≡ some j → (i : ℕ) × (get_elem? (cleared u) i ≡ some j)
          on None none i at = absurd (let zero = keeps.peis.unfenced none in let same = other_keeps o.cleared e.kind off in omega (arith, less, same, zero))
          on (Some f) is i at =
              let r = kept_cleared f k (seen k s ++ x ∷ []) (cleared s) i j at
              in let fenced : fence_at (fence s) x e.kind ≡ Some f = fence_stays (fence s) x e.kind off ∙ sym keeps.peis.fence_is ∙ is
              in (r.0, subst (λ xs. get_elem? xs r.0 ≡ some j) (sym (cleared_is ∙ ap₂ (λ (b : Bool) o. if b || false then [] else cleared_with o k (seen k s ++ x ∷ []) (cleared s)) off fenced)) r.1)

  few_next : cleared_after e.kind o.cleared ≤ m.banks
  few_next = by (is_fence e.kind) refl
    where
      by : (b : Bool) → is_fence e.kind ≡ b → cleared_after e.kind o.cleared ≤ m.banks
      by true on = let none = fence_clears o.cleared e.kind on in omega (arith, none)
      by false off = let same = other_keeps o.cleared e.kind off in let few = keeps.peis.few in omega (arith, same, few)

  pub peis_next : (n : OwnPeis) → KeepsEvents m (core_of s) (own_events s ++ e ∷ []) n → length n.spent ≡ 4 → n.fence ≡ fence_at o.fence x e.kind → n.cleared ≡ cleared_after e.kind o.cleared → KeepsPeis m u n
  peis_next n kept four on clear = record {
    kept = subst (λ es. KeepsEvents m (core_of s) es n) (sym own_is) kept;
    four = four;
    fence_is = on ∙ ap (λ f. fence_at f x e.kind) keeps.peis.fence_is ∙ sym (laws.seats.given_fence s k stamp e left);
    unfenced = λ off. clear ∙ off_clears o.fence o.cleared x e.kind keeps.peis.unfenced (sym on ∙ off);
    few = subst (λ c. c ≤ m.banks) (sym clear) few_next;
    cleared_are = λ j less. cleared_next j (subst (λ c. j < c) clear less);
  }
