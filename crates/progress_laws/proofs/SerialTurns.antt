-- Each turn of a serial run leaves it a serial run, with fewer turns left.
use Rattle.std.proofs.Common.{◌≡◌, ℕ, zero, suc, ◌+◌, ◌-◌, ◌*◌, ◌<◌, ◌≤◌, true, false, List, [], length, replicate, Option, Some, None, nat_lt, nat_le, IsTrue, refl, sym, ◌∙◌, ap, ap₂, subst, arith}
use Rattle.std.specs.Prelude.{slice_index_or, ◌==◌, ◌&&◌}
use Rattle.std.proofs.lemmas.Bool.Decides.{nat_tests}
use Rattle.pei_types.specs.declared.identifiers.Actor.{Actor}
use Rattle.pei_types.specs.declared.calls.EndKind.{EndKind}
use Rattle.pei_types.specs.declared.machines.MachineSpec.{MachineSpec}
use Rattle.pei_types.specs.Calls.{is_actor_of}
use Rattle.pei_types.specs.Ends.{all_ended}
use Rattle.pei_types.specs.Claims.{no_claims}
use Rattle.pei_types.specs.MachineState.{state_after, start_state, fence_of}
use Rattle.pei_types.specs.Core.{CoreState, core_at_start, Wait, wait_at, next_of_core, core_config}
use Rattle.pei_types.specs.Program.{Listing, Contents}
use Rattle.pei_types.specs.Recency.{list_at}
use Rattle.pei_types.specs.Schedule.{Run, Free, run_at_start, turn, step_of_lane, next_actor, serial, whole_table, actors}
use Rattle.coherence_laws.specs.Invariants.{Invariants}
use Rattle.history_laws.specs.Holders.{claim_at}
use Rattle.history_laws.specs.Runs.{WholeRun}
use Rattle.machine_laws.specs.Laws.{WholeRunsAreLegal}
use Rattle.progress_laws.specs.Laws.{TurnsFall}
use Rattle.progress_laws.specs.Measure.{core_0, core_now, core_left, end_left, fence_left, next_left, lane_at, stalls_until, release_left, turns_left, enough_turns}
use Rattle.progress_laws.specs.Serial.{SerialRun, ClaimsFirst, waiting_for, FenceWaits}
use Rattle.progress_laws.proofs.After.{After, serial_of}
use Rattle.progress_laws.proofs.Core.{Runs, to_stop}
use Rattle.progress_laws.proofs.LaneTurns.{lane_turn, next_within}
use Rattle.progress_laws.proofs.Places.{acting, actors_are, lane_below, stalls_within, goes_on}
use Rattle.progress_laws.proofs.Program.{at_program}
use Rattle.progress_laws.proofs.ProgramTurns.{program_turn}

-- ---- a turn

inv_of : WholeRunsAreLegal → (p : Listing) (m : MachineSpec) (image : Contents) (r : Run) → SerialRun p m image r → Invariants m (state_after m r.journal)
inv_of whole p m image r h = (whole.so_far p m image r h.whole).1.invariants

turn_after : WholeRunsAreLegal → (p : Listing) (m : MachineSpec) (image : Contents) (r : Run) (a : Actor) → m.cores ≡ 1 → SerialRun p m image r → next_actor m (serial m) r ≡ Some a → After p m image r (turn (whole_table m image) p m image r a)
turn_after whole p m image r a one h next =
    let on = goes_on m r a one next
    in subst (λ b. After p m image r (turn (whole_table m image) p m image r b)) (sym on.actor) (go (lane_at m r) refl on.some_left)
  where
    go : (l : ℕ) → lane_at m r ≡ l → all_ended m r.journal ≡ false → After p m image r (step_of_lane l (whole_table m image) p m image r (acting m r))
    go zero e left = program_turn p m image r (at_program p m image r one h (inv_of whole p m image r h) e) left
    go (suc l) e left = lane_turn p m image r one h (inv_of whole p m image r h) (above (lane_at m r) l e)
      where
        above : (x y : ℕ) → x ≡ suc y → 0 < x
        above x y k = omega (arith, k)

-- the actor is the machine's, and the journal has room
turn_whole : WholeRunsAreLegal → (p : Listing) (m : MachineSpec) (image : Contents) (r : Run) (a : Actor) → m.cores ≡ 1 → SerialRun p m image r → next_actor m (serial m) r ≡ Some a → WholeRun p m image (turn (whole_table m image) p m image r a)
turn_whole whole p m image r a one h next =
    let on = goes_on m r a one next
    in whole.turn p m image r a (subst (λ b. IsTrue (is_actor_of m b)) (sym on.actor) (ap₂ (λ x y. x && y) (core_in m.cores one) (lane_in (lane_at m r) m.buffer (lane_below m r one)))) (room (length r.journal) m.events on.room h.whole.within) h.whole
  where
    core_in : (n : ℕ) → n ≡ 1 → nat_lt 0 n ≡ true
    core_in n e = grind (arith, nat_tests)

    lane_in : (x n : ℕ) → x < n + 1 → nat_le x n ≡ true
    lane_in x n k = grind (arith, nat_tests)

    room : (x n : ℕ) → (x == n) ≡ false → x ≤ n → x < n
    room x n k l = grind (arith, nat_tests)

-- ---- the start

same_all : {A : Type 0} (n i : ℕ) (x : A) → slice_index_or (replicate n x) i x ≡ x
same_all zero i x = refl
same_all (suc n) zero x = refl
same_all (suc n) (suc i) x = same_all n i x

list_all_same : {A : Type 0} (n i : ℕ) (xs : List A) (P : List A → Type 0) → P xs → P [] → P (list_at (replicate n xs) i)
list_all_same zero i xs P h k = k
list_all_same (suc n) zero xs P h k = h
list_all_same (suc n) (suc i) xs P h k = list_all_same n i xs P h k

free_at_start : (m : MachineSpec) (l : ℕ) → claim_at (run_at_start m).claims 0 l ≡ Free
free_at_start m l = list_all_same m.cores 0 (replicate (m.buffer + 1) Free) (λ lanes. slice_index_or lanes l Free ≡ Free) (same_all (m.buffer + 1) l Free) refl

runs_at_start : (p : Listing) (m : MachineSpec) (image : Contents) → Runs (core_at_start image core_0) (core_now p m image [])
runs_at_start p m image = to_stop p (core_config m) (core_at_start image core_0)

start : WholeRunsAreLegal → (p : Listing) (m : MachineSpec) (image : Contents) → m.cores ≡ 1 → SerialRun p m image (run_at_start m)
start whole p m image one =
    let free = free_at_start m (lane_at m (run_at_start m))
    in record {
      whole = whole.start p m image;
      works = tt;
      others_free = λ l k. free_at_start m l;
      first = subst (λ c. ClaimsFirst (lane_at m (run_at_start m)) c []) (sym free) tt;
      waiting = λ e. subst (λ c. waiting_for m e c [] (slice_index_or (replicate m.directory no_claims) e no_claims).waiting) (sym free) (ap (λ c. c.waiting) (same_all m.directory e no_claims));
      awaits = λ r w e. absurd (no_wait r w (sym (ap (λ ws. wait_at ws r) (runs_at_start p m image).stays.waits) ∙ e));
      fenced = subst (λ o. FenceWaits o []) (sym (same_all m.cores 0 None)) tt;
      owns = tt;
      counted = omega arith;
    }
  where
    no_wait : (r : ℕ) (w : Wait) → wait_at (replicate 16 None) r ≡ Some w → ⊥
    no_wait r w e = let none = same_all {A = Option Wait} 16 r None in cc (none, e)

enough : (p : Listing) (m : MachineSpec) (image : Contents) → m.cores ≡ 1 → turns_left p m image (run_at_start m) ≤ enough_turns m
enough p m image one =
    let r : Run = run_at_start m
    in let all = actors_are m one
    in total (core_left m (core_now p m image [])) (fence_left (fence_of (start_state m) core_0)) (next_left m (start_state m) (lane_at m r) (next_of_core p m image [] core_0)) (release_left (claim_at r.claims 0 (lane_at m r))) m.buffer (stalls_until (actors m) (lane_at m r) 0) m.fuel
    (core_costs (core_now p m image []))
    (ap fence_left (same_all m.cores 0 None))
    (next_within m (start_state m) (lane_at m r) (next_of_core p m image [] core_0))
    (ap release_left (free_at_start m (lane_at m r)))
    m.buffer_in_limits.1
    (subst (λ n. stalls_until (actors m) (lane_at m r) 0 < n) all (stalls_within (actors m) (lane_at m r) 0 (subst (λ n. lane_at m r < n) (sym all) (lane_below m r one)) (subst (λ n. 0 < n) (sym all) (omega arith))))
  where
    ends_within : (o q : Option EndKind) → end_left o q ≤ 2
    ends_within (Some k) q = omega arith
    ends_within None (Some k) = omega arith
    ends_within None None = omega arith

    core_costs : (core : CoreState) → core_left m core ≤ 23 * m.fuel + 2
    core_costs core = let k = ends_within core.ended core.raced in sum m.fuel core.retired _ k
      where
        sum : (fuel r x : ℕ) → x ≤ 2 → 23 * (fuel - r) + x ≤ 23 * fuel + 2
        sum fuel r x h = omega (arith, h)

    total : (c f n rel buffer st fuel : ℕ) → c ≤ 23 * fuel + 2 → f ≡ 1 → n ≤ 6 → rel ≡ 0 → buffer ≤ 4 → st < buffer + 1 → c + f + n + 0 + rel + buffer * 0 + st ≤ 23 * (fuel + 1)
    total c f n rel buffer st fuel h1 h2 h3 h4 h5 h6 = omega (arith, h1, h2, h3, h4, h5, h6)

pub turns_fall : WholeRunsAreLegal → TurnsFall
turns_fall whole =
    record {
      start = start whole;
      enough = enough;
      keeps = λ p m image r a one h next. serial_of p m image r (turn (whole_table m image) p m image r a) (turn_whole whole p m image r a one h next) (turn_after whole p m image r a one h next);
      falls = λ p m image r a one h next. (turn_after whole p m image r a one h next).falls;
    }
