-- A run by a schedule, from its start to its end.
use Rattle.std.proofs.Common.{inl, inr, ◌⊎◌, get_or, Option, ◌≡◌, ℕ, zero, suc, ◌+◌, ◌<◌, ◌≤◌, ◌-◌, ◌==◌, Bool, true, false, ◌||◌, ◌&&◌, if◌then◌else◌, IsTrue, List, [], length, map, take, slice_get, is_some, Some, None, refl, sym, ◌∙◌, ap, subst, arith}
use Rattle.std.specs.List.{All, list_all, range_with_len}
use Rattle.std.proofs.lemmas.Bool.Decides.{nat_tests}
use Rattle.std.proofs.lemmas.Option.{get_or_from_slice_get, slice_get_cases, slice_get_within}
use Rattle.std.proofs.lemmas.List.Elements.{All-get_or}
use Rattle.pei_types.specs.declared.identifiers.Actor.{Actor}
use Rattle.pei_types.specs.declared.identifiers.CoreId.{CoreId}
use Rattle.pei_types.specs.declared.events.Event.{Event}
use Rattle.pei_types.specs.declared.machines.MachineSpec.{MachineSpec}
use Rattle.pei_types.specs.Calls.{is_actor_of}
use Rattle.pei_types.specs.Ends.{end_of, all_ended, all_halted, ends_of, status_of}
use Rattle.pei_types.specs.Legal.{Legal}
use Rattle.fabric.specs.History.{History}
use Rattle.machine_laws.specs.Laws.{WholeRunsAreLegal}
use Rattle.progress_laws.specs.Laws.{SerialRunsEnd}
use Rattle.pei_types.specs.Program.{Listing, Contents}
use Rattle.pei_types.specs.Schedule.{Run, run_at_start, whole_table, turn, next_actor}
use Rattle.history_laws.specs.Laws.{PoliciesChooseActors}
use Rattle.history_laws.specs.Sound.{ChoosesActors}
use Rattle.sched_run.specs.Choice.{policy_of, HasActorsOf}
use Rattle.sched_run.specs.ElevenClauses.{ElevenClauses}
use Rattle.sched_run.specs.Scheduled.{EndsInTime, IsAfter, IsEndOf, SpendsTurns, run_of}
use Rattle.sched_run.specs.DefinedRun.{IsRunning, is_over, run_in}
use Rattle.sched_run.specs.declared.policies.Policy.{Policy as Chosen}
use Rattle.sched_run.specs.declared.policies.Policy.TheVariants as chosen
use Rattle.sched_run.specs.declared.running.Running.{Running}
use Rattle.sched_run.specs.declared.schedule.SchedEnd.{SchedEnd}
use Rattle.sched_run.proofs.Runs.{gone_on, last_turn, over_after}

-- ---- whether a run is over

ended_in : (journal : List Event) (a n k : ℕ) → n ≤ k → list_all is_some (take n (map (λ c. end_of journal (record { 0 = c })) (range_with_len a k))) ≡ list_all (λ (c : CoreId). is_some (end_of journal c)) (map (λ c. record { 0 = c }) (range_with_len a n))
ended_in journal a zero k h = refl
ended_in journal a (suc n) zero h = absurd (omega (arith, h))
ended_in journal a (suc n) (suc k) h = ap (λ t. is_some (end_of journal (record { 0 = a })) && t) (ended_in journal (a + 1) n k (omega (arith, h)))

over_is : (p : Listing) (v : Running) → IsRunning p v → is_over v ≡ (all_ended v.fabric.machine v.fabric.journal || (length v.fabric.journal == v.fabric.machine.events))
over_is p v on =
    ap (λ xs. list_all is_some (take v.fabric.machine.cores xs) || (length v.fabric.journal == v.fabric.machine.events)) on.ends
    ∙ ap (λ b. b || (length v.fabric.journal == v.fabric.machine.events)) (ended_in v.fabric.journal 0 v.fabric.machine.cores 8 v.fabric.machine.cores_in_limits.1)

-- ---- the actors that are chosen

listed : (m : MachineSpec) (xs : List Actor) (i : ℕ) (a : Actor) → All (λ b. IsTrue (is_actor_of m b)) xs → slice_get xs i ≡ Some a → IsTrue (is_actor_of m a)
listed m xs i a h e = subst (λ b. IsTrue (is_actor_of m b)) (get_or_from_slice_get xs i a a e) (All-get_or (λ b. IsTrue (is_actor_of m b)) xs i a (slice_get_within xs i a e) h)

pub chooses : PoliciesChooseActors → (m : MachineSpec) (policy : Chosen) → HasActorsOf m policy → ChoosesActors m (policy_of m policy)
chooses laws m chosen.RoundRobin h = laws.turns m
chooses laws m chosen.Serial h = laws.serial m
chooses laws m (chosen.Seeded seed) h = laws.draws m _
chooses laws m (chosen.List actors) h = λ turns stalls a e. listed m actors turns a h e

-- ---- one more turn

-- what the definition's run does next
next_is : (p : Listing) (policy : Chosen) (v : Running) (made : ℕ) (b : Bool) → IsRunning p v → is_over v ≡ b → next_actor v.fabric.machine (policy_of v.fabric.machine policy) (run_in v made) ≡ if b then None else policy_of v.fabric.machine policy made v.stalls
next_is p policy v made b on over = ap (λ x. if x then None else policy_of v.fabric.machine policy made v.stalls) (sym (over_is p v on) ∙ over)

-- the same, told of the machine at the start
next_of_run : (p : Listing) (policy : Chosen) (start now : Running) (made : ℕ) (b : Bool) → IsAfter p policy made made start now → is_over now ≡ b → next_actor start.fabric.machine (policy_of start.fabric.machine policy) (run_of p start.fabric.machine start.fabric.image policy made) ≡ if b then None else policy_of start.fabric.machine policy made now.stalls
next_of_run p policy start now made b at over =
    ap (λ (r : Run). next_actor start.fabric.machine (policy_of start.fabric.machine policy) r) (sym at.run)
    ∙ subst (λ (m : MachineSpec). next_actor m (policy_of m policy) (run_in now made) ≡ if b then None else policy_of m policy made now.stalls) at.machine (next_is p policy now made b at.running over)

pub went_on : (p : Listing) (policy : Chosen) (made : ℕ) (start now next : Running) (a : Actor) → IsAfter p policy made made start now → is_over now ≡ false → policy_of start.fabric.machine policy made now.stalls ≡ Some a → next.fabric.machine ≡ now.fabric.machine → next.fabric.image ≡ now.fabric.image → IsRunning p next
    → run_in next (made + 1) ≡ turn (whole_table now.fabric.machine now.fabric.image) p now.fabric.machine now.fabric.image (run_in now made) a → IsAfter p policy (made + 1) (made + 1) start next
went_on p policy made start now next a at over choice machine image on step =
    record {
      machine = machine ∙ at.machine;
      image = image ∙ at.image;
      running = on;
      run =
          step
          ∙ ap (λ (m : MachineSpec). turn (whole_table m now.fabric.image) p m now.fabric.image (run_in now made) a) at.machine
          ∙ ap (λ (i : Contents). turn (whole_table start.fabric.machine i) p start.fabric.machine i (run_in now made) a) at.image
          ∙ ap (λ (r : Run). turn (whole_table start.fabric.machine start.fabric.image) p start.fabric.machine start.fabric.image r a) at.run
          ∙ sym (ap (λ k. run_of p start.fabric.machine start.fabric.image policy k) (one_more made)
          ∙ last_turn (whole_table start.fabric.machine start.fabric.image) p start.fabric.machine start.fabric.image (policy_of start.fabric.machine policy) made (run_at_start start.fabric.machine)
          ∙ ap (λ o. gone_on (whole_table start.fabric.machine start.fabric.image) p start.fabric.machine start.fabric.image o (run_of p start.fabric.machine start.fabric.image policy made)) (next_of_run p policy start now made false at over ∙ choice));
    }
  where
    one_more : (n : ℕ) → n + 1 ≡ suc n
    one_more n = omega arith

-- a run that makes no more turns is at its end
stopped : (p : Listing) (policy : Chosen) (made turns : ℕ) (start now : Running) (b : Bool) → IsAfter p policy made made start now → made ≤ turns → is_over now ≡ b → (if b then None else policy_of start.fabric.machine policy made now.stalls) ≡ None → IsAfter p policy turns made start now
stopped p policy made turns start now b at within over none =
    record {
      machine = at.machine;
      image = at.image;
      running = at.running;
      run =
          at.run
          ∙ sym (ap (λ k. run_of p start.fabric.machine start.fabric.image policy k) (split made turns within)
          ∙ over_after (whole_table start.fabric.machine start.fabric.image) p start.fabric.machine start.fabric.image (policy_of start.fabric.machine policy) made (turns - made) (run_at_start start.fabric.machine) (next_of_run p policy start now made b at over ∙ none));
    }
  where
    split : (i j : ℕ) → i ≤ j → j ≡ (j - i) + i
    split i j h = omega (arith, h)

pub stopped_over : (p : Listing) (policy : Chosen) (made turns : ℕ) (start now : Running) → IsAfter p policy made made start now → made ≤ turns → is_over now ≡ true → IsAfter p policy turns made start now
stopped_over p policy made turns start now at within over = stopped p policy made turns start now true at within over refl

pub stopped_unchosen : (p : Listing) (policy : Chosen) (made turns : ℕ) (start now : Running) → IsAfter p policy made made start now → made ≤ turns → is_over now ≡ false → policy_of start.fabric.machine policy made now.stalls ≡ None → IsAfter p policy turns made start now
stopped_unchosen p policy made turns start now at within over none = stopped p policy made turns start now false at within over none

-- a run that is not over has room
pub room_left : (v : Running) → length v.fabric.journal ≤ v.fabric.machine.events → is_over v ≡ false → length v.fabric.journal < v.fabric.machine.events
room_left v within over = less (length v.fabric.journal) v.fabric.machine.events within (apart (list_all is_some (take v.fabric.machine.cores v.ends)) (length v.fabric.journal == v.fabric.machine.events) over)
  where
    apart : (a b : Bool) → (a || b) ≡ false → b ≡ false
    apart true b h = absurd (cc h)
    apart false b h = h

    less : (i j : ℕ) → i ≤ j → (i == j) ≡ false → i < j
    less i j h t = grind (arith, nat_tests)

-- a run that has made all its turns
pub used_up : (p : Listing) (policy : Chosen) (made turns : ℕ) (start now : Running) → IsAfter p policy made made start now → made ≡ turns → IsAfter p policy turns turns start now
used_up p policy made turns start now at same = subst (λ k. IsAfter p policy k k start now) same at

-- ---- the end of a run

pub ended : (p : Listing) (m : MachineSpec) (image : Contents) (policy : Chosen) (turns made : ℕ) (start now : Running) → start.fabric ≡ record { machine = m; image = image; journal = [] } → IsAfter p policy turns made start now → IsEndOf m image (run_of p m image policy turns) (record { fabric = now.fabric; cores = now.ends; turns = made })
ended p m image policy turns made start now from at =
    let machine = ap (λ (h : History). h.machine) from
    in let began = ap (λ (h : History). h.image) from
    in let same : run_in now made ≡ run_of p m image policy turns = at.run ∙ ap (λ k. run_of p k start.fabric.image policy turns) machine ∙ ap (λ i. run_of p m i policy turns) began
    in let journal = ap (λ (r : Run). r.journal) same
    in let machine_now = at.machine ∙ machine
    in let image_now = at.image ∙ began
    in record {
      fabric = λ j. record { machine = machine_now j; image = image_now j; journal = journal j };
      cores = at.running.ends ∙ ap ends_of journal;
      turns = ap (λ (r : Run). r.turns) same;
    }

-- a legal journal meets each clause by itself
pub each_clause : (p : Listing) (m : MachineSpec) (image : Contents) (journal : List Event) → Legal p m image journal → ElevenClauses p m image journal
each_clause p m image journal legal =
    record {
      replies = λ before rest e same. (legal before rest e same).flat.replies;
      calls = λ before rest e same. (legal before rest e same).flat.calls;
      order = λ before rest e same. (legal before rest e same).flat.order;
      directory = λ before rest e same. (legal before rest e same).flat.directory;
      fence = λ before rest e same. (legal before rest e same).flat.fence;
      race = λ before rest e same. (legal before rest e same).flat.race;
      guard = λ before rest e same. (legal before rest e same).guarded;
      recency = λ before rest e same. (legal before rest e same).recency;
      monitor = λ before rest e same. (legal before rest e same).monitor;
      next = λ before rest e same. (legal before rest e same).next;
      seal = λ before rest e same. (legal before rest e same).seal;
    }

pub ended_legally : WholeRunsAreLegal → (p : Listing) (m : MachineSpec) (image : Contents) (policy : Chosen) (turns made : ℕ) (start now : Running) → start.fabric ≡ record { machine = m; image = image; journal = [] } → IsAfter p policy turns made start now → Legal p m image now.fabric.journal
ended_legally laws p m image policy turns made start now from at =
    subst (λ k. Legal p k image now.fabric.journal) (at.machine ∙ ap (λ (h : History). h.machine) from)
    (subst (λ i. Legal p now.fabric.machine i now.fabric.journal) (at.image ∙ ap (λ (h : History). h.image) from) (laws.so_far p now.fabric.machine now.fabric.image (run_in now 0) at.running.whole).0)

-- one core that goes on until it stalls ends in time
pub ended_in_time : SerialRunsEnd → (p : Listing) (m : MachineSpec) (image : Contents) (policy : Chosen) (turns : ℕ) (v : SchedEnd) → IsEndOf m image (run_of p m image policy turns) v → EndsInTime m policy turns v.fabric.journal
ended_in_time laws p m image policy turns v end =
    subst (λ (h : History). EndsInTime m policy turns h.journal) (sym end.fabric)
    (record {
      not_spent = λ one serial enough. subst (λ (c : Chosen). status_of m (run_of p m image c turns).journal ≡ 7 → ⊥) (sym serial) (laws.not_spent p m image turns one enough);
      not_full = λ one serial room. subst (λ (c : Chosen). status_of m (run_of p m image c turns).journal ≡ 6 → ⊥) (sym serial) (laws.not_full p m image turns one room);
    })

-- ---- whether the turns are spent

-- a run that is over is not told as one with its turns spent
not_7 : (m : MachineSpec) (journal : List Event) → (all_ended m journal || (length journal == m.events)) ≡ true → status_of m journal ≡ 7 → ⊥
not_7 m journal over = by (all_ended m journal) (all_halted m journal) (length journal == m.events) over
  where
    by : (a h f : Bool) → (a || f) ≡ true → ◌≡◌ {A = ℕ} (if a then (if h then 0 else 5) else (if f then 6 else 7)) 7 → ⊥
    by true true f e s = cc s
    by true false f e s = cc s
    by false h true e s = cc s
    by false h false e s = cc e

none_of_7 : (m : MachineSpec) (policy : Chosen) (turns : ℕ) (journal : List Event) (made : ℕ) → (status_of m journal ≡ 7 → ⊥) → SpendsTurns m policy turns journal made
none_of_7 m chosen.RoundRobin turns journal made other = λ e. absurd (other e)
none_of_7 m chosen.Serial turns journal made other = λ e. absurd (other e)
none_of_7 m (chosen.Seeded seed) turns journal made other = λ e. absurd (other e)
none_of_7 m (chosen.List actors) turns journal made other = λ e. absurd (other e)

pub unspent_over : (p : Listing) (policy : Chosen) (turns made : ℕ) (v : Running) → IsRunning p v → is_over v ≡ true → SpendsTurns v.fabric.machine policy turns v.fabric.journal made
unspent_over p policy turns made v on over =
    none_of_7 v.fabric.machine policy turns v.fabric.journal made (not_7 v.fabric.machine v.fabric.journal (sym (over_is p v on) ∙ over))

-- a policy that chooses nobody is a list at its end
pub unchosen_spent : (m k : MachineSpec) (policy : Chosen) (turns : ℕ) (journal : List Event) (made stalls : ℕ) → policy_of m policy made stalls ≡ None → SpendsTurns k policy turns journal made
unchosen_spent m k chosen.RoundRobin turns journal made stalls none = absurd (cc none)
unchosen_spent m k chosen.Serial turns journal made stalls none = absurd (cc none)
unchosen_spent m k (chosen.Seeded seed) turns journal made stalls none = absurd (cc none)
unchosen_spent m k (chosen.List actors) turns journal made stalls none = λ e. inr (at_end actors made none)
  where
    at_end : (list : List Actor) (i : ℕ) → slice_get list i ≡ None → length list ≤ i
    at_end list i absent = by (slice_get_cases list i).1
      where
        by : ((x : Actor) × (i < length list) × (slice_get list i ≡ Some x) × (get_or list i x ≡ x)) ⊎ ((length list ≤ i) × (slice_get list i ≡ None)) → length list ≤ i
        by (inl (x, within, found, same)) = absurd (cc (sym absent ∙ found))
        by (inr (past, none)) = past

pub all_spent : (m : MachineSpec) (policy : Chosen) (turns : ℕ) (journal : List Event) → SpendsTurns m policy turns journal turns
all_spent m chosen.RoundRobin turns journal = λ e. refl
all_spent m chosen.Serial turns journal = λ e. refl
all_spent m (chosen.Seeded seed) turns journal = λ e. refl
all_spent m (chosen.List actors) turns journal = λ e. inl refl

pub ended_spent : (p : Listing) (m : MachineSpec) (image : Contents) (policy : Chosen) (turns made : ℕ) (start now : Running) → start.fabric ≡ record { machine = m; image = image; journal = [] } → IsAfter p policy turns made start now → SpendsTurns now.fabric.machine policy turns now.fabric.journal made → SpendsTurns m policy turns now.fabric.journal made
ended_spent p m image policy turns made start now from at spent =
    subst (λ (k : MachineSpec). SpendsTurns k policy turns now.fabric.journal made) (at.machine ∙ ap (λ (h : History). h.machine) from) spent
