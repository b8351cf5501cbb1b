-- The built-in policies give turns to actors of the machine.
use Rattle.std.proofs.Common.{◌≡◌, ℕ, zero, suc, ◌+◌, ◌*◌, ◌/◌, ◌%◌, ◌<◌, ◌≤◌, Bool, true, false, ◌||◌, if◌then◌else◌, List, [], ◌∷◌, length, Some, None, IsTrue, refl, subst, arith, lt-ltb, le-leb, ◌==◌, mod-lt, div-lt_iff_lt-mul, mul-pos}
use Rattle.std.specs.Prelude.{slice_get}
use Rattle.std.specs.List.{list_all}
use Rattle.pei_types.specs.declared.identifiers.Actor.{Actor}
use Rattle.pei_types.specs.declared.machines.MachineSpec.{MachineSpec}
use Rattle.pei_types.specs.Calls.{is_actor_of}
use Rattle.pei_types.specs.Ends.{all_ended}
use Rattle.pei_types.specs.Schedule.{Run, Policy, next_actor, actor_at, actors, round_robin, serial, by_draws, by_list}
use Rattle.history_laws.specs.Sound.{ChoosesActors}
use Rattle.std.proofs.lemmas.Bool.{and_parts}

pub chosen : (m : MachineSpec) (policy : Policy) (r : Run) (a : Actor) → ChoosesActors m policy → next_actor m policy r ≡ Some a → IsTrue (is_actor_of m a)
chosen m policy r a chooses h = by (all_ended m r.journal || (length r.journal == m.events)) h
  where
    by : (b : Bool) → (if b then None else policy r.turns r.stalls) ≡ Some a → IsTrue (is_actor_of m a)
    by true k = absurd (cc k)
    by false k = chooses r.turns r.stalls a k

-- ---- policies

actor_within : (m : MachineSpec) (k : ℕ) → k < m.cores * (m.buffer + 1) → IsTrue (is_actor_of m (actor_at m k))
actor_within m k h =
    rw (lt-ltb (k / (m.buffer + 1)) m.cores (core k (m.buffer + 1) m.cores (omega arith) h), le-leb (k % (m.buffer + 1)) m.buffer (lane k m.buffer)) refl
  where
    core : (n w c : ℕ) → 0 < w → n < c * w → n / w < c
    core n w c p q = (div-lt_iff_lt-mul p).1 q

    lane : (n w : ℕ) → n % (w + 1) ≤ w
    lane n w = le_below (n % (w + 1)) w (mod-lt n {m = w + 1} (omega arith))
      where
        le_below : (i v : ℕ) → i < v + 1 → i ≤ v
        le_below i v u = omega (arith, u)

some_actor : (a b : Actor) → Some a ≡ Some b → a ≡ b
some_actor a b h = search

spread : (m : MachineSpec) (k : ℕ) (a : Actor) → Some (actor_at m (k % actors m)) ≡ Some a → IsTrue (is_actor_of m a)
spread m k a h = subst (λ b. IsTrue (is_actor_of m b)) (some_actor (actor_at m (k % actors m)) a h) (actor_within m (k % actors m) (below k m.cores m.buffer m.cores_in_limits.0))
  where
    below : (n c w : ℕ) → 1 ≤ c → n % (c * (w + 1)) < c * (w + 1)
    below n c w h' = mod-lt n {m = c * (w + 1)} (positive c w h')
      where
        positive : (d v : ℕ) → 1 ≤ d → 0 < d * (v + 1)
        positive d v u = mul-pos u (next v)
          where
            next : (w' : ℕ) → 0 < w' + 1
            next w' = omega arith

pub round_robin_chooses : (m : MachineSpec) → ChoosesActors m (round_robin m)
round_robin_chooses m turns stalls a h = spread m turns a h

pub serial_chooses : (m : MachineSpec) → ChoosesActors m (serial m)
serial_chooses m turns stalls a h = spread m stalls a h

pub draws_choose : (m : MachineSpec) (f : ℕ → ℕ) → ChoosesActors m (by_draws m f)
draws_choose m f turns stalls a h = spread m (f turns) a h

-- a list of the machine's actors
at_place : (m : MachineSpec) (list : List Actor) (n : ℕ) (a : Actor) → list_all (is_actor_of m) list ≡ true → slice_get list n ≡ Some a → is_actor_of m a ≡ true
at_place m [] n a all h = absurd (cc h)
at_place m (b ∷ list) zero a all h = subst (λ c. is_actor_of m c ≡ true) (some_actor b a h) ((and_parts (is_actor_of m b) (list_all (is_actor_of m) list) all).0)
at_place m (b ∷ list) (suc n) a all h = at_place m list n a ((and_parts (is_actor_of m b) (list_all (is_actor_of m) list) all).1) h

pub lists_choose : (m : MachineSpec) (list : List Actor) → IsTrue (list_all (is_actor_of m) list) → ChoosesActors m (by_list list)
lists_choose m list all turns stalls a h = at_place m list turns a all h
