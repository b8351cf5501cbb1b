-- A set that lacks a block has room for it where it gives up no line.
use Rattle.std.proofs.Common.{◌≡◌, ℕ, ◌≤◌, ◌==◌, nat_lt, Bool, true, false, not, ◌&&◌, if◌then◌else◌, List, [], ◌∷◌, length, Option, Some, None, is_none, option_map, find, eqb-true, refl, sym, ◌∙◌, ap, arith}
use Rattle.std.specs.List.{last_or, list_any}
use Rattle.std.proofs.lemmas.Grind.{common_steps}
use Rattle.pei_types.specs.declared.identifiers.BlockNo.{BlockNo}
use Rattle.pei_types.specs.declared.identifiers.CoreId.{CoreId}
use Rattle.pei_types.specs.declared.machines.MachineSpec.{MachineSpec}
use Rattle.pei_types.specs.Blocks.{l1_set_of, llc_set_of}
use Rattle.pei_types.specs.MachineState.{Line, LlcLine, State, is_absent, is_i, is_line_of, is_llc_line_of, l1_set, letter_in, letter_of, llc_set, mark_in, mark_of}
use Rattle.pei_types.specs.Guard.{l1_has_room, llc_has_room}
use Rattle.pei_types.specs.Next.{l1_victim}
use Rattle.pei_types.specs.Recency.{has_room, victim}
use Rattle.pei_types.proofs.Lists.{found_has}
use Rattle.coherence_laws.specs.Sets.{Each}
use Rattle.coherence_laws.specs.Invariants.{Invariants, IsLineOf, IsLlcLineOf}

some_last : {A : Type 0} (x : A) (set : List A) → is_none (last_or (Some x) set) ≡ false
some_last x [] = refl
some_last x (y ∷ set) = some_last y set

full_or_not : {A : Type 0} (ways : ℕ) (set : List A) → 1 ≤ ways → length set ≤ ways → is_none (victim ways set) ≡ nat_lt (length set) ways
full_or_not {A} ways set some within = go set (length set == ways) refl within
  where
    go : (set : List A) (t : Bool) → (length set == ways) ≡ t → length set ≤ ways → is_none (if t then last_or None set else None) ≡ nat_lt (length set) ways
    go [] true e h = absurd (let none : length {A = A} [] ≡ ways = eqb-true _ ways e in omega (arith, none, some))
    go (x ∷ xs) true e h = some_last x xs ∙ let full : length (x ∷ xs) ≡ ways = eqb-true (length (x ∷ xs)) ways e in grind (arith, common_steps)
    go set false e h = grind (arith, common_steps)

unfound : {A : Type 0} (test : A → Bool) (xs : List A) → find test xs ≡ None → list_any test xs ≡ false
unfound test [] e = refl
unfound {A} test (x ∷ xs) e = go (test x) refl e (unfound test xs)
  where
    go : (t : Bool) → test x ≡ t → (if t then Some x else find test xs) ≡ None → (find test xs ≡ None → list_any test xs ≡ false) → list_any test (x ∷ xs) ≡ false
    go true at k rest = absurd (cc k)
    go false at k rest = rw at (rest k)

lacks_line : (m : MachineSpec) (i : ℕ) (b : BlockNo) (set : List Line) (o : Option Line) → Each (IsLineOf m i) set → find (is_line_of b) set ≡ o → is_i (letter_in o) ≡ true → list_any (is_line_of b) set ≡ false
lacks_line m i b set None h e k = unfound (is_line_of b) set e
lacks_line m i b set (Some line) h e k = absurd (let n = (found_has (IsLineOf m i) (is_line_of b) set line h e).1 in cc (k, n))

lacks_llc_line : (m : MachineSpec) (i : ℕ) (b : BlockNo) (set : List LlcLine) (o : Option LlcLine) → Each (IsLlcLineOf m i) set → find (is_llc_line_of b) set ≡ o → is_absent (mark_in o) ≡ true → list_any (is_llc_line_of b) set ≡ false
lacks_llc_line m i b set None h e k = unfound (is_llc_line_of b) set e
lacks_llc_line m i b set (Some line) h e k = absurd (let n = (found_has (IsLlcLineOf m i) (is_llc_line_of b) set line h e).1 in cc (k, n))

room_alone : {A : Type 0} (ways : ℕ) (test : A → Bool) (set : List A) → list_any test set ≡ false → has_room ways test set ≡ nat_lt (length set) ways
room_alone ways test set h = ap (λ t. not t && nat_lt (length set) ways) h

pub none_kept : {A B : Type 0} (f : A → B) (o : Option A) → is_none (option_map f o) ≡ is_none o
none_kept f None = refl
none_kept f (Some x) = refl

-- the private cache of a core that has no copy has room exactly where it gives up none
pub own_room : (m : MachineSpec) (s : State) (c : CoreId) (b : BlockNo) → Invariants m s → is_i (letter_of m s c b) ≡ true → is_none (option_map (λ line. line.block) (l1_victim m s c b)) ≡ l1_has_room m s c b
own_room m s c b inv lacks =
    let set = inv.sets.l1 c.0 (l1_set_of m b)
    in none_kept (λ (line : Line). line.block) (l1_victim m s c b)
    ∙ ap (λ t. is_none (if t then victim m.l1_ways (l1_set m s c b) else None)) lacks
    ∙ full_or_not m.l1_ways (l1_set m s c b) m.l1_ways_in_limits.0 set.within
    ∙ sym (room_alone m.l1_ways (is_line_of b) (l1_set m s c b) (lacks_line m (l1_set_of m b) b (l1_set m s c b) (find (is_line_of b) (l1_set m s c b)) set.each refl lacks))

-- so has the last-level cache
pub shared_room : (m : MachineSpec) (s : State) (b : BlockNo) → Invariants m s → is_absent (mark_of m s b) ≡ true → is_none (victim m.llc_ways (llc_set m s b)) ≡ llc_has_room m s b
shared_room m s b inv lacks =
    let set = inv.sets.llc (llc_set_of m b)
    in full_or_not m.llc_ways (llc_set m s b) m.llc_ways_in_limits.0 set.within
    ∙ sym (room_alone m.llc_ways (is_llc_line_of b) (llc_set m s b) (lacks_llc_line m (llc_set_of m b) b (llc_set m s b) (find (is_llc_line_of b) (llc_set m s b)) set.each refl lacks))
