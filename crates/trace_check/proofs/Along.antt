-- The cores along with the events, and their ends.
use Rattle.std.proofs.Common.{◌≡◌, ℕ, zero, suc, ◌+◌, ◌<◌, ◌==◌, Bool, true, false, ◌&&◌, ◌||◌, IsTrue, if◌then◌else◌, true≢false, List, [], ◌∷◌, ◌++◌, map, length, slice_get, Some, is_some, refl, sym, ◌∙◌, ap, arith}
use Rattle.std.specs.Prelude.{slice_index_or, slice_set}
use Rattle.std.specs.List.{filter_map, range_with_len}
use Rattle.std.proofs.lemmas.Grind.{common_steps}
use Rattle.std.proofs.lemmas.List.{append-nil}
use Rattle.std.proofs.lemmas.List.Elements.{filter_map-append}
use Rattle.pei_types.specs.declared.identifiers.CoreId.{CoreId}
use Rattle.pei_types.specs.declared.calls.Call.{Call}
use Rattle.pei_types.specs.declared.calls.Call.TheVariants as call
use Rattle.pei_types.specs.declared.events.Event.{Event}
use Rattle.pei_types.specs.declared.events.EventKind.{EventKind}
use Rattle.pei_types.specs.declared.events.EventKind.TheVariants as event
use Rattle.pei_types.specs.declared.machines.MachineSpec.{MachineSpec}
use Rattle.pei_types.specs.Blocks.{same_core}
use Rattle.pei_types.specs.Calls.{Answers, AnswersNext}
use Rattle.pei_types.specs.Core.{CoreState, after_answer, at_stop, core_after, core_at_start, core_config, events_of, next_of, next_of_core}
use Rattle.pei_types.specs.Ends.{end_in, end_of, ends_of}
use Rattle.pei_types.specs.Laws.{FoldsGrow, StopsOnce}
use Rattle.pei_types.specs.Program.{Listing, Contents}
use Rattle.pei_types.proofs.Identities.{same_core_is}
use Rattle.pei_types.proofs.Tests.{same_self}
use Rattle.core_exec.specs.CoreView.{Standing, is_asking, is_request, retires, seen}
use Rattle.core_exec.specs.declared.next.CoreNext.{CoreNext}
use Rattle.core_exec.specs.declared.next.CoreNext.TheVariants as next
use Rattle.trace_check.specs.Cores.{CoresGoOn, CoreStops, IsAt, ended_after, ended_by}

pub there_is : {A : Type 0} (xs : List A) (i : ℕ) (d : A) → i < length xs → slice_get xs i ≡ Some (slice_index_or xs i d)
there_is [] i d h = absurd (omega (arith, h))
there_is (x ∷ xs) zero d h = refl
there_is (x ∷ xs) (suc i) d h = there_is xs i d (omega (arith, h))

-- ---- one item of a list that was set

pub get_here : {A : Type 0} (xs : List A) (i : ℕ) (s t : A) → slice_get xs i ≡ Some s → slice_get (slice_set xs i t) i ≡ Some t
get_here [] i s t h = absurd (cc h)
get_here (x ∷ xs) zero s t h = refl
get_here (x ∷ xs) (suc i) s t h = get_here xs i s t h

get_same : {A : Type 0} (xs : List A) (i : ℕ) (s t : A) → slice_get (slice_set xs i t) i ≡ Some s → s ≡ t
get_same [] i s t h = absurd (cc h)
get_same (x ∷ xs) zero s t h = cc h
get_same (x ∷ xs) (suc i) s t h = get_same xs i s t h

get_other : {A : Type 0} (xs : List A) (i j : ℕ) (t : A) → (i ≡ j → ⊥) → slice_get (slice_set xs i t) j ≡ slice_get xs j
get_other [] i j t h = refl
get_other (x ∷ xs) zero zero t h = absurd (h refl)
get_other (x ∷ xs) zero (suc j) t h = refl
get_other (x ∷ xs) (suc i) zero t h = refl
get_other (x ∷ xs) (suc i) (suc j) t h = get_other xs i j t (λ e. h (ap suc e))

-- ---- what a core does next

asks : (x : Call) (kind : EventKind) → Answers x kind → IsTrue (retires kind) → IsTrue (is_request x)
asks (call.End k) (event.End how) h r = absurd (cc r)
asks (call.End k) _ h r = absurd h
asks _ kind h r = refl

pub asking : (x : CoreNext) (kind : EventKind) → AnswersNext (seen x) kind → IsTrue (retires kind) → IsTrue (is_asking x)
asking (next.Call x) kind h r = asks x kind h r
asking (next.Busy register pei) kind h r = absurd h
asking (next.Ended how) kind h r = absurd h

pub next_told : (stops : StopsOnce) (p : Listing) (m : MachineSpec) (image : Contents) (past : List Event) (c : CoreId) (s : CoreState) → IsAt p m image past c s → next_of p (core_config m) s ≡ next_of_core p m image past c
next_told stops p m image past c s at =
    sym (stops.next p (core_config m) s) ∙ ap (next_of p (core_config m)) at ∙ stops.next p (core_config m) (core_after p (core_config m) (core_at_start image c) (events_of c past))

-- ---- the cores after an event

own_events : (folds : FoldsGrow) (c : CoreId) (past : List Event) (e : Event) → same_core e.actor.core c ≡ true → events_of c (past ++ e ∷ []) ≡ events_of c past ++ e ∷ []
own_events folds c past e own = folds.own c past e ∙ ap (λ t. events_of c past ++ (if t then e ∷ [] else [])) own

others_events : (folds : FoldsGrow) (c : CoreId) (past : List Event) (e : Event) → same_core e.actor.core c ≡ false → events_of c (past ++ e ∷ []) ≡ events_of c past
others_events folds c past e other = folds.own c past e ∙ ap (λ t. events_of c past ++ (if t then e ∷ [] else [])) other ∙ append-nil (events_of c past)

at_later : (folds : FoldsGrow) (p : Listing) (m : MachineSpec) (image : Contents) (past : List Event) (e : Event) (c : CoreId) (s : CoreState) → events_of c (past ++ e ∷ []) ≡ events_of c past → IsAt p m image past c s → IsAt p m image (past ++ e ∷ []) c s
at_later folds p m image past e c s same at = at ∙ ap (λ es. at_stop p (core_config m) (core_after p (core_config m) (core_at_start image c) es)) (sym same)

-- the core of an event, which stood at its stop, after the event
at_answered : (folds : FoldsGrow) (p : Listing) (m : MachineSpec) (image : Contents) (past : List Event) (e : Event) (c : CoreId) (s t u : CoreState) → same_core e.actor.core c ≡ true → IsAt p m image past c s → t ≡ at_stop p (core_config m) s → u ≡ after_answer p t e.kind → IsAt p m image (past ++ e ∷ []) c u
at_answered folds p m image past e c s t u own at stopped answered =
    ap (at_stop p (core_config m))
    (answered ∙ ap (λ x. after_answer p x e.kind) (stopped ∙ at)
    ∙ sym (folds.core p (core_config m) (core_at_start image c) (events_of c past) e)
    ∙ ap (core_after p (core_config m) (core_at_start image c)) (sym (own_events folds c past e own)))

module _ (folds : FoldsGrow) (p : Listing) (m : MachineSpec) (image : Contents) (past : List Event) (e : Event) (old mid new : List Standing) (x : CoreNext)
    (before : (c : CoreId) (s : Standing) → c.0 < m.cores → slice_get old c.0 ≡ Some s → IsAt p m image past c s.state) (within : e.actor.core.0 < m.cores)
    (ran : CoreStops p (core_config m) old mid e.actor.core x) (went : CoresGoOn p mid new e) where
  stood : slice_get mid e.actor.core.0 ≡ Some ran.2
  stood = ap (λ xs. slice_get xs e.actor.core.0) ran.3 ∙ get_here old e.actor.core.0 ran.0 ran.2 ran.1

  after_all : (t : Standing) × (new ≡ slice_set mid e.actor.core.0 t) × (t.state ≡ after_answer p ran.2.state e.kind)
  after_all = went ran.2 stood (λ r. sym ran.5)

  pub cores_on : (c : CoreId) (s : Standing) → c.0 < m.cores → slice_get new c.0 ≡ Some s → IsAt p m image (past ++ e ∷ []) c s.state
  cores_on c s inside found = by (same_core e.actor.core c) refl
    where
      set_both : new ≡ slice_set (slice_set old e.actor.core.0 ran.2) e.actor.core.0 after_all.0
      set_both = after_all.1 ∙ ap (λ xs. slice_set xs e.actor.core.0 after_all.0) ran.3

      by : (t : Bool) → same_core e.actor.core c ≡ t → IsAt p m image (past ++ e ∷ []) c s.state
      by true own =
          let core : e.actor.core ≡ c = same_core_is e.actor.core c own
          in let same : s ≡ after_all.0 = get_same (slice_set old e.actor.core.0 ran.2) e.actor.core.0 s after_all.0 (sym (ap (λ xs. slice_get xs e.actor.core.0) set_both) ∙ ap (λ (d : CoreId). slice_get new d.0) core ∙ found)
          in let at = before c ran.0 inside (sym (ap (λ (d : CoreId). slice_get old d.0) core) ∙ ran.1)
          in at_answered folds p m image past e c ran.0.state ran.2.state s.state own at ran.4 (ap (λ (y : Standing). y.state) same ∙ after_all.2)
      by false other =
          let apart : e.actor.core.0 ≡ c.0 → ⊥ = λ k. true≢false (sym (ap (λ n. n == c.0) k ∙ same_self c.0) ∙ other)
          in let kept : slice_get old c.0 ≡ Some s = sym (get_other old e.actor.core.0 c.0 ran.2 apart) ∙ sym (get_other (slice_set old e.actor.core.0 ran.2) e.actor.core.0 c.0 after_all.0 apart) ∙ sym (ap (λ xs. slice_get xs c.0) set_both) ∙ found
          in at_later folds p m image past e c s.state (others_events folds c past e other) (before c s inside kept)

-- ---- ends

is_end : EventKind → Bool
is_end (event.End how) = true
is_end _ = false

some_of : {A : Type 0} (xs ys : List A) → is_some (slice_get (xs ++ ys) 0) ≡ (is_some (slice_get xs 0) || is_some (slice_get ys 0))
some_of [] ys = refl
some_of (x ∷ xs) ys = refl

or_none : (x : Bool) → (x || false) ≡ x
or_none true = refl
or_none false = refl

end_on : (folds : FoldsGrow) (past : List Event) (e : Event) (c : CoreId) → is_some (end_of (past ++ e ∷ []) c) ≡ (is_some (end_of past c) || (same_core e.actor.core c && is_end e.kind))
unfolding is_end
end_on folds past e c =
    ap (λ es. is_some (slice_get (filter_map (λ (f : Event). end_in f.kind) es) 0)) (folds.own c past e)
    ∙ ap (λ es. is_some (slice_get es 0)) (filter_map-append (λ (f : Event). end_in f.kind) (events_of c past) (if same_core e.actor.core c then e ∷ [] else []))
    ∙ some_of (filter_map (λ (f : Event). end_in f.kind) (events_of c past)) (filter_map (λ (f : Event). end_in f.kind) (if same_core e.actor.core c then e ∷ [] else []))
    ∙ ap (λ t. is_some (end_of past c) || t) (last (same_core e.actor.core c) e.kind)
  where
    one : (k : EventKind) → is_some (slice_get (filter_map (λ (f : Event). end_in f.kind) (record { actor = e.actor; kind = k } ∷ [])) 0) ≡ is_end k
    one (event.End how) = refl
    one _ = refl

    last : (t : Bool) (k : EventKind) → is_some (slice_get (filter_map (λ (f : Event). end_in f.kind) (if t then record { actor = e.actor; kind = k } ∷ [] else [])) 0) ≡ (t && is_end k)
    last true k = one k
    last false k = refl

-- ends in a row, where one is set
set_range : (f : ℕ → Bool) (k i n : ℕ) → map (λ c. f c || (k + i == c)) (range_with_len k n) ≡ slice_set (map f (range_with_len k n)) i true
set_range f k i zero = refl
set_range f k zero (suc n) =
    let here : (k + 0 == k) ≡ true = grind (arith, common_steps)
    in ap (λ t. (f k || t) ∷ map (λ c. f c || (k + 0 == c)) (range_with_len (k + 1) n)) here ∙ ap (λ t. t ∷ map (λ c. f c || (k + 0 == c)) (range_with_len (k + 1) n)) (or_true (f k)) ∙ ap (λ xs. true ∷ xs) (behind (k + 0) (k + 1) n (omega arith))
  where
    or_true : (x : Bool) → (x || true) ≡ true
    or_true true = refl
    or_true false = refl

    behind : (j l n : ℕ) → j < l → map (λ c. f c || (j == c)) (range_with_len l n) ≡ map f (range_with_len l n)
    behind j l zero h = refl
    behind j l (suc n) h =
        let apart : (j == l) ≡ false = grind (arith, common_steps)
        in ap (λ t. (f l || t) ∷ map (λ c. f c || (j == c)) (range_with_len (l + 1) n)) apart ∙ ap (λ t. t ∷ map (λ c. f c || (j == c)) (range_with_len (l + 1) n)) (or_none (f l)) ∙ ap (λ xs. f l ∷ xs) (behind j (l + 1) n (omega (arith, h)))
set_range f k (suc i) (suc n) =
    let apart : (k + suc i == k) ≡ false = grind (arith, common_steps)
    in let next : k + 1 + i ≡ k + suc i = omega arith
    in ap (λ t. (f k || t) ∷ map (λ c. f c || (k + suc i == c)) (range_with_len (k + 1) n)) apart ∙ ap (λ t. t ∷ map (λ c. f c || (k + suc i == c)) (range_with_len (k + 1) n)) (or_none (f k))
    ∙ ap (λ xs. f k ∷ xs) (ap (λ j. map (λ c. f c || (j == c)) (range_with_len (k + 1) n)) (sym next) ∙ set_range f (k + 1) i n)

same_map : {A : Type 0} (f g : ℕ → A) (k n : ℕ) → ((c : ℕ) → f c ≡ g c) → map f (range_with_len k n) ≡ map g (range_with_len k n)
same_map f g k zero h = refl
same_map f g k (suc n) h = ap (λ x. x ∷ map f (range_with_len (k + 1) n)) (h k) ∙ ap (λ xs. g k ∷ xs) (same_map f g (k + 1) n h)

ended_one : List Event → ℕ → Bool
ended_one past c = is_some (end_of past (record { 0 = c }))

map_some : (past : List Event) (k n : ℕ) → map is_some (map (λ c. end_of past (record { 0 = c })) (range_with_len k n)) ≡ map (ended_one past) (range_with_len k n)
unfolding ended_one
map_some past k zero = refl
map_some past k (suc n) = ap (λ xs. is_some (end_of past (record { 0 = k })) ∷ xs) (map_some past (k + 1) n)

pub ended_on : (folds : FoldsGrow) (past : List Event) (e : Event) → ended_after (map is_some (ends_of past)) e ≡ map is_some (ends_of (past ++ e ∷ []))
unfolding ended_one is_end
ended_on folds past e =
    ap (λ xs. ended_after xs e) (map_some past 0 8) ∙ by e.kind ∙ sym (same_map (ended_one (past ++ e ∷ [])) (λ c. ended_one past c || ((e.actor.core.0 == c) && is_end e.kind)) 0 8 (λ c. end_on folds past e (record { 0 = c }))) ∙ sym (map_some (past ++ e ∷ []) 0 8)
  where
    none : (x y : Bool) → x ≡ (x || (y && false))
    none true y = refl
    none false true = refl
    none false false = refl

    one : (x y : Bool) → (x || y) ≡ (x || (y && true))
    one true y = refl
    one false true = refl
    one false false = refl

    by : (k : EventKind) → ended_by (map (ended_one past) (range_with_len 0 8)) e k ≡ map (λ c. ended_one past c || ((e.actor.core.0 == c) && is_end k)) (range_with_len 0 8)
    by (event.End how) =
        let here : 0 + e.actor.core.0 ≡ e.actor.core.0 = omega arith
        in sym (set_range (ended_one past) 0 e.actor.core.0 8)
        ∙ same_map (λ c. ended_one past c || (0 + e.actor.core.0 == c)) (λ c. ended_one past c || ((e.actor.core.0 == c) && true)) 0 8 (λ c. ap (λ n. ended_one past c || (n == c)) here ∙ one (ended_one past c) (e.actor.core.0 == c))
    by _ = same_map (ended_one past) (λ c. ended_one past c || ((e.actor.core.0 == c) && false)) 0 8 (λ c. none (ended_one past c) (e.actor.core.0 == c))
