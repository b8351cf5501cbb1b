-- No two verdicts fit one journal.
use Rattle.std.proofs.Common.{◌≡◌, ℕ, zero, suc, ◌+◌, ◌<◌, ◌≤◌, ⊎_elim, Bool, List, [], ◌∷◌, ◌++◌, length, take, slice_get, Some, refl, sym, ◌∙◌, ap, subst, arith}
use Rattle.std.proofs.lemmas.Bool.{cases_lt}
use Rattle.pei_types.specs.declared.clauses.Clause.{Clause}
use Rattle.pei_types.specs.declared.clauses.Clause.TheVariants as clause
use Rattle.pei_types.specs.declared.events.Event.{Event}
use Rattle.pei_types.specs.declared.machines.MachineSpec.{MachineSpec}
use Rattle.pei_types.specs.Legal.{AllHold, FailsFirst, Holds, Legal, Meets, clauses, place_of}
use Rattle.pei_types.specs.Program.{Listing, Contents}
use Rattle.trace_check.specs.Verdicts.{FailsAt, IsVerdict}
use Rattle.trace_check.specs.declared.verdicts.Verdict.{Verdict}
use Rattle.trace_check.specs.declared.verdicts.Verdict.TheVariants as verdict

-- ---- clauses by their places

place_has : (c : Clause) → slice_get clauses (place_of c) ≡ Some c
place_has clause.Replies = refl
place_has clause.Calls = refl
place_has clause.Order = refl
place_has clause.Directory = refl
place_has clause.Fence = refl
place_has clause.Race = refl
place_has clause.Guard = refl
place_has clause.Recency = refl
place_has clause.Monitor = refl
place_has clause.Next = refl
place_has clause.Seal = refl

module _ (p : Listing) (m : MachineSpec) (image : Contents) where
  held_at : (cs : List Clause) (i n : ℕ) (c : Clause) (before : List Event) (e : Event) → slice_get cs i ≡ Some c → i < n → AllHold (take n cs) p m image before e → Holds c p m image before e
  held_at [] i n c before e at low all = absurd (cc at)
  held_at (d ∷ cs) zero zero c before e at low all = absurd (omega (arith, low))
  held_at (d ∷ cs) zero (suc n) c before e at low all = let same : d ≡ c = cc at in subst (λ (x : Clause). Holds x p m image before e) same all.0
  held_at (d ∷ cs) (suc i) zero c before e at low all = absurd (omega (arith, low))
  held_at (d ∷ cs) (suc i) (suc n) c before e at low all = held_at cs i n c before e at (omega (arith, low)) all.1

  meets_each : (c : Clause) (before : List Event) (e : Event) → Meets p m image before e → Holds c p m image before e
  meets_each clause.Replies before e h = h.flat.replies
  meets_each clause.Calls before e h = h.flat.calls
  meets_each clause.Order before e h = h.flat.order
  meets_each clause.Directory before e h = h.flat.directory
  meets_each clause.Fence before e h = h.flat.fence
  meets_each clause.Race before e h = h.flat.race
  meets_each clause.Guard before e h = h.guarded
  meets_each clause.Recency before e h = h.recency
  meets_each clause.Monitor before e h = h.monitor
  meets_each clause.Next before e h = h.next
  meets_each clause.Seal before e h = h.seal

  -- one event fails but one clause first
  clause_not_before : (c d : Clause) (before : List Event) (e : Event) → place_of c < place_of d → FailsFirst c p m image before e → FailsFirst d p m image before e → ⊥
  clause_not_before c d before e low f g = f.fails (held_at clauses (place_of c) (place_of d) c before e (place_has c) low g.earlier)

  same_clause : (c d : Clause) (before : List Event) (e : Event) → FailsFirst c p m image before e → FailsFirst d p m image before e → c ≡ d
  same_clause c d before e f g = ⊎_elim
      (λ (low : place_of c < place_of d). absurd (clause_not_before c d before e low f g))
      (λ (high : place_of d ≤ place_of c). ⊎_elim
      (λ (low : place_of d < place_of c). absurd (clause_not_before d c before e low g f))
      (λ (other : place_of c ≤ place_of d).
      let place : place_of c ≡ place_of d = omega (arith, high, other)
      in let both : Some c ≡ Some d = sym (place_has c) ∙ ap (slice_get clauses) place ∙ place_has d
      in cc both)
      (cases_lt (place_of d) (place_of c)))
      (cases_lt (place_of c) (place_of d))

  -- ---- the first event that fails

  record Continues (front : List Event) (e : Event) (long : List Event) : Type 0 where
    rest : List Event
    is : long ≡ front ++ e ∷ rest

  shorter : (b d : List Event) (e f : Event) (r t : List Event) → b ++ e ∷ r ≡ d ++ f ∷ t → length b < length d → Continues b e d
  shorter b [] e f r t is low = absurd (omega (arith, low))
  shorter [] (y ∷ d) e f r t is low = let first : y ≡ e = cc is in record { rest = d; is = ap (λ x. x ∷ d) first }
  shorter (x ∷ b) (y ∷ d) e f r t is low =
      let first : y ≡ x = cc is
      in let behind : b ++ e ∷ r ≡ d ++ f ∷ t = cc is
      in let c = shorter b d e f r t behind (omega (arith, low))
      in record { rest = c.rest; is = ap (λ z. z ∷ d) first ∙ ap (λ zs. x ∷ zs) c.is }

  same_place : (b d : List Event) (e f : Event) (r t : List Event) → b ++ e ∷ r ≡ d ++ f ∷ t → length b ≡ length d → (b ≡ d) × (e ≡ f)
  same_place [] [] e f r t is same = let first : e ≡ f = cc is in (refl, first)
  same_place [] (y ∷ d) e f r t is same = absurd (omega (arith, same))
  same_place (x ∷ b) [] e f r t is same = absurd (omega (arith, same))
  same_place (x ∷ b) (y ∷ d) e f r t is same =
      let first : x ≡ y = cc is
      in let behind : b ++ e ∷ r ≡ d ++ f ∷ t = cc is
      in let both = same_place b d e f r t behind (omega (arith, same))
      in (ap (λ z. z ∷ b) first ∙ ap (λ zs. y ∷ zs) both.0, both.1)

  fails_legal : (journal : List Event) (line : ℕ) (c : Clause) → Legal p m image journal → FailsAt p m image journal line c → ⊥
  fails_legal journal line c legal f = f.first.fails (meets_each c f.before f.event (legal f.before f.rest f.event f.whole))

  not_later : (journal : List Event) (k l : ℕ) (c d : Clause) (f : FailsAt p m image journal k c) (g : FailsAt p m image journal l d) → length f.before < length g.before → ⊥
  not_later journal k l c d f g low =
      let t = shorter f.before g.before f.event g.event f.rest g.rest (sym f.whole ∙ g.whole) low
      in f.first.fails (meets_each c f.before f.event (g.first.legal f.before t.rest f.event t.is))

  same_fault : (journal : List Event) (k l : ℕ) (c d : Clause) (f : FailsAt p m image journal k c) (g : FailsAt p m image journal l d) → length f.before ≡ length g.before → (k ≡ l) × (c ≡ d)
  same_fault journal k l c d f g same =
      let both = same_place f.before g.before f.event g.event f.rest g.rest (sym f.whole ∙ g.whole) same
      in let moved = subst (λ (x : Event). FailsFirst c p m image g.before x) both.1 (subst (λ (xs : List Event). FailsFirst c p m image xs f.event) both.0 f.first)
      in (f.number ∙ ap (λ n. n + 2) same ∙ sym g.number, same_clause c d g.before g.event moved g.first)

  one_fault : (journal : List Event) (k l : ℕ) (c d : Clause) → FailsAt p m image journal k c → FailsAt p m image journal l d → (k ≡ l) × (c ≡ d)
  one_fault journal k l c d f g = ⊎_elim
      (λ (low : length f.before < length g.before). absurd (not_later journal k l c d f g low))
      (λ (high : length g.before ≤ length f.before). ⊎_elim
      (λ (low : length g.before < length f.before). absurd (not_later journal l k d c g f low))
      (λ (other : length f.before ≤ length g.before). let same : length f.before ≡ length g.before = omega (arith, high, other) in same_fault journal k l c d f g same)
      (cases_lt (length g.before) (length f.before)))
      (cases_lt (length f.before) (length g.before))

  pub one_verdict : (journal : List Event) (one other : Verdict) → IsVerdict p m image journal one → IsVerdict p m image journal other → one ≡ other
  one_verdict journal (verdict.Legal a) (verdict.Legal b) f g = ap (λ (t : Bool). verdict.Legal t) (f.1 ∙ sym g.1)
  one_verdict journal (verdict.Legal a) (verdict.Illegal l d) f g = absurd (fails_legal journal l d f.0 g)
  one_verdict journal (verdict.Illegal k c) (verdict.Legal b) f g = absurd (fails_legal journal k c g.0 f)
  one_verdict journal (verdict.Illegal k c) (verdict.Illegal l d) f g =
      let t = one_fault journal k l c d f g
      in ap (λ (n : ℕ). verdict.Illegal n c) t.0 ∙ ap (λ (x : Clause). verdict.Illegal l x) t.1
