use Rattle.std.proofs.Common.{◌≡◌, ◌+◌, ◌∷◌, ◌∙◌, ◌||◌, ℕ, Bool, true, false, List, drop, refl, sym, ap}
use Rattle.kernel_text.specs.declared.tree.Stmt.{Stmt}
use Rattle.kernel_text.specs.declared.tree.Stmt.TheVariants as stmt
use Rattle.kernel_text.specs.declared.tree.Stmts.{Stmts}
use Rattle.kernel_text.specs.Trees.{done, repeat}
use Rattle.kernel_text.specs.Views.{with_statement, with_statements}
use Rattle.kernel_text.proofs.Bodies.{body_is}
use Rattle.kernel_lang.specs.Code.{has_writers}
use Rattle.kernel_lang.proofs.Sequences.{next_of, writers_one}
use Rattle.kernel_lang.proofs.statements.+writers.Goals as goal

-- a loop has the writers of its body
loop_writers : (s : Stmt) (x : List ℕ) (n : ℕ) (b : Stmts) → s ≡ stmt.Repeat x n b → has_writers (with_statements b.items.items done) ≡ has_writers (with_statement s done)
loop_writers s x n b is =
    plain (has_writers (with_statements b.items.items done))
    ∙ sym (ap (λ s. has_writers (with_statement s done)) is ∙ ap (λ inside. has_writers (repeat x n inside done)) (body_is b))
  where
    plain : (w : Bool) → w ≡ (w || false)
    plain true = refl
    plain false = refl

-- what is left has writers where its first statement or the rest has
left_writers : (xs : List Stmt) (i : ℕ) (s : Stmt) (b : Bool) → drop i xs ≡ s ∷ drop (i + 1) xs → b ≡ has_writers (with_statement s done) → (b || has_writers (with_statements (drop (i + 1) xs) done)) ≡ has_writers (with_statements (drop i xs) done)
left_writers xs i s b left is =
    let rest = with_statements (drop (i + 1) xs) done
    in ap (λ w. w || has_writers rest) is ∙ sym (writers_one s rest) ∙ ap (λ ys. has_writers (with_statements ys done)) (sym left)

pub has_writers-returns-then-is_writer : goal.has_writers-returns-then-is_writer
has_writers-returns-then-is_writer t c =
    let xs = c.args.statements.now
    in left_writers xs c.loop-s.s-index c.s-item.result true (next_of xs c.loop-s.s-index c.s-item.result c.loop-s-test.true (sym c.s-item.is)) (sym c.if-is_writer.true ∙ c.is_writer.ensures) ∙ c.loop-s.invariant

pub has_writers-loop-s-preserved : goal.has_writers-loop-s-preserved
has_writers-loop-s-preserved t c =
    let xs = c.args.statements.now
    in left_writers xs c.loop-s.s-index c.s-item.result false (next_of xs c.loop-s.s-index c.s-item.result c.loop-s-test.true (sym c.s-item.is)) (sym c.if-is_writer.false ∙ c.is_writer.ensures) ∙ c.loop-s.invariant

pub is_writer-returns-in-Repeat : goal.is_writer-returns-in-Repeat
is_writer-returns-in-Repeat t c =
    c.has_writers.ensures ∙ ap (λ xs. has_writers (with_statements xs done)) c.as_slice.ensures
    ∙ loop_writers c.args.s.now c.in-Repeat.name c.in-Repeat.turns c.in-Repeat.body c.in-Repeat.is
