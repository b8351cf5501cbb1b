use Rattle.std.proofs.Common.{rules, ◌≡◌, ◌+◌, ◌*◌, ◌≤◌, ◌∷◌, ◌∙◌, ◌||◌, ℕ, List, drop, length, sym, ap, subst, arith}
use Rattle.std.specs.Result.{OnOk}
use Rattle.kernel_text.specs.declared.tree.Stmt.{Stmt}
use Rattle.kernel_text.specs.declared.tree.Stmt.TheVariants as stmt
use Rattle.kernel_text.specs.declared.tree.Stmts.{Stmts}
use Rattle.kernel_text.specs.Depth.{parts_of}
use Rattle.kernel_text.specs.Trees.{Statements, done, repeat}
use Rattle.kernel_text.specs.Views.{with_statement, with_statements}
use Rattle.kernel_text.proofs.Bodies.{body_is}
use Rattle.kernel_lang.specs.Code.{code, has_writers, waiting_behind}
use Rattle.kernel_lang.specs.Emitted.{AreShallow, with_code}
use Rattle.kernel_lang.specs.Homes.{register_of}
use Rattle.kernel_lang.proofs.CodeSequences.{code_next, loop_made}
use Rattle.kernel_lang.proofs.Sequences.{next_of, parts_one, shallow_one, waiting_one}
use Rattle.kernel_lang.proofs.Waiting.{ok_more}
use Rattle.kernel_lang.proofs.emitter.Emitter.+statements.Goals as goal

-- a loop, by the list of its body
loop_is : (s : Stmt) (x : List ℕ) (n : ℕ) (b : Stmts) → s ≡ stmt.Repeat x n b → with_statement s done ≡ repeat x n (with_statements b.items.items done) done
loop_is s x n b is = ap (λ s. with_statement s done) is ∙ ap (λ inside. repeat x n inside done) (body_is b)

pub statement-statements-requires : goal.statement-statements-requires
statement-statements-requires t c =
    let s = c.args.s.now
    in let body = c.in-Repeat.body.items.items
    in let whole : with_statement s done ≡ repeat c.in-Repeat.name c.in-Repeat.turns (with_statements body done) done = loop_is s c.in-Repeat.name c.in-Repeat.turns c.in-Repeat.body c.in-Repeat.is
    in let inside : with_statements c.as_slice-in-Repeat.result.now done ≡ with_statements body done = ap (λ xs. with_statements xs done) c.as_slice-in-Repeat.ensures
    in let shallow : AreShallow (with_statements body done) = (subst AreShallow whole c.requires.shallow).0
    in let parts : parts_of (with_statement s done) ≡ 1 + parts_of (with_statements body done) + 0 = ap parts_of whole
    in let room : length c.open_loop.new.self.program.instrs + 8 * parts_of (with_statements body done) ≤ 65536 = omega (arith, c.requires.room, parts, c.in_ok-top-in-Repeat.ensures.length)
    in (omega (arith, c.decreases, parts, ap parts_of inside), (c.requires.names, (subst AreShallow (sym inside) shallow, subst (λ st. length c.open_loop.new.self.program.instrs + 8 * parts_of st ≤ 65536) (sym inside) room)))

pub statement-returns-in_ok-statements-in-Repeat-clause-code : goal.statement-returns-in_ok-statements-in-Repeat-clause-code
statement-returns-in_ok-statements-in-Repeat-clause-code t c =
    let s = c.args.s.now
    in let f = c.args.names.now
    in let x = c.in-Repeat.name
    in let p = c.args.self.now.program
    in let w = c.args.self.now.waiting
    in let body = with_statements c.in-Repeat.body.items.items done
    in let whole : with_statement s done ≡ repeat x c.in-Repeat.turns body done = loop_is s x c.in-Repeat.turns c.in-Repeat.body c.in-Repeat.is
    in let inside : with_statements c.as_slice-in-Repeat.result.now done ≡ body = ap (λ xs. with_statements xs done) c.as_slice-in-Repeat.ensures
    in let opened = c.in_ok-top-in-Repeat.ensures
    in let waits : c.open_loop.new.self.waiting ≡ (w || has_writers body) = opened.waiting ∙ ap (λ xs. w || has_writers (with_statements xs done)) c.as_slice.ensures
    in let counts : c.register-counter.result ≡ register_of f x = c.register-counter.ensures.register ∙ ap (register_of f) (c.as_bytes.ensures.value ∙ c.as_str.ensures)
    in let ran = c.in_ok-statements-in-Repeat.ensures.code ∙ ap (λ st. with_code c.open_loop.new.self.program (code f c.open_loop.new.self.waiting (length c.open_loop.new.self.program.instrs) st)) inside
    in ok_more c.close_loop.result
    (λ closed. loop_made f w c.open_loop.new.self.waiting p c.open_loop.new.self.program c.statements.new.self.program c.close_loop.new.self.program x c.register-counter.result c.in-Repeat.turns c.in_ok-top-in-Repeat.top body counts opened.top opened.code waits ran closed
    ∙ ap (λ st. with_code p (code f w (length p.instrs) st)) (sym whole))
    c.close_loop.ensures.code

pub statements-statement-requires : goal.statements-statement-requires
statements-statement-requires t c =
    let xs = c.args.statements.now
    in let i = c.loop-s.s-index
    in let s = c.s-item.result
    in let rest = with_statements (drop (i + 1) xs) done
    in let left : with_statements (drop i xs) done ≡ with_statement s rest = ap (λ ys. with_statements ys done) (next_of xs i s c.loop-s-test.true (sym c.s-item.is))
    in let parts : parts_of (with_statements (drop i xs) done) ≡ parts_of (with_statement s done) + parts_of rest = ap parts_of left ∙ parts_one s rest
    in let shallow = (shallow_one s rest (subst AreShallow left c.loop-s.invariant.0)).0
    in (omega (arith, c.decreases, parts, c.loop-s.invariant.1), (c.requires.names, (shallow, omega (arith, c.requires.room, parts, c.loop-s.invariant.2))))

pub statements-loop-s-preserved : goal.statements-loop-s-preserved
statements-loop-s-preserved t c =
    let xs = c.args.statements.now
    in let i = c.loop-s.s-index
    in let s = c.s-item.result
    in let rest = with_statements (drop (i + 1) xs) done
    in let left : with_statements (drop i xs) done ≡ with_statement s rest = ap (λ ys. with_statements ys done) (next_of xs i s c.loop-s-test.true (sym c.s-item.is))
    in let parts : parts_of (with_statements (drop i xs) done) ≡ parts_of (with_statement s done) + parts_of rest = ap parts_of left ∙ parts_one s rest
    in let f = c.args.names.now
    in let made = c.in_ok-statement.ensures
    in let p = c.loop-s.self.program
    in let w = c.loop-s.self.waiting
    in (
      (shallow_one s rest (subst AreShallow left c.loop-s.invariant.0)).1,
      omega (arith, parts, c.loop-s.invariant.1),
      omega (arith, parts, made.length, c.loop-s.invariant.2),
      code_next f w c.statement.new.self.waiting p c.statement.new.self.program s rest made.code made.waiting
          ∙ ap (λ st. with_code p (code f w (length p.instrs) st)) (sym left)
          ∙ c.loop-s.invariant.3,
      ap (λ b. waiting_behind f b rest) made.waiting ∙ sym (waiting_one f w s rest) ∙ ap (λ st. waiting_behind f w st) (sym left) ∙ c.loop-s.invariant.4,
    )

pub statement-close_loop-requires-clause-room : goal.statement-close_loop-requires-clause-room
statement-close_loop-requires-clause-room t c =
    let parts : parts_of (with_statement c.args.s.now done) ≡ 1 + parts_of (with_statements c.in-Repeat.body.items.items done) + 0 = ap parts_of (loop_is c.args.s.now c.in-Repeat.name c.in-Repeat.turns c.in-Repeat.body c.in-Repeat.is)
    in let inside = ap (λ xs. parts_of (with_statements xs done)) c.as_slice-in-Repeat.ensures
    in omega (arith, c.requires.room, parts, inside, c.in_ok-top-in-Repeat.ensures.length, c.in_ok-statements-in-Repeat.ensures.length)

pub statement-returns-in_ok-statements-in-Repeat-clause-length : goal.statement-returns-in_ok-statements-in-Repeat-clause-length
statement-returns-in_ok-statements-in-Repeat-clause-length t c =
    let parts : parts_of (with_statement c.args.s.now done) ≡ 1 + parts_of (with_statements c.in-Repeat.body.items.items done) + 0 = ap parts_of (loop_is c.args.s.now c.in-Repeat.name c.in-Repeat.turns c.in-Repeat.body c.in-Repeat.is)
    in let inside = ap (λ xs. parts_of (with_statements xs done)) c.as_slice-in-Repeat.ensures
    in ok_more c.close_loop.result (λ more. omega (arith, more, parts, inside, c.in_ok-top-in-Repeat.ensures.length, c.in_ok-statements-in-Repeat.ensures.length)) c.close_loop.ensures.length

pub statement-returns-in_ok-statements-in-Repeat-clause-waiting : goal.statement-returns-in_ok-statements-in-Repeat-clause-waiting
statement-returns-in_ok-statements-in-Repeat-clause-waiting t c =
    let f = c.args.names.now
    in let w = c.args.self.now.waiting
    in let body = with_statements c.in-Repeat.body.items.items done
    in let inside : with_statements c.as_slice-in-Repeat.result.now done ≡ body = ap (λ xs. with_statements xs done) c.as_slice-in-Repeat.ensures
    in let waits : c.open_loop.new.self.waiting ≡ (w || has_writers body) = c.in_ok-top-in-Repeat.ensures.waiting ∙ ap (λ xs. w || has_writers (with_statements xs done)) c.as_slice.ensures
    in ok_more c.close_loop.result
    (λ same. same ∙ c.in_ok-statements-in-Repeat.ensures.waiting
    ∙ ap (λ st. waiting_behind f c.open_loop.new.self.waiting st) inside
    ∙ ap (λ b. waiting_behind f b body) waits
    ∙ ap (λ st. waiting_behind f w st) (sym (loop_is c.args.s.now c.in-Repeat.name c.in-Repeat.turns c.in-Repeat.body c.in-Repeat.is)))
    c.close_loop.ensures.waiting
