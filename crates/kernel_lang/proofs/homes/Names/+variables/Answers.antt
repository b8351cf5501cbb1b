use Rattle.std.proofs.Common.{◌≡◌, ℕ, ◌+◌, List, ◌∷◌, drop, sym, ap, subst, ◌∙◌}
use Rattle.std.specs.Result.{OnOk}
use Rattle.kernel_lang.specs.declared.homes.Home.{Home}
use Rattle.kernel_text.specs.declared.tree.Stmt.{Stmt}
use Rattle.kernel_text.specs.Sound.{behind_statements, with_variable}
use Rattle.kernel_text.specs.Trees.{done, repeat}
use Rattle.kernel_text.specs.Views.{with_statement, with_statements}
use Rattle.kernel_text.proofs.Bodies.{body_is}
use Rattle.kernel_lang.specs.Homes.{Frame}
use Rattle.kernel_lang.proofs.Sequences.{behind_one, next_of}
use Rattle.kernel_lang.proofs.homes.Names.+variables.Goals as goal

abbrev frame : List (List ℕ × Home) → List (List ℕ) → Frame
frame hs vs = record { homes = hs; variables = vs }

pub set_all-loop-s-preserved : goal.set_all-loop-s-preserved
set_all-loop-s-preserved t c =
    let xs = c.args.statements.now
    in let i = c.loop-s.s-index
    in let s = c.s-item.result
    in let left : drop i xs ≡ s ∷ drop (i + 1) xs = next_of xs i s c.loop-s-test.true (sym c.s-item.is)
    in let set = c.in_ok-set_by.ensures
    in (
      ap (λ (f : Frame). f.homes) set ∙ c.loop-s.invariant.0,
      ap (λ (f : Frame). behind_statements f.variables (with_statements (drop (i + 1) xs) done)) set
          ∙ sym (behind_one s c.loop-s.self.variables (with_statements (drop (i + 1) xs) done))
          ∙ ap (λ ys. behind_statements c.loop-s.self.variables (with_statements ys done)) (sym left)
          ∙ c.loop-s.invariant.1,
    )

pub set_by-returns-in_ok-set-in-Repeat : goal.set_by-returns-in_ok-set-in-Repeat
set_by-returns-in_ok-set-in-Repeat t c =
    let name = c.in-Repeat.name
    in let list = c.in-Repeat.body.items.items
    in let set = c.in_ok-set-in-Repeat.ensures
    in let whole : with_statement c.args.s.now done ≡ repeat name c.in-Repeat.turns (with_statements list done) done = ap (λ s. with_statement s done) c.in-Repeat.is ∙ ap (λ b. repeat name c.in-Repeat.turns b done) (body_is c.in-Repeat.body)
    in let homes = c.args.self.now.homes
    in let vs = c.args.self.now.variables
    in let named : c.as_bytes-in-Repeat.result.now ≡ name = c.as_bytes-in-Repeat.ensures.value ∙ c.as_str-in-Repeat.ensures
    in subst (λ f. OnOk c.set_all.result (c.set_all.new.self ≡ f))
    (ap (λ (f : Frame). frame f.homes (behind_statements f.variables (with_statements c.as_slice.result.now done))) set
    ∙ ap (λ x. frame homes (behind_statements (with_variable vs x) (with_statements c.as_slice.result.now done))) named
    ∙ ap (λ xs. frame homes (behind_statements (with_variable vs name) (with_statements xs done))) c.as_slice.ensures
    ∙ ap (λ st. frame homes (behind_statements vs st)) (sym whole))
    c.set_all.ensures
