use Rattle.std.proofs.Common.{◌≡◌, ◌+◌, ◌*◌, ◌∷◌, List, map, drop, sym, ap, ◌∙◌, subst, arith}
use Rattle.kernel_text.specs.Trees.{Declaration, table, array, size_of}
use Rattle.kernel_text.specs.Views.{declaration_of}
use Rattle.kernel_lang.specs.Lines.{lines_behind, lines_from}
use Rattle.kernel_lang.proofs.LineCounts.{few_lines}
use Rattle.kernel_lang.proofs.LinesLeft.{AreLeft, behind_array, behind_table}
use Rattle.kernel_lang.proofs.Sequences.{next_of}
use Rattle.kernel_lang.proofs.declarations.push_lines.Goals as goal
use Rattle.kernel_lang.proofs.declarations.push_lines.Goals.{in-Table+in_ok-put, in_default}

pub put-requires-clause-room : goal.put-requires-clause-room
put-requires-clause-room c =
    few_lines 0 (map declaration_of c.args.decls.now) c.loop-d.program.lines _ c.requires.declarations c.requires.words c.loop-d.invariant.4

pub end-requires : goal.end-requires
end-requires c =
    record { room = few_lines 0 (map declaration_of c.args.decls.now) c.loop-d.program.lines _ c.requires.declarations c.requires.words c.loop-d.invariant.4 }

pub loop-d-preserved : goal.loop-d-preserved
loop-d-preserved c =
    let xs = c.args.decls.now
    in let i = c.loop-d.d-index
    in let d = c.d-item.result
    in let rest = map declaration_of (drop (i + 1) xs)
    in let all = map declaration_of xs
    in let left : map declaration_of (drop i xs) ≡ declaration_of d ∷ rest = ap (map declaration_of) (next_of xs i d c.loop-d-test.true (sym c.d-item.is))
    in let here = subst (λ ds. AreLeft c.args.program.now all c.loop-d.base c.loop-d.line c.loop-d.program ds) left c.loop-d.invariant
    in let first = c.args.program.now
    in let base = c.loop-d.base
    in elim c.match-d.branch [
      | in-Table+in_ok-put w ↦
          let size : c.size_of.result ≡ w.in-Table.size = c.size_of.ensures ∙ ap (λ x. size_of (declaration_of x)) w.in-Table.is
          in let values : w.as_slice.result.now ≡ w.in-Table.words.items.items = w.as_slice.ensures
          in let put = w.in_ok-put.ensures
          in subst (λ n. AreLeft first all (base + 8 * n) c.match-d.line c.match-d.program rest) (sym size)
          (subst (λ l. AreLeft first all (base + 8 * w.in-Table.size) l c.match-d.program rest) (sym w.line-is)
          (subst (λ p. AreLeft first all (base + 8 * w.in-Table.size) w.put.new.self p rest) (sym w.program-is)
          (behind_table first all base c.loop-d.line w.put.new.self c.loop-d.program w.put.new.program w.in-Table.name w.in-Table.size w.as_slice.result.now rest put.lines put.others put.end
          (subst (λ ns. AreLeft first all base c.loop-d.line c.loop-d.program (table w.in-Table.name w.in-Table.size ns ∷ rest)) (sym values)
          (subst (λ x. AreLeft first all base c.loop-d.line c.loop-d.program (declaration_of x ∷ rest)) w.in-Table.is here)))))
      | in_default w ↦
          let size : c.size_of.result ≡ w.in_default.field-1 = c.size_of.ensures ∙ ap (λ x. size_of (declaration_of x)) w.in_default.is
          in subst (λ n. AreLeft first all (base + 8 * n) c.match-d.line c.match-d.program rest) (sym size)
          (subst (λ l. AreLeft first all (base + 8 * w.in_default.field-1) l c.match-d.program rest) (sym w.line-is)
          (subst (λ p. AreLeft first all (base + 8 * w.in_default.field-1) c.loop-d.line p rest) (sym w.program-is)
          (behind_array first all base c.loop-d.line c.loop-d.program w.in_default.field-0 w.in_default.field-1 rest
          (subst (λ x. AreLeft first all base c.loop-d.line c.loop-d.program (declaration_of x ∷ rest)) w.in_default.is here))))
    ]
