use Rattle.std.proofs.Common.{arith, ◌≡◌, ◌∷◌, ◌+◌, suc, drop, map, sym, ap, ◌∙◌}
use Rattle.std.proofs.Math.Seq.{drop-cons}
use Rattle.pei_asm.specs.Faults.{unknown_label}
use Rattle.pei_asm.specs.Sources.{line_of}
use Rattle.pei_asm.specs.Stored.{stored}
use Rattle.pei_asm.proofs.UnknownUses.{unknown_here, unknown_later}
use Rattle.pei_asm.proofs.unknown.unknown_label.Goals as goal

pub returns-in-Some-clause-first : goal.returns-in-Some-clause-first
returns-in-Some-clause-first c =
    let lines = c.as_slice-line-items.result.now
    in let i = c.loop-line.line-index
    in let line = c.line-item.result
    in let left : drop i lines ≡ line ∷ drop (suc i) lines = drop-cons lines i line c.loop-line-test.true ∙ ap (λ l. l ∷ drop (suc i) lines) (sym c.line-item.is)
    in sym (sym c.loop-line.invariant.left ∙ ap (λ ls. unknown_label (stored c.args.lines.now) (c.loop-line.number + 1) (map line_of ls)) left
    ∙ unknown_here (stored c.args.lines.now) (c.loop-line.number + 1) (line_of line) (map line_of (drop (suc i) lines)) c.in-Some.column (sym c.undefined_on.ensures ∙ c.in-Some.is))

pub loop-line-preserved : goal.loop-line-preserved
loop-line-preserved c =
    let lines = c.as_slice-line-items.result.now
    in let i = c.loop-line.line-index
    in let line = c.line-item.result
    in let left : drop i lines ≡ line ∷ drop (suc i) lines = drop-cons lines i line c.loop-line-test.true ∙ ap (λ l. l ∷ drop (suc i) lines) (sym c.line-item.is)
    in let next : i + 1 ≡ suc i = omega arith
    in record {
      counted = omega (arith, c.loop-line.invariant.counted);
      left =
          ap (λ k. unknown_label (stored c.args.lines.now) (c.loop-line.number + 1 + 1) (map line_of (drop k lines))) next
          ∙ sym (unknown_later (stored c.args.lines.now) (c.loop-line.number + 1) (line_of line) (map line_of (drop (suc i) lines)) (sym c.undefined_on.ensures ∙ c.in_default.is))
          ∙ ap (λ ls. unknown_label (stored c.args.lines.now) (c.loop-line.number + 1) (map line_of ls)) (sym left) ∙ c.loop-line.invariant.left;
    }
