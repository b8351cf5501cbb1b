use Rattle.std.proofs.Common.{rules, sym, ap, ◌∙◌, ◌++◌, ◌∷◌, [], map}
use Rattle.std.proofs.lemmas.List.{map-append}
use Rattle.std.specs.Prelude.{option_map}
use Rattle.asm_statements.specs.Lexemes.{placed_of}
use Rattle.asm_statements.specs.Statements.{separated}
use Rattle.asm_statements.proofs.Separated.{more_operands, separated_more, more_step}
use Rattle.asm_statements.proofs.operands.separated.Goals as goal

pub loop-between-init : goal.loop-between-init
loop-between-init c =
    ap (λ xs. option_map (λ more. map placed_of xs ++ more) (more_operands (map placed_of c.in-Some.after.now)))
    (c.in_ok-push.ensures ∙ ap (λ e. e ++ c.in-Some.first.now ∷ []) c.new-operands.ensures.items)
    ∙ sym (ap (λ ts. separated (map placed_of ts)) c.in-Some.ensures.cases.0 ∙ separated_more (placed_of c.in-Some.first.now) (map placed_of c.in-Some.after.now))

pub loop-between-preserved : goal.loop-between-preserved
loop-between-preserved c =
    let first = c.in-Some-split_first
    in let second = c.in-Some-split_first-2
    in ap (λ xs. option_map (λ more. xs ++ more) (more_operands (map placed_of second.more.now)))
    (ap (map placed_of) c.in_ok-push-2.ensures ∙ map-append placed_of c.loop-between.operands.items (second.operand.now ∷ []))
    ∙ sym (more_step (map placed_of c.loop-between.operands.items) (placed_of first.between.now) (placed_of second.operand.now) (map placed_of second.more.now) (search (rules, c.if-not-is_comma.false, c.is_comma.ensures)))
    ∙ ap (λ ts. option_map (λ more. map placed_of c.loop-between.operands.items ++ more) (more_operands (map placed_of ts)))
    (sym (first.ensures.cases.0 ∙ ap (λ more. first.between.now ∷ more) second.ensures.cases.0))
    ∙ c.loop-between.invariant
