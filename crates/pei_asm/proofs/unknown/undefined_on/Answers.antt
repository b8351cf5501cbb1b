use Rattle.std.proofs.Common.{map, not, sym, ap, ◌∙◌}
use Rattle.std.specs.Prelude.{find, option_map}
use Rattle.asm_statements.specs.Lexemes.{placed_of}
use Rattle.asm_statements.specs.Sources.{statement_of}
use Rattle.pei_asm.specs.Meaning.{is_defined, labels_of_statement}
use Rattle.pei_asm.specs.Stored.{stored}
use Rattle.pei_asm.specs.Unknown.{is_undefined}
use Rattle.pei_asm.proofs.UnknownUses.{find_filtered}
use Rattle.pei_asm.proofs.unknown.undefined_on.Goals as goal

pub returns-in-Some : goal.returns-in-Some
returns-in-Some c =
    let all = stored c.args.lines.now
    in let operands = c.in-Some.statement.operands.items
    in c.first_undefined.ensures ∙ ap (λ xs. option_map (λ t. t.column) (find (is_undefined all) (map placed_of xs))) c.as_slice.ensures.value
    ∙ sym (ap (option_map (λ t. t.column)) (ap (λ o. find (λ t. not (is_defined all t)) (labels_of_statement (option_map statement_of o))) c.in-Some.is ∙ find_filtered all (map placed_of operands)))
