use Rattle.std.proofs.Common.{arith, ◌≡◌, List, [], ◌∷◌, length, None, Some, map, option_map, refl, sym, ap, ◌∙◌}
use Rattle.asm_statements.specs.declared.tokens.Lexeme.{Lexeme}
use Rattle.asm_statements.specs.Lexemes.{placed_of}
use Rattle.pei_asm.specs.Sources.{line_of}
use Rattle.asm_statements.specs.Sources.{statement_of}
use Rattle.asm_statements.specs.Statements.{body_of, label_of, statement_in}
use Rattle.pei_asm.specs.Stored.{stored}
use Rattle.pei_asm.proofs.LineTrials.{fault_behind, fault_in_front, label_is_new, label_meant, nothing_stands, operands_fail, statement_fits, statement_meant, statement_stands, there_is_room}
use Rattle.pei_asm.proofs.verdicts.read_line.Goals as goal

pub returns-in-Some-clause-fault : goal.returns-in-Some-clause-fault
returns-in-Some-clause-fault c =
    λ _. fault_in_front (stored c.args.earlier.now) c.args.number c.args.line.now (map placed_of c.as_slice.result.now) c.in-Some.fault
    (ap (map placed_of) c.as_slice.ensures.value ∙ c.in-Ok.ensures) (sym c.in-Some.is ∙ c.fault_of_front.ensures.first)

nil_of : (ts : List Lexeme) → length ts ≡ 0 → ts ≡ []
nil_of [] h = refl
nil_of (t ∷ ts) h = absurd (omega (arith, h))

pub returns-in_default-split_first-clause-none : goal.returns-in_default-split_first-clause-none
returns-in_default-split_first-clause-none c =
    fault_behind (stored c.args.earlier.now) c.args.number c.args.line.now (map placed_of c.in-Ok.tokens.items) (map placed_of c.as_slice.result.now) (map placed_of c.as_slice-3.result.now) [] None
    c.in-Ok.ensures (ap (map placed_of) c.as_slice.ensures.value) (sym c.in_default-fault_of_front.is ∙ c.fault_of_front.ensures.first) (ap (map placed_of) c.as_slice-3.ensures.value) (sym (ap (map placed_of) (nil_of c.body_of-body.result.now c.in_default-split_first.ensures.cases)) ∙ c.body_of-body.ensures) refl
    ∙ nothing_stands (stored c.args.earlier.now) c.args.number

pub returns-in_default-split_first-clause-means : goal.returns-in_default-split_first-clause-means
returns-in_default-split_first-clause-means c =
    label_meant (stored c.args.earlier.now) c.args.number c.args.line.now (map placed_of c.in-Ok.tokens.items) c.in-Ok.ensures
    (ap (λ ts. body_of (map placed_of ts)) (sym c.as_slice-3.ensures.value) ∙ sym (sym (ap (map placed_of) (nil_of c.body_of-body.result.now c.in_default-split_first.ensures.cases)) ∙ c.body_of-body.ensures))
    (returns-in_default-split_first-clause-none c)
    ∙ ap (λ o. Some (record { label = o; statement = None })) (ap (λ ts. label_of (map placed_of ts)) (sym c.as_slice-2.ensures.value) ∙ sym c.label_of-label.ensures)

pub returns-in_default-split_first-clause-label : goal.returns-in_default-split_first-clause-label
returns-in_default-split_first-clause-label c =
    label_is_new (stored c.args.earlier.now) c.args.number c.args.line.now (line_of (record { label = c.label_of-label.result; statement = None })) (returns-in_default-split_first-clause-none c) (returns-in_default-split_first-clause-means c)

pub returns-in_default-statement-clause-fault : goal.returns-in_default-statement-clause-fault
returns-in_default-statement-clause-fault c =
    λ _. fault_behind (stored c.args.earlier.now) c.args.number c.args.line.now (map placed_of c.in-Ok.tokens.items) (map placed_of c.as_slice.result.now) (map placed_of c.as_slice-3.result.now) (placed_of c.in-Some-split_first.head.now ∷ map placed_of c.in-Some-split_first.field-0-1.now) None
    c.in-Ok.ensures (ap (map placed_of) c.as_slice.ensures.value) (sym c.in_default-fault_of_front.is ∙ c.fault_of_front.ensures.first) (ap (map placed_of) c.as_slice-3.ensures.value) (sym (ap (map placed_of) c.in-Some-split_first.ensures.cases.0) ∙ c.body_of-body.ensures) (ap (option_map statement_of) (sym c.in_default-statement.is) ∙ c.in-Ok-statement_in.ensures ∙ ap (λ ts. statement_in (map placed_of ts)) c.in-Some-split_first.ensures.cases.0)
    ∙ operands_fail (stored c.args.earlier.now) c.args.number (placed_of c.in-Some-split_first.head.now) (map placed_of c.in-Some-split_first.field-0-1.now)

pub fault_of_statement-requires-clause-fits : goal.fault_of_statement-requires-clause-fits
fault_of_statement-requires-clause-fits c =
    statement_fits (map placed_of c.body_of-body.result.now) (statement_of c.in-Some-statement.statement) (sym (ap (option_map statement_of) (sym c.in-Some-statement.is) ∙ c.in-Ok-statement_in.ensures))

pub returns-in-Some-fault_of_statement-clause-fault : goal.returns-in-Some-fault_of_statement-clause-fault
returns-in-Some-fault_of_statement-clause-fault c =
    λ _. fault_behind (stored c.args.earlier.now) c.args.number c.args.line.now (map placed_of c.in-Ok.tokens.items) (map placed_of c.as_slice.result.now) (map placed_of c.as_slice-3.result.now) (placed_of c.in-Some-split_first.head.now ∷ map placed_of c.in-Some-split_first.field-0-1.now) (Some (statement_of c.in-Some-statement.statement))
    c.in-Ok.ensures (ap (map placed_of) c.as_slice.ensures.value) (sym c.in_default-fault_of_front.is ∙ c.fault_of_front.ensures.first) (ap (map placed_of) c.as_slice-3.ensures.value) (sym (ap (map placed_of) c.in-Some-split_first.ensures.cases.0) ∙ c.body_of-body.ensures) (ap (option_map statement_of) (sym c.in-Some-statement.is) ∙ c.in-Ok-statement_in.ensures ∙ ap (λ ts. statement_in (map placed_of ts)) c.in-Some-split_first.ensures.cases.0)
    ∙ statement_stands (stored c.args.earlier.now) c.args.number (placed_of c.in-Some-split_first.head.now) (map placed_of c.in-Some-split_first.field-0-1.now) (statement_of c.in-Some-statement.statement)
    ∙ sym c.fault_of_statement.ensures.first
    ∙ c.in-Some-fault_of_statement.is

pub returns-clause-none : goal.returns-clause-none
returns-clause-none c =
    fault_behind (stored c.args.earlier.now) c.args.number c.args.line.now (map placed_of c.in-Ok.tokens.items) (map placed_of c.as_slice.result.now) (map placed_of c.as_slice-3.result.now) (placed_of c.in-Some-split_first.head.now ∷ map placed_of c.in-Some-split_first.field-0-1.now) (Some (statement_of c.in-Some-statement.statement))
    c.in-Ok.ensures (ap (map placed_of) c.as_slice.ensures.value) (sym c.in_default-fault_of_front.is ∙ c.fault_of_front.ensures.first) (ap (map placed_of) c.as_slice-3.ensures.value) (sym (ap (map placed_of) c.in-Some-split_first.ensures.cases.0) ∙ c.body_of-body.ensures) (ap (option_map statement_of) (sym c.in-Some-statement.is) ∙ c.in-Ok-statement_in.ensures ∙ ap (λ ts. statement_in (map placed_of ts)) c.in-Some-split_first.ensures.cases.0)
    ∙ statement_stands (stored c.args.earlier.now) c.args.number (placed_of c.in-Some-split_first.head.now) (map placed_of c.in-Some-split_first.field-0-1.now) (statement_of c.in-Some-statement.statement)
    ∙ sym c.fault_of_statement.ensures.first
    ∙ c.in_default-fault_of_statement.is

pub returns-clause-means : goal.returns-clause-means
returns-clause-means c =
    (statement_meant (stored c.args.earlier.now) c.args.number c.args.line.now (map placed_of c.in-Ok.tokens.items) (map placed_of c.body_of-body.result.now) (statement_of c.in-Some-statement.statement) c.in-Ok.ensures
    (c.body_of-body.ensures ∙ ap (λ ts. body_of (map placed_of ts)) c.as_slice-3.ensures.value)
    (ap (option_map statement_of) (sym c.in-Some-statement.is) ∙ c.in-Ok-statement_in.ensures) (returns-clause-none c)).1
    ∙ ap (λ o. Some (record { label = o; statement = Some (statement_of c.in-Some-statement.statement) })) (ap (λ ts. label_of (map placed_of ts)) (sym c.as_slice-2.ensures.value) ∙ sym c.label_of-label.ensures)

pub returns-clause-label : goal.returns-clause-label
returns-clause-label c = label_is_new (stored c.args.earlier.now) c.args.number c.args.line.now (line_of (record { label = c.label_of-label.result; statement = Some c.in-Some-statement.statement })) (returns-clause-none c) (returns-clause-means c)

pub returns-clause-room : goal.returns-clause-room
returns-clause-room c = there_is_room (stored c.args.earlier.now) c.args.number c.args.line.now (line_of (record { label = c.label_of-label.result; statement = Some c.in-Some-statement.statement })) (returns-clause-none c) (returns-clause-means c)

pub returns-clause-well_formed : goal.returns-clause-well_formed
returns-clause-well_formed c =
    record {
      fits = statement_fits (map placed_of c.body_of-body.result.now) (statement_of c.in-Some-statement.statement) (sym (ap (option_map statement_of) (sym c.in-Some-statement.is) ∙ c.in-Ok-statement_in.ensures));
      in_range = (statement_meant (stored c.args.earlier.now) c.args.number c.args.line.now (map placed_of c.in-Ok.tokens.items) (map placed_of c.body_of-body.result.now) (statement_of c.in-Some-statement.statement) c.in-Ok.ensures
          (c.body_of-body.ensures ∙ ap (λ ts. body_of (map placed_of ts)) c.as_slice-3.ensures.value)
          (ap (option_map statement_of) (sym c.in-Some-statement.is) ∙ c.in-Ok-statement_in.ensures) (returns-clause-none c)).0;
    }
