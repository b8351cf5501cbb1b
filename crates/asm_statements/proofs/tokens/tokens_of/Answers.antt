use Rattle.std.proofs.Common.{sym, ◌∙◌, ap, arith, rules, append_assoc, ◌++◌, map, ◌+◌, drop}
use Rattle.asm_statements.specs.Tokens.{tokens_from, front}
use Rattle.asm_statements.specs.Lexemes.{placed_of}
use Rattle.asm_statements.proofs.Steps.{tokens_step}
use Rattle.asm_statements.proofs.tokens.tokens_of.Goals as goal

-- the tokens that stand first go from the rest to the front
pub loop-rest-preserved : goal.loop-rest-preserved
loop-rest-preserved c =
    let column = c.loop-rest.column
    in let len = c.in_ok-len.len
    in let step = tokens_step column c.loop-rest.rest.now len (search (rules, c.loop-rest-test.ensures)) (search (rules, c.if-not-begins_comment.ensures, c.begins_comment.ensures)) c.in_ok-len.ensures.within.0 c.in_ok-len.ensures.len
    in record {
      whole =
          ap (λ bytes. map placed_of c.push_front.new.out.items ++ tokens_from 0 (column + len) bytes) c.split_at.ensures.back
          ∙ ap (λ ts. ts ++ tokens_from 0 (column + len) (drop len c.loop-rest.rest.now)) c.in_ok-len.ensures.tokens
          ∙ append_assoc (map placed_of c.loop-rest.out.items) (front column c.loop-rest.rest.now).tokens (tokens_from 0 (column + len) (drop len c.loop-rest.rest.now))
          ∙ ap (λ ts. map placed_of c.loop-rest.out.items ++ ts) (sym step)
          ∙ c.loop-rest.invariant.whole;
      columns = omega (arith, c.loop-rest.invariant.columns, c.in_ok-len.ensures.within);
    }
