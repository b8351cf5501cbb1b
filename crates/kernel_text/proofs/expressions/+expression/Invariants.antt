use Rattle.std.proofs.Common.{◌≡◌, ◌+◌, ◌*◌, ◌∷◌, ◌++◌, ◌<◌, ℕ, List, true, length}
use Rattle.kernel_text.specs.declared.senses.Wanted.{Wanted}
use Rattle.kernel_text.specs.declared.senses.Wanted.TheVariants as wanted
use Rattle.kernel_text.specs.Grammar.{expression, is_expression}
use Rattle.kernel_text.specs.Views.{expression_of}
use Rattle.kernel_text.specs.Built.{tokens_in, continues}
use Rattle.kernel_text.proofs.expressions.+expression.Given as goal

abbrev pub decreases-term : goal.decreases-term
decreases-term l = 2 * length l.tokens.now

abbrev pub decreases-expression : goal.decreases-expression
decreases-expression l = 2 * length l.tokens.now + 1

abbrev pub invariant-expression-loop-op : goal.invariant-expression-loop-op
invariant-expression-loop-op l =
    record {
      spelled : tokens_in l.tokens ≡ expression (expression_of l.left) ++ tokens_in l.rest;
      grammar : is_expression (expression_of l.left) ≡ true;
      reads : (room : ℕ) (rest : List Wanted)
          → continues (tokens_in l.tokens) (wanted.Term room ∷ wanted.MoreTerms room ∷ rest) ≡ continues (tokens_in l.rest) (wanted.MoreTerms room ∷ rest);
      shorter : length l.rest < length l.tokens;
    }

abbrev pub decreases-expression-loop-op : goal.decreases-expression-loop-op
decreases-expression-loop-op l = length l.rest
