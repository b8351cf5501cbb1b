use Rattle.std.proofs.Common.{◌≡◌, ◌+◌, ◌*◌, ◌∷◌, ◌++◌, ◌≤◌, List, true, length}
use Rattle.kernel_text.specs.declared.senses.Wanted.{Wanted}
use Rattle.kernel_text.specs.declared.senses.Wanted.TheVariants as wanted
use Rattle.kernel_text.specs.Trees.{done}
use Rattle.kernel_text.specs.Grammar.{statements, are_statements}
use Rattle.kernel_text.specs.Views.{with_statements}
use Rattle.kernel_text.specs.Built.{tokens_in, continues}
use Rattle.kernel_text.proofs.statements.+statements.Given as goal

abbrev pub decreases-repeat : goal.decreases-repeat
decreases-repeat l = 3 * length l.tokens.now + 2

abbrev pub decreases-statement : goal.decreases-statement
decreases-statement l = 3 * length l.tokens.now

abbrev pub decreases-statements : goal.decreases-statements
decreases-statements l = 3 * length l.tokens.now + 1

abbrev pub invariant-statements-loop-alloc : goal.invariant-statements-loop-alloc
invariant-statements-loop-alloc l =
    record {
      spelled : tokens_in l.tokens ≡ statements (with_statements l.items.items done) ++ tokens_in l.rest;
      grammar : are_statements (with_statements l.items.items done) ≡ true;
      reads : (rest : List Wanted) → continues (tokens_in l.tokens) (wanted.Statements ∷ rest) ≡ continues (tokens_in l.rest) (wanted.Statements ∷ rest);
      shorter : length l.rest ≤ length l.tokens;
    }

abbrev pub decreases-statements-loop-alloc : goal.decreases-statements-loop-alloc
decreases-statements-loop-alloc l = length l.rest
