use Rattle.std.proofs.Common.{◌≡◌, ◌∷◌, ◌++◌, ◌<◌, List, true, length}
use Rattle.kernel_text.specs.declared.senses.Wanted.{Wanted}
use Rattle.kernel_text.specs.declared.senses.Wanted.TheVariants as wanted
use Rattle.kernel_text.specs.Grammar.{numbers, has_numbers}
use Rattle.kernel_text.specs.Built.{tokens_in, continues}
use Rattle.kernel_text.proofs.declarations.numbers.Given as goal

abbrev pub invariant-loop-rest : goal.invariant-loop-rest
invariant-loop-rest l =
    record {
      spelled : tokens_in l.tokens ≡ numbers l.items.items ++ tokens_in l.rest;
      grammar : has_numbers l.items.items ≡ true;
      reads : (rest : List Wanted) → continues (tokens_in l.tokens) (wanted.Value ∷ wanted.MoreValues ∷ rest) ≡ continues (tokens_in l.rest) (wanted.MoreValues ∷ rest);
      shorter : length l.rest < length l.tokens;
    }

abbrev pub decreases-loop-rest : goal.decreases-loop-rest
decreases-loop-rest l = length l.rest
