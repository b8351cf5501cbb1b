use Rattle.std.proofs.Common.{◌≡◌, ◌∷◌, ◌++◌, List, true, length, map}
use Rattle.std.specs.Prelude.{flat_map}
use Rattle.std.specs.List.{list_all}
use Rattle.kernel_text.specs.declared.senses.Wanted.{Wanted}
use Rattle.kernel_text.specs.declared.senses.Wanted.TheVariants as wanted
use Rattle.kernel_text.specs.Grammar.{declaration, is_declaration}
use Rattle.kernel_text.specs.Views.{declaration_of}
use Rattle.kernel_text.specs.Built.{tokens_in, continues}
use Rattle.kernel_text.proofs.declarations.declarations.Given as goal

abbrev pub invariant-loop-alloc : goal.invariant-loop-alloc
invariant-loop-alloc l =
    record {
      spelled : tokens_in l.tokens ≡ flat_map declaration (map declaration_of l.items.items) ++ tokens_in l.rest;
      grammar : list_all is_declaration (map declaration_of l.items.items) ≡ true;
      reads : (rest : List Wanted) → continues (tokens_in l.tokens) (wanted.Declarations ∷ rest) ≡ continues (tokens_in l.rest) (wanted.Declarations ∷ rest);
    }

abbrev pub decreases-loop-alloc : goal.decreases-loop-alloc
decreases-loop-alloc l = length l.rest
