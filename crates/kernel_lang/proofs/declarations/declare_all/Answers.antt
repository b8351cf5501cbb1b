use Rattle.std.proofs.Common.{rules, ◌≡◌, ◌+◌, ◌∷◌, ◌++◌, List, ℕ, map, drop, sym, ap, ◌∙◌, subst}
use Rattle.kernel_text.specs.Sound.{AreDistinctNames, names_in}
use Rattle.kernel_text.specs.Trees.{name_of}
use Rattle.kernel_text.specs.Views.{declaration_of}
use Rattle.kernel_lang.proofs.DistinctNames.{undeclared}
use Rattle.kernel_lang.proofs.Sequences.{next_of}
use Rattle.kernel_lang.proofs.declarations.declare_all.Goals as goal

pub declare-requires : goal.declare-requires
declare-requires c =
    let xs = c.args.decls.now
    in let i = c.loop-d.d-index
    in let d = c.d-item.result
    in let homes = c.loop-d.names.homes
    in let left : drop i xs ≡ d ∷ drop (i + 1) xs = next_of xs i d c.loop-d-test.true (sym c.d-item.is)
    in let named : name_of (declaration_of d) ≡ c.as_bytes.result.now = search rules
    in let names : names_in (map declaration_of xs) ≡ map (λ e. e.0) homes ++ c.as_bytes.result.now ∷ names_in (map declaration_of (drop (i + 1) xs)) =
    sym c.loop-d.invariant.1
    ∙ ap (λ ys. map (λ e. e.0) homes ++ names_in (map declaration_of ys)) left
    ∙ ap (λ (x : List ℕ). map (λ e. e.0) homes ++ x ∷ names_in (map declaration_of (drop (i + 1) xs))) named
    in record { new = undeclared homes c.as_bytes.result.now (names_in (map declaration_of (drop (i + 1) xs))) (subst AreDistinctNames names c.requires.distinct) }
