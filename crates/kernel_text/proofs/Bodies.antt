-- The body of a loop: its row of statements is their list.
use Rattle.std.proofs.Common.{◌≡◌, ℕ, true, ◌&&◌, List, [], ◌∷◌, ◌++◌, refl, sym, ap, ◌∙◌, append_assoc}
use Rattle.std.specs.Prelude.{codes}
use Rattle.std.specs.Str.{byte}
use Rattle.kernel_text.specs.declared.tree.Stmt.{Row_of-Stmt, end_of-Stmt, more_of-Stmt, items-the_row-Stmt, items_hidden-the_row-Stmt-0}
use Rattle.kernel_text.specs.declared.tree.Stmts.{Stmts}
use Rattle.kernel_text.specs.declared.tree.Stmt.TheBlock.{hidden-the_row-Stmt-0}
use Rattle.kernel_text.specs.Tokens.{Token, word, number, mark}
use Rattle.kernel_text.specs.Trees.{Statements, done}
use Rattle.kernel_text.specs.Grammar.{statements, are_statements, is_free}
use Rattle.kernel_text.specs.Views.{with_statement, with_statements, statements_of}

row_is : {m : _} (k : Row_of-Stmt m) → statements_of k ≡ with_statements (items-the_row-Stmt m k) done
row_is end_of-Stmt = refl
row_is (more_of-Stmt s rest) = ap (with_statement s) (row_is rest)

pub body_is : (body : Stmts) → statements_of (hidden-the_row-Stmt-0 body.items) ≡ with_statements body.items.items done
body_is body = row_is (hidden-the_row-Stmt-0 body.items) ∙ ap (λ xs. with_statements xs done) (items_hidden-the_row-Stmt-0 body.items)

pub loop_spelled : (name : List ℕ) (turns : ℕ) (whole behind count before inside end rest : List Token) (body : Statements) (others : Statements)
    → whole ≡ word name ∷ behind → behind ≡ mark (byte "<") ∷ count → count ≡ number turns ∷ before → before ≡ mark (byte "{") ∷ inside
    → inside ≡ statements others ++ end → end ≡ mark (byte "}") ∷ rest → body ≡ others
    → word (codes "for") ∷ whole ≡ (word (codes "for") ∷ word name ∷ mark (byte "<") ∷ number turns ∷ mark (byte "{") ∷ statements body ++ mark (byte "}") ∷ []) ++ rest
loop_spelled name turns whole behind count before inside end rest body others a b c d e f same =
    let last : inside ≡ statements body ++ (mark (byte "}") ∷ rest) = e ∙ ap (λ s. statements s ++ end) (sym same) ∙ ap (λ ts. statements body ++ ts) f
    in ap (λ ts. word (codes "for") ∷ ts)
    (a ∙ ap (λ ts. word name ∷ ts)
    (b ∙ ap (λ ts. mark (byte "<") ∷ ts)
    (c ∙ ap (λ ts. number turns ∷ ts)
    (d ∙ ap (λ ts. mark (byte "{") ∷ ts) (last ∙ sym (append_assoc (statements body) (mark (byte "}") ∷ []) rest))))))

pub loop_grammar : (name : List ℕ) (body others : Statements) → body ≡ others → is_free name ≡ true → are_statements others ≡ true → (is_free name && are_statements body && true) ≡ true
loop_grammar name body others same a b = rw same (rw (a, b) refl)
