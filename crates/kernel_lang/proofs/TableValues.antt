-- The tables of a kernel of the grammar have values.
use Rattle.std.proofs.Common.{◌≡◌, ℕ, ◌<◌, Bool, true, false, ◌&&◌, List, [], ◌∷◌, length, IsTrue, arith}
use Rattle.std.specs.List.{list_all}
use Rattle.std.proofs.lemmas.Bool.{and_parts}
use Rattle.kernel_text.specs.Grammar.{are_statements, has_numbers, is_declaration, is_free, is_kernel}
use Rattle.kernel_text.specs.Trees.{Declaration, Kernel, table, array}
use Rattle.kernel_lang.specs.Lines.{HaveValues}

some_number : (values : List ℕ) → has_numbers values ≡ true → 0 < length values
some_number [] h = absurd (cc h)
some_number (n ∷ values) h = omega arith

declared_values : (ds : List Declaration) → list_all is_declaration ds ≡ true → HaveValues ds
declared_values [] h = tt
declared_values (table name size values ∷ ds) h =
    let parts = and_parts (is_free name && has_numbers values) (list_all is_declaration ds) h
    in (some_number values (and_parts (is_free name) (has_numbers values) parts.0).1, declared_values ds parts.1)
declared_values (array name size ∷ ds) h = declared_values ds (and_parts (is_free name) (list_all is_declaration ds) h).1

pub have_values : (k : Kernel) → IsTrue (is_kernel k) → HaveValues k.declarations
have_values k grammar = declared_values k.declarations (and_parts (list_all is_declaration k.declarations) (are_statements k.statements) grammar).0
