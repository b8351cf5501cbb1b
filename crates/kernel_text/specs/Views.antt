-- The tree that a value of the code's types stands for.
use Rattle.std.specs.Prelude.{List, [], ◌∷◌, map}
use Rattle.kernel_text.specs.declared.tree.Decl.{Decl}
use Rattle.kernel_text.specs.declared.tree.Decl.TheVariants as decl
use Rattle.kernel_text.specs.declared.tree.Expr.{Expr}
use Rattle.kernel_text.specs.declared.tree.Expr.TheVariants as expr
use Rattle.kernel_text.specs.declared.tree.Stmt.{Stmt, Row_of-Stmt, end_of-Stmt, more_of-Stmt}
use Rattle.kernel_text.specs.declared.tree.Stmt.TheVariants as stmt
use Rattle.kernel_text.specs.declared.tree.KernelTree.{KernelTree}
use Rattle.kernel_text.specs.Trees.{Declaration, Expression, Action, Statements, Kernel}
use Rattle.kernel_text.specs.Trees as tree

abbrev pub declaration_of : Decl → Declaration
declaration_of (decl.Table name size words) = tree.table name size words.items.items
declaration_of (decl.Array name size) = tree.array name size

abbrev pub expression_of : Expr → Expression
expression_of (expr.Num value) = tree.num value
expression_of (expr.Name name) = tree.named name
expression_of (expr.Item' name p index) = tree.item name (expression_of index)
expression_of (expr.Group' p inner) = tree.group (expression_of inner)
expression_of (expr.Binary' op p left q right) = tree.binary op (expression_of left) (expression_of right)

abbrev mutual
  -- a statement with those behind it
  pub with_statement : Stmt → Statements → Statements
  with_statement (stmt.Assign name value) rest = tree.act (tree.assign name (expression_of value)) rest
  with_statement (stmt.Store name index value) rest = tree.act (tree.store name (expression_of index) (expression_of value)) rest
  with_statement (stmt.Print value) rest = tree.act (tree.print (expression_of value)) rest
  with_statement (stmt.Inc name index) rest = tree.act (tree.increment name (expression_of index)) rest
  with_statement (stmt.Min name index value) rest = tree.act (tree.minimum name (expression_of index) (expression_of value)) rest
  with_statement (stmt.Probe first second name index key) rest = tree.act (tree.probe first second name (expression_of index) (expression_of key)) rest
  with_statement (stmt.Hist first second name index shift) rest = tree.act (tree.hist first second name (expression_of index) shift) rest
  with_statement (stmt.Dot first name index a b c d) rest = tree.act (tree.dot first name (expression_of index) a b c d) rest
  with_statement (stmt.Repeat' name turns shape body) rest = tree.repeat name turns (statements_of body) rest

  pub statements_of : {m : _} → Row_of-Stmt m → Statements
  statements_of end_of-Stmt = tree.done
  statements_of (more_of-Stmt s rest) = with_statement s (statements_of rest)

-- statements with those behind them
abbrev pub with_statements : List Stmt → Statements → Statements
with_statements [] after = after
with_statements (s ∷ rest) after = with_statement s (with_statements rest after)

-- a kernel, as its declarations and its statements
abbrev pub kernel_of : KernelTree → Kernel
kernel_of k = record { declarations = map declaration_of k.decls.items.items; statements = with_statements k.stmts.items.items tree.done }
