use Rattle.std.proofs.Common.{◌≡◌, drop}
use Rattle.kernel_text.specs.Trees.{done}
use Rattle.kernel_text.specs.Views.{with_statements}
use Rattle.kernel_lang.specs.Code.{has_writers}
use Rattle.kernel_lang.proofs.statements.+writers.Given as goal

-- the statements that are left have writers where all do
abbrev pub invariant-has_writers-loop-s : goal.invariant-has_writers-loop-s
invariant-has_writers-loop-s l = has_writers (with_statements (drop l.s-index l.statements) done) ≡ has_writers (with_statements l.statements done)
