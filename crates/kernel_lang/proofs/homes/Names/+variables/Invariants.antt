use Rattle.std.proofs.Common.{◌≡◌, drop}
use Rattle.kernel_text.specs.Sound.{behind_statements}
use Rattle.kernel_text.specs.Trees.{done}
use Rattle.kernel_text.specs.Views.{with_statements}
use Rattle.kernel_lang.proofs.homes.Names.+variables.Given as goal

-- the statements that are left set what all do
abbrev pub invariant-set_all-loop-s : goal.invariant-set_all-loop-s
invariant-set_all-loop-s l =
    (l.self.homes ≡ l.initial.self.homes)
    × (behind_statements l.self.variables (with_statements (drop l.s-index l.statements) done) ≡ behind_statements l.initial.self.variables (with_statements l.statements done))
