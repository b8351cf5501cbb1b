use Rattle.std.proofs.Common.{◌≡◌, ◌+◌, ◌*◌, ◌≤◌, drop, length}
use Rattle.kernel_text.specs.Depth.{parts_of}
use Rattle.kernel_text.specs.Trees.{done}
use Rattle.kernel_text.specs.Views.{with_statement, with_statements}
use Rattle.kernel_lang.specs.Code.{code, waiting_behind}
use Rattle.kernel_lang.specs.Emitted.{AreShallow, with_code}
use Rattle.kernel_lang.proofs.emitter.Emitter.+statements.Given as goal

-- a statement has no more parts than those among which it stands, and the body of a loop has less than the loop
abbrev pub decreases-statements : goal.decreases-statements
decreases-statements l = 2 * parts_of (with_statements l.statements.now done) + 1

abbrev pub decreases-statement : goal.decreases-statement
decreases-statement l = 2 * parts_of (with_statement l.s.now done)

-- the statements that are left have the code that is left, and room for it
abbrev pub invariant-statements-loop-s : goal.invariant-statements-loop-s
invariant-statements-loop-s l =
    AreShallow (with_statements (drop l.s-index l.statements) done)
    × (parts_of (with_statements (drop l.s-index l.statements) done) ≤ parts_of (with_statements l.statements done))
    × (length l.self.program.instrs + 8 * parts_of (with_statements (drop l.s-index l.statements) done) ≤ length l.initial.self.program.instrs + 8 * parts_of (with_statements l.statements done))
    × (with_code l.self.program (code l.names l.self.waiting (length l.self.program.instrs) (with_statements (drop l.s-index l.statements) done)) ≡ with_code l.initial.self.program (code l.names l.initial.self.waiting (length l.initial.self.program.instrs) (with_statements l.statements done)))
    × (waiting_behind l.names l.self.waiting (with_statements (drop l.s-index l.statements) done) ≡ waiting_behind l.names l.initial.self.waiting (with_statements l.statements done))
