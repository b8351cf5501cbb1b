use Rattle.std.proofs.Common.{Some, sym, ap, ◌∙◌}
use Rattle.kernel_text.specs.Lexemes.{placed_of}
use Rattle.kernel_text.specs.Senses.{next_token}
use Rattle.kernel_text.proofs.Steps.{step_fault, step_on}
use Rattle.kernel_text.proofs.reader.Reader.step.Goals as goal

pub returns-in-Some-kind_of_fault-clause-fault : goal.returns-in-Some-kind_of_fault-clause-fault
returns-in-Some-kind_of_fault-clause-fault c = λ other later.
    step_fault _ c.args.self.now c.read.new.self c.in-Ok.sense c.in-Some.sense (placed_of c.args.lexeme) (next_token c.args.next) later c.in-Some-kind_of_fault.kind
    c.self.view_is c.in-Ok.ensures c.in-Some.is (c.in-Some-kind_of_fault.ensures.value c.read.new.self)
    ∙ ap Some (sym c.fault-in-Some-kind_of_fault.ensures)

pub returns-clause-ok : goal.returns-clause-ok
returns-clause-ok c = λ later.
    step_on _ c.args.self.now c.learn.new.self c.read.new.self c.in-Ok.sense c.in-Some.sense (placed_of c.args.lexeme) (next_token c.args.next) later
    c.self.view_is c.in-Ok.ensures c.in-Some.is (sym c.in_default-kind_of_fault.is ∙ c.kind_of_fault.ensures.value c.read.new.self) c.in-Ok-learn.ensures
