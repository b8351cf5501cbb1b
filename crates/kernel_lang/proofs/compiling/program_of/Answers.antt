use Rattle.std.proofs.Common.{rules, ◌≡◌, [], map, sym, subst}
use Rattle.kernel_text.specs.Trees.{done}
use Rattle.kernel_text.specs.Views.{declaration_of, kernel_of, with_statements}
use Rattle.kernel_lang.specs.Emitted.{AreShallow}
use Rattle.kernel_lang.specs.Homes.{FitsRegisters, frame_of}
use Rattle.kernel_lang.specs.Lines.{HaveValues}
use Rattle.kernel_lang.proofs.Reaches.{fits_registers}
use Rattle.kernel_lang.proofs.Shallow.{shallow}
use Rattle.kernel_lang.proofs.TableValues.{have_values}
use Rattle.kernel_lang.proofs.compiling.program_of.Goals as goal

pub push_lines-requires-clause-values : goal.push_lines-requires-clause-values
push_lines-requires-clause-values c =
    subst (λ xs. HaveValues (map declaration_of xs)) (sym c.as_slice-3.ensures) (have_values (kernel_of c.args.tree.now) c.requires.grammar)

pub statements-requires-clause-shallow : goal.statements-requires-clause-shallow
statements-requires-clause-shallow c =
    let k = kernel_of c.args.tree.now
    in subst (λ xs. AreShallow (with_statements xs done)) (sym c.as_slice-5.ensures) (shallow k.declarations [] [] k.statements c.requires.sound.statements)

pub statements-requires-clause-names : goal.statements-requires-clause-names
statements-requires-clause-names c =
    let k = kernel_of c.args.tree.now
    in let named : c.set_all.new.self ≡ frame_of k = search rules
    in subst FitsRegisters (sym named) (fits_registers k c.requires.sound)
