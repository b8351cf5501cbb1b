use Rattle.std.proofs.Common.{sym, subst}
use Rattle.kernel_text.specs.Views.{kernel_of}
use Rattle.kernel_lang.specs.Programs.{IsCompiled}
use Rattle.kernel_lang.proofs.Compiled.{compiled}
use Rattle.kernel_lang.proofs.compiling.compile.Goals as goal

pub returns-in-Ok-clause-program : goal.returns-in-Ok-clause-program
returns-in-Ok-clause-program c =
    let k = kernel_of c.in_ok-tree.tree
    in let spells = c.in_ok-tree.ensures.ok
    in let sound = c.in_ok-tree.ensures.sound
    in (k, spells, sound, subst (IsCompiled k) (sym c.in-Ok.ensures) (compiled k spells.grammar sound))
