use Rattle.std.proofs.Common.{map, drop}
use Rattle.kernel_text.specs.Views.{declaration_of}
use Rattle.kernel_lang.proofs.LinesLeft.{AreLeft}
use Rattle.kernel_lang.proofs.declarations.push_lines.Given as goal

abbrev pub invariant-loop-d : goal.invariant-loop-d
invariant-loop-d l = AreLeft l.fn.program (map declaration_of l.decls) l.base l.line l.program (map declaration_of (drop l.d-index l.decls))
