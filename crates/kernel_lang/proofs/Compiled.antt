-- The program of a sound kernel is what the compiler promises.
use Rattle.std.proofs.Common.{refl}
use Rattle.std.specs.Prelude.{IsTrue}
use Rattle.kernel_text.specs.Grammar.{is_kernel}
use Rattle.kernel_text.specs.Sound.{IsSound}
use Rattle.kernel_text.specs.Trees.{Kernel}
use Rattle.kernel_lang.specs.Programs.{IsCompiled, program_of}
use Rattle.kernel_lang.proofs.Layouts.{laid_out}
use Rattle.kernel_lang.proofs.Printable.{printable}

pub compiled : (k : Kernel) → IsTrue (is_kernel k) → IsSound k → IsCompiled k (program_of k)
compiled k grammar sound = record { program = refl; printable = printable k; layout = laid_out k sound }
