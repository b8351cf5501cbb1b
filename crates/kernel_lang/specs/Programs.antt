-- The program of a kernel, and what the compiler promises of it.
use Rattle.std.specs.Prelude.{◌≡◌, false, List, ◌∷◌, ◌++◌, [], replicate, Some, None}
use Rattle.pei_types.specs.declared.instructions.Instr.{Instr}
use Rattle.pei_types.specs.declared.instructions.Instr.TheVariants as instr
use Rattle.pei_types.specs.Program.{Listing}
use Rattle.pei_asm.specs.Canonical.{IsPrintable}
use Rattle.kernel_text.specs.Trees.{Kernel}
use Rattle.kernel_lang.specs.Code.{code, fence_where, waiting_behind}
use Rattle.kernel_lang.specs.Homes.{frame_of}
use Rattle.kernel_lang.specs.Layout.{IsLaidOut, sums_from}
use Rattle.kernel_lang.specs.Lines.{lines_from}

-- the kernel's statements, and its end, before which all writers have acted
abbrev pub instrs_of : Kernel → List Instr
instrs_of k = code (frame_of k) false 0 k.statements ++ fence_where (waiting_behind (frame_of k) false k.statements) ++ instr.Halt ∷ []

abbrev pub program_of : Kernel → Listing
program_of k =
    record {
      instrs = instrs_of k;
      lines = lines_from 0 k.declarations;
      asks = sums_from 0 k.declarations;
      own_entries = Some 0 ∷ replicate 7 None;
      common_entry = None;
      statistics = false;
    }

-- What the compiler promises of a program.
pub record IsCompiled (k : Kernel) (p : Listing) : Type 0 where
  pub program : p ≡ program_of k
  pub printable : IsPrintable p
  pub layout : IsLaidOut k p
