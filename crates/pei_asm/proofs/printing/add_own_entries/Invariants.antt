use Rattle.std.proofs.Common.{◌≡◌, ◌++◌, drop, string_bytes}
use Rattle.pei_asm.specs.Canonical.{own_entry_lines}
use Rattle.pei_asm.proofs.printing.add_own_entries.Given as goal

abbrev pub invariant-loop-core : goal.invariant-loop-core
invariant-loop-core l = string_bytes l.text ++ own_entry_lines l.core (drop l.core l.program.own_entries) ≡ string_bytes l.fn.text ++ own_entry_lines 0 l.program.own_entries
