-- Laws of machine files.
use Rattle.std.specs.Prelude.{◌≡◌, None, List, ℕ}
use Rattle.toml.specs.Data.{Members}
use Rattle.machine_file.specs.Machine.{Describes, DescribesOf, HaveTheSame, IsWithinLimits, file_fault, table_fault, table_of}
use Rattle.pei_types.specs.declared.machines.MachineSpec.{MachineSpec}

pub record DescribeOrFail : Type 0 where
  -- every machine is within the limits of the table of keys
  pub limits : (m : MachineSpec) → IsWithinLimits m
  -- a table that describes a machine has no fault
  pub never_both : (table : Members) (m : MachineSpec) → Describes table m → table_fault table ≡ None
  -- nor has a file
  pub never_both_of_files : (bytes : List ℕ) (m : MachineSpec) → DescribesOf (table_of bytes) m → file_fault bytes ≡ None
  -- a table describes one machine alone
  pub one_machine : (table : Members) (m n : MachineSpec) → Describes table m → Describes table n → HaveTheSame m n
