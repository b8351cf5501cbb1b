-- What the faults of a machine file say.
use Rattle.std.specs.Prelude.{Option, Some, None}
use Rattle.machine_file.specs.declared.faults.MachineFault.{MachineFault}
use Rattle.machine_file.specs.declared.faults.MachineFault.TheVariants as fault
use Rattle.machine_file.specs.Machine.{MachineRefusal, BadToml, UnknownKey, MissingKey, NotInteger, OutOfLimits, NotPowerOfTwo, BadPolicy}

-- what a fault says of the file; want of memory says nothing of it
abbrev pub refusal_of : MachineFault → Option MachineRefusal
refusal_of fault.BadToml = Some BadToml
refusal_of (fault.UnknownKey k) = Some (UnknownKey k)
refusal_of (fault.MissingKey k) = Some (MissingKey k)
refusal_of (fault.NotInteger k) = Some (NotInteger k)
refusal_of (fault.OutOfLimits k) = Some (OutOfLimits k)
refusal_of (fault.NotPowerOfTwo k) = Some (NotPowerOfTwo k)
refusal_of fault.BadPolicy = Some BadPolicy
refusal_of fault.OutOfMemory = None
