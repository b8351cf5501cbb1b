-- Faults of loading.
use Rattle.std.specs.Prelude.{◌≡◌, ⊤, Option, Some}
use Rattle.pei_types.specs.declared.machines.MachineSpec.{MachineSpec}
use Rattle.pei_types.specs.Image.{LoadRefusal, Misaligned, OutOfRange, Overlap, ShowOutOfRange, NoEntry, load_refusal}
use Rattle.pei_types.specs.Program.{Listing}
use Rattle.pei_loader.specs.declared.faults.LoadFault.{LoadFault}
use Rattle.pei_loader.specs.declared.faults.LoadFault.TheVariants as fault

-- The fault is this refusal. Want of memory is free.
abbrev pub IsFaultOf : LoadFault → Option LoadRefusal → Type 0
IsFaultOf (fault.DataMisaligned addr) refusal = refusal ≡ Some (Misaligned addr)
IsFaultOf (fault.DataOutOfRange addr) refusal = refusal ≡ Some (OutOfRange addr)
IsFaultOf (fault.DataOverlap addr) refusal = refusal ≡ Some (Overlap addr)
IsFaultOf (fault.ShowOutOfRange addr) refusal = refusal ≡ Some (ShowOutOfRange addr)
IsFaultOf (fault.NoEntry core) refusal = refusal ≡ Some (NoEntry core)
IsFaultOf fault.OutOfMemory refusal = ⊤

-- The fault is the first of loading this program for this machine.
abbrev pub IsLoadRefusal : Listing → MachineSpec → LoadFault → Type 0
IsLoadRefusal p m f = IsFaultOf f (load_refusal p m)
