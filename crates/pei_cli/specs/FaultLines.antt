-- What a refused command ends with: a status, and a line.
use Rattle.std.specs.Prelude.{ℕ, List, [], ◌∷◌, ◌++◌, Option, Some, None, codes, decimal}
use Rattle.pei_asm.specs.declared.faults.AsmFault.{AsmFault}
use Rattle.pei_asm.specs.declared.faults.AsmKind.{AsmKind}
use Rattle.pei_asm.specs.declared.faults.AsmKind.TheVariants as kind
use Rattle.kernel_text.specs.declared.faults.KernelFault.{KernelFault}
use Rattle.kernel_text.specs.declared.faults.KernelKind.{KernelKind}
use Rattle.kernel_text.specs.declared.faults.KernelKind.TheVariants as kernel
use Rattle.pei_io.specs.declared.files.Which.{Which}
use Rattle.pei_io.specs.declared.files.Which.TheVariants as which
use Rattle.pei_loader.specs.declared.faults.LoadFault.{LoadFault}
use Rattle.pei_loader.specs.declared.faults.LoadFault.TheVariants as load
use Rattle.machine_file.specs.Keys.{row_of}
use Rattle.machine_file.specs.declared.faults.MachineFault.{MachineFault}
use Rattle.machine_file.specs.declared.faults.MachineFault.TheVariants as machine
use Rattle.pei_types.specs.Texts.{line}
use Rattle.pei_cli.specs.declared.faults.Fault.{Fault}
use Rattle.pei_cli.specs.declared.faults.Fault.TheVariants as fault

-- the fault of a command whose program was not loaded: want of memory is told as such
abbrev pub fault_of_loading : LoadFault → Fault
fault_of_loading load.OutOfMemory = fault.OutOfMemory
fault_of_loading f = fault.LoadBad f

-- the fault of a command whose program's text has a fault: want of memory is told as such
abbrev pub fault_of_kind : AsmKind → AsmFault → Fault
fault_of_kind kind.OutOfMemory f = fault.OutOfMemory
fault_of_kind _ f = fault.ProgramBad f

abbrev pub fault_of_text : AsmFault → Fault
fault_of_text f = fault_of_kind f.kind f

-- the fault of a command whose kernel's text has a fault: want of memory is told as such
abbrev pub fault_of_kernel_kind : KernelKind → KernelFault → Fault
fault_of_kernel_kind kernel.OutOfMemory f = fault.OutOfMemory
fault_of_kernel_kind _ f = fault.KernelBad f

abbrev pub fault_of_kernel : KernelFault → Fault
fault_of_kernel f = fault_of_kernel_kind f.kind f

-- the fault of a command whose machine's file has a fault: want of memory is told as such
abbrev pub fault_of_machine : MachineFault → Fault
fault_of_machine machine.OutOfMemory = fault.OutOfMemory
fault_of_machine f = fault.MachineBad f

abbrev pub status_of_fault : Fault → ℕ
status_of_fault fault.Usage = 2
status_of_fault (fault.ProgramBad f) = 3
status_of_fault (fault.LoadBad f) = 3
status_of_fault (fault.MachineBad f) = 4
status_of_fault (fault.TraceBad line) = 11
status_of_fault (fault.InputTooLong w) = 13
status_of_fault (fault.ReadFault w) = 8
status_of_fault (fault.KernelBad f) = 15
status_of_fault fault.WriteFault = 9
status_of_fault fault.OutOfMemory = 10

abbrev pub asm_word : AsmKind → List ℕ
asm_word kind.NotUtf8 = codes "NotUtf8"
asm_word kind.BadChar = codes "BadChar"
asm_word kind.DoubleLabel = codes "DoubleLabel"
asm_word kind.UnknownName = codes "UnknownName"
asm_word kind.WrongOperands = codes "WrongOperands"
asm_word kind.NumberTooLarge = codes "NumberTooLarge"
asm_word kind.RegisterRange = codes "RegisterRange"
asm_word kind.TooManyInstructions = codes "TooManyInstructions"
asm_word kind.DoubleEntry = codes "DoubleEntry"
asm_word kind.UnknownLabel = codes "UnknownLabel"
asm_word kind.OutOfMemory = codes "OutOfMemory"

abbrev pub kernel_word : KernelKind → List ℕ
kernel_word kernel.BadChar = codes "BadChar"
kernel_word kernel.NumberTooLarge = codes "NumberTooLarge"
kernel_word kernel.Syntax = codes "Syntax"
kernel_word kernel.TooNested = codes "TooNested"
kernel_word kernel.DoubleName = codes "DoubleName"
kernel_word kernel.Unknown = codes "Unknown"
kernel_word kernel.WrongKind = codes "WrongKind"
kernel_word kernel.LoopVariable = codes "LoopVariable"
kernel_word kernel.TooManyVariables = codes "TooManyVariables"
kernel_word kernel.BadSize = codes "BadSize"
kernel_word kernel.TooManyValues = codes "TooManyValues"
kernel_word kernel.TooManyWords = codes "TooManyWords"
kernel_word kernel.TooDeep = codes "TooDeep"
kernel_word kernel.TooLong = codes "TooLong"
kernel_word kernel.OutOfMemory = codes "OutOfMemory"

abbrev pub which_word : Which → List ℕ
which_word which.Program = codes "program"
which_word which.Machine = codes "machine"
which_word which.Trace = codes "trace"
which_word which.Kernel = codes "kernel"

-- a kind of fault of loading, with an address or a core
abbrev pub load_line : List ℕ → ℕ → List ℕ
load_line kind number = line (codes "load" ∷ codes "bad" ∷ kind ∷ decimal number ∷ [])

abbrev pub load_fault_line : LoadFault → List ℕ
load_fault_line (load.DataMisaligned addr) = load_line (codes "DataMisaligned") addr
load_fault_line (load.DataOutOfRange addr) = load_line (codes "DataOutOfRange") addr
load_fault_line (load.DataOverlap addr) = load_line (codes "DataOverlap") addr
load_fault_line (load.ShowOutOfRange addr) = load_line (codes "ShowOutOfRange") addr
load_fault_line (load.NoEntry core) = load_line (codes "NoEntry") core
load_fault_line load.OutOfMemory = codes "load bad OutOfMemory\n"

abbrev pub machine_kind : MachineFault → List ℕ
machine_kind machine.BadToml = codes "BadToml"
machine_kind (machine.UnknownKey key) = codes "UnknownKey"
machine_kind (machine.MissingKey key) = codes "MissingKey"
machine_kind (machine.NotInteger key) = codes "NotInteger"
machine_kind (machine.OutOfLimits key) = codes "OutOfLimits"
machine_kind (machine.NotPowerOfTwo key) = codes "NotPowerOfTwo"
machine_kind machine.BadPolicy = codes "BadPolicy"
machine_kind machine.OutOfMemory = codes "OutOfMemory"

-- the key that a kind of fault has: by its name, and an unknown key by its bytes as they are
abbrev pub told_key : MachineFault → Option (List ℕ)
told_key (machine.UnknownKey key) = Some key
told_key (machine.MissingKey key) = Some (row_of key).name
told_key (machine.NotInteger key) = Some (row_of key).name
told_key (machine.OutOfLimits key) = Some (row_of key).name
told_key (machine.NotPowerOfTwo key) = Some (row_of key).name
told_key _ = None

-- a kind of fault of a machine's file, and the key where the kind has one
abbrev pub machine_line : List ℕ → Option (List ℕ) → List ℕ
machine_line kind None = line (codes "machine" ∷ codes "bad" ∷ kind ∷ [])
machine_line kind (Some key) = line (codes "machine" ∷ codes "bad" ∷ kind ∷ key ∷ [])

abbrev pub fault_line : Fault → List ℕ
fault_line fault.Usage = codes "usage: peisim asm or sched or run or check or gen\n"
fault_line (fault.ProgramBad f) =
    line (codes "program" ∷ codes "bad" ∷ (decimal f.line ++ codes ":" ++ decimal f.column) ∷ asm_word f.kind ∷ [])
fault_line (fault.KernelBad f) =
    line (codes "kernel" ∷ codes "bad" ∷ (decimal f.line ++ codes ":" ++ decimal f.column) ∷ kernel_word f.kind ∷ [])
fault_line (fault.LoadBad f) = load_fault_line f
fault_line (fault.MachineBad f) = machine_line (machine_kind f) (told_key f)
fault_line (fault.TraceBad number) = line (codes "trace" ∷ codes "bad" ∷ decimal number ∷ [])
fault_line (fault.InputTooLong w) = codes "input too long " ++ which_word w ++ codes "\n"
fault_line (fault.ReadFault w) = line (codes "read" ∷ codes "fault" ∷ which_word w ∷ [])
fault_line fault.WriteFault = codes "write fault\n"
fault_line fault.OutOfMemory = codes "out of memory\n"
