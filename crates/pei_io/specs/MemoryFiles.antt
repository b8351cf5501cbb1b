-- Four files in memory.
use Rattle.std.specs.Prelude.{◌≡◌, ℕ, List, Option, Some, None}
use Rattle.std.proofs.Common.{ap}
use Rattle.pei_io.specs.declared.files.Which.{Which}
use Rattle.pei_io.specs.declared.files.Which.TheVariants as which
use Rattle.pei_io.specs.declared.mem_files.MemFiles.{MemFiles}
use Rattle.pei_io.specs.Memory.{MemoryFile, left_of, taken_of, taken_if}

-- one of the four
abbrev pub file_at : MemFiles → Which → MemoryFile
file_at files which.Program = files.program
file_at files which.Machine = files.machine
file_at files which.Trace = files.trace
file_at files which.Kernel = files.kernel

abbrev pub held_in : MemFiles → Which → List ℕ → Option (List ℕ)
held_in files w name = Some (file_at files w).content

abbrev pub left_in : MemFiles → Which → Option (List ℕ)
left_in files w = Some (left_of (file_at files w))

abbrev pub name_in : MemFiles → Which → Option (List ℕ)
name_in files w = (file_at files w).name

abbrev pub taken_in : MemFiles → Which → ℕ
taken_in files w = taken_of (file_at files w)

abbrev pub faults_in : MemFiles → Which → ℕ
faults_in files w = (file_at files w).faults

-- of a file that is not open nothing was read
pub nothing_taken_in : (files : MemFiles) (w : Which) → name_in files w ≡ None → taken_in files w ≡ 0
nothing_taken_in files w e = ap (λ name. taken_if name (file_at files w).position) e
