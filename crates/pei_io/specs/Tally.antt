-- What adapters over real files keep of them.
use Rattle.std.specs.Prelude.{◌≡◌, ℕ, List, [], Option, Some, None}
use Rattle.std.proofs.Common.{ap}
use Rattle.pei_io.specs.declared.files.Which.{Which}
use Rattle.pei_io.specs.declared.files.Which.TheVariants as which
use Rattle.pei_io.specs.declared.tallies.Tally.{Tally}
use Rattle.pei_io.specs.declared.tallies.Tallies.{Tallies}
use Rattle.pei_io.specs.Memory.{taken_if}

-- that of one file
abbrev pub tally_at : Tallies → Which → Tally
tally_at t which.Program = t.program
tally_at t which.Machine = t.machine
tally_at t which.Trace = t.trace
tally_at t which.Kernel = t.kernel

-- what a real file holds, and what is left of it, is not told
abbrev pub none_held : Tallies → Which → List ℕ → Option (List ℕ)
none_held t w name = None

abbrev pub none_left : Tallies → Which → Option (List ℕ)
none_left t w = None

abbrev pub name_told : Tallies → Which → Option (List ℕ)
name_told t w = (tally_at t w).name

abbrev pub taken_told : Tallies → Which → ℕ
taken_told t w = taken_if (tally_at t w).name (tally_at t w).taken

abbrev pub faults_told : Tallies → Which → ℕ
faults_told t w = (tally_at t w).faults

-- of a file that was not opened nothing was read
pub nothing_taken_told : (t : Tallies) (w : Which) → name_told t w ≡ None → taken_told t w ≡ 0
nothing_taken_told t w e = ap (λ name. taken_if name (tally_at t w).taken) e

-- that of one of four files
abbrev pub of_file : {A : Type 0} → A → A → A → A → Which → A
of_file program machine trace kernel which.Program = program
of_file program machine trace kernel which.Machine = machine
of_file program machine trace kernel which.Trace = trace
of_file program machine trace kernel which.Kernel = kernel

-- what an opened file of std has left, where it tells that; nothing where opening failed
abbrev pub std_left : {A : Type 0} → (A → Option (List ℕ)) → Option A → Option (List ℕ)
std_left remaining (Some file) = remaining file
std_left remaining None = Some []
