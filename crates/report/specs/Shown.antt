-- The parts of the report.
use Rattle.std.specs.Prelude.{◌≡◌, ℕ, ◌+◌, ◌*◌, ◌/◌, ◌%◌, ◌^◌, ◌<◌, if◌then◌else◌, List, [], ◌∷◌, ◌++◌, map, sum, Option, codes, decimal, slice_index}
use Rattle.std.specs.List.{flat_map}
use Rattle.pei_types.specs.declared.identifiers.CoreId.{CoreId}
use Rattle.pei_types.specs.declared.calls.EndKind.{EndKind}
use Rattle.pei_types.specs.declared.instructions.Ask.{Ask}
use Rattle.pei_types.specs.declared.instructions.Ask.TheVariants as ask
use Rattle.pei_types.specs.declared.events.Event.{Event}
use Rattle.pei_types.specs.declared.machines.MachineSpec.{MachineSpec}
use Rattle.pei_types.specs.MachineState.{cores_of}
use Rattle.pei_types.specs.Ends.{outputs_of, status_of}
use Rattle.pei_types.specs.Program.{Listing}
use Rattle.pei_types.specs.Texts.{line, spaced, how_ended, output_lines, core_lines, addresses, stat_lines}

-- ---- cores

-- the lines of a core's outputs
abbrev pub output_lines_of : CoreId → List Event → List ℕ
output_lines_of c journal = output_lines c (outputs_of journal c)

-- how a core ended, with single spaces
abbrev pub end_text : Option EndKind → List ℕ
end_text end = spaced (how_ended end)

-- ---- memory

-- So many words from an address on are aligned, and in a memory of so many bytes.
abbrev pub AreWords : ℕ → ℕ → ℕ → Type 0
AreWords size addr count = (i : ℕ) → i < count → ((addr + 8 * i) % 8 ≡ 0) × (addr + 8 * i < size)

-- those of an ask
abbrev pub HasWords : ℕ → Ask → Type 0
HasWords size (ask.Show addr count) = AreWords size addr count
HasWords size (ask.Sum addr count) = AreWords size addr count

-- the line of the word at an address
abbrev pub word_line : (ℕ → ℕ) → ℕ → List ℕ
word_line word addr = line (codes "mem" ∷ decimal addr ∷ decimal (word addr) ∷ [])

-- ---- the whole

-- the statistics, where the program asks for them
abbrev pub asked_stats : Listing → List Event → List ℕ
asked_stats p journal = if p.statistics then stat_lines journal else []

-- the report of a journal, with these lines of what is asked of memory
abbrev pub report_with : List ℕ → Listing → MachineSpec → List Event → List ℕ
report_with asked p m journal =
    flat_map (core_lines journal) (cores_of m) ++ asked ++ asked_stats p journal ++ line (codes "status" ∷ decimal (status_of m journal) ∷ [])
