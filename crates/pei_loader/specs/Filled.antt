-- Memory while a program's words are placed.
use Rattle.std.specs.Prelude.{◌≡◌, ℕ, ◌*◌, ◌/◌, ◌%◌, ◌<◌, not, nat_lt, ◌==◌, if◌then◌else◌, Bool, false, List, [], length, find, take, Option, Some, None, slice_index, slice_index_or}
use Rattle.std.specs.List.{list_any, flat_map}
use Rattle.pei_types.specs.Image.{Given, LoadRefusal, Misaligned, OutOfRange, Overlap, first_word_refusal, word_in, words_of_line}
use Rattle.pei_types.specs.Program.{Listing}

-- Memory holds the words given so far, zero elsewhere, and a mark at each.
pub record Filled (blocks : ℕ) (earlier : List Given) (words : List ℕ) (given : List Bool) : Type 0 where
  pub room : length words ≡ 8 * blocks
  pub marks : length given ≡ 8 * blocks
  pub placed : (addr : ℕ) → addr < 64 * blocks → addr % 8 ≡ 0 → slice_index words (addr / 8) ≡ word_in (find (λ g. g.0 == addr) earlier)
  pub marked : (addr : ℕ) → addr < 64 * blocks → addr % 8 ≡ 0 → slice_index_or given (addr / 8) false ≡ list_any (λ g. g.0 == addr) earlier

-- the words of the lines before a line
abbrev pub given_before : Listing → ℕ → List Given
given_before p i = flat_map words_of_line (take i p.lines)

-- the first fault of one line, after the words given earlier
abbrev pub line_refusal : ℕ → List Given → ℕ × List ℕ → Option LoadRefusal
line_refusal blocks earlier line =
    if line.0 % 8 == 0 then first_word_refusal blocks earlier (words_of_line line) else Some (Misaligned line.0)

abbrev pub line_refusal_at : ℕ → Listing → ℕ → Option LoadRefusal
line_refusal_at blocks p i = line_refusal blocks (given_before p i) (slice_index_or p.lines i (0, []))

-- the fault of a word by the marks
abbrev pub marked_refusal : ℕ → List Bool → ℕ → Option LoadRefusal
marked_refusal blocks given addr =
    if not (nat_lt addr (64 * blocks)) then Some (OutOfRange addr)
    else (if slice_index_or given (addr / 8) false then Some (Overlap addr) else None)
