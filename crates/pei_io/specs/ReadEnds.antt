-- How the reading of a file ends.
use Rattle.std.specs.Prelude.{◌≡◌, ℕ, ◌+◌, ◌<◌, ◌≤◌, List, length, Option, IfSome, Result, Ok, Err}
use Rattle.pei_io.specs.declared.reading.ReadEnd.{ReadEnd}
use Rattle.pei_io.specs.declared.reading.ReadEnd.TheVariants as ends
use Rattle.pei_io.specs.Outside.{Rose}

-- By the limit, what the file holds where that is told, the number of bytes taken, and the count of faults before and
-- after: all bytes of the file, a fault that was counted, or one byte more than the limit. Want of memory is free, but comes
-- only where no more than the limit was taken.
abbrev pub EndsReading : ℕ → Option (List ℕ) → ℕ → ℕ → ℕ → Result (List ℕ) ReadEnd → Type 0
EndsReading limit held taken faults faults_now (Ok bytes) = (taken ≡ length bytes) × (taken ≤ limit) × IfSome held (λ content. bytes ≡ content)
EndsReading limit held taken faults faults_now (Err ends.Failed) = Rose faults faults_now × (taken ≤ limit)
EndsReading limit held taken faults faults_now (Err ends.TooLong) = (taken ≡ limit + 1) × IfSome held (λ content. limit < length content)
EndsReading limit held taken faults faults_now (Err ends.OutOfMemory) = taken ≤ limit
