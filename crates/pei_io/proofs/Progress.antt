-- How far a reading or a writing has come.
use Rattle.std.proofs.Common.{◌≡◌, ℕ, ◌≤◌, List, [], ◌++◌, take, length, Option, Some, None, sym, ◌∙◌, ap, append_assoc, inl, inr, arith}
use Rattle.std.proofs.lemmas.List.{append-nil}
use Rattle.std.proofs.Math.Seq.{take-append_seam}
use Rattle.std.proofs.lemmas.Grind.{common_steps}
use Rattle.pei_io.specs.Outside.{Added, Rose}

-- ---- reading

-- these bytes came, and the rest is left
abbrev pub ReadSoFar : List ℕ → Option (List ℕ) → Option (List ℕ) → Type 0
ReadSoFar done None now = Unit {0}
ReadSoFar done (Some bytes) now = (rest : List ℕ) × (bytes ≡ done ++ rest) × (now ≡ Some rest)

-- ---- writing

pub nothing_added : (before : Option (List ℕ)) → Added [] before before
nothing_added None = tt
nothing_added (Some written) = ap Some (sym (append-nil written))

added_some : (ys written : List ℕ) (mid now : Option (List ℕ)) → mid ≡ Some written → Added ys mid now → now ≡ Some (written ++ ys)
added_some ys written None now e h = absurd (cc e)
added_some ys written (Some w) now e h = let same : w ≡ written = cc in rw same at h

-- one write more
pub added_more : (xs ys : List ℕ) (before mid now : Option (List ℕ)) → Added xs before mid → Added ys mid now → Added (xs ++ ys) before now
added_more xs ys None mid now h k = tt
added_more xs ys (Some written) mid now h k = added_some ys (written ++ xs) mid now h k ∙ ap Some (append_assoc written xs ys)

pub front_fits : (done rest whole : List ℕ) → done ++ rest ≡ whole → length done ≤ length whole
front_fits done rest whole e = rw (sym e) (grind (arith, common_steps))

-- what was added is the front of the whole
pub front_added : (done rest whole : List ℕ) (before now : Option (List ℕ)) → done ++ rest ≡ whole → Added done before now → Added (take (length done) whole) before now
front_added done rest whole before now e h =
    let front : take (length done) whole ≡ done = rw (sym e) (take-append_seam done rest)
    in rw front h

-- a count that rose later has risen
pub rose_later : (first before now : ℕ) → first ≤ before → Rose before now → Rose first now
rose_later first before now h (inl less) = inl (omega arith)
rose_later first before now h (inr end) = inr end
