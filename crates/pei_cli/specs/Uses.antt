-- What a call did with its files and its sink.
use Rattle.std.specs.Prelude.{◌≡◌, ℕ, List, Option, None}
use Rattle.pei_io.specs.declared.files.Which.{Which}

-- A file at one moment: the bytes that are left, where that is told; the name under which it was opened; how many bytes
-- were taken; and the count of its faults.
pub record FileState : Type 0 where
  pub left : Option (List ℕ)
  pub name : Option (List ℕ)
  pub taken : ℕ
  pub faults : ℕ

-- What a call did with a file: what a file of a name holds, where that is told, and the file before the call and now.
pub record FileUse : Type 0 where
  pub held : List ℕ → Option (List ℕ)
  pub before : FileState
  pub now : FileState

-- What a call did with a sink: all bytes taken before the call and now, where that is told, and the counts of faults.
pub record SinkUse : Type 0 where
  pub before : Option (List ℕ)
  pub now : Option (List ℕ)
  pub faults : ℕ
  pub faults_now : ℕ

-- by the meanings of the files
abbrev pub file_state : {F : Type 0} → (F → Which → Option (List ℕ)) → (F → Which → Option (List ℕ)) → (F → Which → ℕ) → (F → Which → ℕ) → F → Which → FileState
file_state left name taken faults files which =
    record { left = left files which; name = name files which; taken = taken files which; faults = faults files which }

abbrev pub file_use : {F : Type 0} → (F → Which → List ℕ → Option (List ℕ)) → (F → Which → Option (List ℕ)) → (F → Which → Option (List ℕ)) → (F → Which → ℕ) → (F → Which → ℕ) → F → F → Which → FileUse
file_use held left name taken faults old new which =
    record { held = held old which; before = file_state left name taken faults old which; now = file_state left name taken faults new which }

-- by the meanings of the sink before the call and now
abbrev pub sink_use : {K : Type 0} → (K → Option (List ℕ)) → (K → ℕ) → K → K → SinkUse
sink_use written faults old new = record { before = written old; now = written new; faults = faults old; faults_now = faults new }

-- the file was not opened, and is as it was
abbrev pub IsUnopened : FileUse → Type 0
IsUnopened u = (u.now ≡ u.before) × (u.now.name ≡ None)

-- Files for which there is no name stay as they were, and so does what files hold.
pub record TouchesOnly {F : Type 0} (held : F → Which → List ℕ → Option (List ℕ)) (left name : F → Which → Option (List ℕ)) (taken faults : F → Which → ℕ) (file : Which → Option (List ℕ)) (old new : F) : Type 0 where
  pub same_held : (w : Which) (n : List ℕ) → held new w n ≡ held old w n
  pub same_left : (w : Which) → file w ≡ None → left new w ≡ left old w
  pub same_name : (w : Which) → file w ≡ None → name new w ≡ name old w
  pub same_taken : (w : Which) → file w ≡ None → taken new w ≡ taken old w
  pub same_faults : (w : Which) → file w ≡ None → faults new w ≡ faults old w
