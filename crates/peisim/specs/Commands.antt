-- What the program does with the words that it was started with.
use Rattle.std.specs.Prelude.{◌≡◌, ◌≢◌, ◌↔◌, ◌⊎◌, ◌≤◌, ℕ, Bool, true, false, List, [], ◌∷◌, map, drop, codes, Option, Some, None, IfSome, IfErr, Result, Ok, Err, string_bytes}
use Rattle.std.specs.IoError.{error_kind}
use Rattle.std.specs.Str.{bytes_eq}
use Rattle.std.specs.Vec.Iter.{into_iter_items}
use Rattle.std.specs.declared.alloc.Global.{Global}
use Rattle.std.specs.declared.io.Error.{Error}
use Rattle.std.specs.declared.io.ErrorKind.{ErrorKind}
use Rattle.std.specs.declared.io.ErrorKind.TheVariants as kind
use Rattle.std.specs.declared.string.String.{String}
use Rattle.std.specs.declared.vec.IntoIter.{IntoIter}
use Rattle.pei_io.specs.Outside.{Writes}
use Rattle.pei_io.specs.declared.files.Which.{Which}
use Rattle.pei_io.specs.declared.files.Failed.{Failed}
use Rattle.pei_cli.specs.FaultLines.{fault_line}
use Rattle.pei_cli.specs.Jobs.{Generates, asked_of, file_of, threaded_of, threaded_file_of}
use Rattle.pei_cli.specs.Outcomes.{Serves}
use Rattle.pei_cli.specs.ThreadedOutcomes.{ServesThreads}
use Rattle.pei_cli.specs.Uses.{TouchesOnly, file_use, sink_use}
use Rattle.pei_cli.specs.declared.ends.PlainEnd.{PlainEnd}
use Rattle.pei_cli.specs.declared.ends.RunEnd.{RunEnd}
use Rattle.pei_cli.specs.declared.faults.Fault.{Fault}
use Rattle.pei_cli.specs.declared.faults.Fault.TheVariants as fault
use Rattle.peisim.specs.declared.commands.Ended.{Ended}
use Rattle.peisim.specs.declared.commands.Ended.TheVariants as ended

-- ---- the words

-- the fault of words that could not be had: one that is no UTF-8 names no command
abbrev pub fault_of_kind : ErrorKind → Fault
fault_of_kind kind.OutOfMemory = fault.OutOfMemory
fault_of_kind _ = fault.Usage

abbrev pub fault_of_arguments : Error → Fault
fault_of_arguments e = fault_of_kind (error_kind e)

-- the words behind the program's name
abbrev pub words_behind_name : IntoIter (String Global) Global → List (List ℕ)
words_behind_name args = map string_bytes (drop 1 (into_iter_items args))

-- Those words, or why there are none. Want of memory is free.
abbrev pub ReadsWords : Result (IntoIter (String Global) Global) Error → Result (List (List ℕ)) Fault → Type 0
ReadsWords (Ok args) (Ok words) = words ≡ words_behind_name args
ReadsWords (Ok args) (Err f) = f ≡ fault.OutOfMemory
ReadsWords (Err e) (Ok words) = ⊥
ReadsWords (Err e) (Err f) = f ≡ fault_of_arguments e

-- the call with threads serves the words whose first is `run`
abbrev pub begins_with_run : List (List ℕ) → Bool
begins_with_run [] = false
begins_with_run (word ∷ rest) = bytes_eq word (codes "run")

-- ---- the answer

-- The clauses of `plain`.
pub record IsServed {F K : Type 0} (held : F → Which → List ℕ → Option (List ℕ)) (left name : F → Which → Option (List ℕ)) (taken faults : F → Which → ℕ) (written : K → Option (List ℕ)) (sink_faults : K → ℕ) (words : List (List ℕ)) (old new : F) (sink_old sink_new : K) (answer : Result PlainEnd Fault) : Type 0 where
  pub usage : (answer ≡ Err fault.Usage) ↔ (asked_of words ≡ None)
  pub idle : asked_of words ≡ None → (new ≡ old) × (sink_new ≡ sink_old)
  pub serves : IfSome (asked_of words) (λ a. Serves a (file_use held left name taken faults old new) (sink_use written sink_faults sink_old sink_new) answer)
  pub untouched : IfErr answer (λ f. f ≢ fault.WriteFault → sink_new ≡ sink_old)
  pub unread : (n : ℕ) → asked_of words ≡ Some (Generates n) → new ≡ old
  pub rising : ((w : Which) → faults old w ≤ faults new w) × (sink_faults sink_old ≤ sink_faults sink_new)
  pub others : IfSome (asked_of words) (λ a. TouchesOnly held left name taken faults (file_of a) old new)

-- The clauses of `threaded`.
pub record IsServedByThreads {F K : Type 0} (held : F → Which → List ℕ → Option (List ℕ)) (left name : F → Which → Option (List ℕ)) (taken faults : F → Which → ℕ) (written : K → Option (List ℕ)) (sink_faults : K → ℕ) (words : List (List ℕ)) (old new : F) (sink_old sink_new : K) (answer : Result RunEnd Fault) : Type 0 where
  pub usage : (answer ≡ Err fault.Usage) ↔ (threaded_of words ≡ None)
  pub idle : threaded_of words ≡ None → (new ≡ old) × (sink_new ≡ sink_old)
  pub serves : IfSome (threaded_of words) (λ j. ServesThreads j (file_use held left name taken faults old new) (sink_use written sink_faults sink_old sink_new) answer)
  pub untouched : IfErr answer (λ f. f ≢ fault.WriteFault → sink_new ≡ sink_old)
  pub rising : ((w : Which) → faults old w ≤ faults new w) × (sink_faults sink_old ≤ sink_faults sink_new)
  pub others : IfSome (threaded_of words) (λ j. TouchesOnly held left name taken faults (threaded_file_of j) old new)

-- The call that serves these words, and its answer.
abbrev pub AnswersWords : {F K : Type 0} → (F → Which → List ℕ → Option (List ℕ)) → (F → Which → Option (List ℕ)) → (F → Which → Option (List ℕ)) → (F → Which → ℕ) → (F → Which → ℕ) → (K → Option (List ℕ)) → (K → ℕ) → List (List ℕ) → F → F → K → K → Ended → Type 0
AnswersWords held left name taken faults written sink_faults words old new sink_old sink_new (ended.Plain answer) =
    (begins_with_run words ≡ false) × IsServed held left name taken faults written sink_faults words old new sink_old sink_new answer
AnswersWords held left name taken faults written sink_faults words old new sink_old sink_new (ended.Threaded answer) =
    (begins_with_run words ≡ true) × IsServedByThreads held left name taken faults written sink_faults words old new sink_old sink_new answer

-- The words could not be had, and no file and nothing of the output was touched; or they could, and their call serves them.
abbrev pub Answers : {F K : Type 0} → (F → Which → List ℕ → Option (List ℕ)) → (F → Which → Option (List ℕ)) → (F → Which → Option (List ℕ)) → (F → Which → ℕ) → (F → Which → ℕ) → (K → Option (List ℕ)) → (K → ℕ) → Result (IntoIter (String Global) Global) Error → F → F → K → K → Ended → Type 0
Answers held left name taken faults written sink_faults args old new sink_old sink_new answer =
    ((f : Fault) × ReadsWords args (Err f) × (answer ≡ ended.Plain (Err f)) × (new ≡ old) × (sink_new ≡ sink_old))
    ⊎ ((words : List (List ℕ)) × ReadsWords args (Ok words) × AnswersWords held left name taken faults written sink_faults words old new sink_old sink_new answer)

-- ---- the line of a fault

-- The line of a fault was written, or a front of it and the sink's count of faults rose; without a fault nothing was.
abbrev pub TellsFault : {E : Type 0} → (E → Option (List ℕ)) → (E → ℕ) → Option Fault → E → E → Type 0
TellsFault written faults None old new = new ≡ old
TellsFault written faults (Some f) old new = (end : Result (Unit {0}) Failed) × Writes (fault_line f) (written old) (written new) (faults old) (faults new) end
