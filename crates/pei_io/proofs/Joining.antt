-- Writes of one text behind another.
use Rattle.std.proofs.Common.{ℕ, ◌+◌, ◌≤◌, List, ◌++◌, take, length, Option, Result, Ok, Err, IsErr, arith, length-append}
use Rattle.std.proofs.lemmas.List.{take-append-le}
use Rattle.std.proofs.Math.Seq.{take-append-add}
use Rattle.pei_io.specs.declared.files.Failed.{Failed}
use Rattle.pei_io.specs.Outside.{Writes}
use Rattle.pei_io.proofs.Progress.{added_more, rose_later}

-- a front of the second text behind the first is a front of both
pub front_behind : (first second : List ℕ) (n : ℕ) → n ≤ length second → length first + n ≤ length (first ++ second)
front_behind first second n h = rw length-append (omega arith)

-- a front of the first text is a front of both
pub front_before : (first second : List ℕ) (n : ℕ) → n ≤ length first → n ≤ length (first ++ second)
front_before first second n h = rw length-append (omega arith)

pub writes_joined : (first second : List ℕ) (before mid now : Option (List ℕ)) (faults faults_mid faults_now : ℕ) (done : Unit {0}) (result : Result (Unit {0}) Failed) → Writes first before mid faults faults_mid (Ok done) → Writes second mid now faults_mid faults_now result → Writes (first ++ second) before now faults faults_now result
writes_joined first second before mid now faults faults_mid faults_now done (Ok whole) h k = (added_more first second before mid now h.0 k.0, omega (arith, h.1, k.1))
writes_joined first second before mid now faults faults_mid faults_now done (Err failed) h k =
    let front = k.0
    in (
      (length first + front.0, front_behind first second front.0 front.1, rw (take-append-add first second front.0) (added_more first (take front.0 second) before mid now h.0 front.2)),
      rose_later faults faults_mid faults_now h.1 k.1,
      omega (arith, h.1, k.2),
    )

pub first_stops : (first second : List ℕ) (before mid : Option (List ℕ)) (faults faults_mid : ℕ) (failed : Failed) → Writes first before mid faults faults_mid (Err failed) → Writes (first ++ second) before mid faults faults_mid (Err failed)
first_stops first second before mid faults faults_mid failed h =
    let front = h.0
    in ((front.0, front_before first second front.0 front.1, rw (take-append-le front.0 first second front.1) front.2), h.1, h.2)

-- however the failure is told
pub first_fails : (first second : List ℕ) (before mid : Option (List ℕ)) (faults faults_mid : ℕ) (failed : Failed) (result : Result (Unit {0}) Failed) → Writes first before mid faults faults_mid (Err failed) → IsErr result → Writes (first ++ second) before mid faults faults_mid result
first_fails first second before mid faults faults_mid failed (Ok done) h is_err = absurd (cc is_err)
first_fails first second before mid faults faults_mid failed (Err other) h is_err = first_stops first second before mid faults faults_mid failed h
