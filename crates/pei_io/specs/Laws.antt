-- Writes of one text behind another.
use Rattle.std.specs.Prelude.{ℕ, List, [], ◌++◌, Option, Result, Ok, Err, IsErr}
use Rattle.pei_io.specs.declared.files.Failed.{Failed}
use Rattle.pei_io.specs.Outside.{Added, Writes}

-- A text that was written whole and a text behind it are written as one, however the second write ended. A first write
-- that failed has written a front of both, however the failure is told. Nothing is written by no call. A write that did not fail added its text.
pub record WritesJoin : Type 0 where
  pub joins : (first second : List ℕ) (before mid now : Option (List ℕ)) (faults faults_mid faults_now : ℕ) (done : Unit {0}) (result : Result (Unit {0}) Failed) → Writes first before mid faults faults_mid (Ok done) → Writes second mid now faults_mid faults_now result → Writes (first ++ second) before now faults faults_now result
  pub stops : (first second : List ℕ) (before mid : Option (List ℕ)) (faults faults_mid : ℕ) (failed : Failed) → Writes first before mid faults faults_mid (Err failed) → Writes (first ++ second) before mid faults faults_mid (Err failed)
  pub fails : (first second : List ℕ) (before mid : Option (List ℕ)) (faults faults_mid : ℕ) (failed : Failed) (result : Result (Unit {0}) Failed) → Writes first before mid faults faults_mid (Err failed) → IsErr result → Writes (first ++ second) before mid faults faults_mid result
  pub nothing : (before : Option (List ℕ)) (faults : ℕ) (done : Unit {0}) → Writes [] before before faults faults (Ok done)
  pub added : (text : List ℕ) (before now : Option (List ℕ)) (faults faults_now : ℕ) (done : Unit {0}) → Writes text before now faults faults_now (Ok done) → Added text before now
