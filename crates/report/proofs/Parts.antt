-- Writes of four texts, one behind another.
use Rattle.std.proofs.Common.{◌≡◌, ℕ, List, [], ◌∷◌, ◌++◌, Option, Result, Ok, Err, IsErr, codes, decimal, ap}
use Rattle.pei_io.specs.declared.files.Failed.{Failed}
use Rattle.pei_io.specs.Outside.{Writes}
use Rattle.pei_io.specs.Laws.{WritesJoin}
use Rattle.pei_types.specs.Texts.{line}

-- the second failed
pub second_stopped : WritesJoin → (a b c d : List ℕ) (start first now : Option (List ℕ)) (faults faults_first faults_now : ℕ) (failed : Failed) (result : Result (Unit {0}) Failed) → Writes a start first faults faults_first (Ok tt) → Writes b first now faults_first faults_now (Err failed) → IsErr result → Writes (a ++ b ++ c ++ d) start now faults faults_now result
second_stopped laws a b c d start first now faults faults_first faults_now failed result wrote_a wrote_b told =
    let both = laws.joins a b start first now faults faults_first faults_now tt (Err failed) wrote_a wrote_b
    in laws.fails (a ++ b ++ c) d start now faults faults_now failed result (laws.stops (a ++ b) c start now faults faults_now failed both) told

-- the third failed
pub third_stopped : WritesJoin → (a b c d : List ℕ) (start first second now : Option (List ℕ)) (faults faults_first faults_second faults_now : ℕ) (failed : Failed) (result : Result (Unit {0}) Failed) → Writes a start first faults faults_first (Ok tt) → Writes b first second faults_first faults_second (Ok tt) → Writes c second now faults_second faults_now (Err failed) → IsErr result → Writes (a ++ b ++ c ++ d) start now faults faults_now result
third_stopped laws a b c d start first second now faults faults_first faults_second faults_now failed result wrote_a wrote_b wrote_c told =
    let both = laws.joins a b start first second faults faults_first faults_second tt (Ok tt) wrote_a wrote_b
    in let three = laws.joins (a ++ b) c start second now faults faults_second faults_now tt (Err failed) both wrote_c
    in laws.fails (a ++ b ++ c) d start now faults faults_now failed result three told

-- three were written, and the fourth ended so
pub four_ended : WritesJoin → (a b c d : List ℕ) (start first second third now : Option (List ℕ)) (faults faults_first faults_second faults_third faults_now : ℕ) (result : Result (Unit {0}) Failed) → Writes a start first faults faults_first (Ok tt) → Writes b first second faults_first faults_second (Ok tt) → Writes c second third faults_second faults_third (Ok tt) → Writes d third now faults_third faults_now result → Writes (a ++ b ++ c ++ d) start now faults faults_now result
four_ended laws a b c d start first second third now faults faults_first faults_second faults_third faults_now result wrote_a wrote_b wrote_c wrote_d =
    let both = laws.joins a b start first second faults faults_first faults_second tt (Ok tt) wrote_a wrote_b
    in let three = laws.joins (a ++ b) c start second third faults faults_second faults_third tt (Ok tt) both wrote_c
    in laws.joins (a ++ b ++ c) d start third now faults faults_third faults_now tt result three wrote_d

-- the line of a status, by its value
pub status_line : (status seen : ℕ) → status ≡ seen → line (codes "status" ∷ decimal status ∷ []) ≡ line (codes "status" ∷ decimal seen ∷ [])
status_line status seen same = ap (λ n. line (codes "status" ∷ decimal n ∷ [])) same
