-- Pieces of a text that are written one behind another.
use Rattle.std.proofs.Common.{◌≡◌, ℕ, suc, ◌+◌, ◌<◌, List, [], ◌∷◌, ◌++◌, length, codes, take, drop, get_or, flat_map, Option, Result, Ok, Err, IsErr, Bor, sym, ◌∙◌, ap, subst, arith}
use Rattle.std.proofs.lemmas.List.{append_assoc, take-append-drop}
use Rattle.std.proofs.lemmas.Grind.{flat_map-append}
use Rattle.std.proofs.Math.Seq.{drop-cons}
use Rattle.pei_io.specs.declared.files.Failed.{Failed}
use Rattle.pei_io.specs.Outside.{Writes}
use Rattle.pei_io.specs.Laws.{WritesJoin}
use Rattle.pei_types.specs.Texts.{line}

-- ---- pieces of a list

abbrev pub joined : List (Bor (List ℕ)) → List ℕ
joined pieces = flat_map (λ p. p.now) pieces

pieces_left : (pieces : List (Bor (List ℕ))) (i : ℕ) (d : Bor (List ℕ)) → i < length pieces → joined (take i pieces) ++ (get_or pieces i d).now ++ joined (drop (i + 1) pieces) ≡ joined pieces
pieces_left pieces i d within =
    let p = get_or pieces i d
    in let rest : drop i pieces ≡ p ∷ drop (i + 1) pieces = drop-cons pieces i d within ∙ ap (λ k. p ∷ drop k pieces) (one_more i)
    in append_assoc (joined (take i pieces)) p.now (joined (drop (i + 1) pieces))
    ∙ ap (λ ps. joined (take i pieces) ++ joined ps) (sym rest)
    ∙ sym (flat_map-append (λ (q : Bor (List ℕ)). q.now) (take i pieces) (drop i pieces))
    ∙ ap joined (take-append-drop i pieces)
  where
    one_more : (n : ℕ) → suc n ≡ n + 1
    one_more n = omega arith

pub pieces_stopped : WritesJoin → (pieces : List (Bor (List ℕ))) (i : ℕ) (d : Bor (List ℕ)) (before mid now : Option (List ℕ)) (faults faults_mid faults_now : ℕ) (failed : Failed) → i < length pieces → Writes (joined (take i pieces)) before mid faults faults_mid (Ok tt) → Writes (get_or pieces i d).now mid now faults_mid faults_now (Err failed) → Writes (joined pieces) before now faults faults_now (Err failed)
pieces_stopped laws pieces i d before mid now faults faults_mid faults_now failed within so_far written =
    let p = get_or pieces i d
    in let behind = joined (drop (i + 1) pieces)
    in subst (λ (t : List ℕ). Writes t before now faults faults_now (Err failed))
    (sym (append_assoc (joined (take i pieces)) p.now behind) ∙ pieces_left pieces i d within)
    (laws.joins (joined (take i pieces)) (p.now ++ behind) before mid now faults faults_mid faults_now tt (Err failed) so_far (laws.stops p.now behind mid now faults_mid faults_now failed written))

-- how a failure is told does not matter
pub any_failure : (text : List ℕ) (before now : Option (List ℕ)) (faults faults_now : ℕ) (failed : Failed) (result : Result (Unit {0}) Failed) → IsErr result → Writes text before now faults faults_now (Err failed) → Writes text before now faults faults_now result
any_failure text before now faults faults_now failed (Ok done) h written = absurd (cc h)
any_failure text before now faults faults_now failed (Err other) h written = written

-- a place and a kind, where the place is one word
placed : (a b k : List ℕ) → a ++ (codes ":" ++ (b ++ (codes " " ++ (k ++ codes "\n")))) ≡ ((a ++ codes ":" ++ b) ++ (codes " " ++ k)) ++ codes "\n"
placed a b k =
    sym (append_assoc (a ++ codes ":" ++ b) (codes " " ++ k) (codes "\n")
    ∙ append_assoc (a ++ codes ":") b (codes " " ++ (k ++ codes "\n"))
    ∙ append_assoc a (codes ":") (b ++ (codes " " ++ (k ++ codes "\n"))))

-- the line of a bad program, and that of a bad kernel
pub placed_line : (a b k : List ℕ) → codes "program bad " ++ (a ++ (codes ":" ++ (b ++ (codes " " ++ (k ++ codes "\n"))))) ≡ line (codes "program" ∷ codes "bad" ∷ (a ++ codes ":" ++ b) ∷ k ∷ [])
placed_line a b k = ap (λ xs. codes "program bad " ++ xs) (placed a b k)

pub kernel_line : (a b k : List ℕ) → codes "kernel bad " ++ (a ++ (codes ":" ++ (b ++ (codes " " ++ (k ++ codes "\n"))))) ≡ line (codes "kernel" ∷ codes "bad" ∷ (a ++ codes ":" ++ b) ∷ k ∷ [])
kernel_line a b k = ap (λ xs. codes "kernel bad " ++ xs) (placed a b k)

-- the line of a fault of a machine's file that names a key
pub line_with_key : (kind key : List ℕ) → codes "machine bad " ++ (kind ++ (codes " " ++ (key ++ codes "\n"))) ≡ line (codes "machine" ∷ codes "bad" ∷ kind ∷ key ∷ [])
line_with_key kind key = ap (λ t. codes "machine bad " ++ t) (sym (append_assoc kind (codes " " ++ key) (codes "\n")))
