-- Statements one after another, and what they set.
use Rattle.std.proofs.Common.{◌≡◌, ℕ, suc, ◌+◌, ◌<◌, Bool, true, false, ◌||◌, List, [], ◌∷◌, length, drop, refl, ap, sym, ◌∙◌, arith}
use Rattle.std.proofs.Math.Seq.{drop-cons}
use Rattle.std.proofs.Math.ListN.{get_or}
use Rattle.kernel_text.specs.declared.tree.Stmt.{Stmt}
use Rattle.kernel_text.specs.declared.tree.Stmt.TheVariants as stmt
use Rattle.kernel_text.specs.Sound.{behind_statements}
use Rattle.kernel_text.specs.Trees.{Statements, done}
use Rattle.kernel_text.specs.Views.{statements_of, with_statement, with_statements}
use Rattle.kernel_text.specs.Depth.{parts_of}
use Rattle.kernel_lang.specs.Code.{has_writers, waiting_behind}
use Rattle.kernel_lang.specs.Emitted.{AreShallow}
use Rattle.kernel_lang.specs.Homes.{Frame}

-- what a statement sets, and those behind it
pub behind_one : (s : Stmt) (vs : List (List ℕ)) (rest : Statements) → behind_statements vs (with_statement s rest) ≡ behind_statements (behind_statements vs (with_statement s done)) rest
behind_one (stmt.Assign name value) vs rest = refl
behind_one (stmt.Store name index value) vs rest = refl
behind_one (stmt.Print value) vs rest = refl
behind_one (stmt.Inc name index) vs rest = refl
behind_one (stmt.Min name index value) vs rest = refl
behind_one (stmt.Probe first second name index key) vs rest = refl
behind_one (stmt.Hist first second name index shift) vs rest = refl
behind_one (stmt.Dot first name index a b c d) vs rest = refl
behind_one (stmt.Repeat' name turns shape body) vs rest = refl

-- a statement has writers, or those behind it have
pub writers_one : (s : Stmt) (rest : Statements) → has_writers (with_statement s rest) ≡ (has_writers (with_statement s done) || has_writers rest)
writers_one (stmt.Assign name value) rest = refl
writers_one (stmt.Store name index value) rest = refl
writers_one (stmt.Print value) rest = refl
writers_one (stmt.Inc name index) rest = refl
writers_one (stmt.Min name index value) rest = refl
writers_one (stmt.Probe first second name index key) rest = refl
writers_one (stmt.Hist first second name index shift) rest = refl
writers_one (stmt.Dot first name index a b c d) rest = refl
writers_one (stmt.Repeat' name turns shape body) rest = by (has_writers (statements_of body))
  where
    by : (b : Bool) → (b || has_writers rest) ≡ ((b || false) || has_writers rest)
    by true = refl
    by false = refl

-- whether one may be on its way behind a statement, and behind those behind it
pub waiting_one : (f : Frame) (w : Bool) (s : Stmt) (rest : Statements) → waiting_behind f w (with_statement s rest) ≡ waiting_behind f (waiting_behind f w (with_statement s done)) rest
waiting_one f w (stmt.Assign name value) rest = refl
waiting_one f w (stmt.Store name index value) rest = refl
waiting_one f w (stmt.Print value) rest = refl
waiting_one f w (stmt.Inc name index) rest = refl
waiting_one f w (stmt.Min name index value) rest = refl
waiting_one f w (stmt.Probe first second name index key) rest = refl
waiting_one f w (stmt.Hist first second name index shift) rest = refl
waiting_one f w (stmt.Dot first name index a b c d) rest = refl
waiting_one f w (stmt.Repeat' name turns shape body) rest = refl

-- the parts of a statement and of those behind it
pub parts_one : (s : Stmt) (rest : Statements) → parts_of (with_statement s rest) ≡ parts_of (with_statement s done) + parts_of rest
parts_one (stmt.Assign name value) rest = omega arith
parts_one (stmt.Store name index value) rest = omega arith
parts_one (stmt.Print value) rest = omega arith
parts_one (stmt.Inc name index) rest = omega arith
parts_one (stmt.Min name index value) rest = omega arith
parts_one (stmt.Probe first second name index key) rest = omega arith
parts_one (stmt.Hist first second name index shift) rest = omega arith
parts_one (stmt.Dot first name index a b c d) rest = omega arith
parts_one (stmt.Repeat' name turns shape body) rest = omega arith

-- a statement is shallow, and those behind it are
pub shallow_one : (s : Stmt) (rest : Statements) → AreShallow (with_statement s rest) → AreShallow (with_statement s done) × AreShallow rest
shallow_one (stmt.Assign name value) rest shallow = ((shallow.0, tt), shallow.1)
shallow_one (stmt.Store name index value) rest shallow = ((shallow.0, tt), shallow.1)
shallow_one (stmt.Print value) rest shallow = ((shallow.0, tt), shallow.1)
shallow_one (stmt.Inc name index) rest shallow = ((shallow.0, tt), shallow.1)
shallow_one (stmt.Min name index value) rest shallow = ((shallow.0, tt), shallow.1)
shallow_one (stmt.Probe first second name index key) rest shallow = ((shallow.0, tt), shallow.1)
shallow_one (stmt.Hist first second name index shift) rest shallow = ((shallow.0, tt), shallow.1)
shallow_one (stmt.Dot first name index a b c d) rest shallow = ((shallow.0, tt), shallow.1)
shallow_one (stmt.Repeat' name turns shape body) rest shallow = ((shallow.0, tt), shallow.1)

-- the item at a place, and those behind it
pub next_of : {A : Type 0} (xs : List A) (i : ℕ) (x : A) → i < length xs → get_or xs i x ≡ x → drop i xs ≡ x ∷ drop (i + 1) xs
next_of xs i x less is = drop-cons xs i x less ∙ ap (λ y. y ∷ drop (suc i) xs) is ∙ ap (λ n. x ∷ drop n xs) (next i)
  where
    next : (n : ℕ) → suc n ≡ n + 1
    next n = omega arith
