-- The code of statements one after another.
use Rattle.std.proofs.Common.{◌≡◌, ℕ, ◌+◌, Bool, ◌||◌, List, [], ◌∷◌, ◌++◌, length, sym, ap, ◌∙◌, arith, append_assoc, append-nil, length-append}
use Rattle.pei_types.specs.declared.instructions.Instr.{Instr}
use Rattle.pei_types.specs.declared.instructions.Instr.TheVariants as instr
use Rattle.pei_types.specs.Program.{Listing}
use Rattle.kernel_text.specs.declared.tree.Stmt.{Stmt}
use Rattle.kernel_text.specs.declared.tree.Stmt.TheVariants as stmt
use Rattle.kernel_text.specs.Trees.{Action, Statements, assign, store, print, increment, minimum, probe, hist, dot, act, done, repeat}
use Rattle.kernel_text.specs.Views.{expression_of, statements_of, with_statement}
use Rattle.kernel_lang.specs.Code.{action_code, code, has_writers, loop_code, waiting_after, waiting_behind}
use Rattle.kernel_lang.specs.Emitted.{with_code}
use Rattle.kernel_lang.specs.Homes.{Frame, register_of}

loop_length : (counter turns at : ℕ) (body : List Instr) → length (loop_code counter turns at body) ≡ length body + 4
loop_length counter turns at body =
    let tail = length-append body (instr.Addi counter counter 1 ∷ instr.Li 8 turns ∷ instr.Bne counter 8 (at + 1) ∷ [])
    in omega (arith, tail)

-- what the code of a statement and that of the rest are together
abbrev OneByOne : Frame → Bool → ℕ → (Statements → Statements) → Statements → Type 0
OneByOne f w at s rest = code f w at (s rest) ≡ code f w at (s done) ++ code f (waiting_behind f w (s done)) (at + length (code f w at (s done))) rest

act_one : (f : Frame) (w : Bool) (at : ℕ) (a : Action) (rest : Statements) → OneByOne f w at (act a) rest
act_one f w at a rest = sym (ap (λ c. c ++ code f (waiting_after f w a) (at + length c) rest) (append-nil (action_code f w a)))

repeat_one : (f : Frame) (w : Bool) (at : ℕ) (name : List ℕ) (turns : ℕ) (body rest : Statements) → OneByOne f w at (repeat name turns body) rest
repeat_one f w at name turns body rest =
    let inside = code f (w || has_writers body) (at + 1) body
    in let whole = loop_code (register_of f name) turns at inside
    in let behind = waiting_behind f (w || has_writers body) body
    in ap (λ n. whole ++ code f behind (at + n) rest) (sym (loop_length (register_of f name) turns at inside))
    ∙ sym (ap (λ c. c ++ code f behind (at + length c) rest) (append-nil whole))

pub code_one : (f : Frame) (w : Bool) (at : ℕ) (s : Stmt) (rest : Statements) → OneByOne f w at (with_statement s) rest
code_one f w at (stmt.Assign name value) rest = act_one f w at (assign name (expression_of value)) rest
code_one f w at (stmt.Store name index value) rest = act_one f w at (store name (expression_of index) (expression_of value)) rest
code_one f w at (stmt.Print value) rest = act_one f w at (print (expression_of value)) rest
code_one f w at (stmt.Inc name index) rest = act_one f w at (increment name (expression_of index)) rest
code_one f w at (stmt.Min name index value) rest = act_one f w at (minimum name (expression_of index) (expression_of value)) rest
code_one f w at (stmt.Probe first second name index key) rest = act_one f w at (probe first second name (expression_of index) (expression_of key)) rest
code_one f w at (stmt.Hist first second name index shift) rest = act_one f w at (hist first second name (expression_of index) shift) rest
code_one f w at (stmt.Dot first name index a b c d) rest = act_one f w at (dot first name (expression_of index) a b c d) rest
code_one f w at (stmt.Repeat' name turns shape body) rest = repeat_one f w at name turns (statements_of body) rest

-- code behind code
pub code_behind : (p : Listing) (before after : List Instr) → with_code (with_code p before) after ≡ with_code p (before ++ after)
code_behind p before after = ap (λ instrs. record p { instrs = instrs }) (append_assoc p.instrs before after)

-- the code of what is left, behind that of its first statement, is that of all
pub code_next : (f : Frame) (w v : Bool) (p q : Listing) (s : Stmt) (rest : Statements) → q ≡ with_code p (code f w (length p.instrs) (with_statement s done)) → v ≡ waiting_behind f w (with_statement s done) → with_code q (code f v (length q.instrs) rest) ≡ with_code p (code f w (length p.instrs) (with_statement s rest))
code_next f w v p q s rest made waits =
    let at = length p.instrs
    in let first = code f w at (with_statement s done)
    in let behind = waiting_behind f w (with_statement s done)
    in ap (λ b. with_code q (code f b (length q.instrs) rest)) waits
    ∙ ap (λ (r : Listing). with_code r (code f behind (length r.instrs) rest)) made
    ∙ ap (λ n. with_code (with_code p first) (code f behind n rest)) (length-append p.instrs first)
    ∙ code_behind p first (code f behind (at + length first) rest)
    ∙ ap (λ c. with_code p c) (sym (code_one f w at s rest))

-- a loop is its first instruction, the code of its body, and its last three
pub loop_made : (f : Frame) (w v : Bool) (p opened ran closed : Listing) (x : List ℕ) (counter turns top : ℕ) (body : Statements) → counter ≡ register_of f x → top ≡ length p.instrs + 1 → opened ≡ with_code p (instr.Li counter 0 ∷ []) → v ≡ (w || has_writers body) → ran ≡ with_code opened (code f v (length opened.instrs) body) → closed ≡ with_code ran (instr.Addi counter counter 1 ∷ instr.Li 8 turns ∷ instr.Bne counter 8 top ∷ []) → closed ≡ with_code p (code f w (length p.instrs) (repeat x turns body done))
loop_made f w v p opened ran closed x counter turns top body counts tops begun waits run close =
    let head : ℕ → List Instr = λ c. instr.Li c 0 ∷ []
    in let tail : ℕ → ℕ → List Instr = λ c t. instr.Addi c c 1 ∷ instr.Li 8 turns ∷ instr.Bne c 8 t ∷ []
    in let at = length p.instrs
    in let inside = code f (w || has_writers body) (at + 1) body
    in let r = register_of f x
    in close
    ∙ ap (λ (q : Listing). with_code q (tail counter top)) run
    ∙ ap (λ (o : Listing). with_code (with_code o (code f v (length o.instrs) body)) (tail counter top)) begun
    ∙ ap (λ n. with_code (with_code (with_code p (head counter)) (code f v n body)) (tail counter top)) (length-append p.instrs (head counter))
    ∙ ap (λ b. with_code (with_code (with_code p (head counter)) (code f b (at + 1) body)) (tail counter top)) waits
    ∙ ap (λ n. with_code (with_code (with_code p (head counter)) inside) (tail counter n)) tops
    ∙ ap (λ c. with_code (with_code (with_code p (head c)) inside) (tail c (at + 1))) counts
    ∙ code_behind (with_code p (head r)) inside (tail r (at + 1))
    ∙ code_behind p (head r) (inside ++ tail r (at + 1))
    ∙ ap (λ c. with_code p c) (sym (append-nil (loop_code r turns at inside)))
