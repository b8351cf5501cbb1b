-- Only a loop's last instruction names a place, and that is inside the loop.
use Rattle.std.proofs.Common.{◌≡◌, ℕ, ◌+◌, ◌≤◌, Bool, true, false, ◌||◌, List, [], ◌∷◌, ◌++◌, length, Option, Some, None, refl, sym, subst, arith, length-append}
use Rattle.std.specs.Prelude.{IfSome, replicate}
use Rattle.std.specs.List.{AllByRecursion}
use Rattle.std.proofs.lemmas.List.Elements.{All-from_recursion}
use Rattle.pei_types.proofs.Lists.{each_append, each_weaker}
use Rattle.pei_types.specs.declared.instructions.Instr.{Instr}
use Rattle.pei_types.specs.declared.instructions.Instr.TheVariants as instr
use Rattle.pei_asm.specs.Canonical.{IsPrintable, target_of}
use Rattle.kernel_text.specs.declared.tree.Operator.{Operator}
use Rattle.kernel_text.specs.declared.tree.Operator.TheVariants as op
use Rattle.kernel_text.specs.Trees.{Expression, Action, Statements, Kernel, num, named, item, group, binary, assign, store, print, increment, minimum, probe, hist, dot, done, act, repeat}
use Rattle.kernel_lang.specs.Code.{action_code, code, fence_where, has_writers, indexed, index_register, into, loop_code, offset, operand, operation, still, unless_named, unless_number, waiting_after, waiting_behind}
use Rattle.kernel_lang.specs.Homes.{Frame, frame_of, register_of}
use Rattle.kernel_lang.specs.Programs.{instrs_of, program_of}

-- ---- instructions that name no place

Plain : Instr → Type 0
Plain i = target_of i ≡ None

ArePlain : List Instr → Type 0
ArePlain is = AllByRecursion Plain is

plain_fence : (b : Bool) → ArePlain (fence_where b)
unfolding Plain ArePlain
plain_fence true = (refl, tt)
plain_fence false = tt

plain_operation : (o : Operator) (rd a b : ℕ) → target_of (operation o rd a b) ≡ None
plain_operation op.Add rd a b = refl
plain_operation op.Sub rd a b = refl
plain_operation op.Mul rd a b = refl
plain_operation op.And rd a b = refl
plain_operation op.Or rd a b = refl
plain_operation op.Xor rd a b = refl

plain_unless_named : (e : Expression) (is : List Instr) → ArePlain is → ArePlain (unless_named e is)
unfolding ArePlain
plain_unless_named (num value) is h = h
plain_unless_named (named name) is h = tt
plain_unless_named (item name index) is h = h
plain_unless_named (group inner) is h = h
plain_unless_named (binary o left right) is h = h

plain_unless_number : (e : Expression) (is : List Instr) → ArePlain is → ArePlain (unless_number e is)
unfolding ArePlain
plain_unless_number (num value) is h = tt
plain_unless_number (named name) is h = h
plain_unless_number (item name index) is h = h
plain_unless_number (group inner) is h = h
plain_unless_number (binary o left right) is h = h

plain_append : (xs ys : List Instr) → ArePlain xs → ArePlain ys → ArePlain (xs ++ ys)
unfolding ArePlain
plain_append xs ys h k = each_append Plain xs ys h k

-- an instruction before others
plain_more : (i : Instr) (is : List Instr) → target_of i ≡ None → ArePlain is → ArePlain (i ∷ is)
unfolding Plain ArePlain
plain_more i is h k = (h, k)

plain_none : ArePlain []
unfolding ArePlain
plain_none = tt

plain_offset : (t from count shift : ℕ) → ArePlain (offset t from count shift)
plain_offset t from count shift = search (plain_more, plain_none)

-- ---- expressions

plain_into : (f : Frame) (w : Bool) (rd t : ℕ) (e : Expression) → ArePlain (into f w rd t e)
plain_into f w rd t (num value) = search (plain_more, plain_none)
plain_into f w rd t (named name) = search (plain_more, plain_none)
plain_into f w rd t (item name index) =
    let inner = plain_into f w t t index
    in search (plain_append, plain_unless_number, plain_unless_named, plain_offset, plain_fence, plain_more, plain_none, inner)
plain_into f w rd t (group inner) = plain_into f w rd t inner
plain_into f w rd t (binary o left right) =
    let first = plain_into f w t t left
    in let second = plain_into f (still f w left) (t + 1) (t + 1) right
    in search (plain_append, plain_unless_named, plain_operation, plain_more, plain_none, first, second)

plain_operand : (f : Frame) (w : Bool) (t : ℕ) (e : Expression) → ArePlain (operand f w t e)
plain_operand f w t e = plain_unless_named e _ (plain_into f w t t e)

plain_indexed : (f : Frame) (w : Bool) (t count shift : ℕ) (index : Expression) → ArePlain (indexed f w t count shift index)
plain_indexed f w t count shift index = plain_unless_number index _ (plain_append _ _ (plain_operand f w t index) (plain_offset t _ count shift))

-- ---- statements that are no loops

plain_action : (f : Frame) (w : Bool) (a : Action) → ArePlain (action_code f w a)
plain_action f w (assign name e) = plain_into f w _ _ e
plain_action f w (store name index e) = search (plain_append, plain_indexed, plain_operand, plain_fence, plain_more, plain_none)
plain_action f w (print e) = search (plain_append, plain_operand, plain_more, plain_none)
plain_action f w (increment name index) = search (plain_append, plain_indexed, plain_more, plain_none)
plain_action f w (minimum name index e) = search (plain_append, plain_indexed, plain_operand, plain_more, plain_none)
plain_action f w (probe first second name index key) = search (plain_append, plain_indexed, plain_operand, plain_more, plain_none)
plain_action f w (hist first second name index shift) = search (plain_append, plain_indexed, plain_more, plain_none) depth 8
plain_action f w (dot first name index a b c d) = search (plain_append, plain_indexed, plain_more, plain_none) depth 10

-- ---- instructions that name places up to this one

Within : ℕ → Instr → Type 0
Within most i = IfSome (target_of i) (λ to. to ≤ most)

AreWithin : ℕ → List Instr → Type 0
AreWithin most is = AllByRecursion (Within most) is

plain_within : (most : ℕ) (is : List Instr) → ArePlain is → AreWithin most is
unfolding Plain ArePlain Within AreWithin
plain_within most is h = each_weaker Plain (Within most) (λ i e. subst (λ o. IfSome o (λ to. to ≤ most)) (sym e) tt) is h

within_more : (less most : ℕ) (is : List Instr) → less ≤ most → AreWithin less is → AreWithin most is
unfolding Within AreWithin
within_more less most is le h = each_weaker (Within less) (Within most) (λ i. one (target_of i)) is h
  where
    one : (o : Option ℕ) → IfSome o (λ to. to ≤ less) → IfSome o (λ to. to ≤ most)
    one None h = tt
    one (Some to) h = omega (arith, h, le)

within_append : (most : ℕ) (xs ys : List Instr) → AreWithin most xs → AreWithin most ys → AreWithin most (xs ++ ys)
unfolding AreWithin
within_append most xs ys h k = each_append (Within most) xs ys h k

-- a loop around a body
within_loop : (most counter turns at : ℕ) (body : List Instr) → at + 1 ≤ most → AreWithin most body → AreWithin most (loop_code counter turns at body)
unfolding Within AreWithin
within_loop most counter turns at body less h = (tt, within_append most body _ h (tt, (tt, (less, tt))))

-- two parts of code, of which each names no place behind itself
joined : (at : ℕ) (xs ys : List Instr) → AreWithin (at + length xs) xs → AreWithin (at + length xs + length ys) ys → AreWithin (at + length (xs ++ ys)) (xs ++ ys)
joined at xs ys h k =
    let all = length-append xs ys
    in within_append (at + length (xs ++ ys)) xs ys (within_more _ _ xs (omega (arith, all)) h) (within_more _ _ ys (omega (arith, all)) k)

-- the code of statements
code_within : (f : Frame) (w : Bool) (at : ℕ) (s : Statements) → AreWithin (at + length (code f w at s)) (code f w at s)
unfolding AreWithin
code_within f w at done = tt
code_within f w at (act first rest) =
    let head = action_code f w first
    in joined at head (code f (waiting_after f w first) (at + length head) rest) (plain_within _ head (plain_action f w first))
    (code_within f (waiting_after f w first) (at + length head) rest)
code_within f w at (repeat name turns body rest) =
    let inside = code f (w || has_writers body) (at + 1) body
    in let whole = loop_code (register_of f name) turns at inside
    in let size = length-append inside (instr.Addi (register_of f name) (register_of f name) 1 ∷ instr.Li index_register turns ∷ instr.Bne (register_of f name) index_register (at + 1) ∷ [])
    in let behind = code f (waiting_behind f (w || has_writers body) body) (at + (length inside + 4)) rest
    in joined at whole behind
    (within_loop (at + length whole) (register_of f name) turns at inside (omega arith) (within_more _ _ inside (omega (arith, size)) (code_within f (w || has_writers body) (at + 1) body)))
    (within_more _ _ behind (omega (arith, size)) (code_within f (waiting_behind f (w || has_writers body) body) (at + (length inside + 4)) rest))

-- ---- the program

instrs_within : (k : Kernel) → AreWithin (length (instrs_of k)) (instrs_of k)
instrs_within k =
    let whole = code (frame_of k) false 0 k.statements
    in let fence = fence_where (waiting_behind (frame_of k) false k.statements)
    in let last = instr.Halt ∷ []
    in let all = length-append (whole ++ fence) last
    in let most = length-append whole fence
    in within_append _ (whole ++ fence) last
    (within_append _ whole fence (within_more _ _ whole (omega (arith, all, most)) (code_within (frame_of k) false 0 k.statements)) (plain_within _ fence (plain_fence _)))
    (plain_within _ last (search (plain_more, plain_none)))

-- the program names places of its own alone
pub printable : (k : Kernel) → IsPrintable (program_of k)
unfolding Within AreWithin
printable k =
    record {
      common = tt;
      own = All-from_recursion (λ e. IfSome e (λ pc. pc ≤ length (instrs_of k))) (Some 0 ∷ replicate 7 None) (omega arith, (tt, (tt, (tt, (tt, (tt, (tt, (tt, tt))))))));
      targets = All-from_recursion (λ i. IfSome (target_of i) (λ to. to ≤ length (instrs_of k))) (instrs_of k) (instrs_within k);
    }
