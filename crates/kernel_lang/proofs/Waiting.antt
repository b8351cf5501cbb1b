-- Whether a writer may be on its way behind expressions.
use Rattle.std.proofs.Common.{◌≡◌, Bool, true, false, not, ◌&&◌, ◌||◌, Result, Ok, Err, refl}
use Rattle.std.specs.Result.{OnOk}
use Rattle.kernel_text.specs.declared.tree.Operator.{Operator}
use Rattle.kernel_text.specs.Trees.{Expression, binary}
use Rattle.kernel_lang.specs.Code.{reads_array, still}
use Rattle.kernel_lang.specs.Homes.{Frame}

-- behind two expressions no writer is on its way if one of them reads an array
still_both : (w a b : Bool) → ((w && not a) && not b) ≡ (w && not (a || b))
still_both true true b = refl
still_both true false b = refl
still_both false a b = refl

pub still_behind_both : (f : Frame) (w : Bool) (o : Operator) (left right : Expression) → still f (still f w left) right ≡ still f w (binary o left right)
still_behind_both f w o left right = still_both w (reads_array f left) (reads_array f right)

-- a fact holds where there is a value
pub when_ok : {T E P : Type 0} (r : Result T E) → P → OnOk r P
when_ok (Ok v) p = p
when_ok (Err e) p = tt

pub ok_more : {T E P Q : Type 0} (r : Result T E) → (P → Q) → OnOk r P → OnOk r Q
ok_more (Ok v) more p = more p
ok_more (Err e) more p = tt
