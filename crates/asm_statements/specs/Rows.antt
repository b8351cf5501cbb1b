-- What the code's shapes of operands stand for.
use Rattle.std.specs.Prelude.{ℕ, ◌^◌, nat_lt, if◌then◌else◌, Option, Some, None}
use Rattle.asm_statements.specs.Mnemonics.{register_below, any_number, amount, one_core, all_cores, place}
use Rattle.asm_statements.specs.Mnemonics as table
use Rattle.asm_statements.specs.declared.mnemonics.Shape.{Shape}
use Rattle.asm_statements.specs.declared.mnemonics.Shape.TheVariants as shape

abbrev pub shape_of : Shape → table.Shape
shape_of (shape.RegisterBelow n) = register_below n
shape_of shape.Number = any_number
shape_of shape.Amount = amount
shape_of shape.OneCore = one_core
shape_of shape.AllCores = all_cores
shape_of shape.Place = place

-- a number below 2^64, or none
abbrev pub below_two_to_64 : ℕ → Option ℕ
below_two_to_64 n = if nat_lt n (2 ^ 64) then Some n else None
