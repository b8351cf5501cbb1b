-- The busy registers of an instruction.
use Rattle.std.proofs.Common.{◌≡◌, List, Option, None, replicate, refl}
use Rattle.pei_types.specs.declared.instructions.Instr.{Instr}
use Rattle.pei_types.specs.Core.{Wait, busy_register}

-- where no register waits, no instruction finds a busy one
pub busy_register-replicate : (waits : List (Option Wait)) (i : Instr) → waits ≡ replicate 16 None → busy_register waits i ≡ None
unfolding busy_register
busy_register-replicate waits i none = rw none refl
