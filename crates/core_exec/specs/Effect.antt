-- What contracts see of the effect of an instruction.
use Rattle.std.specs.Prelude.{⊤, ℕ, ◌+◌, ◌<◌, Bool, true, false, List, slice_index, slice_set, Option, Some, None}
use Rattle.pei_types.specs.declared.operations.Op.{Op}
use Rattle.pei_types.specs.declared.operations.Op.TheVariants as op
use Rattle.pei_types.specs.Core as core
use Rattle.core_exec.specs.declared.effects.Effect.{Effect}
use Rattle.core_exec.specs.declared.effects.Effect.TheVariants as effect

-- the effect of an instruction at pc, with these registers
abbrev pub seen_effect : ℕ → List ℕ → Effect → core.Effect
seen_effect pc registers (effect.Writes register value) = core.Goes (pc + 1) (slice_set registers register value)
seen_effect pc registers (effect.Goes to) = core.Goes to registers
seen_effect pc registers (effect.Asks x) = core.Asks x

-- a register that is written is there
abbrev pub HasRegister : Effect → Type 0
HasRegister (effect.Writes register value) = register < 16
HasRegister (effect.Goes to) = ⊤
HasRegister (effect.Asks x) = ⊤

-- whether an operation reads all of its block, and not just one word
abbrev pub is_on_whole_block : Op → Bool
is_on_whole_block (op.Inc word) = false
is_on_whole_block (op.Min word) = false
is_on_whole_block op.Probe = true
is_on_whole_block op.Hist = true
is_on_whole_block op.Dot = true

-- the shift that an operation is asked for
abbrev pub shift_of : Op → List ℕ → Option ℕ
shift_of (op.Inc word) operands = None
shift_of (op.Min word) operands = None
shift_of op.Probe operands = None
shift_of op.Hist operands = Some (slice_index operands 0)
shift_of op.Dot operands = None
