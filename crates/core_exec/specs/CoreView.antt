-- What contracts see of a core, and of what it does next.
use Rattle.std.specs.Prelude.{◌-◌, ◌^◌, ◌<◌, Bool, true, false, Option, IsSome}
use Rattle.pei_types.specs.declared.calls.Call.{Call}
use Rattle.pei_types.specs.declared.calls.Call.TheVariants as call
use Rattle.pei_types.specs.declared.events.EventKind.{EventKind}
use Rattle.pei_types.specs.declared.events.EventKind.TheVariants as event
use Rattle.pei_types.specs.declared.instructions.Instr.{Instr}
use Rattle.pei_types.specs.Core.{CoreState}
use Rattle.pei_types.specs.Core as core
use Rattle.core_exec.specs.declared.next.CoreNext.{CoreNext}
use Rattle.core_exec.specs.declared.next.CoreNext.TheVariants as next

-- a core's state, and the instruction at which it stopped, if it stopped at one
pub record Standing : Type 0 where
  pub state : CoreState
  pub instr : Option Instr

-- what a core does next, in the words of the definitions
abbrev pub seen : CoreNext → core.CoreNext
seen (next.Call x) = core.Calls x
seen (next.Busy register pei) = core.Busy register pei
seen (next.Ended kind) = core.Ended kind

-- whether a core asks for something and goes on once that is answered: a call that is not its end
abbrev pub is_request : Call → Bool
is_request (call.End kind) = false
is_request _ = true

abbrev pub is_asking : CoreNext → Bool
is_asking (next.Call x) = is_request x
is_asking (next.Busy register pei) = false
is_asking (next.Ended kind) = false

-- whether an event answers a call so that its instruction is retired
abbrev pub retires : EventKind → Bool
retires (event.Load addr value) = true
retires (event.Store addr value) = true
retires (event.Issue seq lane o block operands) = true
retires event.FenceEnd = true
retires (event.Out value) = true
retires _ = false

-- A core stands at an instruction that can be retired.
abbrev pub MayRetire : Standing → Type 0
MayRetire s = IsSome s.instr × (s.state.retired < 2 ^ 32 - 1)
