-- What contracts see of what a register waits for.
use Rattle.std.specs.Prelude.{ℕ, Bool, ◌&&◌, ◌==◌, List, Option, Some, None, is_some}
use Rattle.std.specs.List.{list_any}
use Rattle.pei_types.specs.declared.instructions.Instr.{Instr}
use Rattle.pei_types.specs.Core.{wait_at, registers_of}
use Rattle.pei_types.specs.Core as core
use Rattle.core_exec.specs.declared.waits.ReplyWord.{ReplyWord}
use Rattle.core_exec.specs.declared.waits.ReplyWord.TheVariants as word
use Rattle.core_exec.specs.declared.waits.Wait.{Wait}

-- the place of a word in its reply
abbrev pub place_of : ReplyWord → ℕ
place_of word.First = 0
place_of word.Second = 1

-- what a register waits for, if it waits
abbrev pub seen_wait : Option Wait → Option core.Wait
seen_wait None = None
seen_wait (Some w) = Some (record { seq = w.seq; word = place_of w.word })

-- whether an instruction reads or writes a register that waits
abbrev pub is_busy : List (Option core.Wait) → Instr → ℕ → Bool
is_busy waits i r = is_some (wait_at waits r) && list_any (λ q. q == r) (registers_of i)
