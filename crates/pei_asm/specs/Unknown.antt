-- Labels that are used and not defined.
use Rattle.std.specs.Prelude.{Bool, ◌&&◌, not, List}
use Rattle.asm_statements.specs.Tokens.{Placed}
use Rattle.asm_statements.specs.Statements.{Line}
use Rattle.pei_asm.specs.Meaning.{is_defined, names_label}

-- an operand is a label that no line defines
abbrev pub is_undefined : List Line → Placed → Bool
is_undefined lines t = names_label t && not (is_defined lines t)
