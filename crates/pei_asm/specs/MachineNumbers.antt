-- Numbers of 64 bits in programs.
use Rattle.std.specs.Prelude.{ℕ, ◌<◌, ◌^◌, ⊤, List, length, All}
use Rattle.pei_types.specs.declared.instructions.Ask.{Ask}
use Rattle.pei_types.specs.declared.instructions.Ask.TheVariants as ask
use Rattle.pei_types.specs.declared.instructions.Instr.{Instr}
use Rattle.pei_types.specs.declared.instructions.Instr.TheVariants as instr

abbrev pub IsNumber : ℕ → Type 0
IsNumber n = n < 2 ^ 64

-- the number or the place of an instruction is one
abbrev pub HasNumber : Instr → Type 0
HasNumber (instr.Li rd n) = IsNumber n
HasNumber (instr.Addi rd ra n) = IsNumber n
HasNumber (instr.Andi rd ra n) = IsNumber n
HasNumber (instr.Shl rd ra n) = IsNumber n
HasNumber (instr.Shr rd ra n) = IsNumber n
HasNumber (instr.Ld rd ra n) = IsNumber n
HasNumber (instr.St rv ra n) = IsNumber n
HasNumber (instr.Beq ra rb to) = IsNumber to
HasNumber (instr.Bne ra rb to) = IsNumber to
HasNumber (instr.Bltu ra rb to) = IsNumber to
HasNumber (instr.Bgeu ra rb to) = IsNumber to
HasNumber (instr.Jmp to) = IsNumber to
HasNumber (instr.Pinc ra n) = IsNumber n
HasNumber (instr.Pmin ra n rv) = IsNumber n
HasNumber (instr.Pprobe rd ra n rk) = IsNumber n
HasNumber (instr.Phist rd ra n rs) = IsNumber n
HasNumber (instr.Pdot rd ra n rx) = IsNumber n
HasNumber _ = ⊤

-- so are both numbers of an ask
abbrev pub HasNumbers : Ask → Type 0
HasNumbers (ask.Show addr count) = IsNumber addr × IsNumber count
HasNumbers (ask.Sum addr count) = IsNumber addr × IsNumber count

-- a line of words has a word, and numbers alone
pub record IsLineOfNumbers (words : ℕ × List ℕ) : Type 0 where
  pub some : 0 < length words.1
  pub addr : IsNumber words.0
  pub values : All IsNumber words.1
