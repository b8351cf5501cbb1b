-- What a core does next, from the list of its events.
use Rattle.std.specs.Prelude.{ℕ, zero, suc, ◌+◌, ◌-◌, ◌*◌, ◌/◌, ◌%◌, ◌^◌, Bool, true, false, not, ◌&&◌, ◌==◌, nat_lt, if◌then◌else◌, List, [], ◌∷◌, map, filter, find, Option, Some, None, is_some, slice_index, slice_index_or, slice_set, replicate, bit_and, bit_or, bit_xor}
use Rattle.std.specs.List.{list_any, range_with_len, zip}
use Rattle.pei_types.specs.declared.identifiers.CoreId.{CoreId}
use Rattle.pei_types.specs.declared.identifiers.PeiId.{PeiId}
use Rattle.pei_types.specs.declared.instructions.Instr.{Instr}
use Rattle.pei_types.specs.declared.instructions.Instr.TheVariants as instr
use Rattle.pei_types.specs.declared.operations.Op.{Op}
use Rattle.pei_types.specs.declared.operations.Op.TheVariants as op
use Rattle.pei_types.specs.declared.operations.Reply.{Reply}
use Rattle.pei_types.specs.declared.calls.Call.{Call}
use Rattle.pei_types.specs.declared.calls.Call.TheVariants as call
use Rattle.pei_types.specs.declared.calls.EndKind.{EndKind}
use Rattle.pei_types.specs.declared.calls.EndKind.TheVariants as ends
use Rattle.pei_types.specs.declared.calls.TrapCause.{TrapCause}
use Rattle.pei_types.specs.declared.calls.TrapCause.TheVariants as cause
use Rattle.pei_types.specs.declared.machines.CoreConfig.{CoreConfig}
use Rattle.pei_types.specs.declared.machines.MachineSpec.{MachineSpec}
use Rattle.pei_types.specs.declared.events.Event.{Event}
use Rattle.pei_types.specs.declared.events.EventKind.{EventKind}
use Rattle.pei_types.specs.declared.events.EventKind.TheVariants as event
use Rattle.pei_types.specs.Blocks.{block_of, word_of, same_core}
use Rattle.pei_types.specs.Program.{Listing, Contents, instr_at, start_of}

-- what a register waits for: a word of the reply of the core's PEI of this number
pub record Wait : Type 0 where
  pub seq : ℕ
  pub word : ℕ

-- A core between two instructions. `waits` has for each register what it waits for; `raced` is the race that ends the
-- core next, `ended` how it ended.
pub record CoreState : Type 0 where
  pub core : CoreId
  pub pc : ℕ
  pub registers : List ℕ
  pub retired : ℕ
  pub waits : List (Option Wait)
  pub raced : Option EndKind
  pub ended : Option EndKind

-- what a core does next: a call, nothing until a PEI has acted, or nothing more
pub data CoreNext : Type 0 where
  Calls : (call : Call) → CoreNext
  Busy : (register : ℕ) (pei : PeiId) → CoreNext
  Ended : (kind : EndKind) → CoreNext

-- a core at its entry: all registers 0, but the last has the core's number
abbrev pub core_at_start : Contents → CoreId → CoreState
core_at_start image c =
    record {
      core = c;
      pc = start_of image c;
      registers = slice_set (replicate 16 0) 15 c.0;
      retired = 0;
      waits = replicate 16 None;
      raced = None;
      ended = None;
    }

-- the registers that an instruction reads or writes
abbrev pub registers_of : Instr → List ℕ
registers_of (instr.Li rd n) = rd ∷ []
registers_of (instr.Add rd ra rb) = rd ∷ ra ∷ rb ∷ []
registers_of (instr.Sub rd ra rb) = rd ∷ ra ∷ rb ∷ []
registers_of (instr.Mul rd ra rb) = rd ∷ ra ∷ rb ∷ []
registers_of (instr.And rd ra rb) = rd ∷ ra ∷ rb ∷ []
registers_of (instr.Or rd ra rb) = rd ∷ ra ∷ rb ∷ []
registers_of (instr.Xor rd ra rb) = rd ∷ ra ∷ rb ∷ []
registers_of (instr.Addi rd ra n) = rd ∷ ra ∷ []
registers_of (instr.Andi rd ra n) = rd ∷ ra ∷ []
registers_of (instr.Shl rd ra n) = rd ∷ ra ∷ []
registers_of (instr.Shr rd ra n) = rd ∷ ra ∷ []
registers_of (instr.Ld rd ra n) = rd ∷ ra ∷ []
registers_of (instr.St rv ra n) = rv ∷ ra ∷ []
registers_of (instr.Beq ra rb to) = ra ∷ rb ∷ []
registers_of (instr.Bne ra rb to) = ra ∷ rb ∷ []
registers_of (instr.Bltu ra rb to) = ra ∷ rb ∷ []
registers_of (instr.Bgeu ra rb to) = ra ∷ rb ∷ []
registers_of (instr.Jmp to) = []
registers_of (instr.Pinc ra n) = ra ∷ []
registers_of (instr.Pmin ra n rv) = ra ∷ rv ∷ []
registers_of (instr.Pprobe rd ra n rk) = rd ∷ (rd + 1) ∷ ra ∷ rk ∷ []
registers_of (instr.Phist rd ra n rs) = rd ∷ (rd + 1) ∷ ra ∷ rs ∷ []
registers_of (instr.Pdot rd ra n rw) = rd ∷ ra ∷ rw ∷ (rw + 1) ∷ (rw + 2) ∷ (rw + 3) ∷ []
registers_of instr.Pfence = []
registers_of (instr.Out ra) = ra ∷ []
registers_of instr.Halt = []

-- the registers that the reply of a PEI goes to, in the order of its words
abbrev pub reply_registers : Instr → List ℕ
reply_registers (instr.Pprobe rd ra n rk) = rd ∷ (rd + 1) ∷ []
reply_registers (instr.Phist rd ra n rs) = rd ∷ (rd + 1) ∷ []
reply_registers (instr.Pdot rd ra n rw) = rd ∷ []
reply_registers _ = []

-- the register that a load fills
abbrev pub loaded_register : Instr → Option ℕ
loaded_register (instr.Ld rd ra n) = Some rd
loaded_register _ = None

-- what a register waits for
abbrev pub wait_at : List (Option Wait) → ℕ → Option Wait
wait_at waits r = slice_index_or waits r None

-- the lowest register of an instruction that waits for a reply
unfoldable pub busy_register : List (Option Wait) → Instr → Option ℕ
busy_register waits i = find (λ r. is_some (wait_at waits r) && list_any (λ q. q == r) (registers_of i)) (range_with_len 0 16)

-- the number of the PEI that is waited for
abbrev pub awaited : Option Wait → ℕ
awaited None = 0
awaited (Some w) = w.seq

-- The first trap that an access owes: its address is no multiple of its size, lies past memory, or its shift is
-- above 24.
abbrev pub shift_trap : Option ℕ → Option TrapCause
shift_trap None = None
shift_trap (Some shift) = if nat_lt 24 shift then Some cause.Shift else None

abbrev pub operand_trap : Bool → Option ℕ → ℕ → ℕ → Option TrapCause
operand_trap whole_block shift addr blocks =
    if addr % (if whole_block then 64 else 8) == 0
    then (if nat_lt addr (64 * blocks) then shift_trap shift else Some cause.Range)
    else Some cause.Align

-- what an instruction does at once, or the call that it makes
pub data Effect : Type 0 where
  Goes : (pc : ℕ) (registers : List ℕ) → Effect
  Asks : (call : Call) → Effect

abbrev pub asks_unless : Option TrapCause → ℕ → Call → Effect
asks_unless None pc x = Asks x
asks_unless (Some trap) pc x = Asks (call.End (ends.Trap pc trap))

-- a number of 64 bits
abbrev pub low_64_bits : ℕ → ℕ
low_64_bits n = n % 2 ^ 64

abbrev pub branch : Bool → ℕ → ℕ → List ℕ → Effect
branch taken pc to r = if taken then Goes to r else Goes (pc + 1) r

-- a PEI on the block of an address
abbrev pub pei_call : Op → ℕ → List ℕ → Call
pei_call o addr operands = call.Pei o (block_of addr) (record { 0 = operands })

-- what a machine gives its cores: how much each may retire, and how many blocks memory has
abbrev pub core_config : MachineSpec → CoreConfig
core_config m = record { fuel = m.fuel; blocks = m.blocks }

-- an instruction at pc, with registers r
abbrev pub effect_of : CoreConfig → ℕ → List ℕ → Instr → Effect
effect_of config pc r (instr.Li rd n) = Goes (pc + 1) (slice_set r rd n)
effect_of config pc r (instr.Add rd ra rb) = Goes (pc + 1) (slice_set r rd (low_64_bits (slice_index r ra + slice_index r rb)))
effect_of config pc r (instr.Sub rd ra rb) = Goes (pc + 1) (slice_set r rd (low_64_bits (slice_index r ra + (2 ^ 64 - slice_index r rb))))
effect_of config pc r (instr.Mul rd ra rb) = Goes (pc + 1) (slice_set r rd (low_64_bits (slice_index r ra * slice_index r rb)))
effect_of config pc r (instr.And rd ra rb) = Goes (pc + 1) (slice_set r rd (bit_and (slice_index r ra) (slice_index r rb)))
effect_of config pc r (instr.Or rd ra rb) = Goes (pc + 1) (slice_set r rd (bit_or (slice_index r ra) (slice_index r rb)))
effect_of config pc r (instr.Xor rd ra rb) = Goes (pc + 1) (slice_set r rd (bit_xor (slice_index r ra) (slice_index r rb)))
effect_of config pc r (instr.Addi rd ra n) = Goes (pc + 1) (slice_set r rd (low_64_bits (slice_index r ra + n)))
effect_of config pc r (instr.Andi rd ra n) = Goes (pc + 1) (slice_set r rd (bit_and (slice_index r ra) n))
effect_of config pc r (instr.Shl rd ra n) = Goes (pc + 1) (slice_set r rd (low_64_bits (slice_index r ra * 2 ^ (n % 64))))
effect_of config pc r (instr.Shr rd ra n) = Goes (pc + 1) (slice_set r rd (slice_index r ra / 2 ^ (n % 64)))
effect_of config pc r (instr.Ld rd ra n) =
    let addr = low_64_bits (slice_index r ra + n) in asks_unless (operand_trap false None addr config.blocks) pc (call.Load pc addr)
effect_of config pc r (instr.St rv ra n) =
    let addr = low_64_bits (slice_index r ra + n) in asks_unless (operand_trap false None addr config.blocks) pc (call.Store pc addr (slice_index r rv))
effect_of config pc r (instr.Beq ra rb to) = branch (slice_index r ra == slice_index r rb) pc to r
effect_of config pc r (instr.Bne ra rb to) = branch (not (slice_index r ra == slice_index r rb)) pc to r
effect_of config pc r (instr.Bltu ra rb to) = branch (nat_lt (slice_index r ra) (slice_index r rb)) pc to r
effect_of config pc r (instr.Bgeu ra rb to) = branch (not (nat_lt (slice_index r ra) (slice_index r rb))) pc to r
effect_of config pc r (instr.Jmp to) = Goes to r
effect_of config pc r (instr.Pinc ra n) =
    let addr = low_64_bits (slice_index r ra + n)
    in asks_unless (operand_trap false None addr config.blocks) pc (pei_call (op.Inc (word_of addr)) addr (replicate 4 0))
effect_of config pc r (instr.Pmin ra n rv) =
    let addr = low_64_bits (slice_index r ra + n)
    in asks_unless (operand_trap false None addr config.blocks) pc (pei_call (op.Min (word_of addr)) addr (slice_set (replicate 4 0) 0 (slice_index r rv)))
effect_of config pc r (instr.Pprobe rd ra n rk) =
    let addr = low_64_bits (slice_index r ra + n)
    in asks_unless (operand_trap true None addr config.blocks) pc (pei_call op.Probe addr (slice_set (replicate 4 0) 0 (slice_index r rk)))
effect_of config pc r (instr.Phist rd ra n rs) =
    let addr = low_64_bits (slice_index r ra + n)
    in asks_unless (operand_trap true (Some (slice_index r rs)) addr config.blocks) pc (pei_call op.Hist addr (slice_set (replicate 4 0) 0 (slice_index r rs)))
effect_of config pc r (instr.Pdot rd ra n rw) =
    let addr = low_64_bits (slice_index r ra + n)
    in asks_unless (operand_trap true None addr config.blocks) pc (pei_call op.Dot addr (map (λ k. slice_index r (rw + k)) (range_with_len 0 4)))
effect_of config pc r instr.Pfence = Asks call.Fence
effect_of config pc r (instr.Out ra) = Asks (call.Out (slice_index r ra))
effect_of config pc r instr.Halt = Asks (call.End ends.Halt)

-- one step of a core: a retired instruction, or what the core stops at
pub data CoreStep : Type 0 where
  Retires : (state : CoreState) → CoreStep
  Stops : (next : CoreNext) → CoreStep

abbrev pub step_of_effect : CoreState → Effect → CoreStep
step_of_effect s (Goes pc registers) = Retires (record s { pc = pc; registers = registers; retired = s.retired + 1 })
step_of_effect s (Asks x) = Stops (Calls x)

abbrev pub step_unless_busy : CoreConfig → CoreState → Instr → Option ℕ → CoreStep
step_unless_busy config s i None = step_of_effect s (effect_of config s.pc s.registers i)
step_unless_busy config s i (Some r) = Stops (Busy r (record { core = s.core; seq = awaited (wait_at s.waits r) }))

abbrev pub step_at : CoreConfig → CoreState → Option Instr → CoreStep
step_at config s None = Stops (Calls (call.End (ends.Trap s.pc cause.Pc)))
step_at config s (Some i) = step_unless_busy config s i (busy_register s.waits i)

abbrev pub step_unless_over : Listing → CoreConfig → CoreState → Option EndKind → Option EndKind → CoreStep
step_unless_over p config s (Some kind) raced = Stops (Ended kind)
step_unless_over p config s None (Some race) = Stops (Calls (call.End race))
step_unless_over p config s None None =
    if nat_lt s.retired config.fuel then step_at config s (instr_at p s.pc) else Stops (Calls (call.End ends.Fuel))

abbrev pub core_step : Listing → CoreConfig → CoreState → CoreStep
core_step p config s = step_unless_over p config s s.ended s.raced

-- the core where it stops next, after at most n instructions
abbrev pub after_steps : Listing → CoreConfig → ℕ → CoreState → CoreState
after_steps p config zero s = s
after_steps p config (suc n) s = elim (core_step p config s) [ Retires t ↦ after_steps p config n t | Stops x ↦ s ]

-- The core where it stops next: with `fuel` instructions retired every core stops.
abbrev pub at_stop : Listing → CoreConfig → CoreState → CoreState
at_stop p config s = after_steps p config (suc (config.fuel - s.retired)) s

abbrev pub next_of_step : CoreStep → CoreNext
next_of_step (Retires s) = Calls (call.End ends.Fuel)
next_of_step (Stops x) = x

abbrev pub next_of : Listing → CoreConfig → CoreState → CoreNext
next_of p config s = next_of_step (core_step p config (at_stop p config s))

-- the core behind the instruction whose call was answered
abbrev pub after_retiring : CoreState → List ℕ → List (Option Wait) → CoreState
after_retiring s registers waits = record s { pc = s.pc + 1; registers = registers; retired = s.retired + 1; waits = waits }

-- the registers after a load's value came
abbrev pub with_loaded : List ℕ → Option ℕ → ℕ → List ℕ
with_loaded r None value = r
with_loaded r (Some rd) value = slice_set r rd value

abbrev pub with_loaded_at : List ℕ → Option Instr → ℕ → List ℕ
with_loaded_at r None value = r
with_loaded_at r (Some i) value = with_loaded r (loaded_register i) value

-- the waits, where these registers wait for the words of a reply from one on
abbrev pub with_waits : ℕ → ℕ → List ℕ → List (Option Wait) → List (Option Wait)
with_waits seq word [] waits = waits
with_waits seq word (r ∷ rs) waits = with_waits seq (word + 1) rs (slice_set waits r (Some (record { seq = seq; word = word })))

abbrev pub with_waits_at : Option Instr → ℕ → List (Option Wait) → List (Option Wait)
with_waits_at None seq waits = waits
with_waits_at (Some i) seq waits = with_waits seq 0 (reply_registers i) waits

-- a register after the reply of a PEI came: the word that it waited for, else what it held
abbrev pub filled : ℕ → Reply → ℕ → Option Wait → ℕ
filled seq reply value None = value
filled seq reply value (Some w) = if w.seq == seq then slice_index reply.words w.word else value

abbrev pub with_reply : ℕ → Reply → List ℕ → List (Option Wait) → List ℕ
with_reply seq reply registers waits = map (λ v. filled seq reply v.0 v.1) (zip registers waits)

-- what a register waits for after that reply came
abbrev pub wait_after : ℕ → Option Wait → Option Wait
wait_after seq None = None
wait_after seq (Some w) = if w.seq == seq then None else Some w

-- A core, as it stopped, after one of its events. What the core's program asked for is answered, or a PEI has acted.
abbrev pub after_answer : Listing → CoreState → EventKind → CoreState
after_answer p s (event.Load addr value) = after_retiring s (with_loaded_at s.registers (instr_at p s.pc) value) s.waits
after_answer p s (event.Store addr value) = after_retiring s s.registers s.waits
after_answer p s (event.Issue seq lane o block operands) = after_retiring s s.registers (with_waits_at (instr_at p s.pc) seq s.waits)
after_answer p s event.FenceEnd = after_retiring s s.registers s.waits
after_answer p s (event.Out value) = after_retiring s s.registers s.waits
after_answer p s (event.Race pc block by) = record s { raced = Some (ends.Race pc block by) }
after_answer p s (event.End kind) = record s { ended = Some kind }
after_answer p s (event.Act seq reply) =
    record s { registers = with_reply seq reply s.registers s.waits; waits = map (wait_after seq) s.waits }
after_answer p s _ = s

-- the events of one core
abbrev pub events_of : CoreId → List Event → List Event
events_of c events = filter (λ e. same_core e.actor.core c) events

abbrev pub core_after : Listing → CoreConfig → CoreState → List Event → CoreState
core_after p config s [] = s
core_after p config s (e ∷ events) = core_after p config (after_answer p (at_stop p config s) e.kind) events

-- What core c of a machine that gives its cores this does next, after these events of its own.
abbrev pub core_next : Listing → Contents → CoreConfig → CoreId → List Event → CoreNext
core_next p image config c events = next_of p config (core_after p config (core_at_start image c) events)

-- what core c does next after all these events of the machine
abbrev pub next_of_core : Listing → MachineSpec → Contents → List Event → CoreId → CoreNext
next_of_core p m image events c = core_next p image (core_config m) c (events_of c events)
