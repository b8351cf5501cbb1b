-- A core asks only for what the machine can serve.
use Rattle.std.proofs.Common.{◌≡◌, ℕ, ◌+◌, ◌*◌, ◌/◌, ◌%◌, ◌<◌, ◌≤◌, Bool, true, false, ◌&&◌, ◌==◌, nat_lt, if◌then◌else◌, List, slice_set, replicate, slice_index, Option, Some, None, refl, subst, arith}
use Rattle.std.proofs.lemmas.Bool.Decides.{nat_tests}
use Rattle.pei_types.specs.declared.instructions.Instr.{Instr}
use Rattle.pei_types.specs.declared.instructions.Instr.TheVariants as instr
use Rattle.pei_types.specs.declared.calls.Call.{Call}
use Rattle.pei_types.specs.declared.calls.Call.TheVariants as call
use Rattle.pei_types.specs.declared.calls.EndKind.{EndKind}
use Rattle.pei_types.specs.declared.calls.EndKind.TheVariants as ends
use Rattle.pei_types.specs.declared.calls.TrapCause.{TrapCause}
use Rattle.pei_types.specs.declared.calls.TrapCause.TheVariants as cause
use Rattle.pei_types.specs.declared.machines.CoreConfig.{CoreConfig}
use Rattle.pei_types.specs.declared.operations.Op.TheVariants as op
use Rattle.pei_types.specs.Calls.{CallFits}
use Rattle.pei_types.specs.Blocks.{word_of}
use Rattle.pei_types.specs.Core.{CoreState, Stops, Calls, step_unless_over, step_at, step_unless_busy, step_of_effect, asks_unless, branch, at_stop, next_of, next_of_step, effect_of, operand_trap, shift_trap, busy_register, pei_call, low_64_bits}
use Rattle.pei_types.specs.Program.{Listing, instr_at}
use Rattle.std.proofs.lemmas.Bool.{ltb-true}

-- what a core does is a call
calls_is : (x y : Call) → Calls x ≡ Calls y → x ≡ y
calls_is x y h = search

-- an access that owes no trap: its address is aligned and in memory, and its shift is one
pub record Fitting (whole_block : Bool) (shift : Option ℕ) (addr blocks : ℕ) : Type 0 where
  pub aligned : (addr % (if whole_block then 64 else 8) == 0) ≡ true
  pub inside : nat_lt addr (64 * blocks) ≡ true
  pub shifts : shift_trap shift ≡ None

no_trap : (whole_block : Bool) (shift : Option ℕ) (addr blocks : ℕ) → operand_trap whole_block shift addr blocks ≡ None → Fitting whole_block shift addr blocks
no_trap whole_block shift addr blocks h = by (addr % (if whole_block then 64 else 8) == 0) (nat_lt addr (64 * blocks)) refl refl h
  where
    by : (a b : Bool) → (addr % (if whole_block then 64 else 8) == 0) ≡ a → nat_lt addr (64 * blocks) ≡ b → (if a then (if b then shift_trap shift else Some cause.Range) else Some cause.Align) ≡ None → Fitting whole_block shift addr blocks
    by true true p q k = record { aligned = p; inside = q; shifts = k }
    by true false p q k = absurd (cc k)
    by false b p q k = absurd (cc k)

-- the call of an access that may trap
traps_or : (blocks pc : ℕ) (s : CoreState) (whole_block : Bool) (shift : Option ℕ) (addr : ℕ) (x y : Call) → (Fitting whole_block shift addr blocks → CallFits blocks x) → next_of_step (step_of_effect s (asks_unless (operand_trap whole_block shift addr blocks) pc x)) ≡ Calls y → CallFits blocks y
traps_or blocks pc s whole_block shift addr x y fits h = by (operand_trap whole_block shift addr blocks) refl h
  where
    by : (o : Option TrapCause) → operand_trap whole_block shift addr blocks ≡ o → next_of_step (step_of_effect s (asks_unless o pc x)) ≡ Calls y → CallFits blocks y
    by None e k = subst (CallFits blocks) (calls_is x y k) (fits (no_trap whole_block shift addr blocks e))
    by (Some trap) e k = subst (CallFits blocks) (calls_is _ y k) tt

word_fits : (blocks addr : ℕ) → Fitting false None addr blocks → ((addr % 8 == 0) && nat_lt addr (64 * blocks)) ≡ true
word_fits blocks addr h = rw (h.aligned, h.inside) refl

block_fits : (whole_block : Bool) (shift : Option ℕ) (blocks addr : ℕ) → Fitting whole_block shift addr blocks → addr / 64 < blocks
block_fits whole_block shift blocks addr h = let inside = ltb-true addr (64 * blocks) h.inside in omega (arith, inside)

no_shift : (n : ℕ) → shift_trap (Some n) ≡ None → n ≤ 24
no_shift n h = by (nat_lt 24 n) refl h
  where
    by : (b : Bool) → nat_lt 24 n ≡ b → (if b then Some cause.Shift else None) ≡ None → n ≤ 24
    by true e k = absurd (cc k)
    by false e k = grind (arith, nat_tests)

branch_asks : (b : Bool) (pc to : ℕ) (r : List ℕ) (blocks : ℕ) (s : CoreState) (y : Call) → next_of_step (step_of_effect s (branch b pc to r)) ≡ Calls y → CallFits blocks y
branch_asks true pc to r blocks s y h = subst (CallFits blocks) (calls_is _ y h) tt
branch_asks false pc to r blocks s y h = subst (CallFits blocks) (calls_is _ y h) tt

by_effect : (config : CoreConfig) (s : CoreState) (i : Instr) (y : Call) → next_of_step (step_of_effect s (effect_of config s.pc s.registers i)) ≡ Calls y → CallFits config.blocks y
by_effect config s (instr.Ld rd ra n) y h =
    let addr = low_64_bits (slice_index s.registers ra + n)
    in traps_or config.blocks s.pc s false None addr (call.Load s.pc addr) y (word_fits config.blocks addr) h
by_effect config s (instr.St rv ra n) y h =
    let addr = low_64_bits (slice_index s.registers ra + n)
    in traps_or config.blocks s.pc s false None addr (call.Store s.pc addr (slice_index s.registers rv)) y (word_fits config.blocks addr) h
by_effect config s (instr.Pinc ra n) y h =
    let addr = low_64_bits (slice_index s.registers ra + n)
    in traps_or config.blocks s.pc s false None addr (pei_call (op.Inc (word_of addr)) addr (replicate 4 0)) y (λ f. (omega arith, block_fits false None config.blocks addr f)) h
by_effect config s (instr.Pmin ra n rv) y h =
    let addr = low_64_bits (slice_index s.registers ra + n)
    in traps_or config.blocks s.pc s false None addr (pei_call (op.Min (word_of addr)) addr (slice_set (replicate 4 0) 0 (slice_index s.registers rv))) y (λ f. (omega arith, block_fits false None config.blocks addr f)) h
by_effect config s (instr.Pprobe rd ra n rk) y h =
    let addr = low_64_bits (slice_index s.registers ra + n)
    in traps_or config.blocks s.pc s true None addr (pei_call op.Probe addr (slice_set (replicate 4 0) 0 (slice_index s.registers rk))) y (λ f. (tt, block_fits true None config.blocks addr f)) h
by_effect config s (instr.Phist rd ra n rs) y h =
    let addr = low_64_bits (slice_index s.registers ra + n)
    in let shift = slice_index s.registers rs
    in traps_or config.blocks s.pc s true (Some shift) addr (pei_call op.Hist addr (slice_set (replicate 4 0) 0 shift)) y (λ f. (no_shift shift f.shifts, block_fits true (Some shift) config.blocks addr f)) h
by_effect config s (instr.Pdot rd ra n rw') y h =
    let addr = low_64_bits (slice_index s.registers ra + n)
    in traps_or config.blocks s.pc s true None addr (pei_call op.Dot addr _) y (λ f. (tt, block_fits true None config.blocks addr f)) h
by_effect config s (instr.Beq ra rb to) y h = branch_asks _ s.pc to s.registers config.blocks s y h
by_effect config s (instr.Bne ra rb to) y h = branch_asks _ s.pc to s.registers config.blocks s y h
by_effect config s (instr.Bltu ra rb to) y h = branch_asks _ s.pc to s.registers config.blocks s y h
by_effect config s (instr.Bgeu ra rb to) y h = branch_asks _ s.pc to s.registers config.blocks s y h
by_effect config s instr.Pfence y h = subst (CallFits config.blocks) (calls_is _ y h) tt
by_effect config s (instr.Out ra) y h = subst (CallFits config.blocks) (calls_is _ y h) tt
by_effect config s instr.Halt y h = subst (CallFits config.blocks) (calls_is _ y h) tt
by_effect config s _ y h = subst (CallFits config.blocks) (calls_is _ y h) tt

by_instr : (config : CoreConfig) (s : CoreState) (o : Option Instr) (y : Call) → next_of_step (step_at config s o) ≡ Calls y → CallFits config.blocks y
by_instr config s None y h = subst (CallFits config.blocks) (calls_is _ y h) tt
by_instr config s (Some i) y h = by (busy_register s.waits i) h
  where
    by : (o : Option ℕ) → next_of_step (step_unless_busy config s i o) ≡ Calls y → CallFits config.blocks y
    by None k = by_effect config s i y k
    by (Some r) k = absurd (cc k)

by_fuel : (p : Listing) (config : CoreConfig) (s : CoreState) (b : Bool) (y : Call) → next_of_step (if b then step_at config s (instr_at p s.pc) else Stops (Calls (call.End ends.Fuel))) ≡ Calls y → CallFits config.blocks y
by_fuel p config s true y h = by_instr config s (instr_at p s.pc) y h
by_fuel p config s false y h = subst (CallFits config.blocks) (calls_is _ y h) tt

by_end : (p : Listing) (config : CoreConfig) (s : CoreState) (ended raced : Option EndKind) (y : Call) → next_of_step (step_unless_over p config s ended raced) ≡ Calls y → CallFits config.blocks y
by_end p config s (Some kind) raced y h = absurd (cc h)
by_end p config s None (Some race) y h = subst (CallFits config.blocks) (calls_is _ y h) tt
by_end p config s None None y h = by_fuel p config s (nat_lt s.retired config.fuel) y h

-- What a core asks for fits the machine.
pub asks_what_fits : (p : Listing) (config : CoreConfig) (s : CoreState) (y : Call) → next_of p config s ≡ Calls y → CallFits config.blocks y
asks_what_fits p config s y h =
    let t = at_stop p config s in by_end p config t t.ended t.raced y h
