-- Which texts are traces, and the first bad line of those that are not.
use Rattle.std.specs.Prelude.{⊤, ◌≡◌, ◌≢◌, ◌⊎◌, ℕ, ◌+◌, ◌^◌, ◌≤◌, Bool, true, ◌&&◌, ◌==◌, nat_lt, nat_le, List, [], ◌++◌, length, drop, codes}
use Rattle.std.specs.List.{list_all}
use Rattle.pei_types.specs.declared.identifiers.BlockNo.{BlockNo}
use Rattle.pei_types.specs.declared.identifiers.CoreId.{CoreId}
use Rattle.pei_types.specs.declared.identifiers.PeiId.{PeiId}
use Rattle.pei_types.specs.declared.calls.EndKind.{EndKind}
use Rattle.pei_types.specs.declared.calls.EndKind.TheVariants as ends
use Rattle.pei_types.specs.declared.operations.Op.{Op}
use Rattle.pei_types.specs.declared.operations.Op.TheVariants as op
use Rattle.pei_types.specs.declared.operations.Operands.{Operands}
use Rattle.pei_types.specs.declared.operations.Reply.{Reply}
use Rattle.pei_types.specs.declared.events.Event.{Event}
use Rattle.pei_types.specs.declared.events.EventKind.{EventKind}
use Rattle.pei_types.specs.declared.events.EventKind.TheVariants as event
use Rattle.pei_types.specs.Texts.{event_line, trace_text}
use Rattle.journal.specs.declared.reading.TraceFault.{TraceFault}
use Rattle.journal.specs.declared.reading.TraceFault.TheVariants as fault

-- ---- the ranges of numbers

-- a 64-bit word
abbrev pub is_word : ℕ → Bool
is_word n = nat_lt n (2 ^ 64)

-- the number of a PEI, an instruction or a block
abbrev pub is_index : ℕ → Bool
is_index n = nat_lt n (2 ^ 32)

-- the instruction, the block and the PEI of a race
abbrev pub race_in_ranges : ℕ → BlockNo → PeiId → Bool
race_in_ranges pc b by = is_index pc && is_index b.0 && nat_lt by.core.0 8 && is_index by.seq

abbrev pub copy_in_ranges : CoreId → BlockNo → Bool
copy_in_ranges c b = nat_lt c.0 8 && is_index b.0

abbrev pub end_in_ranges : EndKind → Bool
end_in_ranges ends.Halt = true
end_in_ranges (ends.Trap pc why) = is_index pc
end_in_ranges (ends.Race pc b by) = race_in_ranges pc b by
end_in_ranges ends.Fuel = true

abbrev pub op_in_ranges : Op → Bool
op_in_ranges (op.Inc word) = nat_lt word 8
op_in_ranges (op.Min word) = nat_lt word 8
op_in_ranges op.Probe = true
op_in_ranges op.Hist = true
op_in_ranges op.Dot = true

abbrev pub operands_in_ranges : Operands → Bool
operands_in_ranges operands = (length operands.0 == 4) && list_all is_word operands.0

-- at most two words, and those behind the reply's length are 0
abbrev pub reply_in_ranges : Reply → Bool
reply_in_ranges reply =
    nat_le reply.len 2 && (length reply.words == 2) && list_all is_word reply.words && list_all (λ w. w == 0) (drop reply.len reply.words)

-- an issue names a word or a block below address 4,194,304
abbrev pub kind_in_ranges : EventKind → Bool
kind_in_ranges (event.Load addr value) = is_word addr && is_word value
kind_in_ranges (event.Store addr value) = is_word addr && is_word value
kind_in_ranges (event.Issue seq lane o b operands) =
    is_index seq && nat_le lane.0 4 && op_in_ranges o && nat_lt b.0 65536 && operands_in_ranges operands
kind_in_ranges event.FenceBegin = true
kind_in_ranges event.FenceEnd = true
kind_in_ranges (event.Out value) = is_word value
kind_in_ranges (event.Race pc b by) = race_in_ranges pc b by
kind_in_ranges (event.End kind) = end_in_ranges kind
kind_in_ranges (event.Enter seq) = is_index seq
kind_in_ranges (event.Place seq where_to) = is_index seq
kind_in_ranges (event.Read seq) = is_index seq
kind_in_ranges (event.Seal seq vault) = is_index seq && nat_lt vault 16
kind_in_ranges (event.Act seq reply) = is_index seq && reply_in_ranges reply
kind_in_ranges (event.Leave seq) = is_index seq
kind_in_ranges (event.Invalidate c b) = copy_in_ranges c b
kind_in_ranges (event.Downgrade c b) = copy_in_ranges c b
kind_in_ranges (event.EvictL1 c b) = copy_in_ranges c b
kind_in_ranges (event.Clean b) = is_index b.0
kind_in_ranges (event.EvictLlc b) = is_index b.0
kind_in_ranges (event.Fill b) = is_index b.0
kind_in_ranges (event.GrantS b) = is_index b.0
kind_in_ranges (event.GrantE b) = is_index b.0
kind_in_ranges (event.GrantM b) = is_index b.0

-- the numbers of an event are in the ranges of a trace
abbrev pub in_ranges : Event → Bool
in_ranges e = nat_lt e.actor.core.0 8 && nat_le e.actor.lane.0 4 && kind_in_ranges e.kind

-- ---- traces

-- The text is the trace of this journal, which has no more events than a trace may have, with numbers in their ranges.
pub record IsTrace (text : List ℕ) (journal : List Event) : Type 0 where
  pub few : length journal ≤ 1048576
  pub ranged : list_all in_ranges journal ≡ true
  pub spelt : text ≡ trace_text journal

-- ---- the first bad line

-- no event's line stands first
abbrev pub BeginsNoLine : List ℕ → Type 0
BeginsNoLine text = (e : Event) (more : List ℕ) → in_ranges e ≡ true → text ≢ event_line e ++ more

-- The text does not begin as a trace.
abbrev pub LacksHeader : List ℕ → Type 0
LacksHeader text = (more : List ℕ) → text ≢ codes "peisim-trace 1 mesi\n" ++ more

-- The lines before this one are a trace, and what follows is not empty and begins with no event's line, or there are as
-- many events before it as a trace may have.
pub record EndsAt (text : List ℕ) (line : ℕ) : Type 0 where
  pub front : List Event
  pub rest : List ℕ
  pub before : IsTrace (trace_text front) front
  pub whole : text ≡ trace_text front ++ rest
  pub number : line ≡ length front + 2
  pub more : rest ≢ []
  pub bad : (length front ≡ 1048576) ⊎ BeginsNoLine rest

-- The first bad line of a text has this number, from 1.
abbrev pub IsFirstBad : List ℕ → ℕ → Type 0
IsFirstBad text line = ((line ≡ 1) × LacksHeader text) ⊎ EndsAt text line

-- A fault tells the first bad line; want of memory says nothing of the text.
abbrev pub IsTraceFault : List ℕ → TraceFault → Type 0
IsTraceFault text (fault.Bad line) = IsFirstBad text line
IsTraceFault text fault.OutOfMemory = ⊤
