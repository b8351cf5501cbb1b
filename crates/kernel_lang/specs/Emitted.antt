-- A program with more instructions.
use Rattle.std.specs.Prelude.{◌≡◌, ◌≤◌, ⊤, Bool, List, ◌++◌}
use Rattle.pei_types.specs.declared.instructions.Instr.{Instr}
use Rattle.pei_types.specs.Program.{Listing}
use Rattle.kernel_text.specs.Depth.{depth}
use Rattle.kernel_text.specs.Trees.{Expression, Action, Statements, assign, store, print, increment, minimum, probe, hist, dot, done, act, repeat}
use Rattle.kernel_lang.specs.declared.emitter.Emitter.{Emitter}
use Rattle.kernel_lang.specs.Code.{action_code, waiting_after}
use Rattle.kernel_lang.specs.Homes.{Frame}

abbrev pub with_code : Listing → List Instr → Listing
with_code p code = record p { instrs = p.instrs ++ code }

-- behind a statement that is no loop
pub record AddsAction (f : Frame) (a : Action) (old : Emitter) (new : Emitter) : Type 0 where
  pub code : new.program ≡ with_code old.program (action_code f old.waiting a)
  pub waiting : new.waiting ≡ waiting_after f old.waiting a

-- ---- expressions for which the registers are enough

abbrev pub IsShallow : Expression → Type 0
IsShallow e = depth e ≤ 4

abbrev pub IsShallowAction : Action → Type 0
IsShallowAction (assign name e) = IsShallow e
IsShallowAction (store name index e) = IsShallow index × IsShallow e
IsShallowAction (print e) = IsShallow e
IsShallowAction (increment name index) = IsShallow index
IsShallowAction (minimum name index e) = IsShallow index × IsShallow e
IsShallowAction (probe first second name index key) = IsShallow index × IsShallow key
IsShallowAction (hist first second name index shift) = IsShallow index
IsShallowAction (dot first name index a b c d) = IsShallow index

abbrev pub AreShallow : Statements → Type 0
AreShallow done = ⊤
AreShallow (act first rest) = IsShallowAction first × AreShallow rest
AreShallow (repeat name turns body rest) = AreShallow body × AreShallow rest
