-- What a verdict says of a journal.
use Rattle.std.specs.Prelude.{◌≡◌, ℕ, ◌+◌, List, ◌∷◌, ◌++◌, length}
use Rattle.pei_types.specs.declared.events.Event.{Event}
use Rattle.pei_types.specs.declared.clauses.Clause.{Clause}
use Rattle.pei_types.specs.declared.machines.MachineSpec.{MachineSpec}
use Rattle.pei_types.specs.Ends.{all_ended}
use Rattle.pei_types.specs.Legal.{FailsFirst, Legal}
use Rattle.pei_types.specs.Program.{Listing, Contents}
use Rattle.trace_check.specs.declared.verdicts.Verdict.{Verdict}
use Rattle.trace_check.specs.declared.verdicts.Verdict.TheVariants as verdict

-- The event with this line in the trace is the first that fails a clause, and fails this one first.
pub record FailsAt (p : Listing) (m : MachineSpec) (image : Contents) (journal : List Event) (line : ℕ) (clause : Clause) : Type 0 where
  pub before : List Event
  pub event : Event
  pub rest : List Event
  pub whole : journal ≡ before ++ event ∷ rest
  pub number : line ≡ length before + 2
  pub first : FailsFirst clause p m image before event

-- The journal is legal, and complete exactly where that is said; or it fails there.
abbrev pub IsVerdict : Listing → MachineSpec → Contents → List Event → Verdict → Type 0
IsVerdict p m image journal (verdict.Legal complete) = Legal p m image journal × (complete ≡ all_ended m journal)
IsVerdict p m image journal (verdict.Illegal line clause) = FailsAt p m image journal line clause

-- no two verdicts fit one journal
abbrev pub VerdictsAreOne : Type 0
VerdictsAreOne = (p : Listing) (m : MachineSpec) (image : Contents) (journal : List Event) (one other : Verdict) → IsVerdict p m image journal one → IsVerdict p m image journal other → one ≡ other
