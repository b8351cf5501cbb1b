-- A bank's log in which the numbers of a core's PEIs have gaps.
use Rattle.std.specs.Prelude.{◌≡◌, ℕ, List, [], ◌∷◌, map, replicate, take}
use Rattle.pei_types.specs.declared.operations.Op.{Op}
use Rattle.pei_types.specs.declared.operations.Op.TheVariants as op
use Rattle.pei_types.specs.declared.operations.Place.TheVariants as place
use Rattle.pei_types.specs.declared.inflight_looks.PeiLook.{PeiLook}
use Rattle.pei_types.specs.declared.inflight_looks.Phase.TheVariants as phase
use Rattle.pei_types.specs.declared.events.Event.{Event}
use Rattle.pei_types.specs.declared.events.EventKind.{EventKind}
use Rattle.pei_types.specs.declared.events.EventKind.TheVariants as event
use Rattle.pei_types.specs.MachineState.{state_after}
use Rattle.pei_types.specs.Examples.Runs.{one}
use Rattle.pei_types.specs.History.{entered_peis}
use Rattle.pei_types.specs.Legal.{EachEvent}
use Rattle.pei_types.specs.Operation.{no_reply}
use Rattle.history_laws.specs.TrackedPeis.{as_issued}
use Rattle.shared_table.specs.Orderly.{Continues}

-- an event of core 0, by its program or in a lane
abbrev pub in_lane : ℕ → EventKind → Event
in_lane l kind = record { actor = record { core = record { 0 = 0 }; lane = record { 0 = l } }; kind = kind }

abbrev pub issue : ℕ → ℕ → Op → ℕ → Event
issue seq l o b = in_lane 0 (event.Issue seq (record { 0 = l }) o (record { 0 = b }) (record { 0 = replicate 4 0 }))

-- PEI 2 goes its whole way at the host, and PEI 5, which is issued and enters meanwhile, is left
abbrev pub gap_log : List Event
gap_log =
    issue 2 1 (op.Inc 0) 0 ∷ in_lane 1 (event.Enter 2) ∷ issue 5 2 op.Probe 8 ∷ in_lane 2 (event.Enter 5) ∷ in_lane 1 (event.Place 2 place.Host) ∷ in_lane 1 (event.Read 2) ∷ in_lane 1 (event.Act 2 no_reply)
    ∷ in_lane 1 (event.Leave 2) ∷ []

abbrev pub left_over : PeiLook
left_over =
    record { id = record { core = record { 0 = 0 }; seq = 5 }; lane = record { 0 = 2 }; op = op.Probe; block = record { 0 = 8 }; operands = record { 0 = replicate 4 0 }; phase = phase.Entered }

-- Each event of the log is its PEI's next, and each issue has a name of its own. Before the host placement both PEIs have entered, in
-- the order of their numbers; in the end PEI 5 is on its way alone.
pub record GapsAreFine : Type 0 where
  pub continues : EachEvent Continues gap_log
  pub state : (state_after one gap_log).peis ≡ left_over ∷ []
  pub entered : entered_peis gap_log ≡ as_issued left_over ∷ []
  pub earlier : map (λ p. p.id.seq) (entered_peis (take 4 gap_log)) ≡ 2 ∷ 5 ∷ []
