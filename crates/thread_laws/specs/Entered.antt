-- How the PEIs that have entered and not left change by one event.
use Rattle.std.specs.Prelude.{List, []}
use Rattle.std.specs.Prelude.{◌++◌}
use Rattle.std.specs.List.{cons_option}
use Rattle.pei_types.specs.declared.identifiers.Actor.{Actor}
use Rattle.pei_types.specs.declared.events.Event.{Event}
use Rattle.pei_types.specs.declared.events.EventKind.{EventKind}
use Rattle.pei_types.specs.declared.events.EventKind.TheVariants as event
use Rattle.pei_types.specs.Blocks.{same_pei}
use Rattle.pei_types.specs.MachineState.{pei_id}
use Rattle.pei_types.specs.History.{Pei, pei_of}
use Rattle.pei_types.specs.Recency.{without}

-- An `Enter` adds its PEI behind them, as the log issued it, a `Leave` takes its PEI away, and all other events keep them.
abbrev pub next_entered : List Event → Actor → EventKind → List Pei → List Pei
next_entered log a (event.Enter seq) ps = ps ++ cons_option (pei_of log (pei_id a seq)) []
next_entered log a (event.Leave seq) ps = without (λ p. same_pei p.id (pei_id a seq)) ps
next_entered log a _ ps = ps
