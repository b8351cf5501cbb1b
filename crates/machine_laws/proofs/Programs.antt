-- Runs of programs, event by event.
use Rattle.std.proofs.Common.{ℕ, List, [], ◌∷◌, ◌++◌, subst}
use Rattle.pei_types.specs.declared.events.Event.{Event}
use Rattle.pei_types.specs.declared.machines.MachineSpec.{MachineSpec}
use Rattle.pei_types.specs.Core.{next_of_core}
use Rattle.pei_types.specs.Legal.{EachEvent, EachFrom, Legal, Meets}
use Rattle.pei_types.specs.Program.{Listing, Contents}
use Rattle.pei_types.specs.Schedule.{Run, Policy, scheduled_run, whole_table, round_robin, serial, by_draws, by_list}
use Rattle.pei_types.proofs.Histories.{each_of_from, from_of_each, each_prefix}
use Rattle.history_laws.specs.Laws.{NextEventsMeet, PoliciesChooseActors, RunsGoOn, WholeRunsAreLegal as WholeRunsGoByRows}
use Rattle.history_laws.specs.Runs.{WholeRun}
use Rattle.history_laws.specs.Sound.{ChoosesActors, GoesByRow}
use Rattle.machine_laws.specs.Laws.{MachineGoesOn, RowsMeetAll, RowsMakeLegal, WholeRunsAreLegal}
use Rattle.machine_laws.specs.InOrder.{MachineInOrder, RunInOrder}

pub machine_of_run : (p : Listing) (m : MachineSpec) (image : Contents) (journal : List Event) → RunInOrder p m image journal → MachineInOrder m journal
machine_of_run p m image journal h = record { sound = h.run.sound; invariants = h.invariants }

-- an event that goes by its row meets all clauses
pub row_meets : MachineGoesOn → (p : Listing) (m : MachineSpec) (image : Contents) (journal : List Event) (e : Event) → RunInOrder p m image journal → GoesByRow p m image journal e → Meets p m image journal e
row_meets goes p m image journal e h row =
    goes.meets (next_of_core p m image journal e.actor.core) m image journal e (machine_of_run p m image journal h) row.0 row.1 row.2

-- and the run stays in order
pub row_in_order : MachineGoesOn → NextEventsMeet → RunsGoOn → (p : Listing) (m : MachineSpec) (image : Contents) (journal : List Event) (e : Event) → RunInOrder p m image journal → GoesByRow p m image journal e → RunInOrder p m image (journal ++ e ∷ [])
row_in_order goes events runs p m image journal e h row =
    record {
      run = runs.next p m image journal e.actor e.kind (events.fits (next_of_core p m image journal e.actor.core) m image journal e.actor e.kind row.0 row.1 row.2) h.run;
      invariants = (goes.next (next_of_core p m image journal e.actor.core) m image journal e (machine_of_run p m image journal h) row.0 row.1 (h.run.asks e.actor.core) row.2).invariants;
    }

rows_from : RowsMeetAll → (p : Listing) (m : MachineSpec) (image : Contents) (past rest : List Event) → RunInOrder p m image past → EachFrom (GoesByRow p m image) past rest → EachFrom (Meets p m image) past rest
rows_from rows p m image past [] h each = tt
rows_from rows p m image past (e ∷ rest) h each = (
  rows.meets p m image past e h each.0,
  rows_from rows p m image (past ++ e ∷ []) rest (rows.next p m image past e h each.0) each.1,
)

-- A journal each of whose events goes by its row is legal.
pub rows_are_legal : RowsMeetAll → (p : Listing) (m : MachineSpec) (image : Contents) (journal : List Event) → EachEvent (GoesByRow p m image) journal → Legal p m image journal
rows_are_legal rows p m image journal each =
    each_of_from (Meets p m image) journal (rows_from rows p m image [] journal (rows.start p m image) (from_of_each (GoesByRow p m image) journal each))

-- ---- an event that meets the clauses goes by its row

pub meets_row : MachineGoesOn → (p : Listing) (m : MachineSpec) (image : Contents) (journal : List Event) (e : Event) → RunInOrder p m image journal → Meets p m image journal e → GoesByRow p m image journal e
meets_row goes p m image journal e h met =
    (met.flat.calls.0, goes.free (next_of_core p m image journal e.actor.core) m image journal e (machine_of_run p m image journal h) met, met.next)

-- So does each event of a legal journal.
pub legal_goes_by_rows : RowsMeetAll → ((p : Listing) (m : MachineSpec) (image : Contents) (journal : List Event) → Legal p m image journal → RunInOrder p m image journal) → (p : Listing) (m : MachineSpec) (image : Contents) (journal : List Event) → Legal p m image journal → EachEvent (GoesByRow p m image) journal
legal_goes_by_rows rows order p m image journal legal before rest e same =
    let earlier : Legal p m image before = each_prefix (Meets p m image) before (e ∷ rest) (subst (Legal p m image) same legal)
    in rows.row p m image before e (order p m image before earlier) (legal before rest e same)

-- ---- scheduled runs

-- Each scheduled run of the whole machine is legal.
whole_run_is_legal : WholeRunsGoByRows → RowsMakeLegal → (p : Listing) (m : MachineSpec) (image : Contents) (policy : Policy) (n : ℕ) → ChoosesActors m policy → Legal p m image (scheduled_run (whole_table m image) p m image policy n).journal
whole_run_is_legal whole make p m image policy n chooses = make.legal p m image _ (whole.rows p m image policy n chooses)

so_far : RowsMakeLegal → (p : Listing) (m : MachineSpec) (image : Contents) (r : Run) → WholeRun p m image r → Legal p m image r.journal × RunInOrder p m image r.journal
so_far make p m image r run =
    let legal : Legal p m image r.journal = make.legal p m image r.journal run.rows
    in (legal, make.order p m image r.journal legal)

pub whole_runs_legal : PoliciesChooseActors → WholeRunsGoByRows → RowsMakeLegal → WholeRunsAreLegal
whole_runs_legal policies whole make =
    record {
      start = whole.start;
      turn = whole.step;
      so_far = so_far make;
      legal = whole_run_is_legal whole make;
      in_turn = λ p m image n. whole_run_is_legal whole make p m image (round_robin m) n (policies.turns m);
      serial = λ p m image n. whole_run_is_legal whole make p m image (serial m) n (policies.serial m);
      drawn = λ p m image draws n. whole_run_is_legal whole make p m image (by_draws m draws) n (policies.draws m draws);
      listed = λ p m image list n all. whole_run_is_legal whole make p m image (by_list list) n (policies.lists m list all);
    }
