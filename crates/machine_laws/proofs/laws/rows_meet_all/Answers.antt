use Rattle.machine_laws.proofs.Programs.{machine_of_run, row_meets, row_in_order, meets_row}
use Rattle.machine_laws.proofs.laws.rows_meet_all.Goals as goal

pub returns : goal.returns
returns c =
    let runs = c.runs_go_on.ensures
    in let events = c.next_events_meet.ensures
    in let goes = c.machine_goes_on.ensures
    in record {
      start = λ p m image. record { run = runs.start p m image; invariants = (goes.start m).invariants };
      meets = row_meets goes;
      row = meets_row goes;
      next = row_in_order goes events runs;
      machine = machine_of_run;
    }
