use Rattle.thread_laws.proofs.Following.{log_tracks, active_are, left_is_gone}
use Rattle.thread_laws.proofs.Entering.{past_entered, entered_past, taken_alike}
use Rattle.pei_types.specs.MachineState.{state_after}
use Rattle.thread_laws.proofs.laws.logs_track.Goals as goal

pub returns : goal.returns
returns c =
    let cores = c.cores_go_on.ensures
    in record {
      unfinished = λ m log each. (log_tracks cores m log each).unfinished;
      tracked = λ m log each. (log_tracks cores m log each).tracked;
      gone = λ m log id each left. let g = log_tracks cores m log each in (g.gone id left, left_is_gone log (state_after m log).peis id g left);
      active = λ m log each. active_are log (state_after m log).peis (log_tracks cores m log each);
      entered = λ m log l each. past_entered log (state_after m log).peis (log_tracks cores m log each) l;
      found = λ m log p each. entered_past log (state_after m log).peis (log_tracks cores m log each) p;
      taken = λ m log p each. taken_alike m log (state_after m log) p (log_tracks cores m log each);
    }
