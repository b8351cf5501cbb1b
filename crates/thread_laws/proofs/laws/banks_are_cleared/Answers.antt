use Rattle.pei_types.specs.MachineState.{state_after}
use Rattle.shared_table.specs.Journal.{events}
use Rattle.thread_laws.proofs.Following.{log_tracks}
use Rattle.thread_laws.proofs.Waiting.{clear_so, clear_only, clear_stays}
use Rattle.thread_laws.proofs.laws.banks_are_cleared.Goals as goal

pub returns : goal.returns
returns c =
    let cores = c.cores_go_on.ensures
    in record {
      cleared = λ m log begin each. clear_so log begin (state_after m (events log)).peis (log_tracks cores m (events log) each);
      waits = λ m log begin each. clear_only log begin (state_after m (events log)).peis (log_tracks cores m (events log) each);
      stays = clear_stays;
    }
