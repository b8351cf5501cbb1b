use Rattle.thread_laws.proofs.Meeting.{look_meets, pei_meets, next_lane, next_name, fence_meets}
use Rattle.thread_laws.proofs.Standing.{own_row_stands, knows_at_start, goes_on, part_told, own_told}
use Rattle.thread_laws.proofs.laws.cores_meet_banks.Goals as goal

pub returns : goal.returns
returns c =
    let cores = c.cores_go_on.ensures
    in let merge = c.banks_merge.ensures
    in let apart = c.banks_keep_apart.ensures
    in record {
      look = λ m k core own log l h. look_meets cores merge apart m k core own log h l;
      pei = λ m k core own log id h. pei_meets cores merge apart m k core own log h id;
      next_lane = λ m k core own log l h. next_lane cores merge apart m k core own log h l;
      next_name = λ m k core own log h. next_name cores merge apart m k core own log h;
      fence = fence_meets cores apart;
      stands = λ p m image k core own log held e h. own_row_stands cores merge apart c.rows_are_local.ensures p m image k core own log h held e;
      start = knows_at_start;
      goes_on = goes_on;
      part = part_told;
      own = own_told;
    }
