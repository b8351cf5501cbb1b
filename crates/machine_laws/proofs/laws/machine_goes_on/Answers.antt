use Rattle.machine_laws.proofs.Machine.{next_meets_all, next_in_order, lane_in_order, enters_free, enters_alone}
use Rattle.machine_laws.proofs.laws.machine_goes_on.Goals as goal

pub returns : goal.returns
returns c =
    let grows = c.sound_journals_grow.ensures
    in let sound = c.legal_journals_are_sound.ensures
    in let events = c.next_events_meet.ensures
    in let rest = c.rest_is_state.ensures
    in let keeps = c.invariants_are_kept.ensures
    in let rows = c.rows_are_allowed.ensures
    in let turns = c.turns_are_allowed.ensures
    in record {
      start = λ m. record { sound = grows.start m; invariants = keeps.start m };
      meets = next_meets_all rest rows turns;
      free = λ x m image journal e h met. enters_free c.agreement_tells.ensures c.lanes_hold_peis.ensures m journal e.actor e.kind x h met.flat.calls met.guarded;
      next = next_in_order events rest keeps rows turns;
      lane = lane_in_order events rest keeps rows turns;
      alone = λ m image journal legal off. record { sound = sound.alone m image journal legal off; invariants = keeps.alone m image journal legal };
      exclusion = enters_alone c.agreement_tells.ensures c.exclusion_tells.ensures c.lanes_hold_peis.ensures;
    }
