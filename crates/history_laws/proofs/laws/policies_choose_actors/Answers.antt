use Rattle.history_laws.proofs.Policies.{round_robin_chooses, serial_chooses, draws_choose, lists_choose}
use Rattle.history_laws.proofs.laws.policies_choose_actors.Goals as goal

pub returns : goal.returns
returns c = record { turns = round_robin_chooses; serial = serial_chooses; draws = draws_choose; lists = lists_choose }
