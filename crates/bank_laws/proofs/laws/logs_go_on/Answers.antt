use Rattle.bank_laws.proofs.Logs.{next_in_logs, found_below, history_front}
use Rattle.bank_laws.proofs.laws.logs_go_on.Goals as goal

pub returns : goal.returns
returns c = record { next = next_in_logs; found = found_below; front = history_front }
