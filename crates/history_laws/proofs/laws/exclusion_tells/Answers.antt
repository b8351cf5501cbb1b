use Rattle.history_laws.proofs.Excluding.{exclusion_agrees, entered_apart, alone_agrees}
use Rattle.history_laws.proofs.laws.exclusion_tells.Goals as goal

pub returns : goal.returns
returns c = record { active = exclusion_agrees; entered = entered_apart; alone = alone_agrees }
