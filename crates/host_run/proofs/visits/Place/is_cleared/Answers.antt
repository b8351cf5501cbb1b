use Rattle.std.proofs.Common.{sym, ◌∙◌}
use Rattle.host_run.proofs.Waits.{is_cleared}
use Rattle.host_run.proofs.visits.Place.is_cleared.Goals as goal

pub returns-in-None : goal.returns-in-None
returns-in-None g c = λ on.
    is_cleared c.laws.ensures c.args.slot.now.bank.value c.args.begin (record { rows = c.is_in_order.ensures.rows; fitting = c.is_in_order.ensures.fitting }) (sym c.fence_waits.ensures ∙ c.in-None.is)
