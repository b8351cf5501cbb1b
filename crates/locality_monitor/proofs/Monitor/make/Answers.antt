use Rattle.std.proofs.Common.{ap, ◌∙◌}
use Rattle.locality_monitor.specs.Inside.{table_of, entry_at}
use Rattle.locality_monitor.proofs.Monitor.make.Goals as goal

pub returns : goal.returns
returns c =
    ap (λ v. table_of v c.in_ok-entries.entries.items) c.in_ok-tags.ensures.free
    ∙ ap (λ s. record { ways = c.args.ways; sets = s }) (c.sets_follow.ensures.empty (entry_at c.in_ok-entries.entries.items) c.args.sets)
