use Rattle.std.proofs.Common.{None, ap, ◌∙◌, ◌*◌, replicate}
use Rattle.llc.specs.Inside.{cache_of, line_at}
use Rattle.llc.proofs.Llc.make.Goals as goal

pub returns : goal.returns
returns c =
    ap (λ v. cache_of v c.in_ok-lines.lines.items) c.in_ok-tags.ensures.free
    ∙ ap (λ s. record { ways = c.args.ways; sets = s; slots = replicate (c.args.sets * c.args.ways) None }) (c.sets_follow.ensures.empty (line_at c.in_ok-lines.lines.items) c.args.sets)
