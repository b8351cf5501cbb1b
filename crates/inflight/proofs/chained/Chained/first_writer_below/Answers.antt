use Rattle.std.proofs.Common.{Bool, List, option_map, map, find, rules, ◌∙◌, ap}
use Rattle.pei_types.specs.declared.inflight_looks.PeiLook.{PeiLook}
use Rattle.pei_types.specs.Recency.{list_at}
use Rattle.inflight.specs.Entries.{held}
use Rattle.inflight.specs.OnTheWay.{is_writer_below}
use Rattle.inflight.proofs.chained.Chained.first_writer_below.Goals as goal

pub returns : goal.returns
returns c =
    let i = c.self.inside
    in let passes : PeiLook → Bool = is_writer_below c.args.numbers.now c.args.bound
    in rw (← c.self.view_is)
    (c.first_that.ensures passes (λ q r h. search rules)
    ∙ ap (λ (ps : List PeiLook). option_map (λ q. q.id) (find passes (map (held ps) (list_at i.order.lists 0)))) c.deref.ensures.value)
