use Rattle.std.proofs.Common.{◌≡◌, Some, sym, ◌∙◌, ap}
use Rattle.trace_check.proofs.Rows.{made_there}
use Rattle.trace_check.proofs.checker.Checker.is_next.Goals as goal

pub returns-in-Some : goal.returns-in-Some
returns-in-Some c =
    let t = made_there _ c.row.result c.args.event.now.kind c.row.ensures
    in (
      λ same. (c.if-i-self.false, t.0 (c.in-Some.is ∙ ap Some (c.is_same.ensures.0 same))),
      λ next. c.is_same.ensures.1 (let both : Some c.in-Some.kind ≡ Some c.args.event.now.kind = sym c.in-Some.is ∙ t.1 next.1 in cc both),
    )
