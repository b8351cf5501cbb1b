use Rattle.std.proofs.Common.{inl, leb-true, ◌≤◌, arith}
use Rattle.fabric.proofs.places.is_below_next.Goals as goal

pub returns-then-near-len : goal.returns-then-near-len
returns-then-near-len c passed =
    let behind : c.len.result ≤ c.args.near = leb-true c.len.result c.args.near passed
    in let many = c.len.ensures.len
    in let sized = c.requires
    in inl (omega (arith, behind, many, sized))
