use Rattle.std.proofs.Common.{decimal, codes, append_assoc}
use Rattle.workload_gen.proofs.generating.write_setting.Goals as goal

pub returns-in_err-write_all : goal.returns-in_err-write_all
returns-in_err-write_all g c =
    rw (append_assoc c.args.before.now (decimal c.args.number) (codes "\n")) (c.writes_join.ensures.fails _ _ _ _ _ _ _ _ c.in_err-write_all.ensures c.from_residual.ensures.0)

pub returns-in_err-write_number : goal.returns-in_err-write_number
returns-in_err-write_number g c =
    rw (append_assoc c.args.before.now (decimal c.args.number) (codes "\n")) (c.writes_join.ensures.joins _ _ _ _ _ _ _ _ _ _ c.in_ok-write_all.ensures (c.writes_join.ensures.fails _ _ _ _ _ _ _ _ c.in_err-write_number.ensures c.from_residual-in_err-write_number.ensures.0))

pub returns : goal.returns
returns g c =
    rw (append_assoc c.args.before.now (decimal c.args.number) (codes "\n")) (c.writes_join.ensures.joins _ _ _ _ _ _ _ _ _ _ c.in_ok-write_all.ensures (c.writes_join.ensures.joins _ _ _ _ _ _ _ _ _ _ c.in_ok-write_number.ensures c.write_all-2.ensures))
