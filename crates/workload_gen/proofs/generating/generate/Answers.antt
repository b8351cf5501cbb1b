use Rattle.std.proofs.Common.{refl}
use Rattle.workload_gen.proofs.Pieces.{generated-pieces}
use Rattle.workload_gen.proofs.generating.generate.Goals as goal

pub returns-in_err-write_all : goal.returns-in_err-write_all
returns-in_err-write_all g c =
    rw (generated-pieces c.args.n _ refl) (c.writes_join.ensures.fails _ _ _ _ _ _ _ _ c.in_err-write_all.ensures c.from_residual.ensures.0)

pub returns-in_err-write_setting : goal.returns-in_err-write_setting
returns-in_err-write_setting g c =
    rw (generated-pieces c.args.n _ refl) (c.writes_join.ensures.joins _ _ _ _ _ _ _ _ _ _ c.in_ok-write_all.ensures (c.writes_join.ensures.fails _ _ _ _ _ _ _ _ c.in_err-write_setting.ensures c.from_residual-in_err-write_setting.ensures.0))

pub returns-in_err-write_all-2 : goal.returns-in_err-write_all-2
returns-in_err-write_all-2 g c =
    rw (generated-pieces c.args.n _ refl) (c.writes_join.ensures.joins _ _ _ _ _ _ _ _ _ _ c.in_ok-write_all.ensures (c.writes_join.ensures.joins _ _ _ _ _ _ _ _ _ _ c.in_ok-write_setting.ensures (c.writes_join.ensures.fails _ _ _ _ _ _ _ _ c.in_err-write_all-2.ensures c.from_residual-in_err-write_all-2.ensures.0)))

pub returns-in_err-write_setting-2 : goal.returns-in_err-write_setting-2
returns-in_err-write_setting-2 g c =
    rw (generated-pieces c.args.n c.rounds.result c.rounds.ensures) (c.writes_join.ensures.joins _ _ _ _ _ _ _ _ _ _ c.in_ok-write_all.ensures (c.writes_join.ensures.joins _ _ _ _ _ _ _ _ _ _ c.in_ok-write_setting.ensures (c.writes_join.ensures.joins _ _ _ _ _ _ _ _ _ _ c.in_ok-write_all-2.ensures (c.writes_join.ensures.fails _ _ _ _ _ _ _ _ c.in_err-write_setting-2.ensures c.from_residual-in_err-write_setting-2.ensures.0))))

pub returns : goal.returns
returns g c =
    rw (generated-pieces c.args.n c.rounds.result c.rounds.ensures) (c.writes_join.ensures.joins _ _ _ _ _ _ _ _ _ _ c.in_ok-write_all.ensures (c.writes_join.ensures.joins _ _ _ _ _ _ _ _ _ _ c.in_ok-write_setting.ensures (c.writes_join.ensures.joins _ _ _ _ _ _ _ _ _ _ c.in_ok-write_all-2.ensures (c.writes_join.ensures.joins _ _ _ _ _ _ _ _ _ _ c.in_ok-write_setting-2.ensures c.write_all-3.ensures))))
