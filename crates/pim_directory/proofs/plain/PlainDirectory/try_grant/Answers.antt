use Rattle.std.proofs.Common.{refl, subst}
use Rattle.pei_types.specs.Claims.{with_claim}
use Rattle.pim_directory.specs.Words.{IsReady}
use Rattle.pim_directory.proofs.PackedTables.{read_at, wrote, packed_set, packed_grant, same_claims}
use Rattle.pim_directory.proofs.plain.PlainDirectory.try_grant.Goals as goal

pub invariant_of-self : goal.invariant_of-self
invariant_of-self c = let r = c.requires in let p = read_at _ _ _ r.0 c.index.result.now c.self.view_is c.self.invariant r.1 c.index.ensures in let g = c.in-Some.ensures.granted r.0 p.1 p.0 in
    packed_set _ _ (with_claim r.0 c.args.mode) _ g.1 (packed_grant c.args.mode r.0 p.1 r.2 g.0) c.self.invariant

pub returns-in-Some-clause-granted : goal.returns-in-Some-clause-granted
returns-in-Some-clause-granted c _ t e = let r = c.requires in let p = read_at _ _ _ t c.index.result.now c.self.view_is c.self.invariant e c.index.ensures in let g = c.in-Some.ensures.granted t p.1 p.0 in
    (g.0, wrote _ _ _ (with_claim t c.args.mode) _ c.self.view_is g.1 (packed_grant c.args.mode t p.1 (subst (λ z. IsReady z c.args.mode) (same_claims c.args.self.now c.args.entry r.0 t r.1 e) r.2) g.0))

pub returns-in-None-clause-refused : goal.returns-in-None-clause-refused
returns-in-None-clause-refused c _ = (refl, λ t e. let p = read_at _ _ _ t c.index.result.now c.self.view_is c.self.invariant e c.index.ensures in c.in-None.ensures.refused t p.1 p.0)
