use Rattle.std.proofs.Common.{subst}
use Rattle.pei_types.specs.Claims.{without_claim}
use Rattle.pim_directory.specs.Words.{IsHeld}
use Rattle.pim_directory.proofs.PackedTables.{read_at, wrote, packed_set, packed_release, same_claims}
use Rattle.pim_directory.proofs.plain.PlainDirectory.release.Goals as goal

pub invariant_of-self : goal.invariant_of-self
invariant_of-self c = let r = c.requires in let p = read_at _ _ _ r.0 c.index.result.now c.self.view_is c.self.invariant r.1 c.index.ensures in packed_set _ _ (without_claim r.0 c.args.mode) _ (c.release_word.ensures r.0 p.1 p.0 r.2) (packed_release c.args.mode r.0 p.1) c.self.invariant

pub returns : goal.returns
returns c t e = let r = c.requires in let p = read_at _ _ _ t c.index.result.now c.self.view_is c.self.invariant e c.index.ensures in
    wrote _ _ _ (without_claim t c.args.mode) _ c.self.view_is (c.release_word.ensures t p.1 p.0 (subst (λ z. IsHeld z c.args.mode) (same_claims c.args.self.now c.args.entry r.0 t r.1 e) r.2)) (packed_release c.args.mode t p.1)
