use Rattle.std.proofs.Common.{◌<◌, subst}
use Rattle.pei_types.specs.Claims.{Claims, with_announcement}
use Rattle.pim_directory.proofs.PackedTables.{read_at, wrote, packed_set, packed_announce, same_claims}
use Rattle.pim_directory.proofs.plain.PlainDirectory.announce.Goals as goal

pub invariant_of-self : goal.invariant_of-self
invariant_of-self c = let r = c.requires in let p = read_at _ _ _ r.0 c.index.result.now c.self.view_is c.self.invariant r.1 c.index.ensures in packed_set _ _ (with_announcement r.0) _ (c.announce_word.ensures r.0 p.1 p.0) (packed_announce r.0 p.1 r.2) c.self.invariant

pub returns : goal.returns
returns c t e = let r = c.requires in let p = read_at _ _ _ t c.index.result.now c.self.view_is c.self.invariant e c.index.ensures in
    wrote _ _ _ (with_announcement t) _ c.self.view_is (c.announce_word.ensures t p.1 p.0) (packed_announce t p.1 (subst (λ (u : Claims). u.waiting < 255) (same_claims c.args.self.now c.args.entry r.0 t r.1 e) r.2))
