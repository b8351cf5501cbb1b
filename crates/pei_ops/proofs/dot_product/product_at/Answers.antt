use Rattle.std.proofs.Common.{◌≡◌, rules, arith, refl, SFits, to_z, w16, w32}
use Rattle.std.proofs.lemmas.Int.{to_z-of_z}
use Rattle.pei_types.specs.Operation.{half_word, quarter_word}
use Rattle.pei_ops.proofs.Products.{product_of_lanes, IsWithin-product_of_lanes}
use Rattle.pei_ops.proofs.dot_product.product_at.Goals as goal

pub returns-clause-value : goal.returns-clause-value
returns-clause-value c =
    let lane : SFits w32 c.from.result = search rules in
    let small : SFits w16 c.from-2.result = search rules in
    let lane_is : c.from.result ≡ to_z w32 (half_word c.args.words.now c.args.i) = grind (arith, to_z-of_z) in
    let small_is : c.from-2.result ≡ to_z w16 (quarter_word c.args.operands.now c.args.i) = grind (arith, to_z-of_z) in
    rw (product_of_lanes c.from.result c.from-2.result lane small, lane_is, small_is) refl

pub returns-clause-at_least : goal.returns-clause-at_least
returns-clause-at_least c =
    let lane : SFits w32 c.from.result = search rules in
    let small : SFits w16 c.from-2.result = search rules in
    (IsWithin-product_of_lanes c.from.result c.from-2.result lane small).at_least

pub returns-clause-at_most : goal.returns-clause-at_most
returns-clause-at_most c =
    let lane : SFits w32 c.from.result = search rules in
    let small : SFits w16 c.from-2.result = search rules in
    (IsWithin-product_of_lanes c.from.result c.from-2.result lane small).at_most
