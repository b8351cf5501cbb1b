-- The claims of the two entries after each call.
use Rattle.std.proofs.Common.{◌≡◌, ◌∷◌, [], refl, ap, ◌∙◌, arith, List, length, Some}
use Rattle.std.specs.Prelude.{slice_get, slice_set}
use Rattle.pei_types.specs.Claims.{Claims, no_claims}
use Rattle.pim_directory.proofs.PackedTables.{claims}
use Rattle.pim_directory.proofs.tests.entries_are_apart.Goals as goal

second : (l : List Claims) (x : Claims) → l ≡ no_claims ∷ x ∷ [] → slice_get l 1 ≡ Some x
second l x is = ap (λ (k : List Claims). slice_get k 1) is

changed : (old new : List Claims) (x y : Claims) → old ≡ no_claims ∷ x ∷ [] → new ≡ slice_set old 1 y → new ≡ no_claims ∷ y ∷ []
changed old new x y is by = by ∙ ap (λ (k : List Claims). slice_set k 1 y) is

two : (l : List Claims) (x : Claims) → l ≡ no_claims ∷ x ∷ [] → length l ≡ 2
two l x is = ap length is

pub announce-requires : goal.announce-requires
announce-requires c within = (no_claims, second _ no_claims within.in-Ok.ensures, omega arith)

pub try_grant-requires : goal.try_grant-requires
try_grant-requires c within =
    let made = within.in-Ok.ensures in
    let announced = changed _ within.announce.new.self no_claims (claims 0 0 1) made (within.announce.ensures no_claims (second _ no_claims made)) in
    (claims 0 0 1, second _ (claims 0 0 1) announced, omega arith)

pub word-requires : goal.word-requires
word-requires c within =
    let made = within.in-Ok.ensures in
    let announced = changed _ within.announce.new.self no_claims (claims 0 0 1) made (within.announce.ensures no_claims (second _ no_claims made)) in
    let granted = changed _ within.try_grant.new.self (claims 0 0 1) (claims 0 1 0) announced (within.if-not-try_grant.ensures.granted refl (claims 0 0 1) (second _ (claims 0 0 1) announced)).1 in
    let n = two _ (claims 0 1 0) granted in
    omega arith

pub release-requires : goal.release-requires
release-requires c within =
    let made = within.in-Ok.ensures in
    let announced = changed _ within.announce.new.self no_claims (claims 0 0 1) made (within.announce.ensures no_claims (second _ no_claims made)) in
    let granted = changed _ within.try_grant.new.self (claims 0 0 1) (claims 0 1 0) announced (within.if-not-try_grant.ensures.granted refl (claims 0 0 1) (second _ (claims 0 0 1) announced)).1 in
    (claims 0 1 0, second _ (claims 0 1 0) granted, omega arith)

pub word-requires-2 : goal.word-requires-2
word-requires-2 c within =
    let made = within.in-Ok.ensures in
    let announced = changed _ within.announce.new.self no_claims (claims 0 0 1) made (within.announce.ensures no_claims (second _ no_claims made)) in
    let granted = changed _ within.try_grant.new.self (claims 0 0 1) (claims 0 1 0) announced (within.if-not-try_grant.ensures.granted refl (claims 0 0 1) (second _ (claims 0 0 1) announced)).1 in
    let n = two _ no_claims (changed _ within.release.new.self (claims 0 1 0) no_claims granted (within.release.ensures (claims 0 1 0) (second _ (claims 0 1 0) granted))) in
    omega arith

pub word-requires-3 : goal.word-requires-3
word-requires-3 c within =
    let made = within.in-Ok.ensures in
    let announced = changed _ within.announce.new.self no_claims (claims 0 0 1) made (within.announce.ensures no_claims (second _ no_claims made)) in
    let granted = changed _ within.try_grant.new.self (claims 0 0 1) (claims 0 1 0) announced (within.if-not-try_grant.ensures.granted refl (claims 0 0 1) (second _ (claims 0 0 1) announced)).1 in
    let n = two _ no_claims (changed _ within.release.new.self (claims 0 1 0) no_claims granted (within.release.ensures (claims 0 1 0) (second _ (claims 0 1 0) granted))) in
    omega arith
