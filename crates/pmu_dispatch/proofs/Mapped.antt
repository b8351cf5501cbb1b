-- What a mapped option comes from.
use Rattle.std.proofs.Common.{◌≡◌, Option, Some, None, option_map, refl}

pub some_mapped : {A B : Type 0} (f : A → B) (o : Option A) (b : B) → option_map f o ≡ Some b → (a : A) × (o ≡ Some a) × (b ≡ f a)
some_mapped f None b h = absurd (cc h)
some_mapped f (Some a) b h = (a, refl, cc h)
