-- What the thread of a core begins with.
use Rattle.std.specs.Prelude.{◌≡◌, ℕ, [], ◌∷◌, None}
use Rattle.atomic_table.specs.Seated.{TableId}
use Rattle.shared_table.specs.declared.claims.Claim.TheVariants.{Free}
use Rattle.shared_table.specs.Parts.{active, claims, drawn, fence, mine, misses, seen, turn}
use Rattle.shared_table.specs.Place.{SeatView}

-- A new seat of this table: it has no slot, no stamp, no claim, no event and no fence, and has seen no bank.
pub record IsNewSeat (t : TableId) (s : SeatView) : Type 0 where
  pub table : s.table ≡ t
  pub slot : turn s ≡ None
  pub stamp : drawn s ≡ None
  pub missed : misses s ≡ 0
  pub own : mine s ≡ []
  pub fenced : fence s ≡ None
  pub lanes : claims s ≡ Free ∷ Free ∷ Free ∷ Free ∷ []
  pub logs : (k : ℕ) → seen k s ≡ []
  pub actives : (k : ℕ) → active k s ≡ []
