-- The entries of an image while they are set.
use Rattle.std.specs.Prelude.{◌≡◌, ℕ, ◌<◌, List, length, Some}
use Rattle.pei_types.specs.Program.{Listing, Contents, entry_of_core, start_of}

-- An image of these words, in which the cores below k have their entries.
pub record Enters (p : Listing) (k : ℕ) (words : List ℕ) (image : Contents) : Type 0 where
  pub same : image.words ≡ words
  pub eight : length image.entries ≡ 8
  pub entered : (c : ℕ) → c < k → entry_of_core p (record { 0 = c }) ≡ Some (start_of image (record { 0 = c }))
