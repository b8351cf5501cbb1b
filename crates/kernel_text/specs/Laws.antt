-- Laws of the texts of kernels.
use Rattle.std.specs.Prelude.{◌≡◌, ℕ, List, None}
use Rattle.kernel_text.specs.Trees.{Kernel}
use Rattle.kernel_text.specs.Grammar.{Spells}
use Rattle.kernel_text.specs.Faults.{first_fault}
use Rattle.kernel_text.specs.Sound.{IsSound}

-- A text without a fault spells a tree.
pub record SomeTree : Type 0 where
  pub tree : (text : List ℕ) → first_fault text ≡ None → (k : Kernel) × Spells text k

-- A text spells at most one tree.
pub record OneTree : Type 0 where
  pub same : (text : List ℕ) (k l : Kernel) → Spells text k → Spells text l → k ≡ l

-- A tree that a text without a fault spells is sound.
pub record TreesAreSound : Type 0 where
  pub sound : (text : List ℕ) (k : Kernel) → first_fault text ≡ None → Spells text k → IsSound k

-- A text that spells a sound tree has no fault.
pub record SoundTreesHaveNoFault : Type 0 where
  pub faultless : (text : List ℕ) (k : Kernel) → Spells text k → IsSound k → first_fault text ≡ None
