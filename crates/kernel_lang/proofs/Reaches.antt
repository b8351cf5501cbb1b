-- The names of a sound kernel have registers and homes in reach.
use Rattle.std.proofs.Common.{◌≡◌, ℕ, ◌+◌, ◌*◌, ◌^◌, ◌≤◌, List, [], ◌∷◌, arith}
use Rattle.std.specs.List.{AllByRecursion}
use Rattle.std.proofs.Math.Nat.{pow-le-pow_right}
use Rattle.std.proofs.lemmas.List.Elements.{recursion_from_All}
use Rattle.kernel_text.specs.Sound.{IsRightDeclaration, IsSize, IsSound, words_in}
use Rattle.kernel_text.specs.Trees.{Declaration, Kernel, table, array}
use Rattle.kernel_lang.specs.declared.homes.Home.{Home}
use Rattle.kernel_lang.specs.Homes.{FitsRegisters, IsInReach, frame_of, homes_from}

-- a size is from 8 to 4096
size_at_least : (size : ℕ) → IsSize size → 8 ≤ size
size_at_least size (e, low, high, is) =
    let powers : 2 ^ 3 ≤ 2 ^ e = pow-le-pow_right {n = 2} (omega arith) {i = 3} {j = e} low
    in omega (arith, powers, is)

size_at_most : (size : ℕ) → IsSize size → size ≤ 4096
size_at_most size (e, low, high, is) =
    let powers : 2 ^ e ≤ 2 ^ 12 = pow-le-pow_right {n = 2} (omega arith) {i = e} {j = 12} high
    in omega (arith, powers, is)

-- where the declared words end in reach, so does each home
homes_reach : (base : ℕ) (ds : List Declaration) → AllByRecursion IsRightDeclaration ds → base + 8 * words_in ds ≤ 262144
    → AllByRecursion (λ (e : List ℕ × Home). IsInReach e.1) (homes_from base ds)
homes_reach base [] right inside = tt
homes_reach base (table name size values ∷ ds) right inside =
    ((size_at_least size right.0.0, size_at_most size right.0.0, omega (arith, inside)), homes_reach (base + 8 * size) ds right.1 (omega (arith, inside)))
homes_reach base (array name size ∷ ds) right inside =
    ((size_at_least size right.0, size_at_most size right.0, omega (arith, inside)), homes_reach (base + 8 * size) ds right.1 (omega (arith, inside)))

pub fits_registers : (k : Kernel) → IsSound k → FitsRegisters (frame_of k)
fits_registers k sound =
    record {
      few = sound.variables;
      reach = homes_reach 0 k.declarations (recursion_from_All IsRightDeclaration k.declarations sound.declarations) (let words = sound.words in omega (arith, words));
    }
