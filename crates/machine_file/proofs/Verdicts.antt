-- A table that describes a machine has no fault.
use Rattle.std.proofs.lemmas.Bool.{le-leb, and_parts, and_from}
use Rattle.std.proofs.Common.{◌≡◌, ℕ, nat_le, Bool, true, false, not, ◌&&◌, List, [], ◌∷◌, Option, Some, None, refl, sym, ◌∙◌, ap, map}
use Rattle.std.specs.Prelude.{ℤ, pos, negsuc, find, is_none, option_map}
use Rattle.std.specs.List.{AllByRecursion, list_all}
use Rattle.std.specs.Option.{option_and_then, option_or}
use Rattle.toml.specs.Data.{Data, Members, no_members, member, get_member, as_integer}
use Rattle.machine_file.specs.Keys.{KeyRow, number_keys, placement_name, number_of}
use Rattle.machine_file.specs.Machine.{MissingKey, Describes, DescribesOf, HaveTheSame, first_machine_fault, IsWithinLimits, table_fault, unknown_key, each_key_known, is_known_key, is_missing, missing_key, first_value_fault, bounds_at, value_fault, number_fault, size_fault, is_power_of_two, number_at, whole, policy_of, policy_fault}
use Rattle.pei_types.specs.Limits.{IsWithin, IsPowerOfTwo}
use Rattle.pei_types.specs.declared.machines.MachineSpec.{MachineSpec}

-- ---- limits

fine_size : (r : KeyRow) (bounds : List ℕ) (n : ℕ) → IsWithin r.least r.greatest n → list_all (λ bound. nat_le n bound) bounds ≡ true
    → (r.power_of_two && not (is_power_of_two n)) ≡ false → size_fault r bounds n ≡ None
fine_size r bounds n h b k = rw (and_from (nat_le r.least n) (nat_le n r.greatest) (le-leb r.least n h.0) (le-leb n r.greatest h.1), b, k) refl

fine_power : (n : ℕ) → IsPowerOfTwo n → not (is_power_of_two n) ≡ false
fine_power n h = ap not h

-- a number is as the row wants it
IsFine : MachineSpec → KeyRow → Type 0
IsFine m r =
    IsWithin r.least r.greatest (number_of m r.key)
    × (list_all (λ bound. nat_le (number_of m r.key) bound) (map (number_of m) r.at_most) ≡ true)
    × ((r.power_of_two && not (is_power_of_two (number_of m r.key))) ≡ false)

fine_banks : (m : MachineSpec) → list_all (λ bound. nat_le m.banks bound) (m.l1_sets ∷ m.llc_sets ∷ m.vaults ∷ []) ≡ true
fine_banks m =
    let limits = m.banks_in_limits
    in rw (le-leb m.banks m.l1_sets limits.2, le-leb m.banks m.llc_sets limits.3, le-leb m.banks m.vaults limits.4) refl

all_fine : (m : MachineSpec) → AllByRecursion (IsFine m) number_keys
unfolding IsFine
all_fine m = (
  (m.cores_in_limits, refl, refl),
  (
    (m.blocks_in_limits, refl, refl),
    (
      (m.l1_sets_in_limits.0, refl, fine_power m.l1_sets m.l1_sets_in_limits.1),
      (
        (m.l1_ways_in_limits, refl, refl),
        (
          (m.llc_sets_in_limits.0, refl, fine_power m.llc_sets m.llc_sets_in_limits.1),
          (
            (m.llc_ways_in_limits, refl, refl),
            (
              (m.vaults_in_limits.0, refl, fine_power m.vaults m.vaults_in_limits.1),
              (
                (m.queue_in_limits, refl, refl),
                (
                  (m.directory_in_limits.0, refl, fine_power m.directory m.directory_in_limits.1),
                  (
                    (m.buffer_in_limits, refl, refl),
                    (
                      (m.banks_in_limits.0, fine_banks m, fine_power m.banks m.banks_in_limits.1),
                      (
                        (m.fuel_in_limits, refl, refl),
                        ((m.events_in_limits, refl, refl), tt),
                      ),
                    ),
                  ),
                ),
              ),
            ),
          ),
        ),
      ),
    ),
  ),
)

fine_sizes : (m : MachineSpec) (rows : List KeyRow) → AllByRecursion (IsFine m) rows → AllByRecursion (λ r. size_fault r (map (number_of m) r.at_most) (number_of m r.key) ≡ None) rows
unfolding IsFine
fine_sizes m [] h = tt
fine_sizes m (r ∷ rows) h = (fine_size r (map (number_of m) r.at_most) (number_of m r.key) h.0.0 h.0.1 h.0.2, fine_sizes m rows h.1)

-- every machine is within the limits of the table
pub within_limits : (m : MachineSpec) → IsWithinLimits m
within_limits m = fine_sizes m number_keys (all_fine m)

-- ---- keys

no_unknown : (table : Members) → each_key_known table ≡ true → unknown_key table ≡ None
no_unknown no_members h = refl
no_unknown (member text d rest) h =
    let parts = and_parts (is_known_key text) (each_key_known rest) h
    in rw parts.0 (no_unknown rest parts.1)

module _ (table : Members) (m : MachineSpec) where
  Given : KeyRow → Type 0
  Given r = number_at r (get_member r.name table) ≡ Some (number_of m r.key)

  not_missing_if : (r : KeyRow) (o : Option Data) (n : ℕ) → number_at r o ≡ Some n → (is_none r.default && is_none o) ≡ false
  not_missing_if r (Some d) n h = and_no (is_none r.default)
    where
      and_no : (b : Bool) → (b && false) ≡ false
      and_no true = refl
      and_no false = refl
  not_missing_if r None n h = ap (λ o. is_none o && true) h

  none_missing : (rows : List KeyRow) → AllByRecursion Given rows → find (is_missing table) rows ≡ None
  unfolding Given
  none_missing [] h = refl
  none_missing (r ∷ rows) h = rw (not_missing_if r (get_member r.name table) (number_of m r.key) h.0) (none_missing rows h.1)

  whole_pos : (z : ℤ) (n : ℕ) → whole z ≡ Some n → z ≡ pos n
  whole_pos (pos k) n h = let same : k ≡ n = cc h in ap pos same
  whole_pos (negsuc k) n h = absurd (cc h)

  fine_number : (r : KeyRow) (bounds : List ℕ) (o : Option ℤ) (n : ℕ) → option_and_then whole o ≡ Some n → size_fault r bounds n ≡ None → number_fault r bounds o ≡ None
  fine_number r bounds None n h k = absurd (cc h)
  fine_number r bounds (Some z) n h k = ap (λ x. number_fault r bounds (Some x)) (whole_pos z n h) ∙ k

  fine_value : (r : KeyRow) (bounds : List ℕ) (o : Option Data) (n : ℕ) → number_at r o ≡ Some n → size_fault r bounds n ≡ None → value_fault r bounds o ≡ None
  fine_value r bounds None n h k = refl
  fine_value r bounds (Some d) n h k = fine_number r bounds (as_integer d) n h k

  -- the table's bounds of a row are the machine's
  HasBounds : KeyRow → Type 0
  HasBounds r = bounds_at table r.at_most ≡ map (number_of m) r.at_most

  -- the sets of the private caches, those of the last-level cache and the vaults bound the banks
  all_bounds : AllByRecursion Given number_keys → AllByRecursion HasBounds number_keys
  unfolding Given HasBounds
  all_bounds h = (refl, (refl, (refl, (refl, (refl, (refl, (refl, (refl, (refl, (refl, (rw (h.1.1.0, h.1.1.1.1.0, h.1.1.1.1.1.1.0) refl, (refl, (refl, tt)))))))))))))

  fine_values : (rows : List KeyRow) → AllByRecursion Given rows → AllByRecursion HasBounds rows
      → AllByRecursion (λ r. size_fault r (map (number_of m) r.at_most) (number_of m r.key) ≡ None) rows → first_value_fault table rows ≡ None
  unfolding Given HasBounds
  fine_values [] h b k = refl
  fine_values (r ∷ rows) h b k =
      rw (b.0, fine_value r (map (number_of m) r.at_most) (get_member r.name table) (number_of m r.key) h.0 k.0) (fine_values rows h.1 b.1 k.1)

  pub describes_well : Describes table m → table_fault table ≡ None
  unfolding Given
  describes_well d =
      ap (λ o. option_or o (option_or (missing_key table) (option_or (first_value_fault table number_keys) (policy_fault (policy_of (get_member placement_name table)))))) (no_unknown table d.known)
      ∙ ap (λ o. option_or (option_map (λ r. MissingKey r.key) o) (option_or (first_value_fault table number_keys) (policy_fault (policy_of (get_member placement_name table))))) (none_missing number_keys d.numbers)
      ∙ ap (λ o. option_or o (policy_fault (policy_of (get_member placement_name table)))) (fine_values number_keys d.numbers (all_bounds d.numbers) (within_limits m))
      ∙ ap policy_fault d.placement

-- nor has a file that describes one
pub describes_file : (read : Option Members) (m : MachineSpec) → DescribesOf read m → first_machine_fault read ≡ None
describes_file None m d = absurd d
describes_file (Some table) m d = describes_well table m d

-- ---- one machine

some_same : {A : Type 0} {a b : A} → Some a ≡ Some b → a ≡ b
some_same e = cc e

same_sizes : (table : Members) (m n : MachineSpec) (rows : List KeyRow)
    → AllByRecursion (λ r. number_at r (get_member r.name table) ≡ Some (number_of m r.key)) rows
    → AllByRecursion (λ r. number_at r (get_member r.name table) ≡ Some (number_of n r.key)) rows
    → AllByRecursion (λ r. number_of m r.key ≡ number_of n r.key) rows
same_sizes table m n [] h k = tt
same_sizes table m n (r ∷ rows) h k = (some_same (sym h.0 ∙ k.0), same_sizes table m n rows h.1 k.1)

pub one_machine : (table : Members) (m n : MachineSpec) → Describes table m → Describes table n → HaveTheSame m n
one_machine table m n d e =
    record {
      sizes = same_sizes table m n number_keys d.numbers e.numbers;
      placement = some_same (sym d.placement ∙ e.placement);
    }
