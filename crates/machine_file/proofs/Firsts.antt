-- Facts on the first fault of a machine file, for the code that reads one.
use Rattle.std.proofs.Common.{◌≡◌, ℕ, ◌≤◌, nat_le, Bool, true, false, ◌&&◌, Option, Some, None, refl, List, [], ◌∷◌, if◌then◌else◌, is_some, subst}
use Rattle.std.proofs.lemmas.Bool.{and_parts, leb-true}
use Rattle.std.specs.List.{list_all, AllByRecursion}
use Rattle.std.specs.Str.{is_utf8, IsUtf8}
use Rattle.std.proofs.lemmas.Str.{IsUtf8-from_is_utf8}
use Rattle.toml.specs.Data.{Members, no_members, member}
use Rattle.toml.specs.Parse.{parse_document}
use Rattle.machine_file.specs.declared.keys.Key.{Key}
use Rattle.machine_file.specs.declared.keys.Key.TheVariants as key
use Rattle.machine_file.specs.Keys.{KeyRow, row_of}
use Rattle.machine_file.specs.Machine.{MachineRefusal, UnknownKey, is_within, table_of, unknown_key, each_key_known, is_known_key}
use Rattle.pei_types.specs.Limits.{IsWithin, IsPowerOfTwo, log_two}
use Rattle.std.specs.Option.{option_or}

-- bytes that are no table
pub no_table : (bytes : List ℕ) → (IsUtf8 bytes → parse_document bytes ≡ None) → table_of bytes ≡ None
no_table bytes h = by_test (is_utf8 bytes) refl
  where
    by_test : (b : Bool) → is_utf8 bytes ≡ b → (if b then parse_document bytes else None) ≡ None
    by_test true e = h (IsUtf8-from_is_utf8 bytes e)
    by_test false e = refl

-- where no key is unknown, each is known
pub all_known : (table : Members) → unknown_key table ≡ None → each_key_known table ≡ true
all_known no_members h = refl
all_known (member text d rest) h = by_test (is_known_key text) h (all_known rest)
  where
    by_test : (b : Bool) → (if b then unknown_key rest else Some (UnknownKey text)) ≡ None → (unknown_key rest ≡ None → each_key_known rest ≡ true) → (b && each_key_known rest) ≡ true
    by_test true e more = more e
    by_test false e more = absurd (cc e)

-- a number that passes the test is within the limits of its key, and above no bound
module _ (r : KeyRow) (bounds : List ℕ) (n : ℕ) (h : is_within r bounds n ≡ true) where
  parts : ((nat_le r.least n && nat_le n r.greatest) ≡ true) × (list_all (λ bound. nat_le n bound) bounds ≡ true)
  parts = and_parts (nat_le r.least n && nat_le n r.greatest) (list_all (λ bound. nat_le n bound) bounds) h

  pub limits_kept : IsWithin r.least r.greatest n
  limits_kept = let own = and_parts (nat_le r.least n) (nat_le n r.greatest) parts.0 in (leb-true r.least n own.0, leb-true n r.greatest own.1)

  pub bounds_kept : AllByRecursion (λ bound. n ≤ bound) bounds
  bounds_kept = below bounds parts.1
    where
      below : (rest : List ℕ) → list_all (λ bound. nat_le n bound) rest ≡ true → AllByRecursion (λ bound. n ≤ bound) rest
      below [] e = tt
      below (bound ∷ rest) e = let both = and_parts (nat_le n bound) (list_all (λ b. nat_le n b) rest) e in (leb-true n bound both.0, below rest both.1)

-- each default that is to be a power of two is one
pub default_power : (k : Key) (n : ℕ) → (row_of k).default ≡ Some n → (row_of k).power_of_two ≡ true → IsPowerOfTwo n
unfolding log_two
default_power key.Cores n h p = absurd (cc p)
default_power key.Blocks n h p = absurd (cc p)
default_power key.L1Sets n h p = let e : 64 ≡ n = cc h in subst IsPowerOfTwo e refl
default_power key.L1Ways n h p = absurd (cc p)
default_power key.LlcSets n h p = let e : 1024 ≡ n = cc h in subst IsPowerOfTwo e refl
default_power key.LlcWays n h p = absurd (cc p)
default_power key.Vaults n h p = let e : 16 ≡ n = cc h in subst IsPowerOfTwo e refl
default_power key.Queue n h p = absurd (cc p)
default_power key.Directory n h p = let e : 2048 ≡ n = cc h in subst IsPowerOfTwo e refl
default_power key.Buffer n h p = absurd (cc p)
default_power key.Banks n h p = let e : 1 ≡ n = cc h in subst IsPowerOfTwo e refl
default_power key.Fuel n h p = absurd (cc p)
default_power key.Events n h p = absurd (cc p)
default_power key.Placement n h p = absurd (cc p)

-- what is found is found, whatever stands behind it
pub found_first : (a b c f : Option MachineRefusal) → is_some f ≡ true → a ≡ f → option_or (option_or a b) c ≡ f
found_first a b c (Some r) told same = rw same
found_first a b c None told same = absurd (cc told)
