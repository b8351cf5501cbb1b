-- What a machine file means: the machine of its table, or its first fault.
use Rattle.std.specs.Prelude.{◌≡◌, ℕ, ◌^◌, ℤ, pos, negsuc, Bool, true, not, ◌&&◌, ◌||◌, ◌==◌, nat_le, if◌then◌else◌, List, [], ◌∷◌, find, Option, Some, None, is_none, map, option_map, option_and_then, IfSome, IsSomeAnd, IsTrue, codes}
use Rattle.std.specs.List.{list_all, list_any, filter_map, AllByRecursion}
use Rattle.std.specs.Option.{option_or}
use Rattle.std.specs.Str.{bytes_eq, is_utf8}
use Rattle.toml.specs.Data.{Data, Members, no_members, member, get_member, as_integer, as_str}
use Rattle.toml.specs.Parse.{parse_document}
use Rattle.machine_file.specs.declared.keys.Key.{Key}
use Rattle.machine_file.specs.Keys.{KeyRow, row_of, number_keys, placement_name, number_of}
use Rattle.pei_types.specs.Limits.{log_two}
use Rattle.pei_types.specs.declared.machines.MachineSpec.{MachineSpec}
use Rattle.pei_types.specs.declared.machines.Policy3.{Policy3}
use Rattle.pei_types.specs.declared.machines.Policy3.TheVariants as policy

-- Why a file is refused. An unknown key is told by its bytes.
pub data MachineRefusal : Type 0 where
  BadToml : MachineRefusal
  UnknownKey : List ℕ → MachineRefusal
  MissingKey : Key → MachineRefusal
  NotInteger : Key → MachineRefusal
  OutOfLimits : Key → MachineRefusal
  NotPowerOfTwo : Key → MachineRefusal
  BadPolicy : MachineRefusal

-- ---- numbers

-- the number is from the row's least to its greatest, and above none of the bounds
abbrev pub is_within : KeyRow → List ℕ → ℕ → Bool
is_within r bounds n = (nat_le r.least n && nat_le n r.greatest) && list_all (λ bound. nat_le n bound) bounds

abbrev pub is_power_of_two : ℕ → Bool
is_power_of_two n = 2 ^ log_two n == n

-- What is wrong with a number for a key: outside the limits, or no power of two where it is to be one. The bounds are the
-- numbers of the keys that bound it.
abbrev pub size_fault : KeyRow → List ℕ → ℕ → Option MachineRefusal
size_fault r bounds n =
    if not (is_within r bounds n) then Some (OutOfLimits r.key)
    else (if r.power_of_two && not (is_power_of_two n) then Some (NotPowerOfTwo r.key) else None)

abbrev pub number_fault : KeyRow → List ℕ → Option ℤ → Option MachineRefusal
number_fault r bounds None = Some (NotInteger r.key)
number_fault r bounds (Some (pos n)) = size_fault r bounds n
number_fault r bounds (Some (negsuc n)) = Some (OutOfLimits r.key)

-- a key that the file does not name has no such fault
abbrev pub value_fault : KeyRow → List ℕ → Option Data → Option MachineRefusal
value_fault r bounds None = None
value_fault r bounds (Some d) = number_fault r bounds (as_integer d)

-- the number that is a whole number from 0 on
abbrev pub whole : ℤ → Option ℕ
whole (pos n) = Some n
whole (negsuc n) = None

-- the number that a file gives for a key, or else the default
abbrev pub number_at : KeyRow → Option Data → Option ℕ
number_at r None = r.default
number_at r (Some d) = option_and_then whole (as_integer d)

-- the numbers that a table has for these keys, by itself or by default; one without a number bounds nothing
abbrev pub bounds_at : Members → List Key → List ℕ
bounds_at table keys = filter_map (λ k. number_at (row_of k) (get_member (row_of k).name table)) keys

-- ---- the placement

abbrev pub policy_named : List ℕ → Option Policy3
policy_named text =
    if bytes_eq text (codes "monitor") then Some policy.Monitor
    else (if bytes_eq text (codes "host") then Some policy.Host
    else (if bytes_eq text (codes "memory") then Some policy.Memory
    else None))

-- the policy of what the file has at the key, which is `monitor` where it has nothing
abbrev pub policy_of : Option Data → Option Policy3
policy_of None = Some policy.Monitor
policy_of (Some d) = option_and_then policy_named (as_str d)

abbrev pub policy_fault : Option Policy3 → Option MachineRefusal
policy_fault None = Some BadPolicy
policy_fault (Some p) = None

-- ---- keys

abbrev pub is_known_key : List ℕ → Bool
is_known_key text = bytes_eq text placement_name || list_any (λ r. bytes_eq r.name text) number_keys

-- The first member with an unknown key. The members of a table stand in the byte order of their keys.
abbrev pub unknown_key : Members → Option MachineRefusal
unknown_key no_members = None
unknown_key (member text d rest) = if is_known_key text then unknown_key rest else Some (UnknownKey text)

-- a key that the file has to name, and does not
abbrev pub is_missing : Members → KeyRow → Bool
is_missing table r = is_none r.default && is_none (get_member r.name table)

abbrev pub missing_key : Members → Option MachineRefusal
missing_key table = option_map (λ r. MissingKey r.key) (find (is_missing table) number_keys)

abbrev pub first_value_fault : Members → List KeyRow → Option MachineRefusal
first_value_fault table [] = None
first_value_fault table (r ∷ rows) =
    option_or (value_fault r (bounds_at table r.at_most) (get_member r.name table)) (first_value_fault table rows)

-- ---- the first fault

abbrev pub table_fault : Members → Option MachineRefusal
table_fault table =
    option_or (unknown_key table)
    (option_or (missing_key table)
    (option_or (first_value_fault table number_keys)
    (policy_fault (policy_of (get_member placement_name table)))))

-- the first fault of a text, by the table that it is, if it is one
abbrev pub first_machine_fault : Option Members → Option MachineRefusal
first_machine_fault None = Some BadToml
first_machine_fault (Some table) = table_fault table

-- the table that the bytes are, if they are UTF-8 and a TOML document
abbrev pub table_of : List ℕ → Option Members
table_of bytes = if is_utf8 bytes then parse_document bytes else None

-- the first fault of a file
abbrev pub file_fault : List ℕ → Option MachineRefusal
file_fault bytes = first_machine_fault (table_of bytes)

-- ---- the machine

-- each key is known
abbrev pub each_key_known : Members → Bool
each_key_known no_members = true
each_key_known (member text d rest) = is_known_key text && each_key_known rest

-- each number of the machine is the one that the table gives, or else the default
abbrev pub HasNumbers : Members → MachineSpec → Type 0
HasNumbers table m = AllByRecursion (λ r. number_at r (get_member r.name table) ≡ Some (number_of m r.key)) number_keys

-- The table describes the machine: it has no key but those of machines, each number of the machine is the one that it
-- gives or else the default, and so is the policy. The limits are those of every machine.
pub record Describes (table : Members) (m : MachineSpec) : Type 0 where
  pub known : IsTrue (each_key_known table)
  pub numbers : HasNumbers table m
  pub placement : policy_of (get_member placement_name table) ≡ Some m.placement

-- the two machines have the same numbers and policy
pub record HaveTheSame (m n : MachineSpec) : Type 0 where
  pub sizes : AllByRecursion (λ r. number_of m r.key ≡ number_of n r.key) number_keys
  pub placement : m.placement ≡ n.placement

-- there is a table, and it describes the machine
abbrev pub DescribesOf : Option Members → MachineSpec → Type 0
DescribesOf read m = IsSomeAnd read (λ table. Describes table m)

-- ---- the built-in machines

-- the machine has so many cores, and else the numbers of the table
pub record IsBuiltIn (cores : ℕ) (m : MachineSpec) : Type 0 where
  pub cores_wanted : m.cores ≡ cores
  pub numbers : AllByRecursion (λ r. IfSome r.built_in (λ n. number_of m r.key ≡ n)) number_keys
  pub placement : m.placement ≡ policy.Monitor

-- the numbers of a machine are within the limits of the table
abbrev pub IsWithinLimits : MachineSpec → Type 0
IsWithinLimits m = AllByRecursion (λ r. size_fault r (map (number_of m) r.at_most) (number_of m r.key) ≡ None) number_keys
