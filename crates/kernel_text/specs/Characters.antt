-- Faults of characters and of numbers, which come before all others.
use Rattle.std.specs.Prelude.{◌^◌, nat_lt, if◌then◌else◌, List, [], ◌∷◌, Option, Some, None, option_map}
use Rattle.std.specs.Option.{option_or}
use Rattle.kernel_text.specs.declared.faults.KernelFault.{KernelFault}
use Rattle.kernel_text.specs.declared.faults.KernelKind.{KernelKind}
use Rattle.kernel_text.specs.declared.faults.KernelKind.TheVariants as kind
use Rattle.kernel_text.specs.declared.places.Place.{Place}
use Rattle.kernel_text.specs.Tokens.{Token, number, stray, Placed}

abbrev pub fault_at : Place → KernelKind → KernelFault
fault_at at k = record { line = at.line; column = at.column; kind = k }

abbrev pub kind_of_characters : Token → Option KernelKind
kind_of_characters stray = Some kind.BadChar
kind_of_characters (number value) = if nat_lt value (2 ^ 64) then None else Some kind.NumberTooLarge
kind_of_characters _ = None

abbrev pub character_fault : Placed → Option KernelFault
character_fault t = option_map (fault_at t.place) (kind_of_characters t.token)

abbrev pub first_character_fault : List Placed → Option KernelFault
first_character_fault [] = None
first_character_fault (t ∷ rest) = option_or (character_fault t) (first_character_fault rest)
