-- What a program that was loaded asks for is in memory.
use Rattle.std.proofs.Common.{◌≡◌, ℕ, ◌+◌, ◌*◌, ◌%◌, ◌≤◌, ◌==◌, ◌&&◌, ◌||◌, not, nat_lt, Bool, true, false, if◌then◌else◌, List, [], ◌∷◌, All, Option, Some, None, refl, arith}
use Rattle.std.proofs.lemmas.Bool.Decides.{nat_tests}
use Rattle.std.proofs.lemmas.List.Elements.{All-cons}
use Rattle.pei_types.specs.declared.instructions.Ask.{Ask}
use Rattle.pei_types.specs.declared.instructions.Ask.TheVariants as ask
use Rattle.pei_types.specs.declared.machines.MachineSpec.{MachineSpec}
use Rattle.pei_types.specs.Image.{LoadRefusal, ShowOutOfRange, or_then, range_refusal, ask_refusal, asks_refusal, entry_refusal, lines_refusal, load_refusal}
use Rattle.pei_types.specs.Program.{Listing}
use Rattle.report.specs.Shown.{AreWords, HasWords}

-- of two refusals that are none each is none
first_none : (a b : Option LoadRefusal) → or_then a b ≡ None → a ≡ None
first_none None b e = refl
first_none (Some r) b e = e

second_none : (a b : Option LoadRefusal) → or_then a b ≡ None → b ≡ None
second_none None b e = e
second_none (Some r) b e = absurd (cc e)

-- a range that is not refused has its words in memory
range_words : (blocks addr count : ℕ) → range_refusal blocks addr count ≡ None → AreWords (64 * blocks) addr count
range_words blocks addr count passed i within =
    let place : (addr % 8 ≡ 0) × (addr + 8 * count ≤ 64 * blocks) = by (addr % 8 == 0) (count == 0) (nat_lt (64 * blocks) (addr + 8 * count)) refl refl refl passed
    in (aligned place.0, omega (arith, within, place.1))
  where
    aligned : addr % 8 ≡ 0 → (addr + 8 * i) % 8 ≡ 0
    aligned h = omega (arith, h)

    is_zero : (n : ℕ) → (n == 0) ≡ true → n ≡ 0
    is_zero n e = grind (arith, nat_tests)

    not_less : (x y : ℕ) → nat_lt x y ≡ false → y ≤ x
    not_less x y e = grind (arith, nat_tests)

    none_of : count ≡ 0 → ⊥
    none_of e = omega (arith, e, within)

    by : (a z l : Bool) → (addr % 8 == 0) ≡ a → (count == 0) ≡ z → nat_lt (64 * blocks) (addr + 8 * count) ≡ l → (if a && (z || not l) then None else Some (ShowOutOfRange addr)) ≡ None → (addr % 8 ≡ 0) × (addr + 8 * count ≤ 64 * blocks)
    by false z l ea ez el e = absurd (cc e)
    by true true l ea ez el e = absurd (none_of (is_zero count ez))
    by true false true ea ez el e = absurd (cc e)
    by true false false ea ez el e = (is_zero (addr % 8) ea, not_less (64 * blocks) (addr + 8 * count) el)

ask_words : (blocks : ℕ) (a : Ask) → ask_refusal blocks a ≡ None → HasWords (64 * blocks) a
ask_words blocks (ask.Show addr count) passed = range_words blocks addr count passed
ask_words blocks (ask.Sum addr count) passed = range_words blocks addr count passed

asks_words : (blocks : ℕ) (asks : List Ask) → asks_refusal blocks asks ≡ None → All (HasWords (64 * blocks)) asks
asks_words blocks [] passed = λ i d h. absurd (omega (arith, h))
asks_words blocks (a ∷ asks) passed =
    All-cons (HasWords (64 * blocks)) a asks (ask_words blocks a (first_none (ask_refusal blocks a) (asks_refusal blocks asks) passed)) (asks_words blocks asks (second_none (ask_refusal blocks a) (asks_refusal blocks asks) passed))

-- the asks of a program of which nothing was refused
pub loaded_asks : (p : Listing) (m : MachineSpec) → load_refusal p m ≡ None → All (HasWords (64 * m.blocks)) p.asks
loaded_asks p m passed =
    let behind : or_then (asks_refusal m.blocks p.asks) (entry_refusal p m) ≡ None = second_none (lines_refusal m.blocks [] p.lines) (or_then (asks_refusal m.blocks p.asks) (entry_refusal p m)) passed
    in asks_words m.blocks p.asks (first_none (asks_refusal m.blocks p.asks) (entry_refusal p m) behind)
