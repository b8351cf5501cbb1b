-- What stands first in some bytes, and one step over it.
use Rattle.std.proofs.Common.{◌≡◌, ℕ, zero, suc, ◌+◌, ◌-◌, ◌<◌, ◌≤◌, Bool, true, false, if◌then◌else◌, List, [], ◌∷◌, ◌++◌, length, take, drop, fold, Some, None, refl, sym, ◌∙◌, ap, append_assoc, arith}
use Rattle.std.specs.Prelude.{slice_index, Option}
use Rattle.std.specs.List.{prefix_len}
use Rattle.std.specs.Option.{option_or}
use Rattle.kernel_text.specs.declared.places.Place.{Place}
use Rattle.kernel_text.specs.declared.faults.KernelFault.{KernelFault}
use Rattle.kernel_text.specs.declared.tokens.Token.{Token}
use Rattle.kernel_text.specs.Tokens.{Placed, front, tokens_from, behind, at_column, is_line_feed}
use Rattle.kernel_text.specs.Characters.{first_character_fault, character_fault}
use Rattle.kernel_text.specs.Lexemes.{StandsFirst, found, place_behind}

at_no_column : (at : Place) → at_column at 0 ≡ at
at_no_column at = let e : at.column + 0 ≡ at.column = omega arith in ap (λ c. record { line = at.line; column = c }) e

-- a part of a line
pub in_line : (p : ℕ → Bool) → ((b : ℕ) → p b ≡ true → is_line_feed b ≡ false) → (at : Place) (bytes : List ℕ)
    → fold behind at (take (prefix_len p bytes) bytes) ≡ at_column at (prefix_len p bytes)
in_line p h at [] = sym (at_no_column at)
in_line p h at (b ∷ bytes) = by_first (p b) refl (in_line p h (at_column at 1) bytes)
  where
    by_first : (here : Bool) → p b ≡ here → fold behind (at_column at 1) (take (prefix_len p bytes) bytes) ≡ at_column (at_column at 1) (prefix_len p bytes)
        → fold behind at (take (prefix_len p (b ∷ bytes)) (b ∷ bytes)) ≡ at_column at (prefix_len p (b ∷ bytes))
    by_first true e more =
        let plain = h b e
        in let len : prefix_len p (b ∷ bytes) ≡ suc (prefix_len p bytes) = rw e (omega arith)
        in let column : (at.column + 1) + prefix_len p bytes ≡ at.column + suc (prefix_len p bytes) = omega arith
        in let moves : behind at b ≡ at_column at 1 = rw plain refl
        in rw len (ap (λ place. fold behind place (take (prefix_len p bytes) bytes)) moves ∙ more ∙ ap (λ c. record { line = at.line; column = c }) column)
    by_first false e more =
        let len : prefix_len p (b ∷ bytes) ≡ 0 = rw e refl
        in rw len (sym (at_no_column at))

-- what is skipped is left out
pub skip_is_drop : (skip : ℕ) (at : Place) (bytes : List ℕ) → tokens_from skip at bytes ≡ tokens_from 0 (fold behind at (take skip bytes)) (drop skip bytes)
skip_is_drop zero at bytes = refl
skip_is_drop (suc skip) at [] = refl
skip_is_drop (suc skip) at (b ∷ bytes) = skip_is_drop skip (behind at b) bytes

-- the tokens that stand first, and then those of the bytes behind them
pub tokens_step : (at : Place) (bytes : List ℕ) (len : ℕ) → 0 < length bytes → 0 < len → (front at bytes).len ≡ len
    → tokens_from 0 at bytes ≡ (front at bytes).tokens ++ tokens_from 0 (fold behind at (take len bytes)) (drop len bytes)
tokens_step at [] len some positive e = absurd (omega (arith, some))
tokens_step at (b ∷ bytes) zero some positive e = absurd (omega (arith, positive))
tokens_step at (b ∷ bytes) (suc n) some positive e =
    ap (λ k. (front at (b ∷ bytes)).tokens ++ tokens_from k (behind at b) bytes) (ap (λ k. k - 1) e ∙ less)
    ∙ ap (λ ts. (front at (b ∷ bytes)).tokens ++ ts) (skip_is_drop n (behind at b) bytes)
  where
    less : suc n - 1 ≡ n
    less = omega arith

-- a text goes on behind its first bytes
pub fold_step : (at : Place) (bytes : List ℕ) (n : ℕ) → fold behind (fold behind at (take n bytes)) (drop n bytes) ≡ fold behind at bytes
fold_step at bytes zero = refl
fold_step at [] (suc n) = refl
fold_step at (b ∷ bytes) (suc n) = fold_step (behind at b) bytes n

-- the first fault of characters is behind those without
pub behind_sound : (xs ys : List Placed) → first_character_fault xs ≡ None → first_character_fault (xs ++ ys) ≡ first_character_fault ys
behind_sound [] ys h = refl
behind_sound (x ∷ xs) ys h = by_first (character_fault x) (first_character_fault xs) h (behind_sound xs ys)
  where
    by_first : (f rest : Option KernelFault) → option_or f rest ≡ None → (rest ≡ None → first_character_fault (xs ++ ys) ≡ first_character_fault ys)
        → option_or f (first_character_fault (xs ++ ys)) ≡ first_character_fault ys
    by_first None rest none more = more none
    by_first (Some f) rest none more = absurd (cc none)

-- ---- one step

-- the tokens of some bytes begin with those that stand first
tokens_begin : (at : Place) (bytes : List ℕ) → 0 < length bytes → (more : List Placed) × (tokens_from 0 at bytes ≡ (front at bytes).tokens ++ more)
tokens_begin at [] some = absurd (omega (arith, some))
tokens_begin at (b ∷ bytes) some = (tokens_from ((front at (b ∷ bytes)).len - 1) (behind at b) bytes, refl)

-- the fault of what stands first, behind tokens without one
pub fault_here : (before tokens : List Placed) (at : Place) (bytes : List ℕ) (f : KernelFault) → 0 < length bytes → before ++ tokens_from 0 at bytes ≡ tokens
    → first_character_fault before ≡ None → ((more : List Placed) → first_character_fault ((front at bytes).tokens ++ more) ≡ Some f)
    → first_character_fault tokens ≡ Some f
fault_here before tokens at bytes f some whole sound here =
    let more = tokens_begin at bytes some
    in sym (ap first_character_fault whole) ∙ behind_sound before (tokens_from 0 at bytes) sound ∙ ap first_character_fault more.1 ∙ here more.0

pub whole_step : (old new tokens : List Placed) (at : Place) (bytes : List ℕ) (t : Option Token) (len : ℕ) (place : Place) (after : List ℕ) → 0 < length bytes
    → StandsFirst at bytes t len → place ≡ place_behind at (slice_index bytes 0) len → after ≡ drop len bytes
    → new ≡ old ++ found at t → old ++ tokens_from 0 at bytes ≡ tokens → new ++ tokens_from 0 place after ≡ tokens
whole_step old new tokens at bytes t len place after some s e rest more whole =
    ap (λ ts. ts ++ tokens_from 0 place after) more
    ∙ append_assoc old (found at t) (tokens_from 0 place after)
    ∙ ap (λ ts. old ++ ts)
    (ap (λ ts. ts ++ tokens_from 0 place after) (sym s.tokens)
    ∙ ap (λ p. (front at bytes).tokens ++ tokens_from 0 p after) (e ∙ sym s.ends)
    ∙ ap (λ bs. (front at bytes).tokens ++ tokens_from 0 (fold behind at (take len bytes)) bs) rest
    ∙ sym (tokens_step at bytes len some s.some s.takes))
    ∙ whole

pub end_step : (at : Place) (bytes : List ℕ) (t : Option Token) (len : ℕ) (place end : Place) (after : List ℕ)
    → StandsFirst at bytes t len → place ≡ place_behind at (slice_index bytes 0) len → after ≡ drop len bytes
    → fold behind at bytes ≡ end → fold behind place after ≡ end
end_step at bytes t len place end after s e rest whole =
    ap (λ p. fold behind p after) (e ∙ sym s.ends) ∙ ap (λ bs. fold behind (fold behind at (take len bytes)) bs) rest ∙ fold_step at bytes len ∙ whole

pub sound_step : (old new : List Placed) (at : Place) (bytes : List ℕ) (t : Option Token) (len : ℕ) → StandsFirst at bytes t len
    → new ≡ old ++ found at t → first_character_fault old ≡ None → first_character_fault new ≡ None
sound_step old new at bytes t len s more sound =
    ap first_character_fault more ∙ behind_sound old (found at t) sound ∙ ap first_character_fault (sym s.tokens) ∙ s.sound

-- the place stays within the text
pub room_step : (at : Place) (first len left bytes text : ℕ) (place : Place) → place ≡ place_behind at first len → 0 < len → left + len ≡ bytes
    → at.column + bytes ≤ 1 + text → at.line + bytes ≤ 1 + text → 1 ≤ at.line → (place.column + left ≤ 1 + text) × (place.line + left ≤ 1 + text) × (1 ≤ place.line)
room_step at first len left bytes text place e some split columns lines from =
    let moved = by_kind (is_line_feed first) in rw e moved
  where
    by_kind : (feed : Bool) → let p = (if feed then record { line = at.line + 1; column = 1 } else at_column at len) in (p.column + left ≤ 1 + text) × (p.line + left ≤ 1 + text) × (1 ≤ p.line)
    by_kind true = (omega arith, omega arith, omega arith)
    by_kind false = (omega arith, omega arith, omega arith)
