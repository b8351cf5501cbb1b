-- A whole text: its faults, and that a text without one is in the grammar.
use Rattle.std.proofs.Common.{◌≡◌, ℕ, ◌<◌, Bool, true, false, if◌then◌else◌, List, [], ◌∷◌, Option, Some, None, length, map, refl, sym, ap, ◌∙◌, arith}
use Rattle.std.specs.Option.{option_or}
use Rattle.kernel_text.specs.declared.faults.KernelFault.{KernelFault}
use Rattle.kernel_text.specs.declared.faults.KernelKind.TheVariants as kind
use Rattle.kernel_text.specs.declared.places.Place.{Place}
use Rattle.kernel_text.specs.declared.tokens.Lexeme.{Lexeme}
use Rattle.kernel_text.specs.Tokens.{Token, Placed, tokens_of, end_of}
use Rattle.kernel_text.specs.Characters.{fault_at, first_character_fault}
use Rattle.kernel_text.specs.Lexemes.{placed_of}
use Rattle.kernel_text.specs.Readings.{Reading, read, may_end, a_kernel}
use Rattle.kernel_text.specs.Known.{Known, at_start, known_after}
use Rattle.kernel_text.specs.Faults.{first_fault, first_token_fault, fault_of_token, behind_token, next_of}
use Rattle.kernel_text.specs.Trees.{Kernel}
use Rattle.kernel_text.specs.Grammar.{Spells, kernel, is_kernel}
use Rattle.kernel_text.specs.Built.{tokens_in, continues, goes_on, first}

abbrev pub tokens_at : List Placed → List Token
tokens_at ts = map (λ t. t.token) ts

pub next_is_first : (ts : List Placed) → next_of ts ≡ first (tokens_at ts)
next_is_first [] = refl
next_is_first (t ∷ ts) = refl

pub places_aside : (items : List Lexeme) → tokens_in items ≡ tokens_at (map placed_of items)
places_aside [] = refl
places_aside (x ∷ items) = ap (λ ts. (placed_of x).token ∷ ts) (places_aside items)

-- tokens without a fault are in the grammar
pub without_fault : (end : Place) (ts : List Placed) (k : Known) → first_token_fault end ts k ≡ None → continues (tokens_at ts) k.wanted ≡ true
unfolding continues
without_fault end [] k h = by_end (may_end k.wanted) h
  where
    by_end : (b : Bool) → (if b then None else Some (fault_at end kind.Syntax)) ≡ None → b ≡ true
    by_end true e = refl
    by_end false e = absurd (cc e)
without_fault end (t ∷ ts) k h =
    ap (λ o. goes_on (continues (tokens_at ts)) (read k.wanted t.token o)) (sym (next_is_first ts))
    ∙ by_reading (read k.wanted t.token (next_of ts)) h (λ j e. without_fault end ts j e)
  where
    by_reading : (r : Option Reading) → behind_token k t (first_token_fault end ts) r ≡ None → ((j : Known) → first_token_fault end ts j ≡ None → continues (tokens_at ts) j.wanted ≡ true)
        → goes_on (continues (tokens_at ts)) r ≡ true
    by_reading None e more = absurd (cc e)
    by_reading (Some r) e more = more (known_after k r t.token) (by_fault (fault_of_token k t r) e)
      where
        by_fault : (f : Option KernelFault) → option_or f (first_token_fault end ts (known_after k r t.token)) ≡ None → first_token_fault end ts (known_after k r t.token) ≡ None
        by_fault None e = e
        by_fault (Some f) e = absurd (cc e)

-- ---- faults of the text

pub character_first : (text : List ℕ) (f : KernelFault) → first_character_fault (tokens_of text) ≡ Some f → first_fault text ≡ Some f
character_first text f h = ap (λ o. option_or o (first_token_fault (end_of text) (tokens_of text) at_start)) h

pub token_second : (text : List ℕ) (items : List Lexeme) (end : Place) (found : Option KernelFault) → map placed_of items ≡ tokens_of text → end ≡ end_of text → first_character_fault (tokens_of text) ≡ None
    → first_token_fault end (map placed_of items) at_start ≡ found → first_fault text ≡ found
token_second text items end found whole last sound h =
    ap (λ o. option_or o (first_token_fault (end_of text) (tokens_of text) at_start)) sound
    ∙ ap (λ e. first_token_fault e (tokens_of text) at_start) (sym last)
    ∙ ap (λ ts. first_token_fault end ts at_start) (sym whole) ∙ h

-- ---- the tree

pub spells : (text : List ℕ) (items : List Lexeme) (k : Kernel) → map placed_of items ≡ tokens_of text → tokens_in items ≡ kernel k → is_kernel k ≡ true → Spells text k
spells text items k whole tokens grammar = record { tokens = ap tokens_at (sym whole) ∙ sym (places_aside items) ∙ tokens; grammar = grammar }

-- tokens that are left over are wanted nowhere
pub left_over : (items : List Lexeme) → 0 < length items → continues (tokens_in items) [] ≡ false
unfolding continues
left_over [] h = absurd (omega (arith, h))
left_over (x ∷ items) h = refl

-- a text without a fault has a tree
pub never_misfits : {A : Type 0} (end : Place) (items : List Lexeme) → first_token_fault end (map placed_of items) at_start ≡ None → continues (tokens_in items) a_kernel ≡ false → A
never_misfits end items passes sticks = absurd (contrary (sym (without_fault end (map placed_of items) at_start passes) ∙ ap (λ ts. continues ts a_kernel) (sym (places_aside items)) ∙ sticks))
  where
    contrary : true ≡ false → ⊥
    contrary k = cc k
