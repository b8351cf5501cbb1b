-- Each kind of token, and what stands first where the first byte is of that kind.
use Rattle.std.proofs.Common.{◌≡◌, ℕ, zero, suc, ◌+◌, ◌<◌, ◌≤◌, ◌^◌, Bool, true, false, nat_lt, if◌then◌else◌, List, [], ◌∷◌, ◌++◌, length, take, Some, None, Bor, refl, sym, ◌∙◌, ap, arith}
use Rattle.std.specs.Prelude.{slice_index, fold}
use Rattle.std.specs.List.{prefix_len}
use Rattle.std.specs.Char.{is_ascii_digit}
use Rattle.std.proofs.lemmas.Bool.Decides.{nat_tests}
use Rattle.std.specs.Str.{IsUtf8}
use Rattle.std.proofs.lemmas.Str.{IsUtf8-from_ascii}
use Rattle.std.proofs.lemmas.List.Folds.{length-prefix_len}
use Rattle.std.proofs.lemmas.List.Sums.{prefix_len-le-length}
use Rattle.kernel_text.specs.declared.places.Place.{Place}
use Rattle.kernel_text.specs.declared.faults.KernelKind.TheVariants as kind
use Rattle.kernel_text.specs.declared.tokens.Token.TheVariants as code
use Rattle.kernel_text.specs.Tokens.{Placed, front, one_token, word_front, number_front, comment_front, nothing, word, number, stray, value_of_digits, behind, at_column, is_line_feed, is_blank, begins_comment, begins_word, continues_word, is_in_line, is_remark}
use Rattle.kernel_text.specs.Characters.{first_character_fault, fault_at}
use Rattle.kernel_text.specs.Lexemes.{StandsFirst, below_two_to_64, place_behind}
use Rattle.kernel_text.proofs.Lexing.{in_line}

-- ---- kinds of bytes

word_in_line : (b : ℕ) → continues_word b ≡ true → is_line_feed b ≡ false
word_in_line b h = grind (arith, nat_tests)

digit_in_line : (b : ℕ) → is_ascii_digit b ≡ true → is_line_feed b ≡ false
digit_in_line b h = grind (arith, nat_tests)

comment_in_line : (b : ℕ) → is_in_line b ≡ true → is_line_feed b ≡ false
comment_in_line b h = grind (arith, nat_tests)

pub hash_in_line : (b : ℕ) → begins_comment b ≡ true → is_line_feed b ≡ false
hash_in_line b h = grind (arith, nat_tests)

pub no_hash : (b : ℕ) → (b ≡ 35 → ⊥) → begins_comment b ≡ false
no_hash b h = grind (arith, nat_tests)

pub no_blank_in_line : (b : ℕ) → is_blank b ≡ false → is_line_feed b ≡ false
no_blank_in_line b h = grind (arith, nat_tests)

starts : (b : ℕ) → begins_word b ≡ true → continues_word b ≡ true
starts b h = rw h refl

in_this_line : (b : ℕ) → is_line_feed b ≡ false → is_in_line b ≡ true
in_this_line b h = rw h refl

-- what passes first is counted
counts_first : (p : ℕ → Bool) (bytes : List ℕ) → 0 < length bytes → p (slice_index bytes 0) ≡ true → 0 < prefix_len p bytes
counts_first p [] some h = absurd (omega (arith, some))
counts_first p (b ∷ bytes) some h = let len : prefix_len p (b ∷ bytes) ≡ 1 + prefix_len p bytes = rw h refl in omega (arith, len)

ends : (p : ℕ → Bool) → ((b : ℕ) → p b ≡ true → is_line_feed b ≡ false) → (at : Place) (bytes : List ℕ) (len : ℕ)
    → is_line_feed (slice_index bytes 0) ≡ false → len ≡ prefix_len p bytes → fold behind at (take len bytes) ≡ place_behind at (slice_index bytes 0) len
ends p h at bytes len first e =
    ap (λ n. fold behind at (take n bytes)) e ∙ in_line p h at bytes ∙ ap (at_column at) (sym e)
    ∙ sym (ap (λ b. if b then record { line = at.line + 1; column = 1 } else at_column at len) first)

-- ---- kinds of tokens

pub word_stands : (at : Place) (bytes : List ℕ) (text : Bor (List ℕ)) (len : ℕ) → 0 < length bytes
    → begins_comment (slice_index bytes 0) ≡ false → is_blank (slice_index bytes 0) ≡ false → begins_word (slice_index bytes 0) ≡ true
    → text.now ≡ take len bytes → len ≡ prefix_len continues_word bytes → len ≤ length bytes → StandsFirst at bytes (Some (code.Word text)) len
word_stands at bytes text len some plain full letter same e within =
    let whole : front at bytes ≡ word_front at bytes = rw (plain, full, letter) refl
    in record {
      tokens = ap (λ f. f.tokens) whole ∙ ap (λ t. record { place = at; token = word t } ∷ []) (ap (λ n. take n bytes) (sym e) ∙ sym same);
      takes = ap (λ f. f.len) whole ∙ sym e;
      some = (let more = counts_first continues_word bytes some (starts (slice_index bytes 0) letter) in omega (arith, more, e));
      within = within;
      sound = ap (λ f. first_character_fault f.tokens) whole;
      ends = ends continues_word word_in_line at bytes len (no_blank_in_line (slice_index bytes 0) full) e;
    }

pub comment_stands : (at : Place) (bytes : List ℕ) (len : ℕ) → 0 < length bytes → front at bytes ≡ comment_front at bytes → is_line_feed (slice_index bytes 0) ≡ false
    → len ≡ prefix_len is_in_line bytes → prefix_len is_remark bytes ≡ len → len ≤ length bytes → StandsFirst at bytes None len
comment_stands at bytes len some whole first e ascii within =
    let clean : front at bytes ≡ nothing (prefix_len is_in_line bytes) = whole ∙ grind (arith, nat_tests)
    in record {
      tokens = ap (λ f. f.tokens) clean;
      takes = ap (λ f. f.len) clean ∙ sym e;
      some = (let more = counts_first is_in_line bytes some (in_this_line (slice_index bytes 0) first) in omega (arith, more, e));
      within = within;
      sound = ap (λ f. first_character_fault f.tokens) clean;
      ends = ends is_in_line comment_in_line at bytes len first e;
    }

-- a number within the range
below_some : (n v : ℕ) → below_two_to_64 n ≡ Some v → (n ≡ v) × (nat_lt n (2 ^ 64) ≡ true)
below_some n v h = by_test (nat_lt n (2 ^ 64)) h
  where
    by_test : (b : Bool) → (if b then Some n else None) ≡ Some v → (n ≡ v) × (b ≡ true)
    by_test true e = ((cc e), refl)
    by_test false e = absurd (cc e)

below_none : (n : ℕ) → below_two_to_64 n ≡ None → nat_lt n (2 ^ 64) ≡ false
below_none n h = by_test (nat_lt n (2 ^ 64)) h
  where
    by_test : (b : Bool) → (if b then Some n else None) ≡ None → b ≡ false
    by_test true e = absurd (cc e)
    by_test false e = refl

pub number_stands : (at : Place) (bytes : List ℕ) (v len : ℕ) → 0 < length bytes → front at bytes ≡ number_front at bytes
    → is_ascii_digit (slice_index bytes 0) ≡ true → is_line_feed (slice_index bytes 0) ≡ false → len ≡ prefix_len is_ascii_digit bytes → len ≤ length bytes
    → below_two_to_64 (value_of_digits (take len bytes)) ≡ Some v → begins_word (slice_index bytes len) ≡ false → StandsFirst at bytes (Some (code.Number v)) len
number_stands at bytes v len some whole digit first e within value alone =
    let small = below_some (value_of_digits (take len bytes)) v value
    in let clean : front at bytes ≡ one_token at (number (value_of_digits (take len bytes))) len = whole ∙ rw (← e) (rw alone refl)
    in record {
      tokens = ap (λ f. f.tokens) clean ∙ ap (λ n. record { place = at; token = number n } ∷ []) small.0;
      takes = ap (λ f. f.len) clean;
      some = (let more = counts_first is_ascii_digit bytes some digit in omega (arith, more, e));
      within = within;
      sound = ap (λ f. first_character_fault f.tokens) clean ∙ rw small.1 refl;
      ends = ends is_ascii_digit digit_in_line at bytes len first e;
    }

-- ---- faults

pub number_too_large : (at : Place) (bytes : List ℕ) (len : ℕ) (more : List Placed) → front at bytes ≡ number_front at bytes → len ≡ prefix_len is_ascii_digit bytes
    → below_two_to_64 (value_of_digits (take len bytes)) ≡ None → first_character_fault ((front at bytes).tokens ++ more) ≡ Some (fault_at at kind.NumberTooLarge)
number_too_large at bytes len more whole e value =
    ap (λ f. first_character_fault (f.tokens ++ more)) whole
    ∙ rw (← e) (by_next (begins_word (slice_index bytes len)))
  where
    large : nat_lt (value_of_digits (take len bytes)) (2 ^ 64) ≡ false
    large = below_none (value_of_digits (take len bytes)) value

    by_next : (b : Bool)
        → first_character_fault
        ((if b
        then record {
          tokens = record { place = at; token = number (value_of_digits (take len bytes)) } ∷ record { place = at_column at len; token = stray } ∷ [];
          len = len + 1;
        }
        else one_token at (number (value_of_digits (take len bytes))) len).tokens
        ++ more)
        ≡ Some (fault_at at kind.NumberTooLarge)
    by_next true = rw large refl
    by_next false = rw large refl

pub number_runs_on : (at : Place) (bytes : List ℕ) (v len : ℕ) (more : List Placed) → front at bytes ≡ number_front at bytes → len ≡ prefix_len is_ascii_digit bytes
    → below_two_to_64 (value_of_digits (take len bytes)) ≡ Some v → begins_word (slice_index bytes len) ≡ true
    → first_character_fault ((front at bytes).tokens ++ more) ≡ Some (fault_at (at_column at len) kind.BadChar)
number_runs_on at bytes v len more whole e value runs =
    let small = (below_some (value_of_digits (take len bytes)) v value).1
    in ap (λ f. first_character_fault (f.tokens ++ more)) whole ∙ rw (← e) (rw runs (rw small refl))

-- ---- words are ASCII

word_is_ascii : (b : ℕ) → continues_word b ≡ true → b < 128
word_is_ascii b h = grind (arith, nat_tests)

nothing_is_ascii : (i : ℕ) → slice_index [] i < 128
nothing_is_ascii zero = omega arith
nothing_is_ascii (suc i) = omega arith

words_are_ascii : (bytes : List ℕ) (i : ℕ) → slice_index (take (prefix_len continues_word bytes) bytes) i < 128
words_are_ascii [] i = nothing_is_ascii i
words_are_ascii (b ∷ bytes) i = by_first (continues_word b) refl i (words_are_ascii bytes)
  where
    longer : continues_word b ≡ true → prefix_len continues_word (b ∷ bytes) ≡ suc (prefix_len continues_word bytes)
    longer e = rw e (omega arith)

    by_first : (here : Bool) → continues_word b ≡ here → (i : ℕ) → ((j : ℕ) → slice_index (take (prefix_len continues_word bytes) bytes) j < 128)
        → slice_index (take (prefix_len continues_word (b ∷ bytes)) (b ∷ bytes)) i < 128
    by_first false e i more = let len : prefix_len continues_word (b ∷ bytes) ≡ 0 = rw e refl in rw len (nothing_is_ascii i)
    by_first true e zero more = let len = longer e in rw len (word_is_ascii b e)
    by_first true e (suc i) more = let len = longer e in rw len (more i)

pub word_is_text : (bytes : List ℕ) (len : ℕ) → len ≡ prefix_len continues_word bytes → IsUtf8 (take len bytes)
word_is_text bytes len e = IsUtf8-from_ascii (take len bytes) (rw e (words_are_ascii bytes))

pub word_takes : (bytes text : List ℕ) (len : ℕ) → text ≡ take (prefix_len continues_word bytes) bytes → len ≡ length text
    → (len ≡ prefix_len continues_word bytes) × (text ≡ take len bytes) × (len ≤ length bytes)
word_takes bytes text len e n =
    let same : len ≡ prefix_len continues_word bytes = n ∙ ap length e ∙ length-prefix_len continues_word bytes
    in (same, e ∙ ap (λ k. take k bytes) (sym same), (let most = prefix_len-le-length continues_word bytes in omega (arith, most, same)))
