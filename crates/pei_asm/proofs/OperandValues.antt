-- The values of operands that fit their shapes.
use Rattle.std.proofs.Common.{◌≡◌, ℕ, zero, suc, ◌+◌, ◌<◌, ◌≤◌, nat_lt, Bool, true, false, not, ◌&&◌, List, [], ◌∷◌, map, drop, zip, length, Option, Some, None, refl, sym, ap, ◌∙◌, arith}
use Rattle.std.specs.Prelude.{position, is_some, unwrap_or, slice_index}
use Rattle.std.specs.List.{list_all}
use Rattle.std.specs.Str.{bytes_eq}
use Rattle.std.proofs.lemmas.Bool.{and_parts, ltb-true, ltb-false}
use Rattle.std.proofs.Math.Seq.{drop-nil}
use Rattle.pei_asm.proofs.Printables.{label_value}
use Rattle.std.proofs.lemmas.List.Quantifiers.{position-Some}
use Rattle.asm_statements.specs.Tokens.{Token, name, number, comma, colon, star, stray, Placed}
use Rattle.asm_statements.specs.Mnemonics.{Shape, register_below, any_number, amount, one_core, all_cores, place, fits, fits_more, is_below_zero, is_register_in_range, register_names, register_of, suits, value_of}
use Rattle.asm_statements.specs.Statements.{tokens_alone}
use Rattle.pei_asm.specs.Items.{HasValuesFrom, IsValueOf}

register_below_sixteen : (text : List ℕ) (other : ℕ) → is_some (register_of text) ≡ true → unwrap_or (register_of text) other < 16
unfolding register_names
register_below_sixteen text other h = by_position (position (bytes_eq text) register_names) refl h
  where
    by_position : (o : Option ℕ) → position (bytes_eq text) register_names ≡ o → is_some o ≡ true → unwrap_or o other < 16
    by_position None e k = absurd (cc k)
    by_position (Some i) e k = (position-Some (bytes_eq text) register_names i [] e).0

known_value : (o : Option ℕ) (a b : ℕ) → is_some o ≡ true → unwrap_or o a ≡ unwrap_or o b
known_value None a b h = absurd (cc h)
known_value (Some n) a b h = refl

-- the number of a core is below 8
core_below_eight : (places : List ℕ → ℕ) (negative : Bool) (n : ℕ) → (not (is_below_zero negative n) && nat_lt n 8) ≡ true → value_of places (number negative n) < 8
core_below_eight places false n h = ltb-true n 8 (and_parts true (nat_lt n 8) h).1
core_below_eight places true n h =
    let none : n ≡ 0 = is_none_of (nat_lt 0 n) refl (and_parts (not (nat_lt 0 n)) (nat_lt n 8) h).0
    in rw none (omega arith)
  where
    is_none_of : (b : Bool) → nat_lt 0 n ≡ b → not b ≡ true → n ≡ 0
    is_none_of true e k = absurd (cc k)
    is_none_of false e k = omega (arith, ltb-false 0 n e)

-- the first of what is left
head_of : (values : List ℕ) (i v : ℕ) (rest : List ℕ) → drop i values ≡ v ∷ rest → (i < length values) × (slice_index values i ≡ v) × (drop (i + 1) values ≡ rest)
head_of [] i v rest e = absurd (cc (sym (drop-nil i) ∙ e))
head_of (x ∷ values) zero v rest e = (omega arith, cc e, cc e)
head_of (x ∷ values) (suc i) v rest e =
    let more = head_of values i v rest e
    in let next : suc i + 1 ≡ suc (i + 1) = omega arith
    in (omega (arith, more.0), more.1, ap (λ n. drop n (x ∷ values)) next ∙ more.2)

module _ (places : List ℕ → ℕ) (below : (text : List ℕ) → places text ≤ 65536) where
  -- the value of an operand that suits its shape and is in range
  value_suits : (s : Shape) (t : Token) → suits s t ≡ true → is_register_in_range s t ≡ true → IsValueOf s (value_of places t)
  value_suits (register_below most) (name text) h r =
      let same = known_value (register_of text) 0 (places text) h
      in (search (arith, same, ltb-true (unwrap_or (register_of text) 0) most r), register_below_sixteen text (places text) h)
  value_suits (register_below most) (number negative n) h r = absurd (cc h)
  value_suits (register_below most) comma h r = absurd (cc h)
  value_suits (register_below most) colon h r = absurd (cc h)
  value_suits (register_below most) star h r = absurd (cc h)
  value_suits (register_below most) stray h r = absurd (cc h)
  value_suits any_number t h r = tt
  value_suits amount t h r = tt
  value_suits one_core (name text) h r = absurd (cc h)
  value_suits one_core (number negative n) h r = core_below_eight places negative n h
  value_suits one_core comma h r = absurd (cc h)
  value_suits one_core colon h r = absurd (cc h)
  value_suits one_core star h r = absurd (cc h)
  value_suits one_core stray h r = absurd (cc h)
  value_suits all_cores t h r = tt
  value_suits place t h r = label_value places t 65536 below h

  -- the values of operands that fit are of the shapes
  pub values_from : (goes_on : Bool) (shapes : List Shape) (ts : List Placed) (values : List ℕ) (i : ℕ) → drop i values ≡ map (value_of places) (tokens_alone ts)
      → fits goes_on shapes (tokens_alone ts) ≡ true → list_all (λ pair. is_register_in_range pair.0 pair.1.token) (zip shapes ts) ≡ true → HasValuesFrom i shapes values
  values_from goes_on [] ts values i e fit r = tt
  values_from goes_on (s ∷ shapes) [] values i e fit r = absurd (cc fit)
  values_from goes_on (s ∷ []) (t ∷ ts) values i e fit r =
      let parts = and_parts (suits s t.token) (fits_more goes_on s (tokens_alone ts)) fit
      in let here = head_of values i (value_of places t.token) (map (value_of places) (tokens_alone ts)) e
      in let value = value_suits s t.token parts.0 (and_parts (is_register_in_range s t.token) true r).0
      in (here.0, rw here.1 value, tt)
  values_from goes_on (s ∷ s' ∷ shapes) (t ∷ ts) values i e fit r =
      let parts = and_parts (suits s t.token) (fits goes_on (s' ∷ shapes) (tokens_alone ts)) fit
      in let ranges = and_parts (is_register_in_range s t.token) (list_all (λ pair. is_register_in_range pair.0 pair.1.token) (zip (s' ∷ shapes) ts)) r
      in let here = head_of values i (value_of places t.token) (map (value_of places) (tokens_alone ts)) e
      in let value = value_suits s t.token parts.0 ranges.0
      in (here.0, rw here.1 value, values_from goes_on (s' ∷ shapes) ts values (i + 1) here.2 parts.1 ranges.1)
