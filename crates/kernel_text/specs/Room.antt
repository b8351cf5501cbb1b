-- What the counts of a reader have room for.
use Rattle.std.specs.Prelude.{◌≡◌, Bool, false}
use Rattle.kernel_text.specs.declared.senses.Role.{Role}
use Rattle.kernel_text.specs.Tokens.{Token, text_of, value_of}
use Rattle.kernel_text.specs.Known.{Known, kind_of}
use Rattle.kernel_text.specs.Faults.{is_too_nested, is_double_name, is_one_value_too_many, has_too_many_words, is_too_long}

-- These kinds do not apply to a token with this role.
pub record Fits (k : Known) (role : Role) (begins : Bool) (t : Token) : Type 0 where
  pub nested : is_too_nested k.brackets t ≡ false
  pub new : is_double_name role (kind_of k.declared (text_of t)) ≡ false
  pub values : is_one_value_too_many role k.values k.size ≡ false
  pub room : has_too_many_words role k.words (value_of t) ≡ false
  pub long : is_too_long k.begun begins ≡ false
