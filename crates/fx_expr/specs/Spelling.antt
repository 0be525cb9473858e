-- Which tokens a text is written in. White may stand between them, and each is the longest that fits.
use Rattle.std.specs.Char.{is_ascii_digit}
use Rattle.std.specs.Prelude.{◌≡◌, ℕ, Bool, true, false, ◌++◌, ◌&&◌, ◌||◌, ◌==◌, nat_eq, nat_le, length, List, [], ◌∷◌, Option, None, Some, codes, if◌then◌else◌, encode_utf8}
use Rattle.std.specs.List.{list_all, list_any}
use Rattle.std.specs.Str.{chars}
use Rattle.std.specs.Cmp.Lexicographic.{pointwise}
use Rattle.fx_text.specs.Characters as char
use Rattle.fx_text.specs.Classes.{is_identifier, is_letter, is_letter_or_digit, is_quote, is_white}
use Rattle.fx_text.specs.Fronts.{stops}
use Rattle.fx_base.specs.declared.values.Value.TheVariants as value
use Rattle.fx_expr.specs.declared.tree.BinarySign.{BinarySign}
use Rattle.fx_expr.specs.declared.tree.BinarySign.TheVariants as binary
use Rattle.fx_expr.specs.declared.tokens.Token.{Token}
use Rattle.fx_expr.specs.declared.tokens.Token.TheVariants.{Constant, Path, Opening, Closing, Exclamation, Binary}
use Rattle.fx_expr.specs.Decimal.{decimal, has_fraction}

abbrev pub fraction_text : List ℕ → List ℕ
fraction_text [] = []
fraction_text (d ∷ ds) = char.full_stop ∷ (d ∷ ds)

-- A number: digits, and behind a point more digits or nothing. No digit follows, and behind a number without
-- a fraction none begins.
pub record IsNumber (text whole fraction rest : List ℕ) : Type 0 where
  pub parts : text ≡ whole ++ (fraction_text fraction ++ rest)
  pub some : whole ≡ [] → ⊥
  pub digits : list_all is_ascii_digit whole ≡ true
  pub places : list_all is_ascii_digit fraction ≡ true
  pub stops : stops is_ascii_digit rest ≡ true
  pub alone : fraction ≡ [] → has_fraction rest ≡ false

-- What is written behind a quote, up to the next one, and the text that it stands for: a backslash stands for
-- nothing and the character behind it for itself.
pub data IsQuoted (quote : ℕ) : List ℕ → List ℕ → Type 0 where
  ended : IsQuoted quote (quote ∷ []) []
  escaped : (c : ℕ) (written content : List ℕ) → (char.backslash == quote) ≡ false → IsQuoted quote written content
      → IsQuoted quote (char.backslash ∷ (c ∷ written)) (encode_utf8 c ++ content)
  plain : (c : ℕ) (written content : List ℕ) → (c == quote) ≡ false → (c == char.backslash) ≡ false
      → IsQuoted quote written content → IsQuoted quote (c ∷ written) (encode_utf8 c ++ content)

-- does a point with a name stand here?
abbrev pub has_name : List ℕ → Bool
has_name [] = false
has_name (c ∷ []) = false
has_name (c ∷ d ∷ ds) = c == char.full_stop && is_letter d

abbrev pub points : List (List ℕ) → List ℕ
points [] = []
points (name ∷ names) = char.full_stop ∷ (name ++ points names)

-- at most 4,096 characters
abbrev pub is_short : List ℕ → Bool
is_short text = nat_le (length (chars text)) 4096

-- identifiers joined by points, each of at most 4,096 characters; no letter, digit or name follows
pub record AreNames (text : List ℕ) (first : List ℕ) (names : List (List ℕ)) (rest : List ℕ) : Type 0 where
  pub parts : text ≡ first ++ (points names ++ rest)
  pub first_name : is_identifier first ≡ true
  pub all_names : list_all is_identifier names ≡ true
  pub first_short : is_short first ≡ true
  pub all_short : list_all is_short names ≡ true
  pub stops : stops is_letter_or_digit rest ≡ true
  pub alone : has_name rest ≡ false

abbrev pub is_true_word : List ℕ → Bool
is_true_word name = pointwise nat_eq name (codes "true")

abbrev pub is_false_word : List ℕ → Bool
is_false_word name = pointwise nat_eq name (codes "false")

abbrev pub is_truth_word : List ℕ → Bool
is_truth_word name = is_true_word name || is_false_word name

-- the token of these names: `true` and `false` alone are constants, and no part of a path
abbrev pub word_token : List (List ℕ) → Option Token
word_token [] = None
word_token (name ∷ []) =
    if is_true_word name then Some (Constant (value.Bool true))
    else (if is_false_word name then Some (Constant (value.Bool false)) else Some (Path (name ∷ [])))
word_token (a ∷ b ∷ names) = if list_any is_truth_word (a ∷ b ∷ names) then None else Some (Path (a ∷ b ∷ names))

-- the signs of two characters and those of one
abbrev pub double_sign : ℕ → ℕ → Option BinarySign
double_sign a b =
    if a == char.vertical_bar && b == char.vertical_bar then Some binary.Or
    else (if a == char.ampersand && b == char.ampersand then Some binary.And
    else (if a == char.equals_sign && b == char.equals_sign then Some binary.Equal
    else (if a == char.exclamation_mark && b == char.equals_sign then Some binary.Differ
    else (if a == char.greater_than_sign && b == char.equals_sign then Some binary.GreaterEqual
    else (if a == char.less_than_sign && b == char.equals_sign then Some binary.LessEqual
    else None)))))

abbrev pub single_sign : ℕ → Option Token
single_sign a =
    if a == char.left_parenthesis then Some Opening
    else (if a == char.right_parenthesis then Some Closing
    else (if a == char.exclamation_mark then Some Exclamation
    else (if a == char.greater_than_sign then Some (Binary binary.Greater)
    else (if a == char.less_than_sign then Some (Binary binary.Less)
    else (if a == char.plus_sign then Some (Binary binary.Plus)
    else (if a == char.hyphen then Some (Binary binary.Minus)
    else (if a == char.asterisk then Some (Binary binary.Times)
    else (if a == char.slash then Some (Binary binary.Over)
    else (if a == char.percent_sign then Some (Binary binary.Rest)
    else None)))))))))

-- no sign of two characters begins with this one here
abbrev pub IsSingle : ℕ → List ℕ → Type 0
IsSingle a [] = Unit {0}
IsSingle a (b ∷ bs) = double_sign a b ≡ None

-- the text begins with the token, and this is behind it
pub data Begins : List ℕ → Token → List ℕ → Type 0 where
  number : (text whole fraction rest : List ℕ) → IsNumber text whole fraction rest
      → Begins text (Constant (value.Int (decimal whole fraction))) rest
  quoted : (quote : ℕ) (written content rest : List ℕ) → is_quote quote ≡ true → IsQuoted quote written content
      → is_short content ≡ true → Begins (quote ∷ (written ++ rest)) (Constant (value.Text content)) rest
  words : (text first : List ℕ) (names : List (List ℕ)) (rest : List ℕ) (t : Token) → AreNames text first names rest
      → word_token (first ∷ names) ≡ Some t → Begins text t rest
  double : (a b : ℕ) (rest : List ℕ) (sign : BinarySign) → double_sign a b ≡ Some sign
      → Begins (a ∷ (b ∷ rest)) (Binary sign) rest
  single : (a : ℕ) (rest : List ℕ) (t : Token) → single_sign a ≡ Some t → IsSingle a rest → Begins (a ∷ rest) t rest

pub data IsSpelled : List ℕ → List Token → Type 0 where
  done : IsSpelled [] []
  white : (c : ℕ) (text : List ℕ) (tokens : List Token) → is_white c ≡ true → IsSpelled text tokens
      → IsSpelled (c ∷ text) tokens
  token : (text rest : List ℕ) (t : Token) (tokens : List Token) → Begins text t rest → IsSpelled rest tokens
      → IsSpelled text (t ∷ tokens)
