-- The tokens of a text, found from the left.
use Rattle.std.specs.Char.{is_ascii_digit}
use Rattle.std.specs.Prelude.{ℕ, ◌++◌, ◌==◌, length, drop, List, [], ◌∷◌, Option, None, Some, if◌then◌else◌, encode_utf8, option_and_then, zero, suc}
use Rattle.std.specs.Option.{option_map}
use Rattle.fx_text.specs.Characters.{backslash}
use Rattle.fx_text.specs.Classes.{is_letter, is_letter_or_digit, is_white, is_quote}
use Rattle.fx_text.specs.Fronts.{front, behind}
use Rattle.fx_base.specs.declared.values.Value.TheVariants as value
use Rattle.fx_expr.specs.declared.tokens.Token.{Token}
use Rattle.fx_expr.specs.declared.tokens.Token.TheVariants.{Constant, Binary}
use Rattle.fx_expr.specs.Decimal.{decimal, fraction_digits, fraction_rest}
use Rattle.fx_expr.specs.Spelling.{is_short, has_name, word_token, double_sign, single_sign}

abbrev pub number_at : List ℕ → Token × List ℕ
number_at text =
    let rest = behind is_ascii_digit text in
    (Constant (value.Int (decimal (front is_ascii_digit text) (fraction_digits rest))), fraction_rest rest)

abbrev pub with_front : List ℕ → Option (List ℕ × List ℕ) → Option (List ℕ × List ℕ)
with_front front read = option_map (λ p. (front ++ p.0, p.1)) read

-- the next character of a quoted text, and what is behind it
abbrev pub character_at : ℕ → List ℕ → Option (ℕ × List ℕ)
character_at quote [] = None
character_at quote (c ∷ []) = if c == quote then None else (if c == backslash then None else Some (c, []))
character_at quote (c ∷ d ∷ ds) =
    if c == quote then None else (if c == backslash then Some (d, ds) else Some (c, d ∷ ds))

abbrev pub end_at : ℕ → List ℕ → Option (List ℕ × List ℕ)
end_at quote [] = None
end_at quote (c ∷ cs) = if c == quote then Some ([], cs) else None

abbrev pub on_character : Option (ℕ × List ℕ) → (ℕ → List ℕ → Option (List ℕ × List ℕ)) → Option (List ℕ × List ℕ)
    → Option (List ℕ × List ℕ)
on_character None f other = other
on_character (Some p) f other = f p.0 p.1

-- the rest of a quoted text, over at most so many characters
unfoldable pub quoted_at : ℕ → ℕ → List ℕ → Option (List ℕ × List ℕ)
quoted_at zero quote text = end_at quote text
quoted_at (suc fuel) quote text =
    on_character (character_at quote text) (λ c rest. with_front (encode_utf8 c) (quoted_at fuel quote rest))
    (end_at quote text)

abbrev pub text_token : List ℕ × List ℕ → Option (Token × List ℕ)
text_token p = if is_short p.0 then Some (Constant (value.Text p.0), p.1) else None

abbrev pub name_at : List ℕ → Option (List ℕ × List ℕ)
name_at text =
    if is_short (front is_letter_or_digit text)
    then Some (front is_letter_or_digit text, behind is_letter_or_digit text) else None

abbrev pub with_names : List (List ℕ) → Option (List (List ℕ) × List ℕ) → Option (List (List ℕ) × List ℕ)
with_names front read = option_map (λ p. (front ++ p.0, p.1)) read

-- the names behind points that stand here, at most so many
unfoldable pub names_at : ℕ → List ℕ → Option (List (List ℕ) × List ℕ)
names_at zero text = Some ([], text)
names_at (suc fuel) text =
    if has_name text then option_and_then (λ n. with_names (n.0 ∷ []) (names_at fuel n.1)) (name_at (drop 1 text))
    else Some ([], text)

abbrev pub path_at : List ℕ → Option (List (List ℕ) × List ℕ)
path_at text = option_and_then (λ n. with_names (n.0 ∷ []) (names_at (length n.1) n.1)) (name_at text)

abbrev pub words_at : List ℕ → Option (Token × List ℕ)
words_at text = option_and_then (λ p. option_map (λ t. (t, p.1)) (word_token p.0)) (path_at text)

abbrev pub sign_of_one : List ℕ → Option (Token × List ℕ)
sign_of_one [] = None
sign_of_one (a ∷ rest) = option_map (λ t. (t, rest)) (single_sign a)

abbrev pub sign_of_two : List ℕ → Option (Token × List ℕ)
sign_of_two [] = None
sign_of_two (a ∷ []) = None
sign_of_two (a ∷ b ∷ rest) = option_map (λ sign. (Binary sign, rest)) (double_sign a b)

abbrev pub first_of_two : Option (Token × List ℕ) → Option (Token × List ℕ) → Option (Token × List ℕ)
first_of_two (Some x) other = Some x
first_of_two None other = other

abbrev pub sign_at : List ℕ → Option (Token × List ℕ)
sign_at text = first_of_two (sign_of_two text) (sign_of_one text)

unfoldable pub token_at : List ℕ → Option (Token × List ℕ)
token_at [] = None
token_at (c ∷ cs) =
    if is_ascii_digit c then Some (number_at (c ∷ cs))
    else (if is_quote c then option_and_then text_token (quoted_at (length cs) c cs)
    else (if is_letter c then words_at (c ∷ cs)
    else sign_at (c ∷ cs)))

abbrev pub after_white : List ℕ → List ℕ
after_white text = behind is_white text

abbrev pub with_tokens : List Token → Option (List Token) → Option (List Token)
with_tokens front read = option_map (λ ts. front ++ ts) read

-- the tokens of a text that doesn't begin with white, at most so many
unfoldable pub tokens_of : ℕ → List ℕ → Option (List Token)
tokens_of zero [] = Some []
tokens_of zero (c ∷ cs) = None
tokens_of (suc fuel) [] = Some []
tokens_of (suc fuel) (c ∷ cs) =
    option_and_then (λ t. with_tokens (t.0 ∷ []) (tokens_of fuel (after_white t.1))) (token_at (c ∷ cs))
