-- Which token begins with a character.
use Rattle.std.proofs.Common.{◌≡◌, ◌≢◌, ◌∙◌, ℕ, true, false, List, [], ◌∷◌, length, refl, sym, Some}
use Rattle.std.specs.Prelude.{option_and_then}
use Rattle.std.specs.Char.{is_ascii_digit}
use Rattle.fx_text.specs.Classes.{is_letter, is_quote}
use Rattle.fx_expr.specs.Scanning.{number_at, text_token, quoted_at, words_at, sign_at, token_at}

pub token_digit : (text cs : List ℕ) (c : ℕ) → text ≡ c ∷ cs → is_ascii_digit c ≡ true → token_at text
    ≡ Some (number_at text)
unfolding token_at
token_digit text cs c e d = rw (e, d) refl

pub token_quote : (text cs : List ℕ) (c : ℕ) → text ≡ c ∷ cs → is_ascii_digit c ≡ false → is_quote c ≡ true
    → token_at text ≡ option_and_then text_token (quoted_at (length cs) c cs)
unfolding token_at
token_quote text cs c e d q = rw (e, d, q) refl

pub token_word : (text cs : List ℕ) (c : ℕ) → text ≡ c ∷ cs → is_ascii_digit c ≡ false → is_quote c ≡ false
    → is_letter c ≡ true → token_at text ≡ words_at text
unfolding token_at
token_word text cs c e d q l = rw (e, d, q, l) refl

pub token_sign : (text cs : List ℕ) (c : ℕ) → text ≡ c ∷ cs → is_ascii_digit c ≡ false → is_quote c ≡ false
    → is_letter c ≡ false → token_at text ≡ sign_at (c ∷ cs)
unfolding token_at
token_sign text cs c e d q l = rw (e, d, q, l) refl

pub begins : (text cs : List ℕ) (c : ℕ) → text ≡ c ∷ cs → text ≢ []
begins text cs c e n = let x : [] ≡ c ∷ cs = sym n ∙ e in cc
