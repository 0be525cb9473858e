-- How far a bare run, a comment and a quoted text reach, in bytes from the first one on.
use Rattle.std.specs.Prelude.{ℕ, suc, Bool, true, false, ◌==◌, ◌&&◌, ◌||◌, List, [], ◌∷◌, if◌then◌else◌}
use Rattle.fx_text.specs.Characters.{asterisk, slash}
use Rattle.fx_text.specs.Classes.{is_quote}
use Rattle.fx_css_marks.specs.Bytes.{begins_with, begins_comment}

-- a quote, or a `/` that may begin a comment
abbrev pub is_stop : ℕ → Bool
is_stop b = is_quote b || (b == slash)

-- the bytes to this quote, the quote included, or to the end of the text
abbrev pub quoted_length : ℕ → List ℕ → ℕ
quoted_length q [] = 0
quoted_length q (b ∷ bs) = if b == q then 1 else suc (quoted_length q bs)

-- the bytes to `*/`, these two included, or to the end of the text
abbrev pub comment_length : List ℕ → ℕ
comment_length [] = 0
comment_length (b ∷ bs) = if (b == asterisk) && begins_with slash bs then 2 else suc (comment_length bs)

-- no byte is a quote, and no comment begins
abbrev pub is_bare : List ℕ → Bool
is_bare [] = true
is_bare (b ∷ bs) = if is_quote b || begins_comment b bs then false else is_bare bs

-- the bytes of a comment behind its `/`
abbrev pub comment_rest : List ℕ → ℕ
comment_rest [] = 0
comment_rest (b ∷ bs) = suc (comment_length bs)
