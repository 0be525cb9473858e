-- What the bytes of a style sheet begin with, and where comments begin and end.
use Rattle.std.specs.Prelude.{ℕ, Bool, false, ◌==◌, ◌&&◌, ◌||◌, List, [], ◌∷◌}
use Rattle.fx_text.specs.Characters.{asterisk, slash}

-- whether the bytes begin with b
abbrev pub begins_with : ℕ → List ℕ → Bool
begins_with b [] = false
begins_with b (c ∷ bs) = c == b

-- whether `*/` stands somewhere among the bytes
abbrev pub has_end : List ℕ → Bool
has_end [] = false
has_end (b ∷ bs) = ((b == asterisk) && begins_with slash bs) || has_end bs

-- whether `/*` begins here
abbrev pub begins_comment : ℕ → List ℕ → Bool
begins_comment b bs = (b == slash) && begins_with asterisk bs

-- whether `/*` stands somewhere among the bytes
abbrev pub has_beginning : List ℕ → Bool
has_beginning [] = false
has_beginning (b ∷ bs) = begins_comment b bs || has_beginning bs
