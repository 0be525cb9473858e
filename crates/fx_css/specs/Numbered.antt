-- What cutting looks at: bytes, each with what it means (itself, or nothing where it is quoted), numbered from the
-- front of the text.
use Rattle.std.specs.Prelude.{ℕ, ◌==◌, Bool, List, [], ◌∷◌, map, suc}
use Rattle.fx_text.specs.Classes as class
use Rattle.fx_css_marks.specs.declared.marks.Mark.{Mark}
use Rattle.fx_css_marks.specs.Marks.{bytes, signs}
use Rattle.fx_css.specs.declared.parts.Numbered.{Numbered}
use Rattle.fx_css.specs.declared.parts.Part.{Part as Held}

abbrev pub numbered : ℕ → List ℕ → List ℕ → List Numbered
numbered n [] ss = []
numbered n (b ∷ bs) [] = []
numbered n (b ∷ bs) (s ∷ ss) = record { byte = b; sign = s; number = n } ∷ numbered (suc n) bs ss

-- the marks of a text, from its front on
abbrev pub numbered_marks : List Mark → List Numbered
numbered_marks ms = numbered 0 (bytes ms) (signs ms)

-- a part as the code holds it
unfoldable pub shown : Held → List Numbered
shown part = numbered part.number part.bytes.now part.signs.now

abbrev pub bytes_of : List Numbered → List ℕ
bytes_of ns = map (λ m. m.byte) ns

unfoldable pub is_sign : ℕ → Numbered → Bool
is_sign c m = m.sign == c

unfoldable pub is_white : Numbered → Bool
is_white m = class.is_white m.sign
