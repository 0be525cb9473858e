-- How bytes are scanned into marks, one by one: what is given out at each, and what is inside what.
-- A `/` waits for the next byte, which may make it the beginning of a comment.
use Rattle.std.specs.Prelude.{ℕ, true, false, ◌==◌, List, [], ◌∷◌, ◌++◌, not, if◌then◌else◌}
use Rattle.fx_base.specs.declared.positions.Position.{Position}
use Rattle.fx_css_marks.specs.declared.marks.Mark.{Mark}
use Rattle.fx_text.specs.Characters.{asterisk, slash}
use Rattle.fx_text.specs.Classes.{is_quote}
use Rattle.fx_base.specs.Positions.{after_byte}
use Rattle.fx_css_marks.specs.Marks.{mark, space}

-- what the next byte stands in
pub data Mode : Type 0 where
  Plain : Mode
  -- behind a `/` at that position, which is not a mark yet
  Slashed : Position → Mode
  Commented : Mode
  -- in a comment, behind a `*`
  Starred : Mode
  -- in a text that ends at this quote
  Quoted : ℕ → Mode

-- outside comments and quoted texts
unfoldable pub plain_marks : Position → ℕ → List Mark
plain_marks p b = if b == slash then [] else (mark b p (not (is_quote b)) ∷ [])

unfoldable pub plain_mode : Position → ℕ → Mode
plain_mode p b = if b == slash then Slashed p else (if is_quote b then Quoted b else Plain)

-- in a comment, behind a `*`
abbrev pub star_mode : ℕ → Mode
star_mode b = if b == slash then Plain else (if b == asterisk then Starred else Commented)

unfoldable pub marks_at : Mode → Position → ℕ → List Mark
marks_at Plain p b = plain_marks p b
marks_at (Slashed q) p b = if b == asterisk then (space q ∷ []) else (mark slash q true ∷ plain_marks p b)
marks_at Commented p b = []
marks_at Starred p b = []
marks_at (Quoted q) p b = mark b p false ∷ []

unfoldable pub mode_after : Mode → Position → ℕ → Mode
mode_after Plain p b = plain_mode p b
mode_after (Slashed q) p b = if b == asterisk then Commented else plain_mode p b
mode_after Commented p b = if b == asterisk then Starred else Commented
mode_after Starred p b = star_mode b
mode_after (Quoted q) p b = if b == q then Plain else Quoted q

-- what still waits at the end of the text
abbrev pub marks_left : Mode → List Mark
marks_left (Slashed q) = mark slash q true ∷ []
marks_left m = []

abbrev pub scanned : Mode → Position → List ℕ → List Mark
scanned m p [] = marks_left m
scanned m p (b ∷ bs) = marks_at m p b ++ scanned (mode_after m p b) (after_byte p b) bs
