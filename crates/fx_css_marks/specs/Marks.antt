-- The marks of a text: its bytes with their positions, where a comment is one space, and what is quoted is not plain.
-- A byte that goes on with a character has the position behind that character, which is told to nobody.
use Rattle.std.specs.Prelude.{◌≡◌, ℕ, Bool, true, false, ◌==◌, List, [], ◌∷◌, ◌++◌, map, slice_get, if◌then◌else◌}
use Rattle.std.specs.List.{list_any}
use Rattle.std.specs.Option.{option_map_or}
use Rattle.fx_base.specs.declared.positions.Place.{Place}
use Rattle.fx_base.specs.declared.positions.Position.{Position}
use Rattle.fx_base.specs.Positions.{start, after_byte, after_bytes}
use Rattle.fx_text.specs.Characters.{asterisk, slash}
use Rattle.fx_text.specs.Characters as char
use Rattle.fx_text.specs.Classes.{is_quote}
use Rattle.fx_css_marks.specs.declared.marks.Mark.{Mark}
use Rattle.fx_css_marks.specs.Bytes.{begins_comment, has_end}

abbrev pub mark : ℕ → Position → Bool → Mark
mark b p plain = record { byte = b; position = p; plain = plain }

-- a space at the `/` of a comment
abbrev pub space : Position → Mark
space p = mark char.space p true

-- the marks of a quoted text that begins at p
abbrev pub quoted : Position → List ℕ → List Mark
quoted p [] = []
quoted p (b ∷ bs) = mark b p false ∷ quoted (after_byte p b) bs

-- `/*`, what stands in a comment, and `*/`
abbrev pub comment : List ℕ → List ℕ
comment inside = slash ∷ (asterisk ∷ (inside ++ (asterisk ∷ (slash ∷ []))))

-- a quote, what stands between, and the same quote
abbrev pub quotation : ℕ → List ℕ → List ℕ
quotation q inside = q ∷ (inside ++ (q ∷ []))

-- the byte stands somewhere among these
abbrev pub has_byte : ℕ → List ℕ → Bool
has_byte byte bs = list_any (λ b. b == byte) bs

-- the marks of the bytes that begin at p, by what stands first: a byte that begins nothing, a comment, or a quoted
-- text; the last two end at the first end behind their beginning, or with the text
pub data Marked : Position → List ℕ → List Mark → Type 0 where
  Ended : {p : Position} → Marked p [] []
  Plain : {p : Position} {bs : List ℕ} {ms : List Mark} (b : ℕ) → is_quote b ≡ false → begins_comment b bs ≡ false
      → Marked (after_byte p b) bs ms → Marked p (b ∷ bs) (mark b p true ∷ ms)
  Comment : {p : Position} {bs : List ℕ} {ms : List Mark} (inside rest : List ℕ) → bs ≡ comment inside ++ rest
      → has_end (inside ++ (asterisk ∷ [])) ≡ false → Marked (after_bytes p (comment inside)) rest ms
      → Marked p bs (space p ∷ ms)
  OpenComment : {p : Position} {bs : List ℕ} (inside : List ℕ) → bs ≡ slash ∷ (asterisk ∷ inside)
      → has_end inside ≡ false → Marked p bs (space p ∷ [])
  Quoted : {p : Position} {bs : List ℕ} {ms : List Mark} (q : ℕ) (inside rest : List ℕ) → is_quote q ≡ true
      → bs ≡ quotation q inside ++ rest → has_byte q inside ≡ false
      → Marked (after_bytes p (quotation q inside)) rest ms → Marked p bs (quoted p (quotation q inside) ++ ms)
  OpenQuoted : {p : Position} {bs : List ℕ} (q : ℕ) (inside : List ℕ) → is_quote q ≡ true → bs ≡ q ∷ inside
      → has_byte q inside ≡ false → Marked p bs (quoted p bs)

-- what a mark means to the cutting: itself, or nothing where it is quoted (255 is no byte of UTF-8)
abbrev pub sign : Mark → ℕ
sign m = if m.plain then m.byte else 255

abbrev pub bytes : List Mark → List ℕ
bytes ms = map (λ m. m.byte) ms

abbrev pub signs : List Mark → List ℕ
signs ms = map sign ms

-- the position of the mark with this number, or else the first of the text
abbrev pub position_of : List Mark → ℕ → Position
position_of ms n = option_map_or (λ m. m.position) (slice_get ms n) start

-- its place in this file
abbrev pub place_of : ℕ → List Mark → ℕ → Place
place_of file ms n = record { file = file; position = position_of ms n }
