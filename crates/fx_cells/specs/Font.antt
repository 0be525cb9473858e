-- The glyphs of the printable characters of ASCII, and that of every other character.
-- Cited by src/font.rt and by painting.
use Rattle.std.specs.Prelude.{ℕ, ◌+◌, ◌*◌, ◌-◌, List, [], ◌∷◌, map, fold, codes, slice_index, if◌then◌else◌}
use Rattle.std.specs.Int.{is_in_range}
use Rattle.fx_text.specs.Characters.{digit_zero, space}

-- the number that these characters spell in base eight
abbrev pub octal : List ℕ → ℕ
octal digits = fold (λ n digit. n * 8 + (digit - digit_zero)) 0 digits

-- the glyphs from the space to the tilde: a digit for each row, from the top
unfoldable pub glyphs : List ℕ
glyphs = map octal
    (codes "00000" ∷ codes "22202" ∷ codes "55000" ∷ codes "57575"
    ∷ codes "36236" ∷ codes "51245" ∷ codes "25253" ∷ codes "22000"
    ∷ codes "12221" ∷ codes "42224" ∷ codes "05250" ∷ codes "02720"
    ∷ codes "00024" ∷ codes "00700" ∷ codes "00002" ∷ codes "11244"
    ∷ codes "75557" ∷ codes "26227" ∷ codes "71747" ∷ codes "71717"
    ∷ codes "55711" ∷ codes "74717" ∷ codes "74757" ∷ codes "71111"
    ∷ codes "75757" ∷ codes "75717" ∷ codes "02020" ∷ codes "02024"
    ∷ codes "12421" ∷ codes "07070" ∷ codes "42124" ∷ codes "71202"
    ∷ codes "75743" ∷ codes "25755" ∷ codes "65656" ∷ codes "34443"
    ∷ codes "65556" ∷ codes "74647" ∷ codes "74644" ∷ codes "34553"
    ∷ codes "55755" ∷ codes "72227" ∷ codes "11152" ∷ codes "55655"
    ∷ codes "44447" ∷ codes "57755" ∷ codes "65555" ∷ codes "25552"
    ∷ codes "65644" ∷ codes "25563" ∷ codes "65655" ∷ codes "34216"
    ∷ codes "72222" ∷ codes "55557" ∷ codes "55552" ∷ codes "55775"
    ∷ codes "55255" ∷ codes "55222" ∷ codes "71247" ∷ codes "64446"
    ∷ codes "44211" ∷ codes "31113" ∷ codes "25000" ∷ codes "00007"
    ∷ codes "42000" ∷ codes "03553" ∷ codes "44656" ∷ codes "03443"
    ∷ codes "11353" ∷ codes "02743" ∷ codes "12722" ∷ codes "03536"
    ∷ codes "44655" ∷ codes "20222" ∷ codes "10152" ∷ codes "44565"
    ∷ codes "62227" ∷ codes "07755" ∷ codes "06555" ∷ codes "02552"
    ∷ codes "06564" ∷ codes "03531" ∷ codes "03444" ∷ codes "03616"
    ∷ codes "27221" ∷ codes "05553" ∷ codes "05552" ∷ codes "05577"
    ∷ codes "05225" ∷ codes "05536" ∷ codes "07147" ∷ codes "32623"
    ∷ codes "22222" ∷ codes "62326" ∷ codes "03600" ∷ [])

abbrev tilde : ℕ
tilde = 126

-- the glyph of a character; a full block where it has none of its own
abbrev pub glyph_of : ℕ → ℕ
glyph_of c = if is_in_range space tilde c then slice_index glyphs (c - space) else octal (codes "77777")
