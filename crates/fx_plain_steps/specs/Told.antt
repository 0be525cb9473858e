-- What is told of a run: its lines of output, or one line of totals in their place.
use Rattle.std.specs.Prelude.{ℕ, ◌≤◌, ◌+◌, ◌^◌, List, [], ◌∷◌, ◌++◌, codes}
use Rattle.std.specs.Fmt.{decimal}
use Rattle.fx_text.specs.Characters.{line_feed, space}

-- how many frames there were, the area of all damage in pixels, how many listeners were told, and all pixels added up
pub record Totals : Type 0 where
  pub frames : ℕ
  pub area : ℕ
  pub notices : ℕ
  pub pixels : ℕ

abbrev pub no_totals : Totals
no_totals = record { frames = 0; area = 0; notices = 0; pixels = 0 }

abbrev pub added : Totals → Totals → Totals
added one other =
    record {
      frames = one.frames + other.frames;
      area = one.area + other.area;
      notices = one.notices + other.notices;
      pixels = one.pixels + other.pixels;
    }

-- what a line adds is far below what a count of 128 bits has room for
pub record AreSmall (totals : Totals) : Type 0 where
  pub frames : totals.frames ≤ 1
  pub area : totals.area ≤ 2 ^ 90
  pub notices : totals.notices ≤ 2 ^ 64
  pub pixels : totals.pixels ≤ 2 ^ 64

-- what is told of a line: its lines of output, and what they add to the totals
pub record Told : Type 0 where
  pub text : List ℕ
  pub totals : Totals

-- all of them added up
unfoldable pub totals_of : List Told → Totals
totals_of [] = no_totals
totals_of (one ∷ others) = added one.totals (totals_of others)

-- all of them one behind the other
unfoldable pub texts_of : List Told → List ℕ
texts_of [] = []
texts_of (one ∷ others) = one.text ++ texts_of others

-- of a line without a frame
abbrev pub lines_told : List ℕ → ℕ → Told
lines_told text notices =
    record { text = text; totals = record { frames = 0; area = 0; notices = notices; pixels = 0 } }

-- `summary FRAMES AREA NOTICES SUM`
unfoldable pub summary_line : Totals → List ℕ
summary_line totals =
    codes "summary " ++ (decimal totals.frames ++ (space ∷ (decimal totals.area ++ (space ∷ (decimal totals.notices
    ++ (space ∷ (decimal totals.pixels ++ (line_feed ∷ []))))))))
