-- What a viewer shows of a stream: a fold over its lines.
use Rattle.std.specs.Prelude.{ℕ, Bool, ◌+◌, ◌==◌, ◌||◌, List, [], ◌∷◌, ◌++◌, Option, Some, None, Result, Ok, Err, codes, nat_eq, suc, zero, length, if◌then◌else◌}
use Rattle.std.specs.List.{slice_split, starts_with}
use Rattle.std.specs.Str.{bytes_eq}
use Rattle.fx_text.specs.Characters.{line_feed}
use Rattle.fx_delta.specs.declared.lines.Frame.{Frame}
use Rattle.fx_delta.specs.Lines.{Item, frame_in, is_rectangle, item_in, words}
use Rattle.fx_delta.specs.Pictures.{Picture, begun, image, lies, no_picture, with_pixels}

-- the picture that is shown, and in a frame how many rectangles are to come before its row items
pub record Screen : Type 0 where
  pub picture : Picture
  pub left : Option ℕ

-- why a line is bad, or the end of the stream
pub data Flaw : Type 0 where
  no_frame : Flaw  -- begins with `frame`, and isn't a frame line
  stray : Flaw  -- begins with `row` or `endframe`, and no frame is open
  no_rectangle : Flaw  -- isn't one of the rectangles that are to come
  no_item : Flaw  -- is neither a row item nor `endframe`, where one of these must stand
  outside : Flaw  -- a row item that doesn't lie within the picture
  unfinished : Flaw  -- the stream ends, and a frame is open
  unended : Flaw  -- the last line has no line feed

-- what a line makes of the screen, and what is written for it
pub record Step : Type 0 where
  pub screen : Screen
  pub written : List ℕ

-- written as it is
abbrev pub copied : Screen → List ℕ → Step
copied screen line = record { screen = screen; written = line ++ (line_feed ∷ []) }

abbrev pub after_frame : Picture → List ℕ → Option Frame → Result Step Flaw
after_frame picture line None = Err no_frame
after_frame picture line (Some frame) =
    Ok (copied (record { picture = begun frame.width frame.height picture; left = Some frame.rectangles }) line)

abbrev pub after_item : Picture → Option Item → Result Step Flaw
after_item picture None = Err no_item
after_item picture (Some item) =
    if lies picture item.x item.y (length item.pixels)
    then Ok (record {
      screen = record { picture = with_pixels picture item.x item.y item.pixels; left = Some 0 };
      written = [];
    })
    else Err outside

abbrev pub begins : List ℕ → List ℕ → Bool
begins line word = starts_with nat_eq line word

-- what one line does
abbrev pub after_line_at : Option ℕ → Picture → List ℕ → Result Step Flaw
after_line_at None picture line =
    if begins line (codes "frame") then after_frame picture line (frame_in (words line))
    else (if begins line (codes "row") || begins line (codes "endframe") then Err stray
    else Ok (copied (record { picture = picture; left = None }) line))
after_line_at (Some (suc more)) picture line =
    if is_rectangle (words line) then Ok (copied (record { picture = picture; left = Some more }) line)
    else Err no_rectangle
after_line_at (Some zero) picture line =
    if bytes_eq line (codes "endframe")
    then Ok (record { screen = record { picture = picture; left = None }; written = image picture })
    else after_item picture (item_in (words line))

unfoldable pub after_line : Screen → List ℕ → Result Step Flaw
after_line screen line = after_line_at screen.left screen.picture line

-- all that is written for a stream, and the number of its first bad line
pub record Shown : Type 0 where
  pub bytes : List ℕ
  pub bad : Option ℕ

-- nothing may stand behind the last line feed, and no frame may be open there
abbrev pub at_end : Option ℕ → List ℕ → Result (List ℕ) Flaw
at_end left (c ∷ cs) = Err unended
at_end (Some more) [] = Err unfinished
at_end None [] = Ok []

abbrev pub told_end : ℕ → Result (List ℕ) Flaw → Shown
told_end number (Ok bytes) = record { bytes = bytes; bad = None }
told_end number (Err flaw) = record { bytes = []; bad = Some number }

abbrev pub told : ℕ → Result Step Flaw → (Screen → Shown) → Shown
told number (Ok step) rest =
    record { bytes = step.written ++ (rest step.screen).bytes; bad = (rest step.screen).bad }
told number (Err flaw) rest = record { bytes = []; bad = Some number }

-- of the line with this number and the parts behind it, the last of which stands behind the last line feed
abbrev pub shown_from : ℕ → Screen → List ℕ → List (List ℕ) → Shown
shown_from number screen line [] = told_end number (at_end screen.left line)
shown_from number screen line (next ∷ parts) =
    told number (after_line screen line) (λ after. shown_from (number + 1) after next parts)

abbrev pub is_line_feed : ℕ → Bool
is_line_feed c = c == line_feed

abbrev pub shown_parts : ℕ → Screen → List (List ℕ) → Shown
shown_parts number screen [] = record { bytes = []; bad = None }
shown_parts number screen (line ∷ parts) = shown_from number screen line parts

abbrev pub first_screen : Screen
first_screen = record { picture = no_picture; left = None }

-- what a viewer shows of a whole stream
unfoldable pub shown : List ℕ → Shown
shown stream = shown_parts 1 first_screen (slice_split is_line_feed stream)
