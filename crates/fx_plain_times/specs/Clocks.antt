-- Timelines by their labels: JavaFX 21 API, javafx.animation.Timeline.
use Rattle.std.specs.Prelude.{ℕ, List, [], ◌∷◌, ◌++◌, Option, Result, slice_set}
use Rattle.std.specs.List.{position}
use Rattle.std.specs.Str.{bytes_eq}
use Rattle.fx_anim.specs.Line.{Line, line_at}
use Rattle.fx_stage_model.specs.Answers.{or_word}
use Rattle.fx_stage_types.specs.declared.refusals.Refusal.{Refusal}
use Rattle.fx_stage_types.specs.declared.refusals.Refusal.TheVariants.{Unknown}

-- the timelines in the order of their making, and the label of each
pub record Clock : Type 0 where
  pub labels : List (List ℕ)
  pub lines : List Line

abbrev pub no_timelines : Clock
no_timelines = record { labels = []; lines = [] }

-- the place of the timeline of this label
abbrev pub place_of : List ℕ → Clock → Option ℕ
place_of label clock = position (bytes_eq label) clock.labels

-- the same, or the word for why there is none
abbrev pub find : Clock → List ℕ → Result ℕ Refusal
find clock label = or_word Unknown (place_of label clock)

abbrev pub with_timeline : List ℕ → Line → Clock → Clock
with_timeline label line clock =
    record { labels = clock.labels ++ (label ∷ []); lines = clock.lines ++ (line ∷ []) }

-- the timeline at this place becomes another
abbrev pub changed_at : ℕ → (Line → Line) → Clock → Clock
changed_at place change clock =
    record clock { lines = slice_set clock.lines place (change (line_at clock.lines place)) }
