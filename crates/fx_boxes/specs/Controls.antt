-- A control: a text in its insets, on one line or wrapped at a width: JavaFX 21 API, javafx.scene.control.Labeled.
-- A cell of text is 4 pixels wide and a line 6 high, times the scale. Cited by src/control.rt.
use Rattle.std.specs.Prelude.{◌≡◌, ℕ, ℤ, pos, negsuc, ◌+◌, ◌*◌, ◌/◌, Bool, true, false, List, MatchBool, chars, length, max}
use Rattle.fx_base.specs.declared.facts.PaneFacts.{PaneFacts}
use Rattle.fx_base.specs.declared.facts.Sizes.{Sizes}
use Rattle.fx_cells.specs.Columns.{cells_of}
use Rattle.fx_cells.specs.Wrapping.{IsWrapping}
use Rattle.fx_panes_parts.specs.declared.axes.Axis.TheVariants.{Across, Down}
use Rattle.fx_panes_parts.specs.declared.axes.Extent.{Extent}
use Rattle.fx_panes_parts.specs.declared.axes.PaneAxis.{PaneAxis}
use Rattle.fx_panes_parts.specs.Axes.{content, insets, joined, pane_axis}
use Rattle.fx_panes_parts.specs.Panes.{widths_of}
use Rattle.fx_panes_parts.specs.Sizes.{control_extent}

-- a length of a look is given, and isn't to be computed
abbrev pub is_given : ℤ → Bool
is_given (pos n) = true
is_given (negsuc n) = false

-- how much larger than the smallest the letters of a font size are
abbrev pub scale_of : ℤ → ℕ
scale_of (pos size) = max 1 (size / 6)
scale_of (negsuc size) = 1

-- the minimum width is the insets, and the preferred one has room for the text in letters of a size
abbrev pub text_widths : PaneAxis → ℤ → List ℕ → Extent
text_widths across size text =
    control_extent across.own (insets across) (insets across + 4 * scale_of size * cells_of text)

unfoldable pub control_widths : PaneFacts → Extent
control_widths control = text_widths (pane_axis Across control) control.font_size (chars control.text)

-- both the minimum and the preferred height have room for so many lines
abbrev pub line_heights : PaneAxis → ℤ → ℕ → Extent
line_heights down size lines =
    let height = insets down + 6 * scale_of size * lines in control_extent down.own height height

unfoldable pub control_heights : PaneFacts → ℕ → Extent
control_heights control lines = line_heights (pane_axis Down control) control.font_size lines

-- how many cells a line has room for in a width, but at least one
unfoldable pub columns_in : PaneFacts → ℕ → ℕ
columns_in control w = max 1 (content (pane_axis Across control) w / (4 * scale_of control.font_size))

-- the control has so many lines in a width: one, unless its text wraps
abbrev pub IsLineCount : PaneFacts → ℕ → ℕ → Type 0
IsLineCount control w lines = MatchBool control.wrap
    ((ranges : List (ℕ × ℕ)) × IsWrapping (columns_in control w) (chars control.text) ranges
    × (lines ≡ length ranges))
    (lines ≡ 1)

-- the sizes of a control, with the heights that it has in this width
pub record IsControl (control : PaneFacts) (w : ℕ) (answer : Sizes) : Type 0 where
  pub lines : ℕ
  pub counted : IsLineCount control w lines
  pub sizes : answer ≡ joined (control_widths control) (control_heights control lines)

-- in one width a control has one list of sizes
abbrev pub OneControl : Type 0
OneControl = (control : PaneFacts) (w : ℕ) (one another : Sizes)
    → IsControl control w one → IsControl control w another → one ≡ another

-- and its widths are the same in all widths
abbrev pub SameWidths : Type 0
SameWidths = (control : PaneFacts) (v w : ℕ) (one another : Sizes)
    → IsControl control v one → IsControl control w another → widths_of one ≡ widths_of another
