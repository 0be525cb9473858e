-- The extent of a control depends on computed lengths as far as the longest length, and its sizes are one list.
use Rattle.std.proofs.Common.{◌≡◌, ℕ, ℤ, pos, negsuc, ◌+◌, ◌*◌, ◌-◌, ◌^◌, true, false, true≢false, cond, nat_eq, List, length, min, chars, refl, sym, ◌∙◌, ap, arith}
use Rattle.std.specs.Prelude.{MatchBool}
use Rattle.fx_base.specs.declared.facts.PaneFacts.{PaneFacts}
use Rattle.fx_cells.proofs.Cutting.{one_wrapping_of}
use Rattle.fx_cells.specs.Columns.{cells_of}
use Rattle.fx_cells.specs.Wrapping.{IsWrapping}
use Rattle.fx_panes_parts.specs.declared.axes.Extent.{Extent}
use Rattle.fx_panes_parts.specs.declared.axes.OwnLengths.{OwnLengths}
use Rattle.fx_panes_parts.specs.declared.axes.PaneAxis.{PaneAxis}
use Rattle.fx_panes_parts.specs.Axes.{insets}
use Rattle.fx_panes_parts.specs.Lengths.{longest}
use Rattle.fx_panes_parts.specs.Panes.{widths_of}
use Rattle.fx_panes_parts.specs.Sizes.{control_extent, limited, preferred, resolved}
use Rattle.fx_boxes.specs.Controls.{IsLineCount, OneControl, SameWidths, columns_in, is_given, line_heights, scale_of, text_widths}

preferred-same : (own : ℤ) (a b : ℕ) → min a longest ≡ min b longest → preferred own a ≡ preferred own b
preferred-same (pos n) a b same = refl
preferred-same (negsuc n) a b same = same

limited-same : (own : ℤ) (pref a b : ℕ) → min a longest ≡ min b longest → limited own pref a ≡ limited own pref b
limited-same (pos n) pref a b same = refl
limited-same (negsuc n) pref a b same = ap (λ m. cond (nat_eq n 9223372036854775807) pref m) same

pub control-same : (own : OwnLengths) (a b c d : ℕ) → min a longest ≡ min b longest → min c longest ≡ min d longest
    → control_extent own a c ≡ control_extent own b d
unfolding resolved
control-same own a b c d low wish =
    rw (preferred-same own.pref c d wish, limited-same own.min (preferred own.pref d) a b low) refl

-- what is computed may stop at the end of the type
pub widths_are : (across : PaneAxis) (size : ℤ) (text : List ℕ) (result : Extent) (around scale letters wish : ℕ)
    → around ≡ insets across → scale ≡ scale_of size → letters ≡ min (4 * scale * cells_of text) (2 ^ 64 - 1)
    → wish ≡ min (around + letters) (2 ^ 64 - 1) → result ≡ control_extent across.own around wish
    → result ≡ text_widths across size text
widths_are across size text result around scale letters wish around_is scale_is letters_is wish_is result_is =
    let same : min wish longest ≡ min (around + 4 * scale * cells_of text) longest = omega (arith, letters_is, wish_is) in
    result_is ∙ (control-same across.own around around wish _ refl same ∙ rw (around_is, scale_is) refl)

preferred-given : (own : ℤ) (a b : ℕ) → is_given own ≡ true → preferred own a ≡ preferred own b
preferred-given (pos n) a b given = refl
preferred-given (negsuc n) a b given = absurd (true≢false (sym given))

-- where a preferred width is given, no text matters
pub widths_given : (across : PaneAxis) (size : ℤ) (text : List ℕ) (result : Extent) (around : ℕ)
    → around ≡ insets across → is_given across.own.pref ≡ true → result ≡ control_extent across.own around around
    → result ≡ text_widths across size text
widths_given across size text result around around_is given result_is =
    let wish : ℕ = insets across + 4 * scale_of size * cells_of text in
    result_is
    ∙ rw (around_is, preferred-given across.own.pref (insets across) wish given) refl

pub heights_are : (down : PaneAxis) (size : ℤ) (result : Extent) (around scale lines rows height : ℕ)
    → around ≡ insets down → scale ≡ scale_of size → rows ≡ min (6 * scale * lines) (2 ^ 64 - 1)
    → height ≡ min (around + rows) (2 ^ 64 - 1) → result ≡ control_extent down.own height height
    → result ≡ line_heights down size lines
heights_are down size result around scale lines rows height around_is scale_is rows_is height_is result_is =
    let same : min height longest ≡ min (around + 6 * scale * lines) longest = omega (arith, rows_is, height_is) in
    result_is ∙ (control-same down.own height _ height _ same same ∙ rw (around_is, scale_is) refl)

one_count : (control : PaneFacts) (w m n : ℕ) → IsLineCount control w m → IsLineCount control w n → m ≡ n
one_count control w m n =
    elim control.wrap as (λ b.
    MatchBool b ((ranges : List (ℕ × ℕ)) × IsWrapping (columns_in control w) (chars control.text) ranges × (m ≡ length ranges)) (m ≡ 1)
    → MatchBool b ((ranges : List (ℕ × ℕ)) × IsWrapping (columns_in control w) (chars control.text) ranges × (n ≡ length ranges)) (n ≡ 1)
    → m ≡ n) [
      | true ↦ λ one another.
          one.2 ∙ (ap length (one_wrapping_of (columns_in control w) (chars control.text) one.0 another.0 one.1 another.1) ∙ sym another.2)
      | false ↦ λ one another. one ∙ sym another
    ]

pub one_control : OneControl
one_control control w one another first second =
    let lines : first.lines ≡ second.lines = one_count control w first.lines second.lines first.counted second.counted in
    first.sizes ∙ (rw lines refl ∙ sym second.sizes)

pub same_widths : SameWidths
same_widths control v w one another first second = ap widths_of first.sizes ∙ sym (ap widths_of second.sizes)
