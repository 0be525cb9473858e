-- The inset of a look that has no border.
use Rattle.std.proofs.Common.{◌≡◌, ℕ, ◌≤◌, ◌+ℤ◌, pos, length, refl, arith}
use Rattle.fx_insets.specs.declared.insets.Side.{Side}
use Rattle.fx_insets.specs.Insets.{border_reach, inset_on, on}
use Rattle.fx_look.specs.declared.looks.Look.{Look}
use Rattle.fx_panes_parts.specs.Lengths.{length_of, longest, pixels}
use Rattle.fx_layout_parts.proofs.RowSides.{length_most}

same_length : (n : ℕ) → n ≤ longest → n ≡ length_of (pixels (length_of (pos 0 +ℤ pos n)))
same_length n few = grind (arith, few)

no_reach : (side : Side) (look : Look) → length look.border_color ≡ 0 → border_reach side look ≡ pos 0
unfolding border_reach
no_reach side look none = rw none refl

-- it is the padding
pub without_border : (side : Side) (look : Look) → length look.border_color ≡ 0
    → length_of (on side look.padding) ≡ length_of (pixels (inset_on side look))
unfolding inset_on
without_border side look none =
    rw (no_reach side look none) (same_length (length_of (on side look.padding)) (length_most (on side look.padding)))
