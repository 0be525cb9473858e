-- The insets of a node without a border are its padding.
use Rattle.std.proofs.Common.{◌≡◌, ◌∙◌, ℤ, pos, negsuc, List, [], None, fold, length, map, unwrap_or, ap, refl, sym, arith}
use Rattle.std.specs.Prelude.{◌+ℤ◌}
use Rattle.std.specs.List.{range_with_len}
use Rattle.fx_base.specs.declared.color.Color.{Color}
use Rattle.fx_insets.specs.declared.insets.Side.{Side}
use Rattle.fx_insets.specs.Insets.{border_end, border_reach, greater, inset_on, on}
use Rattle.fx_look.specs.declared.looks.Look.{Look}
use Rattle.fx_panes_parts.specs.Lengths.{length_of}

same_length : (n : ℤ) → length_of n ≡ length_of (pos 0 +ℤ pos (length_of n))
same_length (pos n) = omega arith
same_length (negsuc n) = refl

pub bare_on : (side : Side) (look : Look) → look.border_color ≡ []
    → length_of (on side look.padding) ≡ inset_on side look
unfolding inset_on border_reach
bare_on side look bare =
    same_length (on side look.padding)
    ∙ ap (λ (colors : List Color). length_of (
    unwrap_or (fold greater None (map (border_end side look) (range_with_len 0 (length colors)))) (pos 0)
    +ℤ pos (length_of (on side look.padding)))) (sym bare)
