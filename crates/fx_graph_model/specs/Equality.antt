-- Are two values one?
use Rattle.std.specs.Prelude.{Bool, true, false, ◌&&◌, ◌==◌, nat_eq}
use Rattle.std.specs.Ordering.{int_eq}
use Rattle.std.specs.Bool.{beq}
use Rattle.std.specs.Cmp.Lexicographic.{pointwise}
use Rattle.fx_base.specs.declared.color.Color.{Color as Paint}
use Rattle.fx_base.specs.declared.geometry.Sides.{Sides as Insets}
use Rattle.fx_base.specs.declared.kinds.Family.{Family}
use Rattle.fx_base.specs.declared.kinds.Family.TheVariants as family
use Rattle.fx_base.specs.declared.kinds.Kind.{Kind}
use Rattle.fx_base.specs.declared.kinds.Kind.TheVariants as kind
use Rattle.fx_base.specs.declared.values.Value.{Value}
use Rattle.fx_base.specs.declared.values.Value.TheVariants.{Int, Bool as Truth, Text, Choice, Color, Sides}

abbrev pub same_family : Family → Family → Bool
same_family family.Pos family.Pos = true
same_family family.Priority family.Priority = true
same_family family.HPos family.HPos = true
same_family family.VPos family.VPos = true
same_family _ _ = false

abbrev pub same_kind : Kind → Kind → Bool
same_kind kind.Int kind.Int = true
same_kind kind.Bool kind.Bool = true
same_kind kind.Text kind.Text = true
same_kind (kind.Choice one) (kind.Choice other) = same_family one other
same_kind kind.Color kind.Color = true
same_kind kind.Sides kind.Sides = true
same_kind _ _ = false

abbrev pub same_color : Paint → Paint → Bool
same_color one other = (one.r == other.r) && ((one.g == other.g) && ((one.b == other.b) && (one.a == other.a)))

abbrev pub same_sides : Insets → Insets → Bool
same_sides one other =
    int_eq one.top other.top
    && (int_eq one.right other.right && (int_eq one.bottom other.bottom && int_eq one.left other.left))

unfoldable pub same_value : Value → Value → Bool
same_value (Int one) (Int other) = int_eq one other
same_value (Truth one) (Truth other) = beq one other
same_value (Text one) (Text other) = pointwise nat_eq one other
same_value (Choice one place) (Choice other there) = same_family one other && (place == there)
same_value (Color one) (Color other) = same_color one other
same_value (Sides one) (Sides other) = same_sides one other
same_value _ _ = false
