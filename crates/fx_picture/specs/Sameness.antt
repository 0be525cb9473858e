-- Whether shapes are one, as a test.
use Rattle.std.specs.Prelude.{ℕ, ℤ, Bool, false, ◌&&◌, ◌==◌, List, nat_eq}
use Rattle.std.specs.Cmp.Lexicographic.{pointwise}
use Rattle.std.specs.Ordering.{int_eq}
use Rattle.fx_base.specs.declared.color.Color.{Color}
use Rattle.fx_base.specs.declared.geometry.Rect.{Rect}
use Rattle.fx_picture.specs.declared.shapes.Shape.{Shape}
use Rattle.fx_picture.specs.declared.shapes.Shape.TheVariants.{Fill, Letters}

abbrev pub is_same_rect : Rect → Rect → Bool
is_same_rect a b = int_eq a.x b.x && (int_eq a.y b.y && (int_eq a.w b.w && int_eq a.h b.h))

abbrev pub is_same_color : Color → Color → Bool
is_same_color a b = a.r == b.r && (a.g == b.g && (a.b == b.b && a.a == b.a))

abbrev pub is_same_place : ℤ → ℤ → ℤ → ℤ → ℤ → ℤ → Bool
is_same_place x y scale other_x other_y other_scale =
    int_eq x other_x && (int_eq y other_y && int_eq scale other_scale)

abbrev pub is_same_text : List ℕ → List ℕ → Bool
is_same_text a b = pointwise nat_eq a b

-- the two shapes are one
unfoldable pub is_same_shape : Shape → Shape → Bool
is_same_shape (Fill r c) (Fill q d) = is_same_rect r q && is_same_color c d
is_same_shape (Letters x y s t r c) (Letters v w z u q d) =
    is_same_place x y s v w z && (is_same_text t u && (is_same_rect r q && is_same_color c d))
is_same_shape (Fill r c) (Letters v w z u q d) = false
is_same_shape (Letters x y s t r c) (Fill q d) = false
