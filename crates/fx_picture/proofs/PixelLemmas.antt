-- Shapes laid over a point, one list after another.
use Rattle.std.proofs.Common.{◌≡◌, ℕ, List, [], ◌∷◌, ◌++◌, refl}
use Rattle.fx_picture.specs.declared.shapes.Shape.{Shape}
use Rattle.fx_picture.specs.Pixels.{laid, over}

pub over-append : (x y u : ℕ) (ss ts : List Shape) → over x y u (ss ++ ts) ≡ over x y (over x y u ss) ts
over-append x y u [] ts = refl
over-append x y u (s ∷ ss) ts = over-append x y (laid s x y u) ss ts
