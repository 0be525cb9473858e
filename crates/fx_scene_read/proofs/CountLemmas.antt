-- Counting pieces, and counting what is seen of them.
use Rattle.std.proofs.Common.{◌≡◌, ℕ, ◌+◌, Bool, List, [], ◌∷◌, map, cond, refl, sym}
use Rattle.std.specs.List.{count_by, fold}
use Rattle.fx_scene_outline.specs.Pieces.{Piece as PlainPiece}
use Rattle.fx_scene_outline.specs.Views.{piece_view, shown}
use Rattle.fx_scene_outline.specs.declared.pieces.Piece.{Piece}

folded : {A B C : Type 0} (f : C → B → C) (g : A → B) (a : C) (xs : List A)
    → fold f a (map g xs) ≡ fold (λ c x. f c (g x)) a xs
folded f g a [] = refl
folded f g a (x ∷ xs) = folded f g (f a (g x)) xs

pub counted : (test : PlainPiece → Bool) (pieces : List Piece)
    → count_by (λ p. test (piece_view p)) pieces ≡ count_by test (shown pieces)
counted test pieces = sym (folded (λ (n : ℕ) (p : PlainPiece). n + cond (test p) 1 0) piece_view 0 pieces)
