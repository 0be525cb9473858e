-- Each glyph has fifteen bits.
-- Cited by the proofs of the font.
use Rattle.std.proofs.Common.{◌≡◌, ℕ, ◌<◌, true, ltb, List, [], ◌∷◌, get_or, zero, suc, refl, arith}
use Rattle.std.specs.List.{list_all}
use Rattle.std.proofs.lemmas.Bool.{and_parts}
use Rattle.std.proofs.lemmas.Bool.Decides.{Decides-ltb}
use Rattle.fx_cells.specs.Font.{glyphs}

small_at : (xs : List ℕ) (i : ℕ) → list_all (λ x. ltb x 32768) xs ≡ true → get_or xs i 0 < 32768
small_at [] i h = omega arith
small_at (x ∷ xs) zero h = (Decides-ltb x 32768).0 (and_parts (ltb x 32768) (list_all (λ y. ltb y 32768) xs) h).0
small_at (x ∷ xs) (suc i) h = small_at xs i (and_parts (ltb x 32768) (list_all (λ y. ltb y 32768) xs) h).1

all_small : list_all (λ x. ltb x 32768) glyphs ≡ true
unfolding glyphs
all_small = refl

pub glyph_small : (i : ℕ) → get_or glyphs i 0 < 32768
glyph_small i = small_at glyphs i all_small
