-- A line that begins otherwise than `end`.
use Rattle.std.proofs.Common.{◌≡◌, ◌+◌, ℕ, false, ◌==◌, List, [], ◌∷◌, Some, codes, suc, take, arith, refl, ap, ◌∙◌}
use Rattle.std.specs.List.{position_or_len, slice_get}
use Rattle.std.specs.Str.{bytes_eq}
use Rattle.fx_text.specs.Classes.{is_space}
use Rattle.fx_text.specs.Fronts.{behind}
use Rattle.fx_script_lines.specs.Taking.{before_space, word_in}
use Rattle.fx_script_commands.specs.Commands.{is_end}

nothing_behind : (x : ℕ) (xs : List ℕ) → (x == 32) ≡ false → behind is_space (x ∷ xs) ≡ x ∷ xs
nothing_behind x xs e = rw e refl

one_more : (n x : ℕ) (xs : List ℕ) → take (1 + n) (x ∷ xs) ≡ x ∷ take n xs
one_more n x xs = let next : 1 + n ≡ suc n = omega arith in rw next refl

kept : (x : ℕ) (xs : List ℕ) → (x == 32) ≡ false → before_space (x ∷ xs) ≡ x ∷ take (position_or_len is_space xs) xs
kept x xs e = rw e (one_more (position_or_len is_space xs) x xs)

first_kept : (x : ℕ) (xs : List ℕ) → (x == 32) ≡ false → word_in (x ∷ xs) ≡ x ∷ take (position_or_len is_space xs) xs
unfolding word_in
first_kept x xs e = ap before_space (nothing_behind x xs e) ∙ kept x xs e

no_end : (x : ℕ) (xs : List ℕ) → (x == 101) ≡ false → bytes_eq (x ∷ xs) (codes "end") ≡ false
no_end x xs e = rw e refl

pub not_end : (text : List ℕ) (x : ℕ) → Some x ≡ slice_get text 0 → (x == 101) ≡ false → (x == 32) ≡ false → is_end text ≡ false
unfolding is_end
not_end [] x e other space = cc
not_end (y ∷ ys) x e other space =
    let same : x ≡ y = cc in
    rw (first_kept y ys (rw (← same) space), no_end y (take (position_or_len is_space ys) ys) (rw (← same) other)) refl
