-- Eight lanes that are compared with one pixel.
use Rattle.std.proofs.Common.{◌≡◌, ◌+◌, ◌%◌, ◌^◌, ℕ, cond, eqb, List, length, map, sym, ap, ◌∙◌, arith}
use Rattle.std.proofs.lemmas.Simd.{tops_compared, mask_l-mod, length-zip2}
use lib.Lanes.{mask_l, top, zip2}
use mir.Syntax.{w32}
use Rattle.fx_lanes.proofs.Lanes.{mask_from_same, same_from_mask}

mask_is : (a b : List ℕ) → length a ≡ 8 → length b ≡ 8
    → mask_l (map (top 31) (zip2 (λ x y. cond (eqb x y) 4294967295 0) a b)) % 2 ^ 64 ≡ mask_l (zip2 eqb a b)
mask_is a b l m =
    ap (λ ms. mask_l ms % 2 ^ 64) (tops_compared w32 eqb a b)
    ∙ mask_l-mod (zip2 eqb a b) 64 (let same : length a ≡ length b = l ∙ sym m in let n = length-zip2 eqb a b same in omega arith)

pub same_lanes : (a b : List ℕ) → length a ≡ 8 → length b ≡ 8
    → mask_l (map (top 31) (zip2 (λ x y. cond (eqb x y) 4294967295 0) a b)) % 2 ^ 64 ≡ 255 → a ≡ b
same_lanes a b l m e =
    let mask = sym (mask_is a b l m) ∙ e in same_from_mask 8 a b l m (ap (λ n. n + 1) mask)

pub lanes_same : (a b : List ℕ) → length a ≡ 8 → length b ≡ 8 → a ≡ b
    → mask_l (map (top 31) (zip2 (λ x y. cond (eqb x y) 4294967295 0) a b)) % 2 ^ 64 ≡ 255
lanes_same a b l m e =
    mask_is a b l m
    ∙ ap (λ x. mask_l (zip2 eqb a x)) (sym e)
    ∙ (let full : mask_l (zip2 eqb a a) + 1 ≡ 256 = mask_from_same 8 a l in omega arith)
