-- One layer more in the border.
use Rattle.std.proofs.Common.{refl, arith, ◌≡◌, ◌∙◌, sym, ap, ℕ, ℤ, ◌+◌, Option, None, List, [], ◌∷◌, ◌++◌, fold, map}
use Rattle.std.proofs.lemmas.List.FromFn.{map-range_with_len_more}
use Rattle.std.proofs.lemmas.List.Sums.{fold-append}
use Rattle.std.specs.List.{range_with_len}
use Rattle.fx_insets.specs.Insets.{greater}

pub fold_next : (f : ℕ → ℤ) (i : ℕ) (best r : Option ℤ) (n : ℤ)
    → best ≡ fold greater None (map f (range_with_len 0 i)) → n ≡ f i → r ≡ greater best n
    → r ≡ fold greater None (map f (range_with_len 0 (i + 1)))
fold_next f i best r n so_far is_next greatest =
    rw (map-range_with_len_more f 0 i i (omega arith), fold-append greater None (map f (range_with_len 0 i)) (f i ∷ []))
    (rw (so_far, is_next) at greatest)
