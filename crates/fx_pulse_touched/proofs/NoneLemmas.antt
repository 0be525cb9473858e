-- Where no mark is set.
use Rattle.std.proofs.Common.{refl, sym, ap, ◌∙◌, ◌≡◌, ℕ, suc, ◌<◌, ◌||◌, Bool, true, false, cond, List, [], ◌∷◌, filter, length, replicate, arith}
use Rattle.std.specs.List.{list_any, range_with_len}
use Rattle.std.proofs.lemmas.Bool.{true≢false}
use Rattle.std.proofs.lemmas.List.{ext_get_or, get_or-replicate, length-replicate}
use Rattle.std.proofs.lemmas.List.Folds.{list_any_at}
use Rattle.fx_layout_sweeps.specs.Marks.{flag_in}
use Rattle.fx_layout_sweeps.specs.Nodes.{Parents}
use Rattle.fx_pulse_model.specs.Lines.{line_to}
use Rattle.fx_pulse_touched.specs.Marks.{is_below, places_of, told}
use Rattle.fx_pulse_touched.proofs.ToldLemmas.{told_at, told_long}
use Rattle.fx_pulse_touched.proofs.UpLemmas.{flag_past}

pub none_set : (marks : List Bool) → list_any (λ mark. mark) marks ≡ false → (k : ℕ) → flag_in marks k ≡ false
none_set marks none k = by (flag_in marks k) refl
  where
    by : (b : Bool) → flag_in marks k ≡ b → flag_in marks k ≡ false
    by false is = is
    by true is =
        absurd (true≢false (sym (list_any_at (λ mark. mark) marks k false (flag_past marks k is) is) ∙ none))

-- the other way round
pub none_told : (marks : List Bool) → ((k : ℕ) → k < length marks → flag_in marks k ≡ false)
    → list_any (λ mark. mark) marks ≡ false
none_told [] each = refl
none_told (mark ∷ marks) each =
    ap (λ b. b || list_any (λ m. m) marks) (each 0 (omega arith))
    ∙ none_told marks (λ k within. each (suc k) (omega (arith, within)))

none_of : (test : ℕ → Bool) → ((k : ℕ) → test k ≡ false) → (xs : List ℕ) → list_any test xs ≡ false
none_of test none [] = refl
none_of test none (x ∷ xs) = ap (λ b. b || list_any test xs) (none x) ∙ none_of test none xs

told_none : (tell : ℕ → Bool) (n : ℕ) → ((k : ℕ) → tell k ≡ false) → told tell n ≡ replicate n false
told_none tell n none =
    ext_get_or false (told tell n) (replicate n false) (told_long tell n ∙ sym (length-replicate n false))
    (λ i within.
    let inside : i < n = omega (arith, within, told_long tell n) in
    told_at tell n i false inside ∙ (none i ∙ sym (get_or-replicate n i false false inside)))

-- nothing is below a mark
pub below_none : (ups : Parents) (marks : List Bool) (n : ℕ) → list_any (λ mark. mark) marks ≡ false
    → told (is_below ups marks) n ≡ replicate n false
below_none ups marks n none =
    told_none (is_below ups marks) n (λ k. none_of (flag_in marks) (none_set marks none) (line_to ups k))

kept_none : (test : ℕ → Bool) → ((k : ℕ) → test k ≡ false) → (xs : List ℕ) → filter test xs ≡ []
kept_none test none [] = refl
kept_none test none (x ∷ xs) =
    ap (λ b. cond b (x ∷ filter test xs) (filter test xs)) (none x) ∙ kept_none test none xs

-- and no place is listed
pub places_none : (marks : List Bool) → list_any (λ mark. mark) marks ≡ false → places_of marks ≡ []
places_none marks none = kept_none (flag_in marks) (none_set marks none) (range_with_len 0 (length marks))
