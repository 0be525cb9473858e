-- One more hit among the rules that were hit so far, which stand in their order.
use Rattle.std.proofs.Common.{◌≡◌, Bool, true, false, cond, ◌&&◌, ◌||◌, List, [], ◌∷◌, fold, ltb, eqb, refl, ◌∙◌, ap}
use Rattle.fx_css_types.specs.declared.sheets.Candidate.{Candidate}
use Rattle.fx_select.specs.Merged.{is_same_rule, raised}

-- by sheet, then by rule
abbrev pub is_before : Candidate → Candidate → Bool
is_before one other = ltb one.sheet other.sheet || (eqb one.sheet other.sheet && ltb one.rule other.rule)

-- the rule of the hit stands at its place in the order, once, with the greater specificity
unfoldable pub noted : Candidate → List Candidate → List Candidate
noted hit [] = hit ∷ []
noted hit (one ∷ more) =
    cond (is_before one hit) (one ∷ noted hit more) (cond (is_same_rule one hit) (raised one hit ∷ more) (hit ∷ one ∷ more))

-- all hits one after another
abbrev pub note_all : List Candidate → List Candidate
note_all hits = fold (λ (found : List Candidate) (hit : Candidate). noted hit found) [] hits

pub noted-before : (hit one : Candidate) (xs : List Candidate) → is_before one hit ≡ true → noted hit (one ∷ xs) ≡ one ∷ noted hit xs
unfolding noted
noted-before hit one xs test =
    ap (λ (b : Bool). cond b (one ∷ noted hit xs) (cond (is_same_rule one hit) (raised one hit ∷ xs) (hit ∷ one ∷ xs))) test

pub noted-same : (hit one : Candidate) (xs : List Candidate) → is_before one hit ≡ false → is_same_rule one hit ≡ true
    → noted hit (one ∷ xs) ≡ raised one hit ∷ xs
unfolding noted
noted-same hit one xs test same =
    ap (λ (b : Bool). cond b (one ∷ noted hit xs) (cond (is_same_rule one hit) (raised one hit ∷ xs) (hit ∷ one ∷ xs))) test
    ∙ ap (λ (b : Bool). cond b (raised one hit ∷ xs) (hit ∷ one ∷ xs)) same

pub noted-other : (hit one : Candidate) (xs : List Candidate) → is_before one hit ≡ false → is_same_rule one hit ≡ false
    → noted hit (one ∷ xs) ≡ hit ∷ one ∷ xs
unfolding noted
noted-other hit one xs test same =
    ap (λ (b : Bool). cond b (one ∷ noted hit xs) (cond (is_same_rule one hit) (raised one hit ∷ xs) (hit ∷ one ∷ xs))) test
    ∙ ap (λ (b : Bool). cond b (raised one hit ∷ xs) (hit ∷ one ∷ xs)) same

pub noted-none : (hit : Candidate) → noted hit [] ≡ hit ∷ []
unfolding noted
noted-none hit = refl
