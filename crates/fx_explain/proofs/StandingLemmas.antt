-- The cut between two standings is that between what they stand for.
use Rattle.std.proofs.Common.{◌≡◌, ℕ, Bool, true, false, cond, not, ◌&&◌, ◌||◌, ltb, eqb, List, [], ◌∷◌, Some, None, refl, sym, ap, ◌∙◌}
use Rattle.std.specs.Prelude.{unwrap_or}
use Rattle.std.specs.List.{find}
use Rattle.fx_css_types.specs.declared.sheets.Candidate.{Candidate}
use Rattle.fx_cascade.specs.declared.sources.Source.{Source}
use Rattle.fx_cascade.specs.Ranks.{key, precedes}
use Rattle.fx_explain.specs.declared.cuts.Cut.{Cut}
use Rattle.fx_explain.specs.declared.cuts.Cut.TheVariants.{Bound, Origin, Specificity, Sheet, Rule, Place}
use Rattle.fx_explain.specs.declared.cuts.Standing.{Standing}
use Rattle.fx_explain.specs.Cuts.{cut_of, cuts, is_bound, part_of}
use Rattle.fx_explain.specs.Standings.{IsStanding, cut_between, origin_key, specificity_key, standing_key}

-- the cut by these flags and keys
chosen : Bool → Bool → List ℕ → List ℕ → Cut
chosen b c xs ys = unwrap_or (find (λ cut. precedes (part_of cut c ys) (part_of cut b xs)) cuts) Place

pick : (a b c d e f : Bool)
    → unwrap_or (cond a (Some Bound) (cond b (Some Origin) (cond c (Some Specificity) (cond d (Some Sheet)
    (cond e (Some Rule) (cond f (Some Place) None)))))) Place
    ≡ cond a Bound (cond b Origin (cond c Specificity (cond d Sheet (cond e Rule Place))))
pick true b c d e f = refl
pick false true c d e f = refl
pick false false true d e f = refl
pick false false false true e f = refl
pick false false false false true f = refl
pick false false false false false true = refl
pick false false false false false false = refl

bounded : (c b : Bool) → precedes (cond c 1 0 ∷ []) (cond b 1 0 ∷ []) ≡ (b && not c)
bounded true true = refl
bounded true false = refl
bounded false true = refl
bounded false false = refl

one_number : (x y : ℕ) → precedes (x ∷ []) (y ∷ []) ≡ ltb x y
one_number x y = go (ltb x y) (eqb x y)
  where
    go : (a b : Bool) → (a || (b && false)) ≡ a
    go true b = refl
    go false true = refl
    go false false = refl

at_standings : (w l : Standing) → chosen w.bound l.bound (standing_key w) (standing_key l) ≡ cut_between w l
unfolding chosen
at_standings w l =
    let p : Cut → Bool = λ cut. precedes (part_of cut l.bound (standing_key l)) (part_of cut w.bound (standing_key w)) in
    let by_origin : Bool = precedes (origin_key l) (origin_key w) in
    let by_weight : Bool = precedes (specificity_key l) (specificity_key w) in
    pick (p Bound) (p Origin) (p Specificity) (p Sheet) (p Rule) (p Place)
    ∙ ap
    (λ (a : Bool). cond a Bound (cond by_origin Origin (cond by_weight Specificity
    (cond (p Sheet) Sheet (cond (p Rule) Rule Place)))))
    (bounded l.bound w.bound)
    ∙ ap
    (λ (a : Bool). cond (w.bound && not l.bound) Bound (cond by_origin Origin (cond by_weight Specificity
    (cond a Sheet (cond (p Rule) Rule Place)))))
    (one_number l.sheet w.sheet)
    ∙ ap
    (λ (a : Bool). cond (w.bound && not l.bound) Bound (cond by_origin Origin (cond by_weight Specificity
    (cond (ltb l.sheet w.sheet) Sheet (cond a Rule Place)))))
    (one_number l.rule w.rule)

pub cut_is : (matched : List Candidate) (winner loser : Source) (w l : Standing) → IsStanding matched winner w
    → IsStanding matched loser l → cut_between w l ≡ cut_of matched winner loser
unfolding chosen cut_of
cut_is matched winner loser w l a b =
    sym (at_standings w l)
    ∙ ap (λ (t : Bool). chosen t l.bound (standing_key w) (standing_key l)) a.bound
    ∙ ap (λ (t : Bool). chosen (is_bound winner) t (standing_key w) (standing_key l)) b.bound
    ∙ ap (λ (k : List ℕ). chosen (is_bound winner) (is_bound loser) k (standing_key l)) a.keyed
    ∙ ap (chosen (is_bound winner) (is_bound loser) (key matched winner)) b.keyed
