-- What wins is the one greatest of all that speaks.
use Rattle.std.proofs.Common.{◌≡◌, ℕ, Bool, true, false, cond, List, [], ◌∷◌, Option, Some, None, refl, sym, ap, ◌∙◌, inl, inr}
use Rattle.std.specs.Prelude.{slice_get, IfSome, IfNone}
use Rattle.std.specs.Option.{option_map}
use Rattle.fx_look.specs.declared.styles.CodeValue.{CodeValue}
use Rattle.fx_css_types.specs.declared.sheets.SheetAt.{SheetAt}
use Rattle.fx_css_types.specs.declared.sheets.Candidate.{Candidate}
use Rattle.fx_css_types.specs.declared.sheets.SheetOrigin.{SheetOrigin}
use Rattle.fx_css_types.specs.declared.sheets.SheetOrigin.TheVariants.{Agent, Scene, Parent, Inline}
use Rattle.fx_cascade.specs.declared.sources.Source.{Source}
use Rattle.fx_cascade.specs.declared.sources.Source.TheVariants.{Code, Declared}
use Rattle.fx_cascade.specs.declared.sources.Winner.{Winner}
use Rattle.fx_cascade.specs.Ranks.{code_key, declared_key, key, matched_key, origin_rank, precedes}
use Rattle.fx_cascade.specs.Sources.{IsBest, NameEachRuleOnce, Speaks, best_source, sources_for, voices, winner_of}
use Rattle.fx_cascade.proofs.KeyLemmas.{key_long, precedes-neither}
use Rattle.fx_cascade.proofs.GreatestLemmas.{greatest-in, greatest-none, greatest-none_above}
use Rattle.fx_cascade.proofs.SpeakLemmas.{listed_speaks, speaks_listed}

pub best-wins : (sheets : List SheetAt) (matched : List Candidate) (codes : List CodeValue) (name : List ℕ)
    (best : Source) → best_source sheets matched codes name ≡ Some best → IsBest sheets matched codes name best
unfolding best_source
best-wins sheets matched codes name best e = record {
  speaks = listed_speaks sheets matched codes name best
      (greatest-in matched (sources_for name (voices sheets matched codes)) best e);
  none_above = λ other is. greatest-none_above matched (sources_for name (voices sheets matched codes)) best other e
      (speaks_listed sheets matched codes name other is);
}

pub best-none : (sheets : List SheetAt) (matched : List Candidate) (codes : List CodeValue) (name : List ℕ)
    (other : Source) → best_source sheets matched codes name ≡ None → Speaks sheets matched codes name other → ⊥
unfolding best_source
best-none sheets matched codes name other e is =
    greatest-none matched (sources_for name (voices sheets matched codes)) other e
    (speaks_listed sheets matched codes name other is)

-- the numbers of a key

first : List ℕ → ℕ
first [] = 0
first (x ∷ xs) = x

rest : List ℕ → List ℕ
rest [] = []
rest (x ∷ xs) = xs

sheet_of : List ℕ → ℕ
sheet_of k = first (rest (rest (rest (rest (rest k)))))

rule_of : List ℕ → ℕ
rule_of k = first (rest (rest (rest (rest (rest (rest k))))))

place_of : List ℕ → ℕ
place_of k = first (rest (rest (rest (rest (rest (rest (rest k)))))))

same_bound : (one other : Bool) → code_key one ≡ code_key other → one ≡ other
unfolding first
same_bound true true e = refl
same_bound false false e = refl
same_bound true false e = let h : ◌≡◌ {A = ℕ} 5 1 = ap first e in absurd (cc)
same_bound false true e = let h : ◌≡◌ {A = ℕ} 1 5 = ap first e in absurd (cc)

no_origin : (bound : Bool) (origin : SheetOrigin) → cond bound 5 1 ≡ (origin_rank origin).0 → ⊥
no_origin true Agent e = cc
no_origin true Scene e = cc
no_origin true (Parent depth) e = cc
no_origin true Inline e = cc
no_origin false Agent e = cc
no_origin false Scene e = cc
no_origin false (Parent depth) e = cc
no_origin false Inline e = cc

-- a code value and a declaration differ in origin
apart : (bound : Bool) (c : Candidate) (place : ℕ) → code_key bound ≡ declared_key c place → ⊥
unfolding first
apart bound c place e = no_origin bound c.origin (ap first e)

declared_at : (matched : List Candidate) (at place : ℕ) (c : Candidate) → slice_get matched at ≡ Some c
    → key matched (Declared at place) ≡ declared_key c place
declared_at matched at place c e = ap (λ (o : Option Candidate). matched_key o place) e

same_places : (matched : List Candidate) → NameEachRuleOnce matched → (at place other_at other_place : ℕ)
    (c d : Candidate) → slice_get matched at ≡ Some c → slice_get matched other_at ≡ Some d
    → declared_key c place ≡ declared_key d other_place → Declared at place ≡ Declared other_at other_place
unfolding first rest sheet_of rule_of place_of
same_places matched once at place other_at other_place c d e f same =
    let same_at : at ≡ other_at = once at other_at c d e f (ap sheet_of same) (ap rule_of same) in
    ap (λ (a : ℕ). Declared a place) same_at ∙ ap (Declared other_at) (ap place_of same)

-- values with equal keys that speak for one name are one value
same_key : (sheets : List SheetAt) (matched : List Candidate) (codes : List CodeValue) (name : List ℕ)
    (one other : Source) → NameEachRuleOnce matched → Speaks sheets matched codes name one
    → Speaks sheets matched codes name other → key matched one ≡ key matched other → one ≡ other
same_key sheets matched codes name one other once (inl a) (inl b) same =
    let keys : code_key a.value.bound ≡ code_key b.value.bound =
    sym (ap (key matched) a.is) ∙ same ∙ ap (key matched) b.is in
    a.is ∙ ap Code (same_bound a.value.bound b.value.bound keys) ∙ sym b.is
same_key sheets matched codes name one other once (inl a) (inr b) same =
    absurd (apart a.value.bound b.candidate b.place
    (sym (ap (key matched) a.is) ∙ same ∙ ap (key matched) b.is
    ∙ declared_at matched b.at b.place b.candidate b.matches))
same_key sheets matched codes name one other once (inr a) (inl b) same =
    absurd (apart b.value.bound a.candidate a.place
    (sym (ap (key matched) b.is) ∙ sym same ∙ ap (key matched) a.is
    ∙ declared_at matched a.at a.place a.candidate a.matches))
same_key sheets matched codes name one other once (inr a) (inr b) same =
    a.is
    ∙ same_places matched once a.at a.place b.at b.place a.candidate b.candidate a.matches b.matches
    (sym (declared_at matched a.at a.place a.candidate a.matches) ∙ sym (ap (key matched) a.is) ∙ same
    ∙ ap (key matched) b.is ∙ declared_at matched b.at b.place b.candidate b.matches)
    ∙ sym b.is

pub one-best : (sheets : List SheetAt) (matched : List Candidate) (codes : List CodeValue) (name : List ℕ)
    (one other : Source) → NameEachRuleOnce matched → IsBest sheets matched codes name one
    → IsBest sheets matched codes name other → one ≡ other
one-best sheets matched codes name one other once a b =
    same_key sheets matched codes name one other once a.speaks b.speaks
    (precedes-neither 8 (key matched one) (key matched other) (key_long matched one) (key_long matched other)
    (a.none_above other b.speaks) (b.none_above one a.speaks))

-- what is told of the winner

pub found-best : (sheets : List SheetAt) (matched : List Candidate) (codes : List CodeValue) (name : List ℕ)
    (o : Option Source) → best_source sheets matched codes name ≡ o
    → IfSome (option_map winner_of o)
    (λ (w : Winner). (best : Source) × IsBest sheets matched codes name best × (winner_of best ≡ w))
found-best sheets matched codes name None e = tt
found-best sheets matched codes name (Some best) e = (best, best-wins sheets matched codes name best e, refl)

pub found-none : (sheets : List SheetAt) (matched : List Candidate) (codes : List CodeValue) (name : List ℕ)
    (o : Option Source) → best_source sheets matched codes name ≡ o
    → IfNone (option_map winner_of o) ((other : Source) → Speaks sheets matched codes name other → ⊥)
found-none sheets matched codes name None e = λ other is. best-none sheets matched codes name other e is
found-none sheets matched codes name (Some best) e = tt
