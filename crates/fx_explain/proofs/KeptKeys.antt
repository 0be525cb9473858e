-- Two that speak have one key only where they are one.
use Rattle.std.proofs.Common.{◌≡◌, ℕ, Bool, true, false, cond, List, get_or, Option, Some, refl, sym, ap, ◌∙◌, inl, inr}
use Rattle.std.specs.Prelude.{slice_get}
use Rattle.fx_look.specs.declared.styles.CodeValue.{CodeValue}
use Rattle.fx_css_types.specs.declared.sheets.SheetAt.{SheetAt}
use Rattle.fx_css_types.specs.declared.sheets.Candidate.{Candidate}
use Rattle.fx_css_types.specs.declared.sheets.SheetOrigin.{SheetOrigin}
use Rattle.fx_css_types.specs.declared.sheets.SheetOrigin.TheVariants.{Agent, Scene, Parent, Inline}
use Rattle.fx_cascade.specs.declared.sources.Source.{Source}
use Rattle.fx_cascade.specs.declared.sources.Source.TheVariants.{Code, Declared}
use Rattle.fx_cascade.specs.Ranks.{code_key, declared_key, key, matched_key, origin_rank}
use Rattle.fx_cascade.specs.Sources.{NameEachRuleOnce, Speaks}

number_at : ℕ → List ℕ → ℕ
number_at place key = get_or key place 0

-- the first number of the key of a code value
origin_number : Bool → ℕ
origin_number bound = cond bound 5 1

same_bound : (one other : Bool) → origin_number one ≡ origin_number other → one ≡ other
unfolding origin_number
same_bound true true e = refl
same_bound false false e = refl
same_bound true false e = absurd (cc)
same_bound false true e = absurd (cc)

no_origin : (bound : Bool) (origin : SheetOrigin) → origin_number bound ≡ (origin_rank origin).0 → ⊥
unfolding origin_number
no_origin true Agent e = cc
no_origin true Scene e = cc
no_origin true (Parent depth) e = cc
no_origin true Inline e = cc
no_origin false Agent e = cc
no_origin false Scene e = cc
no_origin false (Parent depth) e = cc
no_origin false Inline e = cc

-- the key of a declaration in this match
declared_at : (matched : List Candidate) (at place : ℕ) (c : Candidate) → slice_get matched at ≡ Some c
    → key matched (Declared at place) ≡ declared_key c place
declared_at matched at place c e = ap (λ (o : Option Candidate). matched_key o place) e

same_declared : (matched : List Candidate) → NameEachRuleOnce matched → (a p b q : ℕ) (c d : Candidate)
    → slice_get matched a ≡ Some c → slice_get matched b ≡ Some d → declared_key c p ≡ declared_key d q
    → Declared a p ≡ Declared b q
unfolding number_at
same_declared matched once a p b q c d at_a at_b same =
    let sheets : c.sheet ≡ d.sheet = ap (number_at 5) same in
    let rules : c.rule ≡ d.rule = ap (number_at 6) same in
    let places : p ≡ q = ap (number_at 7) same in
    ap (λ (n : ℕ). Declared n p) (once a b c d at_a at_b sheets rules) ∙ ap (Declared b) places

pub same_key : (sheets : List SheetAt) (matched : List Candidate) (codes : List CodeValue) (name : List ℕ)
    (one other : Source) → NameEachRuleOnce matched → Speaks sheets matched codes name one
    → Speaks sheets matched codes name other → key matched one ≡ key matched other → one ≡ other
unfolding number_at origin_number
same_key sheets matched codes name one other once (inl a) (inl b) same =
    let keys : code_key a.value.bound ≡ code_key b.value.bound =
    sym (ap (key matched) a.is) ∙ same ∙ ap (key matched) b.is in
    a.is ∙ ap Code (same_bound a.value.bound b.value.bound (ap (number_at 0) keys)) ∙ sym b.is
same_key sheets matched codes name one other once (inl a) (inr b) same =
    let keys : code_key a.value.bound ≡ declared_key b.candidate b.place =
    sym (ap (key matched) a.is) ∙ same ∙ ap (key matched) b.is
    ∙ declared_at matched b.at b.place b.candidate b.matches in
    absurd (no_origin a.value.bound b.candidate.origin (ap (number_at 0) keys))
same_key sheets matched codes name one other once (inr a) (inl b) same =
    let keys : code_key b.value.bound ≡ declared_key a.candidate a.place =
    sym (ap (key matched) b.is) ∙ sym same ∙ ap (key matched) a.is
    ∙ declared_at matched a.at a.place a.candidate a.matches in
    absurd (no_origin b.value.bound a.candidate.origin (ap (number_at 0) keys))
same_key sheets matched codes name one other once (inr a) (inr b) same =
    let keys : declared_key a.candidate a.place ≡ declared_key b.candidate b.place =
    sym (declared_at matched a.at a.place a.candidate a.matches) ∙ sym (ap (key matched) a.is) ∙ same
    ∙ ap (key matched) b.is ∙ declared_at matched b.at b.place b.candidate b.matches in
    a.is
    ∙ same_declared matched once a.at a.place b.at b.place a.candidate b.candidate a.matches b.matches keys
    ∙ sym b.is
