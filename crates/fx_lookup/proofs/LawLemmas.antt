-- The function that resolves a name gives just the colour that the name leads to.
use Rattle.std.proofs.Common.{◌≡◌, ◌<◌, ◌≤◌, ◌++◌, ◌∷◌, [], ℕ, zero, suc, Bool, true, false, cond, List, Option, Some, None, length, refl, sym, ap, ◌∙◌, subst, inl, inr, arith}
use Rattle.std.specs.Prelude.{IfSome, IfNone, ◌↔◌}
use Rattle.std.proofs.lemmas.Bool.{cases_Bool}
use Rattle.fx_base.specs.declared.color.Color.{Color as Rgba}
use Rattle.fx_css_types.specs.declared.declarations.Paint.{Paint}
use Rattle.fx_css_types.specs.declared.declarations.Paint.TheVariants.{Color, Named}
use Rattle.fx_lookup.specs.declared.named.NamedPaint.{NamedPaint}
use Rattle.fx_lookup.specs.Lookups.{LeadsTo, along, at_once, by_name, has_name, names_in, nearest, resolved, resolved_in, steps_in}
use Rattle.fx_lookup.proofs.ResolvingLemmas.{any_steps, came_back, left-none, left_of, next_fewer, one_step}

sound : (most : ℕ) (chain : List (List NamedPaint)) (visited : List (List ℕ)) (name : List ℕ) (color : Rgba)
    → resolved_in most chain visited name ≡ Some color → LeadsTo chain visited name color
unfolding resolved_in
sound zero chain visited name color e = absurd (cc)
sound (suc most) chain visited name color e = elim (cases_Bool (has_name visited name)) [
  | inl was ↦ absurd (let h : None ≡ Some color = sym (came_back most chain visited name was) ∙ e in cc)
  | inr fresh ↦ by_paint (nearest chain name) refl fresh (sym (one_step most chain visited name fresh) ∙ e)
      (λ next further. sound most chain (visited ++ name ∷ []) next color further)
]
  where
    by_paint : (p : Option Paint) → nearest chain name ≡ p → has_name visited name ≡ false
        → along p (resolved_in most chain (visited ++ name ∷ [])) ≡ Some color
        → ((next : List ℕ) → resolved_in most chain (visited ++ name ∷ []) next ≡ Some color
        → LeadsTo chain (visited ++ name ∷ []) next color)
        → LeadsTo chain visited name color
    by_paint None is fresh e further = absurd (cc)
    by_paint (Some (Color found)) is fresh e further =
        let same : found ≡ color = cc in
        at_once visited name color fresh (is ∙ ap (λ (c : Rgba). Some (Color c)) same)
    by_paint (Some (Named next)) is fresh e further = by_name visited name next color fresh is (further next e)

complete : (most : ℕ) (chain : List (List NamedPaint)) (visited : List (List ℕ)) (name : List ℕ) (color : Rgba)
    → LeadsTo chain visited name color → left_of visited (names_in chain) < most
    → resolved_in most chain visited name ≡ Some color
complete zero chain visited name color leads few = absurd (omega arith)
complete (suc most) chain _ _ _ (at_once visited name color fresh is) few =
    one_step most chain visited name fresh
    ∙ ap (λ (p : Option Paint). along p (resolved_in most chain (visited ++ name ∷ []))) is
complete (suc most) chain _ _ _ (by_name visited name next color fresh is leads) few =
    let fewer = next_fewer chain visited name next fresh (sym is) in
    one_step most chain visited name fresh
    ∙ ap (λ (p : Option Paint). along p (resolved_in most chain (visited ++ name ∷ []))) is
    ∙ complete most chain (visited ++ name ∷ []) next color leads (omega (arith, fewer))

few_names : (chain : List (List NamedPaint)) → left_of [] (names_in chain) < steps_in chain
few_names chain = subst (λ (n : ℕ). n < steps_in chain) (sym (left-none (names_in chain))) (omega arith)

pub leads_resolved : (chain : List (List NamedPaint)) (name : List ℕ) (color : Rgba) → LeadsTo chain [] name color
    → resolved chain name ≡ Some color
leads_resolved chain name color leads = complete (steps_in chain) chain [] name color leads (few_names chain)

pub resolved_leads : (chain : List (List NamedPaint)) (name : List ℕ) (color : Rgba) → resolved chain name ≡ Some color
    → LeadsTo chain [] name color
resolved_leads chain name color e = sound (steps_in chain) chain [] name color e

pub one-color : (chain : List (List NamedPaint)) (name : List ℕ) (one other : Rgba) → LeadsTo chain [] name one
    → LeadsTo chain [] name other → one ≡ other
one-color chain name one other a b =
    let h : Some one ≡ Some other = sym (leads_resolved chain name one a) ∙ leads_resolved chain name other b in cc

pub found-leads : (chain : List (List NamedPaint)) (name : List ℕ) (o : Option Rgba) → o ≡ resolved chain name
    → IfSome o (LeadsTo chain [] name)
found-leads chain name None e = tt
found-leads chain name (Some color) e = resolved_leads chain name color (sym e)

pub none-leads : (chain : List (List NamedPaint)) (name : List ℕ) (o : Option Rgba) → o ≡ resolved chain name
    → IfNone o ((color : Rgba) → LeadsTo chain [] name color → ⊥)
none-leads chain name None e = λ color leads. let h : None ≡ Some color = e
    ∙ leads_resolved chain name color leads in cc
none-leads chain name (Some color) e = tt
