-- A style from nothing hangs on the node and its ancestors alone.
use Rattle.std.proofs.Common.{◌≡◌, ◌∷◌, [], ◌<◌, ℕ, zero, suc, List, Option, Some, None, length, refl, sym, ◌∙◌, ap, subst, arith}
use Rattle.std.specs.Prelude.{slice_get, option_and_then}
use Rattle.fx_kinds.specs.declared.facts.StyleFacts.{StyleFacts}
use Rattle.fx_css_types.specs.declared.sheets.SheetAt.{SheetAt}
use Rattle.fx_select.specs.Chains.{ParentsStandBefore, chain, upward}
use Rattle.fx_select.proofs.ChainLemmas.{upward-none, upward-some}
use Rattle.fx_style.specs.Places.{parent_at, places_up}
use Rattle.fx_style.specs.Rules.{anew, chain_styles, chain_style, style_of}
use Rattle.fx_style.specs.Styled.{first_of, onto, styled}
use Rattle.fx_style.proofs.PlaceLemmas.{parent_before, places-none}
use Rattle.fx_style.proofs.UpdateLemmas.{styled-some}

slice_there : (facts : List StyleFacts) (at : ℕ) → at < length facts → slice_get facts at ≡ None → ⊥
slice_there [] at within none = omega arith
slice_there (n ∷ ns) zero within none = cc
slice_there (n ∷ ns) (suc at) within none = slice_there ns at (omega (arith, within)) none

chain-some : (facts : List StyleFacts) → ParentsStandBefore facts → (at : ℕ) → at < length facts
    → (n : StyleFacts) × (chain facts at ≡ n ∷ upward facts (parent_at facts at))
chain-some facts before at within = found (slice_get facts at) refl
  where
    found : (o : Option StyleFacts) → slice_get facts at ≡ o
        → (n : StyleFacts) × (chain facts at ≡ n ∷ upward facts (parent_at facts at))
    found None none = absurd (slice_there facts at within none)
    found (Some node) some = (
      node,
      upward-some facts before at node some
          ∙ ap (λ (o : Option StyleFacts). node ∷ upward facts (option_and_then (λ (n : StyleFacts). n.parent) o))
          (sym some),
    )

pub style_chain : (fuel : ℕ) (sheets : List SheetAt) (facts : List StyleFacts) → ParentsStandBefore facts
    → (place : Option ℕ)
    → ((p : ℕ) → place ≡ Some p → p < length facts) → ((p : ℕ) → place ≡ Some p → p < fuel)
    → styled (anew sheets facts) (places_up facts place) ≡ chain_styles sheets (upward facts place)
style_chain fuel sheets facts before None inside within = ap (styled (anew sheets facts)) (places-none facts)
    ∙ sym (ap (chain_styles sheets) (upward-none facts))
style_chain zero sheets facts before (Some at) inside within =
    absurd (let h : at < zero = within at refl in omega arith)
style_chain (suc fuel) sheets facts before (Some at) inside within =
    let here : at < length facts = inside at refl in
    let c = chain-some facts before at here in
    let rest : styled (anew sheets facts) (places_up facts (parent_at facts at))
    ≡ chain_styles sheets (upward facts (parent_at facts at)) =
    style_chain fuel sheets facts before (parent_at facts at)
    (λ p e. let h : p < at = parent_before facts before at p e in omega arith)
    (λ p e. let h : p < at = parent_before facts before at p e in let g : at < suc fuel =
    within at refl in omega arith) in
    styled-some (anew sheets facts) facts before at here
    ∙ ap (onto (anew sheets facts at)) rest
    ∙ ap (λ (nodes : List StyleFacts). onto (chain_style sheets nodes)
    (chain_styles sheets (upward facts (parent_at facts at)))) c.1
    ∙ sym (ap (chain_styles sheets) c.1)

-- the same node and ancestors have the same style
pub same_chain : (sheets : List SheetAt) (old new : List StyleFacts) → ParentsStandBefore old → ParentsStandBefore new
    → (i j : ℕ) → i < length old → j < length new
    → chain old i ≡ chain new j → style_of sheets old i ≡ style_of sheets new j
same_chain sheets old new before after i j inside within same =
    ap first_of
    (style_chain (suc i) sheets old before (Some i)
    (λ p e. let h : i ≡ p = cc in subst (λ (n : ℕ). n < length old) h inside)
    (λ p e. let h : i ≡ p = cc in omega arith)
    ∙ ap (chain_styles sheets) same
    ∙ sym (style_chain (suc j) sheets new after (Some j)
    (λ p e. let h : j ≡ p = cc in subst (λ (n : ℕ). n < length new) h within)
    (λ p e. let h : j ≡ p = cc in omega arith)))
