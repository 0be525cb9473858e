-- One step of a try at a node of a list of facts.
use Rattle.std.proofs.Common.{◌≡◌, ℕ, ◌<◌, Bool, true, false, List, [], ◌∷◌, ◌++◌, length, reverse, Some, sym, ◌∙◌, ap, subst, inl, inr, arith}
use Rattle.std.specs.Prelude.{slice_get}
use Rattle.std.proofs.lemmas.Option.{slice_get_cases}
use Rattle.std.proofs.lemmas.List.{reverse-append}
use Rattle.fx_css_types.specs.declared.selectors.Compound.{Compound}
use Rattle.fx_kinds.specs.declared.facts.StyleFacts.{StyleFacts}
use Rattle.fx_select.specs.declared.matching.Match.{Match}
use Rattle.fx_select.specs.declared.matching.Match.TheVariants.{Nowhere}
use Rattle.fx_select.specs.Chains.{ParentsStandBefore, chain, upward}
use Rattle.fx_select.specs.Matching.{IsVerdict, fits, matches_before, matches_up, somewhere}
use Rattle.fx_select.proofs.ChainLemmas.{upward-some}
use Rattle.fx_select.proofs.MatchLemmas.{no-compound, not-here, somewhere-above, somewhere-here, verdict-fits}

-- what holds at a node holds somewhere from there
pub found-here : (facts : List StyleFacts) → ParentsStandBefore facts → (holds : List StyleFacts → Bool) (at : ℕ) → at < length facts
    → holds (chain facts at) ≡ true → somewhere holds (chain facts at) ≡ true
found-here facts before holds at there here = elim (slice_get_cases facts at).1 [
  | inl (node, within, is, read) ↦
      let step : chain facts at ≡ node ∷ upward facts node.parent = upward-some facts before at node is in
      ap (somewhere holds) step ∙ somewhere-here holds node (upward facts node.parent) (ap holds (sym step) ∙ here)
  | inr (past, none) ↦ absurd (omega arith)
]

-- what doesn't hold at a node is looked for above it
pub looked-above : (facts : List StyleFacts) → ParentsStandBefore facts → (holds : List StyleFacts → Bool) (at : ℕ) (node : StyleFacts)
    → slice_get facts at ≡ Some node → holds (chain facts at) ≡ false
    → somewhere holds (chain facts at) ≡ somewhere holds (upward facts node.parent)
looked-above facts before holds at node is not =
    let step : chain facts at ≡ node ∷ upward facts node.parent = upward-some facts before at node is in
    ap (somewhere holds) step ∙ somewhere-above holds node (upward facts node.parent) (ap holds (sym step) ∙ not)

reversed : (compounds rest : List Compound) (last : Compound) → compounds ≡ rest ++ last ∷ [] → reverse compounds ≡ last ∷ reverse rest
reversed compounds rest last is = ap reverse is ∙ reverse-append rest (last ∷ [])

pub up-fits : (facts : List StyleFacts) → ParentsStandBefore facts → (compounds rest : List Compound) (last : Compound) (at : ℕ) (node : StyleFacts)
    → compounds ≡ rest ++ last ∷ [] → slice_get facts at ≡ Some node → fits last node ≡ true → (verdict : Match)
    → IsVerdict (matches_before last.combinator (matches_up (reverse rest))) (upward facts node.parent) verdict
    → IsVerdict (matches_up (reverse compounds)) (chain facts at) verdict
up-fits facts before compounds rest last at node parted is fit verdict said =
    let P : List Compound → Type 0 = λ cs. IsVerdict (matches_up cs) (chain facts at) verdict in
    let Q : List StyleFacts → Type 0 = λ nodes. IsVerdict (matches_up (last ∷ reverse rest)) nodes verdict in
    subst P (sym (reversed compounds rest last parted))
    (subst Q (sym (upward-some facts before at node is))
    (verdict-fits last (reverse rest) node (upward facts node.parent) verdict fit said))

pub up-unfit : (facts : List StyleFacts) → ParentsStandBefore facts → (compounds rest : List Compound) (last : Compound) (at : ℕ) (node : StyleFacts)
    → compounds ≡ rest ++ last ∷ [] → slice_get facts at ≡ Some node → fits last node ≡ false
    → matches_up (reverse compounds) (chain facts at) ≡ false
up-unfit facts before compounds rest last at node parted is fit =
    ap (λ (cs : List Compound). matches_up cs (chain facts at)) (reversed compounds rest last parted)
    ∙ ap (matches_up (last ∷ reverse rest)) (upward-some facts before at node is)
    ∙ not-here last (reverse rest) node (upward facts node.parent) fit

pub up-empty : (compounds : List Compound) → length compounds ≡ 0 → (nodes : List StyleFacts)
    → IsVerdict (matches_up (reverse compounds)) nodes Nowhere
up-empty [] empty nodes = no-compound nodes
up-empty (first ∷ rest) empty nodes = absurd (omega (arith, empty))
