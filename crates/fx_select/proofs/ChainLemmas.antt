-- The way up from a place by parents, one step at a time.
use Rattle.std.proofs.Common.{◌≡◌, ℕ, zero, suc, ◌<◌, List, [], ◌∷◌, length, Option, Some, None, refl, ◌∙◌, ap, arith}
use Rattle.std.specs.Prelude.{slice_get}
use Rattle.std.proofs.lemmas.Option.{slice_get_within}
use Rattle.fx_kinds.specs.declared.facts.StyleFacts.{StyleFacts}
use Rattle.fx_select.specs.Chains.{ParentsStandBefore, onto_parents, upward_in, upward}

onto_parents-same : (o : Option StyleFacts) (f g : Option ℕ → List StyleFacts)
    → ((node : StyleFacts) → o ≡ Some node → f node.parent ≡ g node.parent) → onto_parents o f ≡ onto_parents o g
onto_parents-same None f g same = refl
onto_parents-same (Some node) f g same = ap (λ (above : List StyleFacts). node ∷ above) (same node refl)

-- how many nodes at most makes no difference where it is enough
enough : (most more : ℕ) (facts : List StyleFacts) → ParentsStandBefore facts → (place : Option ℕ)
    → ((p : ℕ) → place ≡ Some p → p < most) → ((p : ℕ) → place ≡ Some p → p < more)
    → upward_in most facts place ≡ upward_in more facts place
unfolding upward_in
enough zero zero facts before place below beneath = refl
enough zero (suc more) facts before None below beneath = refl
enough zero (suc more) facts before (Some at) below beneath = let h : at < zero = below at refl in absurd (omega arith)
enough (suc most) zero facts before None below beneath = refl
enough (suc most) zero facts before (Some at) below beneath = let h : at < zero = beneath at refl in absurd (omega arith)
enough (suc most) (suc more) facts before None below beneath = refl
enough (suc most) (suc more) facts before (Some at) below beneath =
    onto_parents-same (slice_get facts at) (upward_in most facts) (upward_in more facts)
    (λ node is. enough most more facts before node.parent
    (λ p e. let h : p < at = before at p node is e in let k : at < suc most = below at refl in omega arith)
    (λ p e. let h : p < at = before at p node is e in let k : at < suc more = beneath at refl in omega arith))

pub upward-none : (facts : List StyleFacts) → upward facts None ≡ []
unfolding upward upward_in
upward-none [] = refl
upward-none (first ∷ rest) = refl

pub upward-some : (facts : List StyleFacts) → ParentsStandBefore facts → (at : ℕ) (node : StyleFacts) → slice_get facts at ≡ Some node
    → upward facts (Some at) ≡ node ∷ upward facts node.parent
unfolding upward upward_in
upward-some [] before at node is = cc
upward-some (first ∷ rest) before at node is =
    let facts : List StyleFacts = first ∷ rest in
    let within : at < suc (length rest) = slice_get_within facts at node is in
    ap (λ (o : Option StyleFacts). onto_parents o (upward_in (length rest) facts)) is
    ∙ ap (λ (above : List StyleFacts). node ∷ above)
    (enough (length rest) (suc (length rest)) facts before node.parent
    (λ p e. let h : p < at = before at p node is e in omega arith)
    (λ p e. let h : p < at = before at p node is e in omega arith))

-- the parent of a node is there
pub parent-there : (facts : List StyleFacts) → ParentsStandBefore facts → (at : ℕ) (node : StyleFacts) → slice_get facts at ≡ Some node
    → (parent : ℕ) → node.parent ≡ Some parent → parent < length facts
parent-there facts before at node is parent e =
    let h : parent < at = before at parent node is e in
    let k : at < length facts = slice_get_within facts at node is in
    omega arith
