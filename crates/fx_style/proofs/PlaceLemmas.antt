-- The way up from a place by parents, one step at a time.
use Rattle.std.proofs.Common.{◌≡◌, ℕ, zero, suc, ◌<◌, List, [], ◌∷◌, length, Option, Some, None, refl, ap, arith}
use Rattle.std.specs.Prelude.{slice_get, option_and_then}
use Rattle.fx_kinds.specs.declared.facts.StyleFacts.{StyleFacts}
use Rattle.fx_select.specs.Chains.{ParentsStandBefore}
use Rattle.fx_style.specs.Places.{parent_at, places_in, places_up}

parent_before_at : (o : Option StyleFacts) (facts : List StyleFacts) → ParentsStandBefore facts → (at p : ℕ)
    → slice_get facts at ≡ o
    → option_and_then (λ (node : StyleFacts). node.parent) o ≡ Some p → p < at
parent_before_at None facts before at p is e = absurd (cc)
parent_before_at (Some node) facts before at p is e = before at p node is e

-- a parent stands before its child
pub parent_before : (facts : List StyleFacts) → ParentsStandBefore facts → (at p : ℕ) → parent_at facts at ≡ Some p
    → p < at
parent_before facts before at p e = parent_before_at (slice_get facts at) facts before at p refl e

enough : (most more : ℕ) (facts : List StyleFacts) → ParentsStandBefore facts → (place : Option ℕ)
    → ((p : ℕ) → place ≡ Some p → p < most) → ((p : ℕ) → place ≡ Some p → p < more)
    → places_in most facts place ≡ places_in more facts place
unfolding places_in
enough zero zero facts before place below beneath = refl
enough zero (suc more) facts before None below beneath = refl
enough zero (suc more) facts before (Some at) below beneath = let h : at < zero = below at refl in absurd (omega arith)
enough (suc most) zero facts before None below beneath = refl
enough (suc most) zero facts before (Some at) below beneath = let h : at < zero =
    beneath at refl in absurd (omega arith)
enough (suc most) (suc more) facts before None below beneath = refl
enough (suc most) (suc more) facts before (Some at) below beneath =
    ap (λ (up : List ℕ). at ∷ up)
    (enough most more facts before (parent_at facts at)
    (λ p e. let h : p < at = parent_before facts before at p e in let k : at < suc most = below at refl in omega arith)
    (λ p e. let h : p < at = parent_before facts before at p e in let k : at < suc more =
    beneath at refl in omega arith))

pub places-none : (facts : List StyleFacts) → places_up facts None ≡ []
unfolding places_up places_in
places-none facts = refl

pub places-some : (facts : List StyleFacts) → ParentsStandBefore facts → (at : ℕ) → at < length facts
    → places_up facts (Some at) ≡ at ∷ places_up facts (parent_at facts at)
unfolding places_up places_in
places-some facts before at within =
    ap (λ (up : List ℕ). at ∷ up)
    (enough (length facts) (suc (length facts)) facts before (parent_at facts at)
    (λ p e. let h : p < at = parent_before facts before at p e in omega arith)
    (λ p e. let h : p < at = parent_before facts before at p e in omega arith))
