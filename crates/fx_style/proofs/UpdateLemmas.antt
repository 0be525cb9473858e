-- An update node by node: the styles that stand are those of the recursion from the root.
use Rattle.std.proofs.Common.{◌≡◌, ◌++◌, ◌∷◌, [], ◌<◌, ◌≤◌, ◌+◌, ℕ, zero, suc, Bool, true, false, List, Option, Some, None, length, refl, sym, ◌∙◌, ap, subst, arith, inl, inr}
use Rattle.std.specs.Prelude.{slice_get}
use Rattle.std.specs.Option.{option_map}
use Rattle.std.specs.List.{filter_map}
use Rattle.std.proofs.lemmas.Bool.{cases_eq}
use Rattle.std.proofs.lemmas.Option.{slice_get_within}
use Rattle.fx_base.specs.declared.keys.NodeKey.{NodeKey}
use Rattle.fx_look.specs.declared.looks.Look.{Look}
use Rattle.fx_kinds.specs.declared.facts.StyleFacts.{StyleFacts}
use Rattle.fx_css_types.specs.declared.sheets.SheetAt.{SheetAt}
use Rattle.fx_select.specs.Chains.{ParentsStandBefore}
use Rattle.fx_node_style.specs.declared.node_styles.NodeStyle.{NodeStyle}
use Rattle.fx_style.specs.declared.kept.Entry.{Entry}
use Rattle.fx_style.specs.declared.kept.Fresh.{Fresh}
use Rattle.fx_style.specs.declared.kept.Rest.{Rest}
use Rattle.fx_base.specs.Answers.{or_else}
use Rattle.fx_style.specs.Kept.{entry, entry_in, fresh_at, is_among, planned_at, style_of_entry}
use Rattle.fx_style.specs.Places.{parent_at, places_up}
use Rattle.fx_style.specs.Plans.{made_fresh}
use Rattle.fx_style.specs.Rules.{anew, renewed, renewed_by, style_of, updated_style}
use Rattle.fx_style.specs.Turns.{AreRightBelow}
use Rattle.fx_style.specs.Styled.{first_of, onto, styled}
use Rattle.fx_style.proofs.AboveLemmas.{Now, made_first}
use Rattle.fx_style.proofs.FreshLemmas.{fresh-here, fresh-other}
use Rattle.fx_style.proofs.PlaceLemmas.{parent_before, places-none, places-some}

abbrev pub Rule : Type 0
Rule = ℕ → List NodeStyle → NodeStyle

-- the styles from a node up, by that of the node and those above it
pub styled-some : (rule : Rule) (facts : List StyleFacts) → ParentsStandBefore facts → (at : ℕ) → at < length facts
    → styled rule (places_up facts (Some at)) ≡ onto (rule at) (styled rule (places_up facts (parent_at facts at)))
styled-some rule facts before at within = ap (styled rule) (places-some facts before at within)

-- where the places below one have their styles, so do those that a climb gathers
pub same_up : (fuel : ℕ) (rule : Rule) (facts : List StyleFacts) → ParentsStandBefore facts → (now : Now) (k : ℕ)
    → k ≤ length facts → ((j : ℕ) → j < k → now j ≡ first_of (styled rule (places_up facts (Some j))))
    → (place : Option ℕ) → ((p : ℕ) → place ≡ Some p → p < k) → ((p : ℕ) → place ≡ Some p → p < fuel)
    → filter_map now (places_up facts place) ≡ styled rule (places_up facts place)
same_up fuel rule facts before now k few right None below within =
    ap (filter_map now) (places-none facts) ∙ sym (ap (styled rule) (places-none facts))
same_up zero rule facts before now k few right (Some at) below within =
    absurd (let h : at < zero = within at refl in omega arith)
same_up (suc fuel) rule facts before now k few right (Some at) below within =
    let lower : at < k = below at refl in
    let inside : at < length facts = omega arith in
    let up = places_up facts (parent_at facts at) in
    let rest : filter_map now up ≡ styled rule up =
    same_up fuel rule facts before now k few right (parent_at facts at)
    (λ p e. let h : p < at = parent_before facts before at p e in omega arith)
    (λ p e. let h : p < at = parent_before facts before at p e in
    let g : at < suc fuel = within at refl in omega arith) in
    ap (filter_map now) (places-some facts before at inside)
    ∙ made_first now at (rule at (styled rule up)) up
    (right at lower ∙ ap first_of (styled-some rule facts before at inside))
    ∙ ap (λ (l : List NodeStyle). rule at (styled rule up) ∷ l) rest
    ∙ sym (styled-some rule facts before at inside)

pub style_entry : (key : NodeKey) (o : Option NodeStyle) → style_of_entry (option_map (entry key) o) ≡ o
style_entry key None = refl
style_entry key (Some s) = refl

slice_there : (facts : List StyleFacts) (j : ℕ) → j < length facts
    → (node : StyleFacts) × (slice_get facts j ≡ Some node)
slice_there [] j within = absurd (omega arith)
slice_there (n ∷ ns) zero within = (n, refl)
slice_there (n ∷ ns) (suc j) within = slice_there ns j (omega (arith, within))

abbrev pub now_of : List Look → List Rest → List Fresh → Now
now_of looks rest fresh j = style_of_entry (planned_at looks rest fresh j)

pub styles_below : (sheets : List SheetAt) (facts : List StyleFacts) (restyle : List ℕ) (kept : Now) (looks : List Look)
    (rest : List Rest) (fresh : List Fresh) (at : ℕ) → at ≤ length facts
    → AreRightBelow sheets facts restyle kept looks rest fresh at
    → (j : ℕ) → j < at → now_of looks rest fresh j ≡ updated_style sheets facts restyle kept j
styles_below sheets facts restyle kept looks rest fresh at few right j below =
    let there = slice_there facts j (omega (arith, few, below)) in
    ap style_of_entry (right.each j there.0 below there.1)
    ∙ style_entry there.0.key (updated_style sheets facts restyle kept j)

-- the node that was styled last
right_here : (sheets : List SheetAt) (facts : List StyleFacts) (restyle : List ℕ) (kept : Now) (looks : List Look)
    (rest : List Rest) (fresh : List Fresh) (at : ℕ) (node : StyleFacts) (made : Option NodeStyle)
    → ParentsStandBefore facts → slice_get facts at ≡ Some node → fresh_at fresh at ≡ None
    → AreRightBelow sheets facts restyle kept looks rest fresh at
    → or_else (option_map (entry node.key) made) (entry_in looks rest at)
    ≡ Some (entry node.key (renewed_by (is_among restyle at) (kept at) (anew sheets facts at
    (filter_map (now_of looks rest fresh) (places_up facts (parent_at facts at))))))
    → planned_at looks rest (fresh ++ made_fresh at (option_map (entry node.key) made)) at
    ≡ option_map (entry node.key) (updated_style sheets facts restyle kept at)
right_here sheets facts restyle kept looks rest fresh at node made before is none right turned =
    let inside : at < length facts = slice_get_within facts at node is in
    let rule : Rule = renewed (is_among restyle) kept (anew sheets facts) in
    let parent = parent_at facts at in
    let up : filter_map (now_of looks rest fresh) (places_up facts parent) ≡ styled rule (places_up facts parent) =
    same_up at rule facts before (now_of looks rest fresh) at (omega arith)
    (styles_below sheets facts restyle kept looks rest fresh at (omega arith) right) parent
    (λ p e. parent_before facts before at p e) (λ p e. parent_before facts before at p e) in
    ap (λ (o : Option Entry). or_else o (entry_in looks rest at))
    (fresh-here fresh at (option_map (entry node.key) made) none)
    ∙ turned
    ∙ ap (λ (above : List NodeStyle). Some (entry node.key (rule at above))) up
    ∙ ap (option_map (entry node.key)) (sym (ap first_of (styled-some rule facts before at inside)))

-- one more node
pub right_more : (sheets : List SheetAt) (facts : List StyleFacts) (restyle : List ℕ) (kept : Now) (looks : List Look)
    (rest : List Rest) (fresh : List Fresh) (at : ℕ) (node : StyleFacts) (made : Option NodeStyle)
    → ParentsStandBefore facts → slice_get facts at ≡ Some node → fresh_at fresh at ≡ None
    → AreRightBelow sheets facts restyle kept looks rest fresh at
    → or_else (option_map (entry node.key) made) (entry_in looks rest at)
    ≡ Some (entry node.key (renewed_by (is_among restyle at) (kept at) (anew sheets facts at
    (filter_map (now_of looks rest fresh) (places_up facts (parent_at facts at))))))
    → AreRightBelow sheets facts restyle kept looks rest (fresh ++ made_fresh at (option_map (entry node.key) made))
    (at + 1)
right_more sheets facts restyle kept looks rest fresh at node made before is none right turned = record {
  each = λ j other below is_other. elim (cases_eq j at) [
    | inl same ↦
        let one : other ≡ node =
        let h : Some other ≡ Some node = sym is_other ∙ ap (slice_get facts) same ∙ is in cc in
        ap (planned_at looks rest (fresh ++ made_fresh at (option_map (entry node.key) made))) same
        ∙ right_here sheets facts restyle kept looks rest fresh at node made before is none right turned
        ∙ ap (λ (n : StyleFacts). option_map (entry n.key) (updated_style sheets facts restyle kept at)) (sym one)
        ∙ ap (λ (k : ℕ). option_map (entry other.key) (updated_style sheets facts restyle kept k)) (sym same)
    | inr differ ↦
        let lower : j < at = omega arith in
        ap (λ (o : Option Entry). or_else o (entry_in looks rest j))
        (fresh-other fresh at (option_map (entry node.key) made) j (λ e. differ (sym e)))
        ∙ right.each j other lower is_other
  ];
}

-- where what is kept of each node that isn't listed is its style from nothing, an update gives the styles from nothing
agrees : (fuel : ℕ) (sheets : List SheetAt) (facts : List StyleFacts) (restyle : List ℕ) (kept : Now)
    → ParentsStandBefore facts
    → ((at : ℕ) → at < length facts → is_among restyle at ≡ false → (style : NodeStyle) → kept at ≡ Some style
    → Some style ≡ style_of sheets facts at)
    → (place : Option ℕ) → ((p : ℕ) → place ≡ Some p → p < length facts) → ((p : ℕ) → place ≡ Some p → p < fuel)
    → styled (renewed (is_among restyle) kept (anew sheets facts)) (places_up facts place)
    ≡ styled (anew sheets facts) (places_up facts place)
agrees fuel sheets facts restyle kept before right None inside within =
    ap (styled (renewed (is_among restyle) kept (anew sheets facts))) (places-none facts)
    ∙ sym (ap (styled (anew sheets facts)) (places-none facts))
agrees zero sheets facts restyle kept before right (Some at) inside within =
    absurd (let h : at < zero = within at refl in omega arith)
agrees (suc fuel) sheets facts restyle kept before right (Some at) inside within =
    let here : at < length facts = inside at refl in
    let up : List NodeStyle = styled (anew sheets facts) (places_up facts (parent_at facts at)) in
    let rule : Rule = renewed (is_among restyle) kept (anew sheets facts) in
    let rest : styled rule (places_up facts (parent_at facts at))
    ≡ styled (anew sheets facts) (places_up facts (parent_at facts at)) =
    agrees fuel sheets facts restyle kept before right (parent_at facts at)
    (λ p e. let h : p < at = parent_before facts before at p e in omega arith)
    (λ p e. let h : p < at = parent_before facts before at p e in let g : at < suc fuel =
    within at refl in omega arith) in
    let found : first_of (styled (anew sheets facts) (places_up facts (Some at))) ≡ Some (anew sheets facts at up) =
    ap first_of (styled-some (anew sheets facts) facts before at here) in
    let one : renewed_by (is_among restyle at) (kept at) (anew sheets facts at up) ≡ anew sheets facts at up =
    kept_same (is_among restyle at) (kept at) (anew sheets facts at up)
    (λ off style is. let e : Some style ≡ Some (anew sheets facts at up) = right at here off style is
    ∙ found in cc) in
    styled-some rule facts before at here
    ∙ ap (onto (rule at)) rest
    ∙ ap (λ (s : NodeStyle). s ∷ up) one
    ∙ sym (styled-some (anew sheets facts) facts before at here)
  where
    kept_same : (b : Bool) (o : Option NodeStyle) (made : NodeStyle)
        → (b ≡ false → (style : NodeStyle) → o ≡ Some style → style ≡ made) → renewed_by b o made ≡ made
    kept_same true o made same = refl
    kept_same false None made same = refl
    kept_same false (Some style) made same = same refl style refl

pub from_nothing : (sheets : List SheetAt) (facts : List StyleFacts) (restyle : List ℕ) (kept : Now)
    → ParentsStandBefore facts
    → ((at : ℕ) → at < length facts → is_among restyle at ≡ false → (style : NodeStyle) → kept at ≡ Some style
    → Some style ≡ style_of sheets facts at)
    → (at : ℕ) → at < length facts → updated_style sheets facts restyle kept at ≡ style_of sheets facts at
from_nothing sheets facts restyle kept before right at within =
    ap first_of (agrees (suc at) sheets facts restyle kept before right (Some at)
    (λ p e. let h : at ≡ p = cc in subst (λ (n : ℕ). n < length facts) h within)
    (λ p e. let h : at ≡ p = cc in omega arith))
