-- The sheet of the user agent is within the limits, by computing.
-- Below the answers on that sheet.
use Rattle.std.proofs.Common.{◌≡◌, ℕ, ◌≤◌, List, [], ◌∷◌, length, refl, arith, codes, lit<, sym, subst, Result, Ok, Err, IfOk}
use Rattle.std.proofs.lemmas.List.Elements.{All-nil, All-cons}
use Rattle.std.specs.List.{All}
use Rattle.fx_look.specs.Styles.{styles}
use Rattle.fx_base.specs.declared.color.Color.{Color}
use Rattle.fx_css_types.specs.declared.declarations.Declaration.{Declaration}
use Rattle.fx_css_types.specs.declared.selectors.Selector.{Selector}
use Rattle.fx_css_types.specs.declared.sheets.Rule.{Rule}
use Rattle.fx_css_types.specs.declared.sheets.Sheet.{Sheet}
use Rattle.fx_css_types.specs.Limits.{IsKeptDeclaration, IsKeptRule, IsWithinLimits}
use Rattle.fx_css_types.specs.Specificity.{part_count}
use Rattle.fx_css.specs.Agent as spec

fill_kept : (c : Color) → IsKeptDeclaration (spec.text_fill c)
unfolding spec.text_fill styles
fill_kept c = record { row = refl; layers = omega arith; fits = tt }

background_kept : (under over : Color) → IsKeptDeclaration (spec.background under over)
unfolding spec.background styles
background_kept under over = record { row = refl; layers = omega arith; fits = tt }

alignment_kept : IsKeptDeclaration (spec.alignment 3) × IsKeptDeclaration (spec.alignment 4)
unfolding spec.alignment styles
alignment_kept = (record { row = refl; layers = omega arith; fits = lit< tt }, record { row = refl; layers = omega arith; fits = lit< tt })

insets_kept : IsKeptDeclaration spec.button_insets
unfolding spec.button_insets styles
insets_kept = record { row = refl; layers = omega arith; fits = tt }

padding_kept : IsKeptDeclaration spec.button_padding
unfolding spec.button_padding styles
padding_kept = record { row = refl; layers = omega arith; fits = tt }

rule_kept : (class : List ℕ) (pseudos : List (List ℕ)) (ds : List Declaration) → length pseudos ≤ 1 → length ds ≤ 256 → All IsKeptDeclaration ds → IsKeptRule (spec.rule_of (class ∷ []) pseudos ds)
unfolding spec.selector_of
rule_kept class pseudos ds l few each = record {
  few = (omega arith, All-cons (λ (s : Selector). length s.compounds ≤ 16) _ [] (omega arith) (All-nil (λ (s : Selector). length s.compounds ≤ 16)));
  short = All-cons (λ (s : Selector). part_count s ≤ 4194304) _ [] (omega (arith, l)) (All-nil (λ (s : Selector). part_count s ≤ 4194304));
  declarations = few;
  each = each;
}

one_kept : (d : Declaration) → IsKeptDeclaration d → All IsKeptDeclaration (d ∷ [])
one_kept d h = All-cons IsKeptDeclaration d [] h (All-nil IsKeptDeclaration)

root_kept : IsKeptRule spec.root_rule
unfolding spec.root_rule styles
root_kept = rule_kept (codes "root") [] _ (omega arith) (omega arith) (one_kept _ (record { row = refl; layers = omega arith; fits = tt }))

label_kept : IsKeptRule spec.label_rule
unfolding spec.label_rule
label_kept =
    let ds : List Declaration = spec.text_fill spec.black ∷ (spec.alignment 3 ∷ []) in
    rule_kept (codes "label") [] ds (omega arith) (omega arith)
    (All-cons IsKeptDeclaration (spec.text_fill spec.black) (spec.alignment 3 ∷ []) (fill_kept spec.black) (one_kept (spec.alignment 3) alignment_kept.0))

button_kept : IsKeptRule spec.button_rule
unfolding spec.button_rule
button_kept =
    let last : List Declaration = spec.alignment 4 ∷ [] in
    let fourth : List Declaration = spec.text_fill spec.black ∷ last in
    let third : List Declaration = spec.button_padding ∷ fourth in
    let second : List Declaration = spec.button_insets ∷ third in
    rule_kept (codes "button") [] (spec.background spec.gray spec.light_gray ∷ second) (omega arith) (omega arith)
    (All-cons IsKeptDeclaration (spec.background spec.gray spec.light_gray) second (background_kept spec.gray spec.light_gray)
    (All-cons IsKeptDeclaration spec.button_insets third insets_kept (All-cons IsKeptDeclaration spec.button_padding fourth padding_kept
    (All-cons IsKeptDeclaration (spec.text_fill spec.black) last (fill_kept spec.black) (one_kept (spec.alignment 4) alignment_kept.1)))))

state_kept : (state : List ℕ) (d : Declaration) → IsKeptDeclaration d → IsKeptRule (spec.state_rule state d)
unfolding spec.state_rule
state_kept state d h = rule_kept (codes "button") (state ∷ []) (d ∷ []) (omega arith) (omega arith) (one_kept d h)

more_kept : (r : Rule) (rs : List Rule) → IsKeptRule r → All IsKeptRule rs → All IsKeptRule (r ∷ rs)
more_kept r rs h hs = All-cons IsKeptRule r rs h hs

agent_within : IsWithinLimits (record { rules = spec.agent_rules; warnings = [] })
agent_within =
    let disabled : Rule = spec.state_rule (codes "disabled") (spec.text_fill spec.gray) in
    let pressed : Rule = spec.state_rule (codes "pressed") (spec.background spec.gray spec.dark_gray) in
    let hover : Rule = spec.state_rule (codes "hover") (spec.background spec.gray spec.white) in
    let focused : Rule = spec.state_rule (codes "focused") (spec.background spec.navy spec.light_gray) in
    let last : List Rule = hover ∷ (pressed ∷ (disabled ∷ [])) in
    record {
      rules = omega arith;
      each = more_kept spec.root_rule (spec.label_rule ∷ (spec.button_rule ∷ (focused ∷ last))) root_kept
          (more_kept spec.label_rule (spec.button_rule ∷ (focused ∷ last)) label_kept
          (more_kept spec.button_rule (focused ∷ last) button_kept
          (more_kept focused last (state_kept (codes "focused") (spec.background spec.navy spec.light_gray) (background_kept spec.navy spec.light_gray))
          (more_kept hover (pressed ∷ (disabled ∷ [])) (state_kept (codes "hover") (spec.background spec.gray spec.white) (background_kept spec.gray spec.white))
          (more_kept pressed (disabled ∷ []) (state_kept (codes "pressed") (spec.background spec.gray spec.dark_gray) (background_kept spec.gray spec.dark_gray))
          (more_kept disabled [] (state_kept (codes "disabled") (spec.text_fill spec.gray) (fill_kept spec.gray)) (All-nil IsKeptRule)))))));
    }

pub agent_kept : {E : Type 0} (r : Result Sheet E) → IfOk r (λ sheet. sheet ≡ record { rules = spec.agent_rules; warnings = [] }) → IfOk r (λ sheet. IsWithinLimits sheet)
agent_kept (Ok sheet) e = subst IsWithinLimits (sym e) agent_within
agent_kept (Err e) h = tt
