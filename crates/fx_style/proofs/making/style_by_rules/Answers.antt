use Rattle.std.proofs.Common.{ℕ, List, Bor, Option, map, ◌∙◌, ap}
use Rattle.std.specs.List.{filter_map}
use Rattle.fx_look.specs.declared.looks.Look.{Look}
use Rattle.fx_lookup.specs.declared.named.NamedPaint.{NamedPaint}
use Rattle.fx_select.specs.Chains.{chain}
use Rattle.fx_node_style.specs.declared.node_styles.NodeStyle.{NodeStyle}
use Rattle.fx_node_style.specs.Styling.{look_above}
use Rattle.fx_style.specs.Above.{node_under, some_paints}
use Rattle.fx_style.specs.Places.{parent_at, places_up}
use Rattle.fx_style.specs.Plans.{plan_style}
use Rattle.fx_style.proofs.BareLemmas.{node-same}
use Rattle.fx_style.proofs.making.style_by_rules.Goals as goal

pub returns-clause-style : goal.returns-clause-style
returns-clause-style g c =
    let facts = c.args.scene.facts.now in
    let sheets = c.args.scene.sheets.now in
    let nodes = chain facts c.args.at in
    let up : Option ℕ → List NodeStyle = λ p. filter_map (plan_style c.args.plan) (places_up facts p) in
    let above : List NodeStyle = up (parent_at facts c.args.at) in
    let paints : List (List NamedPaint) = map (λ (n : Bor (List NamedPaint)). n.now) c.as_slice.result.now in
    c.in_ok-draft_style.ensures.style
    ∙ ap (λ (l : Option Look). node_under sheets nodes l paints)
    (c.look_up-look.ensures ∙ ap (λ (p : Option ℕ). look_above (up p)) c.parent_at-parent.ensures)
    ∙ ap (λ (ps : List (List NamedPaint)). node_under sheets nodes (look_above above) ps)
    (ap (map (λ (n : Bor (List NamedPaint)). n.now)) c.as_slice.ensures.value ∙ c.in_ok-paints.ensures
    ∙ ap (λ (p : Option ℕ). some_paints (up p)) c.parent_at-parent.ensures)
    ∙ node-same sheets nodes above
