use Rattle.std.proofs.Common.{◌≡◌, ◌∷◌, ℕ, List, Bor, Option, map, sym, ◌∙◌, ap}
use Rattle.std.specs.Option.{option_copied}
use Rattle.fx_look.specs.declared.looks.Look.{Look}
use Rattle.fx_look.specs.declared.styles.CodeValue.{CodeValue}
use Rattle.fx_lookup.specs.declared.named.NamedPaint.{NamedPaint}
use Rattle.fx_css_types.specs.declared.sheets.SheetAt.{SheetAt}
use Rattle.fx_css_types.specs.declared.sheets.Candidate.{Candidate}
use Rattle.fx_kinds.specs.Properties.{initial_alignment}
use Rattle.fx_kinds.specs.declared.facts.StyleFacts.{StyleFacts}
use Rattle.fx_select.specs.Chains.{chain, upward}
use Rattle.fx_select.proofs.ChainLemmas.{upward-some}
use Rattle.fx_node_style.specs.Styling.{style_under}
use Rattle.fx_style.specs.Above.{node_under}
use Rattle.fx_style.specs.Rules.{matching_nodes}
use Rattle.fx_style.proofs.making.draft_style.Goals as goal

by_nodes : (sheets : List SheetAt) (nodes : List StyleFacts) (node : StyleFacts) (up : List StyleFacts)
    (look : Option Look) (paints : List (List NamedPaint)) → nodes ≡ node ∷ up
    → style_under sheets (matching_nodes sheets nodes) node.codes (initial_alignment node.class) look paints
    ≡ node_under sheets nodes look paints
by_nodes sheets nodes node up look paints is =
    ap (λ (ns : List StyleFacts).
    style_under sheets (matching_nodes sheets ns) node.codes (initial_alignment node.class) look paints) is
    ∙ sym (ap (λ (ns : List StyleFacts). node_under sheets ns look paints) is)

pub returns-clause-style : goal.returns-clause-style
returns-clause-style g c =
    let facts = c.args.scene.facts.now in
    let sheets = c.args.scene.sheets.now in
    let nodes = chain facts c.args.at in
    let node = c.node_at-node.result.now in
    let look : Option Look = option_copied c.args.parent in
    let paints : List (List NamedPaint) = map (λ (n : Bor (List NamedPaint)). n.now) c.args.above.now in
    c.in_ok-restyle.ensures.style
    ∙ ap (λ (m : List Candidate). style_under sheets m c.as_slice-2.result.now c.initial_alignment.result look paints)
    (c.as_slice.ensures.value ∙ c.in_ok-find_rules.ensures)
    ∙ ap (λ (v : List CodeValue). style_under sheets (matching_nodes sheets nodes) v c.initial_alignment.result look
    paints) c.as_slice-2.ensures
    ∙ ap (λ (n : ℕ). style_under sheets (matching_nodes sheets nodes) node.codes n look paints)
    c.initial_alignment.ensures
    ∙ by_nodes sheets nodes node (upward facts node.parent) look paints
    (upward-some facts c.requires.before c.args.at node c.node_at-node.ensures)
