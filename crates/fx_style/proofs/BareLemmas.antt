-- A node's style is the same where ancestors without paints are left out.
use Rattle.std.proofs.Common.{◌≡◌, ◌++◌, ◌∷◌, [], ℕ, suc, List, Option, length, map, refl, ap, ◌∙◌}
use mathlib.Core.Path.{fun_ext}
use Rattle.fx_base.specs.declared.color.Color.{Color as Rgba}
use Rattle.fx_css_types.specs.declared.sheets.SheetAt.{SheetAt}
use Rattle.fx_css_types.specs.declared.sheets.Candidate.{Candidate}
use Rattle.fx_kinds.specs.declared.facts.StyleFacts.{StyleFacts}
use Rattle.fx_kinds.specs.Properties.{initial_alignment}
use Rattle.fx_look.specs.declared.looks.Look.{Look}
use Rattle.fx_look.specs.declared.styles.CodeValue.{CodeValue}
use Rattle.fx_lookup.specs.declared.named.NamedPaint.{NamedPaint}
use Rattle.fx_lookup.specs.Lookups.{names_in, nearest, or_above, paint_under, resolved, resolved_in, steps_in}
use Rattle.fx_node_style.specs.declared.node_styles.NodeStyle.{NodeStyle}
use Rattle.fx_node_style.specs.Keeping.{paints_of}
use Rattle.fx_node_style.specs.Looking.{look_of}
use Rattle.fx_node_style.specs.Styling.{inherited, look_above, paints_above, style_under}
use Rattle.fx_node_style.specs.Values.{row_value}
use Rattle.fx_node_style.proofs.ChainLemmas.{same-in}
use Rattle.fx_style.specs.Above.{if_some, node_under, some_paints}
use Rattle.fx_style.specs.Rules.{chain_style, matching_nodes}

nearest-more : (own : List NamedPaint) (xs ys : List (List NamedPaint)) (name : List ℕ)
    → nearest xs name ≡ nearest ys name → nearest (if_some own ++ xs) name ≡ nearest (own ∷ ys) name
nearest-more [] xs ys name e = e
nearest-more (p ∷ ps) xs ys name e = ap (or_above (paint_under (p ∷ ps) name)) e

nearest-same : (above : List NodeStyle) (name : List ℕ)
    → nearest (some_paints above) name ≡ nearest (paints_above above) name
nearest-same [] name = refl
nearest-same (s ∷ ss) name =
    nearest-more s.paints (some_paints ss) (paints_above ss) name (nearest-same ss name)

names-more : (own : List NamedPaint) (xs ys : List (List NamedPaint)) → names_in xs ≡ names_in ys
    → names_in (if_some own ++ xs) ≡ names_in (own ∷ ys)
names-more [] xs ys e = e
names-more (p ∷ ps) xs ys e = ap (λ (l : List (List ℕ)). map (λ (q : NamedPaint). q.name) (p ∷ ps) ++ l) e

names-same : (above : List NodeStyle) → names_in (some_paints above) ≡ names_in (paints_above above)
names-same [] = refl
names-same (s ∷ ss) = names-more s.paints (some_paints ss) (paints_above ss) (names-same ss)

resolved-same : (own : List NamedPaint) (above : List NodeStyle) (name : List ℕ)
    → resolved (own ∷ some_paints above) name ≡ resolved (own ∷ paints_above above) name
resolved-same own above name =
    let few = own ∷ some_paints above in
    let all = own ∷ paints_above above in
    ap (λ (l : List (List ℕ)). resolved_in (suc (length (map (λ (q : NamedPaint). q.name) own ++ l))) few [] name)
    (names-same above)
    ∙ same-in (steps_in all) few all
    (λ n. ap (or_above (paint_under own n)) (nearest-same above n)) [] name

under-same : (sheets : List SheetAt) (matched : List Candidate) (codes : List CodeValue) (alignment : ℕ)
    (parent : Option Look) (above : List NodeStyle)
    → style_under sheets matched codes alignment parent (some_paints above)
    ≡ style_under sheets matched codes alignment parent (paints_above above)
unfolding style_under
under-same sheets matched codes alignment parent above =
    let own = paints_of sheets matched codes in
    let made : (List ℕ → Option Rgba) → NodeStyle = λ r. record {
      look = look_of (row_value sheets matched codes) r alignment (inherited alignment parent);
      paints = own;
    } in
    let same : resolved (own ∷ some_paints above) ≡ resolved (own ∷ paints_above above) =
    fun_ext (λ (name : List ℕ). resolved-same own above name) in
    ap made same

pub node-same : (sheets : List SheetAt) (nodes : List StyleFacts) (above : List NodeStyle)
    → node_under sheets nodes (look_above above) (some_paints above) ≡ chain_style sheets nodes above
unfolding chain_style
node-same sheets [] above = under-same sheets [] [] 0 (look_above above) above
node-same sheets (node ∷ up) above =
    under-same sheets (matching_nodes sheets (node ∷ up)) node.codes (initial_alignment node.class)
    (look_above above) above
