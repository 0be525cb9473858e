-- What the first of a node and its ancestors gives.
use Rattle.std.proofs.Common.{◌≡◌, ℕ, List, ◌++◌, Option, Some, sym, ◌∙◌, ap, append_assoc}
use Rattle.std.specs.Prelude.{option_to_list, slice_get}
use Rattle.fx_kinds.specs.declared.facts.StyleFacts.{StyleFacts}
use Rattle.fx_select.specs.Chains.{ParentsStandBefore, chain, upward}
use Rattle.fx_select.proofs.ChainLemmas.{upward-some}
use Rattle.fx_plain_explain.specs.Explaining.{codes_of, listed_by, seen_by}

pub codes-first : (nodes : List StyleFacts) → ParentsStandBefore nodes → (at : ℕ) (node : StyleFacts) → slice_get nodes at ≡ Some node
    → node.codes ≡ codes_of (chain nodes at)
codes-first nodes before at node is = sym (ap codes_of (upward-some nodes before at node is))

-- what is listed from a node up is what it lists, and then what is listed above
pub listed-more : (nodes : List StyleFacts) → ParentsStandBefore nodes → (at : ℕ) (node : StyleFacts) → slice_get nodes at ≡ Some node
    → listed_by (upward nodes (Some at)) ≡ node.sheets ++ listed_by (upward nodes node.parent)
listed-more nodes before at node is = ap listed_by (upward-some nodes before at node is)

pub seen-first : (nodes : List StyleFacts) → ParentsStandBefore nodes → (at : ℕ) (node : StyleFacts) → slice_get nodes at ≡ Some node
    → option_to_list node.inline ++ listed_by (chain nodes at) ≡ seen_by (chain nodes at)
seen-first nodes before at node is =
    let step = upward-some nodes before at node is in
    ap (λ (up : List StyleFacts). option_to_list node.inline ++ listed_by up) step ∙ sym (ap seen_by step)

-- a turn on the way up
pub passed-more : (nodes : List StyleFacts) → ParentsStandBefore nodes → (above : Option ℕ) (at : ℕ) (node : StyleFacts)
    → above ≡ Some at → slice_get nodes at ≡ Some node → (seen next all : List ℕ) → next ≡ seen ++ node.sheets
    → seen ++ listed_by (upward nodes above) ≡ all → next ++ listed_by (upward nodes node.parent) ≡ all
passed-more nodes before above at node here is seen next all pushed passed =
    ap (λ (s : List ℕ). s ++ listed_by (upward nodes node.parent)) pushed
    ∙ append_assoc seen node.sheets (listed_by (upward nodes node.parent))
    ∙ ap (λ (l : List ℕ). seen ++ l) (sym (listed-more nodes before at node is))
    ∙ ap (λ (p : Option ℕ). seen ++ listed_by (upward nodes p)) (sym here)
    ∙ passed
