-- How many ancestors a node has, counted upwards.
use Rattle.std.proofs.Common.{◌≡◌, ◌∙◌, ◌<◌, ◌≤◌, ◌+◌, ◌-◌, ℕ, List, ◌∷◌, arith, length, Option, Some, None, ap}
use Rattle.fx_base.specs.declared.keys.NodeKey.{NodeKey}
use Rattle.fx_tree.specs.Scene.{Node, line_in, parent_of}
use Rattle.fx_tree.proofs.Lines.{length-line_in, line_in-none, line_step}
use Rattle.fx_stage_facts.specs.Sheets.{depth_of}

module _ (up : NodeKey → Option NodeKey) (depth total : ℕ) (at : Option NodeKey) where
  pub depth_none : at ≡ None → depth + length (line_in (64 - depth) up at) ≡ total → depth ≡ total
  depth_none none so_far =
      let empty : length (line_in (64 - depth) up at) ≡ 0 =
      ap (λ (o : Option NodeKey). length (line_in (64 - depth) up o)) none ∙ ap length (line_in-none (64 - depth) up) in
      omega (arith, empty, so_far)

  pub depth_next : (key : NodeKey) (next : Option NodeKey) → depth < 64 → at ≡ Some key → next ≡ up key
      → depth + length (line_in (64 - depth) up at) ≡ total
      → depth + 1 + length (line_in (64 - (depth + 1)) up next) ≡ total
  depth_next key next below is its so_far =
      let step : length (line_in (64 - depth) up at) ≡ length (key ∷ line_in (64 - (depth + 1)) up (up key)) =
      ap (λ (o : Option NodeKey). length (line_in (64 - depth) up o)) is ∙ ap length (line_step depth up key below) in
      let same : length (line_in (64 - (depth + 1)) up next) ≡ length (line_in (64 - (depth + 1)) up (up key)) =
      ap (λ (o : Option NodeKey). length (line_in (64 - (depth + 1)) up o)) its in
      omega (arith, step, same, so_far)

  pub depth_end : 64 ≤ depth → total ≤ 64 → depth + length (line_in (64 - depth) up at) ≡ total → 64 ≡ total
  depth_end past few so_far = omega (arith, past, few, so_far)

pub few_ancestors : (nodes : List Node) (key : NodeKey) → depth_of nodes key ≤ 64
few_ancestors nodes key = length-line_in 64 (parent_of nodes) (parent_of nodes key)
