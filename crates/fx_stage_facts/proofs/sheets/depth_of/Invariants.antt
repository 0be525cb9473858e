use Rattle.std.proofs.Common.{◌≡◌, ◌+◌, ◌-◌, length}
use Rattle.fx_tree.specs.Scene.{line_in, parent_of}
use Rattle.fx_stage_facts.specs.Sheets.{depth_of}
use Rattle.fx_stage_facts.proofs.sheets.depth_of.Given as goal

-- the ancestors below, and those that are left
abbrev pub invariant-loop-depth : goal.invariant-loop-depth
invariant-loop-depth l =
    l.depth + length (line_in (64 - l.depth) (parent_of l.tree.nodes) l.at) ≡ depth_of l.tree.nodes l.fn.key
