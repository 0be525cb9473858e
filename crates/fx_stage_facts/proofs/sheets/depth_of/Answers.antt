use Rattle.std.proofs.Common.{◌≤◌, arith}
use Rattle.fx_tree.specs.Scene.{parent_of}
use Rattle.fx_stage_facts.specs.Sheets.{depth_of}
use Rattle.fx_stage_facts.proofs.DepthLemmas.{depth_end, depth_next, depth_none, few_ancestors}
use Rattle.fx_stage_facts.proofs.sheets.depth_of.Goals as goal

pub returns-in-None : goal.returns-in-None
returns-in-None c = record {
  depth = depth_none (parent_of c.args.tree.now.nodes) c.loop-depth.depth (depth_of c.args.tree.now.nodes c.args.key) c.loop-depth.at
      c.in-None.is c.loop-depth.invariant;
}

pub loop-depth-preserved : goal.loop-depth-preserved
loop-depth-preserved c =
    depth_next (parent_of c.args.tree.now.nodes) c.loop-depth.depth (depth_of c.args.tree.now.nodes c.args.key) c.loop-depth.at
    c.in-Some.parent c.parent-at-in-Some.result c.loop-depth-test.true c.in-Some.is c.parent-at-in-Some.ensures c.loop-depth.invariant

pub returns : goal.returns
returns c =
    let past : 64 ≤ c.loop-depth.depth = omega (arith, c.loop-depth-test.false) in
    record {
      depth = depth_end (parent_of c.args.tree.now.nodes) c.loop-depth.depth (depth_of c.args.tree.now.nodes c.args.key) c.loop-depth.at
          past (few_ancestors c.args.tree.now.nodes c.args.key) c.loop-depth.invariant;
    }
