use Rattle.std.proofs.Common.{sym, subst}
use Rattle.fx_tree.proofs.Prune.{IsPruning-start, IsPruning-more, IsPruned-end, IsResting, leaf_start, resting, still_within}
use Rattle.fx_tree.proofs.nodes.prune.Goals as goal

pub loop-top-init : goal.loop-top-init
loop-top-init c =
    record {
      pruning = IsPruning-start _ c.args.top c.requires.forest;
      resting = λ lives. (lives, (leaf_start c.args.nodes.now.slots c.args.top).0);
    }

pub last_leaf-leaf-requires-clause-forest : goal.last_leaf-leaf-requires-clause-forest
last_leaf-leaf-requires-clause-forest c = c.loop-top.invariant.pruning.forest

pub last_leaf-leaf-requires-clause-alive : goal.last_leaf-leaf-requires-clause-alive
last_leaf-leaf-requires-clause-alive c = (c.loop-top.invariant.resting (sym c.loop-top-test.ensures)).0

pub loop-top-preserved : goal.loop-top-preserved
loop-top-preserved c =
    let was = c.loop-top.invariant in
    let leaf = c.last_leaf-leaf.ensures in
    let within =
    still_within c.loop-top.nodes.slots was.pruning.forest c.last_leaf-leaf.result c.loop-top.at c.args.top leaf.within
    (was.resting (sym c.loop-top-test.ensures)).1 in
    record {
      pruning =
          IsPruning-more _ c.loop-top.nodes.slots c.unlink.new.nodes.slots c.free.new.nodes.slots c.args.top c.last_leaf-leaf.result was.pruning c.requires.topmost
          leaf.alive within leaf.leaf c.unlink.ensures.unlinked c.free.ensures.freed c.unlink.ensures.len c.free.ensures.len;
      resting =
          subst (IsResting c.free.new.nodes.slots c.args.top) (sym c.parent_or_itself-at.ensures)
          (resting _ c.loop-top.nodes.slots c.unlink.new.nodes.slots c.free.new.nodes.slots c.args.top c.last_leaf-leaf.result was.pruning c.requires.topmost
          leaf.alive within leaf.leaf c.unlink.ensures.unlinked c.free.ensures.freed c.unlink.ensures.len c.free.ensures.len);
    }

pub returns : goal.returns
returns c = IsPruned-end _ _ c.args.top c.requires.forest c.loop-top.invariant.pruning (sym c.loop-top-test.ensures)
