use Rattle.std.proofs.Common.{◌+◌, ◌-◌, Option, ap, sym, ◌∙◌}
use Rattle.fx_base.specs.declared.keys.NodeKey.{NodeKey}
use Rattle.fx_tree.specs.Scene.{has, line_in, parent_of}
use Rattle.fx_focus.proofs.ClimbLemmas.{climb-end, climb-found, climb-more, climb-none, climb-start}
use Rattle.fx_focus.proofs.attached.is_within.Goals as goal

pub loop-level-init : goal.loop-level-init
loop-level-init c = climb-start c.args.tree.now.nodes c.args.upper c.args.key

pub returns-then-is_same : goal.returns-then-is_same
returns-then-is_same c =
    let up = parent_of c.args.tree.now.nodes in
    let level = c.loop-level._level in
    sym (climb-found up c.args.upper c.in-Some.node level c.loop-level-test.true (sym c.is_same.ensures ∙ c.if-is_same.true))
    ∙ ap (λ (above : Option NodeKey). has (line_in (64 - level) up above) c.args.upper) (sym c.in-Some.is)
    ∙ c.loop-level.invariant

pub returns-in-None : goal.returns-in-None
returns-in-None c =
    let up = parent_of c.args.tree.now.nodes in
    let level = c.loop-level._level in
    sym (climb-none up c.args.upper level)
    ∙ ap (λ (above : Option NodeKey). has (line_in (64 - level) up above) c.args.upper) (sym c.in-None.is)
    ∙ c.loop-level.invariant

pub loop-level-preserved : goal.loop-level-preserved
loop-level-preserved c =
    let up = parent_of c.args.tree.now.nodes in
    let level = c.loop-level._level in
    ap (λ (above : Option NodeKey). has (line_in (64 - (level + 1)) up above) c.args.upper) c.parent-above.ensures
    ∙ climb-more up c.args.upper c.in-Some.node level c.loop-level-test.true
    (sym c.is_same.ensures ∙ c.if-is_same.false)
    ∙ ap (λ (above : Option NodeKey). has (line_in (64 - level) up above) c.args.upper) (sym c.in-Some.is)
    ∙ c.loop-level.invariant

pub returns : goal.returns
returns c =
    sym (climb-end (parent_of c.args.tree.now.nodes) c.args.upper c.loop-level.above c.loop-level._level
    c.loop-level-test.false)
    ∙ c.loop-level.invariant
