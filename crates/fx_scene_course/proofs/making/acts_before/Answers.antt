-- one act more, the first of a node, and none
use Rattle.std.proofs.Common.{◌∙◌, arith, length, refl, sym}
use Rattle.std.specs.List.{prefix_len}
use Rattle.fx_scene_acts.specs.Acts.{is_node_act}
use Rattle.fx_scene_course.specs.Making.{is_other_act}
use Rattle.fx_scene_course.proofs.CountLemmas.{all_pass, one_fails, one_passes}
use Rattle.fx_scene_course.proofs.making.acts_before.Goals as goal

pub returns-then-is_node_act : goal.returns-then-is_node_act
returns-then-is_node_act c =
    one_fails is_node_act c.args.acts.now c.loop-index.index (prefix_len is_other_act c.args.acts.now)
    c.index-acts-index.result c.loop-index-test.true c.index-acts-index.is
    (sym c.is_node_act.ensures ∙ c.if-is_node_act.true) c.loop-index.invariant.0

pub loop-index-preserved : goal.loop-index-preserved
loop-index-preserved c = (
  one_passes is_node_act c.args.acts.now c.loop-index.index (prefix_len is_other_act c.args.acts.now)
      c.index-acts-index.result c.loop-index-test.true c.index-acts-index.is
      (sym c.is_node_act.ensures ∙ c.if-is_node_act.false) c.loop-index.invariant.0,
  omega (arith, c.loop-index-test.true),
)

pub returns : goal.returns
returns c =
    all_pass is_node_act c.args.acts.now c.loop-index.index (prefix_len is_other_act c.args.acts.now)
    (length c.args.acts.now) c.loop-index.invariant.1 c.loop-index-test.false refl c.loop-index.invariant.0
