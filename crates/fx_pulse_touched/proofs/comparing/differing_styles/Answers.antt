use Rattle.std.proofs.Common.{arith, length, ◌<◌}
use Rattle.fx_kinds.specs.declared.facts.StyleFacts.{StyleFacts}
use Rattle.fx_pulse_touched.proofs.HeadLemmas.{same_told}
use Rattle.fx_pulse_touched.proofs.comparing.differing_styles.Goals as goal

pub has_same_style-requires-clause-key : goal.has_same_style-requires-clause-key
has_same_style-requires-clause-key c =
    let k = c.loop-place.place in
    let within : k < length c.args.olds.now = omega (arith, c.loop-place-test.true, c.requires.each) in
    same_told (λ (n : StyleFacts). n.key) (λ (n : StyleFacts). n.key) c.args.olds.now c.args.nodes.now k
    c.index-olds-place.result c.index-nodes-place.result c.requires.keys within c.loop-place-test.true
    c.index-olds-place.is c.index-nodes-place.is

pub has_same_style-requires-clause-parent : goal.has_same_style-requires-clause-parent
has_same_style-requires-clause-parent c =
    let k = c.loop-place.place in
    let within : k < length c.args.olds.now = omega (arith, c.loop-place-test.true, c.requires.each) in
    same_told (λ (n : StyleFacts). n.parent) (λ (n : StyleFacts). n.parent) c.args.olds.now c.args.nodes.now k
    c.index-olds-place.result c.index-nodes-place.result c.requires.parents within c.loop-place-test.true
    c.index-olds-place.is c.index-nodes-place.is
