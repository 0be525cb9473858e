use Rattle.std.proofs.Common.{◌≡◌, ◌<◌, length, reverse, drop, ap, ◌+◌, ◌∙◌, List, set, arith}
use Rattle.fx_base.specs.declared.keys.Name.{Name}
use Rattle.fx_base.specs.declared.values.Value.{Value}
use Rattle.fx_graph_model.specs.declared.entries.Entry.{Entry}
use Rattle.fx_graph_model.specs.Uses.{entry_of}
use Rattle.fx_graph_model.specs.Changes.{given, with_values}
use Rattle.fx_graph.specs.Given.{texts_in}
use Rattle.fx_graph.proofs.GivenLemmas.{at_item, texts_more, texts_less, given_more}
use Rattle.fx_graph.proofs.giving.give.Goals as goal

pub next_value-value-requires : goal.next_value-value-requires
next_value-value-requires c =
    let pairs = c.args.pairs.now in
    let k = c.loop-pair.pair-index in (
      reverse (texts_in (drop (k + 1) pairs)),
      c.loop-pair.invariant.0 ∙ texts_more pairs k c.pair-item.result c.loop-pair-test.true c.pair-item.is,
    )

pub write_value-requires : goal.write_value-requires
write_value-requires c =
    let known = at_item (λ (p : Name × Value). p.0.0 < length c.args.entries.now) _ _ _ c.loop-pair-test.true c.pair-item.is c.requires.known in
    omega (arith, known, c.loop-pair.auto.entries)

pub loop-pair-preserved : goal.loop-pair-preserved
loop-pair-preserved c =
    let pairs = c.args.pairs.now in
    let k = c.loop-pair.pair-index in
    let pair = c.pair-item.result in
    let es = c.loop-pair.entries in
    let written : c.write_value.new.entries ≡ set es pair.0.0 (given c.args.sets pair.1 (entry_of es pair.0.0)) =
    c.write_value.ensures ∙ ap (λ (v : Value). set es pair.0.0 (given c.args.sets v (entry_of es pair.0.0))) c.next_value-value.ensures.value in (
      texts_less pairs k pair c.loop-pair-test.true c.pair-item.is _ _ c.loop-pair.invariant.0 c.next_value-value.ensures.left,
      ap (λ (l : List Entry). with_values c.args.sets (drop (k + 1) pairs) l) written
          ∙ given_more pairs k pair c.loop-pair-test.true c.pair-item.is c.args.sets es
          ∙ c.loop-pair.invariant.1,
    )
