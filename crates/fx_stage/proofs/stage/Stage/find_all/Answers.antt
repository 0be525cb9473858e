use Rattle.std.proofs.Common.{◌∙◌, List, Ok, ap, arith, reverse}
use Rattle.fx_base.specs.declared.keys.Name.{Name}
use Rattle.fx_stage.proofs.FindingLemmas.{none_left, one_more}
use Rattle.fx_stage.proofs.stage.Stage.find_all.Goals as goal

pub loop-place-init : goal.loop-place-init
loop-place-init c = record {
  within = omega arith;
  found = ap (λ (names : List Name). Ok (reverse names)) c.in_ok-names.ensures.items
      ∙ none_left c.args.self.now c.args.paths.now;
}

pub loop-place-preserved : goal.loop-place-preserved
loop-place-preserved c = record {
  within = omega (arith, c.loop-place.invariant.within);
  found = c.in_ok-word.ensures
      ∙ one_more c.args.self.now c.args.paths.now c.loop-place.place c.index-paths-place.result c.loop-place.names.items c.loop-place.word
      c.loop-place-test.true c.loop-place.invariant.within c.index-paths-place.is c.loop-place.invariant.found;
}
