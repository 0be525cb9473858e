use Rattle.fx_css_marks.specs.Walks.{left}
use Rattle.fx_css_marks.proofs.Steps.{found_more, found_all}
use Rattle.fx_css_marks.proofs.walking.places.Goals as goal

pub loop-number-preserved : goal.loop-number-preserved
loop-number-preserved c = record {
  passed = c.to-walk.ensures;
  found = found_more c.args.file c.loop-number.number-index c.args.numbers.now (left c.along-start.result) (left c.to-walk.result) c.loop-number.places.items c.push.new.self.items c.here.result
      c.loop-number-test.true c.loop-number.invariant.found c.to-walk.ensures c.here.ensures c.in_ok-push.ensures.items;
}

pub returns : goal.returns
returns c = λ ms.
    found_all c.args.file c.loop-number.number-index c.args.text.now c.args.numbers.now (left c.along-start.result) ms c.loop-number.places.items
    c.along-start.ensures c.loop-number-test.false c.loop-number.invariant.found
