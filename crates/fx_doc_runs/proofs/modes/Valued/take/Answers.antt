use Rattle.std.proofs.Common.{rules}
use Rattle.fx_doc_runs.proofs.Attributing.{value_then, value_refers, valued_with}
use Rattle.fx_doc_runs.proofs.modes.Valued.take.Goals as goal

pub loop-found-preserved : goal.loop-found-preserved
loop-found-preserved c = record {
  utf8 = search rules;
  took = value_then c.args.rest.now c.loop-found.left.now c.in_ok-left-2.left.now c.args.self.now c.loop-found.self
      c.take_plain-in-Some.new.self c.loop-found.invariant.took
      (value_then c.loop-found.left.now c.in-Some.behind.now c.in_ok-left-2.left.now c.loop-found.self
      (valued_with c.loop-found.self c.push.new.self) c.take_plain-in-Some.new.self
      (value_refers c.loop-found.self c.push.new.self c.loop-found.left.now c.in-Some.behind.now c.in-Some.found
      c.in-Some.ensures.some c.in-Some.ensures.room c.in_ok-push.ensures.bytes c.in_ok-push.ensures.count)
      c.in_ok-left-2.ensures.took);
}
