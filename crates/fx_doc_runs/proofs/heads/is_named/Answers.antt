use Rattle.std.proofs.Common.{sym}
use Rattle.fx_doc_runs.proofs.Names.{fresh_more, fresh_found, fresh_none, so, so_not}
use Rattle.fx_doc_runs.proofs.heads.is_named.Goals as goal

pub returns-then-equals : goal.returns-then-equals
returns-then-equals c = sym (fresh_found c.args.name.now c.args.attributes.now c.loop-attribute.attribute-index c.attribute-item.result c.loop-attribute-test.true c.attribute-item.is (so c.equals.result c.equals.ensures c.if-equals.true))

pub loop-attribute-preserved : goal.loop-attribute-preserved
loop-attribute-preserved c = fresh_more c.args.name.now c.args.attributes.now c.loop-attribute.attribute-index c.attribute-item.result c.loop-attribute-test.true c.attribute-item.is c.loop-attribute.invariant
    (λ e. so_not c.equals.result c.equals.ensures c.if-equals.false e)

pub returns : goal.returns
returns c = sym (fresh_none c.args.name.now c.args.attributes.now c.loop-attribute.attribute-index c.loop-attribute-test.false c.loop-attribute.invariant)
