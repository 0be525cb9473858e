use Rattle.std.proofs.Common.{◌∙◌}
use Rattle.fx_cascade.proofs.TableLemmas.{row_is}
use Rattle.fx_cascade.proofs.tables.Winners.row.Goals as goal

pub returns : goal.returns
returns c = λ name e.
    c.slot.ensures ∙ row_is c.args.self.now.rows c.args.self.now.others c.args.row name e
