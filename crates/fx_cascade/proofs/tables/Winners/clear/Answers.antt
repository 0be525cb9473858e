use Rattle.fx_look.specs.declared.styles.TheConstants.{STYLE_COUNT}
use Rattle.fx_cascade.proofs.TableLemmas.{none_heard, none_kept}
use Rattle.fx_cascade.proofs.tables.Winners.clear.Goals as goal

pub returns : goal.returns
returns c = λ name. none_kept _ c.clear.new.self.items name (none_heard STYLE_COUNT c.self.inside.rows) c.clear.ensures.items
