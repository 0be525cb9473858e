use Rattle.std.proofs.Common.{List, Option, get_or, set, length, true, None, ◌∙◌, ap, sym, arith}
use Rattle.fx_cascade.specs.declared.sources.Source.{Source}
use Rattle.fx_cascade.specs.Ranks.{greater}
use Rattle.fx_cascade.specs.Sources.{voice}
use Rattle.fx_cascade.specs.Tables.{Table, slots, source_of}
use Rattle.fx_cascade.specs.Winners.{hear}
use Rattle.fx_cascade.proofs.TableLemmas.{row_heard, slots_set, slots_within, table_of}
use Rattle.fx_cascade.proofs.tables.Winners.hear_row.Goals as goal

pub returns : goal.returns
returns c = λ said name e.
    let matched = c.args.matched.now in
    let heard = c.self.inside.heard in
    let sources = c.self.inside.rows in
    let others = c.self.inside.others.items in
    let row = c.args.row in
    ap (λ (rows : List (Option Source)). source_of (table_of rows others) name)
    (slots_set heard sources row c.best_of-best.result (omega arith) (omega arith)
    ∙ ap (set (slots heard sources) row) (c.best_of-best.ensures
    ∙ ap (λ (t : Table). greater matched (get_or t.rows row None) c.args.source) (sym c.self.view_is)))
    ∙ row_heard matched (slots heard sources) others row c.args.source said name
    (slots_within heard sources row (omega arith) (omega arith)) e
    ∙ ap (λ (t : Table). hear matched name (source_of t name) (voice said c.args.source)) c.self.view_is
