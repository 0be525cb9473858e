use Rattle.std.proofs.Common.{List, ◌∙◌, ap}
use Rattle.fx_cascade.specs.declared.others.NamedSource.{NamedSource}
use Rattle.fx_cascade.specs.Tables.{Table, slots, source_of, under}
use Rattle.fx_cascade.proofs.TableLemmas.{other_is}
use Rattle.fx_cascade.proofs.tables.Winners.other.Goals as goal

pub returns : goal.returns
returns c = c.under.ensures
    ∙ ap (λ (l : List NamedSource). under l c.as_str-said.result.now) c.as_slice.ensures.value
    ∙ ap (under c.self.inside.others.items) c.as_str-said.ensures.text
    ∙ other_is (slots c.self.inside.heard c.self.inside.rows) c.self.inside.others.items c.args.name.now c.requires
    ∙ ap (λ (t : Table). source_of t c.args.name.now) c.self.view_is
