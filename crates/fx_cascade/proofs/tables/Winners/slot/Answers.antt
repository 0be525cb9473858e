use Rattle.std.proofs.Common.{◌≡◌, ℕ, Bool, List, None, get_or, sym, ◌∙◌, ap, false}
use Rattle.fx_cascade.specs.declared.sources.Source.{Source}
use Rattle.fx_cascade.specs.declared.sources.Source.TheVariants as source
use Rattle.fx_cascade.specs.Tables.{Table, slot, slots}
use Rattle.fx_cascade.proofs.TableLemmas.{slot_at}
use Rattle.fx_cascade.proofs.tables.Winners.slot.Goals as goal

by_mark : (heard : List Bool) (sources : List Source) (row : ℕ) (mark : Bool) → get_or heard row false ≡ mark
    → slot mark (get_or sources row (source.Code false)) ≡ get_or (slots heard sources) row None
by_mark heard sources row mark is =
    ap (λ (b : Bool). slot b (get_or sources row (source.Code false))) (sym is) ∙ sym (slot_at heard sources row)

pub returns-then-self-row : goal.returns-then-self-row
returns-then-self-row c =
    by_mark c.self.inside.heard c.self.inside.rows c.args.row _ c.if-self-row.true
    ∙ ap (λ (t : Table). get_or t.rows c.args.row None) c.self.view_is

pub returns-else-self-row : goal.returns-else-self-row
returns-else-self-row c =
    by_mark c.self.inside.heard c.self.inside.rows c.args.row _ c.if-self-row.false
    ∙ ap (λ (t : Table). get_or t.rows c.args.row None) c.self.view_is
