use Rattle.std.proofs.Common.{Bor, Some, ◌∙◌, ap, sym}
use Rattle.fx_picture.specs.declared.entries.Entry.{Entry}
use Rattle.fx_damage.proofs.OrderLemmas.{first_at}
use Rattle.fx_damage.proofs.ordering.first_birth.Goals as goal

pub returns-then-place-entries : goal.returns-then-place-entries
returns-then-place-entries c =
    ap (λ (r : Bor Entry). Some r.now.key.birth) (sym c.index-entries-place.is)
    ∙ first_at c.args.entries.now c.args.place c.index-entries-place.result c.if-place-entries.true c.index-entries-place.is
