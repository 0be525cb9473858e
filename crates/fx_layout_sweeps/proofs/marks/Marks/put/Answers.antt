use Rattle.std.proofs.Common.{Bool, List, ap, slice_set, ◌∙◌}
use Rattle.std.proofs.lemmas.List.{map-set}
use Rattle.fx_layout_sweeps.specs.Marks.{is_set}
use Rattle.fx_layout_sweeps.proofs.marks.Marks.put.Goals as goal

pub returns : goal.returns
returns c =
    map-set is_set c.self.inside.bytes.items c.args.place c.byte_of.result
    ∙ (ap (λ (l : List Bool). slice_set l c.args.place (is_set c.byte_of.result)) c.self.view_is
    ∙ ap (λ b. slice_set c.args.self.now c.args.place b) c.byte_of.ensures)
