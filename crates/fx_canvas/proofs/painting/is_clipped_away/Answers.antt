-- nothing that lies in the clip lies in the area
use Rattle.std.proofs.Common.{◌∙◌, ap, sym}
use Rattle.fx_canvas.proofs.ClipLemmas.{clipped}
use Rattle.fx_picture.specs.Bounds.{bounds_of, is_empty, meet}
use Rattle.fx_picture.specs.Shapes.{bounds, cells_bounds}
use Rattle.fx_canvas.proofs.painting.is_clipped_away.Goals as goal

pub returns-in-Letters : goal.returns-in-Letters
returns-in-Letters c = λ is.
    let area = c.args.area in
    let parts = c.in-Letters in
    ap (λ s. is_empty (meet area (bounds s))) parts.is
    ∙ clipped area (cells_bounds parts.x parts.y parts.scale parts.text) (bounds_of parts.clip)
    (sym (ap is_empty (c.meeting.ensures ∙ ap (meet area) c.bounds_of.ensures)) ∙ (sym c.is_empty.ensures ∙ is))
