use Rattle.std.proofs.Common.{arith, ap, subst, false, ◌∙◌, slice_index_or, length}
use Rattle.fx_layout.specs.Updates.{rect_at}
use Rattle.fx_shapes.specs.Drawings.{IsDrawing}
use Rattle.fx_pulse_model.specs.Pictures.{is_disabled}
use Rattle.fx_pulse.specs.Drawing.{drawn}
use Rattle.fx_pulse.proofs.EntryLemmas.{entry_is}
use Rattle.fx_pulse_touched.proofs.ToldLemmas.{told_at}
use Rattle.fx_pulse.proofs.entries.fill.Goals as goal

pub returns : goal.returns
returns c =
    let d = drawn c.args.laid in
    let k = c.args.place in
    entry_is d k c.index-laid-place.result c.index-laid-place-2.result c.args.entry.now.path c.from_vec.result
    c.flag_at-entry.result c.requires.there (omega (arith, c.requires.there, c.requires.looks))
    c.requires.path
    (rw (c.from_vec.ensures) (subst (λ t. IsDrawing
    (slice_index_or c.args.laid.looks.now k c.index-laid-place-2.result) (rect_at d.rects k) t
    c.in_ok-shapes.shapes.items) c.text_of.ensures
    c.in_ok-shapes.ensures))
    (c.flag_at-entry.ensures
    ∙ (ap (λ l. slice_index_or l k false) c.requires.disabled
    ∙ told_at (is_disabled d) (length d.boxes) k false c.requires.there))
