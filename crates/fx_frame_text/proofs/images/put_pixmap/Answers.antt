-- the header, and then the rows
use Rattle.std.proofs.Common.{◌∙◌, ap, refl}
use Rattle.fx_port.specs.Pieces.{grown}
use Rattle.fx_frame_text.specs.Canvases.{image_on}
use Rattle.fx_frame_text.specs.Frames.{ppm_header, rows_in}
use Rattle.fx_frame_text.specs.declared.forms.Form.TheVariants as form
use Rattle.fx_frame_text.proofs.ImageLemmas.{writes_behind}
use Rattle.fx_frame_text.proofs.images.put_pixmap.Goals as goal

pub returns-clause-writes : goal.returns-clause-writes
returns-clause-writes g c =
    let image = image_on c.args.canvas.now in
    writes_behind c.put_pixels.result (ppm_header image.width image.height) (rows_in form.Ppm image)
    (c.in_ok-put.ensures.writes.ok ∙ ap (grown (g.O.Sink.written c.args.out.now)) (c.as_slice.ensures.value ∙ (c.in_ok-header.ensures ∙ (rw (c.width.ensures.value, c.height.ensures.value) refl))))
    c.put_pixels.ensures.writes
