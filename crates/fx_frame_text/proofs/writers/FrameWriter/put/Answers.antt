-- the head, and then the image
use Rattle.fx_frame_text.specs.Canvases.{image_on}
use Rattle.fx_frame_text.specs.Frames.{frame_head, image_text}
use Rattle.fx_frame_text.proofs.ImageLemmas.{writes_behind}
use Rattle.fx_frame_text.proofs.writers.FrameWriter.put.Goals as goal

pub returns-clause-writes : goal.returns-clause-writes
returns-clause-writes g c = λ last follows.
    let image = image_on c.args.canvas.now in
    writes_behind c.put_image.result (frame_head c.args.number image.width image.height c.args.damage.now)
    (image_text c.args.self.now.form last c.args.damage.now image) c.in_ok-put_head.ensures.writes.ok
    (c.put_image.ensures.writes last follows)
