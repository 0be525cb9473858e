-- the last frame is what the canvas shows
use Rattle.std.proofs.Common.{◌≡◌, ◌∙◌, List, Option, Some, ap, subst, sym}
use Rattle.std.specs.Option.{option_copied}
use Rattle.fx_canvas.specs.Surfaces.{Surface}
use Rattle.fx_canvas_laws.specs.Frames.{Shows}
use Rattle.fx_frame_text.specs.Frames.{Image, frame_text}
use Rattle.fx_play_frames.specs.Takings.{image_last}
use Rattle.fx_pulse.specs.Rendering.{surface_of}
use Rattle.fx_port.specs.Pieces.{Writes}
use Rattle.fx_play_frames.proofs.LineLemmas.{frame_on}
use Rattle.fx_play_frames.proofs.telling.put_last.Goals as goal

pub returns-in-Some-clause-writes : goal.returns-in-Some-clause-writes
returns-in-Some-clause-writes g c = λ last follows.
    let renderer = c.args.renderer.now in
    let there : renderer.canvas ≡ Some c.in-Some.canvas.now = sym c.canvas.ensures ∙ ap option_copied c.in-Some.is in
    let same = ap (λ (o : Option Surface). image_last (frame_on o renderer.picture)) there in
    let shows = subst (λ (o : Option Surface). Shows (surface_of o) renderer.picture) there c.laws.ensures.shows in
    subst (λ (image : Image). Writes (g.O.Sink.written c.args.out.now) (g.O.Sink.written c.put_canvas.new.out) c.put_canvas.result
    (frame_text c.args.writer.now.form c.args.number last c.args.damage.now image)) (sym same)
    (c.put_canvas.ensures.writes renderer.picture last shows follows)
