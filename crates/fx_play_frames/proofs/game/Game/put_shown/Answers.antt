-- the frame, and then the text
use Rattle.fx_frame_text.proofs.ImageLemmas.{writes_behind}
use Rattle.fx_frame_text.specs.Frames.{frame_text}
use Rattle.fx_port.proofs.Growth.{Writes-at_err}
use Rattle.fx_play_frames.specs.Games.{game_of}
use Rattle.fx_play_frames.specs.Takings.{image_last}
use Rattle.fx_play_frames.proofs.ShownLemmas.{part_of}
use Rattle.fx_play_frames.proofs.game.Game.put_shown.Goals as goal

pub returns-in_err-put_frame-clause-writes : goal.returns-in_err-put_frame-clause-writes
returns-in_err-put_frame-clause-writes g c = λ last follows.
    Writes-at_err _ c.from_residual.result c.from_residual.ensures.1
    (part_of c.args.text.now (c.in_err-put_frame.ensures.writes last follows).err)

pub returns-clause-writes : goal.returns-clause-writes
returns-clause-writes g c = λ last follows.
    writes_behind c.put.result
    (frame_text c.args.writer.now.form c.args.self.now.frames last c.args.damage.now (image_last (game_of c.args.self.now).last))
    c.args.text.now (c.in_ok-put_frame.ensures.writes last follows).ok c.put.ensures.writes
