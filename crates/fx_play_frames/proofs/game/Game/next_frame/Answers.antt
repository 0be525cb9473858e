-- the last frame again is no work
use Rattle.fx_plain_work.specs.Works.{counted}
use Rattle.fx_play_frames.proofs.game.Game.next_frame.Goals as goal

pub returns-in-Some-clause-work : goal.returns-in-Some-clause-work
returns-in-Some-clause-work g c =
    c.in-Some.ensures.work (counted c.args.work.now.styled c.args.work.now.laid c.args.work.now.painted)
