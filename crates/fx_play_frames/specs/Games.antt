-- A game as the plain player has it.
use Rattle.fx_plain_frames.specs.Games.{Game as Played}
use Rattle.fx_plain_work.specs.Works.{Sight}
use Rattle.fx_play_times.specs.Shown.{clock_of}
use Rattle.fx_pulse.specs.Rendering.{last_frame}
use Rattle.fx_play_frames.specs.declared.game.Game.{Game}

-- what its renderer keeps of the last scene
abbrev pub sight_of : Game → Sight
sight_of g = record { scene = g.renderer.kept.last; layout = g.renderer.kept.layout }

abbrev pub game_of : Game → Played
game_of g =
    record { world = g.stage; clock = clock_of g.clock; frames = g.frames; last = last_frame g.renderer }
