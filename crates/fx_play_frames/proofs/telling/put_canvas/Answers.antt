-- what the canvas shows is written as its picture's image
use Rattle.std.proofs.Common.{ℕ, List, subst}
use Rattle.fx_frame_text.proofs.AlikeLemmas.{text_alike}
use Rattle.fx_play_frames.proofs.ShownLemmas.{follows_alike, shown_alike}
use Rattle.fx_port.specs.Pieces.{Writes}
use Rattle.fx_play_frames.proofs.telling.put_canvas.Goals as goal

pub returns-clause-writes : goal.returns-clause-writes
returns-clause-writes g c = λ picture last shows follows.
    subst (λ (text : List ℕ). Writes (g.O.Sink.written c.args.out.now) (g.O.Sink.written c.put.new.out) c.put.result text)
    (text_alike c.args.writer.now.form c.args.number last c.args.damage.now
    (shown_alike c.args.canvas.now picture c.laws.ensures shows))
    (c.put.ensures.writes last follows)

pub returns-clause-behind : goal.returns-clause-behind
returns-clause-behind g c = λ picture shows.
    follows_alike c.put.result c.put.new.self (shown_alike c.args.canvas.now picture c.laws.ensures shows)
    c.put.ensures.follows
