use Rattle.fx_pulse.proofs.ShowLemmas.{shown_first}
use Rattle.fx_pulse.proofs.renderer.painted.Goals as goal

pub returns-clause-shows : goal.returns-clause-shows
returns-clause-shows g c =
    shown_first c.in_ok-canvas.canvas c.repaint.new.self c.args.picture.now.entries c.args.damage.now
    c.args.width c.args.height c.in_ok-canvas.ensures.width c.in_ok-canvas.ensures.height
    c.requires.all
    (record {
      width = c.repaint.ensures.width;
      height = c.repaint.ensures.height;
      pixels = c.repaint.ensures.pixels;
    })
