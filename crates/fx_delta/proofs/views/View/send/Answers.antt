-- what is shown already stays
use Rattle.std.proofs.Common.{sym, ◌∙◌}
use Rattle.fx_delta.proofs.PictureLemmas.{with_pixels-same}
use Rattle.fx_delta.proofs.views.View.send.Goals as goal

pub returns-then-shows-clause-shown : goal.returns-then-shows-clause-shown
returns-then-shows-clause-shown c =
    with_pixels-same c.args.self.now c.args.x c.args.y c.args.pixels.now (sym c.shows.ensures ∙ c.if-shows.true)
