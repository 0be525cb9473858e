use Rattle.std.proofs.Common.{false, ◌∷◌, sym, ◌∙◌, ap}
use Rattle.fx_css_marks.specs.Scanning.{scanned}
use Rattle.fx_css_marks.specs.Marks.{mark}
use Rattle.fx_base.specs.Positions.{after_byte}
use Rattle.fx_css_marks.specs.Walks.{mode_of}
use Rattle.fx_css_marks.proofs.Steps.{quoted_step}
use Rattle.fx_css_marks.proofs.walking.next_quoted.Goals as goal

pub returns : goal.returns
returns c =
    quoted_step c.args.quote c.args.position c.args.first c.args.behind.now
    ∙ (ap (λ q. mark c.args.first c.args.position false ∷ scanned (mode_of q) (after_byte c.args.position c.args.first) c.args.behind.now) (sym c.still_open.ensures)
    ∙ ap (λ p. mark c.args.first c.args.position false ∷ scanned (mode_of c.still_open.result) p c.args.behind.now) (sym c.after_byte.ensures))
