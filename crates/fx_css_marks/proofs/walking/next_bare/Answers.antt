use Rattle.std.proofs.Common.{◌∷◌, sym, ◌∙◌, ap, not}
use Rattle.fx_css_marks.specs.Scanning.{scanned}
use Rattle.fx_css_marks.specs.Marks.{mark}
use Rattle.fx_base.specs.Positions.{after_byte}
use Rattle.fx_css_marks.specs.Walks.{mode_of, opened}
use Rattle.fx_css_marks.proofs.Steps.{bare_step}
use Rattle.fx_css_marks.proofs.walking.next_bare.Goals as goal

pub returns : goal.returns
returns c =
    bare_step c.args.position c.args.first c.args.behind.now (sym c.begins_comment.ensures ∙ c.if-begins_comment.false)
    ∙ (ap (λ b. mark c.args.first c.args.position (not b) ∷ scanned (mode_of (opened c.args.first)) (after_byte c.args.position c.args.first) c.args.behind.now) (sym c.is_quote.ensures)
    ∙ (ap (λ q. mark c.args.first c.args.position (not c.is_quote.result) ∷ scanned (mode_of q) (after_byte c.args.position c.args.first) c.args.behind.now) (sym c.opened.ensures)
    ∙ ap (λ p. mark c.args.first c.args.position (not c.is_quote.result) ∷ scanned (mode_of c.opened.result) p c.args.behind.now) (sym c.after_byte.ensures)))
