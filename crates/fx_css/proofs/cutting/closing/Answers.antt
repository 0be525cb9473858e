-- The sign is found among the meanings of the bytes.
use Rattle.std.proofs.Common.{◌∙◌}
use Rattle.fx_css.specs.Numbered.{shown}
use Rattle.fx_css.specs.Rules.{is_close}
use Rattle.fx_css.proofs.Ends.{sign_at, within}
use Rattle.fx_css.proofs.cutting.closing.Goals as goal

pub returns-clause-at : goal.returns-clause-at
returns-clause-at c = c.first_of.ensures ∙ sign_at 125 c.args.part

pub returns-clause-within : goal.returns-clause-within
returns-clause-within c = within is_close (shown c.args.part) c.first_of.result (c.first_of.ensures ∙ sign_at 125 c.args.part)
