-- The sign is found among the meanings of the bytes.
use Rattle.std.proofs.Common.{◌∙◌}
use Rattle.fx_css.specs.Numbered.{shown}
use Rattle.fx_css.specs.Rules.{is_open}
use Rattle.fx_css.proofs.Ends.{sign_at, within}
use Rattle.fx_css.proofs.cutting.opening.Goals as goal

pub returns-clause-at : goal.returns-clause-at
returns-clause-at c = c.first_of.ensures ∙ sign_at 123 c.args.part

pub returns-clause-within : goal.returns-clause-within
returns-clause-within c = within is_open (shown c.args.part) c.first_of.result (c.first_of.ensures ∙ sign_at 123 c.args.part)
