-- The sign is found among the meanings of the bytes.
use Rattle.std.proofs.Common.{◌∙◌}
use Rattle.fx_css.specs.Numbered.{shown}
use Rattle.fx_css.specs.Pieces.{ends_declaration}
use Rattle.fx_css.proofs.Ends.{end_at, within}
use Rattle.fx_css.proofs.cutting.declaration_end.Goals as goal

pub returns-clause-at : goal.returns-clause-at
returns-clause-at c = c.first_of_two.ensures ∙ end_at c.args.part

pub returns-clause-within : goal.returns-clause-within
returns-clause-within c = within ends_declaration (shown c.args.part) c.first_of_two.result (c.first_of_two.ensures ∙ end_at c.args.part)
