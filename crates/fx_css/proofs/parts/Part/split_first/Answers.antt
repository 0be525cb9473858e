-- The first byte is shown first, and what is behind it behind it.
use Rattle.std.proofs.Common.{refl}
use Rattle.fx_css.proofs.NumberedLemmas.{none_shown, first_shown_is}
use Rattle.fx_css.proofs.parts.Part.split_first.Goals as goal

pub returns-in_default-clause-none : goal.returns-in_default-clause-none
returns-in_default-clause-none c = none_shown c.args.self c.in_default.ensures.cases

pub returns-clause-some : goal.returns-clause-some
returns-clause-some c = first_shown_is c.args.self _ _ _ _ _ c.in-Some.ensures.cases.0 c.in-Some-split_first.ensures.cases.0 refl refl refl
