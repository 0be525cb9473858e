-- Behind the end is nothing, and else what the drop leaves.
use Rattle.std.proofs.Common.{refl, sym, ◌∙◌}
use Rattle.fx_css.proofs.NumberedLemmas.{none_shown, all_behind, behind_shown}
use Rattle.fx_css.proofs.parts.Part.behind.Goals as goal

pub returns-then-at-self : goal.returns-then-at-self
returns-then-at-self c = none_shown _ refl ∙ sym (all_behind c.args.self c.args.at c.if-at-self.true)

pub returns : goal.returns
returns c = behind_shown c.args.self _ c.args.at refl c.split_at.ensures.back c.split_at-2.ensures.back
