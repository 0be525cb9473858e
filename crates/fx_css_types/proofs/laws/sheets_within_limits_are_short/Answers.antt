use Rattle.fx_css_types.proofs.laws.sheets_within_limits_are_short.Goals as goal

pub returns : goal.returns
returns c = λ sheets within k d l. λ j e m. ((within k d l).each j e m).short
