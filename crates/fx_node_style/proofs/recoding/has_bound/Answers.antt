use Rattle.std.proofs.Common.{rules}
use Rattle.fx_look.specs.Styles.{styles}
use Rattle.fx_node_style.specs.Recoding.{with_bound}
use Rattle.fx_node_style.proofs.recoding.has_bound.Goals as goal

pub returns-then-is_bound-5 : goal.returns-then-is_bound-5
unfolding styles with_bound
returns-then-is_bound-5 c = (λ yes. search rules, λ same. search rules)
