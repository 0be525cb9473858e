use Rattle.std.proofs.Common.{rules}
use Rattle.fx_node_style.proofs.same.are_same_spaces.Goals as goal

pub returns-then-is_same_length-3 : goal.returns-then-is_same_length-3
returns-then-is_same_length-3 c = (λ yes. search rules, λ are. search rules)
