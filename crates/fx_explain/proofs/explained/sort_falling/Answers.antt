use Rattle.std.proofs.Common.{◌≡◌, rules}
use Rattle.std.specs.Ordering.{is_lt}
use Rattle.std.proofs.lemmas.Fn.{always_returns_same}
use Rattle.fx_cascade.specs.Ranks.{is_below}
use Rattle.fx_explain.proofs.OrderLemmas.{falling_order}
use Rattle.fx_explain.proofs.explained.sort_falling.Goals as goal

pub returns-clause-falling : goal.returns-clause-falling
returns-clause-falling c =
    let matched = c.args.matched.now in
    c.sort_unstable_by.ensures.sorted (λ one other. is_below matched other one) (falling_order matched)
    (always_returns_same _ (λ a r. is_lt r ≡ is_below matched a.1.0.now a.0.now) _ (λ a r f' k. search rules))
