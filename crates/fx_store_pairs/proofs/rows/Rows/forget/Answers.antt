-- each row is looked up in what the closure leaves
use Rattle.std.proofs.Common.{filter, not, refl, rules}
use Rattle.fx_store_pairs.specs.Pairs.{is_among}
use Rattle.fx_store_pairs.proofs.RowSteps.{retained}
use Rattle.fx_store_pairs.proofs.rows.Rows.forget.Goals as goal

pub returns : goal.returns
returns c = λ number.
    retained _ (is_among c.args.names.now) (λ others. others.items)
    (filter (λ partner. not (is_among c.args.names.now partner))) _ refl
    (λ k v b w f' t. search rules) _ _ c.retain.ensures.filtered number
