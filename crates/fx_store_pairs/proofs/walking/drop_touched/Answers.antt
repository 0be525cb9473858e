-- the filter over the names' numbers is the one over the pairs
use Rattle.std.proofs.Common.{ℕ, Bool, not, rules, ap, ◌∙◌}
use Rattle.std.proofs.lemmas.Fn.{filter_same}
use Rattle.fx_base.specs.declared.keys.Name.{Name}
use Rattle.fx_store_pairs.specs.Pairs.{is_touched, pairs_of}
use Rattle.fx_store_pairs.proofs.Leaving.{pairs_of_filter}
use Rattle.fx_store_pairs.proofs.walking.drop_touched.Goals as goal

pub returns : goal.returns
returns c =
    let kept : Name × Name → Bool = λ pair. not (is_touched c.args.names.now (pair.0.0, pair.1.0)) in
    ap pairs_of (filter_same _ kept _ (λ x b f' k. search rules) _ _ c.retain.ensures.filtered)
    ∙ pairs_of_filter (λ (pair : ℕ × ℕ). not (is_touched c.args.names.now pair)) c.args.pairs.now.items
