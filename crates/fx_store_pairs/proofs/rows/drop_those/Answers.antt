-- the filter over the names' numbers is the one over the names
use Rattle.std.proofs.Common.{Bool, not, rules, ap, ◌∙◌}
use Rattle.std.proofs.lemmas.Fn.{filter_same}
use Rattle.fx_base.specs.declared.keys.Name.{Name}
use Rattle.fx_base.specs.Names.{numbers}
use Rattle.fx_store_pairs.specs.Pairs.{is_among}
use Rattle.fx_store_pairs.proofs.RowSteps.{numbers_filter}
use Rattle.fx_store_pairs.proofs.rows.drop_those.Goals as goal

pub returns : goal.returns
returns c =
    let kept : Name → Bool = λ name. not (is_among c.args.names.now name.0) in
    ap numbers (filter_same _ kept _ (λ x b f' k. search rules) _ _ c.retain.ensures.filtered)
    ∙ numbers_filter (λ name. not (is_among c.args.names.now name)) c.args.others.now.items
