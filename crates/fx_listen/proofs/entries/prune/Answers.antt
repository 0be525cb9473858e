use Rattle.std.proofs.Common.{◌∙◌, rules, arith}
use Rattle.std.proofs.lemmas.Fn.{filter_same}
use Rattle.fx_listen.specs.Listening.{is_live}
use Rattle.fx_listen.proofs.Changes.{pruned-few, pruned-many}
use Rattle.fx_listen.proofs.entries.prune.Goals as goal

pub returns-then-len-ge-MOST_LIVE-clause-pruned : goal.returns-then-len-ge-MOST_LIVE-clause-pruned
returns-then-len-ge-MOST_LIVE-clause-pruned c =
    let living = c.args.owners.now.living in
    filter_same _ (is_live living) _ (λ x b f' k. search rules) _ _ c.retain.ensures.filtered
    ∙ pruned-many living _ (omega (arith, c.if-len-ge-MOST_LIVE.true, c.len.ensures, c.args.listeners.now.ok.0))

pub returns-else-len-ge-MOST_LIVE-clause-pruned : goal.returns-else-len-ge-MOST_LIVE-clause-pruned
returns-else-len-ge-MOST_LIVE-clause-pruned c =
    pruned-few c.args.owners.now.living _ (omega (arith, c.if-len-ge-MOST_LIVE.false, c.len.ensures, c.args.listeners.now.ok.0))
