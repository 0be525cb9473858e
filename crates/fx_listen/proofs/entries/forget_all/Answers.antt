use Rattle.std.proofs.Common.{not, rules}
use Rattle.std.proofs.lemmas.Fn.{filter_same}
use Rattle.fx_listen.specs.declared.entries.Listener.{Listener}
use Rattle.fx_store_pairs.specs.Pairs.{is_among}
use Rattle.fx_listen.proofs.entries.forget_all.Goals as goal

pub returns : goal.returns
returns c =
    filter_same _ (λ (listener : Listener). not (is_among c.args.names.now listener.name.0)) _ (λ x b f' k. search rules) _ _
    c.retain.ensures.filtered
