use Rattle.std.proofs.Common.{◌∙◌}
use Rattle.fx_store.proofs.UnheardLemmas.{unheard_same, unpaired_same}
use Rattle.fx_store.proofs.forgetting.forget_parts.Goals as goal

pub returns-clause-pairs : goal.returns-clause-pairs
returns-clause-pairs c =
    (rw c.as_slice.ensures.value at c.forget.ensures) ∙ unpaired_same c.args.names.items c.rise.new.names.items c.rise.ensures c.args.pairs.now

pub returns-clause-listeners : goal.returns-clause-listeners
returns-clause-listeners c =
    (rw c.as_slice-2.ensures.value at c.forget_listeners.ensures)
    ∙ unheard_same c.args.names.items c.rise.new.names.items c.rise.ensures c.args.listeners.now
