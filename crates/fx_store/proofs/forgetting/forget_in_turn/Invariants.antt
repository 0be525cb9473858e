use Rattle.std.proofs.Common.{◌≡◌, take}
use Rattle.fx_store.proofs.UnheardLemmas.{without_names}
use Rattle.fx_store.proofs.forgetting.forget_in_turn.Given as goal

abbrev pub invariant-loop-name : goal.invariant-loop-name
invariant-loop-name l = l.listeners ≡ without_names (take l.name-index l.names) l.fn.listeners
