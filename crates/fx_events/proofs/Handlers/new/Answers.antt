use Rattle.fx_events.proofs.Limits.{limited_nobody}
use Rattle.fx_events.proofs.Handlers.new.Goals as goal

pub invariant_of-result : goal.invariant_of-result
invariant_of-result c = rw c.new.ensures.empty limited_nobody
