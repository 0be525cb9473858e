use Rattle.fx_events.proofs.Handlers.laws.Goals as goal

pub returns : goal.returns
returns c = rw (← c.self.view_is) c.self.invariant
