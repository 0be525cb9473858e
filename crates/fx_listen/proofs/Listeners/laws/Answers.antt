use Rattle.fx_listen.proofs.Listeners.laws.Goals as goal

pub returns : goal.returns
returns c = rw (← c.self.view_is) c.self.invariant
