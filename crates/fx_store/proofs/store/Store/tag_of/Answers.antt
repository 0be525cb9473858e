use Rattle.fx_store.proofs.store.Store.tag_of.Goals as goal

pub returns : goal.returns
returns c = rw (← c.self.view_is) c.tag_of.ensures
