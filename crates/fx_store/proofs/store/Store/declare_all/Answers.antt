use Rattle.std.proofs.Common.{subst}
use Rattle.fx_store_model.specs.Stored.{Stored}
use Rattle.fx_store.specs.Kept.{stored_of}
use Rattle.fx_store.specs.Together.{AreFirstStored}
use Rattle.fx_store.proofs.Rows.{kept_first, stored_first, stored_ok}
use Rattle.fx_store.proofs.store.Store.declare_all.Goals as goal

pub invariant_of-self : goal.invariant_of-self
invariant_of-self g c =
    kept_first (g.R.Rows.rows c.args.rows.now) c.self.inside.graph c.declare_all.new.self c.self.inside.pairs c.self.inside.listeners
    c.self.inside.owners c.self.inside.behind c.declare_all.ensures.first c.self.invariant

pub returns-clause-ok : goal.returns-clause-ok
returns-clause-ok g c =
    stored_ok c.declare_all.result (g.R.Rows.rows c.args.rows.now) c.self.inside.graph c.declare_all.new.self c.self.inside.pairs
    c.self.inside.listeners c.self.inside.owners c.args.self.now c.self.view_is c.declare_all.ensures.ok

pub returns-clause-first : goal.returns-clause-first
returns-clause-first g c =
    subst
    (λ (stored : Stored). AreFirstStored (g.R.Rows.rows c.args.rows.now) stored
    (stored_of c.declare_all.new.self c.self.inside.pairs c.self.inside.listeners c.self.inside.owners))
    c.self.view_is
    (stored_first (g.R.Rows.rows c.args.rows.now) c.self.inside.graph c.declare_all.new.self c.self.inside.pairs
    c.self.inside.listeners c.self.inside.owners c.declare_all.ensures.first)
