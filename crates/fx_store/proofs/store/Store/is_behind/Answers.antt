use Rattle.std.proofs.Common.{◌≡◌, ℕ, false, All, subst}
use Rattle.fx_graph_model.specs.Unread.{marked}
use Rattle.fx_store_model.specs.Stored.{Stored, watched_names}
use Rattle.fx_store.specs.Kept.{stored_of}
use Rattle.fx_store.proofs.StoreLemmas.{watched_read}
use Rattle.fx_store.proofs.store.Store.is_behind.Goals as goal

pub returns : goal.returns
returns c none =
    subst (λ (stored : Stored). All (λ (name : ℕ). marked stored.unread name ≡ false) (watched_names stored)) c.self.view_is
    (watched_read (stored_of c.self.inside.graph c.self.inside.pairs c.self.inside.listeners c.self.inside.owners)
    (c.self.invariant.watched none))
