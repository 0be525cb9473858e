use Rattle.fx_store.proofs.KeepLemmas.{read_rest, reading_some}
use Rattle.fx_store.proofs.Lasting.{kept_some_read}
use Rattle.fx_store.proofs.store.Store.read.Goals as goal

pub invariant_of-self-2 : goal.invariant_of-self-2
invariant_of-self-2 g c =
    kept_some_read _ _ _ _ _ _ c.self.invariant (reading_some c.args.name.0 _ _ c.in_ok-value.ensures.ok)

pub returns-in_err-value-clause-rest : goal.returns-in_err-value-clause-rest
returns-in_err-value-clause-rest g c =
    rw (← c.self.view_is)
    (read_rest c.self.inside.graph c.read.new.self c.self.inside.pairs c.self.inside.listeners c.self.inside.owners
    c.read.ensures.entries)

pub returns-clause-rest : goal.returns-clause-rest
returns-clause-rest g c =
    rw (← c.self.view_is)
    (read_rest c.self.inside.graph c.read.new.self c.self.inside.pairs c.self.inside.listeners c.self.inside.owners
    c.read.ensures.entries)
