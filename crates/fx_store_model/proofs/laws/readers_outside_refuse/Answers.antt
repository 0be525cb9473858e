use Rattle.fx_store_model.specs.declared.changes.Notices.{Notices}
use Rattle.fx_store_model.proofs.Readers.{forgotten_unread, used_outside}
use Rattle.fx_store_model.proofs.laws.readers_outside_refuse.Goals as goal

pub returns : goal.returns
returns c = λ names entries notices user. (forgotten_unread Notices names entries notices, used_outside Notices names entries user)
