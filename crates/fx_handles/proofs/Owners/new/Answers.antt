use Rattle.std.proofs.Common.{refl}
use Rattle.fx_handles.proofs.Slots.{owners_in-nil, IsKept-nil}
use Rattle.fx_handles.proofs.Owners.new.Goals as goal

pub invariant_of-result : goal.invariant_of-result
invariant_of-result c = rw c.new.ensures.empty IsKept-nil

pub returns : goal.returns
returns c = rw (c.new.ensures.empty, owners_in-nil) refl
