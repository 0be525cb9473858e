use Rattle.std.proofs.Common.{◌≡◌, take}
use Rattle.fx_listen.specs.Listening.{living_in}
use Rattle.fx_base.specs.Names.{numbers}
use Rattle.fx_store.specs.Watching.{heard_on}
use Rattle.fx_store.proofs.watching.listeners_on.Given as goal

abbrev pub invariant-loop-name : goal.invariant-loop-name
invariant-loop-name l =
    l.heard.items ≡ heard_on l.kind (numbers (take l.name-index l.names)) (living_in l.owners.living l.listeners.entries)
