-- Which names have listeners, be they dead.
use Rattle.std.specs.Prelude.{◌==◌, nat_lt, Bool, length, filter}
use Rattle.fx_base.specs.declared.keys.Name.{Name}
use Rattle.fx_listen.specs.declared.entries.Listener.{Listener}
use Rattle.fx_listen.specs.Listening.{Table}

unfoldable pub has_listeners : Table → Name → Bool
has_listeners table name =
    nat_lt 0 (length (filter (λ (listener : Listener). listener.name.0 == name.0) table.entries))
