-- The actions that run: by their names, and for listeners that were told.
use Rattle.std.specs.Prelude.{ℕ, ◌-◌, ◌==◌, List, Option, None, option_and_then, slice_get, if◌then◌else◌}
use Rattle.std.specs.List.{find}
use Rattle.std.specs.Map.{lookup}
use Rattle.std.specs.Str.{bytes_eq}
use Rattle.fx_base.specs.declared.keys.Name.{Name}
use Rattle.fx_listen.specs.Listening.{is_numbered}
use Rattle.fx_listen.specs.declared.entries.Listener.{Listener}
use Rattle.fx_script_commands.specs.Requests.{Numbered}
use Rattle.fx_stage_model.specs.World.{World}

-- the lines of the action of this name, if it is defined
abbrev pub action_in : World → List ℕ → Option (List Numbered)
action_in world name = lookup (bytes_eq name) world.names.actions

-- the name of the action that a listener with this tag runs, if it runs one
abbrev pub run_tagged : List (List ℕ) → ℕ → Option (List ℕ)
run_tagged run tag = if tag == 0 then None else slice_get run (tag - 1)

abbrev pub action_tagged : World → ℕ → Option (List Numbered)
action_tagged world tag = option_and_then (action_in world) (run_tagged world.names.run tag)

-- the lines that the listener of this number on the property runs, if it is living and its action is defined
unfoldable pub run_by : World → Name → ℕ → Option (List Numbered)
run_by world name number =
    option_and_then (λ (listener : Listener). action_tagged world listener.tag)
    (find (is_numbered name.0 number) world.store.listeners)
