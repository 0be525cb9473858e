-- What is kept of a listener beside the store.
use Rattle.std.specs.Prelude.{ℕ, ◌+◌, ◌&&◌, Bool, nat_lt, List, [], ◌∷◌, ◌++◌, Option, option_to_list, if◌then◌else◌}
use Rattle.fx_listen.specs.declared.entries.Listener.{Listener}
use Rattle.fx_stage_model.specs.World.{is_listening}

-- there is a listener of the number behind this one
abbrev pub has_listener_behind : ℕ → List Listener → Bool
has_listener_behind given listeners = nat_lt given 4294967295 && is_listening listeners (given + 1)

-- what is kept of a listener, if it is there
abbrev pub run_if : Bool → Option (List ℕ) → List (List ℕ) → List (List ℕ)
run_if there runs run = if there then run ++ option_to_list runs else run

abbrev pub written_if : Bool → ℕ → List (List ℕ) → List (ℕ × List (List ℕ))
    → List (ℕ × List (List ℕ))
written_if there given asked written = if there then written ++ (given + 1, asked) ∷ [] else written
