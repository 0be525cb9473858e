-- What lies under a list of names.
use Rattle.std.specs.Prelude.{ℕ, List, [], ◌∷◌}
use Rattle.fx_css_types.specs.declared.names.Held.{Held}
use Rattle.fx_css_types.specs.declared.names.Held.TheVariants.{Nowhere, One, Many}

-- the names in their order
abbrev pub held_names : Held → List (List ℕ)
held_names Nowhere = []
held_names (One name) = name ∷ []
held_names (Many names) = names
