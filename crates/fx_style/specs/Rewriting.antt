-- Lengths that bindings give, written into the looks that are kept, where they stand.
use Rattle.std.specs.Prelude.{ℕ, Bool, false, List, slice_get, slice_index_or, Option, Some, None, if◌then◌else◌}
use Rattle.std.specs.Option.{option_map}
use Rattle.fx_look.specs.declared.looks.Look.{Look}
use Rattle.fx_kinds.specs.declared.facts.StyleFacts.{StyleFacts}
use Rattle.fx_node_style.specs.Recoding.{with_bound}

-- the look of a place with the lengths that bindings give to its node, if there is one
abbrev pub bound_at : Option StyleFacts → Look → Look
bound_at None look = look
bound_at (Some node) look = with_bound node.codes look

-- what stands at a place once the lengths of the marked ones are written
abbrev pub rewritten_at : List Bool → List StyleFacts → List Look → ℕ → Option Look
rewritten_at marks facts looks at =
    if slice_index_or marks at false then option_map (bound_at (slice_get facts at)) (slice_get looks at)
    else slice_get looks at
