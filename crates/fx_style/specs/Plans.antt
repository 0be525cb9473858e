-- An update on its way: what is kept, and what was made so far.
use Rattle.std.specs.Prelude.{ℕ, ◌≡◌, ◌<◌, Bool, true, false, List, [], ◌∷◌, length, slice_get, slice_index_or, slice_set, Option, Some, None}
use Rattle.std.specs.Option.{option_map}
use Rattle.fx_node_style.specs.declared.node_styles.NodeStyle.{NodeStyle}
use Rattle.fx_style.specs.declared.above.Plan.{Plan}
use Rattle.fx_style.specs.declared.above.Seen.{Seen}
use Rattle.fx_style.specs.declared.kept.Entry.{Entry}
use Rattle.fx_style.specs.declared.kept.Fresh.{Fresh}
use Rattle.fx_style.specs.Kept.{fresh_at, planned_at, style_of_entry}

-- what stands behind the references
abbrev pub seen_style : Seen → NodeStyle
seen_style s = record { look = s.look.now; paints = s.paints.now }

-- the style of a place as far as the update has come
abbrev pub plan_style : Plan → ℕ → Option NodeStyle
plan_style plan at = style_of_entry (planned_at plan.looks.now plan.rest.now plan.fresh.now at)

abbrev pub step_entry : List Fresh → Option ℕ → Option Entry
step_entry fresh None = None
step_entry fresh (Some step) = option_map (λ (f : Fresh). f.entry) (slice_get fresh step)

-- the steps say where the entry of each place stands among the fresh ones, if it has one
abbrev pub AreSteps : List Fresh → List (Option ℕ) → Type 0
AreSteps fresh steps =
    (at : ℕ) → at < length steps → fresh_at fresh at ≡ step_entry fresh (slice_index_or steps at None)

-- the draft where it was made a style, else none
abbrev pub drafted : Bool → NodeStyle → Option NodeStyle
drafted false draft = None
drafted true draft = Some draft

-- an entry for a place, if it has one
abbrev pub made_fresh : ℕ → Option Entry → List Fresh
made_fresh at None = []
made_fresh at (Some entry) = record { at = at; entry = entry } ∷ []

-- the steps once the entry of a place, if it has one, stands behind so many
abbrev pub put_step : List (Option ℕ) → ℕ → Option Entry → ℕ → List (Option ℕ)
put_step steps at None count = steps
put_step steps at (Some entry) count = slice_set steps at (Some count)
