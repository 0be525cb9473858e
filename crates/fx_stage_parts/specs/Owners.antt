-- Owners by their labels.
use Rattle.std.specs.Prelude.{ℕ, Bool, false, List, Some}
use Rattle.std.specs.Map.{lookup}
use Rattle.std.specs.Option.{option_map_or}
use Rattle.std.specs.Str.{bytes_eq}
use Rattle.fx_handles.specs.declared.Owner.{Owner}
use Rattle.fx_listen.specs.Listening.{has_life}

-- the label is that of an owner that is among the living
abbrev pub is_label_living : List (List ℕ × Owner) → List Owner → List ℕ → Bool
is_label_living labels living label =
    option_map_or (λ (owner : Owner). has_life living (Some owner)) (lookup (bytes_eq label) labels) false
