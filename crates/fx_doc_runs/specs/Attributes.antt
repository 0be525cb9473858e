-- The names of a tag's attributes.
use Rattle.std.specs.Prelude.{ℕ, List, map, drop}
use Rattle.fx_doc_runs.specs.declared.document.Attribute.{Attribute}

abbrev pub names_of : List Attribute → List (List ℕ)
names_of attributes = map (λ (a : Attribute). a.name) attributes

-- those behind the first eight
abbrev pub later_names : List Attribute → List (List ℕ)
later_names attributes = names_of (drop 8 attributes)
