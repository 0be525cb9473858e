-- Under what a selector is listed: what a node must have for the selector's last compound to fit it.
use Rattle.std.specs.Prelude.{ℕ, Bool, true, false, List, [], ◌∷◌, reverse, Option, Some, None}
use Rattle.std.specs.Str.{bytes_eq}
use Rattle.fx_css_types.specs.declared.selectors.Compound.{Compound}
use Rattle.fx_css_types.specs.declared.selectors.Selector.{Selector}

pub data Key : Type 0 where
  ById : List ℕ → Key
  ByClass : List ℕ → Key
  ByKind : List ℕ → Key
  InRest : Key

abbrev pub is_same_key : Key → Key → Bool
is_same_key (ById one) (ById other) = bytes_eq one other
is_same_key (ByClass one) (ByClass other) = bytes_eq one other
is_same_key (ByKind one) (ByKind other) = bytes_eq one other
is_same_key InRest InRest = true
is_same_key _ _ = false

-- the first id, else the first class, else the type, else the rest
abbrev pub key_by : List (List ℕ) → List (List ℕ) → Option (List ℕ) → Key
key_by (id ∷ ids) classes kind = ById id
key_by [] (class ∷ classes) kind = ByClass class
key_by [] [] (Some kind) = ByKind kind
key_by [] [] None = InRest

abbrev pub key_of_compound : Compound → Key
key_of_compound compound = key_by compound.ids compound.classes compound.kind

-- the last compound comes first here
abbrev pub key_of_last : List Compound → Key
key_of_last [] = InRest
key_of_last (last ∷ before) = key_of_compound last

abbrev pub key_of : Selector → Key
key_of selector = key_of_last (reverse selector.compounds)
