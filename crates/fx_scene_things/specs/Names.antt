-- What the names of a document stand for: a function from names, which each further name changes at that name.
use Rattle.std.specs.Prelude.{ℕ, Bool, List, Option, Some, None, is_some, if◌then◌else◌}
use Rattle.std.specs.Str.{bytes_eq}
use Rattle.fx_scene_things.specs.declared.things.Named.{Named}
use Rattle.fx_scene_things.specs.declared.things.Thing.{Thing}
use Rattle.fx_scene_things.specs.declared.things.Thing.TheVariants as thing

abbrev pub Names : Type 0
Names = List ℕ → Option Thing

abbrev pub nothing : Names
nothing name = None

-- a name stands for something from now on
abbrev pub with_name : Names → List ℕ → Thing → Names
with_name names name one other = if bytes_eq name other then Some one else names other

abbrev pub has_name : Names → List ℕ → Bool
has_name names name = is_some (names name)

abbrev pub node_in : Thing → Option Named
node_in (thing.Node named) = Some named
node_in _ = None

abbrev pub node_if : Option Thing → Option Named
node_if None = None
node_if (Some one) = node_in one

-- the node of a name
abbrev pub node_called : Names → List ℕ → Option Named
node_called names name = node_if (names name)
