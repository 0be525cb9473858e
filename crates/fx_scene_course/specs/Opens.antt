-- A document that is being read, and the document of an include in it.
use Rattle.std.specs.Prelude.{ℕ, not, ◌&&◌, List, [], ◌∷◌, ◌++◌, codes, Option, Some, None, if◌then◌else◌}
use Rattle.fx_doc_grammar.specs.Grammar.{Attr, Reading}
use Rattle.fx_scene_bindings.specs.Names.{value_at}
use Rattle.fx_scene_plan.specs.declared.steps.PlannedStep.{PlannedStep}
use Rattle.fx_scene_plan.specs.declared.steps.PlannedStep.TheVariants as planned
use Rattle.fx_scene_read.specs.Opening.{stand_step}
use Rattle.fx_scene_read.specs.declared.opening.Stand.{Stand}
use Rattle.fx_scene_read.specs.declared.opening.Stand.TheVariants as stand
use Rattle.fx_scene_things.specs.Names.{Names, has_name}
use Rattle.fx_scene_things.specs.Settled.{Settled}
use Rattle.fx_scene_values.specs.Scopes.{Scope, scope_of}
use Rattle.fx_text.specs.Classes.{is_identifier}

-- the number and the name of its file, its imports, the names of the files that are open, itself among them, the path
-- behind which scripts name its nodes, if they can, and where its root comes to stand
pub record Open : Type 0 where
  pub file : ℕ
  pub name : List ℕ
  pub imports : List (List ℕ)
  pub around : List (List ℕ)
  pub path : Option (List (List ℕ))
  pub stand : Stand

-- what its texts are read with, where these nodes of definitions within a value were read
abbrev pub scope_in : Open → List Settled → Scope
scope_in here settled = scope_of here.name here.imports settled

-- the document of the scene itself
abbrev pub outermost : ℕ → List ℕ → Reading → Open
outermost file name document =
    record {
      file = file;
      name = name;
      imports = document.imports;
      around = name ∷ [];
      path = Some [];
      stand = stand.Root;
    }

-- nodes of an included document are named behind the name of its root, if that is one that nothing else has

abbrev pub path_if : Names → Option (List (List ℕ)) → Option (List ℕ) → Option (List (List ℕ))
path_if names (Some front) (Some name) =
    if is_identifier name && not (has_name names name) then Some (front ++ (name ∷ [])) else None
path_if names _ _ = None

abbrev pub inner_path : Open → Names → List Attr → Option (List (List ℕ))
inner_path here names attributes = path_if names here.path (value_at attributes (codes "fx:id"))

-- the document of an include, in the file of this number and name, whose root comes to stand there
abbrev pub inner : Open → Names → List Attr → Stand → ℕ → List ℕ → Reading → Open
inner here names attributes stand file name document =
    record {
      file = file;
      name = name;
      imports = document.imports;
      around = here.around ++ (name ∷ []);
      path = inner_path here names attributes;
      stand = stand;
    }

-- a step that a document asks for, as it is taken

abbrev pub named_in : ℕ → List (List ℕ) → Option (List (List ℕ)) → Option PlannedStep
named_in node path None = None
named_in node path (Some front) = Some (planned.Named node (front ++ path))

unfoldable pub step_in : Open → PlannedStep → Option PlannedStep
step_in here (planned.Named node path) = named_in node path here.path
step_in here (planned.Root node) = stand_step here.stand node
step_in here other = Some other
