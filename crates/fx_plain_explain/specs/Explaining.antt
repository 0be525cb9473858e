-- The line `explain`: which declaration of a property wins on a node, and by what each other one loses.
use Rattle.std.specs.Prelude.{◌≡◌, ℕ, not, List, [], ◌∷◌, ◌++◌, slice_get, Option, Some, None, Result, Ok, Err, option_to_list}
use Rattle.std.specs.List.{flat_map, position}
use Rattle.std.specs.Option.{option_map_or}
use Rattle.fx_base.specs.declared.keys.NodeKey.{NodeKey}
use Rattle.fx_css_types.specs.declared.sheets.SheetAt.{SheetAt}
use Rattle.fx_explain.specs.Explained.{IsExplained}
use Rattle.fx_explain.specs.declared.explained.Explained.{Explained}
use Rattle.fx_focus.specs.Attached.{is_attached}
use Rattle.fx_kinds.specs.declared.facts.StyleFacts.{StyleFacts}
use Rattle.fx_look.specs.declared.styles.CodeValue.{CodeValue}
use Rattle.fx_plain_steps.specs.Lines.{Step, printing}
use Rattle.fx_select.specs.AllMatching.{matching_of}
use Rattle.fx_select.specs.Chains.{chain}
use Rattle.fx_stage_facts.specs.Attached.{look_cost, looked}
use Rattle.fx_stage_facts.specs.Sheets.{sheets_of}
use Rattle.fx_stage_facts.specs.Styles.{style_facts}
use Rattle.fx_stage_model.specs.Answers.{and_then, unless}
use Rattle.fx_stage_model.specs.Looking.{find_node}
use Rattle.fx_stage_model.specs.World.{World}
use Rattle.fx_stage_text.specs.Printing.{refused_line}
use Rattle.fx_stage_types.specs.Words.{word_of}
use Rattle.fx_stage_types.specs.declared.refusals.Refusal.{Refusal}
use Rattle.fx_stage_types.specs.declared.refusals.Refusal.TheVariants as word
use Rattle.fx_tree.specs.Scene.{is_same}
use Rattle.fx_plain_explain.specs.Ranks.{explanation_lines, source_text}

-- the node of this path, which stands in the scene, or the word for why there is none
unfoldable pub find_attached : World → List (List ℕ) → Result NodeKey Refusal
find_attached world path =
    and_then (find_node world path) (λ (key : NodeKey).
    unless (not (is_attached world.graph.tree key)) word.Parent (Ok key))

-- the place of the node among these
abbrev pub place_of : List StyleFacts → NodeKey → Option ℕ
place_of nodes key = position (λ (node : StyleFacts). is_same node.key key) nodes

-- the values by code of the first of these nodes
abbrev pub codes_of : List StyleFacts → List CodeValue
codes_of [] = []
codes_of (node ∷ above) = node.codes

abbrev pub listed_by : List StyleFacts → List ℕ
listed_by nodes = flat_map (λ (node : StyleFacts). node.sheets) nodes

-- the places of the sheets that the first of these nodes sees: its inline sheet, and those that it and its ancestors
-- list
abbrev pub seen_by : List StyleFacts → List ℕ
seen_by [] = []
seen_by (node ∷ above) = option_to_list node.inline ++ listed_by (node ∷ above)

-- what is told of the property of this name on the node at this place, over these sheets and the facts of these nodes
pub record IsTold (sheets : List SheetAt) (nodes : List StyleFacts) (at : ℕ) (name text : List ℕ) : Type 0 where
  pub told : Explained
  pub explained : IsExplained sheets (matching_of sheets nodes at) (codes_of (chain nodes at)) name told
  pub is : text
      ≡ explanation_lines (source_text sheets (seen_by (chain nodes at)) (matching_of sheets nodes at)) told

-- the same on the node of this key
pub record IsToldOf (sheets : List SheetAt) (nodes : List StyleFacts) (key : NodeKey) (name text : List ℕ)
    : Type 0 where
  pub at : ℕ
  pub there : place_of nodes key ≡ Some at
  pub told : IsTold sheets nodes at name text

-- the line prints what is told of the node of this key; the properties that a frame reads were read for it
pub record IsTelling (name : List ℕ) (world : World) (key : NodeKey) (step : Step) : Type 0 where
  pub text : List ℕ
  pub told : IsToldOf (sheets_of world) (style_facts world) key name text
  pub is : step ≡ printing text (looked world)

abbrev pub IsAnswered : ℕ → List ℕ → World → Result NodeKey Refusal → Step → Type 0
IsAnswered number name world (Ok key) step = IsTelling name world key step
IsAnswered number name world (Err word) step = step ≡ printing (refused_line number (word_of word)) world

-- the line of this number, which asks for a property of the node of this path
abbrev pub IsExplainLine : ℕ → List (List ℕ) → List ℕ → World → Step → Type 0
IsExplainLine number path name world step = IsAnswered number name world (find_attached world path) step

-- how many expressions the line evaluates at most: none where no node is told of
abbrev pub explain_cost : World → Result NodeKey Refusal → ℕ
explain_cost world (Ok key) = look_cost world
explain_cost world (Err word) = 0
