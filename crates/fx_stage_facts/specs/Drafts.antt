-- The lists of a frame's facts while they are made.
use Rattle.std.specs.Prelude.{ℕ, ◌≡◌, ◌≤◌, Bool, true, false, List, [], ◌∷◌, ◌++◌, drop, length, map, take}
use Rattle.std.specs.List.{flat_map}
use Rattle.fx_base.specs.declared.keys.NodeKey.{NodeKey}
use Rattle.fx_stage_model.specs.World.{World}
use Rattle.fx_stage_facts.specs.declared.drafts.Draft.{Draft}
use Rattle.fx_stage_facts.specs.declared.drafts.Standing.{Standing}
use Rattle.fx_stage_facts.specs.declared.stands.Stand.{Stand}
use Rattle.fx_stage_facts.specs.Boxes.{box_at}
use Rattle.fx_stage_facts.specs.Reads.{AreRead, IsReadAt}
use Rattle.fx_stage_facts.specs.Sheets.{common_sheets, sheets_at}
use Rattle.fx_stage_facts.specs.Stands.{keys_of, stand_of, stands_from}
use Rattle.fx_stage_facts.specs.Styles.{style_at, styles_from}
use Rattle.fx_stage_facts.specs.Values.{is_set_disabled}

-- these are the sheets and the facts of these nodes
pub record IsDraft (world : World) (stands : List Stand) (draft : Draft) : Type 0 where
  pub sheets : draft.sheets ≡ common_sheets world.graph ++ flat_map (sheets_at world.graph) stands
  pub styles : draft.styles ≡ styles_from world (length (common_sheets world.graph)) stands
  pub boxes : draft.boxes ≡ map (box_at world) stands

-- the node of this key stands behind the others, with its facts
pub record IsNext (world : World) (key : NodeKey) (before now : Standing) (old new : Draft) : Type 0 where
  pub stands : now.stands.items ≡ before.stands.items ++ stand_of world before.stands.items key ∷ []
  pub marks : now.marks.items ≡ before.marks.items ++ is_set_disabled world key ∷ []
  pub sheets : new.sheets ≡ old.sheets ++ sheets_at world.graph (stand_of world before.stands.items key)
  pub styles : new.styles
      ≡ old.styles ++ style_at world (length old.sheets) (stand_of world before.stands.items key) ∷ []
  pub boxes : new.boxes ≡ old.boxes ++ box_at world (stand_of world before.stands.items key) ∷ []

-- a node is put behind the others, of which nothing is unread that a frame reads, or nothing is changed
abbrev pub IsPut : Bool → World → NodeKey → Standing → Standing → Draft → Draft → Type 0
IsPut true world key before now old new = IsNext world key before now old new × IsReadAt world key
IsPut false world key before now old new = (now ≡ before) × (new ≡ old)

-- these are the facts of the nodes up to this place, of which nothing is unread that a frame reads
pub record ReachTo (world : World) (keys : List NodeKey) (place : ℕ) (standing : Standing) (draft : Draft)
    : Type 0 where
  pub within : place ≤ length keys
  pub left : stands_from world standing.stands.items (drop place keys) ≡ stands_from world [] keys
  pub whole : keys_of standing.stands.items ++ drop place keys ≡ keys
  pub marks : standing.marks.items ≡ map (is_set_disabled world) (take place keys)
  pub facts : IsDraft world standing.stands.items draft
  pub read : AreRead world (take place keys)
