-- The next picture, whole or by edits of the last one.
use Rattle.std.specs.Prelude.{◌≡◌, ℕ, ◌<◌, ◌++◌, ◌∷◌, [], Bool, false, List, length, slice_index_or, Option, Some, None, IfSome}
use Rattle.fx_base.specs.declared.geometry.Rect.{Rect}
use Rattle.fx_damage.specs.Edits.{AreEdits, edited}
use Rattle.fx_damage.specs.declared.edits.Edit.{Edit}
use Rattle.fx_layout_sweeps.specs.Marks.{flag_in}
use Rattle.fx_layout_sweeps.specs.Nodes.{look_at, node_at, parents}
use Rattle.fx_picture.specs.declared.entries.Entry.{Entry}
use Rattle.fx_pulse_model.specs.Frames.{drawn_in}
use Rattle.fx_pulse_model.specs.Pictures.{Drawn, IsEntry, IsPicture, shown_places, shows}
use Rattle.fx_pulse_model.specs.Scenes.{Scene}
use Rattle.fx_pulse_kept.specs.Measuring.{AreOthersMarked}
use Rattle.fx_pulse_touched.specs.Marks.{told}
use Rattle.fx_pulse.specs.Drawing.{shown_below}
use Rattle.fx_pulse.specs.declared.frames.Before.{Before}
use Rattle.fx_pulse.specs.declared.frames.Next.{Next}
use Rattle.fx_pulse.specs.declared.frames.Next.TheVariants as next

-- whether each node shows
abbrev pub shown_in : Drawn → List Bool
shown_in d = told (shows d) (length d.boxes)

-- The entries are those of a scene, and of each of its nodes it is told whether it shows.
pub record IsShownScene (scene : Scene) (olds : List Entry) (flags : List Bool) : Type 0 where
  pub rects : List Rect
  pub picture : IsPicture (drawn_in scene rects) olds
  pub shown : flags ≡ shown_in (drawn_in scene rects)

-- there was a scene whose nodes hung as those of this one do
abbrev pub HangsAs : Option Scene → Scene → Type 0
HangsAs None scene = ⊥
HangsAs (Some last) scene = parents last.boxes ≡ parents scene.boxes

-- It is marked what changed since some scene, if there was one, and the frame before, if there is one, shows that one,
-- whose nodes hung as these do.
pub record IsSince (before : Option Before) (olds : List Entry) (scene : Scene) (marks : List Bool) : Type 0 where
  pub last : Option Scene
  pub marked : AreOthersMarked last scene marks
  pub hung : IfSome before (λ (b : Before). HangsAs last scene)
  pub shown : IfSome before (λ (b : Before). (old : Scene) → last ≡ Some old → IsShownScene old olds b.shown.now)

-- The entries are of nodes that hang and show as these do, and each of these that isn't marked had the facts for layout
-- and the look that it has now.
pub record AreLast (d : Drawn) (marks : List Bool) (olds : List Entry) : Type 0 where
  pub last : Drawn
  pub picture : IsPicture last olds
  pub hung : parents last.boxes ≡ parents d.boxes
  pub shown : shown_places last ≡ shown_places d
  pub same : (k : ℕ) → k < length d.boxes → flag_in marks k ≡ false
      → (node_at last.boxes k ≡ node_at d.boxes k) × (look_at last.looks k ≡ look_at d.looks k)

-- The edits so far put the entries of the nodes that show before a place, of which there are so many, where those of
-- the last picture stood.
pub record IsEditedUpTo (d : Drawn) (olds : List Entry) (place : ℕ) (edits : List Edit) (count : ℕ) : Type 0 where
  pub counted : count ≡ length (shown_below d place)
  pub within : AreEdits edits count
  pub made : (i : ℕ) → i < count → (e : Entry)
      → IsEntry d (slice_index_or (shown_places d) i 0) (slice_index_or (edited edits olds) i e)

-- one edit was added: the entry of a node, for this place of the picture
pub record IsAdded (d : Drawn) (k at : ℕ) (before after : List Edit) : Type 0 where
  pub entry : Entry
  pub is : IsEntry d k entry
  pub added : after ≡ before ++ record { place = at; entry = entry } ∷ []

-- ---- the next picture
-- its entries, where these are those of the last one
abbrev pub entries_after : Next → List Entry → List Entry
entries_after (next.Whole picture) olds = picture.entries
entries_after (next.Edited edits) olds = edited edits olds

-- edits are of entries that the last picture has
abbrev pub IsOver : List Entry → Next → Type 0
IsOver olds (next.Whole picture) = Unit {0}
IsOver olds (next.Edited edits) = AreEdits edits (length olds)

-- edits are only of a frame of the same size
abbrev pub IsOfSize : Option Before → ℕ → ℕ → Next → Type 0
IsOfSize before w h (next.Whole picture) = Unit {0}
IsOfSize None w h (next.Edited edits) = ⊥
IsOfSize (Some b) w h (next.Edited edits) = (b.width ≡ w) × (b.height ≡ h)

-- the frame before is of this size, and the same nodes show in it
abbrev pub IsEditable : Option Before → ℕ → ℕ → List Bool → Type 0
IsEditable None w h shown = ⊥
IsEditable (Some b) w h shown = (b.width ≡ w) × (b.height ≡ h) × (b.shown.now ≡ shown)

-- there are no edits
abbrev pub IsWhole : Next → Type 0
IsWhole (next.Whole picture) = Unit {0}
IsWhole (next.Edited edits) = ⊥
