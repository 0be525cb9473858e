-- The frame of a scene in a window, and what it damages of the last one.
use Rattle.std.specs.Prelude.{◌≡◌, ℕ, Bool, false, ◌&&◌, List, Option, Some, None, nat_eq, if◌then◌else◌}
use Rattle.std.specs.Option.{option_map}
use Rattle.fx_base.specs.declared.geometry.Rect.{Rect}
use Rattle.fx_damage.specs.Damage.{damage}
use Rattle.fx_layout.specs.Layouts.{IsLayout}
use Rattle.fx_layout.specs.Updates.{Kept, root_size}
use Rattle.fx_picture.specs.declared.entries.Entry.{Entry}
use Rattle.fx_pulse_model.specs.Pictures.{Drawn, IsPicture}
use Rattle.fx_pulse_model.specs.Scenes.{IsScene, Scene, looks_of}

-- a scene in its looks from nothing, with these rectangles
abbrev pub drawn_in : Scene → List Rect → Drawn
drawn_in scene rects =
    record { boxes = scene.boxes; looks = looks_of scene; rects = rects; disabled = scene.disabled }

-- A picture of so many pixels is that of a scene in a window: the nodes have their looks from nothing and stand where
-- their layout from nothing puts them. Without a window, it is as large as its root, which has its preferred size
-- within 1 to 2,048 pixels each way.
pub record IsFrame (scene : Scene) (window : Option (ℕ × ℕ)) (width height : ℕ) (rects : List Rect)
    (picture : List Entry) : Type 0 where
  pub layout : Kept
  pub laid : IsLayout scene.boxes (looks_of scene) window layout
  pub size : root_size layout ≡ (width, height)
  pub rectangles : rects ≡ layout.rects
  pub shown : IsPicture (drawn_in scene rects) picture

-- a picture of a window of this size
pub record Framed : Type 0 where
  pub width : ℕ
  pub height : ℕ
  pub picture : List Entry

-- there was a frame, in a window of this size
abbrev pub has_size : Option Framed → ℕ → ℕ → Bool
has_size None width height = false
has_size (Some last) width height = nat_eq last.width width && nat_eq last.height height

-- the last picture, if there was one and its window had this size
abbrev pub last_picture : Option Framed → ℕ → ℕ → Option (List Entry)
last_picture last width height =
    if has_size last width height then option_map (λ (f : Framed). f.picture) last else None

-- what a picture damages of the last one
abbrev pub frame_damage : Option Framed → List Entry → ℕ → ℕ → List Rect
frame_damage last picture width height = damage (last_picture last width height) picture width height

-- a scene has one size, rectangles and picture in a window
abbrev pub OneFrame : Type 0
OneFrame = (scene : Scene) (window : Option (ℕ × ℕ)) (w h v g : ℕ) (rects others : List Rect)
    (picture other : List Entry) → IsScene scene
    → IsFrame scene window w h rects picture → IsFrame scene window v g others other
    → (w ≡ v) × ((h ≡ g) × ((rects ≡ others) × (picture ≡ other)))

-- the frame without a window is that of the window of its size
abbrev pub IsInItsWindow : Type 0
IsInItsWindow = (scene : Scene) (window : Option (ℕ × ℕ)) (w h : ℕ) (rects : List Rect) (picture : List Entry)
    → IsFrame scene window w h rects picture → IsFrame scene (Some (w, h)) w h rects picture
