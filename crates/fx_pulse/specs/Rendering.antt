-- What is kept of the last frame.
use Rattle.std.specs.Prelude.{◌≡◌, ℕ, [], List, Option, Some, None, IfSome}
use Rattle.std.specs.Option.{option_map}
use Rattle.fx_base.specs.declared.geometry.Rect.{Rect}
use Rattle.fx_canvas.specs.Surfaces.{Surface}
use Rattle.fx_canvas_laws.specs.Frames.{Shows}
use Rattle.fx_picture.specs.Entries.{HasDistinctBirths, Rises}
use Rattle.fx_picture.specs.declared.entries.Entry.{Entry}
use Rattle.fx_layout.specs.Layouts.{IsLayout}
use Rattle.fx_layout.specs.Updates.{root_size}
use Rattle.fx_pulse_kept.specs.Keeping.{Keeping}
use Rattle.fx_pulse_model.specs.Frames.{Framed, IsFrame}
use Rattle.fx_pulse_model.specs.Scenes.{Scene, looks_of}
use Rattle.fx_pulse.specs.Editing.{IsShownScene}
use Rattle.fx_pulse.specs.declared.frames.Before.{Before}
use Rattle.fx_pulse.specs.declared.renderer.Drawing.{Drawing}

-- the canvas, if there was a frame, the last picture, the rectangle of each node of its scene, in order, and what is
-- kept of the last scene
pub record Rendering : Type 0 where
  pub canvas : Option Surface
  pub picture : List Entry
  pub rects : List Rect
  pub kept : Keeping

-- the last frame, if there was one
abbrev pub last_frame : Rendering → Option Framed
last_frame r =
    option_map (λ (s : Surface). record { width = s.width; height = s.height; picture = r.picture }) r.canvas

-- before the first frame there is nothing to show
abbrev pub no_surface : Surface
no_surface = record { width = 0; height = 0; rows = [] }

abbrev pub surface_of : Option Surface → Surface
surface_of None = no_surface
surface_of (Some s) = s

-- the canvas shows the picture, whose entries rise and have different birth numbers
pub record IsShown (r : Rendering) : Type 0 where
  pub shows : Shows (surface_of r.canvas) r.picture
  pub rises : Rises r.picture
  pub births : HasDistinctBirths r.picture

-- the last picture is the frame of a scene in a window, on a canvas as large as the root, and what is kept of the
-- layout is the scene's
pub record IsDrawn (r : Rendering) (scene : Scene) (window : Option (ℕ × ℕ)) : Type 0 where
  pub frame : IsFrame scene window (surface_of r.canvas).width (surface_of r.canvas).height r.rects r.picture
  pub size : root_size r.kept.layout ≡ ((surface_of r.canvas).width, (surface_of r.canvas).height)
  pub placed : IsLayout scene.boxes (looks_of scene) window r.kept.layout

-- the last picture was drawn so: it is the frame of the scene that is kept in this window, and of each node of the
-- scene it is told whether it shows; without one nothing is said
abbrev pub IsCurrent : Option Drawing → Rendering → Type 0
IsCurrent drawn r =
    IfSome drawn (λ (d : Drawing). IfSome r.kept.last (λ (scene : Scene).
    IsDrawn r scene d.window × IsShownScene scene r.picture d.shown.items))

-- the frame before, if there is one, is as large as the canvas, and what shows in it is known
abbrev pub IsDrawnBefore : Option Drawing → Option Surface → Option Before → Type 0
IsDrawnBefore drawn canvas None = Unit {0}
IsDrawnBefore None canvas (Some b) = ⊥
IsDrawnBefore (Some d) None (Some b) = ⊥
IsDrawnBefore (Some d) (Some s) (Some b) = (b.shown.now ≡ d.shown.items) × (b.width ≡ s.width) × (b.height ≡ s.height)
