-- A scene has one frame in a window.
use Rattle.std.proofs.Common.{refl, sym, ap, subst, ◌∙◌, ◌≡◌, ℕ, Bool, List, [], ◌∷◌}
use Rattle.std.specs.List.{AllZip}
use Rattle.fx_base.specs.declared.geometry.Rect.{Rect}
use Rattle.fx_base.specs.declared.keys.NodeKey.{NodeKey}
use Rattle.fx_picture.specs.declared.entries.Entry.{Entry}
use Rattle.fx_picture.specs.declared.shapes.Shape.{Shape}
use Rattle.fx_shapes.proofs.DrawingLemmas.{one_drawing}
use Rattle.fx_layout.specs.Updates.{rect_at}
use Rattle.fx_layout.proofs.One.{one_layout}
use Rattle.fx_layout_sweeps.specs.Nodes.{look_at, node_at}
use Rattle.fx_pulse_model.specs.Frames.{IsInItsWindow, OneFrame, drawn_in}
use Rattle.fx_pulse_model.specs.Pictures.{Drawn, IsEntry, IsPicture, shown_places, text_of}
use Rattle.fx_pulse_model.specs.Scenes.{looks_of}
use Rattle.fx_pulse_model.proofs.LayoutLemmas.{in_window, one_size}

make : NodeKey → List ℕ → Rect → List Shape → Bool → Bool → Entry
make key path rect shapes disabled focusable = record {
  key = key;
  path = path;
  rect = rect;
  shapes = shapes;
  disabled = disabled;
  focusable = focusable;
}

one_entry : (d : Drawn) (k : ℕ) (e f : Entry) → IsEntry d k e → IsEntry d k f → e ≡ f
unfolding make
one_entry d k e f one other =
    let shapes = one_drawing (look_at d.looks k) (rect_at d.rects k) (text_of (node_at d.boxes k)) e.shapes f.shapes
    one.shapes other.shapes in
    ap (λ key. make key e.path e.rect e.shapes e.disabled e.focusable) (one.key ∙ sym other.key)
    ∙ (ap (λ path. make f.key path e.rect e.shapes e.disabled e.focusable) (one.path ∙ sym other.path)
    ∙ (ap (λ rect. make f.key f.path rect e.shapes e.disabled e.focusable) (one.rect ∙ sym other.rect)
    ∙ (ap (λ all. make f.key f.path f.rect all e.disabled e.focusable) shapes
    ∙ (ap (λ disabled. make f.key f.path f.rect f.shapes disabled e.focusable) (one.disabled ∙ sym other.disabled)
    ∙ ap (λ focusable. make f.key f.path f.rect f.shapes f.disabled focusable) (one.focusable ∙ sym other.focusable)))))

one_by_one : (d : Drawn) (ks : List ℕ) (es fs : List Entry) → AllZip (IsEntry d) ks es → AllZip (IsEntry d) ks fs
    → es ≡ fs
one_by_one d [] [] [] one other = refl
one_by_one d [] [] (f ∷ fs) one other = absurd other
one_by_one d [] (e ∷ es) fs one other = absurd one
one_by_one d (k ∷ ks) [] fs one other = absurd one
one_by_one d (k ∷ ks) (e ∷ es) [] one other = absurd other
one_by_one d (k ∷ ks) (e ∷ es) (f ∷ fs) (first, one) (second, other) =
    ap (λ g. g ∷ es) (one_entry d k e f first second) ∙ ap (λ gs. f ∷ gs) (one_by_one d ks es fs one other)

pub one_picture : (d : Drawn) (es fs : List Entry) → IsPicture d es → IsPicture d fs → es ≡ fs
one_picture d es fs one other = one_by_one d (shown_places d) es fs one other

pub one_frame : OneFrame
one_frame scene window w h v g rects others picture other is one two =
    let same : one.layout.rects ≡ two.layout.rects =
    one_layout
    (record { nodes = scene.boxes; looks = looks_of scene; window = window; one = one.layout; other = two.layout })
    (record { tree = is.nodes; first = one.laid; second = two.laid }) in
    let size : (w, h) ≡ (v, g) =
    sym one.size ∙ (one_size scene.boxes (looks_of scene) window one.layout two.layout is.some one.laid two.laid same
    ∙ two.size) in
    let rectangles : rects ≡ others = one.rectangles ∙ (same ∙ sym two.rectangles) in (
      ap (λ (s : ℕ × ℕ). s.0) size,
      (
        ap (λ (s : ℕ × ℕ). s.1) size,
        (
          rectangles,
          one_picture (drawn_in scene rects) picture other one.shown
              (subst (λ (rs : List Rect). IsPicture (drawn_in scene rs) other) (sym rectangles) two.shown),
        ),
      ),
    )

pub in_its_window : IsInItsWindow
in_its_window scene window w h rects picture frame = record {
  layout = frame.layout;
  laid = in_window scene.boxes (looks_of scene) window frame.layout w h frame.laid frame.size;
  size = frame.size;
  rectangles = frame.rectangles;
  shown = frame.shown;
}
