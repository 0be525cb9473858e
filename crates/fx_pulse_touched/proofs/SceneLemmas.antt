-- A scene of the shape of the last one.
use Rattle.std.proofs.Common.{refl, sym, ap, ◌∙◌, ◌≡◌, ℕ, ◌<◌, Bool, false, List, [], ◌∷◌, length, Some, unwrap_or, arith}
use Rattle.std.specs.Prelude.{slice_get}
use Rattle.std.specs.List.{list_any}
use Rattle.std.proofs.lemmas.List.{ext_get_or, length-map}
use Rattle.std.proofs.lemmas.Option.{unwrap_or-slice_get}
use Rattle.fx_css_types.specs.declared.sheets.SheetAt.{SheetAt}
use Rattle.fx_kinds.specs.declared.facts.BoxFacts.{BoxFacts}
use Rattle.fx_kinds.specs.declared.facts.StyleFacts.{StyleFacts}
use Rattle.fx_layout_sweeps.specs.Nodes.{keys, parents}
use Rattle.fx_pulse_model.specs.Scenes.{IsScene, Scene}
use Rattle.fx_pulse_touched.specs.Touched.{AreTouched, HaveOneShape}
use Rattle.fx_pulse_touched.proofs.NoneLemmas.{none_set, none_told}

as_many : (scene : Scene) → IsScene scene → length scene.styles ≡ length scene.boxes
as_many scene is =
    sym (length-map scene.styles (λ (n : StyleFacts). n.key))
    ∙ (ap length is.keys ∙ length-map scene.boxes (λ (n : BoxFacts). n.key))

pub boxes_long : (last scene : Scene) → HaveOneShape last scene → length last.boxes ≡ length scene.boxes
boxes_long last scene shape =
    sym (length-map last.boxes (λ (n : BoxFacts). n.key))
    ∙ (ap length shape.keys ∙ length-map scene.boxes (λ (n : BoxFacts). n.key))

pub styles_long : (last scene : Scene) → IsScene last → IsScene scene → HaveOneShape last scene
    → length last.styles ≡ length scene.styles
styles_long last scene was is shape =
    as_many last was ∙ (boxes_long last scene shape ∙ sym (as_many scene is))

-- ---- where no node is marked
same_lists : {A : Type 0} (olds nows : List A) → length olds ≡ length nows
    → ((k : ℕ) → k < length nows → slice_get olds k ≡ slice_get nows k) → olds ≡ nows
same_lists [] [] long same = refl
same_lists [] (y ∷ ys) long same = absurd (omega (arith, long))
same_lists (x ∷ xs) [] long same = absurd (omega (arith, long))
same_lists (x ∷ xs) (y ∷ ys) long same =
    ext_get_or x (x ∷ xs) (y ∷ ys) long
    (λ i within.
    sym (unwrap_or-slice_get (x ∷ xs) i x)
    ∙ (ap (λ o. unwrap_or o x) (same i (omega (arith, within, long))) ∙ unwrap_or-slice_get (y ∷ ys) i x))

same_fields : (a b : Scene) → a.sheets ≡ b.sheets → a.styles ≡ b.styles → a.boxes ≡ b.boxes
    → a.disabled ≡ b.disabled → a ≡ b
same_fields a b one two three four =
    ap (λ l. made l a.styles a.boxes a.disabled) one
    ∙ (ap (λ l. made b.sheets l a.boxes a.disabled) two
    ∙ (ap (λ l. made b.sheets b.styles l a.disabled) three ∙ ap (made b.sheets b.styles b.boxes) four))
  where
    made : List SheetAt → List StyleFacts → List BoxFacts → List Bool → Scene
    made sheets styles boxes disabled =
        record { sheets = sheets; styles = styles; boxes = boxes; disabled = disabled }

pub same_scene : (last scene : Scene) (styles boxes : List Bool) → IsScene last → IsScene scene
    → HaveOneShape last scene → AreTouched (Some last) scene styles boxes
    → list_any (λ mark. mark) styles ≡ false → list_any (λ mark. mark) boxes ≡ false
    → last.disabled ≡ scene.disabled → last ≡ scene
same_scene last scene styles boxes was is shape touched no_style no_box flags =
    same_fields last scene shape.sheets
    (same_lists last.styles scene.styles (styles_long last scene was is shape)
    (λ k within. ((touched.styled k within).0 (none_set styles no_style k)).1))
    (same_lists last.boxes scene.boxes (boxes_long last scene shape)
    (λ k within. ((touched.laid k within).0 (none_set boxes no_box k)).1))
    flags

-- the same scene is of the same shape
pub shape_of_same : (last scene : Scene) → last ≡ scene → HaveOneShape last scene
shape_of_same last scene same =
    record {
      sheets = ap (λ (s : Scene). s.sheets) same;
      keys = ap (λ (s : Scene). keys s.boxes) same;
      parents = ap (λ (s : Scene). parents s.boxes) same;
    }

-- and no node of it is marked
pub same_unmarked : (last scene : Scene) (styles boxes : List Bool) → AreTouched (Some last) scene styles boxes
    → last ≡ scene → (list_any (λ mark. mark) styles ≡ false) × (list_any (λ mark. mark) boxes ≡ false)
same_unmarked last scene styles boxes touched same =
    let shape = shape_of_same last scene same in (
      none_told styles
          (λ k within. (touched.styled k (omega (arith, within, touched.each_style))).1
          (shape, ap (λ (s : Scene). slice_get s.styles k) same)),
      none_told boxes
          (λ k within. (touched.laid k (omega (arith, within, touched.each_box))).1
          (shape, ap (λ (s : Scene). slice_get s.boxes k) same)),
    )
