-- The last picture is of nodes that hang and show as those of the scene, where it can be edited.
use Rattle.std.proofs.Common.{refl, sym, ap, subst, ◌∙◌, ◌≡◌, ℕ, zero, suc, ◌+◌, ◌<◌, Bool, true, false, cond, List, ◌∷◌, filter, get_or, length, Option, Some, None, arith}
use Rattle.std.specs.Prelude.{IfSome, IsTrue}
use Rattle.std.specs.List.{range_with_len}
use Rattle.fx_base.specs.declared.geometry.Rect.{Rect}
use Rattle.fx_look.specs.declared.looks.Look.{Look}
use Rattle.fx_layout_sweeps.specs.Nodes.{no_node}
use Rattle.fx_picture.specs.declared.entries.Entry.{Entry}
use Rattle.fx_pulse_model.specs.Frames.{drawn_in}
use Rattle.fx_pulse_model.specs.Pictures.{Drawn, shown_places, shows}
use Rattle.fx_pulse_model.specs.Scenes.{Scene, looks_of}
use Rattle.fx_pulse_touched.specs.Touched.{IsOfShape}
use Rattle.fx_pulse_touched.proofs.ToldLemmas.{long, told_at}
use Rattle.fx_pulse_kept.specs.Measuring.{AreOthersMarked}
use Rattle.fx_pulse_kept.proofs.StepLemmas.{same_there}
use Rattle.fx_pulse.specs.Editing.{AreLast, HangsAs, IsEditable, IsOfSize, IsShownScene, shown_in}
use Rattle.fx_pulse.specs.declared.frames.Before.{Before}
use Rattle.fx_pulse.specs.declared.frames.Next.{Next}
use Rattle.fx_pulse.specs.declared.frames.Next.TheVariants as next

-- ---- the same nodes show
filters : (f g : ℕ → Bool) (m a : ℕ) → ((k : ℕ) → k < a + m → f k ≡ g k)
    → filter f (range_with_len a m) ≡ filter g (range_with_len a m)
filters f g zero a same = refl
filters f g (suc m) a same =
    step (f a) (g a) (same a (omega arith)) (filters f g m (a + 1) (λ k within. same k (omega (arith, within))))
  where
    step : (x y : Bool) → x ≡ y → filter f (range_with_len (a + 1) m) ≡ filter g (range_with_len (a + 1) m)
        → cond x (a ∷ filter f (range_with_len (a + 1) m)) (filter f (range_with_len (a + 1) m))
        ≡ cond y (a ∷ filter g (range_with_len (a + 1) m)) (filter g (range_with_len (a + 1) m))
    step true true e rest = ap (λ l. a ∷ l) rest
    step false false e rest = rest
    step true false e rest = cc
    step false true e rest = cc

same_places : (one other : Drawn) → length one.boxes ≡ length other.boxes → shown_in one ≡ shown_in other
    → shown_places one ≡ shown_places other
same_places one other many same =
    filters (shows one) (shows other) (length one.boxes) 0
    (λ k within.
    let here : k < length one.boxes = omega (arith, within) in
    sym (told_at (shows one) (length one.boxes) k false here)
    ∙ (ap (λ l. get_or l k false) same ∙ told_at (shows other) (length other.boxes) k false (omega (arith, here, many))))
    ∙ ap (λ n. filter (shows other) (range_with_len 0 n)) many

-- ---- the last picture
-- the nodes of a scene of this shape hang as these do
pub hangs : (kept : Option Scene) (scene : Scene) → IsOfShape kept scene → HangsAs kept scene
hangs None scene shape = shape
hangs (Some last) scene shape = shape.parents

-- the frame before, if there is one, is of a scene of this shape
abbrev pub IsOfSame : (past before : Option Before) (has_shape : Bool) → Type 0
IsOfSame past before has_shape = IfSome before (λ (b : Before). (past ≡ Some b) × IsTrue has_shape)

pub hung_since : (past before : Option Before) (has_shape : Bool) (kept : Option Scene) (scene : Scene)
    → IsOfSame past before has_shape → (IsTrue has_shape → IsOfShape kept scene)
    → IfSome before (λ (b : Before). HangsAs kept scene)
hung_since past None has_shape kept scene same shape = tt
hung_since past (Some b) has_shape kept scene same shape = hangs kept scene (shape same.1)

pub shown_since : (past before : Option Before) (has_shape : Bool) (kept : Option Scene) (entries : List Entry)
    → IsOfSame past before has_shape
    → IfSome past (λ (b : Before). (last : Scene) → kept ≡ Some last → IsShownScene last entries b.shown.now)
    → IfSome before (λ (b : Before). (last : Scene) → kept ≡ Some last → IsShownScene last entries b.shown.now)
shown_since past None has_shape kept entries same was = tt
shown_since past (Some b) has_shape kept entries same was =
    subst (λ o. IfSome o (λ (b : Before). (last : Scene) → kept ≡ Some last → IsShownScene last entries b.shown.now))
    same.0 was

pub size_since : (past before : Option Before) (has_shape : Bool) (w h : ℕ) (made : Next)
    → IsOfSame past before has_shape → IsOfSize before w h made → IsOfSize past w h made
size_since past before has_shape w h (next.Whole picture) same size = tt
size_since past None has_shape w h (next.Edited edits) same size = absurd size
size_since past (Some b) has_shape w h (next.Edited edits) same size =
    subst (λ o. IsOfSize o w h (next.Edited edits)) (sym same.0) size

pub last_is : (before : Option Before) (kept : Option Scene) (scene : Scene) (w h : ℕ) (rects : List Rect)
    (shown marks : List Bool) (olds : List Entry) → IsEditable before w h shown
    → IfSome before (λ (b : Before). HangsAs kept scene)
    → IfSome before (λ (b : Before). (last : Scene) → kept ≡ Some last → IsShownScene last olds b.shown.now)
    → AreOthersMarked kept scene marks → shown ≡ shown_in (drawn_in scene rects)
    → AreLast (drawn_in scene rects) marks olds
last_is None kept scene w h rects shown marks olds editable hung was marked is = absurd editable
last_is (Some b) None scene w h rects shown marks olds editable hung was marked is = absurd hung
last_is (Some b) (Some last) scene w h rects shown marks olds editable hung was marked is =
    let told = was last refl in
    record {
      last = drawn_in last told.rects;
      picture = told.picture;
      hung = hung;
      shown = same_places (drawn_in last told.rects) (drawn_in scene rects)
          (sym (long last.boxes) ∙ (ap length hung ∙ long scene.boxes)) (sym told.shown ∙ (editable.2 ∙ is));
      same = λ k within unmarked.
          let was_so = marked.as_before k within unmarked in
          (same_there last.boxes scene.boxes k no_node was_so.1, was_so.2);
    }

-- nodes that have their looks from nothing
abbrev pub in_looks : Scene → List Look → List Rect → Drawn
in_looks scene looks rects = record { boxes = scene.boxes; looks = looks; rects = rects; disabled = scene.disabled }

pub last_in : (before : Option Before) (kept : Option Scene) (scene : Scene) (w h : ℕ) (looks : List Look)
    (rects : List Rect) (shown marks : List Bool) (olds : List Entry) → looks ≡ looks_of scene
    → IsEditable before w h shown → IfSome before (λ (b : Before). HangsAs kept scene)
    → IfSome before (λ (b : Before). (last : Scene) → kept ≡ Some last → IsShownScene last olds b.shown.now)
    → AreOthersMarked kept scene marks → shown ≡ shown_in (in_looks scene looks rects)
    → AreLast (in_looks scene looks rects) marks olds
last_in before kept scene w h looks rects shown marks olds same editable hung was marked is =
    subst (λ l. shown ≡ shown_in (in_looks scene l rects) → AreLast (in_looks scene l rects) marks olds) (sym same)
    (last_is before kept scene w h rects shown marks olds editable hung was marked) is
