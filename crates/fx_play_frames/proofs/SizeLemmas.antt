-- Nodes with their sizes, each once.
use Rattle.std.proofs.Common.{◌≡◌, ◌<◌, ◌≤◌, ℕ, zero, suc, List, [], ◌∷◌, drop, length, min, slice_index_or, sym, ◌∙◌, ap, refl, arith}
use Rattle.std.proofs.lemmas.Bool.Decides.{Decides-eqb}
use Rattle.std.proofs.lemmas.Map.Made.{AllPairs-from_IsDistinct}
use Rattle.fx_base.specs.declared.geometry.Rect.{Rect}
use Rattle.fx_base.specs.declared.keys.NodeKey.{NodeKey}
use Rattle.fx_kinds.specs.declared.facts.BoxFacts.{BoxFacts}
use Rattle.fx_plain_frames.specs.Pulses.{sizes_of}
use Rattle.fx_pulse_model.specs.Scenes.{IsScene, Scene, births}
use Rattle.fx_stage_facts.specs.Publishing.{AreOnce, Size}

within : (boxes : List BoxFacts) (rects : List Rect) (i : ℕ) → i < length (sizes_of boxes rects) → i < length (births boxes)
within [] rects i h = h
within (node ∷ nodes) [] i h = absurd (omega (arith, h))
within (node ∷ nodes) (rect ∷ rects) zero h = omega arith
within (node ∷ nodes) (rect ∷ rects) (suc i) h =
    let rest = within nodes rects i (omega (arith, h)) in
    omega (arith, rest)

birth_at : (boxes : List BoxFacts) (rects : List Rect) (i : ℕ) (d : Size) → i < length (sizes_of boxes rects)
    → (slice_index_or (sizes_of boxes rects) i d).0.birth ≡ slice_index_or (births boxes) i 0
birth_at [] rects i d h = absurd (omega (arith, h))
birth_at (node ∷ nodes) [] i d h = absurd (omega (arith, h))
birth_at (node ∷ nodes) (rect ∷ rects) zero d h = refl
birth_at (node ∷ nodes) (rect ∷ rects) (suc i) d h = birth_at nodes rects i d (omega (arith, h))

before : (boxes : List BoxFacts) (rects : List Rect) (i j : ℕ) → i < j → j < length (sizes_of boxes rects)
    → i < length (sizes_of boxes rects)
before boxes rects i j lt h = omega (arith, lt, h)

-- no two nodes of a scene have one key
pub sized_once : (scene : Scene) (rects : List Rect) → IsScene scene → AreOnce (sizes_of scene.boxes rects)
sized_once scene rects is = λ i j d lt h same.
    let apart = AllPairs-from_IsDistinct Decides-eqb (births scene.boxes) is.births in
    apart i j 0 lt (within scene.boxes rects j h)
    (sym (birth_at scene.boxes rects i d (before scene.boxes rects i j lt h))
    ∙ (ap (λ (key : NodeKey). key.birth) same ∙ birth_at scene.boxes rects j d h))

-- behind the shorter list there is nothing
pub none_left : (n : ℕ) (boxes : List BoxFacts) (rects : List Rect) → min (length boxes) (length rects) ≤ n
    → sizes_of (drop n boxes) (drop n rects) ≡ []
none_left zero [] rects h = refl
none_left zero (node ∷ nodes) [] h = refl
none_left zero (node ∷ nodes) (rect ∷ rects) h = absurd (omega (arith, h))
none_left (suc n) [] rects h = refl
none_left (suc n) (node ∷ nodes) [] h = nothing_at (drop n nodes)
  where
    nothing_at : (boxes : List BoxFacts) → sizes_of boxes [] ≡ []
    nothing_at [] = refl
    nothing_at (node ∷ nodes) = refl
none_left (suc n) (node ∷ nodes) (rect ∷ rects) h = none_left n nodes rects (omega (arith, h))
