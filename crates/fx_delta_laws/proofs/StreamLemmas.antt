-- A stream is shown line by line, and so frame by frame.
use Rattle.std.proofs.Common.{◌≡◌, ◌<◌, ◌≤◌, ◌+◌, ◌*◌, ◌^◌, ℕ, suc, Bool, true, false, cond, ◌&&◌, eqb, leb, List, [], ◌∷◌, ◌++◌, length, Some, None, Ok, All, append_assoc, append-nil, refl, sym, ap, ◌∙◌, subst, inl, inr, arith}
use Rattle.std.specs.Prelude.{codes, Result}
use Rattle.std.specs.Prelude.{replicate}
use Rattle.std.specs.List.{flat_map, onto_first, slice_split}
use Rattle.std.proofs.lemmas.Bool.{and_parts, cases_Bool, eqb-true, leb-true}
use Rattle.std.proofs.lemmas.List.Elements.{All-head, All-tail}
use Rattle.std.proofs.lemmas.List.Splits.{slice_split_at}
use Rattle.fx_text.specs.Characters.{line_feed}
use Rattle.fx_base.specs.Pixel.{white}
use Rattle.fx_delta.specs.Items.{ended, item_text, items_text, with_items}
use Rattle.fx_delta.specs.Lines.{Item, item_line}
use Rattle.fx_delta.specs.Pictures.{Picture, begun, image, no_picture, shows, with_pixels}
use Rattle.fx_delta.specs.Stream.{Flaw, Screen, Shown, Step, after_line, first_screen, is_line_feed, shown, shown_from, shown_parts, told}
use Rattle.fx_delta.proofs.PictureLemmas.{with_pixels-same}
use Rattle.fx_delta_laws.specs.Streams.{Area, Frame, IsArea, IsBetween, IsFrame, IsItem, IsPart, Part, area_line, frame, frame_line, frame_picture, frames_of, head, line, stream_of}
use Rattle.fx_delta_laws.proofs.LineLemmas.{after-area, after-between, after-end, after-frame, after-item, area-one, end-one, frame-one, item-one, screen, step}

-- what is shown of a text from a line on
view : ℕ → Screen → List ℕ → Shown
view number from text = shown_parts number from (slice_split is_line_feed text)

-- behind what is written already
ahead : List ℕ → Shown → Shown
ahead written s = record { bytes = written ++ s.bytes; bad = s.bad }

-- of this text so much is shown, wherever it stands and whatever stands behind it
Runs : Screen → List ℕ → Screen → List ℕ → Type 0
Runs from text to written =
    (number : ℕ) (rest : List ℕ) → (next : ℕ) × (view number from (text ++ rest) ≡ ahead written (view next to rest))

ahead-ahead : (a b : List ℕ) (s : Shown) → ahead a (ahead b s) ≡ ahead (a ++ b) s
unfolding ahead
ahead-ahead a b s = ap (λ (l : List ℕ). record { bytes = l; bad = s.bad }) (sym (append_assoc a b s.bytes))

runs-none : (from : Screen) → Runs from [] from []
unfolding Runs ahead
runs-none from = λ number rest. (number, refl)

runs-append : (a b c : Screen) (t u v w : List ℕ) → Runs a t b v → Runs b u c w → Runs a (t ++ u) c (v ++ w)
unfolding Runs
runs-append a b c t u v w first second = λ number rest.
    let one = first number (u ++ rest) in
    let two = second one.0 rest in (
      two.0,
      ap (view number a) (append_assoc t u rest) ∙ one.1 ∙ ap (ahead v) two.1 ∙ ahead-ahead v w (view two.0 c rest),
    )

-- the parts of a text are never none
told-parts : (number : ℕ) (from : Screen) (s : Step) (text : List ℕ) (parts : List (List ℕ)) (more : List ℕ)
    → after_line from text ≡ Ok s → slice_split is_line_feed more ≡ parts → (parts ≡ [] → ⊥)
    → shown_parts number from (text ∷ parts) ≡ ahead s.written (shown_parts (number + 1) s.screen parts)
unfolding ahead
told-parts number from s text [] more e p some = absurd (some refl)
told-parts number from s text (next ∷ parts) more e p some =
    ap (λ (r : Result Step Flaw). told number r (λ after. shown_from (number + 1) after next parts)) e

some_parts : (text : List ℕ) → slice_split is_line_feed text ≡ [] → ⊥
some_parts [] e = cc
some_parts (c ∷ cs) e = go (is_line_feed c) (slice_split is_line_feed cs) e
  where
    go : (t : Bool) (parts : List (List ℕ)) → cond t ([] ∷ parts) (onto_first c parts) ≡ [] → ⊥
    go true parts e = cc
    go false [] e = cc
    go false (part ∷ parts) e = cc

runs-line : (from : Screen) (text : List ℕ) (s : Step) → All (λ c. is_line_feed c ≡ false) text
    → after_line from text ≡ Ok s → Runs from (ended text) s.screen s.written
unfolding Runs view
runs-line from text s one e = λ number rest. (
  number + 1,
  ap (λ (l : List ℕ). shown_parts number from (slice_split is_line_feed l)) (append_assoc text (line_feed ∷ []) rest)
      ∙ ap (shown_parts number from) (slice_split_at is_line_feed text line_feed rest one refl)
      ∙ told-parts number from s text (slice_split is_line_feed rest) rest e refl (some_parts rest),
)

runs-areas : (picture : Picture) (areas : List Area) → All IsArea areas
    → Runs (screen picture (Some (length areas))) (flat_map (λ (a : Area). ended (area_line a)) areas)
    (screen picture (Some 0)) (flat_map (λ (a : Area). ended (area_line a)) areas)
runs-areas picture [] all = runs-none (screen picture (Some 0))
runs-areas picture (a ∷ areas) all =
    let text = flat_map (λ (a : Area). ended (area_line a)) areas in
    let is : IsArea a = All-head IsArea a areas all in
    runs-append (screen picture (Some (suc (length areas)))) (screen picture (Some (length areas)))
    (screen picture (Some 0)) (ended (area_line a)) text (ended (area_line a)) text
    (runs-line (screen picture (Some (suc (length areas)))) (area_line a)
    (step (screen picture (Some (length areas))) (ended (area_line a))) (area-one a is)
    (after-area picture (length areas) a is))
    (runs-areas picture areas (All-tail IsArea a areas all))

runs-item : (picture : Picture) (i : Item) → IsItem picture.width picture.height i → picture.width < 2 ^ 64
    → picture.height < 2 ^ 64
    → Runs (screen picture (Some 0)) (item_text picture i)
    (screen (with_pixels picture i.x i.y i.pixels) (Some 0)) []
runs-item picture i is narrow low =
    let hx : i.x < 2 ^ 64 = let h = is.across in omega (arith, h, narrow) in
    let hy : i.y < 2 ^ 64 = let h = is.down in omega (arith, h, low) in
    let new : Picture = with_pixels picture i.x i.y i.pixels in
    elim (cases_Bool (shows picture i.x i.y i.pixels)) [
      | inl same ↦
          subst (λ (t : Bool). Runs (screen picture (Some 0)) (cond t [] (ended (item_line i))) (screen new (Some 0)) [])
          (sym same)
          (subst (λ (p : Picture). Runs (screen picture (Some 0)) [] (screen p (Some 0)) [])
          (with_pixels-same picture i.x i.y i.pixels same) (runs-none (screen picture (Some 0))))
      | inr other ↦
          subst (λ (t : Bool). Runs (screen picture (Some 0)) (cond t [] (ended (item_line i))) (screen new (Some 0)) [])
          (sym other)
          (runs-line (screen picture (Some 0)) (item_line i) (step (screen new (Some 0)) []) (item-one i hx hy)
          (after-item picture i is narrow low))
    ]

runs-items : (picture : Picture) (items : List Item) → All (IsItem picture.width picture.height) items
    → picture.width < 2 ^ 64 → picture.height < 2 ^ 64
    → Runs (screen picture (Some 0)) (items_text picture items) (screen (with_items picture items) (Some 0)) []
runs-items picture [] all narrow low = runs-none (screen picture (Some 0))
runs-items picture (i ∷ items) all narrow low =
    let new : Picture = with_pixels picture i.x i.y i.pixels in
    let Is : Item → Type 0 = IsItem picture.width picture.height in
    runs-append (screen picture (Some 0)) (screen new (Some 0)) (screen (with_items new items) (Some 0))
    (item_text picture i) (items_text new items) [] []
    (runs-item picture i (All-head Is i items all) narrow low)
    (runs-items new items (All-tail Is i items all) narrow low)

-- a picture of the frame's size

begun_size : (width height : ℕ) (picture : Picture)
    → ((begun width height picture).width ≡ width) × ((begun width height picture).height ≡ height)
begun_size width height picture = elim (cases_Bool (eqb picture.width width && eqb picture.height height)) [
  | inl same ↦
      let both = and_parts (eqb picture.width width) (eqb picture.height height) same in (
        ap (λ (t : Bool). (chosen t).width) same ∙ eqb-true picture.width width both.0,
        ap (λ (t : Bool). (chosen t).height) same ∙ eqb-true picture.height height both.1,
      )
  | inr other ↦
      (ap (λ (t : Bool). (chosen t).width) other, ap (λ (t : Bool). (chosen t).height) other)
]
  where
    chosen : Bool → Picture
    chosen t = cond t picture (record { width = width; height = height; pixels = replicate (height * width) white })

runs-frame : (picture : Picture) (f : Frame) → IsFrame f
    → Runs (screen picture None)
    (head f ++ (items_text (begun f.width f.height picture) f.items ++ ended (codes "endframe")))
    (screen (frame_picture picture f) None) (head f ++ image (frame_picture picture f))
runs-frame picture f is =
    let start : Picture = begun f.width f.height picture in
    let last : Picture = frame_picture picture f in
    let areas : List ℕ = flat_map (λ (a : Area). ended (area_line a)) f.areas in
    let size = begun_size f.width f.height picture in
    let both = and_parts (leb 1 f.width && leb f.width 2048) (leb 1 f.height && leb f.height 2048) is.sized in
    let w : f.width ≤ 2048 = leb-true f.width 2048 (and_parts (leb 1 f.width) (leb f.width 2048) both.0).1 in
    let h : f.height ≤ 2048 = leb-true f.height 2048 (and_parts (leb 1 f.height) (leb f.height 2048) both.1).1 in
    let narrow : start.width < 2 ^ 64 = let e = size.0 in omega (arith, e, w) in
    let low : start.height < 2 ^ 64 = let e = size.1 in omega (arith, e, h) in
    let items : All (IsItem start.width start.height) f.items =
    subst (λ (n : ℕ). All (IsItem n start.height) f.items) (sym size.0)
    (subst (λ (n : ℕ). All (IsItem f.width n) f.items) (sym size.1) is.items) in
    runs-append (screen picture None) (screen start (Some 0)) (screen last None) (head f)
    (items_text start f.items ++ ended (codes "endframe")) (head f) (image last)
    (runs-append (screen picture None) (screen start (Some (length f.areas))) (screen start (Some 0))
    (ended (frame_line f)) areas (ended (frame_line f)) areas
    (runs-line (screen picture None) (frame_line f)
    (step (screen start (Some (length f.areas))) (ended (frame_line f))) (frame-one f is) (after-frame picture f is))
    (runs-areas start f.areas is.areas))
    (runs-append (screen start (Some 0)) (screen last (Some 0)) (screen last None) (items_text start f.items)
    (ended (codes "endframe")) [] (image last) (runs-items start f.items items narrow low)
    (runs-line (screen last (Some 0)) (codes "endframe") (step (screen last None) (image last)) end-one
    (after-end last)))

-- the picture after all parts
last_picture : Picture → List Part → Picture
last_picture picture [] = picture
last_picture picture (line text ∷ parts) = last_picture picture parts
last_picture picture (frame f ∷ parts) = last_picture (frame_picture picture f) parts

runs-parts : (picture : Picture) (parts : List Part) → All IsPart parts
    → Runs (screen picture None) (stream_of picture parts) (screen (last_picture picture parts) None)
    (frames_of picture parts)
unfolding last_picture
runs-parts picture [] all = runs-none (screen picture None)
runs-parts picture (line text ∷ parts) all =
    let is : IsBetween text = All-head IsPart (line text) parts all in
    runs-append (screen picture None) (screen picture None) (screen (last_picture picture parts) None) (ended text)
    (stream_of picture parts) (ended text) (frames_of picture parts)
    (runs-line (screen picture None) text (step (screen picture None) (ended text)) is.one
    (after-between picture text is))
    (runs-parts picture parts (All-tail IsPart (line text) parts all))
runs-parts picture (frame f ∷ parts) all =
    let new : Picture = frame_picture picture f in
    runs-append (screen picture None) (screen new None) (screen (last_picture new parts) None)
    (head f ++ (items_text (begun f.width f.height picture) f.items ++ ended (codes "endframe"))) (stream_of new parts)
    (head f ++ image new) (frames_of new parts)
    (runs-frame picture f (All-head IsPart (frame f) parts all))
    (runs-parts new parts (All-tail IsPart (frame f) parts all))

pub shown-frames : (parts : List Part) → All IsPart parts
    → shown (stream_of no_picture parts) ≡ record { bytes = frames_of no_picture parts; bad = None }
unfolding shown Runs view ahead
shown-frames parts all =
    let run = runs-parts no_picture parts all 1 [] in
    ap (λ (text : List ℕ). shown_parts 1 first_screen (slice_split is_line_feed text))
    (sym (append-nil (stream_of no_picture parts)))
    ∙ run.1
    ∙ ap (λ (l : List ℕ). record { bytes = l; bad = None }) (append-nil (frames_of no_picture parts))
