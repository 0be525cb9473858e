-- The damage between two pictures: the rectangles in which they may differ.
use Rattle.std.specs.Prelude.{ℕ, pos, Bool, true, false, ◌&&◌, ◌==◌, List, [], ◌∷◌, ◌++◌, Option, Some, None, length, map, nat_eq, nat_lt, not, if◌then◌else◌}
use Rattle.std.specs.Cmp.Lexicographic.{pointwise}
use Rattle.std.specs.List.{filter, flat_map}
use Rattle.fx_base.specs.declared.geometry.Rect.{Rect}
use Rattle.fx_picture.specs.Bounds.{are_same, hull_of, is_empty, meet, nowhere, rect_of}
use Rattle.fx_picture.specs.Entries.{entry_with}
use Rattle.fx_picture.specs.Sameness.{is_same_shape}
use Rattle.fx_picture.specs.Shapes.{bounds}
use Rattle.fx_picture.specs.declared.edges.Bounds.{Bounds}
use Rattle.fx_picture.specs.declared.entries.Entry.{Entry}

-- a node stays where its path and its shapes are the same in both pictures
abbrev pub stays : Option Entry → Option Entry → Bool
stays (Some e) (Some f) = pointwise nat_eq e.path f.path && pointwise is_same_shape e.shapes f.shapes
stays (Some e) None = false
stays None (Some f) = false
stays None None = true

-- the bounding box of the shapes of a node, if it shows
unfoldable pub box_of : Option Entry → Bounds
box_of None = nowhere
box_of (Some e) = hull_of (map bounds e.shapes)

-- the old box and then the new one, if it is another
abbrev pub two_boxes : Bounds → Bounds → List Bounds
two_boxes old now = if are_same old now then old ∷ [] else old ∷ now ∷ []

abbrev pub boxes_of : Option Entry → Option Entry → List Bounds
boxes_of e f = if stays e f then [] else two_boxes (box_of e) (box_of f)

-- the boxes of the node with this birth number
abbrev pub boxes_at : List Entry → List Entry → ℕ → List Bounds
boxes_at olds nows birth = boxes_of (entry_with birth olds) (entry_with birth nows)

-- a rising list with one number more, if it hasn't it
abbrev pub with_birth : ℕ → List ℕ → List ℕ
with_birth b [] = b ∷ []
with_birth b (c ∷ cs) = if nat_lt b c then b ∷ c ∷ cs else (if b == c then c ∷ cs else c ∷ with_birth b cs)

-- the birth numbers of these entries, rising and each once
abbrev pub births_of : List Entry → List ℕ
births_of [] = []
births_of (e ∷ es) = with_birth e.key.birth (births_of es)

-- the boxes of all nodes that don't stay, in order of their birth numbers
abbrev pub changed_boxes : List Entry → List Entry → List Bounds
changed_boxes olds nows = flat_map (boxes_at olds nows) (births_of (olds ++ nows))

abbrev pub window : ℕ → ℕ → Bounds
window w h = record { min_x = pos 0; min_y = pos 0; max_x = pos w; max_y = pos h }

-- each cut to the window, without the empty ones
abbrev pub cut_to : Bounds → List Bounds → List Bounds
cut_to w boxes = filter (λ b. not (is_empty b)) (map (meet w) boxes)

-- more than sixteen become their bounding box
abbrev pub at_most_sixteen : List Bounds → List Bounds
at_most_sixteen boxes = if nat_lt 16 (length boxes) then hull_of boxes ∷ [] else boxes

-- the damage of a window: all of it, where there is no last picture of this window
abbrev pub damage : Option (List Entry) → List Entry → ℕ → ℕ → List Rect
damage None nows w h = rect_of (window w h) ∷ []
damage (Some olds) nows w h = map rect_of (at_most_sixteen (cut_to (window w h) (changed_boxes olds nows)))
