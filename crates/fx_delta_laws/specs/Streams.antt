-- The stream that a view writes, and the frames that it shows.
use Rattle.std.specs.Prelude.{ℕ, ◌≡◌, ◌<◌, ◌≤◌, ◌+◌, ◌^◌, true, false, List, [], ◌∷◌, ◌++◌, All, codes, length}
use Rattle.std.specs.Fmt.{decimal}
use Rattle.std.specs.List.{flat_map}
use Rattle.fx_text.specs.Characters.{space}
use Rattle.fx_delta.specs.Items.{ended, items_text, with_items}
use Rattle.fx_delta.specs.Lines.{Item}
use Rattle.fx_delta.specs.Pictures.{Picture, begun, image, is_size}
use Rattle.fx_delta.specs.Stream.{begins, is_line_feed}

-- a damaged rectangle
pub record Area : Type 0 where
  pub x : ℕ
  pub y : ℕ
  pub w : ℕ
  pub h : ℕ

-- a frame: its number, its size, its damaged rectangles, and the pixels that are sent, a row each with its place
pub record Frame : Type 0 where
  pub number : ℕ
  pub width : ℕ
  pub height : ℕ
  pub areas : List Area
  pub items : List Item

-- what is written: a line that stands between frames, or a frame
pub data Part : Type 0 where
  line : List ℕ → Part
  frame : Frame → Part

-- `frame N W H damage K`
unfoldable pub frame_line : Frame → List ℕ
frame_line f =
    codes "frame " ++ (decimal f.number ++ (space ∷ (decimal f.width ++ (space ∷ (decimal f.height
    ++ (codes " damage " ++ decimal (length f.areas)))))))

-- `X Y W H`
unfoldable pub area_line : Area → List ℕ
area_line a = decimal a.x ++ (space ∷ (decimal a.y ++ (space ∷ (decimal a.w ++ (space ∷ decimal a.h)))))

-- what stands before a frame's row items
abbrev pub head : Frame → List ℕ
head f = ended (frame_line f) ++ flat_map (λ (a : Area). ended (area_line a)) f.areas

-- the picture at the end of a frame
abbrev pub frame_picture : Picture → Frame → Picture
frame_picture picture f = with_items (begun f.width f.height picture) f.items

-- all that a view writes
abbrev pub stream_of : Picture → List Part → List ℕ
stream_of picture [] = []
stream_of picture (line text ∷ parts) = ended text ++ stream_of picture parts
stream_of picture (frame f ∷ parts) =
    (head f ++ (items_text (begun f.width f.height picture) f.items ++ ended (codes "endframe")))
    ++ stream_of (frame_picture picture f) parts

-- the same with each frame's picture as text
abbrev pub frames_of : Picture → List Part → List ℕ
frames_of picture [] = []
frames_of picture (line text ∷ parts) = ended text ++ frames_of picture parts
frames_of picture (frame f ∷ parts) =
    (head f ++ image (frame_picture picture f)) ++ frames_of (frame_picture picture f) parts

-- numbers of at most 64 bits
pub record IsArea (a : Area) : Type 0 where
  pub x : a.x < 2 ^ 64
  pub y : a.y < 2 ^ 64
  pub w : a.w < 2 ^ 64
  pub h : a.h < 2 ^ 64

-- at least one pixel, all within a picture of this size
pub record IsItem (width height : ℕ) (i : Item) : Type 0 where
  pub some : 1 ≤ length i.pixels
  pub colours : All (λ pixel. pixel < 2 ^ 24) i.pixels
  pub across : i.x + length i.pixels ≤ width
  pub down : i.y < height

pub record IsFrame (f : Frame) : Type 0 where
  pub numbered : 1 ≤ f.number
  pub small : f.number < 2 ^ 64
  pub sized : is_size f.width f.height ≡ true
  pub few : length f.areas ≤ 16
  pub areas : All IsArea f.areas
  pub items : All (IsItem f.width f.height) f.items

-- one line, which isn't taken for a frame's
pub record IsBetween (text : List ℕ) : Type 0 where
  pub one : All (λ c. is_line_feed c ≡ false) text
  pub no_frame : begins text (codes "frame") ≡ false
  pub no_row : begins text (codes "row") ≡ false
  pub no_end : begins text (codes "endframe") ≡ false

abbrev pub IsPart : Part → Type 0
IsPart (line text) = IsBetween text
IsPart (frame f) = IsFrame f
