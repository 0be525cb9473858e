-- Rows of pixels that are sent to a viewer, one after another.
use Rattle.std.specs.Prelude.{ℕ, List, [], ◌∷◌, ◌++◌, if◌then◌else◌}
use Rattle.fx_text.specs.Characters.{line_feed}
use Rattle.fx_delta.specs.Lines.{Item, item_line}
use Rattle.fx_delta.specs.Pictures.{Picture, shows, with_pixels}

abbrev pub ended : List ℕ → List ℕ
ended text = text ++ (line_feed ∷ [])

-- an item is written unless its pixels are shown already
abbrev pub item_text : Picture → Item → List ℕ
item_text picture i = if shows picture i.x i.y i.pixels then [] else ended (item_line i)

abbrev pub items_text : Picture → List Item → List ℕ
items_text picture [] = []
items_text picture (i ∷ is) = item_text picture i ++ items_text (with_pixels picture i.x i.y i.pixels) is

-- the picture with the pixels of all items
abbrev pub with_items : Picture → List Item → Picture
with_items picture [] = picture
with_items picture (i ∷ is) = with_items (with_pixels picture i.x i.y i.pixels) is
