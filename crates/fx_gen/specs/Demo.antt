-- The three files of a demo, each as the list of its lines.
use Rattle.std.specs.Prelude.{ℕ, List, [], ◌∷◌, ◌++◌, ◌+◌, ◌-◌, ◌*◌, ◌%◌, ◌==◌, codes, map, min, if◌then◌else◌}
use Rattle.std.specs.Fmt.{decimal}
use Rattle.std.specs.Int.{div_ceil}
use Rattle.std.specs.List.{flat_map, range_with_len}
use Rattle.fx_text.specs.Characters.{line_feed}
use Rattle.fx_gen.specs.Draws.{drawn}

-- a line and the line feed that ends it
abbrev pub ended : List ℕ → List ℕ
ended line = line ++ (line_feed ∷ [])

abbrev pub text_of : List (List ℕ) → List ℕ
text_of lines = flat_map ended lines

-- of the first label its digit, and of each other one an expression over the label before it
unfoldable pub width : ℕ → ℕ → List ℕ
width index digit =
    if index == 0 then decimal digit
    else codes "${n" ++ (decimal (index - 1) ++ (codes ".prefWidth % 7 + " ++ (decimal digit ++ codes "}")))

unfoldable pub label : ℕ → ℕ → List ℕ
label index digit =
    codes "<Label fx:id=\"n" ++ (decimal index ++ (codes "\" text=\"" ++ (decimal index ++ (codes "\" prefWidth=\""
    ++ (width index digit ++ codes "\"/>")))))

-- the label of this number, in the demo of so many labels
abbrev pub label_in : ℕ → ℕ → List ℕ
label_in number index = label index (drawn number index)

unfoldable pub box_line : ℕ → List ℕ
box_line group = codes "<HBox fx:id=\"h" ++ (decimal group ++ codes "\">")

-- how many labels the box has: ten, but for the last one
abbrev pub label_count : ℕ → ℕ → ℕ
label_count number group = min 10 (number - 10 * group)

-- so many labels from the first one of a box on
unfoldable pub labels : ℕ → ℕ → ℕ → List (List ℕ)
labels number group count = map (label_in number) (range_with_len (10 * group) count)

unfoldable pub box_lines : ℕ → ℕ → List (List ℕ)
box_lines number group =
    box_line group ∷ (labels number group (label_count number group) ++ (codes "</HBox>" ∷ []))

-- the first boxes, so many of them
unfoldable pub boxes : ℕ → ℕ → List (List ℕ)
boxes number count = flat_map (box_lines number) (range_with_len 0 count)

abbrev pub box_count : ℕ → ℕ
box_count number = div_ceil number 10

-- `demo.fxml`
abbrev pub scene_lines : ℕ → List (List ℕ)
scene_lines number =
    codes "<?import javafx.scene.layout.*?><?import javafx.scene.control.*?>"
    ∷ (codes "<VBox fx:id=\"root\" prefWidth=\"320\" prefHeight=\"240\">"
    ∷ (boxes number (box_count number) ++ (codes "</VBox>" ∷ [])))

-- `demo.css`
abbrev pub sheet_lines : List (List ℕ)
sheet_lines = codes ".label{-fx-background-color:skyblue}" ∷ (codes ".hot{-fx-background-color:orange}" ∷ [])

unfoldable pub set_line : ℕ → List ℕ
set_line digit = codes "set n0.prefWidth " ++ decimal digit

unfoldable pub class_line : ℕ → List ℕ
class_line group = codes "class h" ++ (decimal group ++ codes " hot")

-- a turn of the script: the first label's width, a box that is hot, and a frame
unfoldable pub turn : ℕ → ℕ → List (List ℕ)
turn number j =
    set_line (drawn number (number + j)) ∷ (class_line (j % box_count number) ∷ (codes "pulse" ∷ []))

unfoldable pub listen_line : ℕ → List ℕ
listen_line number = codes "listen change n" ++ (decimal (number - 1) ++ codes ".prefWidth")

unfoldable pub turns : ℕ → ℕ → List (List ℕ)
turns number count = flat_map (turn number) (range_with_len 1 count)

-- the script listens to the last label, and takes twenty turns
abbrev pub script_lines : ℕ → List (List ℕ)
script_lines number = listen_line number ∷ turns number 20
