-- A demo: a run over three files that are made from the number of its labels.
use Rattle.std.specs.Prelude.{ℕ, List, [], ◌∷◌, codes}
use Rattle.fx_gen.specs.Demo.{scene_lines, script_lines, sheet_lines, text_of}
use Rattle.fx_load_parts.specs.Files.{Run}
use Rattle.fx_port.specs.Files.{Files, files_of}

abbrev pub demo_scene : List ℕ
demo_scene = codes "demo.fxml"

abbrev pub demo_sheet : List ℕ
demo_sheet = codes "demo.css"

abbrev pub demo_script : List ℕ
demo_script = codes "demo.txt"

-- the files by their names
abbrev pub demo_run : Run
demo_run = record { scene = demo_scene; script = demo_script; sheets = demo_sheet ∷ [] }

-- each name with its bytes
unfoldable pub demo_entries : ℕ → List (List ℕ × List ℕ)
demo_entries number =
    (demo_scene, text_of (scene_lines number))
    ∷ ((demo_sheet, text_of sheet_lines) ∷ ((demo_script, text_of (script_lines number)) ∷ []))

-- the files of the demo of so many labels, and no others
abbrev pub demo_files : ℕ → Files
demo_files number = files_of (demo_entries number)
