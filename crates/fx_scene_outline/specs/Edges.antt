-- The edges of a `BorderPane`, and what stands before an element.
use Rattle.std.specs.Prelude.{ℕ, Bool, true, false, ◌||◌, ◌==◌, List, codes, Option, Some, None, if◌then◌else◌}
use Rattle.std.specs.Str.{bytes_eq}
use Rattle.fx_doc_grammar.specs.Grammar.{Nodes, Nothing, Letters, Node}
use Rattle.fx_scene_outline.specs.declared.edges.Earlier.{Earlier}
use Rattle.fx_scene_outline.specs.declared.edges.Taken.{Taken}

abbrev pub none_taken : Taken
none_taken = record { top = false; right = false; bottom = false; left = false; center = false }

abbrev pub with_name : List ℕ → Taken → Taken
with_name name taken =
    record {
      top = taken.top || bytes_eq name (codes "top");
      right = taken.right || bytes_eq name (codes "right");
      bottom = taken.bottom || bytes_eq name (codes "bottom");
      left = taken.left || bytes_eq name (codes "left");
      center = taken.center || bytes_eq name (codes "center");
    }

abbrev pub has_edge : Taken → ℕ → Bool
has_edge taken edge =
    if edge == 0 then taken.top
    else (if edge == 1 then taken.right
    else (if edge == 2 then taken.bottom
    else (if edge == 3 then taken.left else taken.center)))

-- the number of the edge that the property element of this name holds
abbrev pub edge_named : List ℕ → Option ℕ
edge_named name =
    if bytes_eq name (codes "top") then Some 0
    else (if bytes_eq name (codes "right") then Some 1
    else (if bytes_eq name (codes "bottom") then Some 2
    else (if bytes_eq name (codes "left") then Some 3
    else (if bytes_eq name (codes "center") then Some 4 else None))))

-- what stands before an element in the same content

abbrev pub nothing_earlier : Earlier
nothing_earlier = record { first = true; taken = none_taken }

abbrev pub behind_element : List ℕ → Earlier → Earlier
behind_element name earlier = record { first = false; taken = with_name name earlier.taken }

abbrev pub behind_text : Earlier → Earlier
behind_text earlier = record { first = false; taken = earlier.taken }

unfoldable pub earlier_in : Nodes → Earlier
earlier_in Nothing = nothing_earlier
earlier_in (Letters before text spot) = behind_text (earlier_in before)
earlier_in (Node before head inner) = behind_element head.name (earlier_in before)
