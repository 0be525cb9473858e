-- The entries of a picture, which are the nodes that show, in pre-order.
use Rattle.std.specs.Prelude.{◌≡◌, ℕ, ◌==◌, List, [], ◌∷◌, Option, Some, None, if◌then◌else◌}
use Rattle.std.specs.declared.cmp.Ordering.TheVariants.{Less}
use Rattle.std.specs.Prelude.{All}
use Rattle.std.specs.Ordering.{nat_cmp}
use Rattle.std.specs.Cmp.Lexicographic.{slice_cmp}
use Rattle.fx_picture.specs.declared.entries.Entry.{Entry}

-- the entry of the node with this birth number
abbrev pub entry_with : ℕ → List Entry → Option Entry
entry_with birth [] = None
entry_with birth (e ∷ es) = if e.key.birth == birth then Some e else entry_with birth es

-- an entry stands before another where its path of child places is the lesser one
abbrev pub IsBefore : Entry → Entry → Type 0
IsBefore e f = slice_cmp nat_cmp e.path f.path ≡ Less

-- the entries rise by their paths, which is pre-order
abbrev pub Rises : List Entry → Type 0
Rises [] = Unit {0}
Rises (e ∷ es) = All (IsBefore e) es × Rises es

-- no two entries have one birth number
abbrev pub HasDistinctBirths : List Entry → Type 0
HasDistinctBirths [] = Unit {0}
HasDistinctBirths (e ∷ es) = (entry_with e.key.birth es ≡ None) × HasDistinctBirths es
