-- The entries of two pictures, place by place, without those of nodes that have one place in both and stay there.
use Rattle.std.specs.Prelude.{Bool, false, ◌&&◌, ◌==◌, List, [], ◌∷◌, ◌++◌, Some, map, if◌then◌else◌}
use Rattle.std.specs.Borrow.{Bor}
use Rattle.fx_damage.specs.Damage.{stays}
use Rattle.fx_picture.specs.declared.entries.Entry.{Entry}

-- one node, which stays
abbrev pub is_kept : Entry → Entry → Bool
is_kept e f = e.key.birth == f.key.birth && stays (Some e) (Some f)

-- whether both begin with one node, which stays
abbrev pub begins_kept : List Entry → List Entry → Bool
begins_kept [] fs = false
begins_kept (e ∷ es) [] = false
begins_kept (e ∷ es) (f ∷ fs) = is_kept e f

-- an entry, if what stands at its place in both pictures isn't one node that stays
abbrev pub if_changed : Entry → Entry → Entry → List Entry
if_changed e f g = if is_kept e f then [] else g ∷ []

abbrev pub changed_olds : List Entry → List Entry → List Entry
changed_olds [] fs = []
changed_olds (e ∷ es) [] = e ∷ es
changed_olds (e ∷ es) (f ∷ fs) = if_changed e f e ++ changed_olds es fs

abbrev pub changed_nows : List Entry → List Entry → List Entry
changed_nows [] fs = fs
changed_nows (e ∷ es) [] = []
changed_nows (e ∷ es) (f ∷ fs) = if_changed e f f ++ changed_nows es fs

-- the entries that are lent
abbrev pub lent : List (Bor Entry) → List Entry
lent refs = map (λ (r : Bor Entry). r.now) refs
