-- Locations: names of files relative to the folder of another file. What is wrong with one is known from its text.
use Rattle.std.specs.Prelude.{ℕ, ◌-◌, Bool, true, false, ◌||◌, ◌==◌, List, [], ◌∷◌, ◌++◌, codes, length, take, Option, Some, None, option_and_then, if◌then◌else◌}
use Rattle.std.specs.List.{flat_map, list_any, slice_split}
use Rattle.std.specs.Str.{bytes_eq}
use Rattle.fx_text.specs.Characters.{colon, slash}

abbrev pub is_slash : ℕ → Bool
is_slash c = c == slash

abbrev pub is_colon : ℕ → Bool
is_colon c = c == colon

abbrev pub begins_with_slash : List ℕ → Bool
begins_with_slash [] = false
begins_with_slash (c ∷ cs) = is_slash c

-- a location isn't empty, has no colon, and begins with no slash
abbrev pub is_barred : List ℕ → Bool
is_barred location = bytes_eq location [] || (begins_with_slash location || list_any is_colon location)

-- the parts of a name between slashes
abbrev pub parts_of : List ℕ → List (List ℕ)
parts_of name = slice_split is_slash name

abbrev pub without_last : List (List ℕ) → List (List ℕ)
without_last parts = take (length parts - 1) parts

-- the folder in which a file stands, by its parts
abbrev pub folder_of : List ℕ → List (List ℕ)
folder_of file = without_last (parts_of file)

-- nothing stands above the start, nor above the folder that one slash names
abbrev pub is_top : List (List ℕ) → Bool
is_top [] = true
is_top (part ∷ []) = bytes_eq part []
is_top (part ∷ another ∷ others) = false

abbrev pub above : List (List ℕ) → Option (List (List ℕ))
above folder = if is_top folder then None else Some (without_last folder)

-- `..` is the folder above, and `.` the folder itself
unfoldable pub stepped : List (List ℕ) → List ℕ → Option (List (List ℕ))
stepped folder part =
    if bytes_eq part (codes "..") then above folder
    else (if bytes_eq part (codes ".") then Some folder else Some (folder ++ (part ∷ [])))

-- the way from a folder along the parts of a location
unfoldable pub walked : List (List ℕ) → List (List ℕ) → Option (List (List ℕ))
walked folder [] = Some folder
walked folder (part ∷ parts) = option_and_then (λ next. walked next parts) (stepped folder part)

abbrev pub rest_name : List (List ℕ) → List ℕ
rest_name parts = flat_map (λ part. slash ∷ part) parts

-- parts with slashes between them
abbrev pub name_of : List (List ℕ) → List ℕ
name_of [] = []
name_of (part ∷ parts) = part ++ rest_name parts

abbrev pub name_if : List ℕ → Option (List ℕ)
name_if name = if bytes_eq name [] then None else Some name

abbrev pub named : List (List ℕ) → Option (List ℕ)
named parts = name_if (name_of parts)

-- the name of the file at a location beside a file, or none where the location is bad: `..` leads above the start, or
-- nothing is named
unfoldable pub joined : List ℕ → List ℕ → Option (List ℕ)
joined file location =
    if is_barred location then None else option_and_then named (walked (folder_of file) (parts_of location))
