-- What the names of a document's elements mean.
use Rattle.std.specs.Prelude.{ℕ, Bool, false, not, ◌&&◌, ◌||◌, ◌==◌, nat_le, List, [], ◌∷◌, ◌++◌, codes, length, Option, Some, None, option_and_then, if◌then◌else◌}
use Rattle.std.specs.List.{find, list_any, before_first, after_first, position_or_len}
use Rattle.std.specs.Option.{option_map_or}
use Rattle.std.specs.Str.{bytes_eq}
use Rattle.fx_kinds.specs.Classes.{classes, name_of, package_of}
use Rattle.fx_kinds.specs.declared.classes.Class.{Class}
use Rattle.fx_text.specs.Characters.{full_stop, capital_a, capital_z}

-- classes by their names

abbrev pub full_name : Class → List ℕ
full_name class = package_of class ++ (full_stop ∷ name_of class)

abbrev pub is_called : List ℕ → Class → Bool
is_called name class = bytes_eq (name_of class) name || bytes_eq (full_name class) name

-- the class that an element's name means, which is its simple or its full name
unfoldable pub class_named : List ℕ → Option Class
class_named name = find (is_called name) classes

-- imports name a class, or all classes of a package

abbrev pub whole_package : Class → List ℕ
whole_package class = package_of class ++ codes ".*"

abbrev pub names : Class → List ℕ → Bool
names class import = bytes_eq (full_name class) import || bytes_eq (whole_package class) import

-- the classes of `java.lang` need no import
unfoldable pub is_imported : List (List ℕ) → Class → Bool
is_imported imports class = bytes_eq (package_of class) (codes "java.lang") || list_any (names class) imports

-- a class that is named by its simple name, without an import
unfoldable pub lacks_import : List (List ℕ) → List ℕ → Class → Bool
lacks_import imports name class = bytes_eq (name_of class) name && not (is_imported imports class)

-- names by their letters

abbrev pub is_upper : ℕ → Bool
is_upper c = nat_le capital_a c && nat_le c capital_z

abbrev pub begins_upper : List ℕ → Bool
begins_upper [] = false
begins_upper (c ∷ cs) = is_upper c

-- at a `.` another part begins
abbrev pub upper_behind : Bool → ℕ → List ℕ → Bool
upper_behind before c cs = if c == full_stop then begins_upper cs else before

abbrev pub last_is_upper : Bool → List ℕ → Bool
last_is_upper upper [] = upper
last_is_upper upper (c ∷ cs) = last_is_upper (upper_behind upper c cs) cs

-- an instance is named by a class: the part behind the last `.` begins with an upper-case letter
unfoldable pub is_instance : List ℕ → Bool
is_instance name = last_is_upper (begins_upper name) name

abbrev pub is_stop : ℕ → Bool
is_stop c = c == full_stop

-- a static property has a `.`, as `HBox.hgrow`
unfoldable pub is_static : List ℕ → Bool
is_static name = list_any is_stop name

-- what stands before the first `.` of a name, and behind it
abbrev pub split_name : List ℕ → Option (List ℕ × List ℕ)
split_name name =
    if position_or_len is_stop name == length name then None
    else Some (before_first is_stop name, after_first is_stop name)

abbrev pub owner_in : List ℕ × List ℕ → Option Class
owner_in parts =
    if is_static parts.1 then None
    else find (λ (class : Class). bytes_eq (name_of class) parts.0) classes

-- the class in front of the one `.` of a name
unfoldable pub owner_of : List ℕ → Option Class
owner_of name = option_and_then owner_in (split_name name)

-- the class in front of a static property is known, but not imported
unfoldable pub lacks_owner : List (List ℕ) → List ℕ → Bool
lacks_owner imports name = option_map_or (λ (class : Class). not (is_imported imports class)) (owner_of name) false
