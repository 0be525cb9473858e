-- Files by name, and what a shelf says of one.
use Rattle.std.specs.Prelude.{◌≤◌, ℕ, List, length, Option, Some, None, nat_le, if◌then◌else◌}
use Rattle.std.specs.Ordering.{nat_cmp}
use Rattle.std.specs.Cmp.Lexicographic.{slice_cmp}
use Rattle.std.specs.FinMap.{FinMap, get, from_entries}
use Rattle.fx_port.specs.declared.files.Fetched.{Fetched}
use Rattle.fx_port.specs.declared.files.Fetched.TheVariants.{Whole, Absent, Longer}

-- a map from names to bytes
abbrev pub Files : Type 0
Files = FinMap (slice_cmp nat_cmp) (List ℕ)

-- the bytes of a name, if it is held
abbrev pub file_at : Files → List ℕ → Option (List ℕ)
file_at files name = get files name

-- the files of a list of names with their bytes; the first entry of a name counts
abbrev pub files_of : List (List ℕ × List ℕ) → Files
files_of entries = from_entries entries

-- what can be found at a name: all the bytes, no file, or a file of too many bytes
pub data Found : Type 0 where
  whole : List ℕ → Found
  absent : Found
  longer : Found

-- what is found at a name with these bytes, if it is held, by a reader that takes `most` bytes
abbrev pub found_of_bytes : Option (List ℕ) → ℕ → Found
found_of_bytes None most = absent
found_of_bytes (Some bytes) most = if nat_le (length bytes) most then whole bytes else longer

-- what is found at a name among these files
abbrev pub found_in : Files → List ℕ → ℕ → Found
found_in files name most = found_of_bytes (file_at files name) most

-- what an answer says was found
abbrev pub found_by : Fetched → Found
found_by (Whole bytes) = whole bytes.items
found_by Absent = absent
found_by Longer = longer

-- no more than `most` bytes were given
abbrev pub IsWithin : ℕ → Found → Type 0
IsWithin most (whole bytes) = length bytes ≤ most
IsWithin most absent = Unit {0}
IsWithin most longer = Unit {0}
