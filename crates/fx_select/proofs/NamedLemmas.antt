-- What is seen of a map has the map's items at each name.
use Rattle.std.proofs.Common.{◌≡◌, ℕ, Bool, true, false, cond, List, [], ◌∷◌, length, map, Some, refl, arith}
use Rattle.std.specs.Prelude.{unwrap_or}
use Rattle.std.specs.Option.{option_map_or}
use Rattle.std.specs.Map.{lookup}
use Rattle.std.specs.Str.{bytes_eq}
use Rattle.std.specs.String.{string_bytes}
use Rattle.std.specs.HashMap.{HashMap, hash_map_len}
use Rattle.std.specs.declared.string.String.{String}
use Rattle.std.specs.declared.vec.Vec.{Vec}
use Rattle.fx_select.specs.Named.{under, entries_of, grouped}

entries-at : {X Y Z : Type 0} (name : List ℕ) (es : List (String Y × Vec X Z))
    → unwrap_or (lookup (bytes_eq name) (map (λ (e : String Y × Vec X Z). (string_bytes e.0, e.1.items)) es)) []
    ≡ option_map_or (λ (list : Vec X Z). list.items) (lookup (λ (k : String Y). bytes_eq name (string_bytes k)) es) []
entries-at name [] = refl
entries-at {X} {Y} {Z} name (e ∷ es) =
    let seen : List (List ℕ × List X) = map (λ (f : String Y × Vec X Z). (string_bytes f.0, f.1.items)) es in
    let items : Vec X Z → List X = λ list. list.items in
    let rest : unwrap_or (lookup (bytes_eq name) seen) [] ≡ option_map_or items (lookup (λ (k : String Y). bytes_eq name (string_bytes k)) es) []
    = entries-at name es in
    elim (bytes_eq name (string_bytes e.0))
    as (λ (b : Bool). unwrap_or (cond b (Some e.1.items) (lookup (bytes_eq name) seen)) []
    ≡ option_map_or items (cond b (Some e.1) (lookup (λ (k : String Y). bytes_eq name (string_bytes k)) es)) []) [
      | true ↦ refl
      | false ↦ rest
    ]

pub under-entries_of : {X Y Z S : Type 0} (m : HashMap (String Y) (Vec X Z) S) (name : List ℕ) → under (entries_of m) name ≡ grouped m name
under-entries_of m name = entries-at name m.entries

none-at : {X Y Z : Type 0} (name : List ℕ) (es : List (String Y × Vec X Z)) → length es ≡ 0
    → [] ≡ option_map_or (λ (list : Vec X Z). list.items) (lookup (λ (k : String Y). bytes_eq name (string_bytes k)) es) []
none-at name [] e = refl
none-at name (x ∷ xs) e = absurd (omega (arith, e))

-- an empty map has nothing at any name
pub none_grouped : {X Y Z S : Type 0} (m : HashMap (String Y) (Vec X Z) S) (name : List ℕ) → hash_map_len m ≡ 0 → [] ≡ grouped m name
none_grouped m name e = none-at name m.entries e
