-- Which document an include asks for, or what is wrong with it before anything is fetched (Introduction to FXML).
use Rattle.std.specs.Prelude.{ℕ, nat_le, nat_lt, Bool, true, false, List, codes, length, Option, Some, None, if◌then◌else◌}
use Rattle.std.specs.List.{list_any}
use Rattle.std.specs.Str.{bytes_eq}
use Rattle.fx_base.specs.declared.positions.Position.{Position}
use Rattle.fx_doc_grammar.specs.Grammar.{Attr, Head}
use Rattle.fx_scene_bindings.specs.Names.{attribute_named}
use Rattle.fx_scene_flaws.specs.declared.flaws.Flaw.{Flaw}
use Rattle.fx_scene_flaws.specs.declared.flaws.Flaw.TheVariants as flaw
use Rattle.fx_scene_course.specs.Opens.{Open}
use Rattle.fx_scene_load.specs.declared.asking.Asked.{Asked}
use Rattle.fx_scene_load.specs.declared.asking.Asked.TheVariants.{Misplaced, Refused, Wanted}
use Rattle.fx_scene_outline.specs.declared.pieces.Seat.{Seat}
use Rattle.fx_scene_outline.specs.declared.pieces.Seat.TheVariants as seat
use Rattle.fx_scene_places.specs.Places.{joined}

abbrev pub is_nowhere : Seat → Bool
is_nowhere seat.Nowhere = true
is_nowhere _ = false

-- the attribute that tells which document is included
abbrev pub source_of : Head → Option Attr
source_of head = attribute_named head.attributes (codes "source")

abbrev pub is_open : List (List ℕ) → List ℕ → Bool
is_open around target = list_any (λ (name : List ℕ). bytes_eq name target) around

-- what is wrong with fetching this file where others are open and so many were fetched: no document includes itself,
-- and includes stand in each other at most 16 deep
abbrev pub source_flaw : List (List ℕ) → ℕ → List ℕ → Option Flaw
source_flaw around count target =
    if is_open around target then Some flaw.IncludeCycle
    else (if nat_lt 16 (length around) then Some flaw.Limit
    else (if nat_le 63 count then Some flaw.Limit else None))

abbrev pub wanted_if : Position → List ℕ → Option Flaw → Asked
wanted_if place target (Some mistake) = Refused mistake place
wanted_if place target None = Wanted target

abbrev pub located : List (List ℕ) → ℕ → Position → Option (List ℕ) → Asked
located around count place None = Refused flaw.Value place
located around count place (Some target) = wanted_if place target (source_flaw around count target)

abbrev pub asked_by : Open → Seat → ℕ → Option Attr → Asked
asked_by here place count None = Misplaced flaw.Value
asked_by here place count (Some source) =
    if is_nowhere place then Misplaced flaw.Child
    else located here.around count source.position (joined here.name source.value)

-- what an include in a seat asks for, where so many files were fetched
unfoldable pub asked_of : Open → Seat → Head → ℕ → Asked
asked_of here place head count = asked_by here place count (source_of head)
