-- Properties that are looked up by many paths, from the last path to the first.
use Rattle.std.specs.Prelude.{List, Vec, Option, None, Some, Result, Ok, Err, reverse}
use Rattle.std.specs.Global.{Global}
use Rattle.fx_base.specs.declared.keys.Name.{Name}
use Rattle.fx_stage_types.specs.declared.refusals.Refusal.{Refusal}

-- what was found, wherever it lies in memory
abbrev pub names_found : Result (Vec Name Global) Refusal → Result (List Name) Refusal
names_found (Ok names) = Ok names.items
names_found (Err word) = Err word

-- the properties, of which the last one was found first, or the word
abbrev pub found_last_first : List Name → Option Refusal → Result (List Name) Refusal
found_last_first names None = Ok (reverse names)
found_last_first names (Some word) = Err word
