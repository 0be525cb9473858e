-- The lines of a script file.
use Rattle.std.specs.Prelude.{ℕ, false, List, Result, Ok, Err, length, take, nat_le, if◌then◌else◌}
use Rattle.std.specs.Str.{chars, is_utf8}
use Rattle.std.specs.Str.Lines.{lines}
use Rattle.std.specs.Str.Lossy.{utf8_valid_len}
use Rattle.fx_base.specs.Positions.{after_all, start}
use Rattle.fx_base.specs.declared.positions.Position.{Position}
use Rattle.fx_load_parts.specs.Faults.{Fault, fault_at}
use Rattle.fx_load_parts.specs.Files.{bytes_of}
use Rattle.fx_scene_flaws.specs.declared.flaws.FaultKind.TheVariants.{NotUtf8, Flawed}
use Rattle.fx_port.specs.Files.{Files}
use Rattle.fx_scene_flaws.specs.declared.flaws.Flaw.TheVariants.{Limit}
use Rattle.fx_script_commands.specs.Requests.{Numbered}
use Rattle.fx_script_commands.specs.Scripts.{lines_from}

-- a script is too long by the line behind 100,000 others
abbrev pub first_past : Position
first_past = record { line = 100001; column = 1 }

abbrev pub script_of_lines : List ℕ → List (List ℕ) → Result (List Numbered) Fault
script_of_lines name texts =
    if nat_le (length texts) 100000 then Ok (lines_from false 1 texts)
    else Err (fault_at (Flawed Limit) name first_past)

-- the lines of a script file; the first byte that is no text stands behind the characters before it
unfoldable pub script_of : List ℕ → List ℕ → Result (List Numbered) Fault
script_of name bytes =
    if is_utf8 bytes then script_of_lines name (lines bytes)
    else Err (fault_at NotUtf8 name (after_all start (chars (take (utf8_valid_len bytes) bytes))))

abbrev pub script_of_bytes : List ℕ → Result (List ℕ) Fault → Result (List Numbered) Fault
script_of_bytes name (Err fault) = Err fault
script_of_bytes name (Ok bytes) = script_of name bytes

-- the lines of the script among these files
abbrev pub script_in : Files → List ℕ → Result (List Numbered) Fault
script_in files name = script_of_bytes name (bytes_of files name)
