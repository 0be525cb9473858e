-- What the lines of a script ask for, each by its number.
use Rattle.std.specs.Prelude.{◌≡◌, ◌≤◌, ◌<◌, ℕ, Bool, true, false, ◌+◌, List, [], ◌∷◌, ◌++◌, length, map, take, nat_le, not, Option, None, Some, Result, Ok, Err, Vec, if◌then◌else◌}
use Rattle.std.specs.Global.{Global}
use Rattle.std.specs.List.{position}
use Rattle.std.specs.Option.{is_some, option_and_then, option_map, option_to_list}
use Rattle.std.specs.Str.{IsUtf8, IsValidUpTo}
use Rattle.std.specs.Str.Lines.{lines}
use Rattle.fx_script_commands.specs.declared.standing.Standing.TheVariants.{Outside, InAction}
use Rattle.fx_script_commands.specs.Commands.{action_name, is_end, is_skipped, or_bad, request_of}
use Rattle.fx_script_commands.specs.Requests.{Numbered, Request, defines, line_view, requests_of}
use Rattle.fx_script_commands.specs.declared.commands.Line.{Line}
use Rattle.fx_script_commands.specs.declared.errors.ScriptError.{ScriptError}
use Rattle.fx_script_commands.specs.declared.errors.ScriptError.TheVariants.{NotUtf8, TooManyLines, Memory}

-- the lines in front of the first `end`, if there is one
abbrev pub body_in : List (List ℕ) → Option (List (List ℕ))
body_in texts = option_map (λ i. take i texts) (position is_end texts)

-- a line in an action
unfoldable pub inside_line : ℕ → List ℕ → Option Numbered
inside_line n text =
    if is_skipped text then None else Some (record { number = n; request = request_of InAction text })

-- what the lines of an action ask for, from this number on
unfoldable pub body_from : ℕ → List (List ℕ) → List Numbered
body_from n [] = []
body_from n (text ∷ texts) = option_to_list (inside_line n text) ++ body_from (n + 1) texts

-- they are at most 1,000
unfoldable pub body_of : ℕ → List (List ℕ) → Option (List Numbered)
body_of n texts = if nat_le (length (body_from n texts)) 1000 then Some (body_from n texts) else None

-- An action from what stands behind its first line, which has the number before n. Without an `end` it is bad.
abbrev pub action_of : List ℕ → ℕ → List (List ℕ) → Request
action_of name n behind =
    or_bad (option_map (λ lines. defines name (requests_of lines)) (option_and_then (body_of n) (body_in behind)))

abbrev pub opened : Option (List ℕ) → ℕ → List ℕ → List (List ℕ) → Request
opened None n text behind = request_of Outside text
opened (Some name) n text behind = action_of name (n + 1) behind

-- the line of number n, from its text and what stands behind it
unfoldable pub line_at : ℕ → List ℕ → List (List ℕ) → Numbered
line_at n text behind = record { number = n; request = opened (action_name text) n text behind }

unfoldable pub opens : List ℕ → Bool
opens text = is_some (action_name text)

-- The lines from number n on. Those of an action, up to the `end` that closes it, stand within it; where none does,
-- it takes all.
unfoldable pub lines_from : Bool → ℕ → List (List ℕ) → List Numbered
lines_from inside n [] = []
lines_from true n (text ∷ texts) = lines_from (not (is_end text)) (n + 1) texts
lines_from false n (text ∷ texts) =
    if is_skipped text then lines_from false (n + 1) texts
    else line_at n text texts ∷ lines_from (opens text) (n + 1) texts

-- The bytes are a script of these lines: UTF-8, of at most 100,000 lines. A line ends with a line feed, before which a
-- carriage return doesn't count; a last line without one counts.
pub record IsScript (bytes : List ℕ) (read : List Numbered) : Type 0 where
  pub utf8 : IsUtf8 bytes
  pub few : length (lines bytes) ≤ 100000
  pub are : read ≡ lines_from false 1 (lines bytes)

-- why bytes are none
abbrev pub HasFault : List ℕ → ScriptError → Type 0
HasFault bytes (NotUtf8 n) = (IsUtf8 bytes → ⊥) × IsValidUpTo bytes n
HasFault bytes TooManyLines = IsUtf8 bytes × (100000 < length (lines bytes))
HasFault bytes Memory = Unit {0}

-- a script is read, unless memory runs out
abbrev pub IsGiven : List Numbered → Result (Vec Line Global) ScriptError → Type 0
IsGiven read (Ok found) = map line_view found.items ≡ read
IsGiven read (Err e) = e ≡ Memory

-- what isn't UTF-8 is refused as such, and what has too many lines, unless memory runs out
abbrev pub IsNoText : Result (Vec Line Global) ScriptError → Type 0
IsNoText (Err (NotUtf8 n)) = Unit {0}
IsNoText (Err Memory) = Unit {0}
IsNoText _ = ⊥

abbrev pub IsTooLong : Result (Vec Line Global) ScriptError → Type 0
IsTooLong (Err TooManyLines) = Unit {0}
IsTooLong (Err Memory) = Unit {0}
IsTooLong _ = ⊥
