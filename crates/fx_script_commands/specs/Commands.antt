-- What one line asks for by itself. Forms of fx_script_lines has the lines of words alone.
use Rattle.std.specs.Prelude.{◌≡◌, ◌⊎◌, ℕ, Bool, true, false, ◌||◌, List, [], ◌∷◌, Option, None, Some, Result, Ok, Err, codes, nat_eq, if◌then◌else◌, option_and_then}
use Rattle.std.specs.List.{list_all, list_any, starts_with}
use Rattle.std.specs.Option.{option_map}
use Rattle.std.specs.Str.{bytes_eq, chars}
use Rattle.fx_text.specs.Classes.{is_blank}
use Rattle.fx_expr.specs.Reading.{reading_of}
use Rattle.fx_expr.specs.Tree.{Tree}
use Rattle.fx_expr.specs.declared.reading.ExprError.{ExprError}
use Rattle.fx_script_lines.specs.Forms.{instruction_behind}
use Rattle.fx_script_lines.specs.Taking.{alone, behind_word, is_over, path, word, word_in}
use Rattle.fx_script_lines.specs.declared.shapes.Shape.TheVariants.{Identifier}
use Rattle.fx_script_commands.specs.declared.standing.Standing.{Standing}
use Rattle.fx_script_commands.specs.declared.standing.Standing.TheVariants.{Outside, InAction}
use Rattle.fx_script_commands.specs.Braces.{between_braces}
use Rattle.fx_script_commands.specs.Requests.{Expression, Request, asks, bad, binds}

-- blank lines, of spaces and tabs alone, and lines that begin with `#` ask for nothing
unfoldable pub is_skipped : List ℕ → Bool
is_skipped text = list_all is_blank text || starts_with nat_eq text (codes "#")

abbrev pub found_expression : Result (Tree × List (List (List ℕ))) ExprError → Option Expression
found_expression (Ok read) = Some (record { paths = read.1; meaning = read.0 })
found_expression (Err e) = None

-- the expression that a text is written in, within the limits on depth and operands
unfoldable pub expression_of : List ℕ → Option Expression
expression_of text = found_expression (reading_of (chars text))

-- `${EXPR}`
abbrev pub expression_in : List ℕ → Option Expression
expression_in text = option_and_then expression_of (between_braces text)

-- `bind NAME ${EXPR}`, behind its first word
abbrev pub binding : List ℕ → Option Request
binding text = option_and_then (λ name. option_map (binds name.0) (expression_in name.1)) (path text)

-- a line by its first word
abbrev pub command_behind : List ℕ → List ℕ → Option Request
command_behind first text =
    if bytes_eq first (codes "bind") then binding text else option_map asks (instruction_behind first text)

abbrev pub or_bad : Option Request → Request
or_bad None = bad
or_bad (Some request) = request

-- the first words of lines that may not stand in an action; `action` and `end` are no lines by themselves
abbrev pub outside_alone : List (List ℕ)
outside_alone = codes "pulse" ∷ codes "resize" ∷ codes "move" ∷ codes "press" ∷ codes "release-button" ∷ codes "key"
    ∷ codes "focus" ∷ codes "tab" ∷ codes "backtab" ∷ codes "timeline" ∷ codes "keyframe" ∷ codes "play"
    ∷ codes "stop" ∷ codes "tick" ∷ codes "explain" ∷ []

-- the first word of the line that may stand in an action alone
abbrev pub inside_alone : List (List ℕ)
inside_alone = codes "consume" ∷ []

abbrev pub barred_at : Standing → List (List ℕ)
barred_at Outside = inside_alone
barred_at InAction = outside_alone

-- whether a line with this first word may not stand there
unfoldable pub is_barred : Standing → List ℕ → Bool
is_barred standing first = list_any (λ word. bytes_eq word first) (barred_at standing)

unfoldable pub request_behind : Standing → List ℕ → List ℕ → Request
request_behind standing first text = if is_barred standing first then bad else or_bad (command_behind first text)

-- what a line asks for that opens no action
abbrev pub request_of : Standing → List ℕ → Request
request_of standing text = request_behind standing (word_in text) (behind_word text)

-- why a line is bad that opens no action: its first word may not stand there, or it is of no form
abbrev pub IsBadLine : Standing → List ℕ → Type 0
IsBadLine standing text =
    (is_barred standing (word_in text) ≡ true) ⊎ (command_behind (word_in text) (behind_word text) ≡ None)

-- `action NAME`
unfoldable pub action_name : List ℕ → Option (List ℕ)
action_name text =
    if bytes_eq (word_in text) (codes "action") then alone (word Identifier) (behind_word text) else None

-- `end`
unfoldable pub is_end : List ℕ → Bool
is_end text = if bytes_eq (word_in text) (codes "end") then is_over (behind_word text) else false
