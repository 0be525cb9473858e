-- Taking the words of a line from the left. A reader gives what it takes, and what is behind that and one space.
use Rattle.std.specs.Prelude.{◌≡◌, ◌<◌, ℕ, Bool, true, false, ◌==◌, ◌||◌, ◌&&◌, List, [], ◌∷◌, Option, Some, None, Result, Ok, Err, codes, length, nat_le, not, if◌then◌else◌}
use Rattle.std.specs.Char.{is_ascii_digit}
use Rattle.std.specs.List.{after_first, before_first, list_all, position_or_len, slice_split}
use Rattle.std.specs.Option.{option_and_then, option_map}
use Rattle.std.specs.Str.{bytes_eq, chars}
use Rattle.fx_text.specs.Characters.{full_stop, hyphen}
use Rattle.fx_text.specs.Classes.{is_identifier, is_space}
use Rattle.fx_text.specs.Fronts.{behind}
use Rattle.fx_text.specs.Identifiers.{is_style_identifier}
use Rattle.fx_script_lines.specs.declared.shapes.Shape.{Shape}
use Rattle.fx_script_lines.specs.declared.shapes.Shape.TheVariants.{Any, Identifier, Ident, Integer, Place, Count, Notice, Kind, Switch}
use Rattle.fx_script_lines.specs.declared.stops.Stop.{Stop}
use Rattle.fx_script_lines.specs.declared.stops.Stop.TheVariants.{Form, Memory}

abbrev pub before_space : List ℕ → List ℕ
before_space text = before_first is_space text

abbrev pub after_space : List ℕ → List ℕ
after_space text = after_first is_space text

-- the first word of a text, and what is behind it and one space
unfoldable pub word_in : List ℕ → List ℕ
word_in text = before_space (behind is_space text)

unfoldable pub behind_word : List ℕ → List ℕ
behind_word text = after_space (behind is_space text)

abbrev pub are_digits : List ℕ → Bool
are_digits word = not (length word == 0) && list_all is_ascii_digit word

abbrev pub is_integer : List ℕ → Bool
is_integer [] = false
is_integer (c ∷ cs) = if c == hyphen then are_digits cs else are_digits (c ∷ cs)

abbrev pub is_edge : List ℕ → Bool
is_edge word =
    (((bytes_eq word (codes "top") || bytes_eq word (codes "right")) || bytes_eq word (codes "bottom"))
    || bytes_eq word (codes "left")) || bytes_eq word (codes "center")

abbrev pub is_kind : List ℕ → Bool
is_kind word = (bytes_eq word (codes "int") || bytes_eq word (codes "bool")) || bytes_eq word (codes "text")

abbrev pub has_shape : Shape → List ℕ → Bool
has_shape Any word = true
has_shape Identifier word = is_identifier word
has_shape Ident word = is_style_identifier word
has_shape Integer word = is_integer word
has_shape Place word = are_digits word || is_edge word
has_shape Count word = are_digits word || bytes_eq word (codes "indefinite")
has_shape Notice word = bytes_eq word (codes "invalid") || bytes_eq word (codes "change")
has_shape Kind word = is_kind word
has_shape Switch word = bytes_eq word (codes "on") || bytes_eq word (codes "off")

-- a word of at most 4,096 characters
abbrev pub is_word : List ℕ → Bool
is_word word = not (length word == 0) && nat_le (length (chars word)) 4096

-- a text of at most 4,096 characters
abbrev pub kept : List ℕ → Option (List ℕ)
kept text = if nat_le (length (chars text)) 4096 then Some text else None

abbrev pub Reader : Type 0 → Type 0
Reader A = List ℕ → Option (A × List ℕ)

-- a word of this shape
unfoldable pub word : Shape → Reader (List ℕ)
word shape text =
    if is_word (word_in text) && has_shape shape (word_in text) then Some (word_in text, behind_word text) else None

abbrev pub is_dot : ℕ → Bool
is_dot c = c == full_stop

abbrev pub names_in : List ℕ → List (List ℕ)
names_in word = slice_split is_dot word

abbrev pub is_name : List ℕ → Bool
is_name name = is_identifier name && nat_le (length (chars name)) 4096

abbrev pub name_of : List ℕ → Option (List ℕ)
name_of name = if is_name name then Some name else None

abbrev pub CutsAtDot : List ℕ → Option (List ℕ × List ℕ) → Type 0
CutsAtDot text None = position_or_len is_dot text ≡ length text
CutsAtDot text (Some parts) =
    (parts.0 ≡ before_first is_dot text) × (parts.1 ≡ after_first is_dot text)
    × (position_or_len is_dot text < length text)

unfoldable pub names : List ℕ → Option (List (List ℕ))
names word = if list_all is_name (names_in word) then Some (names_in word) else None

-- a path: identifiers with dots between them, in one word
unfoldable pub path : Reader (List (List ℕ))
path text =
    if is_word (word_in text) then option_map (λ ns. (ns, behind_word text)) (names (word_in text)) else None

-- all that is left
unfoldable pub rest : Reader (List ℕ)
rest text = Some (text, [])

-- nothing but spaces
abbrev pub is_over : List ℕ → Bool
is_over text = list_all is_space text

-- an identifier, if there is a word
unfoldable pub label : Reader (Option (List ℕ))
label text =
    if is_over text then Some (None, text)
    else option_map (λ r. (Some r.0, r.1)) (word Identifier text)

unfoldable pub reverse : Reader Bool
reverse text =
    if is_over text then Some (false, text)
    else (if bytes_eq (word_in text) (codes "reverse") then Some (true, behind_word text) else None)

-- where nothing is left but spaces
abbrev pub ended : {A : Type 0} → A → List ℕ → Option A
ended x text = if is_over text then Some x else None

abbrev pub alone : {A : Type 0} → Reader A → List ℕ → Option A
alone r text = option_and_then (λ x. ended x.0 x.1) (r text)

abbrev pub pair : {A B : Type 0} → Reader A → Reader B → List ℕ → Option (A × B)
pair r s text = option_and_then (λ x. option_and_then (λ y. ended (x.0, y.0) y.1) (s x.1)) (r text)

abbrev pub triple : {A B C : Type 0} → Reader A → Reader B → Reader C → List ℕ → Option (A × B × C)
triple r s t text =
    option_and_then (λ x. option_and_then (λ y. option_and_then (λ z. ended (x.0, y.0, z.0) z.1) (t y.1))
    (s x.1)) (r text)

abbrev pub quadruple : {A B C D : Type 0} → Reader A → Reader B → Reader C → Reader D → List ℕ
    → Option (A × B × C × D)
quadruple r s t u text =
    option_and_then (λ w. option_and_then (λ x. option_and_then (λ y. option_and_then (λ z.
    ended (w.0, x.0, y.0, z.0) z.1) (u y.1)) (t x.1)) (s w.1)) (r text)

-- what was taken, and what is left, unless memory ran out
abbrev pub Takes : {A : Type 0} → Result A Stop → Option (A × List ℕ) → List ℕ → Type 0
Takes (Ok x) taken left = taken ≡ Some (x, left)
Takes (Err Form) taken left = taken ≡ None
Takes (Err Memory) taken left = Unit {0}

-- what was read, unless memory ran out
abbrev pub Gives : {A : Type 0} → Result A Stop → Option A → Type 0
Gives (Ok x) read = read ≡ Some x
Gives (Err Form) read = read ≡ None
Gives (Err Memory) read = Unit {0}
