-- The command line: how its words are put together, and what they ask for.
use Rattle.std.specs.Prelude.{◌≡◌, ◌≤◌, ℕ, Bool, true, false, ◌+◌, ◌||◌, List, [], ◌∷◌, ◌++◌, All, Option, Some, None, codes, drop, nat_eq, not, if◌then◌else◌}
use Rattle.std.specs.List.{flat_map, fold, starts_with}
use Rattle.std.specs.Option.{option_map}
use Rattle.std.specs.Str.{bytes_eq}
use Rattle.fx_words.specs.Values.{frames_of, number_up_to, size_of}
use Rattle.fx_words.specs.declared.runs.Frames.{Frames}
use Rattle.fx_words.specs.declared.runs.Frames.TheVariants as frames
use Rattle.fx_words.specs.declared.runs.Run.{Run}
use Rattle.fx_words.specs.declared.runs.Size.{Size}
use Rattle.fx_words.specs.declared.runs.Source.{Source}
use Rattle.fx_words.specs.declared.runs.Source.TheVariants.{Demo, Files}
use Rattle.fx_words.specs.declared.sorts.Setting.{Setting}
use Rattle.fx_words.specs.declared.sorts.Setting.TheVariants as setting

abbrev pub Word : Type 0
Word = List ℕ

-- one thing that a command line says: a positional, `--summary`, or an option with its value, in the word behind it or
-- behind a `=` in the same word
pub data Part : Type 0 where
  Positional : Word → Part
  Summary : Part
  Apart : Setting → Word → Part
  Joined : Setting → Word → Part

abbrev pub name_of : Setting → Word
name_of setting.Size = codes "--size"
name_of setting.Frames = codes "--frames"

-- the words of a part
abbrev pub words_of : Part → List Word
words_of (Positional word) = word ∷ []
words_of Summary = codes "--summary" ∷ []
words_of (Apart option value) = name_of option ∷ (value ∷ [])
words_of (Joined option value) = (name_of option ++ (codes "=" ++ value)) ∷ []

-- a word that is no option wherever it stands: one that doesn't begin with `-`, or a lone `-`
abbrev pub is_plain : Word → Bool
is_plain word = not (starts_with nat_eq word (codes "-")) || bytes_eq word (codes "-")

abbrev pub IsPart : Part → Type 0
IsPart (Positional word) = is_plain word ≡ true
IsPart Summary = Unit {0}
IsPart (Apart option value) = Unit {0}
IsPart (Joined option value) = Unit {0}

-- what may stand behind the parts: `--`, and words that are all positionals
abbrev pub tail_words : Option (List Word) → List Word
tail_words None = []
tail_words (Some words) = codes "--" ∷ words

-- what is said in all: the positionals, what each value of an option means, if it means anything, and how often
-- `--summary` stands
pub record Arguments : Type 0 where
  pub positionals : List Word
  pub sizes : List (Option Size)
  pub frames : List (Option Frames)
  pub summaries : ℕ

abbrev pub no_arguments : Arguments
no_arguments = record { positionals = []; sizes = []; frames = []; summaries = 0 }

abbrev pub with_positionals : Arguments → List Word → Arguments
with_positionals a words = record a { positionals = a.positionals ++ words }

abbrev pub with_value : Arguments → Setting → Word → Arguments
with_value a setting.Size value = record a { sizes = a.sizes ++ (size_of value ∷ []) }
with_value a setting.Frames value = record a { frames = a.frames ++ (frames_of value ∷ []) }

abbrev pub with_part : Arguments → Part → Arguments
with_part a (Positional word) = with_positionals a (word ∷ [])
with_part a Summary = record a { summaries = a.summaries + 1 }
with_part a (Apart option value) = with_value a option value
with_part a (Joined option value) = with_value a option value

abbrev pub tail_positionals : Option (List Word) → List Word
tail_positionals None = []
tail_positionals (Some words) = words

abbrev pub arguments_of : List Part → Option (List Word) → Arguments
arguments_of parts tail = with_positionals (fold with_part no_arguments parts) (tail_positionals tail)

abbrev pub is_demo : Word → Bool
is_demo word = starts_with nat_eq word (codes "demo:")

-- `demo:N` stands alone
abbrev pub demo_of : Word → List Word → Option Source
demo_of scene [] = option_map Demo (number_up_to 3600 (drop 5 scene))
demo_of scene (word ∷ words) = None

abbrev pub files_of : Word → List Word → Option Source
files_of scene [] = None
files_of scene (script ∷ sheets) = Some (Files scene script sheets)

-- the scene, the script and the sheets, or the demo
abbrev pub source_of : List Word → Option Source
source_of [] = None
source_of (scene ∷ words) = if is_demo scene then demo_of scene words else files_of scene words

-- a demo has from 1 to 3,600 labels
abbrev pub IsNumbered : Source → Type 0
IsNumbered (Demo number) = (1 ≤ number) × (number ≤ 3600)
IsNumbered (Files scene script sheets) = Unit {0}

-- no size, or one that is of the form
abbrev pub size_asked : List (Option Size) → Option (Option Size)
size_asked [] = Some None
size_asked (size ∷ []) = option_map Some size
size_asked (size ∷ (other ∷ sizes)) = None

abbrev pub frames_asked : List (Option Frames) → Option Frames
frames_asked [] = Some frames.Text
frames_asked (form ∷ []) = form
frames_asked (form ∷ (other ∷ forms)) = None

abbrev pub summary_asked : ℕ → Option Bool
summary_asked summaries =
    if nat_eq summaries 0 then Some false else (if nat_eq summaries 1 then Some true else None)

abbrev pub run_from : Option Source → Option (Option Size) → Option Frames → Option Bool → Option Run
run_from (Some source) (Some size) (Some form) (Some summary) =
    Some (record { source = source; size = size; frames = form; summary = summary })
run_from _ _ _ _ = None

abbrev pub run_of : Arguments → Option Run
run_of a = run_from (source_of a.positionals) (size_asked a.sizes) (frames_asked a.frames) (summary_asked a.summaries)

-- the words are put together so, and what they say is the run
pub record Asks (words : List Word) (run : Run) : Type 0 where
  pub parts : List Part
  pub tail : Option (List Word)
  pub sound : All IsPart parts
  pub written : words ≡ flat_map words_of parts ++ tail_words tail
  pub asked : run_of (arguments_of parts tail) ≡ Some run
