-- The words of a command line, read one after another.
use Rattle.std.specs.Prelude.{List, [], ◌∷◌, Option, Some, None, codes, drop, length, map, nat_eq, String, ◌+◌, if◌then◌else◌}
use Rattle.std.specs.List.{fold, starts_with}
use Rattle.std.specs.Option.{option_and_then}
use Rattle.std.specs.Str.{bytes_eq}
use Rattle.std.specs.Global.{Global}
use Rattle.std.specs.String.{string_bytes}
use Rattle.fx_words.specs.Asking.{Arguments, Word, is_plain, name_of, no_arguments, run_of, with_positionals, with_value}
use Rattle.fx_words.specs.declared.runs.Run.{Run}
use Rattle.fx_words.specs.declared.sorts.Setting.{Setting}
use Rattle.fx_words.specs.declared.sorts.Setting.TheVariants as setting
use Rattle.fx_words.specs.declared.sorts.Sort.{Sort}
use Rattle.fx_words.specs.declared.sorts.Sort.TheVariants.{Plain, End, Summary, Apart, Joined, Unknown}
use Rattle.fx_words.specs.declared.sorts.Awaits.{Awaits}
use Rattle.fx_words.specs.declared.sorts.Awaits.TheVariants as awaits

-- what a word is where neither a value is due nor all words are positionals
unfoldable pub sort_of : Word → Sort
sort_of word =
    if is_plain word then Plain
    else (if bytes_eq word (codes "--") then End
    else (if bytes_eq word (codes "--summary") then Summary
    else (if bytes_eq word (codes "--size") then Apart setting.Size
    else (if bytes_eq word (codes "--frames") then Apart setting.Frames
    else (if starts_with nat_eq word (codes "--size=") then Joined setting.Size
    else (if starts_with nat_eq word (codes "--frames=") then Joined setting.Frames else Unknown))))))

-- the value behind the `=`
abbrev pub value_behind : Setting → Word → Word
value_behind option word = drop (length (name_of option) + 1) word

pub record State : Type 0 where
  pub arguments : Arguments
  pub awaits : Awaits

abbrev pub stepped : Arguments → Awaits → Option State
stepped a next = Some (record { arguments = a; awaits = next })

abbrev pub word_step : Arguments → Word → Sort → Option State
word_step a word Plain = stepped (with_positionals a (word ∷ [])) awaits.Any
word_step a word End = stepped a awaits.Positionals
word_step a word Summary = stepped (record a { summaries = a.summaries + 1 }) awaits.Any
word_step a word (Apart option) = stepped a (awaits.Value option)
word_step a word (Joined option) = stepped (with_value a option (value_behind option word)) awaits.Any
word_step a word Unknown = None

abbrev pub step : Arguments → Word → Awaits → Option State
step a word awaits.Any = word_step a word (sort_of word)
step a word (awaits.Value option) = stepped (with_value a option word) awaits.Any
step a word awaits.Positionals = stepped (with_positionals a (word ∷ [])) awaits.Positionals

abbrev pub next : Option State → Word → Option State
next None word = None
next (Some s) word = step s.arguments word s.awaits

abbrev pub read : List Word → Option State
read words = fold next (stepped no_arguments awaits.Any) words

-- at the end no value is due
abbrev pub at_end : Arguments → Awaits → Option Arguments
at_end a awaits.Any = Some a
at_end a (awaits.Value option) = None
at_end a awaits.Positionals = Some a

abbrev pub ended : Option State → Option Arguments
ended None = None
ended (Some s) = at_end s.arguments s.awaits

-- the run that the words ask for, if they ask for one
unfoldable pub accept : List Word → Option Run
accept words = option_and_then run_of (ended (read words))

abbrev pub texts : List (String Global) → List Word
texts words = map (λ (w : String Global). string_bytes w) words
