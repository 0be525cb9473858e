-- What the reader of the words holds.
use Rattle.fx_words.specs.Asking.{Arguments}
use Rattle.fx_words.specs.Reading.{State}
use Rattle.fx_words.specs.declared.arguments.Arguments.{Arguments as Held}
use Rattle.fx_words.specs.declared.sorts.Awaits.{Awaits}

abbrev pub arguments_in : Held → Arguments
arguments_in a =
    record {
      positionals = a.positionals.items;
      sizes = a.sizes.items;
      frames = a.frames.items;
      summaries = a.summaries;
    }

abbrev pub state_in : Held → Awaits → State
state_in a awaits = record { arguments = arguments_in a; awaits = awaits }
