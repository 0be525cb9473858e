-- a text that is short enough, or none
use Rattle.std.proofs.Common.{refl}
use Rattle.std.specs.String.{string_bytes}
use Rattle.fx_scene_values.proofs.TextLemmas.{long_text, short_text}
use Rattle.fx_scene_values.proofs.values.text_given.Goals as goal

pub returns-in-Some : goal.returns-in-Some
returns-in-Some c =
    let found = rw c.in-Some.is at c.from_string.ensures.found in
    let none = rw c.in-Some.is at c.from_string.ensures.none in
    short_text (string_bytes c.args.text) c.in-Some.text found (λ long. let e = none.1 long in absurd (cc))

pub returns-in-None : goal.returns-in-None
returns-in-None c =
    let none = rw c.in-None.is at c.from_string.ensures.none in
    long_text (string_bytes c.args.text) (none.0 refl)
