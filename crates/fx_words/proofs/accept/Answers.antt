-- a demo that is asked for has a number of labels
use Rattle.std.proofs.Common.{IfSome, Option, subst, sym}
use Rattle.fx_words.specs.Asking.{IsNumbered}
use Rattle.fx_words.specs.Held.{arguments_in}
use Rattle.fx_words.specs.declared.runs.Run.{Run}
use Rattle.fx_words.proofs.DemoLemmas.{asked_numbered}
use Rattle.fx_words.proofs.accept.Goals as goal

pub returns-in-Some-clause-numbered : goal.returns-in-Some-clause-numbered
returns-in-Some-clause-numbered c =
    let IsRight : Option Run → Type 0 = λ run. IfSome run (λ asked. IsNumbered asked.source) in
    subst IsRight (sym c.run_of.ensures) (asked_numbered (arguments_in c.in-Some.arguments))
