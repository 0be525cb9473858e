use Rattle.std.proofs.Common.{◌≡◌, None, sym, string_bytes}
use Rattle.fx_words.specs.Held.{arguments_in, state_in}
use Rattle.fx_words.specs.Reading.{step}
use Rattle.fx_words.proofs.ReadingLemmas.{none_is_read}
use Rattle.fx_words.proofs.arguments.read_arguments.Goals as goal

pub returns-in-None : goal.returns-in-None
returns-in-None c =
    let none : step (arguments_in c.loop-word.arguments) (string_bytes c.word-item.result) c.loop-word.awaits ≡ None =
    rw (← c.as_str.ensures.value) (sym (rw c.in-None.is at c.in_ok-next.ensures)) in
    none_is_read c.args.words.now c.loop-word.word-index c.word-item.result
    (state_in c.loop-word.arguments c.loop-word.awaits) c.loop-word-test.true c.word-item.is c.loop-word.invariant.said none
