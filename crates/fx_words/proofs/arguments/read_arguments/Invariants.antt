-- what the words so far say
use Rattle.std.proofs.Common.{◌≡◌, ◌≤◌, Some, take}
use Rattle.fx_words.specs.Held.{state_in}
use Rattle.fx_words.specs.Reading.{read, texts}
use Rattle.fx_words.proofs.arguments.read_arguments.Given as goal

abbrev pub invariant-loop-word : goal.invariant-loop-word
invariant-loop-word l = record {
  few : l.arguments.summaries ≤ l.word-index;
  said : read (texts (take l.word-index l.words)) ≡ Some (state_in l.arguments l.awaits);
}
