-- What the reader's answer says of the judgement on bytes. The layers above read documents through it.
use Rattle.std.specs.Prelude.{◌≡◌, Result, Ok, Err}
use Rattle.fx_doc_grammar.specs.Judgements.{Judgement, NoText, Judged}
use Rattle.fx_doc_grammar.specs.Verdicts.{Reads, Stops, Deep, Long as TooLong}
use Rattle.fx_doc_runs.specs.Views.{reading}
use Rattle.fx_doc_runs.specs.declared.document.Document.{Document}
use Rattle.fx_doc_runs.specs.declared.document.DocError.{DocError}
use Rattle.fx_doc_runs.specs.declared.document.DocError.TheVariants.{NotUtf8, Markup, Depth, Long, Memory}

-- the answer is this judgement, unless memory ran out
abbrev pub Tells : Result Document DocError → Judgement → Type 0
Tells (Ok d) j = j ≡ Judged (Reads (reading d))
Tells (Err (NotUtf8 n)) j = j ≡ NoText n
Tells (Err (Markup position)) j = j ≡ Judged (Stops position)
Tells (Err (Depth position)) j = j ≡ Judged (Deep position)
Tells (Err (Long position)) j = j ≡ Judged (TooLong position)
Tells (Err Memory) j = Unit {0}
