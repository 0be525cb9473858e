use Rattle.std.proofs.Common.{◌++◌, ap, ◌∙◌}
use Rattle.std.specs.Char.{encode_utf8}
use Rattle.fx_doc_grammar.proofs.Runs.{named_low}
use Rattle.fx_doc_drafts.proofs.drafts.Word.of.Goals as goal

pub returns-clause-letter : goal.returns-clause-letter
returns-clause-letter c = c.in_ok-push.ensures.bytes ∙ (ap (λ y. y ++ encode_utf8 c.args.c) c.new-text.ensures.bytes ∙ c.in_ok-push.ensures.ascii (named_low c.args.c c.requires))
