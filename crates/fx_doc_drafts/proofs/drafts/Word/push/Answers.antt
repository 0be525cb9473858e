use Rattle.std.proofs.Common.{rules, is_ok}
use Rattle.std.specs.String.{string_bytes}
use Rattle.fx_doc_grammar.proofs.Runs.{named_low}
use Rattle.fx_doc_drafts.proofs.Texts.{name_more, name_kept}
use Rattle.fx_doc_drafts.proofs.drafts.Word.push.Goals as goal

pub invariant_of-self : goal.invariant_of-self
invariant_of-self c = record {
  short = name_kept (is_ok c.push.result) (string_bytes c.args.self.now.text) (string_bytes c.push.new.self) c.args.c c.push.ensures.bytes (c.push.ensures.ascii (named_low c.args.c c.requires)) c.args.self.now.short
      (λ e. absurd (search rules));
}

pub returns-clause-letter : goal.returns-clause-letter
returns-clause-letter c = name_more (string_bytes c.args.self.now.text) (string_bytes c.push.new.self) c.args.c c.in_ok-push.ensures.bytes (c.in_ok-push.ensures.ascii (named_low c.args.c c.requires))
