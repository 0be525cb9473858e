use Rattle.std.proofs.Common.{arith}
use Rattle.std.specs.String.{string_bytes}
use Rattle.fx_doc_drafts.proofs.Texts.{chars_none}
use Rattle.fx_doc_drafts.proofs.drafts.Draft.new.Goals as goal

pub invariant_of-result : goal.invariant_of-result
invariant_of-result c = record { counted = chars_none (string_bytes c.new.result) c.new.ensures.bytes; short = omega arith }
