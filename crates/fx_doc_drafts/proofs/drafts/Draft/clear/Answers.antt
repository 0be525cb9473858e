use Rattle.std.proofs.Common.{arith}
use Rattle.std.specs.String.{string_bytes}
use Rattle.fx_doc_drafts.proofs.Texts.{chars_none}
use Rattle.fx_doc_drafts.proofs.drafts.Draft.clear.Goals as goal

pub invariant_of-self : goal.invariant_of-self
invariant_of-self c = record { counted = chars_none (string_bytes c.clear.new.self) c.clear.ensures.bytes; short = omega arith }
