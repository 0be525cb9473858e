use Rattle.std.proofs.Common.{arith}
use Rattle.std.specs.String.{string_bytes}
use Rattle.std.proofs.lemmas.Str.{IsUtf8-had}
use Rattle.fx_doc_drafts.proofs.Texts.{chars_more}
use Rattle.fx_doc_drafts.proofs.drafts.Draft.push.Goals as goal

pub invariant_of-self-2 : goal.invariant_of-self-2
invariant_of-self-2 c = record {
  counted = chars_more (string_bytes c.args.self.now.text) (string_bytes c.push.new.self) c.args.c c.args.self.now.count (IsUtf8-had (string_bytes c.args.self.now.text) c.args.self.now.text.ok) c.ranges.c.0 c.args.self.now.counted c.in_ok-push.ensures.bytes;
  short = omega (arith, c.args.self.now.short, c.if-self-eq-TEXT_LIMIT.false);
}
