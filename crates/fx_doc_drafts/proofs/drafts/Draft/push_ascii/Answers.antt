use Rattle.std.proofs.Common.{arith}
use Rattle.std.specs.String.{string_bytes}
use Rattle.std.proofs.lemmas.Str.{IsUtf8-had}
use Rattle.fx_doc_drafts.proofs.Texts.{chars_longer}
use Rattle.fx_doc_drafts.proofs.drafts.Draft.push_ascii.Goals as goal

pub invariant_of-self-2 : goal.invariant_of-self-2
invariant_of-self-2 c = record {
  counted = chars_longer (string_bytes c.args.self.now.text) (string_bytes c.push_str.new.self) c.args.piece.now
      c.args.self.now.count (IsUtf8-had (string_bytes c.args.self.now.text) c.args.self.now.text.ok) c.requires.low
      c.args.self.now.counted c.in_ok-push_str.ensures.bytes;
  short = omega (arith, c.requires.room);
}
