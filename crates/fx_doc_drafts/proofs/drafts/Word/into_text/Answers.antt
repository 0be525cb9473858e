use Rattle.std.proofs.Common.{◌≤◌, length, refl, arith}
use Rattle.std.specs.String.{string_bytes}
use Rattle.std.specs.Str.{chars}
use Rattle.std.proofs.lemmas.Str.{IsUtf8-had}
use Rattle.fx_doc_drafts.proofs.Texts.{chars_fewer}
use Rattle.fx_doc_drafts.proofs.drafts.Word.into_text.Goals as goal

pub unreachable-requires : goal.unreachable-requires
unreachable-requires c = let h : length (chars (string_bytes c.args.self.text)) ≤ length (string_bytes c.args.self.text) = chars_fewer (string_bytes c.args.self.text) (IsUtf8-had (string_bytes c.args.self.text) c.args.self.text.ok) in
    omega (arith, c.args.self.short, c.in-None.ensures.none.0 refl)
