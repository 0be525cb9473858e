-- ASCII is UTF-8
use Rattle.std.proofs.Common.{rules}
use Rattle.std.specs.Str.{IsAscii}
use Rattle.std.proofs.lemmas.Str.{IsUtf8-from_ascii}
use Rattle.fx_base.proofs.short_texts.ShortText.from_ascii.Goals as goal

pub invariant_of-result : goal.invariant_of-result
invariant_of-result c =
    let room : IsAscii c.in_room-bytes.result = search rules in
    let text : IsAscii c.args.text.now = c.in_room-bytes.ensures.ascii.0 room in
    (c.requires, ∣ rw c.in_room-bytes.ensures.text (IsUtf8-from_ascii _ text) ∣₁, c.in_room-bytes.ensures.behind)
