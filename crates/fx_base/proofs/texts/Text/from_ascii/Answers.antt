-- ASCII is UTF-8, and has no more characters than bytes
use Rattle.std.proofs.Common.{◌≡◌, rules, arith}
use Rattle.std.specs.Str.{IsAscii}
use Rattle.std.proofs.lemmas.Str.{IsUtf8-from_ascii}
use Rattle.fx_base.specs.Held.{held_bytes}
use Rattle.fx_base.proofs.TextLemmas.{chars-few}
use Rattle.fx_base.proofs.texts.Text.from_ascii.Goals as goal

pub invariant_of-result : goal.invariant_of-result
invariant_of-result c =
    let text : held_bytes c.in-Some.held ≡ c.args.bytes.now = search rules in
    let ascii : IsAscii c.args.bytes.now = search rules in
    chars-few _ _ text (IsUtf8-from_ascii _ ascii) (omega arith)
