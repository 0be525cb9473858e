-- A word of few bytes has few characters.
-- So it is a text.
use Rattle.std.proofs.Common.{◌≤◌, length, refl, ap, arith}
use Rattle.std.specs.String.{string_bytes}
use Rattle.std.specs.Str.{chars}
use Rattle.std.proofs.lemmas.Str.{IsUtf8-had}
use Rattle.fx_base.proofs.TextLemmas.{length-chars-le}
use Rattle.fx_css.proofs.agent.name.Goals as goal

pub unreachable-requires : goal.unreachable-requires
unreachable-requires c =
    let h : length (chars (string_bytes c.in_ok-word.word)) ≤ length (string_bytes c.in_ok-word.word) = length-chars-le (string_bytes c.in_ok-word.word) (IsUtf8-had (string_bytes c.in_ok-word.word) c.in_ok-word.word.ok) in
    omega (arith, ap length c.in_ok-word.ensures.ok, c.in-None.ensures.none.0 refl)
