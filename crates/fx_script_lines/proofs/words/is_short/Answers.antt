-- a text has no more characters than bytes
use Rattle.std.proofs.Common.{◌≡◌, ◌≤◌, ℕ, true, nat_le, arith, length}
use Rattle.std.specs.Str.{chars}
use Rattle.std.proofs.lemmas.Bool.Decides.{nat_tests}
use Rattle.fx_base.proofs.TextLemmas.{length-chars-le}
use Rattle.fx_script_lines.proofs.words.is_short.Goals as goal

few : (n : ℕ) → n ≤ 4096 → true ≡ nat_le n 4096
few n h = grind (arith, nat_tests)

pub returns-then-word-le4096 : goal.returns-then-word-le4096
returns-then-word-le4096 c =
    few (length (chars c.args.word.now))
    (omega (arith, length-chars-le c.args.word.now c.utf8.word, c.if-word-le4096.true))
