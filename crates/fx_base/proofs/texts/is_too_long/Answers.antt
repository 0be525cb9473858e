-- a text of few bytes has few characters
use Rattle.std.proofs.Common.{arith}
use Rattle.fx_base.proofs.TextLemmas.{length-chars-le}
use Rattle.fx_base.proofs.texts.is_too_long.Goals as goal

pub returns-else-text-gt-TEXT_LIMIT : goal.returns-else-text-gt-TEXT_LIMIT
returns-else-text-gt-TEXT_LIMIT c = let fewer = length-chars-le _ c.utf8.text in grind arith
