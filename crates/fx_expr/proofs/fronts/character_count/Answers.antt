-- the count of a text's characters is the length of the list of them
use Rattle.std.proofs.Common.{ap, length, rules, sym}
use Rattle.std.proofs.lemmas.Str.{chars-IsAscii, chars_from_encodes}
use Rattle.fx_expr.proofs.fronts.character_count.Goals as goal

pub returns : goal.returns
returns c = search (rules, chars_from_encodes)

pub returns-then-is_ascii : goal.returns-then-is_ascii
returns-then-is_ascii c = ap length (sym (chars-IsAscii c.args.text.now c.if-is_ascii.ensures.cases))
