-- ASCII is UTF-8
use Rattle.std.proofs.Common.{rules}
use Rattle.std.specs.Str.{IsAscii}
use Rattle.std.proofs.lemmas.Str.{IsUtf8-from_ascii}
use Rattle.fx_base.proofs.held.Held.from_ascii.Goals as goal

pub from_utf8_unchecked-text-requires : goal.from_utf8_unchecked-text-requires
from_utf8_unchecked-text-requires c =
    let ascii : IsAscii c.args.bytes.now = search rules in
    IsUtf8-from_ascii _ ascii
