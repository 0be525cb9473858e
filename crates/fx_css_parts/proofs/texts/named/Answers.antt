-- An identifier is ASCII, and short.
-- So it is a text.
use Rattle.std.proofs.lemmas.Str.{IsUtf8-from_ascii}
use Rattle.fx_css_parts.proofs.IdentLemmas.{ident_ascii}
use Rattle.fx_css_parts.proofs.texts.named.Goals as goal

pub from_utf8_unchecked-requires : goal.from_utf8_unchecked-requires
from_utf8_unchecked-requires c = IsUtf8-from_ascii _ (ident_ascii c.args.text.now c.requires.ident)
