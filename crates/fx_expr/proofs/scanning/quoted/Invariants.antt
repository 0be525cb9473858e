-- the text so far and what is read of the rest
use Rattle.std.proofs.Common.{◌≡◌, ◌-◌, length}
use denote.Text.{Utf8}
use denote.Shadow.{shadow}
use Rattle.std.specs.Str.{chars}
use Rattle.std.specs.String.{string_bytes}
use Rattle.fx_expr.specs.Scanning.{quoted_at, with_front}
use Rattle.fx_expr.proofs.scanning.quoted.Given as goal

abbrev pub invariant-loop : goal.invariant-loop
invariant-loop l = shadow (Utf8 l.rest)
    × (with_front (string_bytes l.content) (quoted_at (length (chars l.text) - l.counter) l.quote (chars l.rest))
    ≡ quoted_at (length (chars l.text)) l.quote (chars l.text))
