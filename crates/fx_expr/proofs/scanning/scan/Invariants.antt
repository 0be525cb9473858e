-- the tokens so far and those that are read of the rest
use Rattle.std.proofs.Common.{◌≡◌, ◌-◌, length}
use denote.Text.{Utf8}
use denote.Shadow.{shadow}
use Rattle.std.specs.Str.{chars}
use Rattle.fx_expr.specs.Scanning.{tokens_of, with_tokens, after_white}
use Rattle.fx_expr.proofs.scanning.scan.Given as goal

abbrev pub invariant-loop : goal.invariant-loop
invariant-loop l = shadow (Utf8 l.rest)
    × (with_tokens l.tokens.items (tokens_of (length (chars l.text) - l.counter) (chars l.rest))
    ≡ tokens_of (length (chars l.text)) (after_white (chars l.text)))
