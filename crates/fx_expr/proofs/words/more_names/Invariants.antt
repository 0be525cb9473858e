-- the names so far and those that are read of the rest
use Rattle.std.proofs.Common.{◌≡◌, ◌-◌, length}
use denote.Text.{Utf8}
use denote.Shadow.{shadow}
use Rattle.std.specs.Str.{chars}
use Rattle.fx_expr.specs.Scanning.{names_at, with_names}
use Rattle.fx_expr.proofs.words.more_names.Given as goal

abbrev pub invariant-loop : goal.invariant-loop
invariant-loop l = shadow (Utf8 l.rest)
    × (with_names l.names.items (names_at (length (chars l.text) - l.counter) (chars l.rest))
    ≡ with_names l.fn.first.items (names_at (length (chars l.text)) (chars l.text)))
