-- What is told of what was dropped while sheets were read.
use Rattle.std.specs.Prelude.{ℕ, List, [], ◌∷◌, ◌++◌, codes}
use Rattle.std.specs.Fmt.{decimal}
use Rattle.fx_base.specs.declared.positions.Place.{Place}
use Rattle.fx_text.specs.Characters.{line_feed, space}

-- `warn FILE LINE COLUMN`
unfoldable pub warn_line : List ℕ → Place → List ℕ
warn_line name place =
    codes "warn " ++ (name ++ (space ∷ (decimal place.position.line ++ (space ∷ (decimal place.position.column
    ++ (line_feed ∷ []))))))
