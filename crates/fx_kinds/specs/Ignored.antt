-- The names of attributes that change nothing.
use Rattle.std.specs.Prelude.{ℕ, Bool, ◌||◌, List, [], ◌∷◌, codes, nat_eq}
use Rattle.std.specs.List.{list_any, starts_with}
use Rattle.std.specs.Str.{bytes_eq}

-- whole names

abbrev pub ignored : List (List ℕ)
ignored = codes "xmlns"
    ∷ codes "fx:controller"
    ∷ codes "mnemonicParsing"
    ∷ codes "pickOnBounds"
    ∷ codes "cache"
    ∷ codes "cacheHint"
    ∷ codes "opaqueInsets"
    ∷ codes "snapToPixel"
    ∷ codes "accessibleText"
    ∷ codes "gridLinesVisible"
    ∷ codes "defaultButton"
    ∷ codes "cancelButton"
    ∷ codes "graphicTextGap"
    ∷ codes "contentDisplay"
    ∷ codes "textAlignment"
    ∷ []

-- these, and all that bind a prefix (Namespaces in XML 1.0, `PrefixedAttName`)
abbrev pub is_ignored : List ℕ → Bool
is_ignored name = starts_with nat_eq name (codes "xmlns:") || list_any (λ other. bytes_eq other name) ignored
