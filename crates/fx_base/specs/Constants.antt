-- The constants of each family in their order: JavaFX 21 API, javafx.geometry and javafx.scene.layout.
use Rattle.std.specs.Prelude.{ℕ, List, [], ◌∷◌, codes}
use Rattle.fx_base.specs.declared.kinds.Family.{Family}
use Rattle.fx_base.specs.declared.kinds.Family.TheVariants.{Pos, Priority, HPos, VPos}

abbrev pub constants_of : Family → List (List ℕ)
constants_of Pos =
    codes "TOP_LEFT" ∷ codes "TOP_CENTER" ∷ codes "TOP_RIGHT"
    ∷ codes "CENTER_LEFT" ∷ codes "CENTER" ∷ codes "CENTER_RIGHT"
    ∷ codes "BOTTOM_LEFT" ∷ codes "BOTTOM_CENTER" ∷ codes "BOTTOM_RIGHT" ∷ []
constants_of Priority = codes "NEVER" ∷ codes "SOMETIMES" ∷ codes "ALWAYS" ∷ []
constants_of HPos = codes "LEFT" ∷ codes "CENTER" ∷ codes "RIGHT" ∷ []
constants_of VPos = codes "TOP" ∷ codes "CENTER" ∷ codes "BOTTOM" ∷ []
