-- A guess at a class that is verified.
use Rattle.std.proofs.Common.{◌≡◌, ℕ, true, List, Some, refl, sym, ap, ◌∙◌}
use Rattle.std.specs.Str.{bytes_eq}
use Rattle.std.proofs.lemmas.Slice.Eq.{bytes_eq-Decides}
use Rattle.fx_kinds.specs.Classes.{name_of}
use Rattle.fx_kinds.specs.declared.classes.Class.{Class}
use Rattle.fx_kinds.specs.declared.classes.Class.TheVariants as class
use Rattle.fx_scene_names.specs.Names.{class_named}

-- the simple name of a class means that class
own_name : (c : Class) → class_named (name_of c) ≡ Some c
unfolding class_named
own_name class.Pane = refl
own_name class.Region = refl
own_name class.HBox = refl
own_name class.VBox = refl
own_name class.BorderPane = refl
own_name class.StackPane = refl
own_name class.AnchorPane = refl
own_name class.GridPane = refl
own_name class.Label = refl
own_name class.Button = refl
own_name class.ColumnConstraints = refl
own_name class.RowConstraints = refl
own_name class.Priority = refl
own_name class.Insets = refl
own_name class.Pos = refl
own_name class.HPos = refl
own_name class.VPos = refl
own_name class.Font = refl
own_name class.Url = refl
own_name class.String = refl
own_name class.Integer = refl
own_name class.Double = refl
own_name class.Boolean = refl

pub guess_holds : (c : Class) (name : List ℕ) → bytes_eq (name_of c) name ≡ true → Some c ≡ class_named name
guess_holds c name e = sym (own_name c) ∙ ap class_named ((bytes_eq-Decides (name_of c) name).0 e)
