-- The classes that a document may name: their simple names and packages (JavaFX 21 API and the Java SE API), and which
-- of them are nodes, take children, are controls, or stand for values.
use Rattle.std.specs.Prelude.{ℕ, Bool, true, false, List, [], ◌∷◌, codes, Option, Some, None}
use Rattle.fx_base.specs.declared.kinds.Family.TheVariants as family
use Rattle.fx_base.specs.declared.kinds.Kind.{Kind}
use Rattle.fx_base.specs.declared.kinds.Kind.TheVariants as kind
use Rattle.fx_kinds.specs.declared.classes.Class.{Class}
use Rattle.fx_kinds.specs.declared.classes.Class.TheVariants as class

abbrev pub name_of : Class → List ℕ
name_of class.Pane = codes "Pane"
name_of class.Region = codes "Region"
name_of class.HBox = codes "HBox"
name_of class.VBox = codes "VBox"
name_of class.BorderPane = codes "BorderPane"
name_of class.StackPane = codes "StackPane"
name_of class.AnchorPane = codes "AnchorPane"
name_of class.GridPane = codes "GridPane"
name_of class.Label = codes "Label"
name_of class.Button = codes "Button"
name_of class.ColumnConstraints = codes "ColumnConstraints"
name_of class.RowConstraints = codes "RowConstraints"
name_of class.Priority = codes "Priority"
name_of class.Insets = codes "Insets"
name_of class.Pos = codes "Pos"
name_of class.HPos = codes "HPos"
name_of class.VPos = codes "VPos"
name_of class.Font = codes "Font"
name_of class.Url = codes "URL"
name_of class.String = codes "String"
name_of class.Integer = codes "Integer"
name_of class.Double = codes "Double"
name_of class.Boolean = codes "Boolean"

abbrev pub package_of : Class → List ℕ
package_of class.Pane = codes "javafx.scene.layout"
package_of class.Region = codes "javafx.scene.layout"
package_of class.HBox = codes "javafx.scene.layout"
package_of class.VBox = codes "javafx.scene.layout"
package_of class.BorderPane = codes "javafx.scene.layout"
package_of class.StackPane = codes "javafx.scene.layout"
package_of class.AnchorPane = codes "javafx.scene.layout"
package_of class.GridPane = codes "javafx.scene.layout"
package_of class.ColumnConstraints = codes "javafx.scene.layout"
package_of class.RowConstraints = codes "javafx.scene.layout"
package_of class.Priority = codes "javafx.scene.layout"
package_of class.Label = codes "javafx.scene.control"
package_of class.Button = codes "javafx.scene.control"
package_of class.Insets = codes "javafx.geometry"
package_of class.Pos = codes "javafx.geometry"
package_of class.HPos = codes "javafx.geometry"
package_of class.VPos = codes "javafx.geometry"
package_of class.Font = codes "javafx.scene.text"
package_of class.Url = codes "java.net"
package_of class.String = codes "java.lang"
package_of class.Integer = codes "java.lang"
package_of class.Double = codes "java.lang"
package_of class.Boolean = codes "java.lang"

abbrev pub is_control : Class → Bool
is_control class.Label = true
is_control class.Button = true
is_control _ = false

-- the panes lay out children
abbrev pub takes_children : Class → Bool
takes_children class.Pane = true
takes_children class.HBox = true
takes_children class.VBox = true
takes_children class.BorderPane = true
takes_children class.StackPane = true
takes_children class.AnchorPane = true
takes_children class.GridPane = true
takes_children _ = false

-- a region, a pane or a control
abbrev pub is_node : Class → Bool
is_node class.Region = true
is_node class.Label = true
is_node class.Button = true
is_node c = takes_children c

-- the style class that a node is born with
abbrev pub birth_style : Class → Option (List ℕ)
birth_style class.Label = Some (codes "label")
birth_style class.Button = Some (codes "button")
birth_style _ = None

-- the kind of the values that a class stands for
abbrev pub value_kind : Class → Option Kind
value_kind class.Insets = Some kind.Sides
value_kind class.Font = Some kind.Int
value_kind class.String = Some kind.Text
value_kind class.Integer = Some kind.Int
value_kind class.Double = Some kind.Int
value_kind class.Boolean = Some kind.Bool
value_kind class.Pos = Some (kind.Choice family.Pos)
value_kind class.Priority = Some (kind.Choice family.Priority)
value_kind class.HPos = Some (kind.Choice family.HPos)
value_kind class.VPos = Some (kind.Choice family.VPos)
value_kind _ = None

-- every class, once
abbrev pub classes : List Class
classes = class.Pane ∷ class.Region ∷ class.HBox ∷ class.VBox
    ∷ class.BorderPane ∷ class.StackPane ∷ class.AnchorPane ∷ class.GridPane
    ∷ class.Label ∷ class.Button ∷ class.ColumnConstraints ∷ class.RowConstraints
    ∷ class.Priority ∷ class.Insets ∷ class.Pos ∷ class.HPos ∷ class.VPos
    ∷ class.Font ∷ class.Url ∷ class.String ∷ class.Integer ∷ class.Double ∷ class.Boolean ∷ []
