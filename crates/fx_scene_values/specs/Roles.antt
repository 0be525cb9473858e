-- What an attribute of an instance is by its name (Introduction to FXML; JavaFX 21 API).
use Rattle.std.specs.Prelude.{ℕ, List, codes, Option, Some, None, if◌then◌else◌}
use Rattle.std.specs.Str.{bytes_eq}
use Rattle.fx_events.specs.declared.kinds.EventKind.{EventKind}
use Rattle.fx_events.specs.declared.kinds.EventKind.TheVariants as event
use Rattle.fx_kinds.specs.Ignored.{is_ignored}
use Rattle.fx_scene_names.specs.Names.{is_static}
use Rattle.fx_scene_values.specs.declared.roles.Role.{Role}
use Rattle.fx_scene_values.specs.declared.roles.Role.TheVariants as role

abbrev pub mouse_handled_by : List ℕ → Option EventKind
mouse_handled_by name =
    if bytes_eq name (codes "onMouseClicked") then Some event.MouseClicked
    else (if bytes_eq name (codes "onMousePressed") then Some event.MousePressed
    else (if bytes_eq name (codes "onMouseReleased") then Some event.MouseReleased
    else (if bytes_eq name (codes "onMouseMoved") then Some event.MouseMoved
    else (if bytes_eq name (codes "onMouseDragged") then Some event.MouseDragged
    else (if bytes_eq name (codes "onMouseEntered") then Some event.MouseEntered
    else (if bytes_eq name (codes "onMouseExited") then Some event.MouseExited else None))))))

-- the type of events that the attribute of this name handles
abbrev pub handled_by : List ℕ → Option EventKind
handled_by name =
    if bytes_eq name (codes "onAction") then Some event.Action
    else (if bytes_eq name (codes "onKeyPressed") then Some event.KeyPressed else mouse_handled_by name)

abbrev pub dotted_role : List ℕ → Role
dotted_role name = if is_static name then role.Static else role.Property

abbrev pub plain_role : List ℕ → Role
plain_role name =
    if bytes_eq name (codes "style") then role.Style
    else (if bytes_eq name (codes "styleClass") then role.Classes
    else (if bytes_eq name (codes "stylesheets") then role.Sheets
    else dotted_role name))

abbrev pub handler_role : List ℕ → Option EventKind → Role
handler_role name (Some on) = role.Handler on
handler_role name None = plain_role name

unfoldable pub role_of : List ℕ → Role
role_of name =
    if bytes_eq name (codes "fx:id") then role.Name
    else (if is_ignored name then role.Ignored else handler_role name (handled_by name))
