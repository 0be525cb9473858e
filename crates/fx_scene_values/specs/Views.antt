-- Forms and documents as definitions have them.
use Rattle.std.specs.Prelude.{map}
use Rattle.fx_scene_things.specs.Known.{settled_view}
use Rattle.fx_scene_values.specs.Forms as plain
use Rattle.fx_scene_values.specs.Scopes.{Scope as PlainScope, scope_of}
use Rattle.fx_scene_values.specs.declared.forms.Form.{Form}
use Rattle.fx_scene_values.specs.declared.forms.Form.TheVariants as form
use Rattle.fx_scene_values.specs.declared.scopes.Scope.{Scope}

abbrev pub form_view : Form → plain.Form
form_view (form.Literal text) = plain.Literal text.now
form_view (form.Bound text) = plain.Bound text.now
form_view (form.Named name) = plain.Named name.now
form_view (form.Located path) = plain.Located path.now
form_view form.Refused = plain.Refused

abbrev pub scope_view : Scope → PlainScope
scope_view s = scope_of s.file.now s.imports.now (map settled_view s.settled.now)
