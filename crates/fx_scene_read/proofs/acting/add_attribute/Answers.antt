-- a style, a constraint and a property
use Rattle.std.proofs.Common.{◌∙◌, ℕ, List, [], ◌∷◌, ap}
use Rattle.fx_doc.specs.Views.{attr_view}
use Rattle.fx_scene_acts.specs.declared.acts.Deed.{Deed}
use Rattle.fx_scene_read.proofs.WalkLemmas.{one_deed}
use Rattle.fx_scene_things.specs.Known.{known}
use Rattle.fx_scene_values.specs.Properties.{property_deed}
use Rattle.fx_scene_values.specs.Statics.{static_deed}
use Rattle.fx_scene_values.specs.Styles.{style_deed}
use Rattle.fx_scene_values.specs.Views.{scope_view}
use Rattle.fx_scene_values.specs.declared.roles.Role.TheVariants as role
use Rattle.fx_scene_read.proofs.acting.add_attribute.Goals as goal

pub returns-in_ok-style_deed-in-Style : goal.returns-in_ok-style_deed-in-Style
returns-in_ok-style_deed-in-Style c =
    let scope = scope_view c.args.scope.now in
    let names = known c.args.names.now in
    record {
      ok =
          one_deed scope names c.args.class c.args.node c.args.given (attr_view c.args.a.now) role.Style
          c.as_str.result.now c.role_of.result c.in_ok-style_deed-in-Style.field-0 c.args.a.now.position c.args.acts.now.items
          c.push.new.acts.items c.push.result c.as_str.ensures.text c.role_of.ensures c.in-Style.is
          (ap (λ (d : Deed). d ∷ []) (c.in_ok-style_deed-in-Style.ensures
          ∙ ap (style_deed scope names c.args.node) c.as_str-text.ensures.text)) c.push.ensures.ok;
    }

pub returns-in_ok-static_deed-in-Static : goal.returns-in_ok-static_deed-in-Static
returns-in_ok-static_deed-in-Static c =
    let scope = scope_view c.args.scope.now in
    let names = known c.args.names.now in
    let a = attr_view c.args.a.now in
    record {
      ok =
          one_deed scope names c.args.class c.args.node c.args.given a role.Static c.as_str.result.now
          c.role_of.result c.in_ok-static_deed-in-Static.field-0 c.args.a.now.position c.args.acts.now.items
          c.push-in-Static.new.acts.items c.push-in-Static.result c.as_str.ensures.text c.role_of.ensures c.in-Static.is
          (ap (λ (d : Deed). d ∷ []) (c.in_ok-static_deed-in-Static.ensures
          ∙ ap (static_deed scope names c.args.node a.name) c.as_str-text.ensures.text)) c.push-in-Static.ensures.ok;
    }

pub returns-in_ok-property_deed-in-Property : goal.returns-in_ok-property_deed-in-Property
returns-in_ok-property_deed-in-Property c =
    let scope = scope_view c.args.scope.now in
    let names = known c.args.names.now in
    let a = attr_view c.args.a.now in
    let told = property_deed scope names c.args.class c.args.node in
    record {
      ok =
          one_deed scope names c.args.class c.args.node c.args.given a role.Property c.as_str.result.now
          c.role_of.result c.in_ok-property_deed-in-Property.field-0 c.args.a.now.position c.args.acts.now.items
          c.push-in-Property.new.acts.items c.push-in-Property.result c.as_str.ensures.text c.role_of.ensures
          c.in-Property.is
          (ap (λ (d : Deed). d ∷ []) (c.in_ok-property_deed-in-Property.ensures
          ∙ (ap (λ (name : List ℕ). told name c.as_str-text.result.now) c.as_str-name.ensures.text
          ∙ ap (told a.name) c.as_str-text.ensures.text))) c.push-in-Property.ensures.ok;
    }
