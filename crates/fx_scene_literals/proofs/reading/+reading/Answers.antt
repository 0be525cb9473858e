-- nothing yet, and one part more
use Rattle.std.proofs.Common.{◌≡◌, ◌∙◌, List, Option, ap, map, refl, subst, sym}
use Rattle.std.specs.Result.{IfOk, OnOk}
use Rattle.fx_base.specs.declared.kinds.Kind.{Kind}
use Rattle.fx_doc.specs.Views.{attr_view, nodes_of}
use Rattle.fx_doc_runs.specs.declared.document.Attribute.{Attribute}
use Rattle.fx_doc_runs.specs.declared.document.Content.{Content}
use Rattle.fx_doc_grammar.specs.Grammar.{Attr}
use Rattle.fx_scene_flaws.specs.declared.flaws.Fault.{Fault}
use Rattle.fx_scene_instances.specs.declared.instances.Want.{Want}
use Rattle.fx_scene_instances.specs.declared.made.Found.{Found}
use Rattle.fx_scene_outline.specs.Views.{content_of, head_of}
use Rattle.fx_scene_instances.specs.Fields.{field_kind, first_made}
use Rattle.fx_scene_instances.specs.declared.made.Made.{Made}
use Rattle.fx_scene_literals.specs.Literals.{Inner, Told, closed_then, held_if, inside_then, made_from, no_value, one_told, read_in, told, whole_then, with_found}
use Rattle.fx_scene_literals.specs.declared.parts.Part.TheVariants.{One}
use Rattle.fx_scene_literals.proofs.PartLemmas.{found_more, names_more, no_first}
use Rattle.fx_scene_things.specs.Known.{known}
use Rattle.fx_scene_values.specs.Views.{scope_view}
use Rattle.fx_scene_literals.proofs.reading.+reading.Goals as goal

pub read_content-loop-item-init : goal.read_content-loop-item-init
unfolding read_in
read_content-loop-item-init t c = (refl, refl, refl)

pub read_content-loop-item-preserved : goal.read_content-loop-item-preserved
read_content-loop-item-preserved t c =
    let scope = scope_view c.args.scope.now in (
      found_more scope c.args.part c.args.made (known c.args.names.now) c.args.content.now c.loop-item.item-index
          c.item-item.result c.loop-item.first c.loop-item.found c.in_ok-found.found (known c.loop-item.names)
          c.loop-item-test.true c.item-item.is c.loop-item.invariant.0 c.loop-item.invariant.1 c.loop-item.invariant.2
          c.in_ok-found.ensures.found,
      names_more scope c.args.part c.args.made (known c.args.names.now) c.args.content.now c.loop-item.item-index
          c.item-item.result c.loop-item.first c.loop-item.found (known c.loop-item.names)
          (known c.read_part.new.names) c.loop-item-test.true c.item-item.is c.loop-item.invariant.0
          c.loop-item.invariant.1 c.loop-item.invariant.2 c.in_ok-found.ensures.names,
      no_first c.args.content.now c.loop-item.item-index c.item-item.result c.loop-item-test.true c.item-item.is,
    )

pub read_child-returns-in-One-clause-found : goal.read_child-returns-in-One-clause-found
read_child-returns-in-One-clause-found t c =
    let scope = scope_view c.args.scope.now in
    rw c.in-One.is (subst (λ (w : Want). IfOk c.read_one.result (λ (next : Found). next ≡ (one_told scope
    (λ p m k. read_in scope p m k (content_of c.args.element.now)) (known c.args.names.now) w (head_of c.args.element.now)).found))
    c.want_of.ensures c.read_one.ensures.found)

pub read_child-returns-in-One-clause-names : goal.read_child-returns-in-One-clause-names
read_child-returns-in-One-clause-names t c =
    let scope = scope_view c.args.scope.now in
    rw c.in-One.is (subst (λ (w : Want). OnOk c.read_one.result (known c.read_one.new.names ≡ (one_told scope
    (λ p m k. read_in scope p m k (content_of c.args.element.now)) (known c.args.names.now) w (head_of c.args.element.now)).names))
    c.want_of.ensures c.read_one.ensures.names)

pub read_fields-returns-clause-found : goal.read_fields-returns-clause-found
read_fields-returns-clause-found t c =
    let scope = scope_view c.args.scope.now in
    let inner : Inner = λ p m k. read_in scope p m k (content_of c.args.element.now) in
    let attributes = (head_of c.args.element.now).attributes in
    let class = c.args.class in
    let names = known c.args.names.now in
    let made : told c.in_ok-found.found (known c.made_from.new.names) ≡ made_from scope class (first_made class) names attributes =
    (λ i. told (c.in_ok-found.ensures.found i) (c.in_ok-found.ensures.names i))
    ∙ ap (λ (l : List Attribute). made_from scope class (first_made class) names (map attr_view l)) c.as_slice-attributes.ensures in
    let inside : told c.in_ok-inside.inside (known c.read_inside.new.names)
    ≡ inside_then inner class (made_from scope class (first_made class) names attributes) =
    (λ i. told (c.in_ok-inside.ensures.found i) (c.in_ok-inside.ensures.names i)) ∙ ap (inside_then inner class) made in
    let IsFound : List Attr → Told → Type 0 =
    λ l t. IfOk c.finish.result (λ (next : Found). next ≡ (whole_then l class c.args.defined t).found) in
    subst (IsFound attributes) inside
    (subst (λ (l : List Attribute). IsFound (map attr_view l) (told c.in_ok-inside.inside (known c.read_inside.new.names)))
    c.as_slice.ensures c.finish.ensures.found)

pub read_fields-returns-clause-names : goal.read_fields-returns-clause-names
read_fields-returns-clause-names t c =
    let scope = scope_view c.args.scope.now in
    let inner : Inner = λ p m k. read_in scope p m k (content_of c.args.element.now) in
    let attributes = (head_of c.args.element.now).attributes in
    let class = c.args.class in
    let names = known c.args.names.now in
    let made : told c.in_ok-found.found (known c.made_from.new.names) ≡ made_from scope class (first_made class) names attributes =
    (λ i. told (c.in_ok-found.ensures.found i) (c.in_ok-found.ensures.names i))
    ∙ ap (λ (l : List Attribute). made_from scope class (first_made class) names (map attr_view l)) c.as_slice-attributes.ensures in
    let inside : told c.in_ok-inside.inside (known c.read_inside.new.names)
    ≡ inside_then inner class (made_from scope class (first_made class) names attributes) =
    (λ i. told (c.in_ok-inside.ensures.found i) (c.in_ok-inside.ensures.names i)) ∙ ap (inside_then inner class) made in
    let IsFound : List Attr → Told → Type 0 =
    λ l t. OnOk c.finish.result (known c.finish.new.names ≡ (whole_then l class c.args.defined t).names) in
    subst (IsFound attributes) inside
    (subst (λ (l : List Attribute). IsFound (map attr_view l) (told c.in_ok-inside.inside (known c.read_inside.new.names)))
    c.as_slice.ensures c.finish.ensures.names)

pub read_held-returns-in_ok-found-in-None-clause-found : goal.read_held-returns-in_ok-found-in-None-clause-found
read_held-returns-in_ok-found-in-None-clause-found t c =
    let scope = scope_view c.args.scope.now in
    let inner : Inner = λ p m k. read_in scope p m k (content_of c.args.element.now) in
    let names = known c.args.names.now in
    let content = c.as_slice-content.result.now in
    let kind = field_kind c.args.class c.args.field in
    c.with_found.ensures
    ∙ (ap (λ (f : Found). with_found c.args.field f c.args.made)
    (c.in_ok-found-in-None.ensures.found
    ∙ (ap (λ (k : Kind). (read_in scope (One k) c.no_value.result names (nodes_of content)).found) c.field_kind.ensures
    ∙ (ap (λ (m : Made). (read_in scope (One kind) m names (nodes_of content)).found) c.no_value.ensures
    ∙ ap (λ (l : List Content). (read_in scope (One kind) no_value names (nodes_of l)).found) c.as_slice-content.ensures.value)))
    ∙ sym (ap (λ (fault : Option Fault). (held_if inner names c.args.class c.args.field c.args.made fault).found)
    (sym c.bare_fault.ensures ∙ c.in-None.is)))

pub read_reference-returns-clause-names : goal.read_reference-returns-clause-names
read_reference-returns-clause-names t c =
    let scope = scope_view c.args.scope.now in
    let inner : Inner = λ p m k. read_in scope p m k (content_of c.args.element.now) in
    subst (λ (f : Found). OnOk c.read_closed.result (known c.read_closed.new.names
    ≡ (closed_then inner (told f (known c.args.names.now))).names)) c.in_ok-found.ensures c.read_closed.ensures.names
