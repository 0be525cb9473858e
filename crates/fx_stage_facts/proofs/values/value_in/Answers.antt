use Rattle.std.proofs.Common.{◌≡◌, ◌∙◌, Option, Some, ap, subst, sym}
use Rattle.std.specs.Option.{option_copied, option_map}
use Rattle.fx_base.specs.declared.keys.Name.{Name}
use Rattle.fx_graph_refusals.specs.Known.{known_value}
use Rattle.fx_store_model.specs.Stored.{Stored}
use Rattle.fx_stage_model.specs.Looking.{property_in}
use Rattle.fx_stage_facts.specs.Places.{name_of}
use Rattle.fx_stage_facts.proofs.ValueLemmas.{value_kept}
use Rattle.fx_stage_facts.proofs.values.value_in.Goals as goal

pub returns-in-Some : goal.returns-in-Some
returns-in-Some c =
    let is : property_in (Some c.args.node.now) (name_of c.args.asked) ≡ Some c.in-Some.name.0 =
    sym c.name_in.ensures ∙ ap (λ (o : Option Name). option_map (λ (name : Name). name.0) o) c.in-Some.is in
    subst (λ (s : Stored). option_copied c.value.result ≡ known_value s.entries s.unread c.in-Some.name.0) c.store.ensures
    c.value.ensures
    ∙ value_kept c.args.stage.now.store c.args.node.now (name_of c.args.asked) c.in-Some.name.0 c.requires.read c.requires.displayed is
