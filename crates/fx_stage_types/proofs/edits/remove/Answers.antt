use Rattle.std.proofs.Common.{rules, ◌≡◌, ◌∙◌, sym, ap, not}
use Rattle.std.proofs.lemmas.Fn.{filter_same}
use Rattle.fx_kinds.specs.declared.facts.Constraint.{Constraint}
use Rattle.fx_stage_types.specs.Edits.{is_named, without_constraint}
use Rattle.fx_stage_types.proofs.edits.remove.Goals as goal

pub returns : goal.returns
returns c =
    c.from_vec.ensures
    ∙ filter_same _ (λ (constraint : Constraint). not (is_named c.args.name.now constraint)) _ (λ x b f' k. search rules) _ _
    c.retain.ensures.filtered
    ∙ ap (without_constraint c.args.name.now) (c.into_vec-items.ensures ∙ c.replace.ensures.value)
