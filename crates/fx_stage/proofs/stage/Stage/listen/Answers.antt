use Rattle.std.proofs.Common.{◌≡◌, ◌≤◌, ◌+◌, ◌++◌, ◌∙◌, ℕ, List, Result, ap, option_to_list, subst, sym}
use Rattle.std.specs.Option.{option_copied}
use Rattle.fx_stage_types.specs.declared.refusals.Refusal.{Refusal}
use Rattle.fx_stage_model.specs.Answers.{Taken, cost_of}
use Rattle.fx_stage_model.specs.Listening.{tag_of, with_run}
use Rattle.fx_stage_model.specs.Taking.{IsTaken}
use Rattle.fx_stage_model.specs.World.{World}
use Rattle.fx_stage.proofs.ListenLemmas.{listen_is}
use Rattle.fx_stage.proofs.stage.Stage.listen.Goals as goal

pub returns-clause-taken : goal.returns-clause-taken
returns-clause-taken g c =
    let now = c.args.self.now in
    let action = option_copied c.args.action in
    let run_is = ap (λ (w : World). w.names.run) c.self.view_is in
    let tag = c.tag_of.ensures ∙ ap (λ (run : List (List ℕ)). tag_of run action) (c.as_slice-2.ensures.value ∙ run_is) in
    let runs =
    subst (λ (run : List (List ℕ)). run ++ option_to_list c.in-Ok-new_action.runs ≡ with_run action run)
    (c.as_slice.ensures.value ∙ run_is) c.in-Ok-new_action.ensures in
    subst (λ (r : Result Taken Refusal). IsTaken r now c.add_listener.new.self c.add_listener.result)
    (sym
    (listen_is now c.args.kind.now c.args.path.now action (option_copied c.args.label) c.in-Ok.found
    c.listen_kind_named.result c.tag_of.result c.in-Ok-copy_names.asked c.in-Ok-new_action.runs
    (sym c.find_both.ensures ∙ c.in-Ok.is) c.listen_kind_named.ensures tag c.in-Ok-copy_names.ensures runs))
    c.add_listener.ensures.taken

pub returns-clause-few : goal.returns-clause-few
returns-clause-few g c =
    let now = c.args.self.now in
    let action = option_copied c.args.action in
    let run_is = ap (λ (w : World). w.names.run) c.self.view_is in
    let tag = c.tag_of.ensures ∙ ap (λ (run : List (List ℕ)). tag_of run action) (c.as_slice-2.ensures.value ∙ run_is) in
    let runs =
    subst (λ (run : List (List ℕ)). run ++ option_to_list c.in-Ok-new_action.runs ≡ with_run action run)
    (c.as_slice.ensures.value ∙ run_is) c.in-Ok-new_action.ensures in
    subst (λ (r : Result Taken Refusal). c.add_listener.new.work.evaluated ≤ c.args.work.now.evaluated + cost_of r)
    (sym
    (listen_is now c.args.kind.now c.args.path.now action (option_copied c.args.label) c.in-Ok.found
    c.listen_kind_named.result c.tag_of.result c.in-Ok-copy_names.asked c.in-Ok-new_action.runs
    (sym c.find_both.ensures ∙ c.in-Ok.is) c.listen_kind_named.ensures tag c.in-Ok-copy_names.ensures runs))
    c.add_listener.ensures.few
