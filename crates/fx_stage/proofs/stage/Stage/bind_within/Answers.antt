use Rattle.std.proofs.Common.{◌∙◌, ℕ, List, ap, length, map, sym}
use Rattle.fx_expr.specs.Tree.{Tree, is_within, tree}
use Rattle.fx_script_commands.specs.Requests.{expression_view}
use Rattle.fx_stage_model.specs.Answers.{all}
use Rattle.fx_stage_model.specs.Looking.{find}
use Rattle.fx_stage.proofs.BindingLemmas.{bind_refused, operands_as_many}
use Rattle.fx_stage.proofs.stage.Stage.bind_within.Goals as goal

pub change_store-requires-clause-fit : goal.change_store-requires-clause-fit
change_store-requires-clause-fit g c =
    let found =
    c.in-Ok.ensures ∙ ap (λ (ps : List (List (List ℕ))). all (map (find c.args.self.now) ps)) c.as_slice.ensures in
    let many =
    operands_as_many c.args.self.now c.args.parsed.now.paths c.find_property.result c.in-Ok.operands c.in-Ok-both.name
    c.in-Ok-both.operands found (sym c.both.ensures ∙ c.in-Ok-both.is) in
    ap (λ (t : Tree). is_within t (length c.from_vec.result)) c.in-Ok-formula_of.ensures
    ∙ ap (is_within (tree c.args.parsed.now.expr)) (ap length c.from_vec.ensures ∙ many) ∙ c.requires.places

pub returns-in-Err-clause-taken : goal.returns-in-Err-clause-taken
returns-in-Err-clause-taken g c =
    let found =
    c.in-Ok.ensures ∙ ap (λ (ps : List (List (List ℕ))). all (map (find c.args.self.now) ps)) c.as_slice.ensures in
    bind_refused c.args.self.now c.args.path.now (expression_view c.args.parsed.now) c.find_property.result c.in-Ok.operands
    c.in-Err.word c.find_property.ensures found (sym c.both.ensures ∙ c.in-Err.is)
