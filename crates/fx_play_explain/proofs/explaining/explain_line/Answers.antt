use Rattle.std.proofs.Common.{◌++◌, ◌∙◌, ◌≤◌, ◌+◌, ℕ, List, Result, ap, refl, subst}
use Rattle.std.proofs.lemmas.Result.{on_ok_weaker}
use Rattle.fx_base.specs.declared.keys.NodeKey.{NodeKey}
use Rattle.fx_plain_explain.specs.Explaining.{explain_cost}
use Rattle.fx_plain_steps.specs.Courses.{Course}
use Rattle.fx_stage_facts.specs.Attached.{looked}
use Rattle.fx_stage_text.specs.Printing.{refused_line}
use Rattle.fx_stage_types.specs.declared.refusals.Refusal.{Refusal}
use Rattle.fx_stage_types.specs.Words.{word_of}
use Rattle.fx_play_explain.proofs.ToldLemmas.{line_refused, line_told, on_both, step_printing}
use Rattle.fx_play_explain.proofs.explaining.explain_line.Goals as goal

pub tell-requires : goal.tell-requires
tell-requires g c = record {
  attached = c.in-Ok.ensures.attached;
  empty = ap (λ (course : Course). course.text) (c.clear.ensures c.args.stage.now);
}

pub returns-in-Ok-clause-told : goal.returns-in-Ok-clause-told
returns-in-Ok-clause-told g c =
    let world = c.args.stage.now in
    let text = c.tell.new.text.items in
    let none = ap (λ (course : Course). course.heard) (c.clear.ensures world) in
    on_both c.tell.result c.tell.ensures.told c.tell.ensures.looked
    (λ told read. line_told c.args.number c.args.path.now c.args.name.now world c.in-Ok.key text
    (record { text = text; heard = c.clear.new.self.heard.items; world = c.tell.new.stage }) c.in-Ok.ensures.found told
    (step_printing text text c.clear.new.self.heard.items c.tell.new.stage (looked world) refl none read))

pub returns-in-Err-clause-told : goal.returns-in-Err-clause-told
returns-in-Err-clause-told g c =
    let world = c.args.stage.now in
    let text = c.print_refusal.new.out.items in
    let line = refused_line c.args.number (word_of c.in-Err.word) in
    let empty = ap (λ (course : Course). course.text) (c.clear.ensures world) in
    let none = ap (λ (course : Course). course.heard) (c.clear.ensures world) in
    on_ok_weaker c.print_refusal.result
    (λ is. line_refused c.args.number c.args.path.now c.args.name.now world c.in-Err.word
    (record { text = text; heard = c.clear.new.self.heard.items; world = world }) c.in-Err.ensures.found
    (step_printing text line c.clear.new.self.heard.items world world
    (is ∙ ap (λ (t : List ℕ). t ++ refused_line c.args.number c.word.result.now) empty ∙ ap (refused_line c.args.number) c.word.ensures)
    none refl))
    c.print_refusal.ensures

pub returns-in-Ok-clause-few : goal.returns-in-Ok-clause-few
returns-in-Ok-clause-few g c =
    let world = c.args.stage.now in
    subst (λ (found : Result NodeKey Refusal). c.tell.new.work.evaluated ≤ c.args.work.now.evaluated + explain_cost world found)
    c.in-Ok.ensures.found c.tell.ensures.few
