-- each deed as its definition has it
use Rattle.std.proofs.Common.{◌∙◌, ap, sym, subst, ℕ, List}
use Rattle.std.specs.Prelude.{OnOk}
use Rattle.fx_base.specs.declared.positions.Place.{Place}
use Rattle.fx_scene_acts.specs.Acts.{act_of}
use Rattle.fx_scene_acts.specs.declared.acts.Deed.{Deed}
use Rattle.fx_scene_acts.specs.declared.acts.Deed.TheVariants as deed
use Rattle.fx_scene_course.specs.Courses.{with_binding, with_flaw, with_step}
use Rattle.fx_scene_course.specs.Making.{IsActDone, IsSheetAdded, node_passed}
use Rattle.fx_scene_course.specs.Views.{course_view, open_view}
use Rattle.fx_scene_course.proofs.ActLemmas.{binding_done, flaw_done, named, on_ok, step_done}
use Rattle.fx_scene_course.proofs.making.do_act.Goals as goal

pub returns-in_ok-add_step-in-Step-clause-done : goal.returns-in_ok-add_step-in-Step-clause-done
returns-in_ok-add_step-in-Step-clause-done g c = λ files e.
    let IsSo : Deed → Type 0 =
    λ asked. IsActDone files (open_view c.args.here.now) (course_view c.args.course.now) (act_of c.args.act.place asked)
    (course_view c.add_step.new.course) in
    subst IsSo (sym c.in-Step.is)
    (step_done files (open_view c.args.here.now) (course_view c.args.course.now) (course_view c.add_step.new.course)
    c.args.act.place c.in-Step.step c.in_ok-step-in-Step.step c.in_ok-step-in-Step.ensures
    (c.in_ok-add_step-in-Step.ensures.ok
    ∙ ap (λ (place : Place). with_step (course_view c.args.course.now) place c.in_ok-step-in-Step.step) c.place_in-at.ensures))

pub returns-in_ok-add_flaw-in-Flaw-clause-done : goal.returns-in_ok-add_flaw-in-Flaw-clause-done
returns-in_ok-add_flaw-in-Flaw-clause-done g c = λ files e.
    let IsSo : Deed → Type 0 =
    λ asked. IsActDone files (open_view c.args.here.now) (course_view c.args.course.now) (act_of c.args.act.place asked)
    (course_view c.add_flaw.new.course) in
    subst IsSo (sym c.in-Flaw.is)
    (flaw_done files (open_view c.args.here.now) (course_view c.args.course.now) (course_view c.add_flaw.new.course)
    c.args.act.place c.in-Flaw.flaw
    (c.in_ok-add_flaw-in-Flaw.ensures.ok
    ∙ ap (λ (place : Place). with_flaw (course_view c.args.course.now) place c.in-Flaw.flaw) c.place_in-at.ensures))

pub returns-in_ok-add_binding-in-Bind-clause-done : goal.returns-in_ok-add_binding-in-Bind-clause-done
returns-in_ok-add_binding-in-Bind-clause-done g c = λ files e.
    let IsSo : Deed → Type 0 =
    λ asked. IsActDone files (open_view c.args.here.now) (course_view c.args.course.now) (act_of c.args.act.place asked)
    (course_view c.add_binding.new.course) in
    subst IsSo (sym c.in-Bind.is)
    (binding_done files (open_view c.args.here.now) (course_view c.args.course.now) (course_view c.add_binding.new.course)
    c.args.act.place c.in-Bind.binding
    (c.in_ok-add_binding-in-Bind.ensures.ok
    ∙ ap (λ (place : Place). with_binding (course_view c.args.course.now) place c.in-Bind.binding) c.place_in-at.ensures))

pub returns-in-Node-clause-done : goal.returns-in-Node-clause-done
returns-in-Node-clause-done g c = λ files e.
    let IsSo : Deed → Type 0 =
    λ asked. IsActDone files (open_view c.args.here.now) (course_view c.args.course.now) (act_of c.args.act.place asked)
    (course_view c.args.course.now) in
    subst IsSo (sym c.in-Node.is) (node_passed c.args.act.place)

pub returns-in-Sheet-clause-done : goal.returns-in-Sheet-clause-done
returns-in-Sheet-clause-done g c = λ files e.
    let IsAt : List ℕ → Type 0 =
    λ location. OnOk c.add_located.result (IsActDone files (open_view c.args.here.now) (course_view c.args.course.now)
    (act_of c.args.act.place (deed.Sheet c.in-Sheet.node location)) (course_view c.add_located.new.course)) in
    let IsSo : Deed → Type 0 =
    λ asked. OnOk c.add_located.result (IsActDone files (open_view c.args.here.now) (course_view c.args.course.now)
    (act_of c.args.act.place asked) (course_view c.add_located.new.course)) in
    subst IsSo (sym c.in-Sheet.is) (subst IsAt c.as_str.ensures.text (c.add_located.ensures.done files e))

pub returns-in_ok-from_str-in-File-clause-done : goal.returns-in_ok-from_str-in-File-clause-done
returns-in_ok-from_str-in-File-clause-done g c = λ files e.
    let IsAdded : Place → Type 0 =
    λ place. IsSheetAdded files place c.in-File.node c.from_string-name.result (course_view c.args.course.now)
    (course_view c.add_sheet.new.course) in
    let IsSo : Deed → Type 0 =
    λ asked. OnOk c.add_sheet.result (IsActDone files (open_view c.args.here.now) (course_view c.args.course.now)
    (act_of c.args.act.place asked) (course_view c.add_sheet.new.course)) in
    subst IsSo (sym c.in-File.is)
    (on_ok c.add_sheet.result
    (λ added. named files (open_view c.args.here.now) (course_view c.args.course.now) (course_view c.add_sheet.new.course)
    c.args.act.place c.in-File.node c.in-File.name c.from_string-name.result
    (c.from_string-name.ensures ∙ (c.in_ok-from_str-in-File.ensures.ok ∙ c.as_str-in-File.ensures.text))
    (subst IsAdded c.place_in-at.ensures added))
    (c.add_sheet.ensures.done files e))
