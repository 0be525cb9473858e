-- a location that names a file, and one that names none
use Rattle.std.proofs.Common.{◌∙◌, ap, sym, subst}
use Rattle.fx_base.specs.declared.positions.Place.{Place}
use Rattle.fx_scene_flaws.specs.declared.flaws.Flaw.TheVariants as flaw
use Rattle.fx_scene_course.specs.Courses.{with_flaw}
use Rattle.fx_scene_course.specs.Making.{IsSheetAdded}
use Rattle.fx_scene_course.specs.Views.{course_view, open_view}
use Rattle.fx_scene_course.proofs.ActLemmas.{located, misplaced, on_ok}
use Rattle.fx_scene_course.proofs.making.add_located.Goals as goal

pub returns-in-Some-clause-done : goal.returns-in-Some-clause-done
returns-in-Some-clause-done g c = λ files e.
    let IsAdded : Place → Type 0 =
    λ place. IsSheetAdded files place c.args.node c.in-Some.target (course_view c.args.course.now)
    (course_view c.add_sheet.new.course) in
    on_ok c.add_sheet.result
    (λ added. located files (open_view c.args.here.now) (course_view c.args.course.now) (course_view c.add_sheet.new.course)
    c.args.place c.args.node c.args.location.now c.in-Some.target (sym c.in-Some.is ∙ c.in_ok-target.ensures)
    (subst IsAdded c.place_in-at.ensures added))
    (c.add_sheet.ensures.done files e)

pub returns-in_ok-add_flaw-in-None-clause-done : goal.returns-in_ok-add_flaw-in-None-clause-done
returns-in_ok-add_flaw-in-None-clause-done g c = λ files e.
    misplaced files (open_view c.args.here.now) (course_view c.args.course.now) (course_view c.add_flaw.new.course)
    c.args.place c.args.node c.args.location.now (sym c.in-None.is ∙ c.in_ok-target.ensures)
    (c.in_ok-add_flaw-in-None.ensures.ok
    ∙ ap (λ (place : Place). with_flaw (course_view c.args.course.now) place flaw.Value) c.place_in-at.ensures)
