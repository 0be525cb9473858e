-- the root of an included document, if it has one
use Rattle.std.proofs.Common.{◌∙◌, ap, subst, List, Option, slice_get}
use Rattle.std.specs.Prelude.{OnOk}
use Rattle.fx_kinds.specs.declared.classes.Class.{Class}
use Rattle.fx_scene_course.specs.Making.{AreActsDone, no_acts}
use Rattle.fx_scene_load.specs.Reading.{root_acts_if}
use Rattle.fx_scene_course.specs.Views.{course_view, open_view}
use Rattle.fx_scene_load.specs.Views.{desk_view}
use Rattle.fx_scene_outline.specs.Views.{head_of}
use Rattle.fx_scene_load.proofs.reading.read_root.Goals as goal

pub returns-in-Some-clause-done : goal.returns-in-Some-clause-done
returns-in-Some-clause-done g c = λ files e before.
    let IsDone : Option Class → Type 0 =
    λ class. OnOk c.read_root_of.result (AreActsDone files (open_view c.args.here.now) (course_view c.args.course.now)
    (root_acts_if (open_view c.args.here.now) (desk_view before c.args.desk.now) (course_view c.args.course.now)
    c.args.node (head_of c.args.element.now) class) (course_view c.read_root_of.new.course)) in
    subst IsDone (c.in-Some.ensures ∙ ap (λ (classes : List Class). slice_get classes c.args.node) c.as_slice.ensures.value)
    (c.read_root_of.ensures.done files e before)

pub returns-in-None-clause-done : goal.returns-in-None-clause-done
returns-in-None-clause-done g c = λ files e before.
    let IsDone : Option Class → Type 0 =
    λ class. AreActsDone files (open_view c.args.here.now) (course_view c.args.course.now)
    (root_acts_if (open_view c.args.here.now) (desk_view before c.args.desk.now) (course_view c.args.course.now)
    c.args.node (head_of c.args.element.now) class) (course_view c.args.course.now) in
    subst IsDone (c.in-None.ensures ∙ ap (λ (classes : List Class). slice_get classes c.args.node) c.as_slice.ensures.value)
    (no_acts (course_view c.args.course.now))
