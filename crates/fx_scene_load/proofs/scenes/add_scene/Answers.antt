-- the documents are read, and behind them the bindings are resolved
use Rattle.std.proofs.Common.{Vec, List, ℕ, Some, ap}
use Rattle.std.specs.Global.{Global}
use Rattle.fx_doc.specs.Views.{reading}
use Rattle.fx_scene_course.specs.Courses.{first_course}
use Rattle.fx_scene_course.specs.Views.{course_view}
use Rattle.fx_scene_load.proofs.SceneLemmas.{scene_done}
use Rattle.fx_scene_load.proofs.scenes.add_scene.Goals as goal

pub returns-clause-made : goal.returns-clause-made
returns-clause-made g c = λ files e.
    scene_done files c.args.file c.args.name.now (course_view c.first_course-course.result)
    (first_course c.args.before.tasks.items c.args.before.files.items) (course_view c.read_whole.new.course)
    (reading c.args.document.now) c.in_ok-scene_of.field-0.tasks.items c.in_ok-scene_of.field-0.files.items
    c.as_slice.result.now c.in_ok-around.around.items (Some c.new.result.items) c.first_course-course.ensures
    c.as_slice.ensures c.in_ok-around.ensures (ap Some c.new.ensures.items) c.in_ok-scene_of.ensures.tasks
    (ap (λ (v : Vec (List ℕ) Global). v.items) c.in_ok-scene_of.ensures.files) (c.in_ok-read_whole.ensures.done files e)
