-- What is kept while documents are read, as definitions have it.
use Rattle.std.specs.Prelude.{map}
use Rattle.std.specs.Option.{option_map}
use Rattle.fx_scene_course.specs.Courses.{Course as PlainCourse}
use Rattle.fx_scene_course.specs.Opens.{Open as PlainOpen}
use Rattle.fx_scene_course.specs.declared.courses.Course.{Course}
use Rattle.fx_scene_course.specs.declared.opens.Open.{Open}
use Rattle.fx_scene_things.specs.Known.{space_view}

abbrev pub course_view : Course → PlainCourse
course_view c = record {
  tasks = c.tasks.items;
  files = c.files.items;
  classes = c.classes.items;
  bindings = c.bindings.items;
  spaces = map space_view c.spaces.items;
  at_fault = c.at_fault;
}

abbrev pub open_view : Open → PlainOpen
open_view o = record {
  file = o.file;
  name = o.name.now;
  imports = o.imports.now;
  around = o.around.items;
  path = option_map (λ path. path.items) o.path;
  stand = o.stand;
}
