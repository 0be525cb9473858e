-- What was loaded, as the definitions have it.
use Rattle.std.specs.Prelude.{map}
use Rattle.fx_load.specs.Loading.{Loaded as PlainLoaded}
use Rattle.fx_load.specs.declared.loading.Loaded.{Loaded}
use Rattle.fx_script_commands.specs.Requests.{line_view}

abbrev pub loaded_of : Loaded → PlainLoaded
loaded_of l = record {
  tasks = l.tasks.items;
  files = l.files.items;
  lines = map line_view l.lines.items;
  warnings = l.warnings.items;
}
