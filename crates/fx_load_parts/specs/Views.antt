-- What the loader's own structs are as the definitions have them.
use Rattle.fx_load_parts.specs.Faults.{Fault}
use Rattle.fx_load_parts.specs.Files.{Run as PlainRun}
use Rattle.fx_load_parts.specs.declared.files.FileFault.{FileFault}
use Rattle.fx_load_parts.specs.declared.files.Run.{Run}

abbrev pub run_of : Run → PlainRun
run_of run = record { scene = run.scene.now; script = run.script.now; sheets = run.sheets.now }

abbrev pub fault_of : FileFault → Fault
fault_of fault = record { kind = fault.kind; file = fault.file.now; position = fault.position }
