-- What is answered of single steps.
use Rattle.std.specs.Prelude.{◌≡◌, ℕ, Result, Ok, Err}
use Rattle.fx_base.specs.declared.positions.Place.{Place}
use Rattle.fx_css_types.specs.declared.sheets.Sheet.{Sheet}
use Rattle.fx_load_parts.specs.Views.{fault_of}
use Rattle.fx_load_parts.specs.declared.files.LoadError.{LoadError}
use Rattle.fx_load_parts.specs.declared.files.LoadError.TheVariants as load
use Rattle.fx_port.specs.declared.files.FetchError.{FetchError}
use Rattle.fx_port.specs.declared.files.FetchError.TheVariants.{Failed, Memory}
use Rattle.fx_scene_course.specs.Courses.{Course, with_fault_in}
use Rattle.fx_scene_course.specs.Making.{with_read}

-- the answer of a fetch that gave nothing, told on
abbrev pub IsToldOn : LoadError → FetchError → Type 0
IsToldOn load.Failed error = error ≡ Failed
IsToldOn _ error = error ≡ Memory

-- what was read of a file is kept: the sheet of this number is one of the node, or at fault
abbrev pub IsSheetKept :
    {T : Type 0} → Place → ℕ → ℕ → Result Sheet LoadError → Course → Course → Result T FetchError → Type 0
IsSheetKept place node file (Ok sheet) old new (Ok done) = new ≡ with_read place node sheet old
IsSheetKept place node file (Err (load.Fault fault)) old new (Ok done) = new ≡ with_fault_in old file (fault_of fault)
IsSheetKept place node file (Err _) old new (Ok done) = ⊥
IsSheetKept place node file (Ok sheet) old new (Err error) = error ≡ Memory
IsSheetKept place node file (Err error) old new (Err other) = IsToldOn error other
