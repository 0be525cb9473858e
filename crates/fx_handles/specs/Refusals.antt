-- When no owner is made.
use Rattle.std.specs.Prelude.{◌==◌, Bool, ◌||◌, if◌then◌else◌, length, Option, Some, None}
use Rattle.fx_handles.specs.declared.OwnerError.{OwnerError}
use Rattle.fx_handles.specs.declared.OwnerError.TheVariants.{Full}
use Rattle.fx_handles.specs.Living.{Register}

-- 10,000 owners are alive, or the last birth number was given
abbrev pub is_full : Register → Bool
is_full register = (length register.living == 10000) || (register.born == 4294967295)

abbrev pub make_refusal : Register → Option OwnerError
make_refusal register = if is_full register then Some Full else None
