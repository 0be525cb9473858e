-- What lies under a `Text`.
use Rattle.std.specs.Prelude.{ℕ, List, string_bytes}
use Rattle.fx_base.specs.declared.held.Held.{Held}
use Rattle.fx_base.specs.declared.held.Held.TheVariants.{Short, Long}

-- the bytes of the text
abbrev pub held_bytes : Held → List ℕ
held_bytes (Short text) = text
held_bytes (Long text) = string_bytes text
