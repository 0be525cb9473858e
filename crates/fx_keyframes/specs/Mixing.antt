-- What lies between two values, in a straight line: JavaFX 21 API, javafx.animation.Interpolator (LINEAR); that steps
-- are whole is our own. Cited by src/mixing.rt.
use Rattle.std.specs.Prelude.{ℕ, ℤ, pos, ◌+◌, ◌-◌, ◌*◌, ◌/◌, ◌+ℤ◌, ◌-ℤ◌, int_le, nat_le, unsigned_abs, if◌then◌else◌}
use Rattle.fx_base.specs.declared.color.Color.{Color}
use Rattle.fx_base.specs.declared.values.Value.{Value}
use Rattle.fx_base.specs.declared.values.Value.TheVariants.{Int, Color as Painted}

-- a number moved towards another by a part of the whole way; what is left of a step is cut off
abbrev pub towards : ℤ → ℤ → ℕ → ℕ → ℤ
towards a b part whole =
    if int_le a b then a +ℤ pos (unsigned_abs (b -ℤ a) * part / whole)
    else a -ℤ pos (unsigned_abs (a -ℤ b) * part / whole)

-- the same of a channel of a colour
abbrev pub channel : ℕ → ℕ → ℕ → ℕ → ℕ
channel a b part whole = if nat_le a b then a + (b - a) * part / whole else a - (a - b) * part / whole

abbrev pub color_between : Color → Color → ℕ → ℕ → Color
color_between a b part whole = record {
  r = channel a.r b.r part whole;
  g = channel a.g b.g part whole;
  b = channel a.b b.b part whole;
  a = channel a.a b.a part whole;
}

-- a number is moved towards a number
abbrev pub int_between : ℤ → Value → ℕ → ℕ → Value
int_between a (Int b) part whole = Int (towards a b part whole)
int_between a other part whole = Int a

-- a colour towards a colour
abbrev pub painted_between : Color → Value → ℕ → ℕ → Value
painted_between a (Painted b) part whole = Painted (color_between a b part whole)
painted_between a other part whole = Painted a

-- the value at a part of the whole time between two; one that is neither a number nor a colour stays
unfoldable pub between : Value → Value → ℕ → ℕ → Value
between (Int a) to part whole = int_between a to part whole
between (Painted a) to part whole = painted_between a to part whole
between from to part whole = from
