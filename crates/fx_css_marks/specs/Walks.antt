-- A walk along the marks of a text: what is left of them.
use Rattle.std.specs.Prelude.{ℕ, Bool, ◌==◌, List, Option, Some, None, if◌then◌else◌}
use Rattle.fx_css_marks.specs.declared.marks.Mark.{Mark}
use Rattle.fx_css_marks.specs.declared.walk.Walk.{Walk}
use Rattle.memchr.specs.Find.{is_byte}
use Rattle.fx_text.specs.Classes.{is_quote}
use Rattle.fx_css_marks.specs.Lengths.{is_stop}
use Rattle.fx_css_marks.specs.Scanning.{Mode, Plain, Quoted, scanned}

-- inside a quoted text or outside
abbrev pub mode_of : Option ℕ → Mode
mode_of None = Plain
mode_of (Some q) = Quoted q

-- the marks of what is left
abbrev pub left : Walk → List Mark
left walk = scanned (mode_of walk.quote) walk.position walk.rest.now

-- what ends a quoted text of this quote, or outside may begin something
abbrev pub stops : Option ℕ → ℕ → Bool
stops None = is_stop
stops (Some q) = is_byte q

-- the quote that ends the text behind the byte b of a quoted text
abbrev pub still_open : ℕ → ℕ → Option ℕ
still_open q b = if b == q then None else Some q

-- and behind a byte outside
abbrev pub opened : ℕ → Option ℕ
opened b = if is_quote b then Some b else None
