-- What is said so far of a text, and what a step adds to it.
use Rattle.std.specs.Prelude.{◌≡◌, ℕ, List, ◌++◌}
use Rattle.fx_base.specs.declared.positions.Position.{Position}
use Rattle.fx_css_marks.specs.declared.marks.Mark.{Mark}
use Rattle.fx_css_marks.specs.declared.saying.Said.{Said}
use Rattle.fx_css_marks.specs.Marks.{bytes, signs}
use Rattle.fx_css_marks.specs.Scanning.{Plain, scanned}

-- wherever the text begins, marks with these bytes and signs stand before those of what is left
pub record Says (text left said meant : List ℕ) : Type 0 where
  pub behind : Position → Position
  pub front : Position → List Mark
  pub scan : (p : Position) → scanned Plain p text ≡ front p ++ scanned Plain (behind p) left
  pub bytes : (p : Position) → bytes (front p) ≡ said
  pub signs : (p : Position) → signs (front p) ≡ meant

-- what was said up to this text is said up to what is left of it
pub record Took (old new : Said) (text left : List ℕ) : Type 0 where
  pub says : (whole : List ℕ) → Says whole text old.bytes.items old.signs.items
      → Says whole left new.bytes.items new.signs.items
