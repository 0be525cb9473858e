-- What is cut off at a time, as a function: the lengths of blocks and at-rules, and what a turn reads.
use Rattle.std.specs.Prelude.{ℕ, ◌+◌, ◌-◌, ◌==◌, List, [], ◌∷◌, drop, suc, Option, Some, None, if◌then◌else◌}
use Rattle.std.specs.List.{list_any, before_first, after_first}
use Rattle.fx_css_parts.specs.declared.Selectors.{Selectors}
use Rattle.fx_css.specs.declared.parts.Numbered.{Numbered}
use Rattle.fx_css.specs.Numbered.{is_white}
use Rattle.fx_css.specs.Pieces.{warnings_in}
use Rattle.fx_css.specs.Rules.{Reading, reading_of, selected, is_at, is_open, is_close, is_semicolon}

-- the marks to the end of a block that is open, with n more open in it
abbrev pub block_length : ℕ → List Numbered → ℕ
block_length n [] = 0
block_length n (m ∷ ms) = suc (if is_open m then block_length (n + 1) ms
    else (if is_close m then (if n == 0 then 0 else block_length (n - 1) ms) else block_length n ms))

-- the marks behind an `@` to the end of its at-rule
abbrev pub at_rule_length : List Numbered → ℕ
at_rule_length [] = 0
at_rule_length (m ∷ ms) =
    suc (if is_semicolon m then 0 else (if is_open m then block_length 0 ms else at_rule_length ms))

-- what is read of the front of marks, what is dropped of it, and the rest
pub record Turn : Type 0 where
  pub readings : List Reading
  pub warnings : List ℕ
  pub rest : List Numbered

abbrev pub rule_turn : ℕ → List Numbered → List Numbered → Option Selectors → Turn
rule_turn start selectors rest None =
    record { readings = []; warnings = start ∷ []; rest = drop (block_length 0 rest) rest }
rule_turn start selectors rest (Some s) = record {
  readings = reading_of start selectors s (before_first is_close rest) ∷ [];
  warnings = warnings_in (before_first is_close rest);
  rest = after_first is_close rest;
}

-- marks that begin at start with what is no white and no `@`
unfoldable pub shown_turn : ℕ → List Numbered → Turn
shown_turn start ms = if list_any is_open ms
    then rule_turn start (before_first is_open ms) (after_first is_open ms) (selected (before_first is_open ms))
    else record { readings = []; warnings = start ∷ []; rest = [] }

unfoldable pub turn_of : Numbered → List Numbered → Turn
turn_of m ms = if is_white m then record { readings = []; warnings = []; rest = ms }
    else (if is_at m then record { readings = []; warnings = m.number ∷ []; rest = drop (at_rule_length ms) ms }
    else shown_turn m.number (m ∷ ms))

abbrev pub turn_at : List Numbered → Turn
turn_at [] = record { readings = []; warnings = []; rest = [] }
turn_at (m ∷ ms) = turn_of m ms
