-- The lines of output that tell of what a script's line did.
use Rattle.std.specs.Prelude.{ℕ, List, [], ◌∷◌, ◌++◌, codes, Option, None, Some, nat_eq, unwrap_or}
use Rattle.std.specs.Fmt.{decimal}
use Rattle.std.specs.List.{flat_map}
use Rattle.std.specs.Map.{lookup}
use Rattle.fx_text.specs.Characters.{full_stop, line_feed, space}
use Rattle.fx_base.specs.Printing.{printed}
use Rattle.fx_base.specs.declared.keys.Name.{Name}
use Rattle.fx_base.specs.declared.positions.Place.{Place}
use Rattle.fx_base.specs.declared.values.Value.{Value}
use Rattle.fx_store_model.specs.declared.changes.Notices.{Notices}
use Rattle.fx_stage_types.specs.declared.answers.Outcome.{Outcome}

-- the paths by which listeners were asked for, by the listeners' numbers
abbrev pub Written : Type 0
Written = List (ℕ × List (List ℕ))

abbrev pub ended : List ℕ → List ℕ
ended text = text ++ (line_feed ∷ [])

-- names, joined by full stops
abbrev pub path_text : List (List ℕ) → List ℕ
path_text [] = []
path_text (name ∷ names) = name ++ flat_map (λ other. full_stop ∷ other) names

-- `refused LINE WORD`
unfoldable pub refused_line : ℕ → List ℕ → List ℕ
refused_line number word = codes "refused " ++ (decimal number ++ (space ∷ ended word))

-- `say TEXT`
unfoldable pub said_line : List ℕ → List ℕ
said_line text = codes "say " ++ ended text

-- `overrun LINE`
unfoldable pub overrun_line : ℕ → List ℕ
overrun_line number = codes "overrun " ++ ended (decimal number)

-- `value NAME V`
unfoldable pub value_line : List (List ℕ) → Value → List ℕ
value_line path value = codes "value " ++ (path_text path ++ (space ∷ ended (printed value)))

-- `warn inline LINE COLUMN`
unfoldable pub warning_line : ℕ → Place → List ℕ
warning_line number place = codes "warn inline " ++ (decimal number ++ (space ∷ ended (decimal place.position.column)))

-- the path by which a living listener was asked for
abbrev pub path_of : Written → ℕ → List (List ℕ)
path_of written listener = unwrap_or (lookup (nat_eq listener) written) []

-- `invalid NAME`
unfoldable pub invalid_line : Written → Name × ℕ → List ℕ
invalid_line written notice = codes "invalid " ++ ended (path_text (path_of written notice.1))

-- `changed NAME OLD NEW`
unfoldable pub changed_line : Written → Name × ℕ × Value × Value → List ℕ
changed_line written notice =
    codes "changed " ++ (path_text (path_of written notice.1)
    ++ (space ∷ (printed notice.2 ++ (space ∷ ended (printed notice.3)))))

-- first who was told that a value is unread, then who was told of another value
abbrev pub notice_lines : Written → Notices → List ℕ
notice_lines written notices =
    flat_map (invalid_line written) notices.invalid ++ flat_map (changed_line written) notices.changed

abbrev pub value_lines : List (List ℕ) → Option Value → List ℕ
value_lines path None = []
value_lines path (Some value) = value_line path value

-- what is told of the line with this number: the value that it asked for by this path, what was dropped of an inline
-- style, and whom it told
abbrev pub outcome_lines : Written → ℕ → List (List ℕ) → Outcome → List ℕ
outcome_lines written number path outcome =
    value_lines path outcome.value
    ++ (flat_map (warning_line number) outcome.warnings ++ notice_lines written outcome.notices)
