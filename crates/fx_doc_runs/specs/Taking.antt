-- Characters that only make a text longer: what taking one in place leaves.
-- The reader's own functions cite these; no public clause does.
use Rattle.std.specs.Prelude.{◌≡◌, ◌≢◌, ◌+◌, ℕ, Bool, true, false, [], ◌∷◌, ◌++◌, length, Result, Ok, Err}
use Rattle.std.specs.String.{string_bytes}
use Rattle.fx_doc_grammar.specs.Characters.{class_of, in_name}
use Rattle.fx_doc_grammar.specs.Grammar.{is_quote, value_byte, one_sign}
use Rattle.fx_doc_grammar.specs.Machine.{is_open}
use Rattle.fx_doc_grammar.specs.declared.Class.{Class}
use Rattle.fx_doc_grammar.specs.declared.Class.TheVariants.{Less, Ampersand}
use Rattle.fx_base.specs.declared.positions.Position.{Position}
use Rattle.fx_doc_runs.specs.Views.{level_view, stack_view}
use Rattle.fx_doc_drafts.specs.declared.drafts.Halt.{Halt}
use Rattle.fx_doc_drafts.specs.declared.drafts.Halt.TheVariants.{Long, Memory}
use Rattle.fx_doc_drafts.specs.declared.drafts.Word.{Word}
use Rattle.fx_doc_runs.specs.declared.modes.Held.{Held}
use Rattle.fx_doc_runs.specs.declared.modes.Valued.{Valued}

abbrev pub TakesName : ℕ → Word → Word → Result Bool Halt → Type 0
TakesName c w w' (Ok true) = (in_name (class_of c) ≡ true) × (string_bytes w'.text ≡ string_bytes w.text ++ (c ∷ []))
TakesName c w w' (Ok false) = w' ≡ w
TakesName c w w' (Err Long) = (in_name (class_of c) ≡ true) × (length (string_bytes w.text) ≡ 4096)
TakesName c w w' (Err Memory) = Unit {0}

-- a character of a value that is no `<`, no `&` and not its quote
abbrev pub IsPlain : Valued → Class → Type 0
IsPlain v k = (k ≢ Less) × (k ≢ Ampersand) × (is_quote v.quote k ≡ false)

abbrev pub with_value : Valued → Valued → Valued
with_value v v' = record { head = v.head; position = v.position; key = v.key; quote = v.quote; value = v'.value }

abbrev pub TakesValue : ℕ → Class → Valued → Valued → Result Bool Halt → Type 0
TakesValue c k v v' (Ok true) = IsPlain v k × (v' ≡ with_value v v')
    × (string_bytes v'.value.text ≡ string_bytes v.value.text ++ value_byte k c) × (v'.value.count ≡ v.value.count + 1)
TakesValue c k v v' (Ok false) = v' ≡ v
TakesValue c k v v' (Err Long) = IsPlain v k × (v.value.count ≡ 4096)
TakesValue c k v v' (Err Memory) = Unit {0}

-- a character of a run is no `<` and no `&`, and an element is open
abbrev pub IsSign : Held → Class → Type 0
IsSign h k = (k ≢ Less) × (k ≢ Ampersand) × (is_open (stack_view h.stack.items) ≡ true)

abbrev pub TakesSign : Position → ℕ → Class → Held → Held → Result Bool Halt → Type 0
TakesSign p c k h h' (Ok true) = IsSign h k × (h'.imports ≡ h.imports) × (h'.stack ≡ h.stack)
    × (level_view h'.level ≡ one_sign p c (level_view h.level))
TakesSign p c k h h' (Ok false) = h' ≡ h
TakesSign p c k h h' (Err Long) = IsSign h k × (h.level.run.count ≡ 4096)
TakesSign p c k h h' (Err Memory) = Unit {0}
