-- What texts spell as values.
use Rattle.std.proofs.Common.{◌≡◌, ℕ, ℤ, Bool, true, false, cond, List, length, Option, Some, None, Result, Ok, Err, IfOk, IfSome, IfNone, refl, sym, ◌∙◌, ap, nat_lt}
use Rattle.std.specs.Option.{option_and_then, option_map}
use Rattle.std.specs.Str.{chars}
use Rattle.fx_base.specs.Constants.{constants_of}
use Rattle.fx_base.specs.Printing.{kind_of}
use Rattle.fx_base.specs.declared.color.Color.{Color as Paint}
use Rattle.fx_base.specs.declared.geometry.Sides.{Sides as Insets}
use Rattle.fx_base.specs.declared.kinds.Kind.{Kind}
use Rattle.fx_base.specs.declared.kinds.Kind.TheVariants as kind
use Rattle.fx_base.specs.declared.values.Value.{Value}
use Rattle.fx_base.specs.declared.values.Value.TheVariants as value
use Rattle.fx_look.specs.Colors.{color_at}
use Rattle.fx_look.specs.Insets.{sides_at}
use Rattle.fx_look.specs.Numbers.{number_at}
use Rattle.fx_look.specs.Readings.{IsValue, place_of, truth_at, value_at}
use Rattle.fx_look.proofs.ReadingLemmas.{value_complete, value_found}
use Rattle.fx_kinds.specs.Constraints.{ConstraintEntry, TakesValue, is_in_range}
use Rattle.fx_stage_model.specs.Dressing.{constraint_at}

-- a text spells values of the kind alone
pub kind_read : (k : Kind) (text : List ℕ) (v : Value) → Some v ≡ value_at k text → kind_of v ≡ k
kind_read kind.Int text v e = by_option (number_at text) e
  where
    by_option : (o : Option ℤ) → Some v ≡ option_map value.Int o → kind_of v ≡ kind.Int
    by_option None e = absurd (cc)
    by_option (Some n) e = let same : v ≡ value.Int n = cc in ap kind_of same
kind_read kind.Bool text v e = by_option (truth_at text) e
  where
    by_option : (o : Option Bool) → Some v ≡ option_map value.Bool o → kind_of v ≡ kind.Bool
    by_option None e = absurd (cc)
    by_option (Some b) e = let same : v ≡ value.Bool b = cc in ap kind_of same
kind_read kind.Text text v e = by_test (nat_lt 4096 (length (chars text))) e
  where
    by_test : (b : Bool) → Some v ≡ cond b None (Some (value.Text text)) → kind_of v ≡ kind.Text
    by_test true e = absurd (cc)
    by_test false e = let same : v ≡ value.Text text = cc in ap kind_of same
kind_read (kind.Choice family) text v e = by_option (place_of (constants_of family) text) e
  where
    by_option : (o : Option ℕ) → Some v ≡ option_map (value.Choice family) o → kind_of v ≡ kind.Choice family
    by_option None e = absurd (cc)
    by_option (Some n) e = let same : v ≡ value.Choice family n = cc in ap kind_of same
kind_read kind.Color text v e = by_option (color_at text) e
  where
    by_option : (o : Option Paint) → Some v ≡ option_map value.Color o → kind_of v ≡ kind.Color
    by_option None e = absurd (cc)
    by_option (Some c) e = let same : v ≡ value.Color c = cc in ap kind_of same
kind_read kind.Sides text v e = by_option (sides_at number_at text) e
  where
    by_option : (o : Option Insets) → Some v ≡ option_map value.Sides o → kind_of v ≡ kind.Sides
    by_option None e = absurd (cc)
    by_option (Some s) e = let same : v ≡ value.Sides s = cc in ap kind_of same

spells_none : (kind : Kind) (text : List ℕ) (o : Option Value) → o ≡ value_at kind text
    → ((v : Value) → IsValue kind text v → ⊥) → None ≡ o
spells_none kind text None is none = refl
spells_none kind text (Some v) is none =
    absurd (none v (value_found {E = ℕ} kind text (Ok (Some v)) is))

pub value_read : {E : Type 0} (kind : Kind) (text : List ℕ) (r : Result (Option Value) E)
    → IfOk r (λ o. IfSome o (IsValue kind text)) → IfOk r (λ o. IfNone o ((v : Value) → IsValue kind text v → ⊥))
    → IfOk r (λ o. o ≡ value_at kind text)
value_read kind text (Err e) found none = tt
value_read kind text (Ok (Some v)) found none = sym (value_complete kind text v found)
value_read kind text (Ok None) found none = spells_none kind text (value_at kind text) refl none

-- a value that is in the range, and one that isn't, by whether the row takes it

abbrev in_range_of : ConstraintEntry → Value → Option Value
in_range_of entry value = cond (is_in_range entry.range value) (Some value) None

abbrev ranged : ConstraintEntry → Option Value → Option Value
ranged entry o = option_and_then (in_range_of entry) o

pub refused_value : (entry : ConstraintEntry) (text : List ℕ) (v : Value) → Some v ≡ value_at entry.kind text
    → (TakesValue entry v → ⊥) → None ≡ constraint_at entry text
refused_value entry text v is refuses =
    out (is_in_range entry.range v) (λ inside. refuses (kind_read entry.kind text v is, inside)) ∙ ap (ranged entry) is
  where
    out : (b : Bool) → (b ≡ true → ⊥) → None ≡ cond b (Some v) None
    out true never = absurd (never refl)
    out false never = refl
