-- Texts within their limit.
use Rattle.std.proofs.Common.{◌≡◌, ◌<◌, ℕ, List, true, false, nat_lt, length, cond, sym, ◌∙◌, ap, arith}
use Rattle.std.proofs.lemmas.Bool.Decides.{nat_tests}
use Rattle.std.specs.Str.{chars}
use Rattle.fx_base.specs.declared.values.Value.TheVariants as value
use Rattle.fx_scene_flaws.specs.declared.flaws.Flaw.TheVariants as flaw
use Rattle.fx_scene_values.specs.Values.{text_given}
use Rattle.fx_scene_values.specs.declared.values.Given.TheVariants.{Value, Flaw}

is_past : (m n : ℕ) → m < n → nat_lt m n ≡ true
is_past m n h = grind (arith, nat_tests)

isnt_past : (m n : ℕ) → (m < n → ⊥) → nat_lt m n ≡ false
isnt_past m n h = grind (arith, nat_tests, h)

pub short_text : (text found : List ℕ) → found ≡ text → (4096 < length (chars text) → ⊥)
    → Value (value.Text found) ≡ text_given text
unfolding text_given
short_text text found e short =
    ap (λ (t : List ℕ). Value (value.Text t)) e
    ∙ sym (ap (λ b. cond b (Flaw flaw.Value) (Value (value.Text text))) (isnt_past 4096 (length (chars text)) short))

pub long_text : (text : List ℕ) → 4096 < length (chars text) → Flaw flaw.Value ≡ text_given text
unfolding text_given
long_text text long =
    sym (ap (λ b. cond b (Flaw flaw.Value) (Value (value.Text text))) (is_past 4096 (length (chars text)) long))
