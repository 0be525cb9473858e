-- A turn at what is neither white nor an at-rule, in the words of the code.
-- Below the answers on rules.
use Rattle.std.proofs.Common.{◌≡◌, ℕ, ◌+◌, Bool, true, false, cond, not, List, [], ◌∷◌, suc, length, take, drop, refl, sym, ◌∙◌, ap, arith, Option, Some}
use Rattle.std.specs.Bool.{if◌then◌else◌}
use Rattle.std.specs.List.{list_any, before_first, after_first, position_or_len}
use Rattle.fx_css_parts.specs.Parts.{selectors_at}
use Rattle.fx_css_parts.specs.declared.Selectors.{Selectors}
use Rattle.fx_css.specs.declared.parts.Numbered.{Numbered}
use Rattle.fx_css.specs.Numbered.{bytes_of}
use Rattle.fx_css.specs.Pieces.{warnings_in}
use Rattle.fx_css.specs.Rules.{is_open, is_close, selected, reading_of}
use Rattle.fx_css.specs.Cutting.{rule_turn, shown_turn}
use Rattle.fx_css.proofs.Bodies.{suc_same, no_suc}

some_passes : (p : Numbered → Bool) (ms : List Numbered) → (position_or_len p ms ≡ length ms → ⊥) → list_any p ms ≡ true
some_passes p [] h = absurd (h refl)
some_passes p (m ∷ ms) h = cases (p m) refl (some_passes p ms)
  where
    cases : (b : Bool) → p m ≡ b → ((position_or_len p ms ≡ length ms → ⊥) → list_any p ms ≡ true) → list_any p (m ∷ ms) ≡ true
    cases true e go = rw e refl
    cases false e go = rw e (go (λ f. h (ap (λ y. cond (not y) (1 + position_or_len p ms) 0) e ∙ (ap (λ y. 1 + y) f ∙ (let z : 1 + length ms ≡ suc (length ms) = omega arith in z)))))

none_passes : (p : Numbered → Bool) (ms : List Numbered) → position_or_len p ms ≡ length ms → list_any p ms ≡ false
none_passes p [] h = refl
none_passes p (m ∷ ms) h = cases (p m) refl (none_passes p ms)
  where
    cases : (b : Bool) → p m ≡ b → (position_or_len p ms ≡ length ms → list_any p ms ≡ false) → list_any p (m ∷ ms) ≡ false
    cases true e go = absurd (no_suc (length ms) (sym (ap (λ y. cond (not y) (1 + position_or_len p ms) 0) e) ∙ h))
    cases false e go = rw e (go (sym (suc_same (length ms) (position_or_len p ms) (sym h ∙ ap (λ y. cond (not y) (1 + position_or_len p ms) 0) e))))

pub leftover_is : (start : ℕ) (ms : List Numbered) (at : ℕ) → at ≡ position_or_len is_open ms → at ≡ length ms → shown_turn start ms ≡ record { readings = []; warnings = start ∷ []; rest = [] }
unfolding shown_turn
leftover_is start ms at e f =
    let g : list_any is_open ms ≡ false = none_passes is_open ms (sym e ∙ f) in
    rw g refl

pub rule_is : (start : ℕ) (ms heading rest : List Numbered) (first : List ℕ) (at : ℕ) (o : Option Selectors) → at ≡ position_or_len is_open ms → (at ≡ length ms → ⊥) → heading ≡ take at ms → rest ≡ drop (at + 1) ms → first ≡ bytes_of heading → o ≡ selectors_at first → shown_turn start ms ≡ rule_turn start heading rest o
unfolding shown_turn selected
rule_is start ms heading rest first at o e f h r k j =
    let g : list_any is_open ms ≡ true = some_passes is_open ms (λ i. f (e ∙ i)) in
    let front : before_first is_open ms ≡ heading = sym (h ∙ ap (λ y. take y ms) e) in
    let behind : after_first is_open ms ≡ rest = sym (r ∙ ap (λ y. drop (y + 1) ms) e) in
    let judged : selectors_at (bytes_of (before_first is_open ms)) ≡ o = ap (λ y. selectors_at (bytes_of y)) front ∙ sym (j ∙ ap selectors_at k) in
    ap (λ y. if y then rule_turn start (before_first is_open ms) (after_first is_open ms) (selectors_at (bytes_of (before_first is_open ms))) else record { readings = []; warnings = start ∷ []; rest = [] }) g
    ∙ (ap (λ y. rule_turn start (before_first is_open ms) (after_first is_open ms) y) judged
    ∙ (ap (λ y. rule_turn start y (after_first is_open ms) o) front ∙ ap (λ y. rule_turn start heading y o) behind))

pub kept_is : (start : ℕ) (ms heading rest body : List Numbered) (first : List ℕ) (at end : ℕ) (o : Option Selectors) (s : Selectors) → at ≡ position_or_len is_open ms → (at ≡ length ms → ⊥) → heading ≡ take at ms → rest ≡ drop (at + 1) ms → first ≡ bytes_of heading → o ≡ selectors_at first → o ≡ Some s → end ≡ position_or_len is_close rest → body ≡ take end rest
    → shown_turn start ms ≡ record { readings = reading_of start heading s body ∷ []; warnings = warnings_in body; rest = drop (end + 1) rest }
kept_is start ms heading rest body first at end o s e f h r k j i c b =
    rule_is start ms heading rest first at o e f h r k j ∙ (ap (λ y. rule_turn start heading rest y) i
    ∙ (ap (λ y. record { readings = reading_of start heading s y ∷ []; warnings = warnings_in y; rest = after_first is_close rest }) (sym (b ∙ ap (λ y. take y rest) c))
    ∙ ap (λ y. record { readings = reading_of start heading s body ∷ []; warnings = warnings_in body; rest = drop (y + 1) rest }) (sym c)))
