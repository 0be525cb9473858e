-- Time adds up, however it is divided into ticks.
use Rattle.std.proofs.Common.{◌≡◌, ℕ, ◌+◌, ◌*◌, ◌/◌, ◌%◌, ◌<◌, Bool, true, false, List, [], ◌∷◌, min, sum, ◌⊎◌, refl, sym, ◌∙◌, ap, inl, inr, zero-add, add_assoc, mul_assoc, mul_comm, arith}
use Rattle.std.specs.Prelude.{◌==◌, Option, Some, None, not}
use Rattle.std.specs.List.{filter_map}
use Rattle.std.proofs.Math.Nat.{add-mul-div_left, add-mul-mod_self_left, mod-add-div, zero-mod}
use Rattle.std.proofs.lemmas.Bool.{false≢true, le-leb, ne_eqb}
use Rattle.std.proofs.lemmas.List.Sums.{sum_by-cons}
use Rattle.std.proofs.lemmas.Bool.Decides.{eqb_tells, leb_tells}
use Rattle.fx_keyframes.specs.Cycles.{is_over, position}
use Rattle.fx_anim.specs.Laws.{TicksAddUp, after_ticks}
use Rattle.fx_anim.specs.Line.{Line, elapsed_after, longest, passed, set_at, sets_in, ticked}

moved_last : (a b s m : ℕ) → a + b ≡ s → s + m ≡ a + m + b
moved_last a b s m is = omega (arith, is)

mod_on : (s m d : ℕ) → (s % d + m) % d ≡ (s + m) % d
mod_on s m d =
    sym (ap (λ (n : ℕ). n % d) (moved_last (s % d) (d * (s / d)) s m (mod-add-div s d))
    ∙ add-mul-mod_self_left (s % d + m) d (s / d))

-- what was cut off before is cut off once
passed_on : (count : Option ℕ) (d s m : ℕ) → passed count d (passed count d s + m) ≡ passed count d (s + m)
passed_on None d s m =
    elim (eqb_tells d 0) [ inl same ↦ rw same.0 refl | inr apart ↦ rw apart.0 (mod_on s m (2 * d)) ]
passed_on (Some count) d s m = omega arith

passed_none : (count : Option ℕ) (d : ℕ) → 0 ≡ passed count d 0
passed_none None d = elim (eqb_tells d 0) [ inl same ↦ rw same.0 refl | inr apart ↦ rw apart.0 (sym (zero-mod (2 * d))) ]
passed_none (Some count) d = omega arith

-- a timeline that doesn't play stays so
stays : (ticks : List ℕ) (line : Line) → line.playing ≡ false → (after_ticks ticks line).playing ≡ false
stays [] line still = still
stays (ms ∷ ticks) line still = stays ticks (ticked ms line) (rw still refl)

-- a timeline that plays or not, and has come so far
abbrev come : Line → Bool → ℕ → Line
come line playing elapsed = record line { playing = playing; elapsed = elapsed }

abbrev counted : Line → ℕ → ℕ
counted line s = passed line.cycles.count (longest line.frames) s

next_is : (ms : ℕ) (line : Line) → line.playing ≡ true
    → ticked ms line ≡ come line (not (is_over line.cycles (longest line.frames) (elapsed_after ms line))) (elapsed_after ms line)
next_is ms line plays = rw plays refl

bool_cases : (b : Bool) → (b ≡ true) ⊎ (b ≡ false)
bool_cases true = inl refl
bool_cases false = inr refl

-- after each tick it has come as far as all ticks so far take it
goes : (ticks : List ℕ) (line : Line) (s : ℕ) → (after_ticks ticks (come line true (counted line s))).playing ≡ true
    → after_ticks ticks (come line true (counted line s)) ≡ come line true (counted line (s + sum ticks))
goes [] line s plays = ap (λ (n : ℕ). come line true (counted line n)) (omega arith)
goes (ms ∷ ticks) line s plays =
    let past : Bool = not (is_over line.cycles (longest line.frames) (counted line (counted line s + ms))) in
    elim (bool_cases past) [
      | inl on ↦
          let first : after_ticks ticks (come line past (counted line (counted line s + ms)))
          ≡ after_ticks ticks (come line true (counted line (s + ms))) =
          ap (λ (p : Bool). after_ticks ticks (come line p (counted line (counted line s + ms)))) on
          ∙ ap (λ (e : ℕ). after_ticks ticks (come line true e)) (passed_on line.cycles.count (longest line.frames) s ms) in
          first ∙ (goes ticks line (s + ms) (sym (ap (λ (l : Line). l.playing) first) ∙ plays)
          ∙ ap (λ (n : ℕ). come line true (counted line n)) (add_assoc s ms (sum ticks) ∙ ap (λ (n : ℕ). s + n) (sym (sum_by-cons (λ (n : ℕ). n) ms ticks))))
      | inr off ↦ absurd (false≢true (sym (stays ticks (come line past (counted line (counted line s + ms))) off) ∙ plays))
    ]

two_turns : (s d : ℕ) → s % (2 * d) + d * (2 * (s / (2 * d))) ≡ s
two_turns s d =
    ap (λ (n : ℕ). s % (2 * d) + n) (sym (ap (λ (n : ℕ). n * (s / (2 * d))) (mul_comm 2 d) ∙ mul_assoc d 2 (s / (2 * d))))
    ∙ mod-add-div s (2 * d)

mod_same : (s d : ℕ) → s % (2 * d) % d ≡ s % d
mod_same s d =
    sym (ap (λ (n : ℕ). n % d) (sym (two_turns s d)) ∙ add-mul-mod_self_left (s % (2 * d)) d (2 * (s / (2 * d))))

turn_same : (s d : ℕ) → 0 < d → s % (2 * d) / d % 2 ≡ s / d % 2
turn_same s d some =
    sym (ap (λ (n : ℕ). n / d % 2) (sym (two_turns s d))
    ∙ (ap (λ (n : ℕ). n % 2) (add-mul-div_left (s % (2 * d)) (2 * (s / (2 * d))) some)
    ∙ add-mul-mod_self_left (s % (2 * d) / d) 2 (s / (2 * d))))

-- a position is the same by what was counted
place_same : (count : Option ℕ) (reverse : Bool) (d s : ℕ) → 0 < d
    → position (record { count = count; reverse = reverse }) d (passed count d s) ≡ position (record { count = count; reverse = reverse }) d s
unfolding position
place_same None reverse d s some =
    let long : (d == 0) ≡ false = ne_eqb d 0 (λ (e : d ≡ 0). absurd (omega (arith, some, e))) in
    rw (long, turn_same s d some, mod_same s d) refl
place_same (Some count) reverse d s some =
    elim (leb_tells (d * count) s) [
      | inl past ↦
          let all : min s (d * count) ≡ d * count = omega (arith, past.1) in
          rw (all, le-leb (d * count) (d * count) (omega arith), past.0) refl
      | inr before ↦
          let all : min s (d * count) ≡ s = omega (arith, before.1) in
          ap (position (record { count = Some count; reverse = reverse }) d) all
    ]

come_is : (line : Line) → line.elapsed ≡ 0 → line.playing ≡ true → line ≡ come line true (counted line 0)
come_is line none plays =
    ap (λ (p : Bool). come line p line.elapsed) plays
    ∙ ap (λ (e : ℕ). come line true e) (none ∙ passed_none line.cycles.count (longest line.frames))

gone : (line : Line) (ticks : List ℕ) → line.elapsed ≡ 0 → line.playing ≡ true → (after_ticks ticks line).playing ≡ true
    → after_ticks ticks line ≡ come line true (counted line (sum ticks))
gone line ticks none plays on =
    let from : after_ticks ticks line ≡ after_ticks ticks (come line true (counted line 0)) =
    ap (λ (l : Line). after_ticks ticks l) (come_is line none plays) in
    from ∙ (goes ticks line 0 (sym (ap (λ (l : Line). l.playing) from) ∙ on)
    ∙ ap (λ (n : ℕ). come line true (counted line n)) (zero-add (sum ticks)))

pub ticks_add_up : TicksAddUp
ticks_add_up = record {
  passes = λ line ticks none plays some on. ap (λ (l : Line). l.elapsed) (gone line ticks none plays on);
  lists = λ line ticks ms none plays some on.
      ap (λ (l : Line). sets_in ms l) (gone line ticks none plays on)
      ∙ ap (λ (place : ℕ). filter_map (set_at line.frames place) line.targets)
      (ap (position line.cycles (longest line.frames)) (passed_on line.cycles.count (longest line.frames) (sum ticks) ms)
      ∙ place_same line.cycles.count line.cycles.reverse (longest line.frames) (sum ticks + ms) some);
}
