-- The number of a demo that is asked for.
use Rattle.std.proofs.Common.{◌≡◌, ℕ, ◌-◌, ◌^◌, ◌≤◌, ◌&&◌, Bool, true, false, not, eqb, leb, if◌then◌else◌, Option, Some, None, IfSome, List, [], ◌∷◌, drop, length, refl, arith}
use Rattle.std.specs.Char.{is_ascii_digit}
use Rattle.std.specs.List.{list_all}
use Rattle.std.specs.Option.{option_map}
use Rattle.std.proofs.lemmas.Bool.{and_parts}
use Rattle.std.proofs.lemmas.Bool.Decides.{nat_tests}
use Rattle.std.proofs.Math.Nat.{mul-le-mul_right, pow-le-pow_right}
use Rattle.fx_text.specs.Digits.{number_of_digits}
use Rattle.fx_words.specs.Asking.{Arguments, IsNumbered, Word, demo_of, files_of, frames_asked, is_demo, run_from, run_of, size_asked, source_of, summary_asked}
use Rattle.fx_words.specs.Values.{is_decimal, number_up_to}
use Rattle.fx_words.specs.declared.runs.Frames.{Frames}
use Rattle.fx_words.specs.declared.runs.Size.{Size}
use Rattle.fx_words.specs.declared.runs.Source.{Source}
use Rattle.fx_words.specs.declared.runs.Source.TheVariants.{Demo}
use Rattle.fx_words.proofs.NumberLemmas.{first_digit}

-- digits of which the first is no zero
decimal_is_some : (text : List ℕ) → is_decimal text ≡ true → 1 ≤ number_of_digits text
decimal_is_some [] decimal = absurd (cc)
decimal_is_some (c ∷ cs) decimal =
    let parts = and_parts (not (eqb c 48)) (list_all is_ascii_digit (c ∷ cs)) decimal in
    let digits = and_parts (is_ascii_digit c) (list_all is_ascii_digit cs) parts.1 in
    let least : 1 ≤ c - 48 = first_digit c parts.0 digits.0 in
    let power : 10 ^ 0 ≤ 10 ^ length cs =
    pow-le-pow_right {n = 10} (omega arith) {i = 0} {j = length cs} (omega arith) in
    let most = mul-le-mul_right (10 ^ length cs) least in
    omega (arith, most)

below : (n m : ℕ) → leb n m ≡ true → n ≤ m
below n m e = grind (arith, nat_tests)

number_within : (most : ℕ) (text : List ℕ) → IfSome (number_up_to most text) (λ n. (1 ≤ n) × (n ≤ most))
unfolding number_up_to
number_within most text = by_tests (is_decimal text) (leb (number_of_digits text) most) refl refl where
  by_tests : (d b : Bool) → is_decimal text ≡ d → leb (number_of_digits text) most ≡ b
      → IfSome (if d && b then Some (number_of_digits text) else None) (λ n. (1 ≤ n) × (n ≤ most))
  by_tests true true decimal small =
      (decimal_is_some text decimal, below (number_of_digits text) most small)
  by_tests true false decimal small = tt
  by_tests false b decimal small = tt

demo_numbered : (number : Option ℕ) → IfSome number (λ n. (1 ≤ n) × (n ≤ 3600))
    → IfSome (option_map Demo number) IsNumbered
demo_numbered (Some n) within = within
demo_numbered None within = tt

demo_alone : (scene : Word) (words : List Word) → IfSome (demo_of scene words) IsNumbered
demo_alone scene [] = demo_numbered (number_up_to 3600 (drop 5 scene)) (number_within 3600 (drop 5 scene))
demo_alone scene (word ∷ words) = tt

files_numbered : (scene : Word) (words : List Word) → IfSome (files_of scene words) IsNumbered
files_numbered scene [] = tt
files_numbered scene (script ∷ sheets) = tt

source_numbered : (positionals : List Word) → IfSome (source_of positionals) IsNumbered
source_numbered [] = tt
source_numbered (scene ∷ words) = by_test (is_demo scene) where
  by_test : (b : Bool) → IfSome (if b then demo_of scene words else files_of scene words) IsNumbered
  by_test true = demo_alone scene words
  by_test false = files_numbered scene words

run_numbered : (source : Option Source) (size : Option (Option Size)) (form : Option Frames) (summary : Option Bool)
    → IfSome source IsNumbered → IfSome (run_from source size form summary) (λ run. IsNumbered run.source)
run_numbered (Some source) (Some size) (Some form) (Some summary) within = within
run_numbered (Some source) (Some size) (Some form) None within = tt
run_numbered (Some source) (Some size) None summary within = tt
run_numbered (Some source) None form summary within = tt
run_numbered None size form summary within = tt

-- so is what the words ask for
pub asked_numbered : (a : Arguments) → IfSome (run_of a) (λ run. IsNumbered run.source)
asked_numbered a =
    run_numbered (source_of a.positionals) (size_asked a.sizes) (frames_asked a.frames) (summary_asked a.summaries)
    (source_numbered a.positionals)
