-- What a script file is read as, by what its reader says.
use Rattle.std.proofs.Common.{◌≡◌, ◌≤◌, ◌<◌, ℕ, ◌+◌, Bool, true, false, cond, List, [], ◌∷◌, length, take, Ok, Err, refl, sym, ap, arith}
use Rattle.std.specs.Prelude.{nat_le, not}
use Rattle.std.specs.Str.{chars, is_utf8}
use Rattle.std.specs.Str.Lines.{lines}
use Rattle.std.proofs.lemmas.Str.{is_utf8-from_IsUtf8, IsUtf8-from_is_utf8, utf8_valid_len-IsValidUpTo}
use Rattle.fx_base.specs.Positions.{after_all, start}
use Rattle.fx_load_parts.specs.Faults.{fault_at}
use Rattle.fx_load_parts.specs.Scripts.{first_past, script_of}
use Rattle.fx_scene_flaws.specs.declared.flaws.FaultKind.TheVariants as kind
use Rattle.fx_scene_flaws.specs.declared.flaws.Flaw.TheVariants as flaw
use Rattle.fx_script_commands.specs.Commands.{is_end, is_skipped}
use Rattle.fx_script_commands.specs.Requests.{Numbered}
use Rattle.fx_script_commands.specs.declared.errors.ScriptError.{ScriptError}
use Rattle.fx_script_commands.specs.declared.errors.ScriptError.TheVariants.{NotUtf8, TooManyLines, Memory}
use Rattle.fx_script_commands.specs.Scripts.{HasFault, IsScript, line_at, lines_from, opens}

few_enough : (count : ℕ) → count ≤ 100000 → nat_le count 100000 ≡ true
few_enough count h = grind arith

too_many : (count : ℕ) → 100000 < count → nat_le count 100000 ≡ false
too_many count h = grind arith

not_so : (b : Bool) → (b ≡ true → ⊥) → b ≡ false
not_so true h = absurd (h refl)
not_so false h = refl

-- the fault of a script that is none
abbrev pub IsFaultOf : List ℕ → List ℕ → ScriptError → Type 0
IsFaultOf name bytes (NotUtf8 n) =
    script_of name bytes ≡ Err (fault_at kind.NotUtf8 name (after_all start (chars (take n bytes))))
IsFaultOf name bytes TooManyLines = script_of name bytes ≡ Err (fault_at (kind.Flawed flaw.Limit) name first_past)
IsFaultOf name bytes Memory = Unit {0}

pub script_is : (name bytes : List ℕ) (read : List Numbered) → IsScript bytes read → script_of name bytes ≡ Ok read
unfolding script_of
script_is name bytes read s =
    rw (is_utf8-from_IsUtf8 bytes s.utf8, few_enough (length (lines bytes)) s.few) (ap (λ (l : List Numbered). Ok l) (sym s.are))

-- why it is none
pub script_refused : (name bytes : List ℕ) (error : ScriptError) → HasFault bytes error → IsFaultOf name bytes error
unfolding script_of
script_refused name bytes (NotUtf8 n) (bad, valid) =
    rw (not_so (is_utf8 bytes) (λ h. bad (IsUtf8-from_is_utf8 bytes h)), utf8_valid_len-IsValidUpTo bytes n valid) refl
script_refused name bytes TooManyLines (utf8, long) =
    rw (is_utf8-from_IsUtf8 bytes utf8, too_many (length (lines bytes)) long) refl
script_refused name bytes Memory fault = tt

-- at most one line is read of each
few_lines : (inside : Bool) (n : ℕ) (texts : List (List ℕ)) → length (lines_from inside n texts) ≤ length texts
unfolding lines_from
few_lines inside n [] = omega arith
few_lines true n (text ∷ texts) = omega (arith, few_lines (not (is_end text)) (n + 1) texts)
few_lines false n (text ∷ texts) =
    by_skipped (is_skipped text) (few_lines false (n + 1) texts) (few_lines (opens text) (n + 1) texts)
  where
    by_skipped : (b : Bool) → length (lines_from false (n + 1) texts) ≤ length texts
        → length (lines_from (opens text) (n + 1) texts) ≤ length texts
        → length (cond b (lines_from false (n + 1) texts) (line_at n text texts ∷ lines_from (opens text) (n + 1) texts)) ≤ length (text ∷ texts)
    by_skipped true skipped read = omega (arith, skipped)
    by_skipped false skipped read = omega (arith, read)

pub few_read : (bytes : List ℕ) (read : List Numbered) → IsScript bytes read → length read ≤ 100000
few_read bytes read s =
    let h = few_lines false 1 (lines bytes) in
    omega (arith, h, s.few, ap (λ (l : List Numbered). length l) s.are)
