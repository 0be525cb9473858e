-- The lines of a stream one by one, and what is written for them.
use Rattle.std.proofs.Common.{◌≡◌, ◌≤◌, ◌<◌, ◌+◌, suc, ℕ, Bool, true, false, inl, inr, not, List, [], ◌∷◌, ◌++◌, length, take, drop, length-drop, ◌-◌, Option, Some, None, Result, Ok, Err, refl, sym, ◌∙◌, ap, arith, append-nil, cond}
use Rattle.std.specs.Result.{IsErr, IsOkAnd}
use Rattle.std.specs.List.{slice_split, position, position_or_len, before_first, after_first, onto_first}
use Rattle.std.proofs.Math.Seq.{take_all}
use Rattle.std.proofs.lemmas.Bool.Decides.{leb_tells}
use Rattle.std.proofs.lemmas.List.Splits.{length-slice_split, slice_split_first}
use Rattle.fx_delta.specs.Stream.{Flaw, first_screen, Screen, Shown, Step, after_line, is_line_feed, shown, shown_parts, told}
use Rattle.fx_port.specs.Pieces.{Writes, grown}
use Rattle.fx_port.proofs.Growth.{goes_on, reaches_end, stops_within, up_to_start}
use Rattle.fxview.specs.Showing.{written_for}

-- where no element passes there is one part
one_part : (p : ℕ → Bool) (xs : List ℕ) → length xs ≤ position_or_len p xs → slice_split p xs ≡ xs ∷ []
one_part p [] h = refl
one_part p (x ∷ xs) h = go (p x) (λ h. one_part p xs h) h
  where
    go : (b : Bool) → (length xs ≤ position_or_len p xs → slice_split p xs ≡ xs ∷ []) → length (x ∷ xs) ≤ cond (not b) (1 + position_or_len p xs) 0
        → cond b ([] ∷ slice_split p xs) (onto_first x (slice_split p xs)) ≡ (x ∷ xs) ∷ []
    go true ih h = absurd (omega arith)
    go false ih h = ap (onto_first x) (ih (omega arith))

pub split-none : (text : List ℕ) → position is_line_feed text ≡ None → slice_split is_line_feed text ≡ text ∷ []
split-none text e = elim (leb_tells (suc (position_or_len is_line_feed text)) (length text)) [
  | inl t ↦ absurd (some (ap (λ b. cond b (Some (position_or_len is_line_feed text)) None) (sym t.0) ∙ e))
  | inr t ↦ one_part is_line_feed text (omega (arith, t.1))
]
  where
    some : Some (position_or_len is_line_feed text) ≡ None → ⊥
    some e = cc

pub split-some : (text : List ℕ) (end : ℕ) → position is_line_feed text ≡ Some end
    → (end ≡ position_or_len is_line_feed text) × (slice_split is_line_feed text ≡ before_first is_line_feed text ∷ slice_split is_line_feed (after_first is_line_feed text))
split-some text end e = elim (leb_tells (suc (position_or_len is_line_feed text)) (length text)) [
  | inl t ↦ (same (ap (λ b. cond b (Some (position_or_len is_line_feed text)) None) (sym t.0) ∙ e), slice_split_first is_line_feed text 0 (omega (arith, t.1)))
  | inr t ↦ absurd (none (ap (λ b. cond b (Some (position_or_len is_line_feed text)) None) (sym t.0) ∙ e))
]
  where
    same : Some (position_or_len is_line_feed text) ≡ Some end → end ≡ position_or_len is_line_feed text
    same e = cc

    none : None ≡ Some end → ⊥
    none e = cc

-- what is still to be shown
abbrev pub left_of : ℕ → Screen → List ℕ → Shown
left_of number viewer rest = shown_parts number viewer (slice_split is_line_feed rest)

pub left_of-first : (stream : List ℕ) (viewer : Screen) → viewer ≡ first_screen → left_of 1 viewer stream ≡ shown stream
unfolding shown
left_of-first stream viewer e = ap (λ (v : Screen). left_of 1 v stream) e

some_part : (text : List ℕ) → slice_split is_line_feed text ≡ [] → ⊥
some_part text e = let many = length-slice_split is_line_feed text in let none = ap length e in omega (arith, many, none)

-- by the first line
by_line : (number : ℕ) (viewer : Screen) (line rest behind : List ℕ) → slice_split is_line_feed rest ≡ line ∷ slice_split is_line_feed behind
    → left_of number viewer rest ≡ told number (after_line viewer line) (λ after. left_of (number + 1) after behind)
by_line number viewer line rest behind e =
    ap (shown_parts number viewer) e ∙ go (slice_split is_line_feed behind) (some_part behind)
  where
    go : (parts : List (List ℕ)) → (parts ≡ [] → ⊥)
        → shown_parts number viewer (line ∷ parts) ≡ told number (after_line viewer line) (λ after. shown_parts (number + 1) after parts)
    go [] h = absurd (h refl)
    go (part ∷ parts) h = refl

-- a good line: what it gave, and what is then left
pub record GoesOn (mid new : Option (List ℕ)) (before after : Shown) : Type 0 where
  pub given : List ℕ
  pub bytes : before.bytes ≡ given ++ after.bytes
  pub bad : before.bad ≡ after.bad
  pub grew : new ≡ grown mid given

pub left_of-good : (mid new : Option (List ℕ)) (number : ℕ) (viewer after : Screen) (line rest behind : List ℕ)
    → slice_split is_line_feed rest ≡ line ∷ slice_split is_line_feed behind
    → IsOkAnd (after_line viewer line) (λ does. (after ≡ does.screen) × (new ≡ grown mid does.written))
    → GoesOn mid new (left_of number viewer rest) (left_of (number + 1) after behind)
left_of-good mid new number viewer after line rest behind split good =
    go (after_line viewer line) (by_line number viewer line rest behind split) good
  where
    go : (step : Result Step Flaw) → left_of number viewer rest ≡ told number step (λ after. left_of (number + 1) after behind)
        → IsOkAnd step (λ does. (after ≡ does.screen) × (new ≡ grown mid does.written))
        → GoesOn mid new (left_of number viewer rest) (left_of (number + 1) after behind)
    go (Err flaw) is good = absurd good
    go (Ok does) is good =
        let same : left_of (number + 1) does.screen behind ≡ left_of (number + 1) after behind =
        ap (λ (s : Screen). left_of (number + 1) s behind) (sym good.0) in
        record {
          given = does.written;
          bytes = ap (λ (s : Shown). s.bytes) is ∙ ap (λ (s : Shown). does.written ++ s.bytes) same;
          bad = ap (λ (s : Shown). s.bad) is ∙ ap (λ (s : Shown). s.bad) same;
          grew = good.1;
        }

-- a bad line ends all
pub left_of-bad : (number : ℕ) (viewer : Screen) (line rest behind : List ℕ)
    → slice_split is_line_feed rest ≡ line ∷ slice_split is_line_feed behind → IsErr (after_line viewer line)
    → ((left_of number viewer rest).bytes ≡ []) × ((left_of number viewer rest).bad ≡ Some number)
left_of-bad number viewer line rest behind split bad =
    go (after_line viewer line) (by_line number viewer line rest behind split) bad
  where
    go : (step : Result Step Flaw) → left_of number viewer rest ≡ told number step (λ after. left_of (number + 1) after behind)
        → IsErr step → ((left_of number viewer rest).bytes ≡ []) × ((left_of number viewer rest).bad ≡ Some number)
    go (Ok does) is bad = let no : false ≡ true = bad in absurd (cc)
    go (Err flaw) is bad = (ap (λ (s : Shown). s.bytes) is, ap (λ (s : Shown). s.bad) is)

-- what a line gives begins what is left
pub left_of-begins : (number : ℕ) (viewer : Screen) (line rest behind : List ℕ)
    → slice_split is_line_feed rest ≡ line ∷ slice_split is_line_feed behind
    → (more : List ℕ) × ((left_of number viewer rest).bytes ≡ written_for (after_line viewer line) ++ more)
left_of-begins number viewer line rest behind split =
    go (after_line viewer line) (by_line number viewer line rest behind split)
  where
    go : (step : Result Step Flaw) → left_of number viewer rest ≡ told number step (λ after. left_of (number + 1) after behind)
        → (more : List ℕ) × ((left_of number viewer rest).bytes ≡ written_for step ++ more)
    go (Ok does) is = ((left_of (number + 1) does.screen behind).bytes, ap (λ (s : Shown). s.bytes) is)
    go (Err flaw) is = ([], ap (λ (s : Shown). s.bytes) is)

-- bytes, and then what a call writes
pub writes_behind : {T E : Type 0} {old mid new : Option (List ℕ)} (result : Result T E) (front back : List ℕ)
    → mid ≡ grown old front → Writes mid new result back → Writes old new result (front ++ back)
writes_behind {old = old} (Ok x) front back e w =
    record {
      ok = reaches_end (goes_on back [] (goes_on front back (up_to_start old (front ++ back)) refl e) (sym (append-nil back)) w.ok) refl;
      err = tt;
    }
writes_behind {old = old} (Err x) front back e w =
    record {
      ok = tt;
      err = stops_within [] (goes_on front back (up_to_start old (front ++ back)) refl e) (sym (append-nil back)) w.err;
    }

-- the two parts as slices
pub parts_at : (text : List ℕ) (end : ℕ) → position is_line_feed text ≡ Some end → end < length text
    → (slice_split is_line_feed text ≡ take end text ∷ slice_split is_line_feed (take (length text - (end + 1)) (drop (end + 1) text)))
    × (length (take (length text - (end + 1)) (drop (end + 1) text)) < length text)
parts_at text end e within =
    let is = split-some text end e in
    let whole : take (length text - (end + 1)) (drop (end + 1) text) ≡ drop (end + 1) text =
    take_all (length text - (end + 1)) (drop (end + 1) text) (omega (arith, length-drop (end + 1) text)) in (
      is.1 ∙ ap (λ (n : ℕ). take n text ∷ slice_split is_line_feed (drop (n + 1) text)) (sym is.0)
          ∙ ap (λ (l : List ℕ). take end text ∷ slice_split is_line_feed l) (sym whole),
      omega (arith, ap length whole, length-drop (end + 1) text),
    )
