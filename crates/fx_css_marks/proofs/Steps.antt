-- The next mark of a walk, and how far line and column grow.
-- Below the answers on walking.
use Rattle.std.proofs.Common.{◌≡◌, ◌≤◌, ℕ, ◌+◌, ◌-◌, zero, suc, Bool, true, false, ◌&&◌, not, List, [], ◌∷◌, ◌++◌, length, map, take, drop, get_or, ◌<◌, Option, Some, None, refl, sym, ◌∙◌, ap, arith}
use Rattle.std.specs.Bool.{if◌then◌else◌}
use Rattle.std.proofs.lemmas.List.{drop-drop, take_more, take_all, map-append}
use Rattle.std.specs.Option.{is_none}
use lib.Dec.{eqb}
use Rattle.std.specs.List.{position_or_len}
use Rattle.std.proofs.lemmas.List.Sums.{prefix_len-le-length}
use Rattle.fx_base.specs.declared.positions.Place.{Place}
use Rattle.fx_base.specs.declared.positions.Position.{Position}
use Rattle.fx_css_marks.specs.declared.marks.Mark.{Mark}
use Rattle.fx_text.specs.Classes.{is_quote, is_continuation}
use Rattle.fx_base.specs.Positions.{start, after_byte, after_bytes}
use Rattle.fx_css_marks.specs.Bytes.{begins_with}
use Rattle.fx_css_marks.specs.Marks.{mark, space, Marked, position_of, place_of}
use Rattle.fx_css_marks.specs.Scanning.{scanned, marks_at, mode_after}
use Rattle.fx_css_marks.specs.Scanning as v
use Rattle.fx_css_marks.specs.Lengths.{comment_rest}
use Rattle.fx_css_marks.specs.Walks.{mode_of, stops, still_open, opened}
use Rattle.fx_css_marks.proofs.Comments.{or_left, or_right}
use Rattle.fx_css_marks.proofs.Finds.{run_front, run_more, run_most, run_none}
use Rattle.fx_css_marks.proofs.Scans.{plain_alone, quote_opens, only_scanned}
use Rattle.fx_css_marks.proofs.Spans.{whole_comment}

-- room

after_line : (p : Position) (b : ℕ) → (after_byte p b).line ≤ p.line + 1
after_line p b = cases (is_continuation b) (eqb b 10)
  where
    cases : (f l : Bool) → (if f then p else (if l then (let q : Position = record { line = p.line + 1; column = 1 } in q) else record { line = p.line; column = p.column + 1 })).line ≤ p.line + 1
    cases true l = omega arith
    cases false true = omega arith
    cases false false = omega arith

after_column : (p : Position) (b : ℕ) → (after_byte p b).column ≤ p.column + 1
after_column p b = cases (is_continuation b) (eqb b 10)
  where
    cases : (f l : Bool) → (if f then p else (if l then (let q : Position = record { line = p.line + 1; column = 1 } in q) else record { line = p.line; column = p.column + 1 })).column ≤ p.column + 1
    cases true l = omega arith
    cases false true = omega arith
    cases false false = omega arith

pub all_line : (bs : List ℕ) (p : Position) → (after_bytes p bs).line ≤ p.line + length bs
all_line [] p = omega arith
all_line (b ∷ bs) p =
    let more : (after_bytes (after_byte p b) bs).line ≤ (after_byte p b).line + length bs = all_line bs (after_byte p b) in
    let one : (after_byte p b).line ≤ p.line + 1 = after_line p b in
    omega arith

pub all_column : (bs : List ℕ) (p : Position) → (after_bytes p bs).column ≤ p.column + length bs
all_column [] p = omega arith
all_column (b ∷ bs) p =
    let more : (after_bytes (after_byte p b) bs).column ≤ (after_byte p b).column + length bs = all_column bs (after_byte p b) in
    let one : (after_byte p b).column ≤ p.column + 1 = after_column p b in
    omega arith

-- steps

quoted_by : (q : ℕ) (p : Position) (b : ℕ) (bs : List ℕ) (k : Bool) → eqb b q ≡ k → scanned (v.Quoted q) p (b ∷ bs) ≡ mark b p false ∷ scanned (mode_of (still_open q b)) (after_byte p b) bs
unfolding marks_at mode_after
quoted_by q p b bs true e = rw e refl
quoted_by q p b bs false e = rw e refl

pub quoted_step : (q : ℕ) (p : Position) (b : ℕ) (bs : List ℕ) → scanned (v.Quoted q) p (b ∷ bs) ≡ mark b p false ∷ scanned (mode_of (still_open q b)) (after_byte p b) bs
quoted_step q p b bs = quoted_by q p b bs (eqb b q) refl

bare_by : (p : Position) (b : ℕ) (bs : List ℕ) (k : Bool) → is_quote b ≡ k → (eqb b 47 && begins_with 42 bs) ≡ false
    → scanned v.Plain p (b ∷ bs) ≡ mark b p (not (is_quote b)) ∷ scanned (mode_of (opened b)) (after_byte p b) bs
bare_by p b bs true e n = quote_opens p b bs e ∙ rw e refl
bare_by p b bs false e n = plain_alone p b bs (eqb b 47) refl e n ∙ rw e refl

pub bare_step : (p : Position) (b : ℕ) (bs : List ℕ) → (eqb b 47 && begins_with 42 bs) ≡ false → scanned v.Plain p (b ∷ bs) ≡ mark b p (not (is_quote b)) ∷ scanned (mode_of (opened b)) (after_byte p b) bs
bare_step p b bs n = bare_by p b bs (is_quote b) refl n

pub comment_step : (p q r : Position) (text inside rest : List ℕ) (n : ℕ) → begins_with 42 text ≡ true → n ≡ comment_rest text → inside ≡ take n text → rest ≡ drop n text → q ≡ after_byte p 47 → r ≡ after_bytes q inside
    → scanned v.Plain p (47 ∷ text) ≡ space p ∷ scanned v.Plain r rest
comment_step p q r text inside rest n e count front back one all =
    let i : inside ≡ take (comment_rest text) text = front ∙ ap (λ k. take k text) count in
    let l : rest ≡ drop (comment_rest text) text = back ∙ ap (λ k. drop k text) count in
    whole_comment p text e
    ∙ (ap (λ y. space p ∷ scanned v.Plain (after_bytes (after_byte p 47) y) (drop (comment_rest text) text)) (sym i)
    ∙ (ap (λ y. space p ∷ scanned v.Plain (after_bytes (after_byte p 47) inside) y) (sym l)
    ∙ ap (λ y. space p ∷ scanned v.Plain y rest) (sym (all ∙ ap (λ y. after_bytes y inside) one))))

-- marks that are passed

calm_step : (quote : Option ℕ) (p : Position) (b : ℕ) (bs : List ℕ) → stops quote b ≡ false → scanned (mode_of quote) p (b ∷ bs) ≡ mark b p (is_none quote) ∷ scanned (mode_of quote) (after_byte p b) bs
calm_step None p b bs e =
    let s : eqb b 47 ≡ false = or_right (is_quote b) (eqb b 47) e in
    plain_alone p b bs (eqb b 47) refl (or_left (is_quote b) (eqb b 47) e) (rw s refl)
calm_step (Some q) p b bs e = quoted_step q p b bs ∙ rw e refl

run_by : (quote : Option ℕ) (n : ℕ) (p : Position) (b : ℕ) (bs : List ℕ) (k : Bool) → stops quote b ≡ k → suc n ≤ position_or_len (stops quote) (b ∷ bs)
    → (n ≤ position_or_len (stops quote) bs → drop n (scanned (mode_of quote) (after_byte p b) bs) ≡ scanned (mode_of quote) (after_bytes (after_byte p b) (take n bs)) (drop n bs))
    → drop (suc n) (scanned (mode_of quote) p (b ∷ bs)) ≡ scanned (mode_of quote) (after_bytes (after_byte p b) (take n bs)) (drop n bs)
run_by quote n p b bs true e l h =
    let none : position_or_len (stops quote) (b ∷ bs) ≡ 0 = run_none (stops quote) b bs e in
    absurd (omega arith)
run_by quote n p b bs false e l h =
    let more : position_or_len (stops quote) (b ∷ bs) ≡ suc (position_or_len (stops quote) bs) = run_more (stops quote) b bs e in
    ap (λ y. drop (suc n) y) (calm_step quote p b bs e) ∙ h (omega arith)

run_passed : (quote : Option ℕ) (n : ℕ) (p : Position) (bs : List ℕ) → n ≤ position_or_len (stops quote) bs → drop n (scanned (mode_of quote) p bs) ≡ scanned (mode_of quote) (after_bytes p (take n bs)) (drop n bs)
run_passed quote zero p bs l = refl
run_passed quote (suc n) p [] l = absurd (omega arith)
run_passed quote (suc n) p (b ∷ bs) l = run_by quote n p b bs (stops quote b) refl l (λ m. run_passed quote n (after_byte p b) bs m)

pub pass_run : (quote : Option ℕ) (n most : ℕ) (p q : Position) (text within run rest : List ℕ) → within ≡ take most text → n ≡ position_or_len (stops quote) within → run ≡ take n text → rest ≡ drop n text → q ≡ after_bytes p run
    → scanned (mode_of quote) q rest ≡ drop n (scanned (mode_of quote) p text)
pass_run quote n most p q text within run rest front count ran back all =
    let l : position_or_len (stops quote) (take most text) ≤ position_or_len (stops quote) text = run_front (stops quote) most text in
    let is : n ≡ position_or_len (stops quote) (take most text) = count ∙ ap (position_or_len (stops quote)) front in
    ap (λ y. scanned (mode_of quote) y rest) (all ∙ ap (λ y. after_bytes p y) ran)
    ∙ (ap (λ y. scanned (mode_of quote) (after_bytes p (take n text)) y) back ∙ sym (run_passed quote n p text (omega arith)))

pub run_most_of : (quote : Option ℕ) (n most : ℕ) (text within : List ℕ) → within ≡ take most text → n ≡ position_or_len (stops quote) within → (n ≤ most) × (n ≤ length text)
run_most_of quote n most text within front count =
    let is : n ≡ position_or_len (stops quote) (take most text) = count ∙ ap (position_or_len (stops quote)) front in
    let l : position_or_len (stops quote) (take most text) ≤ most = run_most (stops quote) most text in
    let k : position_or_len (stops quote) (take most text) ≤ position_or_len (stops quote) text = run_front (stops quote) most text in
    let j : position_or_len (stops quote) text ≤ length text = prefix_len-le-length (λ b. not (stops quote b)) text in
    (omega arith, omega arith)

pub pass_more : (ms here more far : List Mark) (m : Mark) (i n k : ℕ) → here ≡ drop i ms → here ≡ m ∷ more → far ≡ drop n more → k ≡ i + 1 + n → far ≡ drop k ms
pass_more ms here more far m i n k e f g h =
    let one : more ≡ drop 1 (drop i ms) = ap (λ y. drop 1 y) (sym f ∙ e) in
    let sum : i + (1 + n) ≡ k = omega arith in
    g ∙ (ap (λ y. drop n y) one ∙ (drop-drop n 1 (drop i ms) ∙ (drop-drop (1 + n) i ms ∙ ap (λ y. drop y ms) sum)))

pub pass_end : (ms : List Mark) (i n : ℕ) → drop i ms ≡ [] → i ≤ n → drop n ms ≡ []
pass_end ms i n e l =
    let s : i + (n - i) ≡ n = omega arith in
    ap (λ k. drop k ms) (sym s) ∙ (sym (drop-drop (n - i) i ms) ∙ (ap (λ y. drop (n - i) y) e ∙ empty (n - i)))
  where
    empty : (k : ℕ) → drop k (let none : List Mark = [] in none) ≡ []
    empty zero = refl
    empty (suc k) = refl

pub position_on : (n : ℕ) (ms : List Mark) → position_of (drop n ms) 0 ≡ position_of ms n
position_on zero ms = refl
position_on (suc n) [] = refl
position_on (suc n) (m ∷ ms) = position_on n ms

pub position_told : (n : ℕ) (text : List ℕ) (whole rest ms : List Mark) (at : Position) → whole ≡ scanned v.Plain start text → rest ≡ drop n whole → at ≡ position_of rest 0
    → Marked start text ms → at ≡ position_of ms n
position_told n text whole rest ms at e f g marked =
    g ∙ (ap (λ y. position_of y 0) f ∙ (position_on n whole ∙ ap (λ y. position_of y n) (e ∙ sym (only_scanned marked))))

abbrev in_file : ℕ → Position → Place
in_file file at = record { file = file; position = at }

pub found_more : (file i : ℕ) (numbers : List ℕ) (whole rest : List Mark) (old new : List Place) (at : Position) → i < length numbers → old ≡ map (place_of file whole) (take i numbers)
    → rest ≡ drop (get_or numbers i 0) whole → at ≡ position_of rest 0 → new ≡ old ++ (in_file file at ∷ []) → new ≡ map (place_of file whole) (take (i + 1) numbers)
found_more file i numbers whole rest old new at l e f g h =
    let is : at ≡ position_of whole (get_or numbers i 0) = g ∙ (ap (λ y. position_of y 0) f ∙ position_on (get_or numbers i 0) whole) in
    h ∙ (ap (λ y. y ++ (in_file file at ∷ [])) e ∙ (ap (λ y. map (place_of file whole) (take i numbers) ++ (in_file file y ∷ [])) is
    ∙ (sym (map-append (place_of file whole) (take i numbers) (get_or numbers i 0 ∷ [])) ∙ ap (map (place_of file whole)) (sym (take_more numbers i 0 l)))))

pub found_all : (file i : ℕ) (text numbers : List ℕ) (whole ms : List Mark) (places : List Place) → whole ≡ scanned v.Plain start text → length numbers ≤ i
    → places ≡ map (place_of file whole) (take i numbers) → Marked start text ms → places ≡ map (place_of file ms) numbers
found_all file i text numbers whole ms places e l f marked =
    f ∙ (ap (map (place_of file whole)) (take_all i numbers l) ∙ ap (λ y. map (place_of file y) numbers) (e ∙ sym (only_scanned marked)))
