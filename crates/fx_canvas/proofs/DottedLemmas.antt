-- Dots of one colour laid over some rows, at once or one after another.
use Rattle.std.proofs.Common.{◌≡◌, ◌<◌, ◌≤◌, ◌+◌, ◌-◌, ◌==◌, ◌&&◌, ◌||◌, ◌∷◌, ◌++◌, [], ◌≤ℤ◌, ℕ, ℤ, pos, suc, zero, Bool, true, false, cond, List, length, set, take, drop, refl, sym, ap, ◌∙◌, arith}
use Rattle.std.specs.List.{range_with_len, sum_by}
use Rattle.std.proofs.lemmas.Bool.Decides.{nat_tests}
use Rattle.std.proofs.lemmas.Int.{ints}
use Rattle.std.proofs.lemmas.List.{take-append-drop}
use Rattle.std.proofs.lemmas.List.Sums.{sum_by-cons}
use Rattle.fx_base.specs.Pixel.{blended}
use Rattle.fx_canvas.specs.Painting.{AreDotted, HasBytes, HasRows, HaveOneSize, count_above, dots_above}
use Rattle.fx_canvas.specs.Surfaces.{Line, row_at}
use Rattle.fx_canvas.proofs.BlockLemmas.{out_of, rows_apart, rows_more, sum_more, twice}
use Rattle.fx_canvas.proofs.DrawingLemmas.{drawn-none, drawn-same, drawn-then, drawn_row, in_row}
use Rattle.fx_pens.proofs.DotLemmas.{count-either, count-none, count-same}
use Rattle.fx_pens.proofs.LetterLemmas.{line_apart, line_more, line_nil, line_rest}
use Rattle.fx_pens.specs.Dots.{IsLaid, IsPen, char_dots, count_in, is_in, line_dots, lowered}
use Rattle.fx_pens.specs.Lines.{end_of}
use Rattle.fx_pens.specs.declared.spans.Pen.{Pen}

-- ---- sums over rows
sum_same : (f g : ℕ → ℕ) (from n : ℕ) → ((y : ℕ) → from ≤ y → y < from + n → f y ≡ g y)
    → sum_by f (range_with_len from n) ≡ sum_by g (range_with_len from n)
sum_same f g from zero h = refl
sum_same f g from (suc n) h =
    let here : f from ≡ g from = h from (omega arith) (omega arith) in
    let rest = sum_same f g (from + 1) n (λ y a b. h y (omega (arith, a)) (omega (arith, b))) in
    let one = sum_by-cons f from (range_with_len (from + 1) n) in
    let two = sum_by-cons g from (range_with_len (from + 1) n) in
    omega (arith, here, rest, one, two)

sum_both : (f g h : ℕ → ℕ) (from n : ℕ) → ((y : ℕ) → from ≤ y → y < from + n → h y ≡ f y + g y)
    → sum_by h (range_with_len from n) ≡ sum_by f (range_with_len from n) + sum_by g (range_with_len from n)
sum_both f g h from zero e = refl
sum_both f g h from (suc n) e =
    let here : h from ≡ f from + g from = e from (omega arith) (omega arith) in
    let rest = sum_both f g h (from + 1) n (λ y a b. e y (omega (arith, a)) (omega (arith, b))) in
    let one = sum_by-cons f from (range_with_len (from + 1) n) in
    let two = sum_by-cons g from (range_with_len (from + 1) n) in
    let three = sum_by-cons h from (range_with_len (from + 1) n) in
    omega (arith, here, rest, one, two, three)

sum_none : (f : ℕ → ℕ) (from n : ℕ) → ((y : ℕ) → from ≤ y → y < from + n → f y ≡ 0) → sum_by f (range_with_len from n) ≡ 0
sum_none f from zero h = refl
sum_none f from (suc n) h =
    let here : f from ≡ 0 = h from (omega arith) (omega arith) in
    let rest = sum_none f (from + 1) n (λ y a b. h y (omega (arith, a)) (omega (arith, b))) in
    let one = sum_by-cons f from (range_with_len (from + 1) n) in
    omega (arith, here, rest, one)

-- ---- tests within the rows and columns
from_of : (low high at : ℕ) → is_in low high at ≡ true → low ≤ at
from_of low high at h = grind (arith, nat_tests)

to_of : (low high at : ℕ) → is_in low high at ≡ true → at < high
to_of low high at h = grind (arith, nat_tests)

behind : (low high at : ℕ) → low ≤ high → at < low + (high - low) → at < high
behind low high at h l = omega (arith, h, l)

-- what is said of the points in a block
abbrev pub InBlock : Pen → ℕ → ℕ → (ℕ → ℕ → Type 0) → Type 0
InBlock pen top bottom P = (x y : ℕ) → pen.left ≤ x → x < pen.right → top ≤ y → y < bottom → P x y

nested : (i j : Bool) (u v w : ℕ) → (i ≡ true → j ≡ true → u ≡ v) → cond (i && j) u w ≡ cond (i && j) v w
nested true true u v w h = h refl refl
nested true false u v w h = refl
nested false j u v w h = refl

split : (i j a : Bool) (u v : ℕ) → cond (i && (j && a)) u v ≡ cond (i && j) (cond a u v) v
split true true a u v = refl
split true false a u v = refl
split false j a u v = refl

change_same : (pen : Pen) (top bottom : ℕ) (d e : ℕ → ℕ → Bool) → InBlock pen top bottom (λ x y. d x y ≡ e x y)
    → (x y c : ℕ) → dots_above pen top bottom d x y c ≡ dots_above pen top bottom e x y c
change_same pen top bottom d e h x y c =
    let i = is_in top bottom y in
    let j = is_in pen.left pen.right x in
    split i j (d x y) (blended pen.color c) c
    ∙ (nested i j (cond (d x y) (blended pen.color c) c) (cond (e x y) (blended pen.color c) c) c
    (λ p q. ap (λ t. cond t (blended pen.color c) c) (h x y (from_of pen.left pen.right x q) (to_of pen.left pen.right x q) (from_of top bottom y p) (to_of top bottom y p)))
    ∙ sym (split i j (e x y) (blended pen.color c) c))

count_same : (pen : Pen) (top bottom : ℕ) (d e : ℕ → ℕ → Bool) → pen.left ≤ pen.right → top ≤ bottom
    → InBlock pen top bottom (λ x y. d x y ≡ e x y) → count_above pen top bottom d ≡ count_above pen top bottom e
count_same pen top bottom d e rises falls h =
    sum_same (λ y. count_in (λ x. d x y) pen.left pen.right) (λ y. count_in (λ x. e x y) pen.left pen.right) top (bottom - top)
    (λ y a b. count-same (λ x. d x y) (λ x. e x y) pen.left (pen.right - pen.left)
    (λ x p q. h x y p (behind pen.left pen.right x rises q) a (behind top bottom y falls b)))

-- the same dots in other words
pub dotted-same : (pen : Pen) (top bottom : ℕ) (d e : ℕ → ℕ → Bool) (old new : List Line) (p q : ℕ) → pen.left ≤ pen.right → top ≤ bottom
    → InBlock pen top bottom (λ x y. d x y ≡ e x y) → AreDotted pen top bottom bottom d old new p q → AreDotted pen top bottom bottom e old new p q
dotted-same pen top bottom d e old new p q rises falls h drawn =
    drawn-same (dots_above pen top bottom d) (dots_above pen top bottom e) (is_in top bottom) (is_in top bottom)
    (count_above pen top bottom d) (count_above pen top bottom e) old new p q (change_same pen top bottom d e h) (λ y f. f)
    (count_same pen top bottom d e rises falls h) drawn

-- ---- no dots
no_change : (i : Bool) (u v : ℕ) → cond (i && false) u v ≡ v
no_change true u v = refl
no_change false u v = refl

pub dotted-none : (pen : Pen) (top bottom : ℕ) (d : ℕ → ℕ → Bool) (rows : List Line) (p : ℕ) → pen.left ≤ pen.right → top ≤ bottom
    → InBlock pen top bottom (λ x y. d x y ≡ false) → AreDotted pen top bottom bottom d rows rows p p
dotted-none pen top bottom d rows p rises falls h =
    let none : (x y c : ℕ) → dots_above pen top bottom d x y c ≡ c = λ x y c. change_same pen top bottom d (λ x y. false) h x y c ∙ blank x y c in
    let zero' : count_above pen top bottom d ≡ 0 = count_same pen top bottom d (λ x y. false) rises falls h
    ∙ sum_none (λ y. count_in (λ x. false) pen.left pen.right) top (bottom - top) (λ y a b. count-none pen.left (pen.right - pen.left)) in
    drawn-same (dots_above pen top bottom d) (dots_above pen top bottom d) (is_in top bottom) (is_in top bottom)
    0 (count_above pen top bottom d) rows rows p p (λ x y c. refl) (λ y f. f) (sym zero')
    (drawn-none (dots_above pen top bottom d) (is_in top bottom) rows p none)
  where
    false_too : (j : Bool) → (j && false) ≡ false
    false_too true = refl
    false_too false = refl

    blank : (x y c : ℕ) → dots_above pen top bottom (λ x y. false) x y c ≡ c
    blank x y c =
        ap (λ t. cond (is_in top bottom y && t) (blended pen.color c) c) (false_too (is_in pen.left pen.right x))
        ∙ no_change (is_in top bottom y) (blended pen.color c) c

-- ---- other dots over these
over_again : (i j a b : Bool) (f : ℕ → ℕ) (u : ℕ) → (i ≡ true → j ≡ true → (a && b) ≡ false)
    → cond (i && (j && b)) (f (cond (i && (j && a)) (f u) u)) (cond (i && (j && a)) (f u) u) ≡ cond (i && (j && (a || b))) (f u) u
over_again true true true true f u h = cc (h refl refl)
over_again true true true false f u h = refl
over_again true true false true f u h = refl
over_again true true false false f u h = refl
over_again true false a b f u h = refl
over_again false j a b f u h = refl

pub dotted-then : (pen : Pen) (top bottom : ℕ) (d e : ℕ → ℕ → Bool) (old mid new : List Line) (p q r : ℕ) → pen.left ≤ pen.right → top ≤ bottom
    → InBlock pen top bottom (λ x y. (d x y && e x y) ≡ false)
    → AreDotted pen top bottom bottom d old mid p q → AreDotted pen top bottom bottom e mid new q r
    → AreDotted pen top bottom bottom (λ x y. d x y || e x y) old new p r
dotted-then pen top bottom d e old mid new p q r rises falls apart one two =
    drawn-same (dots_above pen top bottom both) (dots_above pen top bottom both) (is_in top bottom) (is_in top bottom)
    (count_above pen top bottom d + count_above pen top bottom e) (count_above pen top bottom both) old new p r (λ x y c. refl) (λ y f. f) (sym count)
    (drawn-then (dots_above pen top bottom d) (dots_above pen top bottom e) (dots_above pen top bottom both) (is_in top bottom) (is_in top bottom) (is_in top bottom)
    (count_above pen top bottom d) (count_above pen top bottom e) old mid new p q r change (λ y f. (f, f)) one two)
  where
    both : ℕ → ℕ → Bool
    both = λ x y. d x y || e x y

    change : (x y c : ℕ) → dots_above pen top bottom e x y (dots_above pen top bottom d x y c) ≡ dots_above pen top bottom both x y c
    change x y c = over_again (is_in top bottom y) (is_in pen.left pen.right x) (d x y) (e x y) (blended pen.color) c
        (λ s t. apart x y (from_of pen.left pen.right x t) (to_of pen.left pen.right x t) (from_of top bottom y s) (to_of top bottom y s))

    count : count_above pen top bottom both ≡ count_above pen top bottom d + count_above pen top bottom e
    count = sum_both (λ y. count_in (λ x. d x y) pen.left pen.right) (λ y. count_in (λ x. e x y) pen.left pen.right) (λ y. count_in (λ x. both x y) pen.left pen.right)
        top (bottom - top)
        (λ y a b. count-either (λ x. d x y) (λ x. e x y) pen.left (pen.right - pen.left)
        (λ x s t. apart x y s (behind pen.left pen.right x rises t) a (behind top bottom y falls b)))

-- ---- one row after another
pub no_rows : (pen : Pen) (top bottom : ℕ) (d : ℕ → ℕ → Bool) (rows : List Line) (p : ℕ) → AreDotted pen top bottom top d rows rows p p
no_rows pen top bottom d rows p =
    let none : (x y c : ℕ) → dots_above pen top top d x y c ≡ c = λ x y c. (let e : is_in top top y ≡ false = grind (arith, nat_tests) in rw e refl) in
    let zero' : top - top ≡ 0 = omega arith in
    let f : ℕ → ℕ = λ k. count_in (λ x. d x k) pen.left pen.right in
    drawn-same (dots_above pen top top d) (dots_above pen top top d) (is_in top bottom) (is_in top bottom) 0 (count_above pen top top d) rows rows p p
    (λ x y c. refl) (λ y e. e) (ap (λ k. sum_by f (range_with_len top k)) (sym zero'))
    (drawn-none (dots_above pen top top d) (is_in top bottom) rows p none)

pub row_more : (pen : Pen) (top bottom at : ℕ) (d : ℕ → ℕ → Bool) (old mid : List Line) (row : Line) (p q r : ℕ)
    → top ≤ at → at < bottom → at < length mid → HasBytes pen.color
    → AreDotted pen top bottom at d old mid p q → IsLaid pen (λ x. d x at) (row_at mid at).pixels row.pixels q r
    → AreDotted pen top bottom (at + 1) d old (set mid at row) p r
row_more pen top bottom at d old mid row p q r low high within small drawn laid =
    let f : ℕ → ℕ = λ k. count_in (λ x. d x k) pen.left pen.right in
    drawn-same (dots_above pen top (at + 1) d) (dots_above pen top (at + 1) d) (is_in top bottom) (is_in top bottom)
    (count_above pen top at d + f at) (count_above pen top (at + 1) d) old (set mid at row) p r (λ x y c. refl) (λ y e. e) (sum_more f top at low)
    (drawn-then (dots_above pen top at d) (in_row at d pen) (dots_above pen top (at + 1) d) (is_in top bottom) (λ y. y == at) (is_in top bottom)
    (count_above pen top at d) (f at) old mid (set mid at row) p q r
    change (λ y e. (e, out_of top bottom at y low high e)) drawn
    (drawn_row mid at row d pen q r within small laid))
  where
    change : (x y c : ℕ) → in_row at d pen x y (dots_above pen top at d x y c) ≡ dots_above pen top (at + 1) d x y c
    change x y c =
        twice (is_in top at y) (y == at) (is_in pen.left pen.right x && d x y) (blended pen.color) c (rows_apart top at y)
        ∙ ap (λ t. cond (t && (is_in pen.left pen.right x && d x y)) (blended pen.color c) c) (rows_more top at y low)

-- ---- many rows more
sum_then : (f : ℕ → ℕ) (top m n : ℕ)
    → sum_by f (range_with_len top m) + sum_by f (range_with_len (top + m) n) ≡ sum_by f (range_with_len top (m + n))
sum_then f top zero n =
    let same : top + 0 ≡ top = omega arith in
    let none : 0 + n ≡ n = omega arith in
    let here : sum_by f (range_with_len (top + 0) n) ≡ sum_by f (range_with_len top n) = ap (λ k. sum_by f (range_with_len k n)) same in
    let long : sum_by f (range_with_len top (0 + n)) ≡ sum_by f (range_with_len top n) = ap (λ k. sum_by f (range_with_len top k)) none in
    let blank : sum_by f (range_with_len top 0) ≡ 0 = refl in
    omega (arith, here, long, blank)
sum_then f top (suc m) n =
    let same : (top + 1) + m ≡ top + suc m = omega arith in
    let more : suc m + n ≡ suc (m + n) = omega arith in
    let here : sum_by f (range_with_len ((top + 1) + m) n) ≡ sum_by f (range_with_len (top + suc m) n) = ap (λ k. sum_by f (range_with_len k n)) same in
    let long : sum_by f (range_with_len top (suc m + n)) ≡ sum_by f (range_with_len top (suc (m + n))) = ap (λ k. sum_by f (range_with_len top k)) more in
    let rest = sum_then f (top + 1) m n in
    let one = sum_by-cons f top (range_with_len (top + 1) m) in
    let two = sum_by-cons f top (range_with_len (top + 1) (m + n)) in
    omega (arith, here, long, rest, one, two)

sum_parts : (f : ℕ → ℕ) (top from to : ℕ) → top ≤ from → from ≤ to
    → sum_by f (range_with_len top (from - top)) + sum_by f (range_with_len from (to - from)) ≡ sum_by f (range_with_len top (to - top))
sum_parts f top from to low high =
    let at : top + (from - top) ≡ from = omega (arith, low) in
    let long : (from - top) + (to - from) ≡ to - top = omega (arith, low, high) in
    ap (λ k. sum_by f (range_with_len top (from - top)) + sum_by f (range_with_len k (to - from))) (sym at)
    ∙ (sum_then f top (from - top) (to - from) ∙ ap (λ k. sum_by f (range_with_len top k)) long)

parts_apart : (top from to y : ℕ) → (is_in top from y && is_in from to y) ≡ false
parts_apart top from to y = grind (arith, nat_tests)

parts_joined : (top from to y : ℕ) → top ≤ from → from ≤ to → (is_in top from y || is_in from to y) ≡ is_in top to y
parts_joined top from to y low high = grind (arith, nat_tests)

part_of : (top from to bottom y : ℕ) → top ≤ from → to ≤ bottom → is_in top bottom y ≡ false → is_in from to y ≡ false
part_of top from to bottom y low high none = grind (arith, nat_tests)

-- the rows behind those so far
pub rows_then : (pen : Pen) (top from to bottom : ℕ) (d e : ℕ → ℕ → Bool) (old mid new : List Line) (p q r : ℕ)
    → pen.left ≤ pen.right → top ≤ from → from ≤ to → to ≤ bottom → InBlock pen from to (λ x y. d x y ≡ e x y)
    → AreDotted pen top bottom from e old mid p q → AreDotted pen from to to d mid new q r → AreDotted pen top bottom to e old new p r
rows_then pen top from to bottom d e old mid new p q r rises low high within same one two =
    drawn-same (dots_above pen top to e) (dots_above pen top to e) (is_in top bottom) (is_in top bottom)
    (count_above pen top from e + count_above pen from to e) (count_above pen top to e) old new p r (λ x y c. refl) (λ y f. f)
    (sum_parts (λ y. count_in (λ x. e x y) pen.left pen.right) top from to low high)
    (drawn-then (dots_above pen top from e) (dots_above pen from to e) (dots_above pen top to e) (is_in top bottom) (is_in from to) (is_in top bottom)
    (count_above pen top from e) (count_above pen from to e) old mid new p q r
    change (λ y f. (f, part_of top from to bottom y low within f)) one
    (dotted-same pen from to d e mid new q r rises high same two))
  where
    change : (x y c : ℕ) → dots_above pen from to e x y (dots_above pen top from e x y c) ≡ dots_above pen top to e x y c
    change x y c =
        twice (is_in top from y) (is_in from to y) (is_in pen.left pen.right x && e x y) (blended pen.color) c (parts_apart top from to y)
        ∙ ap (λ t. cond (t && (is_in pen.left pen.right x && e x y)) (blended pen.color c) c) (parts_joined top from to y low high)

-- and none of those that are left has a dot
pub rows_rest : (pen : Pen) (top from bottom : ℕ) (d : ℕ → ℕ → Bool) (old new : List Line) (p q : ℕ)
    → pen.left ≤ pen.right → top ≤ from → from ≤ bottom → InBlock pen from bottom (λ x y. d x y ≡ false)
    → AreDotted pen top bottom from d old new p q → AreDotted pen top bottom bottom d old new p q
rows_rest pen top from bottom d old new p q rises low high none one =
    rows_then pen top from bottom bottom d d old new new p q q rises low high (omega arith) (λ x y s t u v. refl) one
    (dotted-none pen from bottom d new q rises high none)

-- ---- rows in which a pen stands
pub rows-same : (pen : Pen) (top bottom : ℕ) (old new : List Line) → HaveOneSize old new → HasRows pen top bottom old → HasRows pen top bottom new
rows-same pen top bottom old new same has =
    let long = same.down in
    let low = has.down in
    record {
      falls = has.falls;
      down = omega (arith, long, low);
      rises = has.rises;
      across = λ y l. (let wide = same.across y in let most = has.across y (omega (arith, long, l)) in omega (arith, wide, most));
      some = has.some;
      narrow = has.narrow;
      near = has.near;
      bytes = has.bytes;
    }

-- some of those rows
pub rows_of : (pen : Pen) (top bottom from to : ℕ) (rows : List Line) → from ≤ to → to ≤ bottom → HasRows pen top bottom rows → HasRows pen from to rows
rows_of pen top bottom from to rows falls within has =
    let down = has.down in
    record {
      falls = falls;
      down = omega (arith, within, down);
      rises = has.rises;
      across = has.across;
      some = has.some;
      narrow = has.narrow;
      near = has.near;
      bytes = has.bytes;
    }

pub pen_in : (pen : Pen) (top bottom y below : ℕ) (rows : List Line) → HasRows pen top bottom rows → y < bottom
    → IsPen (record pen { below = below }) (row_at rows y).pixels
pen_in pen top bottom y below rows has l =
    let low = has.down in
    let few = has.narrow in
    record {
      rises = has.rises;
      within = has.across y (omega (arith, low, l));
      some = has.some;
      most = omega (arith, few);
      near = has.near;
    }

-- ---- a line of letters
abbrev pub line_rows : Pen → ℕ → ℤ → List ℕ → ℕ → ℕ → Bool
line_rows pen top first cs x y = line_dots (lowered pen (y - top)) first cs x

abbrev pub char_rows : Pen → ℕ → ℤ → ℕ → ℕ → ℕ → Bool
char_rows pen top start c x y = char_dots (lowered pen (y - top)) start c x

pub letters_none : (pen : Pen) (top bottom : ℕ) (first : ℤ) (rows : List Line) (p : ℕ) → pen.left ≤ pen.right → top ≤ bottom
    → AreDotted pen top bottom bottom (line_rows pen top first []) rows rows p p
letters_none pen top bottom first rows p rises falls =
    dotted-none pen top bottom (line_rows pen top first []) rows p rises falls (λ x y a b c d. line_nil (lowered pen (y - top)) first x)

pub letters_more : (pen : Pen) (top bottom : ℕ) (first now : ℤ) (done : List ℕ) (c : ℕ) (old mid new : List Line) (p q r : ℕ)
    → pen.left ≤ pen.right → top ≤ bottom → now ≡ end_of first done pen.scale
    → AreDotted pen top bottom bottom (line_rows pen top first done) old mid p q
    → AreDotted pen top bottom bottom (char_rows pen top now c) mid new q r
    → AreDotted pen top bottom bottom (line_rows pen top first (done ++ c ∷ [])) old new p r
letters_more pen top bottom first now done c old mid new p q r rises falls at one two =
    dotted-same pen top bottom (λ x y. line_rows pen top first done x y || char_rows pen top now c x y) (line_rows pen top first (done ++ c ∷ []))
    old new p r rises falls
    (λ x y s t u v. ap (λ z. line_rows pen top first done x y || char_rows pen top z c x y) at ∙ line_more (lowered pen (y - top)) first done c x)
    (dotted-then pen top bottom (line_rows pen top first done) (char_rows pen top now c) old mid new p q r rises falls
    (λ x y s t u v. ap (λ z. line_rows pen top first done x y && char_rows pen top z c x y) at ∙ line_apart (lowered pen (y - top)) first done c x)
    one two)

-- all that is left begins behind the pen's columns
pub letters_stop : (pen : Pen) (top bottom : ℕ) (first : ℤ) (n : ℕ) (cs : List ℕ) (old new : List Line) (p q : ℕ)
    → pen.left ≤ pen.right → top ≤ bottom → pos pen.right ≤ℤ end_of first (take n cs) pen.scale
    → AreDotted pen top bottom bottom (line_rows pen top first (take n cs)) old new p q
    → AreDotted pen top bottom bottom (line_rows pen top first cs) old new p q
letters_stop pen top bottom first n cs old new p q rises falls stop one =
    dotted-same pen top bottom (line_rows pen top first (take n cs)) (line_rows pen top first cs) old new p q rises falls
    (λ x y s t u v. line_rest (lowered pen (y - top)) first (take n cs) (drop n cs) x (omega (arith, ints, t, stop))
    ∙ ap (λ l. line_rows pen top first l x y) (take-append-drop n cs))
    one
