-- Each line that a view writes is taken for what it is, and is one line.
use Rattle.std.proofs.Common.{◌≡◌, ◌<◌, ◌≤◌, ◌+◌, ◌^◌, ℕ, suc, Bool, true, false, cond, ◌&&◌, ◌||◌, leb, ltb, List, [], ◌∷◌, ◌++◌, length, map, Option, Some, None, Ok, Err, All, refl, sym, ap, ◌∙◌, arith}
use Rattle.std.specs.Prelude.{codes, Result}
use Rattle.std.specs.Fmt.{decimal}
use Rattle.std.proofs.lemmas.Bool.{and_parts, and_from, leb-true, le-leb, lt-ltb, ltb-true}
use Rattle.std.proofs.lemmas.List.Splits.{slice_split_at, slice_split_none}
use Rattle.fx_text.specs.Characters.{space}
use Rattle.fx_text.specs.Classes.{is_space}
use Rattle.fx_delta.specs.declared.lines.Frame.{Frame as FrameSaid}
use Rattle.fx_delta.specs.Lines.{Item, frame_in, frame_of, is_number, is_rectangle, item_in, item_line, item_of, number_of, pixels_of, words}
use Rattle.fx_delta.specs.Pictures.{Picture, begun, image, is_size, lies, with_pixels}
use Rattle.fx_row_text.specs.Rows.{pixel_text, pixels_text}
use Rattle.fx_delta.specs.Stream.{Flaw, Screen, Step, after_frame, after_item, after_line, begins, copied, is_line_feed, no_rectangle, outside, stray}
use Rattle.fx_delta.specs.Items.{ended}
use Rattle.fx_delta_laws.specs.Streams.{Area, Frame, IsArea, IsBetween, IsFrame, IsItem, area_line, frame_line}
use Rattle.fx_delta_laws.proofs.NumberLemmas.{above-append, above-decimal, are_above, is_number-decimal, none_at, number_of-decimal}
use Rattle.fx_delta_laws.proofs.PixelLemmas.{above-pixel, pixels_of-texts, words-pixels}

abbrev pub screen : Picture → Option ℕ → Screen
screen picture left = record { picture = picture; left = left }

abbrev pub step : Screen → List ℕ → Step
step to written = record { screen = to; written = written }

-- words, one by one

word-first : (word rest : List ℕ) → are_above 32 word ≡ true → words (word ++ (space ∷ rest)) ≡ word ∷ words rest
word-first word rest above = slice_split_at is_space word space rest (none_at 32 32 (omega arith) word above) refl

number-first : (n : ℕ) (rest : List ℕ) → n < 2 ^ 64 → words (decimal n ++ (space ∷ rest)) ≡ decimal n ∷ words rest
number-first n rest h = word-first (decimal n) rest (above-decimal 32 n (omega arith) h)

number-last : (n : ℕ) → n < 2 ^ 64 → words (decimal n) ≡ decimal n ∷ []
number-last n h =
    slice_split_none is_space (decimal n)
    (none_at 32 32 (omega arith) (decimal n) (above-decimal 32 n (omega arith) h))

-- the frame line

sizes : (width height : ℕ) → is_size width height ≡ true → (width < 2 ^ 64) × (height < 2 ^ 64)
sizes width height e =
    let both = and_parts (leb 1 width && leb width 2048) (leb 1 height && leb height 2048) e in
    let wide = and_parts (leb 1 width) (leb width 2048) both.0 in
    let high = and_parts (leb 1 height) (leb height 2048) both.1 in
    let w : width ≤ 2048 = leb-true width 2048 wide.1 in
    let h : height ≤ 2048 = leb-true height 2048 high.1 in
    (omega (arith, w), omega (arith, h))

words-frame : (f : Frame) → IsFrame f
    → words (frame_line f)
    ≡ codes "frame" ∷ decimal f.number ∷ decimal f.width ∷ decimal f.height ∷ codes "damage"
    ∷ decimal (length f.areas) ∷ []
unfolding frame_line
words-frame f is =
    let size = sizes f.width f.height is.sized in
    let count : length f.areas < 2 ^ 64 = omega (arith, is.few) in
    let behind : List ℕ = codes "damage " ++ decimal (length f.areas) in
    word-first (codes "frame")
    (decimal f.number ++ (space ∷ (decimal f.width ++ (space ∷ (decimal f.height ++ (space ∷ behind)))))) refl
    ∙ ap (λ (l : List (List ℕ)). codes "frame" ∷ l)
    (number-first f.number (decimal f.width ++ (space ∷ (decimal f.height ++ (space ∷ behind)))) is.small
    ∙ ap (λ (l : List (List ℕ)). decimal f.number ∷ l)
    (number-first f.width (decimal f.height ++ (space ∷ behind)) size.0
    ∙ ap (λ (l : List (List ℕ)). decimal f.width ∷ l)
    (number-first f.height behind size.1
    ∙ ap (λ (l : List (List ℕ)). decimal f.height ∷ l)
    (word-first (codes "damage") (decimal (length f.areas)) refl
    ∙ ap (λ (l : List (List ℕ)). codes "damage" ∷ l) (number-last (length f.areas) count)))))

frame_said : Frame → FrameSaid
frame_said f = record { width = f.width; height = f.height; rectangles = length f.areas }

frame_in-line : (f : Frame) → IsFrame f → frame_in (words (frame_line f)) ≡ Some (frame_said f)
unfolding frame_said
frame_in-line f is =
    let size = sizes f.width f.height is.sized in
    let count : length f.areas < 2 ^ 64 = omega (arith, is.few) in
    let number = number_of (decimal f.number) in
    let width = number_of (decimal f.width) in
    let height = number_of (decimal f.height) in
    let rectangles = number_of (decimal (length f.areas)) in
    let good : ((leb 1 f.number && is_size f.width f.height) && leb (length f.areas) 16) ≡ true =
    and_from (leb 1 f.number && is_size f.width f.height) (leb (length f.areas) 16)
    (and_from (leb 1 f.number) (is_size f.width f.height) (le-leb 1 f.number is.numbered) is.sized)
    (le-leb (length f.areas) 16 is.few) in
    ap frame_in (words-frame f is)
    ∙ ap (λ (o : Option ℕ). frame_of o width height rectangles) (number_of-decimal f.number is.small)
    ∙ ap (λ (o : Option ℕ). frame_of (Some f.number) o height rectangles) (number_of-decimal f.width size.0)
    ∙ ap (λ (o : Option ℕ). frame_of (Some f.number) (Some f.width) o rectangles) (number_of-decimal f.height size.1)
    ∙ ap (frame_of (Some f.number) (Some f.width) (Some f.height)) (number_of-decimal (length f.areas) count)
    ∙ ap (λ (t : Bool). cond t (Some (frame_said f)) None) good

begins-frame : (f : Frame) → begins (frame_line f) (codes "frame") ≡ true
unfolding frame_line
begins-frame f = refl

pub after-frame : (picture : Picture) (f : Frame) → IsFrame f
    → after_line (screen picture None) (frame_line f)
    ≡ Ok (step (screen (begun f.width f.height picture) (Some (length f.areas))) (ended (frame_line f)))
unfolding after_line frame_said
after-frame picture f is =
    let line = frame_line f in
    let others : Result Step Flaw =
    cond (begins line (codes "row") || begins line (codes "endframe")) (Err stray)
    (Ok (copied (screen picture None) line)) in
    ap (λ (t : Bool). cond t (after_frame picture line (frame_in (words line))) others) (begins-frame f)
    ∙ ap (after_frame picture line) (frame_in-line f is)

-- rectangles

words-area : (a : Area) → IsArea a
    → words (area_line a) ≡ decimal a.x ∷ decimal a.y ∷ decimal a.w ∷ decimal a.h ∷ []
unfolding area_line
words-area a is =
    number-first a.x (decimal a.y ++ (space ∷ (decimal a.w ++ (space ∷ decimal a.h)))) is.x
    ∙ ap (λ (l : List (List ℕ)). decimal a.x ∷ l)
    (number-first a.y (decimal a.w ++ (space ∷ decimal a.h)) is.y
    ∙ ap (λ (l : List (List ℕ)). decimal a.y ∷ l)
    (number-first a.w (decimal a.h) is.w
    ∙ ap (λ (l : List (List ℕ)). decimal a.w ∷ l) (number-last a.h is.h)))

is_rectangle-line : (a : Area) → IsArea a → is_rectangle (words (area_line a)) ≡ true
is_rectangle-line a is =
    ap is_rectangle (words-area a is)
    ∙ and_from (is_number (decimal a.x) && is_number (decimal a.y)) (is_number (decimal a.w) && is_number (decimal a.h))
    (and_from (is_number (decimal a.x)) (is_number (decimal a.y)) (is_number-decimal a.x is.x)
    (is_number-decimal a.y is.y))
    (and_from (is_number (decimal a.w)) (is_number (decimal a.h)) (is_number-decimal a.w is.w)
    (is_number-decimal a.h is.h))

pub after-area : (picture : Picture) (more : ℕ) (a : Area) → IsArea a
    → after_line (screen picture (Some (suc more))) (area_line a)
    ≡ Ok (step (screen picture (Some more)) (ended (area_line a)))
unfolding after_line
after-area picture more a is =
    ap (λ (t : Bool). cond t (Ok (copied (screen picture (Some more)) (area_line a))) (Err no_rectangle))
    (is_rectangle-line a is)

-- row items

words-item : (i : Item) (p : ℕ) (ps : List ℕ) → i.pixels ≡ p ∷ ps → i.x < 2 ^ 64 → i.y < 2 ^ 64
    → words (item_line i) ≡ codes "row" ∷ decimal i.x ∷ decimal i.y ∷ map pixel_text i.pixels
unfolding item_line
words-item i p ps e hx hy =
    word-first (codes "row") (decimal i.x ++ (space ∷ (decimal i.y ++ (space ∷ pixels_text i.pixels)))) refl
    ∙ ap (λ (l : List (List ℕ)). codes "row" ∷ l)
    (number-first i.x (decimal i.y ++ (space ∷ pixels_text i.pixels)) hx
    ∙ ap (λ (l : List (List ℕ)). decimal i.x ∷ l)
    (number-first i.y (pixels_text i.pixels) hy
    ∙ ap (λ (l : List (List ℕ)). decimal i.y ∷ l)
    (ap (λ (l : List ℕ). words (pixels_text l)) e ∙ words-pixels p ps ∙ ap (map pixel_text) (sym e))))

item_in-words : (i : Item) (p : ℕ) (ps : List ℕ) → i.pixels ≡ p ∷ ps → i.x < 2 ^ 64 → i.y < 2 ^ 64
    → All (λ pixel. pixel < 2 ^ 24) i.pixels
    → item_in (codes "row" ∷ decimal i.x ∷ decimal i.y ∷ map pixel_text i.pixels) ≡ Some i
item_in-words i p ps e hx hy colours =
    let texts : List (List ℕ) = map pixel_text i.pixels in
    ap (λ (l : List ℕ). item_in (codes "row" ∷ decimal i.x ∷ decimal i.y ∷ map pixel_text l)) e
    ∙ ap (λ (l : List ℕ). item_of (number_of (decimal i.x)) (number_of (decimal i.y)) (pixels_of (map pixel_text l)))
    (sym e)
    ∙ ap (λ (o : Option ℕ). item_of o (number_of (decimal i.y)) (pixels_of texts)) (number_of-decimal i.x hx)
    ∙ ap (λ (o : Option ℕ). item_of (Some i.x) o (pixels_of texts)) (number_of-decimal i.y hy)
    ∙ ap (item_of (Some i.x) (Some i.y)) (pixels_of-texts i.pixels colours)

item_in-line : (i : Item) (ps : List ℕ) → i.pixels ≡ ps → 1 ≤ length ps → i.x < 2 ^ 64 → i.y < 2 ^ 64
    → All (λ pixel. pixel < 2 ^ 24) i.pixels → item_in (words (item_line i)) ≡ Some i
item_in-line i [] e some hx hy colours = absurd (omega (arith, some))
item_in-line i (p ∷ ps) e some hx hy colours =
    ap item_in (words-item i p ps e hx hy) ∙ item_in-words i p ps e hx hy colours

no_end : (i : Item) (picture : Picture) → after_line (screen picture (Some 0)) (item_line i)
    ≡ after_item picture (item_in (words (item_line i)))
unfolding after_line item_line
no_end i picture = refl

pub after-item : (picture : Picture) (i : Item) → IsItem picture.width picture.height i → picture.width < 2 ^ 64
    → picture.height < 2 ^ 64
    → after_line (screen picture (Some 0)) (item_line i)
    ≡ Ok (step (screen (with_pixels picture i.x i.y i.pixels) (Some 0)) [])
after-item picture i is narrow low =
    let hx : i.x < 2 ^ 64 = let h = is.across in omega (arith, h, narrow) in
    let hy : i.y < 2 ^ 64 = let h = is.down in omega (arith, h, low) in
    let inside : lies picture i.x i.y (length i.pixels) ≡ true =
    and_from (leb (i.x + length i.pixels) picture.width) (ltb i.y picture.height)
    (le-leb (i.x + length i.pixels) picture.width is.across) (lt-ltb i.y picture.height is.down) in
    no_end i picture
    ∙ ap (after_item picture) (item_in-line i i.pixels refl is.some hx hy is.colours)
    ∙ ap
    (λ (t : Bool). cond t (Ok (step (screen (with_pixels picture i.x i.y i.pixels) (Some 0)) [])) (Err outside))
    inside

-- the end of a frame, and lines between frames

pub after-end : (picture : Picture)
    → after_line (screen picture (Some 0)) (codes "endframe") ≡ Ok (step (screen picture None) (image picture))
unfolding after_line
after-end picture = refl

pub after-between : (picture : Picture) (text : List ℕ) → IsBetween text
    → after_line (screen picture None) text ≡ Ok (step (screen picture None) (ended text))
unfolding after_line
after-between picture text is =
    let good : Result Step Flaw = Ok (copied (screen picture None) text) in
    ap
    (λ (t : Bool). cond t (after_frame picture text (frame_in (words text)))
    (cond (begins text (codes "row") || begins text (codes "endframe")) (Err stray) good))
    is.no_frame
    ∙ ap (λ (t : Bool). cond (t || begins text (codes "endframe")) (Err stray) good) is.no_row
    ∙ ap (λ (t : Bool). cond t (Err stray) good) is.no_end

-- each is one line

one_line : (text : List ℕ) → are_above 10 text ≡ true → All (λ c. is_line_feed c ≡ false) text
one_line text above = none_at 10 10 (omega arith) text above

above-lower : (xs : List ℕ) → are_above 32 xs ≡ true → are_above 10 xs ≡ true
above-lower [] e = refl
above-lower (x ∷ xs) e =
    let both = and_parts (ltb 32 x) (are_above 32 xs) e in
    let less : 32 < x = ltb-true 32 x both.0 in
    and_from (ltb 10 x) (are_above 10 xs) (lt-ltb 10 x (omega (arith, less))) (above-lower xs both.1)

above-number : (n : ℕ) → n < 2 ^ 64 → are_above 10 (decimal n) ≡ true
above-number n h = above-decimal 10 n (omega arith) h

pub frame-one : (f : Frame) → IsFrame f → All (λ c. is_line_feed c ≡ false) (frame_line f)
unfolding frame_line
frame-one f is =
    let size = sizes f.width f.height is.sized in
    let count : length f.areas < 2 ^ 64 = omega (arith, is.few) in
    let behind : List ℕ = codes " damage " ++ decimal (length f.areas) in
    let a : are_above 10 behind ≡ true = above-number (length f.areas) count in
    let b : are_above 10 (decimal f.height ++ behind) ≡ true =
    above-append 10 (decimal f.height) behind (above-number f.height size.1) a in
    let c : are_above 10 (decimal f.width ++ (space ∷ (decimal f.height ++ behind))) ≡ true =
    above-append 10 (decimal f.width) (space ∷ (decimal f.height ++ behind)) (above-number f.width size.0) b in
    let d : are_above 10 (decimal f.number ++ (space ∷ (decimal f.width ++ (space ∷ (decimal f.height ++ behind)))))
    ≡ true =
    above-append 10 (decimal f.number) (space ∷ (decimal f.width ++ (space ∷ (decimal f.height ++ behind))))
    (above-number f.number is.small) c in
    one_line (codes "frame " ++ (decimal f.number ++ (space ∷ (decimal f.width ++ (space ∷ (decimal f.height ++ behind)))))) d

pub area-one : (a : Area) → IsArea a → All (λ c. is_line_feed c ≡ false) (area_line a)
unfolding area_line
area-one a is =
    let b : are_above 10 (decimal a.w ++ (space ∷ decimal a.h)) ≡ true =
    above-append 10 (decimal a.w) (space ∷ decimal a.h) (above-number a.w is.w) (above-number a.h is.h) in
    let c : are_above 10 (decimal a.y ++ (space ∷ (decimal a.w ++ (space ∷ decimal a.h)))) ≡ true =
    above-append 10 (decimal a.y) (space ∷ (decimal a.w ++ (space ∷ decimal a.h))) (above-number a.y is.y) b in
    one_line (decimal a.x ++ (space ∷ (decimal a.y ++ (space ∷ (decimal a.w ++ (space ∷ decimal a.h))))))
    (above-append 10 (decimal a.x) (space ∷ (decimal a.y ++ (space ∷ (decimal a.w ++ (space ∷ decimal a.h)))))
    (above-number a.x is.x) c)

above-pixels : (ps : List ℕ) → are_above 10 (pixels_text ps) ≡ true
above-pixels [] = refl
above-pixels (p ∷ []) = above-lower (pixel_text p) (above-pixel p)
above-pixels (p ∷ q ∷ ps) =
    above-append 10 (pixel_text p) (space ∷ pixels_text (q ∷ ps)) (above-lower (pixel_text p) (above-pixel p))
    (above-pixels (q ∷ ps))

pub item-one : (i : Item) → i.x < 2 ^ 64 → i.y < 2 ^ 64 → All (λ c. is_line_feed c ≡ false) (item_line i)
unfolding item_line
item-one i hx hy =
    let b : are_above 10 (decimal i.y ++ (space ∷ pixels_text i.pixels)) ≡ true =
    above-append 10 (decimal i.y) (space ∷ pixels_text i.pixels) (above-number i.y hy) (above-pixels i.pixels) in
    one_line (codes "row " ++ (decimal i.x ++ (space ∷ (decimal i.y ++ (space ∷ pixels_text i.pixels)))))
    (above-append 10 (decimal i.x) (space ∷ (decimal i.y ++ (space ∷ pixels_text i.pixels))) (above-number i.x hx) b)

pub end-one : All (λ c. is_line_feed c ≡ false) (codes "endframe")
end-one = one_line (codes "endframe") refl
