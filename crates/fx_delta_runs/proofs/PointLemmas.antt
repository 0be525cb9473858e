-- The pixels of a picture point by point, and what row items make of them.
use Rattle.std.proofs.Common.{◌≡◌, ◌<◌, ◌≤◌, ◌+◌, ◌-◌, ◌*◌, ◌/◌, ◌%◌, ℕ, zero, suc, Bool, true, false, ◌&&◌, ◌||◌, eqb, leb, ltb, List, [], ◌∷◌, ◌++◌, length, take, drop, get_or, All, refl, sym, ap, ◌∙◌, inl, inr, arith}
use Rattle.std.specs.List.{list_any}
use Rattle.std.proofs.Math.Nat.{mul-le-mul_right}
use Rattle.std.proofs.lemmas.Bool.{and_from, and_parts, cases_Bool, cases_lt, eqb-true, leb-true, le-leb, lt-ltb, ltb-true, true≢false}
use Rattle.std.proofs.lemmas.Bool.Decides.{nat_tests}
use Rattle.std.proofs.lemmas.List.{ext_get_or, get_or-append_right, get_or_append_left, get_or-drop, get_or-take, length-append, length-drop, length-take-le}
use Rattle.std.proofs.lemmas.List.Elements.{All-head, All-tail}
use Rattle.std.proofs.lemmas.Nat.{div-add-mod', mod_below, row-Below}
use Rattle.fx_delta.specs.Items.{with_items}
use Rattle.fx_delta.specs.Lines.{Item}
use Rattle.fx_delta.specs.Pictures.{Picture, with_pixels}
use Rattle.fx_delta_laws.specs.Streams.{IsItem}

-- the pixel in this column and row
abbrev pub at : Picture → ℕ → ℕ → ℕ
at picture x y = get_or picture.pixels (y * picture.width + x) 0

-- as many pixels as its size says
abbrev pub IsFull : Picture → Type 0
IsFull picture = length picture.pixels ≡ picture.height * picture.width

-- an item has the pixel in this column and row
abbrev pub reaches : ℕ → ℕ → Item → Bool
reaches x y i = eqb i.y y && (leb i.x x && ltb x (i.x + length i.pixels))

-- ---- a part of a list in the place of another
abbrev put : ℕ → List ℕ → List ℕ → List ℕ
put start part all = take start all ++ (part ++ drop (start + length part) all)

put_before : (start k : ℕ) (part all : List ℕ) → start ≤ length all → k < start
    → get_or (put start part all) k 0 ≡ get_or all k 0
put_before start k part all long h =
    let e : length (take start all) ≡ start = length-take-le start all long in
    get_or_append_left (take start all) (part ++ drop (start + length part) all) 0 k (omega (arith, h, e))
    ∙ get_or-take start all k 0 h

put_within : (start k : ℕ) (part all : List ℕ) → start ≤ length all → start ≤ k → k < start + length part
    → get_or (put start part all) k 0 ≡ get_or part (k - start) 0
put_within start k part all long from to =
    get_or-append_right (take start all) (part ++ drop (start + length part) all) start k 0
    (length-take-le start all long) from
    ∙ get_or_append_left part (drop (start + length part) all) 0 (k - start) (omega (arith, from, to))

put_behind : (start k : ℕ) (part all : List ℕ) → start ≤ length all → start + length part ≤ k
    → get_or (put start part all) k 0 ≡ get_or all k 0
put_behind start k part all long h =
    let e : start + length part + (k - start - length part) ≡ k = omega (arith, h) in
    get_or-append_right (take start all) (part ++ drop (start + length part) all) start k 0
    (length-take-le start all long) (omega (arith, h))
    ∙ get_or-append_right part (drop (start + length part) all) (length part) (k - start) 0 refl (omega (arith, h))
    ∙ get_or-drop (start + length part) all (k - start - length part) 0
    ∙ ap (λ (n : ℕ). get_or all n 0) e

length-put : (start : ℕ) (part all : List ℕ) → start + length part ≤ length all
    → length (put start part all) ≡ length all
length-put start part all h =
    let front : length (take start all) ≡ start = length-take-le start all (omega (arith, h)) in
    let back : length (drop (start + length part) all) ≡ length all - (start + length part) =
    length-drop (start + length part) all in
    length-append (take start all) (part ++ drop (start + length part) all)
    ∙ ap (λ (n : ℕ). length (take start all) + n) (length-append part (drop (start + length part) all))
    ∙ omega (arith, front, back, h)

-- ---- an item
-- its pixels lie within the list
fits : (picture : Picture) (i : Item) → IsFull picture → IsItem picture.width picture.height i
    → i.y * picture.width + i.x + length i.pixels ≤ length picture.pixels
fits picture i full is =
    let across = is.across in
    let below : suc i.y * picture.width ≤ picture.height * picture.width = mul-le-mul_right picture.width is.down in
    omega (arith, full, across, below)

pub full-item : (picture : Picture) (i : Item) → IsFull picture → IsItem picture.width picture.height i
    → IsFull (with_pixels picture i.x i.y i.pixels)
full-item picture i full is =
    length-put (i.y * picture.width + i.x) i.pixels picture.pixels (fits picture i full is) ∙ full

pub at-item : (picture : Picture) (i : Item) (x y : ℕ) → IsFull picture → IsItem picture.width picture.height i
    → reaches x y i ≡ true → at (with_pixels picture i.x i.y i.pixels) x y ≡ get_or i.pixels (x - i.x) 0
at-item picture i x y full is h =
    let one = and_parts (eqb i.y y) (leb i.x x && ltb x (i.x + length i.pixels)) h in
    let two = and_parts (leb i.x x) (ltb x (i.x + length i.pixels)) one.1 in
    let row : i.y ≡ y = eqb-true i.y y one.0 in
    let from : i.x ≤ x = leb-true i.x x two.0 in
    let to : x < i.x + length i.pixels = ltb-true x (i.x + length i.pixels) two.1 in
    let start : ℕ = i.y * picture.width + i.x in
    let within = fits picture i full is in
    let place : y * picture.width + x ≡ i.y * picture.width + x =
    ap (λ (n : ℕ). n * picture.width + x) (sym row) in
    ap (λ (n : ℕ). get_or (put start i.pixels picture.pixels) n 0) place
    ∙ put_within start (i.y * picture.width + x) i.pixels picture.pixels (omega (arith, within)) (omega (arith, from))
    (omega (arith, to))
    ∙ ap (λ (n : ℕ). get_or i.pixels n 0) (omega (arith, from))

pub at-other : (picture : Picture) (i : Item) (x y : ℕ) → IsFull picture → IsItem picture.width picture.height i
    → x < picture.width → reaches x y i ≡ false → at (with_pixels picture i.x i.y i.pixels) x y ≡ at picture x y
at-other picture i x y full is inside h =
    let within = fits picture i full is in
    let across = is.across in
    let start : ℕ = i.y * picture.width + i.x in
    let k : ℕ = y * picture.width + x in
    let all : List ℕ = picture.pixels in
    elim (cases_lt y i.y) [
      | inl above ↦
          (let rows : suc y * picture.width ≤ i.y * picture.width = mul-le-mul_right picture.width above in
          put_before start k i.pixels all (omega (arith, within)) (omega (arith, rows, inside)))
      | inr not_above ↦ elim (cases_lt i.y y) [
        | inl below ↦
            (let rows : suc i.y * picture.width ≤ y * picture.width = mul-le-mul_right picture.width below in
            put_behind start k i.pixels all (omega (arith, within)) (omega (arith, rows, across)))
        | inr not_below ↦
            (let row : i.y ≡ y = omega (arith, not_above, not_below) in
            let place : k ≡ i.y * picture.width + x = ap (λ (n : ℕ). n * picture.width + x) (sym row) in
            ap (λ (n : ℕ). get_or (put start i.pixels all) n 0) place
            ∙ elim (cases_lt x i.x) [
              | inl left ↦
                  put_before start (i.y * picture.width + x) i.pixels all (omega (arith, within)) (omega (arith, left))
              | inr not_left ↦ elim (cases_lt x (i.x + length i.pixels)) [
                | inl not_right ↦
                    absurd (true≢false (sym (and_from (eqb i.y y) (leb i.x x && ltb x (i.x + length i.pixels))
                    (same i.y y row)
                    (and_from (leb i.x x) (ltb x (i.x + length i.pixels)) (le-leb i.x x not_left)
                    (lt-ltb x (i.x + length i.pixels) not_right))) ∙ h))
                | inr right ↦
                    put_behind start (i.y * picture.width + x) i.pixels all (omega (arith, within))
                    (omega (arith, right))
              ]
            ]
            ∙ ap (λ (n : ℕ). get_or all n 0) (sym place))
      ]
    ]
  where
    same : (a b : ℕ) → a ≡ b → eqb a b ≡ true
    same a b e = grind (arith, nat_tests)

-- ---- items one after another
-- an item has its pixels of this picture
abbrev pub IsOf : (ℕ → ℕ → ℕ) → Item → Type 0
IsOf pixel i = (j : ℕ) → j < length i.pixels → get_or i.pixels j 0 ≡ pixel (i.x + j) i.y

of_item : (pixel : ℕ → ℕ → ℕ) (i : Item) (x y : ℕ) → IsOf pixel i → reaches x y i ≡ true
    → get_or i.pixels (x - i.x) 0 ≡ pixel x y
of_item pixel i x y of h =
    let one = and_parts (eqb i.y y) (leb i.x x && ltb x (i.x + length i.pixels)) h in
    let two = and_parts (leb i.x x) (ltb x (i.x + length i.pixels)) one.1 in
    let row : i.y ≡ y = eqb-true i.y y one.0 in
    let from : i.x ≤ x = leb-true i.x x two.0 in
    let to : x < i.x + length i.pixels = ltb-true x (i.x + length i.pixels) two.1 in
    of (x - i.x) (omega (arith, from, to))
    ∙ ap (λ (n : ℕ). pixel n i.y) (omega (arith, from))
    ∙ ap (pixel x) row

pub full-items : (picture : Picture) (items : List Item) → IsFull picture
    → All (IsItem picture.width picture.height) items → IsFull (with_items picture items)
full-items picture [] full all = full
full-items picture (i ∷ is) full all =
    full-items (with_pixels picture i.x i.y i.pixels) is
    (full-item picture i full (All-head (IsItem picture.width picture.height) i is all))
    (All-tail (IsItem picture.width picture.height) i is all)

-- what isn't among the items is right already, and the items bring the rest
pub at-items : (pixel : ℕ → ℕ → ℕ) (picture : Picture) (items : List Item) → IsFull picture
    → All (IsItem picture.width picture.height) items → All (IsOf pixel) items
    → ((x y : ℕ) → x < picture.width → y < picture.height → list_any (reaches x y) items ≡ false
    → at picture x y ≡ pixel x y)
    → (x y : ℕ) → x < picture.width → y < picture.height → at (with_items picture items) x y ≡ pixel x y
at-items pixel picture [] full all of right x y hx hy = right x y hx hy refl
at-items pixel picture (i ∷ is) full all of right x y hx hy =
    let here : IsItem picture.width picture.height i = All-head (IsItem picture.width picture.height) i is all in
    at-items pixel (with_pixels picture i.x i.y i.pixels) is (full-item picture i full here)
    (All-tail (IsItem picture.width picture.height) i is all) (All-tail (IsOf pixel) i is of)
    (λ u v hu hv none. elim (cases_Bool (reaches u v i)) [
      | inl in_it ↦
          at-item picture i u v full here in_it ∙ of_item pixel i u v (All-head (IsOf pixel) i is of) in_it
      | inr out ↦
          at-other picture i u v full here hu out
          ∙ right u v hu hv (ap (λ (t : Bool). t || list_any (reaches u v) is) out ∙ none)
    ])
    x y hx hy

-- ---- pictures that are the same at each point
pub same-points : (width height : ℕ) (one other : List ℕ) → length one ≡ height * width
    → length other ≡ height * width
    → ((x y : ℕ) → x < width → y < height → get_or one (y * width + x) 0 ≡ get_or other (y * width + x) 0)
    → one ≡ other
same-points zero height one other long size same =
    ext_get_or 0 one other (long ∙ sym size) (λ k h. absurd (none height k (length one) long h))
  where
    none : (n k l : ℕ) → l ≡ n * 0 → k < l → ⊥
    none n k l e h = omega (arith, e, h)
same-points (suc w) height one other long size same =
    ext_get_or 0 one other (long ∙ sym size) (λ k h.
    let width : ℕ = suc w in
    let column : k % width < width = mod_below k width (omega arith) in
    let row : k / width < height = (row-Below k width width height (turned k h) (omega arith)).1 in
    let place : k / width * width + k % width ≡ k = div-add-mod' k width in
    ap (λ (n : ℕ). get_or one n 0) (sym place) ∙ same (k % width) (k / width) column row
    ∙ ap (λ (n : ℕ). get_or other n 0) place)
  where
    turned : (k : ℕ) → k < length one → k < suc w * height
    turned k h = omega (arith, h, long)
