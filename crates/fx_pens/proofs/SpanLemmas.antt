-- A colour laid over a part of a row.
use Rattle.std.proofs.Common.{suc, replicate, lit<, inl, inr, get_or-drop, ◌≡◌, ◌<◌, ◌≤◌, ℕ, ◌+◌, ◌-◌, ◌*◌, List, [], ◌∷◌, ◌++◌, cond, length, get_or, take, drop, map, ◌∙◌, ap, sym, refl, arith, length-take, length-drop, length-append}
use borrow.Rule.Slice.PartMut.{mid_of, post_of, put_mid, mid_len, Post-is}
use Rattle.std.proofs.lemmas.Bool.Decides.{leb_tells}
use Rattle.std.proofs.lemmas.List.{get_or_append_left, get_or-append_right, get_or-map, get_or-take, length-map, length-replicate, replicate-append-replicate, take-append-drop, take-append-le, take-replicate}
use Rattle.std.proofs.lemmas.Nat.{div-mul-add}
use Rattle.fx_base.specs.Pixel.{blended, channel, pixel_of, red_of, green_of, blue_of}
use Rattle.fx_base.specs.declared.color.Color.{Color}
use Rattle.fx_lanes.proofs.Rows.{Made, made_all, made_block}
use Rattle.fx_pens.specs.Dots.{is_in}
use lib.Lanes.{put_chunk}

abbrev pub SpanChanged : Color → ℕ → ℕ → List ℕ → List ℕ → Type 0
SpanChanged color from to old new = (x : ℕ) → x < length old → get_or new x 0 ≡ cond (is_in from to x) (blended color (get_or old x 0)) (get_or old x 0)

-- the part from a to e put in the place of what stood there
module _ (a e : ℕ) (xs ys : List ℕ) (rise : a ≤ e) (within : e ≤ length xs) (same : length ys ≡ e - a) where
  part : List ℕ
  part = put_mid a (e - a) xs ys

  front_len : length (take a xs) ≡ a
  front_len = omega (arith, length-take a xs)

  pub below : (x : ℕ) → x < a → get_or (put_mid a (e - a) xs ys) x 0 ≡ get_or xs x 0
  below x h =
      let f : length (take a xs) ≡ a = front_len in
      get_or_append_left (take a xs) (ys ++ post_of a (e - a) xs) 0 x (omega arith) ∙ get_or-take a xs x 0 h

  pub among : (x : ℕ) → a ≤ x → x < e → get_or (put_mid a (e - a) xs ys) x 0 ≡ get_or ys (x - a) 0
  among x h g =
      get_or-append_right (take a xs) (ys ++ post_of a (e - a) xs) a x 0 front_len h
      ∙ get_or_append_left ys (post_of a (e - a) xs) 0 (x - a) (omega arith)

  pub above : (x : ℕ) → e ≤ x → get_or (put_mid a (e - a) xs ys) x 0 ≡ get_or xs x 0
  above x h =
      get_or-append_right (take a xs) (ys ++ post_of a (e - a) xs) a x 0 front_len (omega arith)
      ∙ (get_or-append_right ys (post_of a (e - a) xs) (e - a) (x - a) 0 same (omega arith)
      ∙ (ap (λ l. get_or l ((x - a) - (e - a)) 0) (Post-is a e xs rise)
      ∙ (get_or-drop e xs ((x - a) - (e - a)) 0 ∙ ap (λ n. get_or xs n 0) (back x h))))
    where
      back : (x : ℕ) → e ≤ x → e + ((x - a) - (e - a)) ≡ x
      back x h = omega arith

-- a colour over the part from a to e
pub span_changed : (a e : ℕ) (color : Color) (xs ys : List ℕ) → a ≤ e → e ≤ length xs → ys ≡ map (blended color) (mid_of a (e - a) xs)
    → SpanChanged color a e xs (put_mid a (e - a) xs ys)
span_changed a e color xs ys rise within is x h =
    let same : length ys ≡ e - a = ap (λ (l : List ℕ). length l) is ∙ (length-map (mid_of a (e - a) xs) (blended color) ∙ mid_len a e xs within) in
    elim (leb_tells a x) [
      | inr s ↦ rw s.0 (below a e xs ys rise within same x s.1)
      | inl s ↦ rw s.0 (elim (leb_tells (suc x) e) [
        | inr t ↦ rw t.0 (above a e xs ys rise within same x (omega (arith, t.1)))
        | inl t ↦ rw t.0 (among a e xs ys rise within same x s.1 (omega (arith, t.1)) ∙ inner s.1 (omega (arith, t.1)))
      ])
    ]
  where
    back : a ≤ x → a + (x - a) ≡ x
    back h = omega arith

    inner : a ≤ x → x < e → get_or ys (x - a) 0 ≡ blended color (get_or xs x 0)
    inner h g =
        let few : x - a < length (mid_of a (e - a) xs) = omega (arith, mid_len a e xs within) in
        ap (λ (l : List ℕ). get_or l (x - a) 0) is
        ∙ (get_or-map (blended color) (mid_of a (e - a) xs) (x - a) 0 0 few
        ∙ ap (blended color) (get_or-take (e - a) (drop a xs) (x - a) 0 (omega arith)
        ∙ (get_or-drop a xs (x - a) 0 ∙ ap (λ n. get_or xs n 0) (back h))))

channel-opaque : (over under : ℕ) → channel over 255 under ≡ over
unfolding channel
channel-opaque over under =
    let e : over * 255 + under * 0 + 127 ≡ over * 255 + 127 = omega arith in
    rw e (div-mul-add over 255 127 (lit< tt))

-- a colour without transparency is what shows
pub blended-opaque : (color : Color) (under : ℕ) → color.a ≡ 255 → blended color under ≡ pixel_of color.r color.g color.b
unfolding blended
blended-opaque color under e =
    rw (e, channel-opaque color.r (red_of under), channel-opaque color.g (green_of under), channel-opaque color.b (blue_of under)) refl

pub map-constant : (f : ℕ → ℕ) (v : ℕ) (xs : List ℕ) → ((x : ℕ) → f x ≡ v) → map f xs ≡ replicate (length xs) v
map-constant f v [] e = refl
map-constant f v (x ∷ xs) e = rw (e x, map-constant f v xs e) refl

pub length-put : (a e : ℕ) (xs ys : List ℕ) → a ≤ e → e ≤ length xs → length ys ≡ e - a → length (put_mid a (e - a) xs ys) ≡ length xs
length-put a e xs ys rise within same =
    let back : post_of a (e - a) xs ≡ drop e xs = Post-is a e xs rise in
    let tail : length (post_of a (e - a) xs) ≡ length xs - e = ap (λ (l : List ℕ). length l) back ∙ length-drop e xs in
    length-append (take a xs) (ys ++ post_of a (e - a) xs) ∙ (ap (λ n. length (take a xs) + n) (length-append ys (post_of a (e - a) xs)) ∙ omega (arith, length-take a xs, same, tail))

-- the last few places written over, where the front has the colour up to them
pub made_behind : (old row : List ℕ) (color at few : ℕ) → few ≤ length old → length old - few ≤ at → Made old row (replicate at color) at
    → put_chunk (length old - few) row (replicate few color) ≡ replicate (length old) color
made_behind old row color at few room past made =
    let last = length old - few in
    let long : length row ≡ length old =
    ap length made.parts ∙ (length-append (replicate at color) (drop at old) ∙ omega (arith, length-replicate at color, length-drop at old, made.within)) in
    let reaches : last ≤ length (replicate at color) = omega (arith, length-replicate at color, past) in
    let front : take last row ≡ replicate last color =
    ap (λ l. take last l) made.parts ∙ (take-append-le last (replicate at color) (drop at old) reaches ∙ take-replicate last at color past) in
    let here : Made row row (replicate last color) last = record {
      within = omega (arith, long, room);
      long = length-replicate last color;
      parts = sym (take-append-drop last row) ∙ ap (λ l. l ++ drop last row) front;
    } in
    let whole : last + few ≡ length old = omega (arith, room) in
    made_all row (put_chunk last row (replicate few color)) (replicate last color ++ replicate few color) (last + few)
    (made_block row row (replicate last color) (replicate few color) last few here (length-replicate few color) (omega (arith, long, whole)))
    (omega (arith, long, whole))
    ∙ (replicate-append-replicate last few color ∙ ap (λ n. replicate n color) whole)
