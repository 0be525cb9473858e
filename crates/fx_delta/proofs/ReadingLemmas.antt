-- Numbers as far as 32 bits hold them, and row items of many words.
use Rattle.std.proofs.Common.{◌≡◌, ◌≤◌, ◌<◌, ◌+◌, ◌-◌, ◌^◌, suc, ℕ, Bor, true, false, List, [], ◌∷◌, ◌++◌, length, take, drop, map, Result, Ok, Err, IfOk, Option, Some, None, refl, sym, ◌∙◌, ap, subst, arith, cond, leb, ltb, append-nil, ◌&&◌, Bool, inl, inr, lit<}
use Rattle.std.specs.Option.{option_map, option_and_then}
use Rattle.std.specs.Str.{bytes_eq}
use Rattle.std.proofs.lemmas.Bool.{and_parts, leb-true, ltb-true}
use Rattle.std.proofs.lemmas.Bool.Decides.{leb_tells, nat_tests}
use Rattle.std.proofs.lemmas.List.{take-append-drop}
use Rattle.fx_text.specs.Digits.{capped}
use Rattle.fx_text.proofs.FrontLemmas.{then_gives}
use Rattle.fx_delta.specs.Lines.{Item, frame_in, frame_of, item_in, item_of, words, number_of, pixel_of, pixels_of}
use Rattle.fx_delta.specs.Reading.{IsFound, Takes, few_words}
use Rattle.fx_delta.specs.Pictures.{Picture, is_size, lies, with_pixels}
use Rattle.fx_delta.specs.Stream.{Flaw, outside, Screen, Step, after_item}
use Rattle.fx_delta.specs.declared.lines.FoundItem.{FoundItem}
use Rattle.fx_delta.specs.declared.lines.Frame.{Frame}

abbrev frame : ℕ → ℕ → ℕ → Frame
frame w h k = record { width = w; height = h; rectangles = k }

abbrev pub screen : Picture → Option ℕ → Screen
screen picture left = record { picture = picture; left = left }

capped-capped : (n : ℕ) → capped (capped n) ≡ capped n
capped-capped n = omega arith

-- an item of capped numbers is found as the item itself
pub IsFound-capped : (found : Option FoundItem) (x y : Option ℕ) (pixels : Option (List ℕ))
    → IsFound found (item_of (option_map capped x) (option_map capped y) pixels) → IsFound found (item_of x y pixels)
IsFound-capped None None y pixels h = tt
IsFound-capped None (Some x) None pixels h = tt
IsFound-capped None (Some x) (Some y) None h = tt
IsFound-capped None (Some x) (Some y) (Some pixels) h = h
IsFound-capped (Some found) None y pixels h = h
IsFound-capped (Some found) (Some x) None pixels h = h
IsFound-capped (Some found) (Some x) (Some y) None h = h
IsFound-capped (Some found) (Some x) (Some y) (Some pixels) h = (h.0 ∙ capped-capped x, h.1 ∙ capped-capped y, h.2)

-- as many pixels as words
length-pixels_of : (words : List (List ℕ)) (pixels : List ℕ) → pixels_of words ≡ Some pixels → length pixels ≡ length words
length-pixels_of [] pixels e = let same : [] ≡ pixels = cc in ap length (sym same)
length-pixels_of (w ∷ ws) pixels e = go (pixel_of w) (pixels_of ws) pixels (λ ps h. length-pixels_of ws ps h) e
  where
    go : (pixel : Option ℕ) (more : Option (List ℕ)) (pixels : List ℕ) → ((ps : List ℕ) → more ≡ Some ps → length ps ≡ length ws)
        → option_and_then (λ p. option_map (λ m. p ∷ m) more) pixel ≡ Some pixels → length pixels ≡ suc (length ws)
    go None more pixels ih e = absurd (cc)
    go (Some p) None pixels ih e = absurd (cc)
    go (Some p) (Some m) pixels ih e = let same : (p ∷ m) ≡ pixels = cc in ap length (sym same) ∙ ap suc (ih m refl)

-- an item of more words than a picture's row has pixels is as good as none
pub IsFound-many : (words : List (List ℕ)) → 2051 < length words → IsFound None (item_in words)
IsFound-many [] h = tt
IsFound-many (w ∷ []) h = tt
IsFound-many (w ∷ x ∷ []) h = tt
IsFound-many (w ∷ x ∷ y ∷ []) h = tt
IsFound-many (w ∷ x ∷ y ∷ p ∷ ps) h =
    elim (bytes_eq w (114 ∷ 111 ∷ 119 ∷ [])) as (λ b. IsFound None (cond b (item_of (number_of x) (number_of y) (pixels_of (p ∷ ps))) None)) [
      | false ↦ tt
      | true ↦ go (number_of x) (number_of y) (pixels_of (p ∷ ps)) (length-pixels_of (p ∷ ps))
    ]
  where
    go : (x y : Option ℕ) (pixels : Option (List ℕ)) → ((found : List ℕ) → pixels ≡ Some found → length found ≡ suc (length ps)) → IsFound None (item_of x y pixels)
    go None y pixels n = tt
    go (Some x) None pixels n = tt
    go (Some x) (Some y) None n = tt
    go (Some x) (Some y) (Some pixels) n = omega (arith, n pixels refl)

-- more words than were asked for
pub many_words : (most : ℕ) (line : List ℕ) → few_words most line ≡ None → most < length (words line)
many_words most line e = elim (leb_tells (length (words line)) most) [
  | inl t ↦ absurd (differs (ap (λ b. cond b (Some (words line)) None) (sym t.0) ∙ e))
  | inr t ↦ omega (arith, t.1)
]
  where
    differs : Some (words line) ≡ None → ⊥
    differs e = cc

-- where there are fewer than four words there is no item
pub IsFound-short : (ws : List (Bor (List ℕ))) → length ws < 4 → IsFound None (item_in (map (λ (word : Bor (List ℕ)). word.now) ws))
IsFound-short [] h = tt
IsFound-short (a ∷ []) h = tt
IsFound-short (a ∷ b ∷ []) h = tt
IsFound-short (a ∷ b ∷ c ∷ []) h = tt
IsFound-short (a ∷ b ∷ c ∷ d ∷ ws) h = absurd (omega arith)

-- where there are not six words there is no frame
pub frame_in-not_six : (ws : List (Bor (List ℕ))) → (length ws ≡ 6 → ⊥) → None ≡ frame_in (map (λ (word : Bor (List ℕ)). word.now) ws)
frame_in-not_six [] h = refl
frame_in-not_six (a ∷ []) h = refl
frame_in-not_six (a ∷ b ∷ []) h = refl
frame_in-not_six (a ∷ b ∷ c ∷ []) h = refl
frame_in-not_six (a ∷ b ∷ c ∷ d ∷ []) h = refl
frame_in-not_six (a ∷ b ∷ c ∷ d ∷ e ∷ []) h = refl
frame_in-not_six (a ∷ b ∷ c ∷ d ∷ e ∷ f ∷ []) h = absurd (h refl)
frame_in-not_six (a ∷ b ∷ c ∷ d ∷ e ∷ f ∷ g ∷ ws) h = refl

leb-capped : (a b : ℕ) → b < 2 ^ 32 - 1 → leb (capped a) b ≡ leb a b
leb-capped a b h = grind (arith, nat_tests)

leb-one_capped : (a : ℕ) → leb 1 (capped a) ≡ leb 1 a
leb-one_capped a = grind (arith, nat_tests)

leb_small : (a : ℕ) → leb a 2048 ≡ true → capped a ≡ a
leb_small a e = let small = leb-true a 2048 e in omega (arith, small)

-- a frame of capped numbers is the frame itself
pub frame_of-capped : (n w h k n' w' h' k' : Option ℕ) → n' ≡ option_map capped n → w' ≡ option_map capped w → h' ≡ option_map capped h
    → k' ≡ option_map capped k → frame_of n' w' h' k' ≡ frame_of n w h k
frame_of-capped n w h k n' w' h' k' a b c d = rw (a, b, c, d) (go n w h k)
  where
    pick : (w h k : ℕ) (t : Bool) → (t ≡ true → (capped w ≡ w) × (capped h ≡ h) × (capped k ≡ k))
        → cond t (Some (frame (capped w) (capped h) (capped k))) None ≡ cond t (Some (frame w h k)) None
    pick w h k false f = refl
    pick w h k true f = let e = f refl in rw (e.0, e.1, e.2) refl

    fits : (n w h k : ℕ) → ((leb 1 n && is_size w h) && leb k 16) ≡ true → (capped w ≡ w) × (capped h ≡ h) × (capped k ≡ k)
    fits n w h k e =
        let outer = and_parts (leb 1 n && is_size w h) (leb k 16) e in
        let inner = and_parts (leb 1 n) (is_size w h) outer.0 in
        let sizes = and_parts (leb 1 w && leb w 2048) (leb 1 h && leb h 2048) inner.1 in
        let wide = and_parts (leb 1 w) (leb w 2048) sizes.0 in
        let high = and_parts (leb 1 h) (leb h 2048) sizes.1 in
        let few = leb-true k 16 outer.1 in
        (leb_small w wide.1, leb_small h high.1, omega (arith, few))

    go : (n w h k : Option ℕ) → frame_of (option_map capped n) (option_map capped w) (option_map capped h) (option_map capped k) ≡ frame_of n w h k
    go None w h k = refl
    go (Some n) None h k = refl
    go (Some n) (Some w) None k = refl
    go (Some n) (Some w) (Some h) None = refl
    go (Some n) (Some w) (Some h) (Some k) =
        rw (leb-one_capped n, leb-one_capped w, leb-one_capped h, leb-capped w 2048 (lit< tt), leb-capped h 2048 (lit< tt), leb-capped k 16 (lit< tt))
        (pick w h k ((leb 1 n && is_size w h) && leb k 16) (fits n w h k))

abbrev now_of : List (Bor (List ℕ)) → List (List ℕ)
now_of ws = map (λ (word : Bor (List ℕ)). word.now) ws

map-append : (ws vs : List (Bor (List ℕ))) → now_of (ws ++ vs) ≡ now_of ws ++ now_of vs
map-append [] vs = refl
map-append (w ∷ ws) vs = ap (λ (l : List (List ℕ)). w.now ∷ l) (map-append ws vs)

-- words that were cut in two
pub IsFound-joined : {E : Type 0} (n : ℕ) (ws head rest : List (Bor (List ℕ))) (result : Result (Option FoundItem) E) → head ≡ take n ws → rest ≡ drop n ws
    → IfOk result (λ item. IsFound item (item_in (now_of head ++ now_of rest))) → IfOk result (λ item. IsFound item (item_in (now_of ws)))
IsFound-joined {E} n ws head rest result front back h =
    let same : now_of head ++ now_of rest ≡ now_of ws =
    sym (map-append head rest) ∙ ap now_of (rw (front, back) (take-append-drop n ws)) in
    let Found : List (List ℕ) → Type 0 = λ words. IfOk result (λ item. IsFound item (item_in words)) in
    subst Found same h

-- a frame line has a size that a picture can have
pub frame_in-is_size : (ws : List (List ℕ)) (f : Frame) → frame_in ws ≡ Some f → is_size f.width f.height ≡ true
frame_in-is_size [] f e = absurd (cc)
frame_in-is_size (a ∷ []) f e = absurd (cc)
frame_in-is_size (a ∷ b ∷ []) f e = absurd (cc)
frame_in-is_size (a ∷ b ∷ c ∷ []) f e = absurd (cc)
frame_in-is_size (a ∷ b ∷ c ∷ d ∷ []) f e = absurd (cc)
frame_in-is_size (a ∷ b ∷ c ∷ d ∷ g ∷ []) f e = absurd (cc)
frame_in-is_size (a ∷ b ∷ c ∷ d ∷ g ∷ h ∷ []) f e =
    go (number_of b) (number_of c) (number_of d) (number_of h) (then_gives _ _ f e).1
  where
    go : (n w h k : Option ℕ) → frame_of n w h k ≡ Some f → is_size f.width f.height ≡ true
    go None w h k e = absurd (cc)
    go (Some n) None h k e = absurd (cc)
    go (Some n) (Some w) None k e = absurd (cc)
    go (Some n) (Some w) (Some h) None e = absurd (cc)
    go (Some n) (Some w) (Some h) (Some k) e =
        let parts = then_gives ((leb 1 n && is_size w h) && leb k 16) (Some (frame w h k)) f e in
        let same : frame w h k ≡ f = cc parts.1 in
        ap (λ (f : Frame). is_size f.width f.height) (sym same)
        ∙ (and_parts (leb 1 n) (is_size w h) (and_parts (leb 1 n && is_size w h) (leb k 16) parts.0).0).1
frame_in-is_size (a ∷ b ∷ c ∷ d ∷ g ∷ h ∷ i ∷ ws) f e = absurd (cc)

lies-capped : (picture : Picture) (x y count : ℕ) → picture.width ≤ 2048 → picture.height ≤ 2048
    → lies picture (capped x) (capped y) count ≡ lies picture x y count
lies-capped picture x y count narrow low =
    let across : leb (capped x + count) picture.width ≡ leb (x + count) picture.width = grind (arith, nat_tests) in
    let down : ltb (capped y) picture.height ≡ ltb y picture.height = grind (arith, nat_tests) in
    ap (λ b. b && ltb (capped y) picture.height) across ∙ ap (λ b. leb (x + count) picture.width && b) down

-- a row item that lies within the picture is shown
pub Takes-item : {E : Type 0} (bad : E) (old : Screen) (before after : Picture) (left : Option ℕ) (said : Option Item) (found : FoundItem) (count : ℕ) (pixels out : List ℕ)
    → screen before left ≡ old → old.left ≡ Some 0 → IsFound (Some found) said → pixels ≡ found.pixels.items → count ≡ length pixels
    → lies before found.x found.y count ≡ true → before.width ≤ 2048 → before.height ≤ 2048
    → after ≡ with_pixels before found.x found.y pixels
    → Takes bad (after_item old.picture said) old (screen after left) out out (Ok (tt {0}))
Takes-item bad old before after left None found count pixels out view items_left h p n within narrow low is = absurd h
Takes-item {E} bad old before after left (Some item) found count pixels out view items_left h p n within narrow low is =
    let px : pixels ≡ item.pixels = p ∙ h.2 in
    let long : count ≡ length item.pixels = n ∙ ap length px in
    let at_places : lies before (capped item.x) (capped item.y) count ≡ true = rw (← h.0, ← h.1) within in
    let parts = lies_parts before (capped item.x) (capped item.y) count at_places in
    let inside : lies before item.x item.y (length item.pixels) ≡ true =
    sym (lies-capped before item.x item.y (length item.pixels) narrow low)
    ∙ ap (λ (n : ℕ). lies before (capped item.x) (capped item.y) n) (sym long) ∙ at_places in
    let at_x : found.x ≡ item.x = h.0 ∙ small_x parts.0 in
    let at_y : found.y ≡ item.y = h.1 ∙ small_y parts.1 in
    let same : after ≡ with_pixels before item.x item.y item.pixels =
    is ∙ ap (λ (x : ℕ). with_pixels before x found.y pixels) at_x ∙ ap (λ (y : ℕ). with_pixels before item.x y pixels) at_y
    ∙ ap (λ (l : List ℕ). with_pixels before item.x item.y l) px in
    let none : left ≡ Some 0 = ap (λ (s : Screen). s.left) view ∙ items_left in
    let shown : Step = record { screen = screen (with_pixels before item.x item.y item.pixels) (Some 0); written = [] } in
    let step : after_item before (Some item) ≡ Ok shown = ap (λ b. cond b (Ok shown) (Err outside)) inside in
    let Taken : Result Step Flaw → Type 0 = λ step. Takes bad step (screen before left) (screen after left) out out (Ok (tt {0})) in
    let TakenAt : Screen → Type 0 = λ old. Takes bad (after_item old.picture (Some item)) old (screen after left) out out (Ok (tt {0})) in
    subst TakenAt view (subst Taken (sym step) (record {
      ok = (ap (λ (p : Picture). screen p left) same ∙ ap (λ (l : Option ℕ). screen (with_pixels before item.x item.y item.pixels) l) none, sym (append-nil out));
      is_bad = λ e. absurd (differs e);
      err = tt;
    }))
  where
    lies_parts : (picture : Picture) (x y count : ℕ) → lies picture x y count ≡ true → (x + count ≤ picture.width) × (y < picture.height)
    lies_parts picture x y count e =
        let parts = and_parts (leb (x + count) picture.width) (ltb y picture.height) e in
        (leb-true _ _ parts.0, ltb-true _ _ parts.1)

    small_x : capped item.x + count ≤ before.width → capped item.x ≡ item.x
    small_x h = omega arith

    small_y : capped item.y < before.height → capped item.y ≡ item.y
    small_y h = omega arith

    differs : Ok (tt {0}) ≡ Err bad → ⊥
    differs e = cc
