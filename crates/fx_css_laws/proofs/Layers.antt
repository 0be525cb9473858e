-- Where the parts of a text begin that commas separate.
-- Cited by the law of layers.
use Rattle.std.proofs.Common.{◌≡◌, ℕ, zero, suc, ◌+◌, ◌<◌, Bool, true, false, cond, not, ◌&&◌, ◌||◌, List, [], ◌∷◌, ◌++◌, length, take, Some, None, refl, sym, ap, ◌∙◌, subst, arith, append_assoc, length-append}
use Rattle.std.specs.Prelude.{slice_get}
use Rattle.std.specs.List.{list_all}
use Rattle.std.proofs.lemmas.Bool.{and_parts}
use Rattle.std.proofs.lemmas.Bool.Decides.{nat_tests}
use Rattle.std.proofs.lemmas.List.{append-nil}
use Rattle.fx_text.specs.Classes.{is_white}
use Rattle.fx_text.specs.Trimming.{trim_back, trimmed}
use Rattle.fx_text.proofs.TrimLemmas.{trimmed_complete, front_all}
use Rattle.fx_css_parts.specs.Texts.{IsBetweenWhite}
use Rattle.fx_css_parts.specs.Layers.{depth_behind, depth_after, separates, is_one, Separated, last, more}
use Rattle.fx_css_parts.specs.Limits.{layer_starts}
use Rattle.fx_css_laws.specs.Layers.{IsNext}

-- one byte

white_no_comma : (depth c : ℕ) → is_white c ≡ true → separates depth c ≡ false
white_no_comma depth c e = grind (arith, nat_tests, e)

white_flat : (depth c : ℕ) → is_white c ≡ true → depth_behind depth c ≡ depth
white_flat depth c e = grind (arith, nat_tests, e)

not_true : (b : Bool) → not b ≡ true → b ≡ false
not_true true e = absurd (cc)
not_true false e = refl

or_true : (a b : Bool) → b ≡ true → (a || b) ≡ true
or_true true b e = refl
or_true false b e = e

second : {A : Type 0} (a b : Bool) (x y z : A) → a ≡ false → b ≡ true → cond a x (cond b y z) ≡ y
second a b x y z e f = ap (λ v. cond v x (cond b y z)) e ∙ ap (λ v. cond v y z) f

third : {A : Type 0} (a b : Bool) (x y z : A) → a ≡ false → b ≡ false → cond a x (cond b y z) ≡ z
third a b x y z e f = ap (λ v. cond v x (cond b y z)) e ∙ ap (λ v. cond v y z) f

-- places

one_on : (place : ℕ) (c : ℕ) (cs : List ℕ) → place + 1 + length cs ≡ place + length (c ∷ cs)
one_on place c cs = omega arith

-- white before the parts and behind them

pub starts_behind : (depth place : ℕ) (white text : List ℕ) → list_all is_white white ≡ true → layer_starts false depth place (white ++ text) ≡ layer_starts false depth (place + length white) text
starts_behind depth place [] text all = ap (λ p. layer_starts false depth p text) (let e : place ≡ place + 0 = omega arith in e)
starts_behind depth place (c ∷ white) text all =
    let both = and_parts (is_white c) (list_all is_white white) all in
    second (separates depth c) (is_white c) (layer_starts false 0 (place + 1) (white ++ text)) (layer_starts false (depth_behind depth c) (place + 1) (white ++ text)) (place ∷ layer_starts true (depth_behind depth c) (place + 1) (white ++ text))
    (white_no_comma depth c both.0) both.0
    ∙ ap (λ d. layer_starts false d (place + 1) (white ++ text)) (white_flat depth c both.0)
    ∙ starts_behind depth (place + 1) white text both.1
    ∙ ap (λ p. layer_starts false depth p text) (one_on place c white)

starts_white : (within : Bool) (depth place : ℕ) (white : List ℕ) → list_all is_white white ≡ true → layer_starts within depth place white ≡ []
starts_white within depth place [] all = refl
starts_white within depth place (c ∷ white) all =
    let both = and_parts (is_white c) (list_all is_white white) all in
    second (separates depth c) (within || is_white c) (layer_starts false 0 (place + 1) white) (layer_starts within (depth_behind depth c) (place + 1) white) (place ∷ layer_starts true (depth_behind depth c) (place + 1) white)
    (white_no_comma depth c both.0) (or_true within (is_white c) both.0)
    ∙ starts_white within (depth_behind depth c) (place + 1) white both.1

same_by : (comma on : Bool) (place : ℕ) (a b c d e f : List ℕ) → a ≡ d → b ≡ e → c ≡ f → cond comma a (cond on b (place ∷ c)) ≡ cond comma d (cond on e (place ∷ f))
same_by true on place a b c d e f x y z = x
same_by false true place a b c d e f x y z = y
same_by false false place a b c d e f x y z = ap (λ l. place ∷ l) z

pub starts_before : (within : Bool) (depth place : ℕ) (text white : List ℕ) → list_all is_white white ≡ true → layer_starts within depth place (text ++ white) ≡ layer_starts within depth place text
starts_before within depth place [] white all = starts_white within depth place white all
starts_before within depth place (c ∷ cs) white all =
    same_by (separates depth c) (within || is_white c) place
    (layer_starts false 0 (place + 1) (cs ++ white)) (layer_starts within (depth_behind depth c) (place + 1) (cs ++ white)) (layer_starts true (depth_behind depth c) (place + 1) (cs ++ white))
    (layer_starts false 0 (place + 1) cs) (layer_starts within (depth_behind depth c) (place + 1) cs) (layer_starts true (depth_behind depth c) (place + 1) cs)
    (starts_before false 0 (place + 1) cs white all) (starts_before within (depth_behind depth c) (place + 1) cs white all) (starts_before true (depth_behind depth c) (place + 1) cs white all)

-- a part in front of a comma, and the last one

starts_inside : (depth place : ℕ) (part rest : List ℕ) → is_one depth part ≡ true → depth_after depth part ≡ 0 → layer_starts true depth place (part ++ (44 ∷ rest)) ≡ layer_starts false 0 (place + length part + 1) rest
starts_inside depth place [] rest one flat =
    ap (λ d. cond (separates d 44) (layer_starts false 0 (place + 1) rest) (layer_starts true (depth_behind d 44) (place + 1) rest)) flat
    ∙ ap (λ p. layer_starts false 0 p rest) (let e : place + 1 ≡ place + 0 + 1 = omega arith in e)
starts_inside depth place (c ∷ cs) rest one flat =
    let both = and_parts (not (separates depth c)) (is_one (depth_behind depth c) cs) one in
    ap (λ v. cond v (layer_starts false 0 (place + 1) (cs ++ (44 ∷ rest))) (layer_starts true (depth_behind depth c) (place + 1) (cs ++ (44 ∷ rest)))) (not_true (separates depth c) both.0)
    ∙ starts_inside (depth_behind depth c) (place + 1) cs rest both.1 flat
    ∙ ap (λ p. layer_starts false 0 (p + 1) rest) (one_on place c cs)

starts_last : (depth place : ℕ) (part : List ℕ) → is_one depth part ≡ true → layer_starts true depth place part ≡ []
starts_last depth place [] one = refl
starts_last depth place (c ∷ cs) one =
    let both = and_parts (not (separates depth c)) (is_one (depth_behind depth c) cs) one in
    ap (λ v. cond v (layer_starts false 0 (place + 1) cs) (layer_starts true (depth_behind depth c) (place + 1) cs)) (not_true (separates depth c) both.0)
    ∙ starts_last (depth_behind depth c) (place + 1) cs both.1

-- the first byte of a part that isn't white
pub record HasShown (part : List ℕ) : Type 0 where
  pub white : List ℕ
  pub first : ℕ
  pub others : List ℕ
  pub cut : part ≡ white ++ (first ∷ others)
  pub all_white : list_all is_white white ≡ true
  pub shown : is_white first ≡ false

-- with more of the text behind it
abbrev HasFirst : ℕ → ℕ → List ℕ → List ℕ → Type 0
HasFirst depth place part tail = (s : HasShown part) × (behind : ℕ) × (layer_starts false depth place (part ++ tail) ≡ (place + length s.white) ∷ layer_starts true behind (place + length s.white + 1) (s.others ++ tail)) × ((is_one depth part ≡ true) → is_one behind s.others ≡ true) × (depth_after behind s.others ≡ depth_after depth part)

shown_one : (depth place c : ℕ) (cs tail : List ℕ) → is_white c ≡ true → separates depth c ≡ false → HasFirst depth (place + 1) cs tail → HasFirst depth place (c ∷ cs) tail
shown_one depth place c cs tail w one h =
    let s = h.0 in
    let on : place + 1 + length s.white ≡ place + length (c ∷ s.white) = one_on place c s.white in (
      record { white = c ∷ s.white; first = s.first; others = s.others; cut = ap (λ y. c ∷ y) s.cut; all_white = rw (w, s.all_white) refl; shown = s.shown },
      h.1,
      second (separates depth c) (is_white c) (layer_starts false 0 (place + 1) (cs ++ tail)) (layer_starts false (depth_behind depth c) (place + 1) (cs ++ tail)) (place ∷ layer_starts true (depth_behind depth c) (place + 1) (cs ++ tail)) one w
          ∙ ap (λ d. layer_starts false d (place + 1) (cs ++ tail)) (white_flat depth c w)
          ∙ h.2
          ∙ ap (λ p. p ∷ layer_starts true h.1 (p + 1) (s.others ++ tail)) on,
      (λ e. h.3 (subst (λ d. is_one d cs ≡ true) (white_flat depth c w) (and_parts (not (separates depth c)) (is_one (depth_behind depth c) cs) e).1)),
      h.4 ∙ ap (λ d. depth_after d cs) (sym (white_flat depth c w)),
    )

shown_here : (depth place c : ℕ) (cs tail : List ℕ) → is_white c ≡ false → separates depth c ≡ false → HasFirst depth place (c ∷ cs) tail
shown_here depth place c cs tail w one =
    let on : place ≡ place + 0 = omega arith in (
      record { white = []; first = c; others = cs; cut = refl; all_white = refl; shown = w },
      depth_behind depth c,
      third (separates depth c) (is_white c) (layer_starts false 0 (place + 1) (cs ++ tail)) (layer_starts false (depth_behind depth c) (place + 1) (cs ++ tail)) (place ∷ layer_starts true (depth_behind depth c) (place + 1) (cs ++ tail)) one w
          ∙ ap (λ p. p ∷ layer_starts true (depth_behind depth c) (p + 1) (cs ++ tail)) on,
      (λ e. (and_parts (not (separates depth c)) (is_one (depth_behind depth c) cs) e).1),
      refl,
    )

shown_by : (depth place c : ℕ) (cs tail : List ℕ) (b : Bool) → is_white c ≡ b → (is_white c && list_all is_white cs) ≡ false → separates depth c ≡ false
    → (is_white c ≡ true → list_all is_white cs ≡ false → HasFirst depth (place + 1) cs tail) → HasFirst depth place (c ∷ cs) tail
shown_by depth place c cs tail true w shown one h = shown_one depth place c cs tail w one (h w (ap (λ v. v && list_all is_white cs) (sym w) ∙ shown))
shown_by depth place c cs tail false w shown one h = shown_here depth place c cs tail w one

first_at : (depth place : ℕ) (part tail : List ℕ) → list_all is_white part ≡ false → is_one depth part ≡ true → HasFirst depth place part tail
first_at depth place [] tail shown one = absurd (cc)
first_at depth place (c ∷ cs) tail shown one =
    let both = and_parts (not (separates depth c)) (is_one (depth_behind depth c) cs) one in
    shown_by depth place c cs tail (is_white c) refl shown (not_true (separates depth c) both.0)
    (λ w s. first_at depth (place + 1) cs tail s (subst (λ d. is_one d cs ≡ true) (white_flat depth c w) both.1))

length_of : (part : List ℕ) (s : HasShown part) → length part ≡ length s.white + suc (length s.others)
length_of part s = ap length s.cut ∙ length-append s.white (s.first ∷ s.others)

-- a part before a comma begins, and then those of the rest
pub begins_before : (place : ℕ) (part rest : List ℕ) → list_all is_white part ≡ false → is_one 0 part ≡ true → depth_after 0 part ≡ 0 → (p : ℕ) × (layer_starts false 0 place (part ++ (44 ∷ rest)) ≡ p ∷ layer_starts false 0 (place + length part + 1) rest)
begins_before place part rest shown one flat =
    let h = first_at 0 place part (44 ∷ rest) shown one in
    let s = h.0 in
    let long = length_of part s in
    let on : place + length s.white + 1 + length s.others + 1 ≡ place + length part + 1 = omega (arith, long) in (
      place + length s.white,
      h.2
          ∙ ap (λ l. (place + length s.white) ∷ l)
          (starts_inside h.1 (place + length s.white + 1) s.others rest (h.3 one) (h.4 ∙ flat) ∙ ap (λ p. layer_starts false 0 p rest) on),
    )

-- the last part begins alone
pub begins_alone : (place : ℕ) (part : List ℕ) → list_all is_white part ≡ false → is_one 0 part ≡ true → (p : ℕ) × (layer_starts false 0 place part ≡ p ∷ [])
begins_alone place part shown one =
    let h = first_at 0 place part [] shown one in
    let s = h.0 in (
      place + length s.white,
      ap (λ y. layer_starts false 0 place y) (sym (append-nil part))
          ∙ h.2
          ∙ ap (λ l. (place + length s.white) ∷ l)
          (ap (λ y. layer_starts true h.1 (place + length s.white + 1) y) (append-nil s.others) ∙ starts_last h.1 (place + length s.white + 1) s.others (h.3 one)),
    )

-- parts that aren't empty

all_white_trimmed : (text : List ℕ) (b : Bool) → list_all is_white text ≡ b → (trimmed text ≡ [] → ⊥) → list_all is_white text ≡ false
all_white_trimmed text true e n = absurd (n (ap trim_back (front_all text e)))
all_white_trimmed text false e n = e

shown_part : {A : Type 0} (Spells : List ℕ → A → Type 0) (some : (x : A) → Spells [] x → ⊥) (part : List ℕ) (x : A) → IsBetweenWhite Spells part x → list_all is_white part ≡ false
shown_part Spells some part x b =
    all_white_trimmed part (list_all is_white part) refl
    (λ n. some x (subst (λ y. Spells y x) (sym (trimmed_complete part b.inner b.is_inner) ∙ n) b.spells))

-- where a text of parts begins
record HasHead (place : ℕ) (text : List ℕ) : Type 0 where
  white : List ℕ
  first : ℕ
  others : List ℕ
  cut : text ≡ white ++ (first ∷ others)
  all_white : list_all is_white white ≡ true
  shown : is_white first ≡ false
  starts : List ℕ
  is : layer_starts false 0 place text ≡ (place + length white) ∷ starts

head_by : (place : ℕ) (text part tail : List ℕ) → text ≡ part ++ tail → list_all is_white part ≡ false → is_one 0 part ≡ true → HasHead place text
head_by place text part tail e shown one =
    let h = first_at 0 place part tail shown one in
    let s = h.0 in
    record {
      white = s.white;
      first = s.first;
      others = s.others ++ tail;
      cut = e ∙ ap (λ y. y ++ tail) s.cut ∙ append_assoc s.white (s.first ∷ s.others) tail;
      all_white = s.all_white;
      shown = s.shown;
      starts = layer_starts true h.1 (place + length s.white + 1) (s.others ++ tail);
      is = ap (λ y. layer_starts false 0 place y) e ∙ h.2;
    }

head_of : {A : Type 0} (Spells : List ℕ → A → Type 0) (some : (x : A) → Spells [] x → ⊥) (text : List ℕ) (xs : List A) → Separated Spells text xs → (place : ℕ) → HasHead place text
head_of Spells some text xs (last t x one b) place = head_by place t t [] (sym (append-nil t)) (shown_part Spells some t x b) one
head_of Spells some text xs (more t part rest x ys e one flat b m) place = head_by place t part (44 ∷ rest) e (shown_part Spells some part x b) one

some_part : {A : Type 0} (Spells : List ℕ → A → Type 0) (text : List ℕ) (xs : List A) → Separated Spells text xs → 0 < length xs
some_part Spells text xs (last t x one b) = omega arith
some_part Spells text xs (more t part rest x ys e one flat b m) = omega arith

-- where the part behind the first ones begins

abbrev Next : {A : Type 0} → ℕ → (List ℕ → A → Type 0) → List ℕ → List A → ℕ → ℕ → Type 0
Next n Spells text xs place at = (i : ℕ) × (at ≡ place + i) × IsNext n Spells text xs i

next_one : {A : Type 0} (Spells : List ℕ → A → Type 0) (some : (x : A) → Spells [] x → ⊥) (t part rest : List ℕ) (x : A) (ys : List A) → t ≡ part ++ (44 ∷ rest) → is_one 0 part ≡ true
    → IsBetweenWhite Spells part x → Separated Spells rest ys → (place at : ℕ) → slice_get (layer_starts false 0 (place + length part + 1) rest) 0 ≡ Some at → Next 1 Spells t (x ∷ ys) place at
next_one Spells some t part rest x ys e one b m place at f =
    let h = head_of Spells some rest ys m (place + length part + 1) in
    let here : Some (place + length part + 1 + length h.white) ≡ Some at = sym (ap (λ l. slice_get l 0) h.is) ∙ f in
    let same : place + length part + 1 + length h.white ≡ at = cc in
    let many = some_part Spells rest ys m in (
      length part + suc (length h.white),
      (omega (arith, same)),
      record {
        front = part;
        white = h.white;
        first = h.first;
        others = h.others;
        cut = e ∙ ap (λ y. part ++ (44 ∷ y)) h.cut;
        all_white = h.all_white;
        shown = h.shown;
        spells = last part x one b;
        many = omega (arith, many);
        left = subst (λ y. Separated Spells y ys) h.cut m;
        place = refl;
      },
    )

next_more : {A : Type 0} (Spells : List ℕ → A → Type 0) (n : ℕ) (t part rest : List ℕ) (x : A) (ys : List A) → t ≡ part ++ (44 ∷ rest) → is_one 0 part ≡ true → depth_after 0 part ≡ 0
    → IsBetweenWhite Spells part x → (place at : ℕ) → Next n Spells rest ys (place + length part + 1) at → Next (suc n) Spells t (x ∷ ys) place at
next_more Spells n t part rest x ys e one flat b place at h =
    let k = h.2 in
    let far = h.1 in
    let inner = k.place in
    let many = k.many in
    let long : length (part ++ (44 ∷ k.front)) ≡ length part + suc (length k.front) = length-append part (44 ∷ k.front) in (
      length part + suc h.0,
      (omega (arith, far)),
      record {
        front = part ++ (44 ∷ k.front);
        white = k.white;
        first = k.first;
        others = k.others;
        cut = e ∙ ap (λ y. part ++ (44 ∷ y)) k.cut ∙ sym (append_assoc part (44 ∷ k.front) (44 ∷ (k.white ++ (k.first ∷ k.others))));
        all_white = k.all_white;
        shown = k.shown;
        spells = more (part ++ (44 ∷ k.front)) part k.front x (take n ys) refl one flat b k.spells;
        many = omega (arith, many);
        left = k.left;
        place = omega (arith, long, inner);
      },
    )

pub next_at : {A : Type 0} (Spells : List ℕ → A → Type 0) (some : (x : A) → Spells [] x → ⊥) (n : ℕ) (text : List ℕ) (xs : List A) → Separated Spells text xs → (place at : ℕ) → slice_get (layer_starts false 0 place text) (suc n) ≡ Some at
    → Next (suc n) Spells text xs place at
next_at Spells some n text xs (last t x one b) place at f =
    let alone = begins_alone place t (shown_part Spells some t x b) one in
    let none : None ≡ Some at = sym (ap (λ l. slice_get l (suc n)) alone.1) ∙ f in
    absurd (cc)
next_at Spells some zero text xs (more t part rest x ys e one flat b m) place at f =
    let o = begins_before place part rest (shown_part Spells some part x b) one flat in
    next_one Spells some t part rest x ys e one b m place at
    (sym (ap (λ l. slice_get l 1) (ap (layer_starts false 0 place) e ∙ o.1)) ∙ f)
next_at Spells some (suc n) text xs (more t part rest x ys e one flat b m) place at f =
    let o = begins_before place part rest (shown_part Spells some part x b) one flat in
    next_more Spells (suc n) t part rest x ys e one flat b place at
    (next_at Spells some n rest ys m (place + length part + 1) at
    (sym (ap (λ l. slice_get l (suc (suc n))) (ap (layer_starts false 0 place) e ∙ o.1)) ∙ f))
