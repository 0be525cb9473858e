-- Numbered bytes are as many as the bytes, and are cut as these are.
-- Below the answers on splitting and cutting.
use Rattle.std.proofs.Common.{◌≡◌, ℕ, zero, suc, ◌+◌, ◌<◌, ◌≤◌, Bool, cond, not, List, [], ◌∷◌, map, length, take, drop, slice_get, refl, sym, ◌∙◌, ap, arith, Some, None}
use Rattle.std.proofs.Math.ListN.{drop_of_length-le}
use Rattle.std.specs.Option.{option_map}
use Rattle.std.specs.List.{position_or_len}
use Rattle.fx_css.specs.declared.parts.Part.{Part as Held}
use Rattle.fx_css.specs.Numbered.{numbered, shown, bytes_of}

pub fewer : {A B : Type 0} (a : A) (xs : List A) (b : B) (ys : List B) → length (a ∷ xs) ≡ length (b ∷ ys) → length xs ≡ length ys
fewer a xs b ys e = omega (arith, e)

pub shown_is : (p : Held) → shown p ≡ numbered p.number p.bytes.now p.signs.now
unfolding shown
shown_is p = refl

pub length_numbered : (n : ℕ) (bs ss : List ℕ) → length bs ≡ length ss → length (numbered n bs ss) ≡ length bs
length_numbered n [] ss e = refl
length_numbered n (b ∷ bs) [] e = absurd (omega (arith, e))
length_numbered n (b ∷ bs) (s ∷ ss) e = ap suc (length_numbered (suc n) bs ss (fewer b bs s ss e))

pub take_numbered : (k n : ℕ) (bs ss : List ℕ) → take k (numbered n bs ss) ≡ numbered n (take k bs) (take k ss)
take_numbered zero n bs ss = refl
take_numbered (suc k) n [] ss = refl
take_numbered (suc k) n (b ∷ bs) [] = refl
take_numbered (suc k) n (b ∷ bs) (s ∷ ss) = ap (λ ms. (record { byte = b; sign = s; number = n }) ∷ ms) (take_numbered k (suc n) bs ss)

pub drop_numbered : (k n : ℕ) (bs ss : List ℕ) → length bs ≡ length ss → drop k (numbered n bs ss) ≡ numbered (n + k) (drop k bs) (drop k ss)
drop_numbered zero n bs ss e = ap (λ y. numbered y bs ss) (let z : n ≡ n + 0 = omega arith in z)
drop_numbered (suc k) n [] ss e = refl
drop_numbered (suc k) n (b ∷ bs) [] e = absurd (omega (arith, e))
drop_numbered (suc k) n (b ∷ bs) (s ∷ ss) e = drop_numbered k (suc n) bs ss (fewer b bs s ss e) ∙ ap (λ y. numbered y (drop k bs) (drop k ss)) (let z : suc n + k ≡ n + suc k = omega arith in z)

pub bytes_numbered : (n : ℕ) (bs ss : List ℕ) → length bs ≡ length ss → bytes_of (numbered n bs ss) ≡ bs
bytes_numbered n [] ss e = refl
bytes_numbered n (b ∷ bs) [] e = absurd (omega (arith, e))
bytes_numbered n (b ∷ bs) (s ∷ ss) e = ap (λ y. b ∷ y) (bytes_numbered (suc n) bs ss (fewer b bs s ss e))

pub signs_numbered : (n : ℕ) (bs ss : List ℕ) → length bs ≡ length ss → map (λ m. m.sign) (numbered n bs ss) ≡ ss
signs_numbered n [] [] e = refl
signs_numbered n [] (s ∷ ss) e = absurd (omega (arith, e))
signs_numbered n (b ∷ bs) [] e = absurd (omega (arith, e))
signs_numbered n (b ∷ bs) (s ∷ ss) e = ap (λ y. s ∷ y) (signs_numbered (suc n) bs ss (fewer b bs s ss e))

-- the number of the byte at an index
get_numbered : (i n : ℕ) (bs ss : List ℕ) → length bs ≡ length ss → i < length bs → option_map (λ m. m.number) (slice_get (numbered n bs ss) i) ≡ Some (n + i)
get_numbered i n [] ss e h = absurd (omega arith)
get_numbered i n (b ∷ bs) [] e h = absurd (omega (arith, e))
get_numbered zero n (b ∷ bs) (s ∷ ss) e h = ap Some (let z : n ≡ n + 0 = omega arith in z)
get_numbered (suc i) n (b ∷ bs) (s ∷ ss) e h = get_numbered i (suc n) bs ss (fewer b bs s ss e) (omega arith) ∙ ap Some (let z : suc n + i ≡ n + suc i = omega arith in z)

none_numbered : (i n : ℕ) (bs ss : List ℕ) → length bs ≤ i → option_map (λ m. m.number) (slice_get (numbered n bs ss) i) ≡ None
none_numbered i n [] ss h = refl
none_numbered i n (b ∷ bs) [] h = refl
none_numbered zero n (b ∷ bs) (s ∷ ss) h = absurd (omega arith)
none_numbered (suc i) n (b ∷ bs) (s ∷ ss) h = none_numbered i (suc n) bs ss (omega arith)

no_numbered : (n : ℕ) (bs ss : List ℕ) → length bs ≡ 0 → numbered n bs ss ≡ []
no_numbered n [] ss e = refl
no_numbered n (b ∷ bs) ss e = absurd (omega (arith, e))

-- the same of parts

pub length_shown : (p : Held) → length (shown p) ≡ length p.bytes.now
length_shown p = ap length (shown_is p) ∙ length_numbered p.number p.bytes.now p.signs.now p.same

pub length_signs : (p : Held) → length (shown p) ≡ length p.signs.now
length_signs p = length_shown p ∙ p.same

pub none_shown : (p : Held) → length p.bytes.now ≡ 0 → shown p ≡ []
none_shown p e = shown_is p ∙ no_numbered p.number p.bytes.now p.signs.now e

pub front_shown : (p q : Held) (k : ℕ) → q.number ≡ p.number → q.bytes.now ≡ take k p.bytes.now → q.signs.now ≡ take k p.signs.now → shown q ≡ take k (shown p)
front_shown p q k e f g =
    shown_is q ∙ (ap (λ y. numbered y q.bytes.now q.signs.now) e ∙ (ap (λ y. numbered p.number y q.signs.now) f ∙ ap (λ y. numbered p.number (take k p.bytes.now) y) g))
    ∙ sym (ap (take k) (shown_is p) ∙ take_numbered k p.number p.bytes.now p.signs.now)

pub behind_shown : (p q : Held) (k : ℕ) → q.number ≡ p.number + k → q.bytes.now ≡ drop k p.bytes.now → q.signs.now ≡ drop k p.signs.now → shown q ≡ drop k (shown p)
behind_shown p q k e f g =
    shown_is q ∙ (ap (λ y. numbered y q.bytes.now q.signs.now) e ∙ (ap (λ y. numbered (p.number + k) y q.signs.now) f ∙ ap (λ y. numbered (p.number + k) (drop k p.bytes.now) y) g))
    ∙ sym (ap (drop k) (shown_is p) ∙ drop_numbered k p.number p.bytes.now p.signs.now p.same)

pub all_behind : (p : Held) (k : ℕ) → length p.bytes.now < k → drop k (shown p) ≡ []
all_behind p k h =
    let e : length (shown p) ≡ length p.bytes.now = length_shown p in
    let f : length (shown p) ≤ k = omega arith in
    drop_of_length-le (shown p) f

pub first_shown_is : (p q : Held) (b s : ℕ) (bs ss : List ℕ) → p.bytes.now ≡ b ∷ bs → p.signs.now ≡ s ∷ ss → q.bytes.now ≡ bs → q.signs.now ≡ ss → q.number ≡ p.number + 1 → shown p ≡ record { byte = b; sign = s; number = p.number } ∷ shown q
first_shown_is p q b s bs ss e f g h k =
    let z : p.number + 1 ≡ suc p.number = omega arith in
    let rest : shown q ≡ numbered (suc p.number) bs ss = shown_is q ∙ (ap (λ y. numbered y q.bytes.now q.signs.now) (k ∙ z) ∙ (ap (λ y. numbered (suc p.number) y q.signs.now) g ∙ ap (λ y. numbered (suc p.number) bs y) h)) in
    shown_is p ∙ (ap (λ y. numbered p.number y p.signs.now) e ∙ (ap (λ y. numbered p.number (b ∷ bs) y) f ∙ ap (λ y. (record { byte = b; sign = s; number = p.number }) ∷ y) (sym rest)))

pub bytes_shown : (p : Held) → p.bytes.now ≡ bytes_of (shown p)
bytes_shown p = sym (ap bytes_of (shown_is p) ∙ bytes_numbered p.number p.bytes.now p.signs.now p.same)

pub signs_shown : (p : Held) → map (λ m. m.sign) (shown p) ≡ p.signs.now
signs_shown p = ap (map (λ m. m.sign)) (shown_is p) ∙ signs_numbered p.number p.bytes.now p.signs.now p.same

pub some_number : (p : Held) (i : ℕ) → i < length p.bytes.now → Some (p.number + i) ≡ option_map (λ m. m.number) (slice_get (shown p) i)
some_number p i h = sym (ap (λ y. option_map (λ m. m.number) (slice_get y i)) (shown_is p) ∙ get_numbered i p.number p.bytes.now p.signs.now p.same h)

pub no_number : (p : Held) (i : ℕ) → length p.bytes.now ≤ i → None ≡ option_map (λ m. m.number) (slice_get (shown p) i)
no_number p i h = sym (ap (λ y. option_map (λ m. m.number) (slice_get y i)) (shown_is p) ∙ none_numbered i p.number p.bytes.now p.signs.now h)

-- where the first byte stands that has this meaning

pub position_of : {A B : Type 0} (p : B → Bool) (f : A → B) (xs : List A) → position_or_len (λ x. p (f x)) xs ≡ position_or_len p (map f xs)
position_of p f [] = refl
position_of p f (x ∷ xs) = ap (λ y. cond (not (p (f x))) (1 + y) 0) (position_of p f xs)
