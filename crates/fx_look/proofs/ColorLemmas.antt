-- The reading of colours meets their grammar: it finds one exactly where a text spells it.
use Rattle.std.proofs.Common.{◌≡◌, ◌≢◌, ℕ, zero, suc, ◌+◌, ◌-◌, ◌*◌, ◌/◌, ◌^◌, ◌<◌, ◌≤◌, ◌⊎◌, inl, inr, Bool, true, false, not, ◌||◌, ◌&&◌, ◌==◌, nat_lt, if◌then◌else◌, min, List, [], ◌∷◌, ◌++◌, length, map, slice_index_or, codes, Option, Some, None, refl, sym, ap, ◌∙◌, subst, arith, append_assoc}
use Rattle.std.specs.Prelude.{IfSome, IfNone, MatchOption, is_none}
use Rattle.std.specs.Borrow.{Bor}
use Rattle.std.specs.List.{list_all, find}
use Rattle.std.specs.Option.{option_and_then, option_map}
use Rattle.std.specs.Str.{bytes_eq, str_to_ascii_lowercase}
use Rattle.std.specs.Char.{is_ascii_digit, to_ascii_lowercase}
use Rattle.std.proofs.lemmas.Slice.Eq.{bytes_eq-Decides}
use Rattle.std.proofs.lemmas.Bool.{and_parts, not-true}
use Rattle.std.proofs.lemmas.Bool.Decides.{eqb_tells, leb_tells, nat_tests}
use Rattle.std.proofs.lemmas.List.{map-append, length-append}
use Rattle.std.proofs.lemmas.List.Sums.{AllPass-from_list_all}
use Rattle.fx_base.specs.declared.color.Color.{Color}
use Rattle.fx_text.specs.Classes.{hex_value, is_white}
use Rattle.fx_text.specs.Digits.{number_of_digits}
use Rattle.fx_text.specs.Fronts.{front, behind, stops}
use Rattle.fx_text.proofs.DigitLemmas.{ten_power}
use Rattle.fx_text.proofs.FrontLemmas.{tells, bytes_tell, or_parts, else_gives, map_gives, bind_gives, behind-stop, front-passes, front_and_behind}
use Rattle.fx_look.specs.Decimals.{Decimal, IsSign, IsDecimal, decimal_at}
use Rattle.fx_look.specs.ColorNames.{names}
use Rattle.fx_look.specs.Colors.{color, solid, same_letters, IsNamed, IsHexDigit, IsHex, short, long, shared, IsArgument, IsChannel, IsOpacity, IsRgb, IsRgba, IsColor, hexadecimal, rgb, rgba, transparent, named, entry_at, strip, pair_value, twice_value, three, hex_at, before_mark, argument_at, channel_value, opacity_value, channel_at, opacity_at, ended, rgb_at, rgba_at, word_at, color_at}
use Rattle.fx_look.specs.Rounding.{digits_of, leading}
use Rattle.fx_look.proofs.RoundingLemmas.{quotient, leading_front, leading_all}
use Rattle.fx_look.proofs.DecimalLemmas.{goes_on, decimal_sound, decimal_complete, begins, begins_digits}

-- hexadecimal colours

three_sound : (red green blue : Option ℕ) (a : ℕ) (c : Color) → three red green blue a ≡ Some c → (r : ℕ) × (g : ℕ) × (b : ℕ) × (red ≡ Some r) × (green ≡ Some g) × (blue ≡ Some b) × (color r g b a ≡ c)
unfolding three
three_sound red green blue a c e =
    let r = bind_gives (λ r. option_and_then (λ g. option_map (λ b. color r g b a) blue) green) red c e in
    let g = bind_gives (λ g. option_map (λ b. color r.0 g b a) blue) green c r.2 in
    let b = map_gives (λ b. color r.0 g.0 b a) blue c g.2 in
    (r.0, g.0, b.0, r.1, g.1, b.1, b.2)

pair_sound : (x y v : ℕ) → pair_value x y ≡ Some v → (h : ℕ) × (l : ℕ) × IsHexDigit x h × IsHexDigit y l × (16 * h + l ≡ v)
unfolding pair_value
pair_sound x y v e =
    let h = bind_gives (λ high. option_map (λ low. 16 * high + low) (hex_value y)) (hex_value x) v e in
    let l = map_gives (λ low. 16 * h.0 + low) (hex_value y) v h.2 in
    (h.0, l.0, h.1, l.1, l.2)

color_same : (r g b a s h c d : ℕ) → r ≡ s → g ≡ h → b ≡ c → a ≡ d → color r g b a ≡ color s h c d
color_same r g b a s h c d p q u v = rw (p, q, u, v) refl

hex_sound : (digits : List ℕ) (c : Color) → hex_at digits ≡ Some c → IsHex (35 ∷ digits) c
unfolding twice_value
hex_sound (x ∷ y ∷ z ∷ []) c e =
    let t = three_sound (twice_value x) (twice_value y) (twice_value z) 255 c e in
    let r = map_gives (λ value. 17 * value) (hex_value x) t.0 t.3 in
    let g = map_gives (λ value. 17 * value) (hex_value y) t.1 t.4 in
    let b = map_gives (λ value. 17 * value) (hex_value z) t.2 t.5 in
    subst (IsHex (35 ∷ x ∷ y ∷ z ∷ [])) (color_same (17 * r.0) (17 * g.0) (17 * b.0) 255 t.0 t.1 t.2 255 r.2 g.2 b.2 refl ∙ t.6)
    (short x y z r.0 g.0 b.0 r.1 g.1 b.1)
hex_sound (x0 ∷ x1 ∷ y0 ∷ y1 ∷ z0 ∷ z1 ∷ []) c e =
    let t = three_sound (pair_value x0 x1) (pair_value y0 y1) (pair_value z0 z1) 255 c e in
    let r = pair_sound x0 x1 t.0 t.3 in
    let g = pair_sound y0 y1 t.1 t.4 in
    let b = pair_sound z0 z1 t.2 t.5 in
    subst (IsHex (35 ∷ x0 ∷ x1 ∷ y0 ∷ y1 ∷ z0 ∷ z1 ∷ []))
    (color_same (16 * r.0 + r.1) (16 * g.0 + g.1) (16 * b.0 + b.1) 255 t.0 t.1 t.2 255 r.4 g.4 b.4 refl ∙ t.6)
    (long x0 x1 y0 y1 z0 z1 r.0 r.1 g.0 g.1 b.0 b.1 r.2 r.3 g.2 g.3 b.2 b.3)
hex_sound (x0 ∷ x1 ∷ y0 ∷ y1 ∷ z0 ∷ z1 ∷ w0 ∷ w1 ∷ []) c e =
    let w = bind_gives (three (pair_value x0 x1) (pair_value y0 y1) (pair_value z0 z1)) (pair_value w0 w1) c e in
    let a = pair_sound w0 w1 w.0 w.1 in
    let t = three_sound (pair_value x0 x1) (pair_value y0 y1) (pair_value z0 z1) w.0 c w.2 in
    let r = pair_sound x0 x1 t.0 t.3 in
    let g = pair_sound y0 y1 t.1 t.4 in
    let b = pair_sound z0 z1 t.2 t.5 in
    subst (IsHex (35 ∷ x0 ∷ x1 ∷ y0 ∷ y1 ∷ z0 ∷ z1 ∷ w0 ∷ w1 ∷ []))
    (color_same (16 * r.0 + r.1) (16 * g.0 + g.1) (16 * b.0 + b.1) (16 * a.0 + a.1) t.0 t.1 t.2 w.0 r.4 g.4 b.4 a.4 ∙ t.6)
    (shared x0 x1 y0 y1 z0 z1 w0 w1 r.0 r.1 g.0 g.1 b.0 b.1 a.0 a.1 r.2 r.3 g.2 g.3 b.2 b.3 a.2 a.3)
hex_sound [] c e = absurd (cc)
hex_sound (x ∷ []) c e = absurd (cc)
hex_sound (x ∷ y ∷ []) c e = absurd (cc)
hex_sound (x ∷ y ∷ z ∷ w ∷ []) c e = absurd (cc)
hex_sound (x ∷ y ∷ z ∷ w ∷ u ∷ []) c e = absurd (cc)
hex_sound (x0 ∷ x1 ∷ y0 ∷ y1 ∷ z0 ∷ z1 ∷ w0 ∷ []) c e = absurd (cc)
hex_sound (x0 ∷ x1 ∷ y0 ∷ y1 ∷ z0 ∷ z1 ∷ w0 ∷ w1 ∷ u ∷ us) c e = absurd (cc)

hex_complete : (text : List ℕ) (c : Color) → IsHex text c → color_at text ≡ Some c
unfolding three twice_value pair_value
hex_complete text c (short x y z r g b p q s) = rw (p, q, s) refl
hex_complete text c (long x0 x1 y0 y1 z0 z1 r0 r1 g0 g1 b0 b1 p0 p1 q0 q1 s0 s1) = rw (p0, p1, q0, q1, s0, s1) refl
hex_complete text c (shared x0 x1 y0 y1 z0 z1 w0 w1 r0 r1 g0 g1 b0 b1 a0 a1 p0 p1 q0 q1 s0 s1 t0 t1) = rw (p0, p1, q0, q1, s0, s1, t0, t1) refl

-- arguments

mark_sound : (mark : ℕ) (d : Decimal) (text : List ℕ) (p : Decimal × List ℕ) → before_mark mark d text ≡ Some p → (text ≡ mark ∷ p.1) × (d ≡ p.0)
mark_sound mark d [] p e = absurd (cc)
mark_sound mark d (c ∷ cs) p e = elim (eqb_tells c mark) [
  | inl t ↦ let f = rw t.0 at e in
      let same : (d, cs) ≡ p = cc in
      (ap (λ v. v ∷ cs) t.1 ∙ ap (λ (q : Decimal × List ℕ). mark ∷ q.1) same, ap (λ (q : Decimal × List ℕ). q.0) same)
  | inr t ↦ let f = rw t.0 at e in absurd (cc)
]

record ReadsArgument (mark : ℕ) (text : List ℕ) (p : Decimal × List ℕ) : Type 0 where
  argument : List ℕ
  is_argument : IsArgument argument p.0
  parts : text ≡ argument ++ (mark ∷ p.1)

assemble : (a b c d : List ℕ) → a ++ (b ++ (c ++ d)) ≡ (a ++ (b ++ c)) ++ d
assemble a b c d = ap (λ v. a ++ v) (sym (append_assoc b c d)) ∙ sym (append_assoc a (b ++ c) d)

argument_sound : (mark : ℕ) (text : List ℕ) (p : Decimal × List ℕ) → argument_at mark text ≡ Some p → ReadsArgument mark text p
argument_sound mark text p e =
    let q = bind_gives (λ (q : Decimal × List ℕ). before_mark mark q.0 (behind is_white q.1)) (decimal_at (behind is_white text)) p e in
    let d = decimal_sound (behind is_white text) q.0 q.1 in
    let m = mark_sound mark q.0.0 (behind is_white q.0.1) p q.2 in
    let rest : q.0.1 ≡ front is_white q.0.1 ++ (mark ∷ p.1) = front_and_behind is_white q.0.1 ∙ ap (λ v. front is_white q.0.1 ++ v) m.0 in
    let start : text ≡ front is_white text ++ (d.digits ++ q.0.1) = front_and_behind is_white text ∙ ap (λ v. front is_white text ++ v) d.parts in
    record {
      argument = front is_white text ++ (d.digits ++ front is_white q.0.1);
      is_argument = record {
        before = front is_white text;
        digits = d.digits;
        after = front is_white q.0.1;
        parts = refl;
        is_decimal = subst (IsDecimal d.digits) m.1 d.is_decimal;
        white_before = front-passes is_white text;
        white_after = front-passes is_white q.0.1;
      };
      parts = start ∙ ap (λ v. front is_white text ++ (d.digits ++ v)) rest ∙ assemble (front is_white text) d.digits (front is_white q.0.1) (mark ∷ p.1);
    }

white_low : (c : ℕ) → is_white c ≡ true → (c ≡ 32) ⊎ ((c ≡ 9) ⊎ ((c ≡ 10) ⊎ (c ≡ 13)))
white_low c e = elim (or_parts ((c == 32) || (c == 9)) ((c == 10) || (c == 13)) e) [
  | inl t ↦ elim (or_parts (c == 32) (c == 9) t) [ inl u ↦ inl (grind (arith, nat_tests)) | inr u ↦ inr (inl (grind (arith, nat_tests))) ]
  | inr t ↦ elim (or_parts (c == 10) (c == 13) t) [ inl u ↦ inr (inr (inl (grind (arith, nat_tests)))) | inr u ↦ inr (inr (inr (grind (arith, nat_tests)))) ]
]

white_stops : (c : ℕ) → is_white c ≡ true → goes_on c ≡ false
white_stops c e = elim (white_low c e) [ inl t ↦ rw t refl | inr t ↦ elim t [ inl u ↦ rw u refl | inr u ↦ elim u [ inl v ↦ rw v refl | inr v ↦ rw v refl ] ] ]

pub digit_no_white : (c : ℕ) → is_ascii_digit c ≡ true → is_white c ≡ false
digit_no_white c d = elim (tells (is_white c)) [
  | inl w ↦ let g = white_stops c w in let h : (is_ascii_digit c || (c == 46)) ≡ true = rw d refl in absurd (cc)
  | inr w ↦ w
]

-- a decimal begins with no white
pub decimal_no_white : (text rest : List ℕ) (d : Decimal) → IsDecimal text d → stops is_white (text ++ rest) ≡ true
unfolding begins
decimal_no_white text rest d i =
    rw (i.parts, append_assoc i.sign (d.whole ++ i.fraction) rest, append_assoc d.whole i.fraction rest) (by_sign i.sign d.negative i.is_sign (d.whole ++ (i.fraction ++ rest)) (begins_digits d.whole (i.fraction ++ rest) i.is_whole))
  where
    by_digit : (xs : List ℕ) → begins xs ≡ true → stops is_white xs ≡ true
    by_digit [] b = absurd (cc)
    by_digit (c ∷ cs) b = rw (digit_no_white c b) refl

    by_sign : (sign : List ℕ) (negative : Bool) → IsSign sign negative → (xs : List ℕ) → begins xs ≡ true → stops is_white (sign ++ xs) ≡ true
    by_sign sign negative (inl (n, inl e)) xs b = rw e (by_digit xs b)
    by_sign sign negative (inl (n, inr e)) xs b = rw e refl
    by_sign sign negative (inr (n, e)) xs b = rw e refl

white_front_stops : (xs rest : List ℕ) → list_all is_white xs ≡ true → stops goes_on rest ≡ true → stops goes_on (xs ++ rest) ≡ true
white_front_stops [] rest w s = s
white_front_stops (c ∷ cs) rest w s = rw (white_stops c (and_parts (is_white c) (list_all is_white cs) w).0) refl

argument_complete : (mark : ℕ) (text rest : List ℕ) (d : Decimal) → IsArgument text d → is_white mark ≡ false → goes_on mark ≡ false → argument_at mark (text ++ (mark ∷ rest)) ≡ Some (d, rest)
argument_complete mark text rest d i white on =
    let whole : text ++ (mark ∷ rest) ≡ i.before ++ (i.digits ++ (i.after ++ (mark ∷ rest))) = ap (λ v. v ++ (mark ∷ rest)) i.parts ∙ sym (assemble i.before i.digits i.after (mark ∷ rest)) in
    let first : behind is_white (i.before ++ (i.digits ++ (i.after ++ (mark ∷ rest)))) ≡ i.digits ++ (i.after ++ (mark ∷ rest)) =
    behind-stop is_white i.before (i.digits ++ (i.after ++ (mark ∷ rest))) i.white_before (decimal_no_white i.digits (i.after ++ (mark ∷ rest)) d i.is_decimal) in
    let stop_on : stops goes_on (mark ∷ rest) ≡ true = rw on refl in
    let stop_white : stops is_white (mark ∷ rest) ≡ true = rw white refl in
    let decimal = decimal_complete i.digits (i.after ++ (mark ∷ rest)) d i.is_decimal (white_front_stops i.after (mark ∷ rest) i.white_after stop_on) in
    let second : behind is_white (i.after ++ (mark ∷ rest)) ≡ mark ∷ rest = behind-stop is_white i.after (mark ∷ rest) i.white_after stop_white in
    let same : (mark == mark) ≡ true = grind (arith, nat_tests) in
    rw (whole, first, decimal, second, same) refl

-- channels and opacity

channel_value_sound : (d : Decimal) (n : ℕ) → channel_value d ≡ Some n → (d.fraction ≡ []) × (n ≡ (if d.negative then 0 else min 255 (number_of_digits d.whole)))
channel_value_sound d n e =
    let t = else_gives (nat_lt 0 (length d.fraction)) (Some (if d.negative then 0 else min 255 (number_of_digits d.whole))) n e in
    (nothing d.fraction t.0, sym (cc t.1))
  where
    nothing : (xs : List ℕ) → nat_lt 0 (length xs) ≡ false → xs ≡ []
    nothing [] f = refl
    nothing (x ∷ xs) f = absurd (let g : 0 < length (x ∷ xs) = omega arith in grind (arith, nat_tests))

opacity_value_sound : (d : Decimal) (n : ℕ) → opacity_value d ≡ Some n → (length d.fraction ≤ 9) × (opacity_value d ≡ Some n)
opacity_value_sound d n e = elim (leb_tells (suc 9) (length d.fraction)) [
  | inl t ↦ absurd (let f = rw t.0 at e in cc)
  | inr t ↦ (omega arith, e)
]

record ReadsChannel (mark : ℕ) (text : List ℕ) (p : ℕ × List ℕ) : Type 0 where
  argument : List ℕ
  is_channel : IsChannel argument p.0
  parts : text ≡ argument ++ (mark ∷ p.1)

channel_sound : (mark : ℕ) (text : List ℕ) (p : ℕ × List ℕ) → channel_at mark text ≡ Some p → ReadsChannel mark text p
channel_sound mark text p e =
    let a = bind_gives (λ (q : Decimal × List ℕ). option_map (λ channel. (channel, q.1)) (channel_value q.0)) (argument_at mark text) p e in
    let v = map_gives (λ channel. (channel, a.0.1)) (channel_value a.0.0) p a.2 in
    let r = argument_sound mark text a.0 a.1 in
    let w = channel_value_sound a.0.0 v.0 v.1 in
    subst (ReadsChannel mark text) v.2 (record { argument = r.argument; is_channel = record { number = a.0.0; is_argument = r.is_argument; whole = w.0; value = w.1 }; parts = r.parts })

channel_complete : (mark : ℕ) (text rest : List ℕ) (n : ℕ) → IsChannel text n → is_white mark ≡ false → goes_on mark ≡ false → channel_at mark (text ++ (mark ∷ rest)) ≡ Some (n, rest)
channel_complete mark text rest n i white on =
    let none : nat_lt 0 (length i.number.fraction) ≡ false = rw i.whole refl in
    rw (argument_complete mark text rest i.number i.is_argument white on, none, i.value) refl

record ReadsOpacity (mark : ℕ) (text : List ℕ) (p : ℕ × List ℕ) : Type 0 where
  argument : List ℕ
  is_opacity : IsOpacity argument p.0
  parts : text ≡ argument ++ (mark ∷ p.1)

opacity_of : (text : List ℕ) (d : Decimal) (n : ℕ) → IsArgument text d → opacity_value d ≡ Some n → IsOpacity text n
opacity_of text d n a e =
    let t = else_gives (nat_lt 9 (length d.fraction)) (Some ((2 * (255 * (if d.negative then 0 else min (number_of_digits (d.whole ++ d.fraction)) (10 ^ length d.fraction))) + 10 ^ length d.fraction) / (2 * 10 ^ length d.fraction))) n e in
    record { number = d; is_argument = a; few = (opacity_value_sound d n e).0; value = sym (cc t.1) }

opacity_sound : (mark : ℕ) (text : List ℕ) (p : ℕ × List ℕ) → opacity_at mark text ≡ Some p → ReadsOpacity mark text p
opacity_sound mark text p e =
    let a = bind_gives (λ (q : Decimal × List ℕ). option_map (λ opacity. (opacity, q.1)) (opacity_value q.0)) (argument_at mark text) p e in
    let v = map_gives (λ opacity. (opacity, a.0.1)) (opacity_value a.0.0) p a.2 in
    let r = argument_sound mark text a.0 a.1 in
    subst (ReadsOpacity mark text) v.2 (record { argument = r.argument; is_opacity = opacity_of r.argument a.0.0 v.0 r.is_argument v.1; parts = r.parts })

opacity_complete : (mark : ℕ) (text rest : List ℕ) (n : ℕ) → IsOpacity text n → is_white mark ≡ false → goes_on mark ≡ false → opacity_at mark (text ++ (mark ∷ rest)) ≡ Some (n, rest)
opacity_complete mark text rest n i white on =
    let few = i.few in
    let none : nat_lt 9 (length i.number.fraction) ≡ false = grind (arith, nat_tests) in
    rw (argument_complete mark text rest i.number i.is_argument white on, none, i.value) refl

ended_sound : (c d : Color) (text : List ℕ) → ended c text ≡ Some d → (text ≡ []) × (c ≡ d)
ended_sound c d [] e = (refl, cc)
ended_sound c d (x ∷ xs) e = absurd (cc)

rgb_sound : (text : List ℕ) (c : Color) → rgb_at text ≡ Some c → IsRgb (codes "rgb(" ++ text) c
rgb_sound text c e =
    let r = bind_gives (λ (r : ℕ × List ℕ). option_and_then (λ (g : ℕ × List ℕ). option_and_then (λ (b : ℕ × List ℕ). ended (color r.0 g.0 b.0 255) b.1) (channel_at 41 g.1)) (channel_at 44 r.1)) (channel_at 44 text) c e in
    let g = bind_gives (λ (g : ℕ × List ℕ). option_and_then (λ (b : ℕ × List ℕ). ended (color r.0.0 g.0 b.0 255) b.1) (channel_at 41 g.1)) (channel_at 44 r.0.1) c r.2 in
    let b = bind_gives (λ (b : ℕ × List ℕ). ended (color r.0.0 g.0.0 b.0 255) b.1) (channel_at 41 g.0.1) c g.2 in
    let end = ended_sound (color r.0.0 g.0.0 b.0.0 255) c b.0.1 b.2 in
    let x = channel_sound 44 text r.0 r.1 in
    let y = channel_sound 44 r.0.1 g.0 g.1 in
    let z = channel_sound 41 g.0.1 b.0 b.1 in
    subst (IsRgb (codes "rgb(" ++ text)) end.1 (record {
      red = x.argument;
      green = y.argument;
      blue = z.argument;
      parts = ap (λ v. codes "rgb(" ++ v) (x.parts ∙ ap (λ v. x.argument ++ (44 ∷ v)) (y.parts ∙ ap (λ v. y.argument ++ (44 ∷ v)) (z.parts ∙ ap (λ v. z.argument ++ (41 ∷ v)) end.0)));
      is_red = x.is_channel;
      is_green = y.is_channel;
      is_blue = z.is_channel;
      opaque = refl;
    })

rgb_complete : (text : List ℕ) (c : Color) → IsRgb text c → color_at text ≡ Some c
rgb_complete text c i =
    let x = channel_complete 44 i.red (i.green ++ (44 ∷ (i.blue ++ codes ")"))) c.r i.is_red refl refl in
    let y = channel_complete 44 i.green (i.blue ++ codes ")") c.g i.is_green refl refl in
    let z = channel_complete 41 i.blue [] c.b i.is_blue refl refl in
    ap color_at i.parts ∙ rw (x, y, z, sym i.opaque) refl

rgba_sound : (text : List ℕ) (c : Color) → rgba_at text ≡ Some c → IsRgba (codes "rgba(" ++ text) c
rgba_sound text c e =
    let r = bind_gives (λ (r : ℕ × List ℕ). option_and_then (λ (g : ℕ × List ℕ). option_and_then (λ (b : ℕ × List ℕ). option_and_then (λ (a : ℕ × List ℕ). ended (color r.0 g.0 b.0 a.0) a.1) (opacity_at 41 b.1)) (channel_at 44 g.1)) (channel_at 44 r.1)) (channel_at 44 text) c e in
    let g = bind_gives (λ (g : ℕ × List ℕ). option_and_then (λ (b : ℕ × List ℕ). option_and_then (λ (a : ℕ × List ℕ). ended (color r.0.0 g.0 b.0 a.0) a.1) (opacity_at 41 b.1)) (channel_at 44 g.1)) (channel_at 44 r.0.1) c r.2 in
    let b = bind_gives (λ (b : ℕ × List ℕ). option_and_then (λ (a : ℕ × List ℕ). ended (color r.0.0 g.0.0 b.0 a.0) a.1) (opacity_at 41 b.1)) (channel_at 44 g.0.1) c g.2 in
    let a = bind_gives (λ (a : ℕ × List ℕ). ended (color r.0.0 g.0.0 b.0.0 a.0) a.1) (opacity_at 41 b.0.1) c b.2 in
    let end = ended_sound (color r.0.0 g.0.0 b.0.0 a.0.0) c a.0.1 a.2 in
    let x = channel_sound 44 text r.0 r.1 in
    let y = channel_sound 44 r.0.1 g.0 g.1 in
    let z = channel_sound 44 g.0.1 b.0 b.1 in
    let w = opacity_sound 41 b.0.1 a.0 a.1 in
    subst (IsRgba (codes "rgba(" ++ text)) end.1 (record {
      red = x.argument;
      green = y.argument;
      blue = z.argument;
      opacity = w.argument;
      parts = ap (λ v. codes "rgba(" ++ v) (x.parts ∙ ap (λ v. x.argument ++ (44 ∷ v)) (y.parts ∙ ap (λ v. y.argument ++ (44 ∷ v)) (z.parts ∙ ap (λ v. z.argument ++ (44 ∷ v)) (w.parts ∙ ap (λ v. w.argument ++ (41 ∷ v)) end.0))));
      is_red = x.is_channel;
      is_green = y.is_channel;
      is_blue = z.is_channel;
      is_opacity = w.is_opacity;
    })

rgba_complete : (text : List ℕ) (c : Color) → IsRgba text c → color_at text ≡ Some c
rgba_complete text c i =
    let x = channel_complete 44 i.red (i.green ++ (44 ∷ (i.blue ++ (44 ∷ (i.opacity ++ codes ")"))))) c.r i.is_red refl refl in
    let y = channel_complete 44 i.green (i.blue ++ (44 ∷ (i.opacity ++ codes ")"))) c.g i.is_green refl refl in
    let z = channel_complete 44 i.blue (i.opacity ++ codes ")") c.b i.is_blue refl refl in
    let w = opacity_complete 41 i.opacity [] c.a i.is_opacity refl refl in
    ap color_at i.parts ∙ rw (x, y, z, w) refl

-- names

pub letters_decide : (a b : List ℕ) → (same_letters a b ≡ true → str_to_ascii_lowercase a ≡ str_to_ascii_lowercase b) × (str_to_ascii_lowercase a ≡ str_to_ascii_lowercase b → same_letters a b ≡ true)
letters_decide a b = bytes_eq-Decides (str_to_ascii_lowercase a) (str_to_ascii_lowercase b)

pub record Finds (table : List (List ℕ × ℕ)) (name : List ℕ) (e : List ℕ × ℕ) : Type 0 where
  pub at : ℕ
  pub within : at < length table
  pub is : slice_index_or table at e ≡ e
  pub same : same_letters e.0 name ≡ true

find_sound : (table : List (List ℕ × ℕ)) (name : List ℕ) (e : List ℕ × ℕ) → find (λ d. same_letters d.0 name) table ≡ Some e → Finds table name e
find_sound [] name e f = absurd (cc)
find_sound (d ∷ ds) name e f = elim (tells (same_letters d.0 name)) [
  | inl t ↦ let g = rw t at f in
      let same : d ≡ e = cc in
      record { at = zero; within = omega arith; is = same; same = subst (λ (x : List ℕ × ℕ). same_letters x.0 name ≡ true) same t }
  | inr t ↦ let ih = find_sound ds name e (rw t at f) in
      let bound = ih.within in
      record { at = suc ih.at; within = omega arith; is = ih.is; same = ih.same }
]

-- no two names are one
abbrev pub all_differ : List (List ℕ × ℕ) → Bool
all_differ [] = true
all_differ (d ∷ ds) = list_all (λ e. not (same_letters d.0 e.0)) ds && all_differ ds

find_complete : (table : List (List ℕ × ℕ)) (name : List ℕ) (at : ℕ) (e : List ℕ × ℕ) → all_differ table ≡ true → at < length table → same_letters (slice_index_or table at e).0 name ≡ true → find (λ d. same_letters d.0 name) table ≡ Some (slice_index_or table at e)
find_complete [] name at e differ within same = absurd (omega arith)
find_complete (d ∷ ds) name zero e differ within same = rw same refl
find_complete (d ∷ ds) name (suc at) e differ within same =
    let parts = and_parts (list_all (λ e. not (same_letters d.0 e.0)) ds) (all_differ ds) differ in
    let there = AllPass-from_list_all (λ (e : List ℕ × ℕ). not (same_letters d.0 e.0)) ds parts.0 at e (omega arith) in
    elim (tells (same_letters d.0 name)) [
      | inl t ↦ absurd (let both = (letters_decide d.0 (slice_index_or ds at e).0).1 ((letters_decide d.0 name).0 t ∙ sym ((letters_decide (slice_index_or ds at e).0 name).0 same)) in
          let none = not-true (same_letters d.0 (slice_index_or ds at e).0) there in cc)
      | inr t ↦ rw t (find_complete ds name at e parts.1 (omega arith) same)
    ]

names_differ : all_differ names ≡ true
unfolding names
names_differ = refl

-- a name is no colour of another form
abbrev pub is_plain : List ℕ → Bool
is_plain low = (is_none (strip (codes "#") low) && is_none (strip (codes "rgb(") low)) && (is_none (strip (codes "rgba(") low) && not (bytes_eq low (codes "transparent")))

names_plain : list_all (λ (e : List ℕ × ℕ). is_plain (str_to_ascii_lowercase e.0)) names ≡ true
unfolding names
names_plain = refl

strip_append : (front rest : List ℕ) → strip front (front ++ rest) ≡ Some rest
strip_append [] rest = refl
strip_append (p ∷ ps) rest = let same : (p == p) ≡ true = grind (arith, nat_tests) in rw same (strip_append ps rest)

strip_sound : (front text rest : List ℕ) → strip front text ≡ Some rest → text ≡ front ++ rest
strip_sound [] text rest e = cc
strip_sound (p ∷ ps) [] rest e = absurd (cc)
strip_sound (p ∷ ps) (c ∷ cs) rest e = elim (eqb_tells c p) [
  | inl t ↦ ap (λ v. v ∷ cs) t.1 ∙ ap (λ v. p ∷ v) (strip_sound ps cs rest (rw t.0 at e))
  | inr t ↦ let f = rw t.0 at e in absurd (cc)
]

-- what begins a text begins it in lower case too
no_front : (front text low : List ℕ) → str_to_ascii_lowercase front ≡ front → str_to_ascii_lowercase text ≡ low → is_none (strip front low) ≡ true → strip front text ≡ None
no_front front text low lower same none = by_rest (strip front text) refl
  where
    by_rest : (o : Option (List ℕ)) → strip front text ≡ o → o ≡ None
    by_rest None e = refl
    by_rest (Some rest) e =
        let whole : low ≡ front ++ str_to_ascii_lowercase rest =
        sym same ∙ ap str_to_ascii_lowercase (strip_sound front text rest e) ∙ map-append to_ascii_lowercase front rest ∙ ap (λ v. v ++ str_to_ascii_lowercase rest) lower in
        let some : strip front low ≡ Some (str_to_ascii_lowercase rest) = ap (strip front) whole ∙ strip_append front (str_to_ascii_lowercase rest) in
        absurd (let f = rw some at none in cc)

named_complete : (text : List ℕ) (c : Color) → IsNamed text c → color_at text ≡ Some c
named_complete text c i =
    let low = (letters_decide i.name text).0 i.same in
    let plain_at = AllPass-from_list_all (λ (e : List ℕ × ℕ). is_plain (str_to_ascii_lowercase e.0)) names names_plain i.listed.0 (i.name, i.pixel) i.listed.1 in
    let plain : is_plain (str_to_ascii_lowercase i.name) ≡ true = sym (ap (λ (e : List ℕ × ℕ). is_plain (str_to_ascii_lowercase e.0)) i.listed.2) ∙ plain_at in
    let halves = and_parts _ _ plain in
    let first = and_parts _ _ halves.0 in
    let second = and_parts _ _ halves.1 in
    let found : entry_at names text ≡ Some i.pixel =
    ap (option_map (λ (e : List ℕ × ℕ). e.1)) (find_complete names text i.listed.0 (i.name, i.pixel) names_differ i.listed.1 (ap (λ (e : List ℕ × ℕ). same_letters e.0 text) i.listed.2 ∙ i.same) ∙ ap (λ (e : List ℕ × ℕ). Some e) i.listed.2) in
    let a = no_front (codes "#") text (str_to_ascii_lowercase i.name) refl (sym low) first.0 in
    let b = no_front (codes "rgb(") text (str_to_ascii_lowercase i.name) refl (sym low) first.1 in
    let d = no_front (codes "rgba(") text (str_to_ascii_lowercase i.name) refl (sym low) second.0 in
    let e : bytes_eq text (codes "transparent") ≡ false = elim (bytes_tell text (codes "transparent")) [
      | inl t ↦ absurd (let same : str_to_ascii_lowercase i.name ≡ codes "transparent" = low ∙ ap str_to_ascii_lowercase t.1 in
          let f = rw same at second.1 in cc)
      | inr t ↦ t
    ] in
    rw (a, b, d, e, found, i.value) refl

word_sound : (text : List ℕ) (c : Color) → word_at text ≡ Some c → IsColor text c
word_sound text c e = elim (bytes_tell text (codes "transparent")) [
  | inl t ↦ let f = rw t.0 at e in transparent (t.1, cc)
  | inr t ↦ let f = rw t at e in
      let p = map_gives solid (entry_at names text) c f in
      let q = map_gives (λ (e : List ℕ × ℕ). e.1) (find (λ d. same_letters d.0 text) names) p.0 p.1 in
      let r = find_sound names text q.0 q.1 in
      named (record { name = q.0.0; pixel = q.0.1; listed = (r.at, r.within, r.is); same = r.same; value = sym (ap solid q.2 ∙ p.2) })
]

-- the whole

branch : (o : Option (List ℕ)) → (o ≡ None) ⊎ ((rest : List ℕ) × (o ≡ Some rest))
branch None = inl refl
branch (Some rest) = inr (rest, refl)

pub color_sound : (text : List ℕ) (c : Color) → color_at text ≡ Some c → IsColor text c
color_sound text c e = elim (branch (strip (codes "#") text)) [
  | inr t ↦ hexadecimal (subst (λ v. IsHex v c) (sym (strip_sound (codes "#") text t.0 t.1)) (hex_sound t.0 c (rw t.1 at e)))
  | inl t ↦ let f = rw t at e in elim (branch (strip (codes "rgb(") text)) [
    | inr u ↦ rgb (subst (λ v. IsRgb v c) (sym (strip_sound (codes "rgb(") text u.0 u.1)) (rgb_sound u.0 c (rw u.1 at f)))
    | inl u ↦ let g = rw u at f in elim (branch (strip (codes "rgba(") text)) [
      | inr v ↦ rgba (subst (λ w. IsRgba w c) (sym (strip_sound (codes "rgba(") text v.0 v.1)) (rgba_sound v.0 c (rw v.1 at g)))
      | inl v ↦ word_sound text c (rw v at g)
    ]
  ]
]

pub color_complete : (text : List ℕ) (c : Color) → IsColor text c → color_at text ≡ Some c
color_complete text c (hexadecimal i) = hex_complete text c i
color_complete text c (rgb i) = rgb_complete text c i
color_complete text c (rgba i) = rgba_complete text c i
color_complete text c (transparent i) = rw (i.0, i.1) refl
color_complete text c (named i) = named_complete text c i

pub color_found : (text : List ℕ) (o : Option Color) → o ≡ color_at text → IfSome o (IsColor text)
color_found text None e = tt
color_found text (Some c) e = color_sound text c (sym e)

pub color_none : (text : List ℕ) (o : Option Color) → o ≡ color_at text → IfNone o ((c : Color) → IsColor text c → ⊥)
color_none text None e = λ c i. let some : None ≡ Some c = e ∙ color_complete text c i in cc
color_none text (Some c) e = tt

-- what the code finds

pub strip_found : (front text : List ℕ) (o : Option (Bor (List ℕ))) → MatchOption o ((rest : List ℕ) → text ≢ front ++ rest) (λ x. text ≡ front ++ x.now) → option_map (λ rest. rest.now) o ≡ strip front text
strip_found front text None m = by_rest (strip front text) refl
  where
    by_rest : (o : Option (List ℕ)) → strip front text ≡ o → None ≡ o
    by_rest None e = refl
    by_rest (Some rest) e = absurd (m rest (strip_sound front text rest e))
strip_found front text (Some x) m = sym (ap (strip front) m ∙ strip_append front x.now)

pub find_mapped : (table : List (Bor (List ℕ) × ℕ)) (name : List ℕ) → option_map (λ e. e.1) (find (λ e. same_letters e.0.now name) table) ≡ entry_at (map (λ e. (e.0.now, e.1)) table) name
find_mapped [] name = refl
find_mapped (d ∷ ds) name = elim (tells (same_letters d.0.now name)) [ inl t ↦ rw t refl | inr t ↦ rw t (find_mapped ds name) ]

pub channel_found : (d : Decimal) (lead r : ℕ) → length d.fraction ≤ 0 → d.negative ≡ false → lead ≡ min (leading (digits_of d) (length d.whole)) (2 ^ 64 - 1) → r ≡ min lead 255 → Some r ≡ channel_value d
channel_found d lead r few sign e f =
    let none : nat_lt 0 (length d.fraction) ≡ false = grind (arith, nat_tests) in
    let whole = leading_front d.whole d.fraction in
    let value : r ≡ min 255 (number_of_digits d.whole) = omega (arith, whole) in
    rw (none, sign, value) refl

pub opacity_least : (d : Decimal) → length d.fraction ≤ 9 → d.negative ≡ true → Some 0 ≡ opacity_value d
opacity_least d few sign =
    let none : nat_lt 9 (length d.fraction) ≡ false = grind (arith, nat_tests) in
    let some = ten_power (length d.fraction) in
    let zero_of : (2 * (255 * 0) + 10 ^ length d.fraction) / (2 * 10 ^ length d.fraction) ≡ 0 =
    quotient (2 * (255 * 0) + 10 ^ length d.fraction) 0 (2 * 10 ^ length d.fraction) (10 ^ length d.fraction) (omega arith) (omega (arith, some)) in
    rw (none, sign) (ap (λ n. Some n) (sym zero_of))

pub opacity_found : (d : Decimal) (below lead above r : ℕ) → length d.fraction ≤ 9 → d.negative ≡ false → below ≡ 10 ^ length d.fraction → below ≤ 1000000000 → lead ≡ min (leading (digits_of d) (length d.whole + length d.fraction)) (2 ^ 64 - 1) → above ≡ min lead below → r ≡ (2 * (255 * above) + below) / (2 * below) → Some r ≡ opacity_value d
opacity_found d below lead above r few sign e bound f g h =
    let none : nat_lt 9 (length d.fraction) ≡ false = grind (arith, nat_tests) in
    let long : length d.whole + length d.fraction ≡ length (d.whole ++ d.fraction) = sym (length-append d.whole d.fraction) in
    let all : leading (d.whole ++ d.fraction) (length d.whole + length d.fraction) ≡ number_of_digits (d.whole ++ d.fraction) = ap (leading (d.whole ++ d.fraction)) long ∙ leading_all (d.whole ++ d.fraction) in
    let value : above ≡ min (number_of_digits (d.whole ++ d.fraction)) below = omega (arith, all) in
    rw (none, sign, h, value, e) refl
