-- A place cut to the columns of a pen tells the same of each of them.
use Rattle.std.proofs.Common.{◌≡◌, ◌<◌, ◌≤◌, ◌≤ℤ◌, ◌<ℤ◌, ◌&&◌, ℕ, ℤ, pos, suc, true, false, sym, ap, ◌∙◌, arith, leb}
use Rattle.std.specs.Prelude.{int_le, int_lt}
use Rattle.std.proofs.lemmas.Bool.Decides.{nat_tests}
use Rattle.std.proofs.lemmas.Int.{ints, by_lt_z}
use Rattle.fx_picture.specs.Bounds.{in_range}
use Rattle.fx_pens.specs.Dots.{is_in}

le_true : (a b : ℤ) → a ≤ℤ b → int_le a b ≡ true
le_true a b h = grind (arith, ints)

le_false : (a b : ℤ) → b <ℤ a → int_le a b ≡ false
le_false a b h = grind (arith, ints)

lt_true : (a b : ℤ) → a <ℤ b → int_lt a b ≡ true
lt_true a b h = grind (arith, ints)

lt_false : (a b : ℤ) → b ≤ℤ a → int_lt a b ≡ false
lt_false a b h = grind (arith, ints)

leb_yes : (a b : ℕ) → a ≤ b → leb a b ≡ true
leb_yes a b h = grind (arith, nat_tests)

leb_no : (a b : ℕ) → b < a → leb a b ≡ false
leb_no a b h = grind (arith, nat_tests)

cut_from : (left right r x : ℕ) (at : ℤ) → left ≤ x → x < right
    → (at ≤ℤ pos left → r ≡ left) → (pos left ≤ℤ at → at ≤ℤ pos right → pos r ≡ at) → (pos right ≤ℤ at → r ≡ right)
    → leb r x ≡ int_le at (pos x)
cut_from left right r x at a b low among high =
    by_lt_z (pos left) at
    (λ p. by_lt_z at (pos right)
    (λ q. (let e : pos r ≡ at = among (omega (arith, ints, p)) (omega (arith, ints, q)) in ap (λ z. int_le z (pos x)) e))
    (λ q. (let e : r ≡ right = high q in
    ap (λ n. leb n x) e ∙ (leb_no right x b ∙ sym (le_false at (pos x) (omega (arith, ints, q, b)))))))
    (λ p. (let e : r ≡ left = low p in
    ap (λ n. leb n x) e ∙ (leb_yes left x a ∙ sym (le_true at (pos x) (omega (arith, ints, p, a))))))

cut_to : (left right r x : ℕ) (at : ℤ) → left ≤ x → x < right
    → (at ≤ℤ pos left → r ≡ left) → (pos left ≤ℤ at → at ≤ℤ pos right → pos r ≡ at) → (pos right ≤ℤ at → r ≡ right)
    → leb (suc x) r ≡ int_lt (pos x) at
cut_to left right r x at a b low among high =
    by_lt_z (pos left) at
    (λ p. by_lt_z at (pos right)
    (λ q. (let e : pos r ≡ at = among (omega (arith, ints, p)) (omega (arith, ints, q)) in ap (λ z. int_lt (pos x) z) e))
    (λ q. (let e : r ≡ right = high q in
    ap (λ n. leb (suc x) n) e ∙ (leb_yes (suc x) right b ∙ sym (lt_true (pos x) at (omega (arith, ints, q, b)))))))
    (λ p. (let e : r ≡ left = low p in
    ap (λ n. leb (suc x) n) e ∙ (leb_no (suc x) left (omega (arith, a)) ∙ sym (lt_false (pos x) at (omega (arith, ints, p, a))))))

pub bit_span : (left right from to x : ℕ) (start end : ℤ) → left ≤ x → x < right
    → (start ≤ℤ pos left → from ≡ left) → (pos left ≤ℤ start → start ≤ℤ pos right → pos from ≡ start) → (pos right ≤ℤ start → from ≡ right)
    → (end ≤ℤ pos left → to ≡ left) → (pos left ≤ℤ end → end ≤ℤ pos right → pos to ≡ end) → (pos right ≤ℤ end → to ≡ right)
    → is_in from to x ≡ in_range start end x
unfolding in_range
bit_span left right from to x start end a b l1 a1 h1 l2 a2 h2 =
    let one = cut_from left right from x start a b l1 a1 h1 in
    let two = cut_to left right to x end a b l2 a2 h2 in
    ap (λ t. t && leb (suc x) to) one ∙ ap (λ t. int_le start (pos x) && t) two

pub narrow : (left right from to x : ℕ) → left ≤ from → to ≤ right → is_in from to x ≡ (is_in left right x && is_in from to x)
narrow left right from to x a b = grind (arith, nat_tests)
