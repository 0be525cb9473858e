-- Blocks and at-rules end where their lengths say, and nowhere else.
-- Below the lemmas on turns.
use Rattle.std.proofs.Common.{◌≡◌, ℕ, ◌+◌, ◌-◌, ◌≤◌, Bool, true, false, cond, ◌||◌, List, [], ◌∷◌, ◌++◌, drop, refl, sym, ◌∙◌, ap, subst, arith}
use Rattle.std.proofs.lemmas.Bool.{eqb-true, eq-eqb}
use Rattle.std.proofs.lemmas.List.Sums.{sum_by-cons}
use Rattle.std.specs.Bool.{if◌then◌else◌}
use Rattle.std.specs.List.{count_by, list_any}
use lib.Dec.{eqb}
use Rattle.fx_css.specs.declared.parts.Numbered.{Numbered}
use Rattle.fx_css.specs.Numbered.{is_sign}
use Rattle.fx_css.specs.Rules.{is_open, is_close, is_semicolon, IsOpen, Block, Closed, Unclosed, ends_prelude, AtRule, Statement, WithBlock, Unended}
use Rattle.fx_css.specs.Cutting.{block_length, at_rule_length}
use Rattle.fx_css_marks.proofs.Comments.{or_left, or_right, or_both}

signs_differ : (c d : ℕ) (m : Numbered) (b : Bool) → is_sign c m ≡ true → eqb c d ≡ false → is_sign d m ≡ b → b ≡ false
unfolding is_sign
signs_differ c d m false e n f = refl
signs_differ c d m true e n f =
    let k : c ≡ d = sym (eqb-true m.sign c e) ∙ eqb-true m.sign d f in
    sym (eq-eqb c d k) ∙ n

pub open_no_close : (m : Numbered) → is_open m ≡ true → is_close m ≡ false
open_no_close m e = signs_differ 123 125 m (is_close m) e refl refl

-- blocks with n more open before them

record IsOpenBy (n : ℕ) (ms : List Numbered) : Type 0 where
  pub fronts : (front rest : List Numbered) → ms ≡ front ++ rest → count_by is_close front ≤ n + count_by is_open front

data BlockBy : ℕ → List Numbered → List Numbered → Type 0 where
  ClosedBy : {n : ℕ} {ms rest : List Numbered} (inside : List Numbered) (closing : Numbered) → ms ≡ inside ++ (closing ∷ rest) → is_close closing ≡ true → IsOpenBy n inside → count_by is_close inside ≡ n + count_by is_open inside → BlockBy n ms rest
  UnclosedBy : {n : ℕ} {ms rest : List Numbered} → rest ≡ [] → IsOpenBy n ms → BlockBy n ms rest

abbrev one : Bool → ℕ
one b = cond b 1 0

-- how a mark changes what is open: k after it, n before
abbrev Changes : ℕ → ℕ → Numbered → Type 0
Changes n k m = k + one (is_close m) ≡ n + one (is_open m)

open_none : (n : ℕ) → IsOpenBy n []
open_none n = record { fronts = fronts }
  where
    fronts : (front rest : List Numbered) → [] ≡ front ++ rest → count_by is_close front ≤ n + count_by is_open front
    fronts [] rest e = omega arith
    fronts (m ∷ front) rest e = Prim.cc

count_cons : (p : Numbered → Bool) (m : Numbered) (ms : List Numbered) → count_by p (m ∷ ms) ≡ one (p m) + count_by p ms
count_cons p m ms = sum_by-cons (λ x. cond (p x) 1 0) m ms

more_sums : (a b c d n k x y : ℕ) → k + c ≡ n + d → a ≤ k + b → x ≡ c + a → y ≡ d + b → x ≤ n + y
more_sums a b c d n k x y e h f g = omega arith

fewer_sums : (a b c d n k x y : ℕ) → k + c ≡ n + d → x ≤ n + y → x ≡ c + a → y ≡ d + b → a ≤ k + b
fewer_sums a b c d n k x y e h f g = omega arith

more_same : (a b c d n k x y : ℕ) → k + c ≡ n + d → a ≡ k + b → x ≡ c + a → y ≡ d + b → x ≡ n + y
more_same a b c d n k x y e h f g = omega arith

fewer_same : (a b c d n k x y : ℕ) → k + c ≡ n + d → x ≡ n + y → x ≡ c + a → y ≡ d + b → a ≡ k + b
fewer_same a b c d n k x y e h f g = omega arith

fronts_more : (n k : ℕ) (m : Numbered) (ms : List Numbered) → Changes n k m → IsOpenBy k ms → (front rest : List Numbered) → m ∷ ms ≡ front ++ rest → count_by is_close front ≤ n + count_by is_open front
fronts_more n k m ms e h [] rest f = omega arith
fronts_more n k m ms e h (a ∷ front) rest f =
    let i : m ≡ a = Prim.cc in
    let g : ms ≡ front ++ rest = Prim.cc in
    subst (λ y. count_by is_close (y ∷ front) ≤ n + count_by is_open (y ∷ front)) i
    (more_sums (count_by is_close front) (count_by is_open front) (one (is_close m)) (one (is_open m)) n k (count_by is_close (m ∷ front)) (count_by is_open (m ∷ front)) e (h.fronts front rest g) (count_cons is_close m front) (count_cons is_open m front))

open_more : (n k : ℕ) (m : Numbered) (ms : List Numbered) → Changes n k m → IsOpenBy k ms → IsOpenBy n (m ∷ ms)
open_more n k m ms e h = record { fronts = fronts_more n k m ms e h }

open_fewer : (n k : ℕ) (m : Numbered) (ms : List Numbered) → Changes n k m → IsOpenBy n (m ∷ ms) → IsOpenBy k ms
open_fewer n k m ms e h = record { fronts = λ front rest g. fewer_sums (count_by is_close front) (count_by is_open front) (one (is_close m)) (one (is_open m)) n k (count_by is_close (m ∷ front)) (count_by is_open (m ∷ front)) e (h.fronts (m ∷ front) rest (ap (λ y. m ∷ y) g)) (count_cons is_close m front) (count_cons is_open m front) }

block_more : (n k : ℕ) (m : Numbered) (ms rest : List Numbered) → Changes n k m → BlockBy k ms rest → BlockBy n (m ∷ ms) rest
block_more n k m ms rest e (ClosedBy inside closing f c o s) = ClosedBy (m ∷ inside) closing (ap (λ y. m ∷ y) f) c (open_more n k m inside e o)
    (more_same (count_by is_close inside) (count_by is_open inside) (one (is_close m)) (one (is_open m)) n k (count_by is_close (m ∷ inside)) (count_by is_open (m ∷ inside)) e s (count_cons is_close m inside) (count_cons is_open m inside))
block_more n k m ms rest e (UnclosedBy f o) = UnclosedBy f (open_more n k m ms e o)

block_here : (m : Numbered) (ms : List Numbered) → is_close m ≡ true → BlockBy 0 (m ∷ ms) ms
block_here m ms e = ClosedBy [] m refl e (open_none 0) refl

changes_open : (n : ℕ) (m : Numbered) → is_open m ≡ true → Changes n (n + 1) m
changes_open n m e =
    let f : is_close m ≡ false = open_no_close m e in
    rw (e, f) (omega arith)

changes_close : (n : ℕ) (m : Numbered) → is_open m ≡ false → is_close m ≡ true → eqb n 0 ≡ false → Changes n (n - 1) m
changes_close n m e f g = rw (e, f) (grind arith)

changes_none : (n : ℕ) (m : Numbered) → is_open m ≡ false → is_close m ≡ false → Changes n n m
changes_none n m e f = rw (e, f) refl

abbrev Goal : ℕ → Numbered → List Numbered → Bool → Bool → Bool → Type 0
Goal n m ms a b c = BlockBy n (m ∷ ms) (drop (if a then block_length (n + 1) ms else (if b then (if c then 0 else block_length (n - 1) ms) else block_length n ms)) ms)

block_turn : (n : ℕ) (m : Numbered) (ms : List Numbered) (a b c : Bool) → is_open m ≡ a → is_close m ≡ b → eqb n 0 ≡ c → ((k : ℕ) → BlockBy k ms (drop (block_length k ms) ms)) → Goal n m ms a b c
block_turn n m ms true b c e f g go = block_more n (n + 1) m ms (drop (block_length (n + 1) ms) ms) (changes_open n m e) (go (n + 1))
block_turn n m ms false true true e f g go = subst (λ y. BlockBy y (m ∷ ms) ms) (sym (eqb-true n 0 g)) (block_here m ms f)
block_turn n m ms false true false e f g go = block_more n (n - 1) m ms (drop (block_length (n - 1) ms) ms) (changes_close n m e f g) (go (n - 1))
block_turn n m ms false false c e f g go = block_more n n m ms (drop (block_length n ms) ms) (changes_none n m e f) (go n)

block_by : (ms : List Numbered) (n : ℕ) → BlockBy n ms (drop (block_length n ms) ms)
block_by [] n = UnclosedBy refl (open_none n)
block_by (m ∷ ms) n = block_turn n m ms (is_open m) (is_close m) (eqb n 0) refl refl refl (λ k. block_by ms k)

zero_plus : (k : ℕ) → 0 + k ≡ k
zero_plus k = omega arith

within_zero : (xs : List Numbered) → IsOpenBy 0 xs → IsOpen xs
within_zero xs h = λ front rest e. subst (λ y. count_by is_close front ≤ y) (zero_plus (count_by is_open front)) (h.fronts front rest e)

plain_block : (ms rest : List Numbered) → BlockBy 0 ms rest → Block ms rest
plain_block ms rest (ClosedBy inside closing e c o s) = Closed inside closing e c (within_zero inside o) (s ∙ zero_plus (count_by is_open inside))
plain_block ms rest (UnclosedBy e o) = subst (λ y. Block ms y) (sym e) (Unclosed (within_zero ms o))

pub block_some : (ms : List Numbered) → Block ms (drop (block_length 0 ms) ms)
block_some ms = plain_block ms (drop (block_length 0 ms) ms) (block_by ms 0)

-- the front with this mark alone: it closes only where something is open
above : (k x y : ℕ) → x ≤ k + y → x ≡ 1 + 0 → y ≡ 0 + 0 → eqb k 0 ≡ false
above k x y g e f = cases (eqb k 0) refl
  where
    cases : (b : Bool) → eqb k 0 ≡ b → b ≡ false
    cases false h = refl
    cases true h = absurd (let z : k ≡ 0 = eqb-true k 0 h in omega arith)

closes_some : (n : ℕ) (m : Numbered) (ms : List Numbered) → IsOpenBy n (m ∷ ms) → is_open m ≡ false → is_close m ≡ true → eqb n 0 ≡ false
closes_some n m ms h e f =
    above n (count_by is_close (m ∷ [])) (count_by is_open (m ∷ [])) (h.fronts (m ∷ []) ms refl)
    (count_cons is_close m [] ∙ ap (λ y. one y + 0) f) (count_cons is_open m [] ∙ ap (λ y. one y + 0) e)

after_block : (n : ℕ) (m : Numbered) (ms rest : List Numbered) (a b c : Bool) → is_open m ≡ a → is_close m ≡ b → eqb n 0 ≡ c → ((k : ℕ) → Changes n k m → rest ≡ drop (block_length k ms) ms) → (a ≡ false → b ≡ true → c ≡ false) → rest ≡ drop (block_length n (m ∷ ms)) (m ∷ ms)
after_block n m ms rest true b c e f g go safe = rw e (go (n + 1) (changes_open n m e))
after_block n m ms rest false true true e f g go safe = absurd (let h : true ≡ false = safe refl refl in Prim.cc)
after_block n m ms rest false true false e f g go safe = rw (e, f, g) (go (n - 1) (changes_close n m e f g))
after_block n m ms rest false false c e f g go safe = rw (e, f) (go n (changes_none n m e f))

close_no_open : (m : Numbered) (b : Bool) → is_close m ≡ true → is_open m ≡ b → b ≡ false
close_no_open m false c e = refl
close_no_open m true c e = absurd (let h : true ≡ false = sym c ∙ open_no_close m e in Prim.cc)

closed_only : (inside : List Numbered) (n : ℕ) (closing : Numbered) (rest : List Numbered) → is_close closing ≡ true → IsOpenBy n inside → count_by is_close inside ≡ n + count_by is_open inside → rest ≡ drop (block_length n (inside ++ (closing ∷ rest))) (inside ++ (closing ∷ rest))
closed_only [] n closing rest c o s =
    let z : n ≡ 0 = omega arith in
    let f : is_open closing ≡ false = close_no_open closing (is_open closing) c refl in
    let g : eqb n 0 ≡ true = ap (λ y. eqb y 0) z in
    rw (f, c, g) refl
closed_only (m ∷ inside) n closing rest c o s =
    after_block n m (inside ++ (closing ∷ rest)) rest (is_open m) (is_close m) (eqb n 0) refl refl refl
    (λ k e. closed_only inside k closing rest c (open_fewer n k m inside e o) (fewer_same (count_by is_close inside) (count_by is_open inside) (one (is_close m)) (one (is_open m)) n k (count_by is_close (m ∷ inside)) (count_by is_open (m ∷ inside)) e s (count_cons is_close m inside) (count_cons is_open m inside)))
    (λ e f. closes_some n m inside o e f)

unclosed_only : (ms : List Numbered) (n : ℕ) → IsOpenBy n ms → [] ≡ drop (block_length n ms) ms
unclosed_only [] n o = refl
unclosed_only (m ∷ ms) n o =
    after_block n m ms [] (is_open m) (is_close m) (eqb n 0) refl refl refl
    (λ k e. unclosed_only ms k (open_fewer n k m ms e o))
    (λ e f. closes_some n m ms o e f)

by_zero : (ms : List Numbered) → IsOpen ms → IsOpenBy 0 ms
by_zero ms h = record { fronts = λ front rest e. subst (λ y. count_by is_close front ≤ y) (sym (zero_plus (count_by is_open front))) (h front rest e) }

pub block_only : {ms rest : List Numbered} → Block ms rest → rest ≡ drop (block_length 0 ms) ms
block_only {ms} {rest} (Closed inside closing e c o s) =
    closed_only inside 0 closing rest c (by_zero inside o) (s ∙ sym (zero_plus (count_by is_open inside)))
    ∙ ap (λ y. drop (block_length 0 y) y) (sym e)
block_only {ms} (Unclosed o) = unclosed_only ms 0 (by_zero ms o)

-- at-rules

at_more : (m : Numbered) (ms rest : List Numbered) → ends_prelude m ≡ false → AtRule ms rest → AtRule (m ∷ ms) rest
at_more m ms rest e (Statement prelude s f g h) = Statement (m ∷ prelude) s (ap (λ y. m ∷ y) f) (or_both (ends_prelude m) (list_any ends_prelude prelude) e g) h
at_more m ms rest e (WithBlock prelude o inside f g h b) = WithBlock (m ∷ prelude) o inside (ap (λ y. m ∷ y) f) (or_both (ends_prelude m) (list_any ends_prelude prelude) e g) h b
at_more m ms rest e (Unended g) = Unended (or_both (ends_prelude m) (list_any ends_prelude ms) e g)

at_turn : (m : Numbered) (ms : List Numbered) (a b : Bool) → is_semicolon m ≡ a → is_open m ≡ b → AtRule ms (drop (at_rule_length ms) ms) → AtRule (m ∷ ms) (drop (if a then 0 else (if b then block_length 0 ms else at_rule_length ms)) ms)
at_turn m ms true b e f go = Statement [] m refl refl e
at_turn m ms false true e f go = WithBlock [] m ms refl refl f (block_some ms)
at_turn m ms false false e f go = at_more m ms (drop (at_rule_length ms) ms) (or_both (is_semicolon m) (is_open m) e f) go

pub at_some : (ms : List Numbered) → AtRule ms (drop (at_rule_length ms) ms)
at_some [] = Unended refl
at_some (m ∷ ms) = at_turn m ms (is_semicolon m) (is_open m) refl refl (at_some ms)

-- behind a prelude
at_behind : (prelude ms : List Numbered) → list_any ends_prelude prelude ≡ false → drop (at_rule_length (prelude ++ ms)) (prelude ++ ms) ≡ drop (at_rule_length ms) ms
at_behind [] ms e = refl
at_behind (m ∷ prelude) ms e =
    let f : (is_semicolon m || is_open m) ≡ false = or_left (ends_prelude m) (list_any ends_prelude prelude) e in
    let g : is_semicolon m ≡ false = or_left (is_semicolon m) (is_open m) f in
    let h : is_open m ≡ false = or_right (is_semicolon m) (is_open m) f in
    rw (g, h) (at_behind prelude ms (or_right (ends_prelude m) (list_any ends_prelude prelude) e))

open_no_semicolon : (m : Numbered) (b : Bool) → is_open m ≡ true → is_semicolon m ≡ b → b ≡ false
open_no_semicolon m b e f = signs_differ 123 59 m b e refl f

pub at_only : {ms rest : List Numbered} → AtRule ms rest → rest ≡ drop (at_rule_length ms) ms
at_only {ms} {rest} (Statement prelude s e f g) =
    sym (ap (λ y. drop (at_rule_length y) y) e ∙ (at_behind prelude (s ∷ rest) f ∙ here))
  where
    here : drop (at_rule_length (s ∷ rest)) (s ∷ rest) ≡ rest
    here = rw g refl
at_only {ms} {rest} (WithBlock prelude o inside e f g b) =
    sym (ap (λ y. drop (at_rule_length y) y) e ∙ (at_behind prelude (o ∷ inside) f ∙ (here ∙ sym (block_only b))))
  where
    here : drop (at_rule_length (o ∷ inside)) (o ∷ inside) ≡ drop (block_length 0 inside) inside
    here =
        let h : is_semicolon o ≡ false = open_no_semicolon o (is_semicolon o) g refl in
        rw (h, g) refl
at_only {ms} (Unended e) = unended ms e
  where
    unended : (xs : List Numbered) → list_any ends_prelude xs ≡ false → [] ≡ drop (at_rule_length xs) xs
    unended [] e = refl
    unended (m ∷ xs) e =
        let f : (is_semicolon m || is_open m) ≡ false = or_left (ends_prelude m) (list_any ends_prelude xs) e in
        let g : is_semicolon m ≡ false = or_left (is_semicolon m) (is_open m) f in
        let h : is_open m ≡ false = or_right (is_semicolon m) (is_open m) f in
        rw (g, h) (unended xs (or_right (ends_prelude m) (list_any ends_prelude xs) e))
