-- Runs of the machine over joined texts, places, and what a class says of a character.
-- Below the lemmas on beginnings and on what is written.
use Rattle.std.proofs.Common.{◌≡◌, ℕ, ◌<◌, Bool, true, false, cond, List, [], ◌∷◌, ◌++◌, Option, None, refl, sym, ◌∙◌, ap, subst, append_assoc, arith}
use lib.Dec.{eqb}
use lib.Utf8.{encode, encodes}
use Rattle.fx_doc_grammar.specs.Characters.{class_of, is_later, in_name}
use Rattle.fx_text.specs.Classes.{is_white, is_letter}
use Rattle.fx_base.specs.Positions.{after, after_all}
use Rattle.fx_doc_grammar.specs.Grammar.{Sign, sign_text, sign_value, signs_text, value_of}
use Rattle.fx_doc_grammar.specs.Machine.{State, next, run}
use Rattle.fx_doc_grammar.specs.declared.Class.{Class}
use Rattle.fx_doc_grammar.specs.declared.Class.TheVariants.{White, Less, Greater, Slash, Equals, Bang, Question, Dash, Quotation, Apostrophe, Ampersand, Letter, Digit, Other}
use Rattle.fx_base.specs.declared.positions.Position.{Position}
use Rattle.std.proofs.lemmas.Bool.{eqb-true}

pub after-append : (p : Position) (a b : List ℕ) → after_all p (a ++ b) ≡ after_all (after_all p a) b
after-append p [] b = refl
after-append p (c ∷ a) b = after-append (after p c) a b

pub run-append : (p : Position) (o : Option State) (a b : List ℕ) → run p o (a ++ b) ≡ run (after_all p a) (run p o a) b
run-append p o [] b = refl
run-append p o (c ∷ a) b = run-append (after p c) (next p o c) a b

pub run-none : (p : Position) (a : List ℕ) → run p None a ≡ None
run-none p [] = refl
run-none p (c ∷ a) = run-none (after p c) a

pub signs_text-append : (a b : List Sign) → signs_text (a ++ b) ≡ signs_text a ++ signs_text b
signs_text-append [] b = refl
signs_text-append (s ∷ a) b = ap (λ z. sign_text s ++ z) (signs_text-append a b) ∙ sym (append_assoc (sign_text s) (signs_text a) (signs_text b))

pub value_of-append : (a b : List Sign) → value_of (a ++ b) ≡ value_of a ++ value_of b
value_of-append [] b = refl
value_of-append (s ∷ a) b = ap (λ z. sign_value s ++ z) (value_of-append a b) ∙ sym (append_assoc (sign_value s) (value_of a) (value_of b))

pub encodes-append : (a b : List ℕ) → encodes (a ++ b) ≡ encodes a ++ encodes b
encodes-append [] b = refl
encodes-append (c ∷ a) b = ap (λ z. encode c ++ z) (encodes-append a b) ∙ sym (append_assoc (encode c) (encodes a) (encodes b))

-- what a class says of the character
abbrev pub Fits : Class → ℕ → Type 0
Fits Less c = c ≡ 60
Fits Greater c = c ≡ 62
Fits Slash c = c ≡ 47
Fits Equals c = c ≡ 61
Fits Bang c = c ≡ 33
Fits Question c = c ≡ 63
Fits Dash c = c ≡ 45
Fits Quotation c = c ≡ 34
Fits Apostrophe c = c ≡ 39
Fits Ampersand c = c ≡ 38
Fits Letter c = is_letter c ≡ true
Fits Digit c = is_later c ≡ true
Fits _ c = Unit {0}

fits : (c : ℕ) (w b1 b2 b3 b4 b5 b6 b7 b8 b9 b10 l d : Bool) (k : Class)
    → eqb c 60 ≡ b1 → eqb c 62 ≡ b2 → eqb c 47 ≡ b3 → eqb c 61 ≡ b4 → eqb c 33 ≡ b5 → eqb c 63 ≡ b6 → eqb c 45 ≡ b7 → eqb c 34 ≡ b8 → eqb c 39 ≡ b9 → eqb c 38 ≡ b10 → is_letter c ≡ l → is_later c ≡ d
    → cond w White (cond b1 Less (cond b2 Greater (cond b3 Slash (cond b4 Equals (cond b5 Bang (cond b6 Question (cond b7 Dash (cond b8 Quotation (cond b9 Apostrophe (cond b10 Ampersand (cond l Letter (cond d Digit Other)))))))))))) ≡ k → Fits k c
fits c true b1 b2 b3 b4 b5 b6 b7 b8 b9 b10 l d k e1 e2 e3 e4 e5 e6 e7 e8 e9 e10 el ed h = subst (λ z. Fits z c) h tt
fits c false true b2 b3 b4 b5 b6 b7 b8 b9 b10 l d k e1 e2 e3 e4 e5 e6 e7 e8 e9 e10 el ed h = subst (λ z. Fits z c) h (eqb-true c 60 e1)
fits c false false true b3 b4 b5 b6 b7 b8 b9 b10 l d k e1 e2 e3 e4 e5 e6 e7 e8 e9 e10 el ed h = subst (λ z. Fits z c) h (eqb-true c 62 e2)
fits c false false false true b4 b5 b6 b7 b8 b9 b10 l d k e1 e2 e3 e4 e5 e6 e7 e8 e9 e10 el ed h = subst (λ z. Fits z c) h (eqb-true c 47 e3)
fits c false false false false true b5 b6 b7 b8 b9 b10 l d k e1 e2 e3 e4 e5 e6 e7 e8 e9 e10 el ed h = subst (λ z. Fits z c) h (eqb-true c 61 e4)
fits c false false false false false true b6 b7 b8 b9 b10 l d k e1 e2 e3 e4 e5 e6 e7 e8 e9 e10 el ed h = subst (λ z. Fits z c) h (eqb-true c 33 e5)
fits c false false false false false false true b7 b8 b9 b10 l d k e1 e2 e3 e4 e5 e6 e7 e8 e9 e10 el ed h = subst (λ z. Fits z c) h (eqb-true c 63 e6)
fits c false false false false false false false true b8 b9 b10 l d k e1 e2 e3 e4 e5 e6 e7 e8 e9 e10 el ed h = subst (λ z. Fits z c) h (eqb-true c 45 e7)
fits c false false false false false false false false true b9 b10 l d k e1 e2 e3 e4 e5 e6 e7 e8 e9 e10 el ed h = subst (λ z. Fits z c) h (eqb-true c 34 e8)
fits c false false false false false false false false false true b10 l d k e1 e2 e3 e4 e5 e6 e7 e8 e9 e10 el ed h = subst (λ z. Fits z c) h (eqb-true c 39 e9)
fits c false false false false false false false false false false true l d k e1 e2 e3 e4 e5 e6 e7 e8 e9 e10 el ed h = subst (λ z. Fits z c) h (eqb-true c 38 e10)
fits c false false false false false false false false false false false true d k e1 e2 e3 e4 e5 e6 e7 e8 e9 e10 el ed h = subst (λ z. Fits z c) h el
fits c false false false false false false false false false false false false true k e1 e2 e3 e4 e5 e6 e7 e8 e9 e10 el ed h = subst (λ z. Fits z c) h ed
fits c false false false false false false false false false false false false false k e1 e2 e3 e4 e5 e6 e7 e8 e9 e10 el ed h = subst (λ z. Fits z c) h tt

pub fits_at : (c : ℕ) (k : Class) → class_of c ≡ k → Fits k c
unfolding class_of
fits_at c k h = fits c (is_white c) (eqb c 60) (eqb c 62) (eqb c 47) (eqb c 61) (eqb c 33) (eqb c 63) (eqb c 45) (eqb c 34) (eqb c 39) (eqb c 38) (is_letter c) (is_later c) k refl refl refl refl refl refl refl refl refl refl refl refl h

-- the characters of names are ASCII
letter_low : (c : ℕ) → is_letter c ≡ true → c < 128
letter_low c e = grind (arith, e)

later_low : (c : ℕ) → is_later c ≡ true → c < 128
later_low c e = grind (arith, e)

class_low : (c : ℕ) (k : Class) → Fits k c → in_name k ≡ true → c < 128
class_low c Letter f e = letter_low c f
class_low c Digit f e = later_low c f
class_low c Dash f e = let g : c ≡ 45 = f in omega arith
class_low c k f e = absurd (let g : false ≡ true = e in cc)

pub named_low : (c : ℕ) → in_name (class_of c) ≡ true → c < 128
named_low c e = class_low c (class_of c) (fits_at c (class_of c) refl) e
