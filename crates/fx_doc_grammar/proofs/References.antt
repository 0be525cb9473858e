-- What the machine has taken of a reference is the beginning of one.
-- Beside the steps of comments and instructions.
use Rattle.std.proofs.Common.{◌≡◌, ℕ, ◌+◌, ◌*◌, ◌≤◌, Bool, true, false, cond, ◌&&◌, List, [], ◌∷◌, ◌++◌, Some, None, refl, sym, ◌∙◌, ap, subst, arith}
use lib.Dec.{eqb, leb}
use Rattle.fx_doc_grammar.specs.Characters.{Each, is_character}
use Rattle.std.specs.Char.{is_digit, digit_value}
use Rattle.fx_doc_grammar.specs.Grammar.{Reference, ForLess, ForGreater, ForAmpersand, ForQuotation, ForApostrophe, ByDecimal, ByHexadecimal, reference_text, Reference_ok, stands_for, IsDecimal, IsHexadecimal}
use Rattle.std.specs.Str.Parse.{digits_value_after}
use Rattle.fx_doc_grammar.specs.Machine.{expect, decimal_digit, hexadecimal_digit, number_end, entity_step}
use Rattle.fx_doc_grammar.specs.Beginnings.{entity_text, Entity_ok}
use Rattle.fx_doc_grammar.proofs.States.{each_more, filled_more}
use Rattle.fx_doc_grammar.proofs.Steps.{some_same, none_some}
use Rattle.fx_doc_grammar.specs.declared.Entity.{Entity}
use Rattle.fx_doc_grammar.specs.declared.Entity.TheVariants.{Begun, A, Am, Amp, Ap, Apo, Apos, G, Gt, L, Lt, Q, Qu, Quo, Quot, Hash, Decimal, Hex, HexDigits}
use Rattle.fx_doc_grammar.specs.declared.Turn.{Turn}
use Rattle.fx_doc_grammar.specs.declared.Turn.TheVariants.{Further, Whole}
use Rattle.std.proofs.lemmas.Bool.{and_parts, eqb-true}

-- what one more character makes of a reference, and what has been written then
abbrev pub Turns : List ℕ → Turn → Type 0
Turns x (Further e) = (ds : List ℕ) × Entity_ok e ds × (x ≡ entity_text e ds)
Turns x (Whole n) = (r : Reference) × Reference_ok r × (x ≡ reference_text r) × (n ≡ stands_for r)

expected : (b : Bool) (t u : Turn) → cond b (Some t) None ≡ Some u → (b ≡ true) × (t ≡ u)
expected true t u h = (refl, some_same h)
expected false t u h = absurd (none_some h)

-- a letter is the one that is expected
letter_goes : (x : ℕ) (t u : Turn) (c : ℕ) (said : List ℕ → List ℕ) → Turns (said (x ∷ [])) t → expect x t c ≡ Some u → Turns (said (c ∷ [])) u
letter_goes x t u c said o h =
    let r = expected (eqb c x) t u h in
    let o' : Turns (said (c ∷ [])) t = subst (λ y. Turns (said (y ∷ [])) t) (sym (eqb-true c x r.0)) o in
    subst (Turns (said (c ∷ []))) r.1 o'

pub number_more : (base n : ℕ) (ds : List ℕ) (c : ℕ) → digits_value_after base n (ds ++ (c ∷ [])) ≡ digits_value_after base n ds * base + digit_value c
number_more base n [] c = refl
number_more base n (d ∷ ds) c = number_more base (n * base + digit_value d) ds c

pub in_range : (n : ℕ) → leb n 1114111 ≡ true → n ≤ 1114111
in_range n e = grind (arith, e)

decimal_goes : (n : ℕ) (ds : List ℕ) (c : ℕ) (u : Turn) → Each IsDecimal ds → digits_value_after 10 0 ds ≡ n → decimal_digit n c ≡ Some u → Turns (38 ∷ (35 ∷ (ds ++ (c ∷ [])))) u
decimal_goes n ds c u o e h =
    let r = expected (is_digit c 10 && leb (n * 10 + digit_value c) 1114111) (Further (Decimal (n * 10 + digit_value c))) u h in
    let b = and_parts (is_digit c 10) (leb (n * 10 + digit_value c) 1114111) r.0 in
    subst (Turns (38 ∷ (35 ∷ (ds ++ (c ∷ []))))) r.1
    (ds ++ (c ∷ []), (filled_more ds c, each_more IsDecimal ds c o b.0, number_more 10 0 ds c ∙ ap (λ y. y * 10 + digit_value c) e, in_range (n * 10 + digit_value c) b.1), refl)

hexadecimal_goes : (n : ℕ) (ds : List ℕ) (c : ℕ) (u : Turn) → Each IsHexadecimal ds → digits_value_after 16 0 ds ≡ n → hexadecimal_digit n c ≡ Some u → Turns (38 ∷ (35 ∷ (120 ∷ (ds ++ (c ∷ []))))) u
hexadecimal_goes n ds c u o e h =
    let r = expected (is_digit c 16 && leb (n * 16 + digit_value c) 1114111) (Further (HexDigits (n * 16 + digit_value c))) u h in
    let b = and_parts (is_digit c 16) (leb (n * 16 + digit_value c) 1114111) r.0 in
    subst (Turns (38 ∷ (35 ∷ (120 ∷ (ds ++ (c ∷ [])))))) r.1
    (ds ++ (c ∷ []), (filled_more ds c, each_more IsHexadecimal ds c o b.0, number_more 16 0 ds c ∙ ap (λ y. y * 16 + digit_value c) e, in_range (n * 16 + digit_value c) b.1), refl)

decimal_ends : (n : ℕ) (ds : List ℕ) (c : ℕ) (u : Turn) → Entity_ok (Decimal n) ds → (b : Bool) → eqb c 59 ≡ b → cond b (number_end n) (decimal_digit n c) ≡ Some u → Turns (38 ∷ (35 ∷ (ds ++ (c ∷ [])))) u
decimal_ends n ds c u o true e h =
    let r = expected (is_character n) (Whole n) u h in
    subst (Turns (38 ∷ (35 ∷ (ds ++ (c ∷ []))))) r.1
    (ByDecimal ds, (o.1, ap is_character o.2 ∙ r.0), ap (λ y. 38 ∷ (35 ∷ (ds ++ (y ∷ [])))) (eqb-true c 59 e), sym o.2)
decimal_ends n ds c u o false e h = decimal_goes n ds c u o.1 o.2 h

hexadecimal_ends : (n : ℕ) (ds : List ℕ) (c : ℕ) (u : Turn) → Entity_ok (HexDigits n) ds → (b : Bool) → eqb c 59 ≡ b → cond b (number_end n) (hexadecimal_digit n c) ≡ Some u → Turns (38 ∷ (35 ∷ (120 ∷ (ds ++ (c ∷ []))))) u
hexadecimal_ends n ds c u o true e h =
    let r = expected (is_character n) (Whole n) u h in
    subst (Turns (38 ∷ (35 ∷ (120 ∷ (ds ++ (c ∷ [])))))) r.1
    (ByHexadecimal ds, (o.1, ap is_character o.2 ∙ r.0), ap (λ y. 38 ∷ (35 ∷ (120 ∷ (ds ++ (y ∷ []))))) (eqb-true c 59 e), sym o.2)
hexadecimal_ends n ds c u o false e h = hexadecimal_goes n ds c u o.1 o.2 h

hash_goes : (c : ℕ) (u : Turn) (b : Bool) → eqb c 120 ≡ b → cond b (Some (Further Hex)) (decimal_digit 0 c) ≡ Some u → Turns (38 ∷ (35 ∷ (c ∷ []))) u
hash_goes c u true e h = subst (Turns (38 ∷ (35 ∷ (c ∷ [])))) (some_same h) ([], tt, ap (λ y. 38 ∷ (35 ∷ (y ∷ []))) (eqb-true c 120 e))
hash_goes c u false e h = decimal_goes 0 [] c u tt refl h

after_a_goes : (c : ℕ) (u : Turn) (b1 b2 : Bool) → eqb c 109 ≡ b1 → eqb c 112 ≡ b2 → cond b1 (Some (Further Am)) (cond b2 (Some (Further Ap)) None) ≡ Some u → Turns (38 ∷ (97 ∷ (c ∷ []))) u
after_a_goes c u true b2 e1 e2 h = subst (Turns (38 ∷ (97 ∷ (c ∷ [])))) (some_same h) ([], tt, ap (λ y. 38 ∷ (97 ∷ (y ∷ []))) (eqb-true c 109 e1))
after_a_goes c u false true e1 e2 h = subst (Turns (38 ∷ (97 ∷ (c ∷ [])))) (some_same h) ([], tt, ap (λ y. 38 ∷ (97 ∷ (y ∷ []))) (eqb-true c 112 e2))
after_a_goes c u false false e1 e2 h = absurd (none_some h)

begin_goes : (c : ℕ) (u : Turn) (b1 b2 b3 b4 b5 : Bool) → eqb c 97 ≡ b1 → eqb c 103 ≡ b2 → eqb c 108 ≡ b3 → eqb c 113 ≡ b4 → eqb c 35 ≡ b5
    → cond b1 (Some (Further A)) (cond b2 (Some (Further G)) (cond b3 (Some (Further L)) (cond b4 (Some (Further Q)) (cond b5 (Some (Further Hash)) None)))) ≡ Some u → Turns (38 ∷ (c ∷ [])) u
begin_goes c u true b2 b3 b4 b5 e1 e2 e3 e4 e5 h = subst (Turns (38 ∷ (c ∷ []))) (some_same h) ([], tt, ap (λ y. 38 ∷ (y ∷ [])) (eqb-true c 97 e1))
begin_goes c u false true b3 b4 b5 e1 e2 e3 e4 e5 h = subst (Turns (38 ∷ (c ∷ []))) (some_same h) ([], tt, ap (λ y. 38 ∷ (y ∷ [])) (eqb-true c 103 e2))
begin_goes c u false false true b4 b5 e1 e2 e3 e4 e5 h = subst (Turns (38 ∷ (c ∷ []))) (some_same h) ([], tt, ap (λ y. 38 ∷ (y ∷ [])) (eqb-true c 108 e3))
begin_goes c u false false false true b5 e1 e2 e3 e4 e5 h = subst (Turns (38 ∷ (c ∷ []))) (some_same h) ([], tt, ap (λ y. 38 ∷ (y ∷ [])) (eqb-true c 113 e4))
begin_goes c u false false false false true e1 e2 e3 e4 e5 h = subst (Turns (38 ∷ (c ∷ []))) (some_same h) ([], tt, ap (λ y. 38 ∷ (y ∷ [])) (eqb-true c 35 e5))
begin_goes c u false false false false false e1 e2 e3 e4 e5 h = absurd (none_some h)

pub entity_goes : (e : Entity) (ds : List ℕ) (c : ℕ) (u : Turn) → Entity_ok e ds → entity_step e c ≡ Some u → Turns (entity_text e ds ++ (c ∷ [])) u
entity_goes Begun ds c u o h = begin_goes c u (eqb c 97) (eqb c 103) (eqb c 108) (eqb c 113) (eqb c 35) refl refl refl refl refl h
entity_goes A ds c u o h = after_a_goes c u (eqb c 109) (eqb c 112) refl refl h
entity_goes Am ds c u o h = letter_goes 112 (Further Amp) u c (λ y. 38 ∷ (97 ∷ (109 ∷ y))) ([], tt, refl) h
entity_goes Amp ds c u o h = letter_goes 59 (Whole 38) u c (λ y. 38 ∷ (97 ∷ (109 ∷ (112 ∷ y)))) (ForAmpersand, tt, refl, refl) h
entity_goes Ap ds c u o h = letter_goes 111 (Further Apo) u c (λ y. 38 ∷ (97 ∷ (112 ∷ y))) ([], tt, refl) h
entity_goes Apo ds c u o h = letter_goes 115 (Further Apos) u c (λ y. 38 ∷ (97 ∷ (112 ∷ (111 ∷ y)))) ([], tt, refl) h
entity_goes Apos ds c u o h = letter_goes 59 (Whole 39) u c (λ y. 38 ∷ (97 ∷ (112 ∷ (111 ∷ (115 ∷ y))))) (ForApostrophe, tt, refl, refl) h
entity_goes G ds c u o h = letter_goes 116 (Further Gt) u c (λ y. 38 ∷ (103 ∷ y)) ([], tt, refl) h
entity_goes Gt ds c u o h = letter_goes 59 (Whole 62) u c (λ y. 38 ∷ (103 ∷ (116 ∷ y))) (ForGreater, tt, refl, refl) h
entity_goes L ds c u o h = letter_goes 116 (Further Lt) u c (λ y. 38 ∷ (108 ∷ y)) ([], tt, refl) h
entity_goes Lt ds c u o h = letter_goes 59 (Whole 60) u c (λ y. 38 ∷ (108 ∷ (116 ∷ y))) (ForLess, tt, refl, refl) h
entity_goes Q ds c u o h = letter_goes 117 (Further Qu) u c (λ y. 38 ∷ (113 ∷ y)) ([], tt, refl) h
entity_goes Qu ds c u o h = letter_goes 111 (Further Quo) u c (λ y. 38 ∷ (113 ∷ (117 ∷ y))) ([], tt, refl) h
entity_goes Quo ds c u o h = letter_goes 116 (Further Quot) u c (λ y. 38 ∷ (113 ∷ (117 ∷ (111 ∷ y)))) ([], tt, refl) h
entity_goes Quot ds c u o h = letter_goes 59 (Whole 34) u c (λ y. 38 ∷ (113 ∷ (117 ∷ (111 ∷ (116 ∷ y))))) (ForQuotation, tt, refl, refl) h
entity_goes Hash ds c u o h = hash_goes c u (eqb c 120) refl h
entity_goes (Decimal n) ds c u o h = decimal_ends n ds c u o (eqb c 59) refl h
entity_goes Hex ds c u o h = hexadecimal_goes 0 [] c u tt refl h
entity_goes (HexDigits n) ds c u o h = hexadecimal_ends n ds c u o (eqb c 59) refl h
