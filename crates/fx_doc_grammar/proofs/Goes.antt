-- The machine goes from one state to another over a text: how such goings join, and those over white, names, references and digits.
-- Above the runs; what is written is taken by these.
use Rattle.std.proofs.Common.{◌≡◌, ℕ, ◌+◌, ◌*◌, ◌≤◌, Bool, true, false, ◌&&◌, List, [], ◌∷◌, ◌++◌, Option, Some, None, refl, sym, ◌∙◌, ap, append_assoc, append-nil, arith}
use lib.Dec.{eqb, leb}
use Rattle.fx_doc_grammar.specs.Characters.{IsWhite, Each, is_character}
use Rattle.std.specs.Char.{is_digit, digit_value}
use Rattle.fx_base.specs.Positions.{after, after_all}
use Rattle.fx_doc_grammar.specs.Grammar.{IsNamed, Reference, ForLess, ForGreater, ForAmpersand, ForQuotation, ForApostrophe, ByDecimal, ByHexadecimal, reference_text, Reference_ok, stands_for, IsDecimal, IsHexadecimal}
use Rattle.std.specs.Str.Parse.{digits_value_after}
use Rattle.fx_doc_grammar.specs.Machine.{decimal_digit, hexadecimal_digit, number_end, entity_step, State, step, run}
use Rattle.fx_doc_grammar.proofs.Runs.{run-append}
use Rattle.fx_doc_grammar.specs.declared.Entity.{Entity}
use Rattle.fx_doc_grammar.specs.declared.Entity.TheVariants.{Begun, Decimal, Hex, HexDigits}
use Rattle.fx_doc_grammar.specs.declared.Turn.{Turn}
use Rattle.fx_doc_grammar.specs.declared.Turn.TheVariants.{Further, Whole}
use Rattle.fx_base.specs.declared.positions.Position.{Position}
use Rattle.std.proofs.lemmas.Bool.{cond-true, le-leb, cond-false}

-- the machine goes over a text that begins at p
pub record Goes (p : Position) (s : State) (text : List ℕ) (s' : State) : Type 0 where
  pub is : run p (Some s) text ≡ Some s'

pub stays : {p : Position} {s : State} → Goes p s [] s
stays = record { is = refl }

pub seq : {p : Position} {s s1 s2 : State} {a b : List ℕ} → Goes p s a s1 → Goes (after_all p a) s1 b s2 → Goes p s (a ++ b) s2
seq {p} {s} {s1} {s2} {a} {b} g h = record { is = run-append p (Some s) a b ∙ (ap (λ o. run (after_all p a) o b) g.is ∙ h.is) }

pub one_then : {p : Position} {s s1 s2 : State} {c : ℕ} {b : List ℕ} → step p s c ≡ Some s1 → Goes (after p c) s1 b s2 → Goes p s (c ∷ b) s2
one_then {p} {s} {s1} {s2} {c} {b} e h = record { is = ap (λ o. run (after p c) o b) e ∙ h.is }

pub one : {p : Position} {s s1 : State} {c : ℕ} → step p s c ≡ Some s1 → Goes p s (c ∷ []) s1
one e = record { is = e }

pub ends_at : {p : Position} {s s1 s2 : State} {a : List ℕ} → s1 ≡ s2 → Goes p s a s1 → Goes p s a s2
ends_at e g = record { is = g.is ∙ ap (λ (y : State). Some y) e }

pub over : {p : Position} {s s1 : State} {a b : List ℕ} → a ≡ b → Goes p s a s1 → Goes p s b s1
over {p} {s} e g = record { is = ap (λ y. run p (Some s) y) (sym e) ∙ g.is }

pub from : {p q : Position} {s s1 : State} {a : List ℕ} → p ≡ q → Goes p s a s1 → Goes q s a s1
from {p} {q} {s} {s1} {a} e g = record { is = ap (λ (y : Position). run y (Some s) a) (sym e) ∙ g.is }

-- each character of a name is taken the same way, and each of white
pub named_each : (f : List ℕ → State) → ((p : Position) (n : List ℕ) (c : ℕ) → IsNamed c → step p (f n) c ≡ Some (f (n ++ (c ∷ [])))) → (n cs : List ℕ) (p : Position) → Each IsNamed cs → Goes p (f n) cs (f (n ++ cs))
named_each f g n [] p o = ends_at (ap f (sym (append-nil n))) stays
named_each f g n (c ∷ cs) p o = one_then (g p n c o.0) (ends_at (ap f (append_assoc n (c ∷ []) cs)) (named_each f g (n ++ (c ∷ [])) cs (after p c) o.1))

pub white_each : (s : State) → ((p : Position) (c : ℕ) → IsWhite c → step p s c ≡ Some s) → (cs : List ℕ) (p : Position) → Each IsWhite cs → Goes p s cs s
white_each s g [] p o = stays
white_each s g (c ∷ cs) p o = one_then (g p c o.0) (white_each s g cs (after p c) o.1)

-- references --------------------------------------------------------------------------------------

abbrev pub turn_step : Option Turn → ℕ → Option Turn
turn_step (Some (Further e)) c = entity_step e c
turn_step (Some (Whole n)) c = None
turn_step None c = None

abbrev pub entity_run : Option Turn → List ℕ → Option Turn
entity_run o [] = o
entity_run o (c ∷ cs) = entity_run (turn_step o c) cs

entity_none : (cs : List ℕ) → entity_run None cs ≡ None
entity_none [] = refl
entity_none (c ∷ cs) = entity_none cs

abbrev pub turned : (Entity → State) → (ℕ → State) → Option Turn → Option State
turned f g (Some (Further e)) = Some (f e)
turned f g (Some (Whole n)) = Some (g n)
turned f g None = None

none_whole : {X : Type 0} {n : ℕ} → None ≡ Some (Whole n) → X
none_whole e = absurd (cc)

whole_same : {m n : ℕ} → Some (Whole m) ≡ Some (Whole n) → m ≡ n
whole_same e = cc

further_whole : {X : Type 0} {e : Entity} {n : ℕ} → Some (Further e) ≡ Some (Whole n) → X
further_whole e = absurd (cc)

whole_goes : (f : Entity → State) (g : ℕ → State) (e : Entity) (c : ℕ) (cs : List ℕ) (p : Position) (m n : ℕ) → step p (f e) c ≡ Some (g m) → entity_run (Some (Whole m)) cs ≡ Some (Whole n) → Goes p (f e) (c ∷ cs) (g n)
whole_goes f g e c [] p m n h r = one (h ∙ ap (λ y. Some (g y)) (whole_same r))
whole_goes f g e c (d ∷ cs) p m n h r = none_whole (sym (entity_none cs) ∙ r)

turn_goes : (f : Entity → State) (g : ℕ → State) (e : Entity) (c : ℕ) (cs : List ℕ) (p : Position) (n : ℕ) (o : Option Turn) → step p (f e) c ≡ turned f g o → entity_run o cs ≡ Some (Whole n)
    → ((e' : Entity) → entity_run (Some (Further e')) cs ≡ Some (Whole n) → Goes (after p c) (f e') cs (g n)) → Goes p (f e) (c ∷ cs) (g n)
turn_goes f g e c cs p n None h r k = none_whole (sym (entity_none cs) ∙ r)
turn_goes f g e c cs p n (Some (Further e')) h r k = one_then h (k e' r)
turn_goes f g e c cs p n (Some (Whole m)) h r k = whole_goes f g e c cs p m n h r

pub entity_over : (f : Entity → State) (g : ℕ → State) → ((p : Position) (e : Entity) (c : ℕ) → step p (f e) c ≡ turned f g (entity_step e c)) → (cs : List ℕ) (e : Entity) (p : Position) (n : ℕ) → entity_run (Some (Further e)) cs ≡ Some (Whole n) → Goes p (f e) cs (g n)
entity_over f g k [] e p n r = further_whole r
entity_over f g k (c ∷ cs) e p n r = turn_goes f g e c cs p n (entity_step e c) (k p e c) r (λ e' r'. entity_over f g k cs e' (after p c) n r')

-- digits: the number never falls, so it stays within its range up to the last

pub never_falls : (base : ℕ) → 1 ≤ base → (ds : List ℕ) (n : ℕ) → n ≤ digits_value_after base n ds
never_falls base b [] n = omega arith
never_falls base b (d ∷ ds) n =
    let h : n * base + digit_value d ≤ digits_value_after base (n * base + digit_value d) ds = never_falls base b ds (n * base + digit_value d) in
    let k : n ≤ n * base = grown n base b in
    omega arith
  where
    grown : (n base : ℕ) → 1 ≤ base → n ≤ n * base
    grown n base b = grind arith

both_true : (a b : Bool) → a ≡ true → b ≡ true → (a && b) ≡ true
both_true true b e f = f
both_true false b e f = cc

no_semicolon : (c : ℕ) → is_digit c 10 ≡ true → eqb c 59 ≡ false
no_semicolon c e = grind (arith, e)

no_semicolon_hex : (c : ℕ) → is_digit c 16 ≡ true → eqb c 59 ≡ false
no_semicolon_hex c e = grind (arith, e)

no_x : (c : ℕ) → is_digit c 10 ≡ true → eqb c 120 ≡ false
no_x c e = grind (arith, e)

pub character_fits : (n : ℕ) → is_character n ≡ true → n ≤ 1114111
unfolding is_character
character_fits n e = grind (arith, e)

decimal_on : (n c m : ℕ) → is_digit c 10 ≡ true → n * 10 + digit_value c ≤ m → m ≤ 1114111 → decimal_digit n c ≡ Some (Further (Decimal (n * 10 + digit_value c)))
decimal_on n c m d h k = cond-true (is_digit c 10 && leb (n * 10 + digit_value c) 1114111) (Some (Further (Decimal (n * 10 + digit_value c)))) None (both_true (is_digit c 10) (leb (n * 10 + digit_value c) 1114111) d (le-leb (n * 10 + digit_value c) 1114111 (omega arith)))

hexadecimal_on : (n c m : ℕ) → is_digit c 16 ≡ true → n * 16 + digit_value c ≤ m → m ≤ 1114111 → hexadecimal_digit n c ≡ Some (Further (HexDigits (n * 16 + digit_value c)))
hexadecimal_on n c m d h k = cond-true (is_digit c 16 && leb (n * 16 + digit_value c) 1114111) (Some (Further (HexDigits (n * 16 + digit_value c)))) None (both_true (is_digit c 16) (leb (n * 16 + digit_value c) 1114111) d (le-leb (n * 16 + digit_value c) 1114111 (omega arith)))

decimals_run : (ds : List ℕ) (n : ℕ) → Each IsDecimal ds → is_character (digits_value_after 10 n ds) ≡ true → entity_run (Some (Further (Decimal n))) (ds ++ (59 ∷ [])) ≡ Some (Whole (digits_value_after 10 n ds))
decimals_run [] n o e = cond-true (is_character n) (Some (Whole n)) None e
decimals_run (d ∷ ds) n o e =
    ap (λ (y : Option Turn). entity_run y (ds ++ (59 ∷ []))) (cond-false (eqb d 59) (number_end n) (decimal_digit n d) (no_semicolon d o.0) ∙ decimal_on n d (digits_value_after 10 (n * 10 + digit_value d) ds) o.0 (never_falls 10 (omega arith) ds (n * 10 + digit_value d)) (character_fits (digits_value_after 10 (n * 10 + digit_value d) ds) e))
    ∙ decimals_run ds (n * 10 + digit_value d) o.1 e

hexadecimals_run : (ds : List ℕ) (n : ℕ) → Each IsHexadecimal ds → is_character (digits_value_after 16 n ds) ≡ true → entity_run (Some (Further (HexDigits n))) (ds ++ (59 ∷ [])) ≡ Some (Whole (digits_value_after 16 n ds))
hexadecimals_run [] n o e = cond-true (is_character n) (Some (Whole n)) None e
hexadecimals_run (d ∷ ds) n o e =
    ap (λ (y : Option Turn). entity_run y (ds ++ (59 ∷ []))) (cond-false (eqb d 59) (number_end n) (hexadecimal_digit n d) (no_semicolon_hex d o.0) ∙ hexadecimal_on n d (digits_value_after 16 (n * 16 + digit_value d) ds) o.0 (never_falls 16 (omega arith) ds (n * 16 + digit_value d)) (character_fits (digits_value_after 16 (n * 16 + digit_value d) ds) e))
    ∙ hexadecimals_run ds (n * 16 + digit_value d) o.1 e

no_zero : {X : Type 0} → is_character 0 ≡ true → X
unfolding is_character
no_zero e = absurd (let h : false ≡ true = e in cc)

abbrev pub reference_rest : Reference → List ℕ
reference_rest ForLess = 108 ∷ (116 ∷ (59 ∷ []))
reference_rest ForGreater = 103 ∷ (116 ∷ (59 ∷ []))
reference_rest ForAmpersand = 97 ∷ (109 ∷ (112 ∷ (59 ∷ [])))
reference_rest ForQuotation = 113 ∷ (117 ∷ (111 ∷ (116 ∷ (59 ∷ []))))
reference_rest ForApostrophe = 97 ∷ (112 ∷ (111 ∷ (115 ∷ (59 ∷ []))))
reference_rest (ByDecimal ds) = 35 ∷ (ds ++ (59 ∷ []))
reference_rest (ByHexadecimal ds) = 35 ∷ (120 ∷ (ds ++ (59 ∷ [])))

pub reference_parts : (r : Reference) → 38 ∷ reference_rest r ≡ reference_text r
reference_parts ForLess = refl
reference_parts ForGreater = refl
reference_parts ForAmpersand = refl
reference_parts ForQuotation = refl
reference_parts ForApostrophe = refl
reference_parts (ByDecimal ds) = refl
reference_parts (ByHexadecimal ds) = refl

pub reference_run : (r : Reference) → Reference_ok r → entity_run (Some (Further Begun)) (reference_rest r) ≡ Some (Whole (stands_for r))
reference_run ForLess o = refl
reference_run ForGreater o = refl
reference_run ForAmpersand o = refl
reference_run ForQuotation o = refl
reference_run ForApostrophe o = refl
reference_run (ByDecimal []) o = no_zero o.1
reference_run (ByDecimal (d ∷ ds)) o =
    ap (λ (y : Option Turn). entity_run y (ds ++ (59 ∷ []))) (cond-false (eqb d 120) (Some (Further Hex)) (decimal_digit 0 d) (no_x d o.0.0) ∙ decimal_on 0 d (digits_value_after 10 (0 * 10 + digit_value d) ds) o.0.0 (never_falls 10 (omega arith) ds (0 * 10 + digit_value d)) (character_fits (digits_value_after 10 (0 * 10 + digit_value d) ds) o.1))
    ∙ decimals_run ds (0 * 10 + digit_value d) o.0.1 o.1
reference_run (ByHexadecimal []) o = no_zero o.1
reference_run (ByHexadecimal (d ∷ ds)) o =
    ap (λ (y : Option Turn). entity_run y (ds ++ (59 ∷ []))) (hexadecimal_on 0 d (digits_value_after 16 (0 * 16 + digit_value d) ds) o.0.0 (never_falls 16 (omega arith) ds (0 * 16 + digit_value d)) (character_fits (digits_value_after 16 (0 * 16 + digit_value d) ds) o.1))
    ∙ hexadecimals_run ds (0 * 16 + digit_value d) o.0.1 o.1
