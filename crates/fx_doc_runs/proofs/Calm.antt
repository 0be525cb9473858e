-- Characters over which the machine goes on within the limits; an attribute as most are written is such.
-- The reader takes one whole; its answers cite these.
use Rattle.std.proofs.Common.{◌≡◌, ◌≢◌, ℕ, ◌+◌, ◌≤◌, ◌<◌, Bool, true, false, cond, ◌&&◌, ◌||◌, List, [], ◌∷◌, ◌++◌, suc, Option, Some, length, refl, sym, ◌∙◌, ap, subst, append_assoc, append-nil, length-append, arith}
use Rattle.std.specs.List.{list_all}
use lib.Dec.{eqb, ltb}
use Rattle.std.proofs.lemmas.Str.{encode_ascii}
use Rattle.fx_doc_grammar.specs.Characters.{class_of, is_later, in_name, starts_name}
use Rattle.fx_text.specs.Classes.{is_white, is_letter}
use Rattle.fx_base.specs.Positions.{after, after_all}
use Rattle.fx_doc_grammar.specs.Grammar.{Head, is_quote, quote_code, value_byte}
use Rattle.fx_doc_grammar.specs.Machine.{State, Held, Keyed, Signed, Quoted, at, some_if, step, is_fresh, is_deep, is_long, level_long, in_spaced, in_quoted, in_value}
use Rattle.fx_doc_grammar.specs.declared.Class.{Class}
use Rattle.fx_doc_grammar.specs.declared.Class.TheVariants.{White, Less, Greater, Slash, Equals, Bang, Question, Dash, Quotation, Apostrophe, Ampersand, Letter, Digit, Other}
use Rattle.fx_base.specs.declared.positions.Position.{Position}
use Rattle.fx_doc_grammar.specs.declared.Quote.{Quote}
use Rattle.fx_doc_grammar.specs.declared.Quote.TheVariants.{Single, Double}
use Rattle.fx_doc_grammar.proofs.Marks.{as_state}
use Rattle.fx_doc_grammar.proofs.Runs.{fits_at}
use Rattle.fx_doc_grammar.proofs.TagGoes.{keyed_on}
use Rattle.fx_doc_grammar.proofs.Turns.{run_more, limits_more, place_more}
use Rattle.fx_doc_drafts.specs.Ahead.{is_named, is_plain}
use Rattle.fx_doc_runs.specs.Reached.{Calm, Said}

pub said_more : (said : List ℕ) (p : Position) (s : State) (cs : List ℕ) (s' : State) → Said said p s → Calm p s cs s' → Said (said ++ cs) (after_all p cs) s'
said_more said p s [] s' h k = subst (λ (y : List ℕ). Said y p s') (sym (append-nil said)) (subst (λ (y : State). Said said p y) k h)
said_more said p s (c ∷ cs) s' h k =
    let one : Said (said ++ (c ∷ [])) (after p c) k.0 = record {
      state = run_more said c p s k.0 h.state h.position k.1;
      position = place_more said c p h.position;
      within = limits_more said c p s k.0 h.state h.position k.1 h.within k.2 k.3;
    } in
    subst (λ (y : List ℕ). Said y (after_all (after p c) cs) s') (append_assoc said (c ∷ []) cs) (said_more (said ++ (c ∷ [])) (after p c) k.0 cs s' one k.4)

-- a step within the limits, and the rest
pub one_calm : (p : Position) (s m : State) (c : ℕ) (cs : List ℕ) (s' : State) → step p s c ≡ Some m → is_deep m ≡ false → is_long m ≡ false → Calm (after p c) m cs s' → Calm p s (c ∷ cs) s'
one_calm p s m c cs s' e d l k = (m, e, d, l, k)

pub short_or : (n : ℕ) (b : Bool) → n ≤ 4096 → b ≡ false → (ltb 4096 n || b) ≡ false
short_or n b h e = ap (λ z. z || b) (few n h) ∙ e
  where
    few : (n : ℕ) → n ≤ 4096 → ltb 4096 n ≡ false
    few n h = grind arith

both : (a b : Bool) → (a && b) ≡ true → (a ≡ true) × (b ≡ true)
both true b e = (refl, e)
both false b e = Prim.cc

pub keyed_calm : (h : Held) (head : Head) (q : Position) → level_long h ≡ false → (cs k key rest : List ℕ) (s' : State) (p : Position) → key ≡ k ++ cs → list_all is_named cs ≡ true → length key ≤ 4096
    → ((t : Position) → Calm t (as_state h (Keyed head q key)) rest s') → Calm p (as_state h (Keyed head q k)) (cs ++ rest) s'
keyed_calm h head q l [] k key rest s' p e n f w = subst (λ (y : List ℕ). Calm p (as_state h (Keyed head q y)) rest s') (e ∙ append-nil k) (w p)
keyed_calm h head q l (c ∷ cs) k key rest s' p e n f w =
    let a = both (is_named c) (list_all is_named cs) n in
    let g : key ≡ (k ++ (c ∷ [])) ++ cs = e ∙ sym (append_assoc k (c ∷ []) cs) in
    let long : length key ≡ length (k ++ (c ∷ [])) + length cs = ap length g ∙ length-append (k ++ (c ∷ [])) cs in
    let room : length (k ++ (c ∷ [])) ≤ 4096 = omega arith in
    one_calm p (as_state h (Keyed head q k)) (as_state h (Keyed head q (k ++ (c ∷ [])))) c (cs ++ rest) s'
    (keyed_on h head q k c (class_of c) (both (ltb c 128) (in_name (class_of c)) a.0).1) refl (short_or (length (k ++ (c ∷ []))) (level_long h) room l)
    (keyed_calm h head q l cs (k ++ (c ∷ [])) key rest s' (after p c) g a.1 f w)

pub plain_less : (q c : ℕ) → is_plain q c ≡ true → class_of c ≡ Less → ⊥
plain_less q c e k = let f : c ≡ 60 = fits_at c Less k in grind (arith, e, f)

pub plain_ampersand : (q c : ℕ) → is_plain q c ≡ true → class_of c ≡ Ampersand → ⊥
plain_ampersand q c e k = let f : c ≡ 38 = fits_at c Ampersand k in grind (arith, e, f)

plain_quotation : (c : ℕ) → is_plain 34 c ≡ true → class_of c ≡ Quotation → ⊥
plain_quotation c e k = let f : c ≡ 34 = fits_at c Quotation k in grind (arith, e, f)

plain_apostrophe : (c : ℕ) → is_plain 39 c ≡ true → class_of c ≡ Apostrophe → ⊥
plain_apostrophe c e k = let f : c ≡ 39 = fits_at c Apostrophe k in grind (arith, e, f)

no_double : (k : Class) → (k ≡ Quotation → ⊥) → is_quote Double k ≡ false
no_double Quotation n = absurd (n refl)
no_double k n = refl

no_single : (k : Class) → (k ≡ Apostrophe → ⊥) → is_quote Single k ≡ false
no_single Apostrophe n = absurd (n refl)
no_single k n = refl

plain_unquoted : (u : Quote) (c : ℕ) → is_plain (quote_code u) c ≡ true → is_quote u (class_of c) ≡ false
plain_unquoted Double c e = no_double (class_of c) (plain_quotation c e)
plain_unquoted Single c e = no_single (class_of c) (plain_apostrophe c e)

not_white : (c : ℕ) (b1 b2 b3 b4 b5 b6 b7 b8 b9 b10 l d : Bool)
    → cond b1 Less (cond b2 Greater (cond b3 Slash (cond b4 Equals (cond b5 Bang (cond b6 Question (cond b7 Dash (cond b8 Quotation (cond b9 Apostrophe (cond b10 Ampersand (cond l Letter (cond d Digit Other))))))))))) ≡ White → ⊥
not_white c true b2 b3 b4 b5 b6 b7 b8 b9 b10 l d h = Prim.cc
not_white c false true b3 b4 b5 b6 b7 b8 b9 b10 l d h = Prim.cc
not_white c false false true b4 b5 b6 b7 b8 b9 b10 l d h = Prim.cc
not_white c false false false true b5 b6 b7 b8 b9 b10 l d h = Prim.cc
not_white c false false false false true b6 b7 b8 b9 b10 l d h = Prim.cc
not_white c false false false false false true b7 b8 b9 b10 l d h = Prim.cc
not_white c false false false false false false true b8 b9 b10 l d h = Prim.cc
not_white c false false false false false false false true b9 b10 l d h = Prim.cc
not_white c false false false false false false false false true b10 l d h = Prim.cc
not_white c false false false false false false false false false true l d h = Prim.cc
not_white c false false false false false false false false false false true d h = Prim.cc
not_white c false false false false false false false false false false false true h = Prim.cc
not_white c false false false false false false false false false false false false h = Prim.cc

by_white : (c : ℕ) (w : Bool) → is_white c ≡ w → cond w White (cond (eqb c 60) Less (cond (eqb c 62) Greater (cond (eqb c 47) Slash (cond (eqb c 61) Equals (cond (eqb c 33) Bang (cond (eqb c 63) Question (cond (eqb c 45) Dash (cond (eqb c 34) Quotation (cond (eqb c 39) Apostrophe (cond (eqb c 38) Ampersand (cond (is_letter c) Letter (cond (is_later c) Digit Other)))))))))))) ≡ White → is_white c ≡ true
by_white c true e h = e
by_white c false e h = absurd (not_white c (eqb c 60) (eqb c 62) (eqb c 47) (eqb c 61) (eqb c 33) (eqb c 63) (eqb c 45) (eqb c 34) (eqb c 39) (eqb c 38) (is_letter c) (is_later c) h)

pub white_is : (c : ℕ) → class_of c ≡ White → is_white c ≡ true
unfolding class_of
white_is c h = by_white c (is_white c) refl h

plain_white : (q c : ℕ) → is_plain q c ≡ true → is_white c ≡ true → c ≡ 32
plain_white q c e w = grind (arith, e, w)

plain_low : (q c : ℕ) → is_plain q c ≡ true → c < 128
plain_low q c e = grind (arith, e)

byte_by : (q c : ℕ) (k : Class) → is_plain q c ≡ true → class_of c ≡ k → value_byte k c ≡ c ∷ []
byte_by q c White e k = let f : c ≡ 32 = plain_white q c e (white_is c k) in ap (λ y. y ∷ []) (sym f)
byte_by q c k e f = encode_ascii c (plain_low q c e)

plain_byte : (q c : ℕ) → is_plain q c ≡ true → value_byte (class_of c) c ≡ c ∷ []
plain_byte q c e = byte_by q c (class_of c) e refl

abbrev pub quoting : Held → Head → Position → List ℕ → Quote → List ℕ → ℕ → State
quoting h head q key u v n = as_state h (Quoted head q key u v n)

-- a character of a value that is no `<` and no `&`
pub quoted_rest : (p : Position) (head : Head) (q : Position) (key : List ℕ) (u : Quote) (v : List ℕ) (n : ℕ) (h : Held) (c : ℕ) (k : Class) → k ≢ Less → k ≢ Ampersand → in_quoted p head q key u v n h c k ≡ in_value (is_quote u k) head q key u v n h c k
quoted_rest p head q key u v n h c Less a b = absurd (a refl)
quoted_rest p head q key u v n h c Ampersand a b = absurd (b refl)
quoted_rest p head q key u v n h c k a b = refl

quoted_on : (p : Position) (h : Held) (head : Head) (q : Position) (key : List ℕ) (u : Quote) (v : List ℕ) (n c : ℕ) → is_plain (quote_code u) c ≡ true → step p (quoting h head q key u v n) c ≡ Some (quoting h head q key u (v ++ (c ∷ [])) (n + 1))
quoted_on p h head q key u v n c e =
    quoted_rest p head q key u v n h c (class_of c) (plain_less (quote_code u) c e) (plain_ampersand (quote_code u) c e)
    ∙ (ap (λ b. in_value b head q key u v n h c (class_of c)) (plain_unquoted u c e)
    ∙ ap (λ y. Some (quoting h head q key u (v ++ y) (n + 1))) (plain_byte (quote_code u) c e))

pub value_calm : (h : Held) (head : Head) (q : Position) (key : List ℕ) (u : Quote) → level_long h ≡ false → (cs v value rest : List ℕ) (n : ℕ) (s' : State) (p : Position) → value ≡ v ++ cs → n + length cs ≤ 4096 → list_all (is_plain (quote_code u)) cs ≡ true
    → ((t : Position) → Calm t (quoting h head q key u value (n + length cs)) rest s') → Calm p (quoting h head q key u v n) (cs ++ rest) s'
value_calm h head q key u l [] v value rest n s' p e j f w =
    subst (λ (m : ℕ). Calm p (quoting h head q key u v m) rest s') (none_less n) (subst (λ (y : List ℕ). Calm p (quoting h head q key u y (n + 0)) rest s') (e ∙ append-nil v) (w p))
  where
    none_less : (n : ℕ) → n + 0 ≡ n
    none_less n = omega arith
value_calm h head q key u l (c ∷ cs) v value rest n s' p e j f w =
    let a = both (is_plain (quote_code u) c) (list_all (is_plain (quote_code u)) cs) f in
    let b : value ≡ (v ++ (c ∷ [])) ++ cs = e ∙ sym (append_assoc v (c ∷ []) cs) in
    let room : n + 1 ≤ 4096 = omega arith in
    let more : (n + 1) + length cs ≤ 4096 = omega arith in
    one_calm p (quoting h head q key u v n) (quoting h head q key u (v ++ (c ∷ [])) (n + 1)) c (cs ++ rest) s'
    (quoted_on p h head q key u v n c a.0) refl (short_or (n + 1) (level_long h) room l)
    (value_calm h head q key u l cs (v ++ (c ∷ [])) value rest (n + 1) s' (after p c) b more a.1
    (λ t. subst (λ (m : ℕ). Calm t (quoting h head q key u value m) rest s') (one_less n (length cs)) (w t)))
  where
    one_less : (n m : ℕ) → n + suc m ≡ (n + 1) + m
    one_less n m = omega arith

pub if_fresh : (b : Bool) (o : Option State) → b ≡ true → some_if b o ≡ o
if_fresh true o e = refl
if_fresh false o e = absurd (let f : false ≡ true = e in cc)

pub equals_on : (h : Held) (head : Head) (q : Position) (key : List ℕ) (p : Position) → is_fresh key head ≡ true → step p (as_state h (Keyed head q key)) 61 ≡ Some (as_state h (Signed head q key))
unfolding class_of
equals_on h head q key p f = if_fresh (is_fresh key head) (at h (Signed head q key)) f

pub quote_on : (h : Held) (head : Head) (q : Position) (key : List ℕ) (u : Quote) (p : Position) → step p (as_state h (Signed head q key)) (quote_code u) ≡ Some (quoting h head q key u [] 0)
unfolding class_of
quote_on h head q key Single p = refl
quote_on h head q key Double p = refl

pub first_on : (h : Held) (head : Head) (p : Position) (c : ℕ) (k : Class) → starts_name k ≡ true → in_spaced p head h c k ≡ Some (as_state h (Keyed head p (c ∷ [])))
first_on h head p c Letter e = refl
first_on h head p c k e = absurd (let f : false ≡ true = e in cc)
