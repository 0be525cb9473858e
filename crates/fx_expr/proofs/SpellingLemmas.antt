-- The tokens that are found from the left are those that the text is spelled in.
use Rattle.std.specs.Char.{is_ascii_digit}
use Rattle.std.proofs.Common.{◌≡◌, ◌≤◌, ℕ, true, false, ◌&&◌, List, [], ◌∷◌, ◌++◌, zero, suc, length, drop, refl, ap, sym, ◌∙◌, subst, arith, eqb, cond, Option, None, Some}
use Rattle.std.specs.Prelude.{encode_utf8}
use Rattle.std.specs.Option.{option_map}
use Rattle.std.specs.List.{list_all}
use Rattle.std.proofs.lemmas.Bool.{and_parts}
use Rattle.std.proofs.lemmas.Bool.Decides.{Decides-eqb}
use Rattle.fx_base.specs.declared.values.Value.TheVariants as value
use Rattle.fx_expr.specs.declared.tokens.Token.{Token}
use Rattle.fx_expr.specs.declared.tokens.Token.TheVariants.{Constant}
use Rattle.fx_text.specs.Fronts.{front, behind, stops}
use Rattle.fx_text.proofs.FrontLemmas.{behind-stop, behind_stops, front-passes, front-stop, front_and_behind}
use Rattle.fx_expr.specs.Decimal.{decimal, has_fraction, fraction_digits, fraction_rest}
use Rattle.fx_expr.specs.Spelling.{fraction_text, IsNumber, IsQuoted, ended, escaped, plain, Begins}
use Rattle.fx_expr.specs.Scanning.{number_at, with_front, character_at, end_at, on_character, quoted_at, token_at}
use Rattle.fx_expr.proofs.DecimalLemmas.{behind_more, fraction_pass, front_more}

-- a token and what is behind it, and other pairs
abbrev pub at : Token → List ℕ → Token × List ℕ
at t r = (t, r)

abbrev pub here : Token → List ℕ → Option (Token × List ℕ)
here t r = Some (at t r)

abbrev pub parts_of : List ℕ → List ℕ → List ℕ × List ℕ
parts_of a r = (a, r)

abbrev pub piece : List ℕ → List ℕ → Option (List ℕ × List ℕ)
piece a r = Some (parts_of a r)

abbrev pub names_of : List (List ℕ) → List ℕ → List (List ℕ) × List ℕ
names_of names r = (names, r)

abbrev pub pieces : List (List ℕ) → List ℕ → Option (List (List ℕ) × List ℕ)
pieces names r = Some (names_of names r)

abbrev pub next : ℕ → List ℕ → ℕ × List ℕ
next c r = (c, r)

abbrev pub letter : ℕ → List ℕ → Option (ℕ × List ℕ)
letter c r = Some (next c r)

pub same_token : (t u : Token) (r s : List ℕ) → here t r ≡ here u s → t ≡ u
same_token t u r s e = let p : at t r ≡ at u s = cc in ap (λ (x : Token × List ℕ). x.0) p

pub same_rest : (t u : Token) (r s : List ℕ) → here t r ≡ here u s → r ≡ s
same_rest t u r s e = let p : at t r ≡ at u s = cc in ap (λ (x : Token × List ℕ). x.1) p

pub moved : (text : List ℕ) (t u : Token) (r s : List ℕ) → Begins text t r → here t r ≡ here u s → Begins text u s
moved text t u r s b e = subst (λ x. Begins text x s) (same_token t u r s e) (subst (λ x. Begins text t x) (same_rest t u r s e) b)

pub map_some : {A B : Type 0} (o : Option A) (f : A → B) (y : B) → option_map f o ≡ Some y → (x : A) × (o ≡ Some x) × (f x ≡ y)
map_some None f y e = absurd (cc)
map_some (Some x) f y e = (x, refl, cc)

pub eq_true : (a b : ℕ) → eqb a b ≡ true → a ≡ b
eq_true a b e = (Decides-eqb a b).0 e

-- numbers
fraction_parts : (b : List ℕ) → b ≡ fraction_text (fraction_digits b) ++ fraction_rest b
fraction_parts [] = refl
fraction_parts (x ∷ []) = refl
fraction_parts (x ∷ d ∷ ds) = (elim (eqb x 46 && is_ascii_digit d) as (λ b. (eqb x 46 && is_ascii_digit d) ≡ b
    → (x ∷ (d ∷ ds)) ≡ fraction_text (cond b (front is_ascii_digit (d ∷ ds)) []) ++ cond b (behind is_ascii_digit (d ∷ ds)) (x ∷ (d ∷ ds))) [
      | true ↦ λ e. let both = and_parts (eqb x 46) (is_ascii_digit d) e in at_point x d ds (eq_true x 46 both.0) both.1
      | false ↦ λ e. refl
    ]) refl
  where
    at_point : (x d : ℕ) (ds : List ℕ) → x ≡ 46 → is_ascii_digit d ≡ true → (x ∷ (d ∷ ds)) ≡ fraction_text (front is_ascii_digit (d ∷ ds)) ++ behind is_ascii_digit (d ∷ ds)
    at_point x d ds e i =
        ap (λ y. y ∷ (d ∷ ds)) e
        ∙ (ap (λ t. 46 ∷ (d ∷ t)) (front_and_behind is_ascii_digit ds)
        ∙ sym (ap (λ t. fraction_text t ++ behind is_ascii_digit (d ∷ ds)) (front_more is_ascii_digit d ds i)
        ∙ ap (λ t. (46 ∷ (d ∷ front is_ascii_digit ds)) ++ t) (behind_more is_ascii_digit d ds i)))

fraction_stops : (b : List ℕ) → stops is_ascii_digit b ≡ true → stops is_ascii_digit (fraction_rest b) ≡ true
fraction_stops b s = (elim (has_fraction b) as (λ h. stops is_ascii_digit (cond h (behind is_ascii_digit (drop 1 b)) b) ≡ true) [ true ↦ behind_stops is_ascii_digit (drop 1 b) | false ↦ s ])

fraction_alone : (b : List ℕ) → fraction_digits b ≡ [] → has_fraction (fraction_rest b) ≡ false
fraction_alone b e = (elim (has_fraction b) as (λ h. has_fraction b ≡ h → cond h (front is_ascii_digit (drop 1 b)) [] ≡ [] → has_fraction (cond h (behind is_ascii_digit (drop 1 b)) b) ≡ false) [
  | true ↦ λ h n. absurd (not_empty b h n)
  | false ↦ λ h n. h
]) refl e
  where
    not_empty : (b : List ℕ) → has_fraction b ≡ true → front is_ascii_digit (drop 1 b) ≡ [] → ⊥
    not_empty [] h n = cc
    not_empty (x ∷ []) h n = cc
    not_empty (x ∷ d ∷ ds) h n = let i = (and_parts (eqb x 46) (is_ascii_digit d) h).1 in let no : (d ∷ front is_ascii_digit ds) ≡ [] = sym (front_more is_ascii_digit d ds i) ∙ n in cc

pub number_sound : (c : ℕ) (cs : List ℕ) → is_ascii_digit c ≡ true
    → IsNumber (c ∷ cs) (front is_ascii_digit (c ∷ cs)) (fraction_digits (behind is_ascii_digit (c ∷ cs))) (fraction_rest (behind is_ascii_digit (c ∷ cs)))
number_sound c cs i = record {
  parts = front_and_behind is_ascii_digit (c ∷ cs) ∙ ap (λ t. front is_ascii_digit (c ∷ cs) ++ t) (fraction_parts (behind is_ascii_digit (c ∷ cs)));
  some = λ n. let no : (c ∷ front is_ascii_digit cs) ≡ [] = sym (front_more is_ascii_digit c cs i) ∙ n in cc;
  digits = front-passes is_ascii_digit (c ∷ cs);
  places = fraction_pass (behind is_ascii_digit (c ∷ cs));
  stops = fraction_stops (behind is_ascii_digit (c ∷ cs)) (behind_stops is_ascii_digit (c ∷ cs));
  alone = fraction_alone (behind is_ascii_digit (c ∷ cs));
}

fraction_written : (fraction rest : List ℕ) → list_all is_ascii_digit fraction ≡ true → stops is_ascii_digit rest ≡ true → (fraction ≡ [] → has_fraction rest ≡ false)
    → (fraction_digits (fraction_text fraction ++ rest) ≡ fraction) × (fraction_rest (fraction_text fraction ++ rest) ≡ rest)
fraction_written [] rest a s n = (rw (n refl) refl, rw (n refl) refl)
fraction_written (d ∷ ds) rest a s n =
    let i = (and_parts (is_ascii_digit d) (list_all is_ascii_digit ds) a).0 in
    let all = front-stop is_ascii_digit (d ∷ ds) rest a s in
    let left = behind-stop is_ascii_digit (d ∷ ds) rest a s in
    (with_digit d ds rest i all, with_rest d ds rest i left)
  where
    with_digit : (d : ℕ) (ds rest : List ℕ) → is_ascii_digit d ≡ true → front is_ascii_digit (d ∷ (ds ++ rest)) ≡ d ∷ ds → fraction_digits (46 ∷ (d ∷ (ds ++ rest))) ≡ d ∷ ds
    with_digit d ds rest i all = rw i (rw i at all)

    with_rest : (d : ℕ) (ds rest : List ℕ) → is_ascii_digit d ≡ true → behind is_ascii_digit (d ∷ (ds ++ rest)) ≡ rest → fraction_rest (46 ∷ (d ∷ (ds ++ rest))) ≡ rest
    with_rest d ds rest i left = rw i (rw i at left)

fraction_no_digit : (fraction rest : List ℕ) → stops is_ascii_digit rest ≡ true → stops is_ascii_digit (fraction_text fraction ++ rest) ≡ true
fraction_no_digit [] rest s = s
fraction_no_digit (d ∷ ds) rest s = refl

pub digit_token : (c : ℕ) (cs : List ℕ) → is_ascii_digit c ≡ true → token_at (c ∷ cs) ≡ Some (number_at (c ∷ cs))
unfolding token_at
digit_token c cs i = rw i refl

pub number_complete : (text whole fraction rest : List ℕ) → IsNumber text whole fraction rest → token_at text ≡ here (Constant (value.Int (decimal whole fraction))) rest
number_complete text [] fraction rest n = absurd (n.some refl)
number_complete text (w ∷ ws) fraction rest n =
    let tail : List ℕ = fraction_text fraction ++ rest in
    let i = (and_parts (is_ascii_digit w) (list_all is_ascii_digit ws) n.digits).0 in
    let stop = fraction_no_digit fraction rest n.stops in
    let whole = front-stop is_ascii_digit (w ∷ ws) (fraction_text fraction ++ rest) n.digits stop in
    let left = behind-stop is_ascii_digit (w ∷ ws) (fraction_text fraction ++ rest) n.digits stop in
    let f = fraction_written fraction rest n.places n.stops n.alone in
    ap token_at n.parts ∙ (digit_token w (ws ++ (fraction_text fraction ++ rest)) i ∙ same_number (front is_ascii_digit ((w ∷ ws) ++ (fraction_text fraction ++ rest))) (w ∷ ws) (behind is_ascii_digit ((w ∷ ws) ++ (fraction_text fraction ++ rest))) (fraction_text fraction ++ rest) fraction rest whole left f.0 f.1)
  where
    same_number : (a whole b tail fraction rest : List ℕ) → a ≡ whole → b ≡ tail → fraction_digits tail ≡ fraction → fraction_rest tail ≡ rest
        → here (Constant (value.Int (decimal a (fraction_digits b)))) (fraction_rest b) ≡ here (Constant (value.Int (decimal whole fraction))) rest
    same_number a whole b tail fraction rest e f g h = rw (e, f, g, h) refl

-- quoted texts
data Character (q : ℕ) : List ℕ → ℕ → List ℕ → Type 0 where
  behind_slash : (c : ℕ) (rest : List ℕ) → eqb 92 q ≡ false → Character q (92 ∷ (c ∷ rest)) c rest
  itself : (c : ℕ) (rest : List ℕ) → eqb c q ≡ false → eqb c 92 ≡ false → Character q (c ∷ rest) c rest

same_character : (q : ℕ) (text : List ℕ) (c d : ℕ) (r s : List ℕ) → Character q text c r → letter c r ≡ letter d s → Character q text d s
same_character q text c d r s x e =
    let p : next c r ≡ next d s = cc in
    subst (λ (y : ℕ × List ℕ). Character q text y.0 y.1) p x

character_sound : (q : ℕ) (text : List ℕ) (c : ℕ) (rest : List ℕ) → character_at q text ≡ letter c rest → Character q text c rest
character_sound q [] c rest e = absurd (cc)
character_sound q (x ∷ []) c rest e = (elim (eqb x q) as (λ b. eqb x q ≡ b → cond b None (cond (eqb x 92) None (letter x [])) ≡ letter c rest → Character q (x ∷ []) c rest) [
  | true ↦ λ n i. absurd (cc)
  | false ↦ λ n i. (elim (eqb x 92) as (λ b. eqb x 92 ≡ b → cond b None (letter x []) ≡ letter c rest → Character q (x ∷ []) c rest) [
    | true ↦ λ m j. absurd (cc)
    | false ↦ λ m j. same_character q (x ∷ []) x c [] rest (itself x [] n m) j
  ]) refl i
]) refl e
character_sound q (x ∷ d ∷ ds) c rest e = (elim (eqb x q) as (λ b. eqb x q ≡ b → cond b None (cond (eqb x 92) (letter d ds) (letter x (d ∷ ds))) ≡ letter c rest → Character q (x ∷ (d ∷ ds)) c rest) [
  | true ↦ λ n i. absurd (cc)
  | false ↦ λ n i. (elim (eqb x 92) as (λ b. eqb x 92 ≡ b → cond b (letter d ds) (letter x (d ∷ ds)) ≡ letter c rest → Character q (x ∷ (d ∷ ds)) c rest) [
    | true ↦ λ m j. same_character q (x ∷ (d ∷ ds)) d c ds rest (slash x d ds (eq_true x 92 m) n) j
    | false ↦ λ m j. same_character q (x ∷ (d ∷ ds)) x c (d ∷ ds) rest (itself x (d ∷ ds) n m) j
  ]) refl i
]) refl e
  where
    slash : (x d : ℕ) (ds : List ℕ) → x ≡ 92 → eqb x q ≡ false → Character q (x ∷ (d ∷ ds)) d ds
    slash x d ds e n = subst (λ y. Character q (y ∷ (d ∷ ds)) d ds) (sym e) (behind_slash d ds (subst (λ y. eqb y q ≡ false) e n))

pub record Closes (q : ℕ) (text content rest : List ℕ) : Type 0 where
  pub written : List ℕ
  pub parts : text ≡ written ++ rest
  pub means : IsQuoted q written content

pub same_piece : (a b r s : List ℕ) → piece a r ≡ piece b s → (a ≡ b) × (r ≡ s)
same_piece a b r s e = let p : parts_of a r ≡ parts_of b s = cc in (ap (λ (u : List ℕ × List ℕ). u.0) p, ap (λ (u : List ℕ × List ℕ). u.1) p)

end_sound : (q : ℕ) (text content rest : List ℕ) → end_at q text ≡ piece content rest → Closes q text content rest
end_sound q [] content rest e = absurd (cc)
end_sound q (c ∷ cs) content rest e = (elim (eqb c q) as (λ b. eqb c q ≡ b → cond b (piece [] cs) None ≡ piece content rest → Closes q (c ∷ cs) content rest) [
  | true ↦ λ i j. let s = same_piece [] content cs rest j in record { written = q ∷ []; parts = ap (λ x. x ∷ cs) (eq_true c q i) ∙ ap (λ t. q ∷ t) s.1; means = subst (λ t. IsQuoted q (q ∷ []) t) s.0 ended }
  | false ↦ λ i j. absurd (cc)
]) refl e

character_closes : (q : ℕ) (text : List ℕ) (c : ℕ) (rest content end : List ℕ) → Character q text c rest → Closes q rest content end → Closes q text (encode_utf8 c ++ content) end
character_closes q text c rest content end (behind_slash d r n) z = record { written = 92 ∷ (d ∷ z.written); parts = ap (λ t. 92 ∷ (d ∷ t)) z.parts; means = escaped d z.written content n z.means }
character_closes q text c rest content end (itself d r n m) z = record { written = d ∷ z.written; parts = ap (λ t. d ∷ t) z.parts; means = plain d z.written content n m z.means }

front_some : (front : List ℕ) (o : Option (List ℕ × List ℕ)) (content rest : List ℕ) → with_front front o ≡ piece content rest → (more : List ℕ) × (o ≡ piece more rest) × (front ++ more ≡ content)
front_some front None content rest e = absurd (cc)
front_some front (Some p) content rest e = let s = same_piece (front ++ p.0) content p.1 rest e in (p.0, ap (λ r. piece p.0 r) s.1, s.0)

pub quoted_sound : (fuel q : ℕ) (text content rest : List ℕ) → quoted_at fuel q text ≡ piece content rest → Closes q text content rest
unfolding quoted_at
quoted_sound zero q text content rest e = end_sound q text content rest e
quoted_sound (suc fuel) q text content rest e =
    (elim (character_at q text) as (λ o. character_at q text ≡ o → on_character o (λ c r. with_front (encode_utf8 c) (quoted_at fuel q r)) (end_at q text) ≡ piece content rest → Closes q text content rest) [
      | None ↦ λ n i. end_sound q text content rest i
      | Some p ↦ λ n i.
          let f = front_some (encode_utf8 p.0) (quoted_at fuel q p.1) content rest i in
          let z = quoted_sound fuel q p.1 f.0 rest f.1 in
          subst (λ t. Closes q text t rest) f.2 (character_closes q text p.0 p.1 f.0 rest (character_sound q text p.0 p.1 n) z)
    ]) refl e

eqb_self : (q : ℕ) → eqb q q ≡ true
eqb_self q = (Decides-eqb q q).1 refl

closing_character : (q : ℕ) (rest : List ℕ) → character_at q (q ∷ rest) ≡ None
closing_character q [] = rw (eqb_self q) refl
closing_character q (d ∷ ds) = rw (eqb_self q) refl

closing_end : (q : ℕ) (rest : List ℕ) → end_at q (q ∷ rest) ≡ piece [] rest
closing_end q rest = rw (eqb_self q) refl

plain_character : (q c : ℕ) (rest : List ℕ) → eqb c q ≡ false → eqb c 92 ≡ false → character_at q (c ∷ rest) ≡ letter c rest
plain_character q c [] n m = rw (n, m) refl
plain_character q c (d ∷ ds) n m = rw (n, m) refl

slash_character : (q c : ℕ) (rest : List ℕ) → eqb 92 q ≡ false → character_at q (92 ∷ (c ∷ rest)) ≡ letter c rest
slash_character q c rest n = rw n refl

pub quoted_complete : (q : ℕ) (written content : List ℕ) → IsQuoted q written content → (rest : List ℕ) (fuel : ℕ) → length written ≤ fuel → quoted_at fuel q (written ++ rest) ≡ piece content rest
unfolding quoted_at
quoted_complete q w t (ended) rest zero h = absurd (omega arith)
quoted_complete q w t (ended) rest (suc fuel) h = rw (closing_character q rest) (closing_end q rest)
quoted_complete q w t (escaped c written content n s) rest zero h = absurd (omega arith)
quoted_complete q w t (escaped c written content n s) rest (suc fuel) h = rw (slash_character q c (written ++ rest) n, quoted_complete q written content s rest fuel (omega arith)) refl
quoted_complete q w t (plain c written content n m s) rest zero h = absurd (omega arith)
quoted_complete q w t (plain c written content n m s) rest (suc fuel) h = rw (plain_character q c (written ++ rest) n m, quoted_complete q written content s rest fuel (omega arith)) refl
