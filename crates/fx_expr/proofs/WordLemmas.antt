-- Names, signs and whole lists of tokens: what is found is what is written.
use Rattle.std.specs.Char.{is_ascii_digit}
use Rattle.std.proofs.Common.{◌≡◌, ◌<◌, ◌≤◌, ℕ, Bool, true, false, ◌&&◌, ◌||◌, List, [], ◌∷◌, ◌++◌, zero, suc, length, drop, refl, ap, sym, ◌∙◌, subst, arith, eqb, cond, Option, None, Some, append_assoc, inl, inr}
use Rattle.std.specs.Prelude.{option_and_then}
use Rattle.std.specs.Option.{option_map}
use Rattle.std.specs.List.{list_all, prefix_len}
use Rattle.std.proofs.lemmas.Bool.{and_parts, and_from}
use Rattle.std.proofs.lemmas.Bool.Decides.{nat_tests}
use Rattle.std.proofs.lemmas.List.{length-append, length-drop}
use Rattle.fx_text.specs.Classes.{is_identifier, is_letter, is_letter_or_digit, is_white, is_quote}
use Rattle.fx_base.specs.declared.values.Value.TheVariants as value
use Rattle.fx_expr.specs.declared.tree.BinarySign.{BinarySign}
use Rattle.fx_expr.specs.declared.tokens.Token.{Token}
use Rattle.fx_expr.specs.declared.tokens.Token.TheVariants.{Constant, Binary}
use Rattle.fx_text.specs.Fronts.{front, behind, stops}
use Rattle.fx_text.proofs.FrontLemmas.{behind-stop, behind_stops, front-passes, front-stop, front_and_behind, tells}
use Rattle.fx_expr.specs.Spelling.{fraction_text, is_short, has_name, points, AreNames, word_token, double_sign, single_sign, IsSingle, Begins, number, quoted, words, double, single, IsSpelled, done, white, token}
use Rattle.fx_expr.specs.Scanning.{number_at, quoted_at, text_token, name_at, with_names, names_at, path_at, words_at, sign_of_one, sign_of_two, first_of_two, sign_at, token_at, after_white, with_tokens, tokens_of}
use Rattle.fx_expr.proofs.DecimalLemmas.{behind_more, behind_none, front_more}
use Rattle.fx_expr.proofs.GrammarLemmas.{bind_some}
use Rattle.fx_expr.proofs.SpellingLemmas.{at, here, piece, names_of, pieces, moved, map_some, eq_true, number_sound, number_complete, same_piece, quoted_sound, quoted_complete, Closes}

-- letters, digits and quotes are apart
letter_or : (c : ℕ) → is_letter c ≡ true → is_letter_or_digit c ≡ true
letter_or c h = rw h refl

letter_no_digit : (c : ℕ) → is_letter c ≡ true → is_ascii_digit c ≡ false
letter_no_digit c h = grind (arith, nat_tests)

letter_no_quote : (c : ℕ) → is_letter c ≡ true → is_quote c ≡ false
letter_no_quote c h = grind (arith, nat_tests)

quote_no_digit : (c : ℕ) → is_quote c ≡ true → is_ascii_digit c ≡ false
quote_no_digit c h = grind (arith, nat_tests)

-- names
behind_short : (p : ℕ → Bool) (text : List ℕ) → length (behind p text) ≤ length text
behind_short p text = let long = length-drop (prefix_len p text) text in omega (arith, long)

letter_word : (c : ℕ) (cs : List ℕ) → is_letter c ≡ true → is_identifier (front is_letter_or_digit (c ∷ cs)) ≡ true
letter_word c cs h = ap is_identifier (front_more is_letter_or_digit c cs (letter_or c h)) ∙ rw h (front-passes is_letter_or_digit cs)

record Named (text name rest : List ℕ) : Type 0 where
  pub is_name : name ≡ front is_letter_or_digit text
  pub is_rest : rest ≡ behind is_letter_or_digit text
  pub short : is_short name ≡ true

name_sound : (text name rest : List ℕ) → name_at text ≡ piece name rest → Named text name rest
name_sound text name rest e = (elim (is_short (front is_letter_or_digit text)) as (λ b. is_short (front is_letter_or_digit text) ≡ b
    → cond b (piece (front is_letter_or_digit text) (behind is_letter_or_digit text)) None ≡ piece name rest → Named text name rest) [
      | true ↦ λ h i. let s = same_piece (front is_letter_or_digit text) name (behind is_letter_or_digit text) rest i in
          record { is_name = sym s.0; is_rest = sym s.1; short = subst (λ n. is_short n ≡ true) s.0 h }
      | false ↦ λ h i. absurd (cc)
    ]) refl e

record Points (text : List ℕ) (names : List (List ℕ)) (rest : List ℕ) : Type 0 where
  pub parts : text ≡ points names ++ rest
  pub names_are : list_all is_identifier names ≡ true
  pub short : list_all is_short names ≡ true
  pub stops : stops is_letter_or_digit rest ≡ true
  pub alone : has_name rest ≡ false

same_names : (a b : List (List ℕ)) (r s : List ℕ) → pieces a r ≡ pieces b s → (a ≡ b) × (r ≡ s)
same_names a b r s e = let p : names_of a r ≡ names_of b s = cc in (ap (λ (u : List (List ℕ) × List ℕ). u.0) p, ap (λ (u : List (List ℕ) × List ℕ). u.1) p)

no_points : (text : List ℕ) (names : List (List ℕ)) (rest : List ℕ) → pieces [] text ≡ pieces names rest → stops is_letter_or_digit text ≡ true → has_name text ≡ false → Points text names rest
no_points text names rest e s n =
    let same = same_names [] names text rest e in
    subst (λ r. Points text names r) same.1 (subst (λ ns. Points text ns text) same.0 (record { parts = refl; names_are = refl; short = refl; stops = s; alone = n }))

name_front : (text : List ℕ) → has_name text ≡ true → (c : ℕ) × (cs : List ℕ) × (text ≡ 46 ∷ (c ∷ cs)) × (is_letter c ≡ true)
name_front [] h = absurd (cc)
name_front (x ∷ []) h = absurd (cc)
name_front (x ∷ d ∷ ds) h = let both = and_parts (eqb x 46) (is_letter d) h in (d, ds, ap (λ y. y ∷ (d ∷ ds)) (eq_true x 46 both.0), both.1)

one_more : (text : List ℕ) (c : ℕ) (cs name rest : List ℕ) (names : List (List ℕ)) (end : List ℕ) → text ≡ 46 ∷ (c ∷ cs) → is_letter c ≡ true → Named (c ∷ cs) name rest → Points rest names end → Points text (name ∷ names) end
one_more text c cs name rest names end e h n p = record {
  parts = e ∙ (ap (λ t. 46 ∷ t) (front_and_behind is_letter_or_digit (c ∷ cs) ∙ (ap (λ t. t ++ behind is_letter_or_digit (c ∷ cs)) (sym n.is_name) ∙ (ap (λ t. name ++ t) (sym n.is_rest ∙ p.parts) ∙ simp append_assoc))));
  names_are = and_from (is_identifier name) (list_all is_identifier names) (subst (λ t. is_identifier t ≡ true) (sym n.is_name) (letter_word c cs h)) p.names_are;
  short = and_from (is_short name) (list_all is_short names) n.short p.short;
  stops = p.stops;
  alone = p.alone;
}

front_names : (front : List (List ℕ)) (o : Option (List (List ℕ) × List ℕ)) (names : List (List ℕ)) (rest : List ℕ) → with_names front o ≡ pieces names rest → (more : List (List ℕ)) × (o ≡ pieces more rest) × (front ++ more ≡ names)
front_names front None names rest e = absurd (cc)
front_names front (Some p) names rest e = let s = same_names (front ++ p.0) names p.1 rest e in (p.0, ap (λ r. pieces p.0 r) s.1, s.0)

names_sound : (fuel : ℕ) (text : List ℕ) (names : List (List ℕ)) (rest : List ℕ) → length text ≤ fuel → stops is_letter_or_digit text ≡ true → names_at fuel text ≡ pieces names rest → Points text names rest
unfolding names_at
names_sound zero [] names rest h s e = no_points [] names rest e s refl
names_sound zero (c ∷ cs) names rest h s e = absurd (omega arith)
names_sound (suc fuel) text names rest h s e = (elim (has_name text) as (λ b. has_name text ≡ b
    → cond b (option_and_then (λ n. with_names (n.0 ∷ []) (names_at fuel n.1)) (name_at (drop 1 text))) (pieces [] text) ≡ pieces names rest → Points text names rest) [
      | false ↦ λ n i. no_points text names rest i s n
      | true ↦ λ n i.
          let f = name_front text n in
          let b = bind_some (name_at (drop 1 text)) (λ n. with_names (n.0 ∷ []) (names_at fuel n.1)) (names_of names rest) i in
          let cut : drop 1 text ≡ f.0 ∷ f.1 = ap (λ t. drop 1 t) f.2 in
          let named = name_sound (f.0 ∷ f.1) b.0.0 b.0.1 (subst (λ t. name_at t ≡ piece b.0.0 b.0.1) cut b.1) in
          let m = front_names (b.0.0 ∷ []) (names_at fuel b.0.1) names rest b.2 in
          let long : length text ≡ suc (suc (length f.1)) = ap (λ (t : List ℕ). length t) f.2 in
          let rest_long : length b.0.1 ≤ suc (length f.1) = rw (named.is_rest) (behind_short is_letter_or_digit (f.0 ∷ f.1)) in
          let stop : stops is_letter_or_digit b.0.1 ≡ true = subst (λ t. stops is_letter_or_digit t ≡ true) (sym named.is_rest) (behind_stops is_letter_or_digit (f.0 ∷ f.1)) in
          subst (λ ns. Points text ns rest) m.2 (one_more text f.0 f.1 b.0.0 b.0.1 m.0 rest f.2 f.3 named (names_sound fuel b.0.1 m.0 rest (omega arith) stop m.1))
    ]) refl e

words_sound : (c : ℕ) (cs : List ℕ) (t : Token) (r : List ℕ) → is_letter c ≡ true → words_at (c ∷ cs) ≡ here t r → Begins (c ∷ cs) t r
words_sound c cs t r h e =
    let b = bind_some (path_at (c ∷ cs)) (λ p. option_map (λ t. at t p.1) (word_token p.0)) (at t r) e in
    let m = map_some (word_token b.0.0) (λ u. at u b.0.1) (at t r) b.2 in
    let p = bind_some (name_at (c ∷ cs)) (λ n. with_names (n.0 ∷ []) (names_at (length n.1) n.1)) b.0 b.1 in
    let named = name_sound (c ∷ cs) p.0.0 p.0.1 p.1 in
    let f = front_names (p.0.0 ∷ []) (names_at (length p.0.1) p.0.1) b.0.0 b.0.1 p.2 in
    let stop : stops is_letter_or_digit p.0.1 ≡ true = subst (λ t. stops is_letter_or_digit t ≡ true) (sym named.is_rest) (behind_stops is_letter_or_digit (c ∷ cs)) in
    let more = names_sound (length p.0.1) p.0.1 f.0 b.0.1 (omega arith) stop f.1 in
    let is : word_token (p.0.0 ∷ f.0) ≡ Some m.0 = ap word_token f.2 ∙ m.1 in
    moved (c ∷ cs) m.0 t b.0.1 r (words (c ∷ cs) p.0.0 f.0 b.0.1 m.0 (record {
      parts = front_and_behind is_letter_or_digit (c ∷ cs) ∙ (ap (λ t. t ++ behind is_letter_or_digit (c ∷ cs)) (sym named.is_name) ∙ ap (λ t. p.0.0 ++ t) (sym named.is_rest ∙ more.parts));
      first_name = subst (λ t. is_identifier t ≡ true) (sym named.is_name) (letter_word c cs h);
      all_names = more.names_are;
      first_short = named.short;
      all_short = more.short;
      stops = more.stops;
      alone = more.alone;
    }) is) (ap (λ (x : Token × List ℕ). Some x) m.2)

-- a written name is found
identifier_front : (name : List ℕ) → is_identifier name ≡ true → (c : ℕ) × (cs : List ℕ) × (name ≡ c ∷ cs) × (is_letter c ≡ true) × (list_all is_letter_or_digit name ≡ true)
identifier_front [] h = absurd (cc)
identifier_front (c ∷ cs) h = let both = and_parts (is_letter c) (list_all is_letter_or_digit cs) h in (c, cs, refl, both.0, and_from (is_letter_or_digit c) (list_all is_letter_or_digit cs) (letter_or c both.0) both.1)

name_written : (name tail : List ℕ) → is_identifier name ≡ true → is_short name ≡ true → stops is_letter_or_digit tail ≡ true → name_at (name ++ tail) ≡ piece name tail
name_written name tail h s stop =
    let all = (identifier_front name h).4 in
    rw (front-stop is_letter_or_digit name tail all stop, behind-stop is_letter_or_digit name tail all stop, s) refl

points_stop : (names : List (List ℕ)) (rest : List ℕ) → stops is_letter_or_digit rest ≡ true → stops is_letter_or_digit (points names ++ rest) ≡ true
points_stop [] rest s = s
points_stop (n ∷ names) rest s = refl

names_complete : (names : List (List ℕ)) (rest : List ℕ) (fuel : ℕ) → length names ≤ fuel → list_all is_identifier names ≡ true → list_all is_short names ≡ true → stops is_letter_or_digit rest ≡ true → has_name rest ≡ false
    → names_at fuel (points names ++ rest) ≡ pieces names rest
unfolding names_at
names_complete [] rest zero h i s stop n = refl
names_complete [] rest (suc fuel) h i s stop n = rw n refl
names_complete (name ∷ names) rest zero h i s stop n = absurd (omega arith)
names_complete (name ∷ names) rest (suc fuel) h i s stop n =
    let is = and_parts (is_identifier name) (list_all is_identifier names) i in
    let short = and_parts (is_short name) (list_all is_short names) s in
    let grouped : (name ++ points names) ++ rest ≡ name ++ (points names ++ rest) = simp append_assoc in
    let found = name_written name (points names ++ rest) is.0 short.0 (points_stop names rest stop) in
    let here : has_name (46 ∷ (name ++ (points names ++ rest))) ≡ true = named_here name (points names ++ rest) is.0 in
    rw (grouped, here, found, names_complete names rest fuel (omega arith) is.1 short.1 stop n) refl
  where
    named_here : (name tail : List ℕ) → is_identifier name ≡ true → has_name (46 ∷ (name ++ tail)) ≡ true
    named_here [] tail i = absurd (cc)
    named_here (c ∷ cs) tail i = (and_parts (is_letter c) (list_all is_letter_or_digit cs) i).0

points_long : (names : List (List ℕ)) (rest : List ℕ) → length names ≤ length (points names ++ rest)
points_long [] rest = omega arith
points_long (name ∷ names) rest =
    let grouped : (name ++ points names) ++ rest ≡ name ++ (points names ++ rest) = simp append_assoc in
    let long = length-append name (points names ++ rest) in
    let i = points_long names rest in
    rw grouped (omega (arith, long, i))

path_complete : (first : List ℕ) (names : List (List ℕ)) (rest : List ℕ) → is_identifier first ≡ true → list_all is_identifier names ≡ true → is_short first ≡ true → list_all is_short names ≡ true
    → stops is_letter_or_digit rest ≡ true → has_name rest ≡ false → path_at (first ++ (points names ++ rest)) ≡ pieces (first ∷ names) rest
path_complete first names rest i is s ss stop n =
    let found = name_written first (points names ++ rest) i s (points_stop names rest stop) in
    rw (found, names_complete names rest (length (points names ++ rest)) (points_long names rest) is ss stop n) refl

letter_token : (c : ℕ) (cs : List ℕ) → is_letter c ≡ true → token_at (c ∷ cs) ≡ words_at (c ∷ cs)
unfolding token_at
letter_token c cs h = rw (letter_no_digit c h, letter_no_quote c h, h) refl

words_complete : (text first : List ℕ) (names : List (List ℕ)) (rest : List ℕ) (t : Token) → AreNames text first names rest → word_token (first ∷ names) ≡ Some t → token_at text ≡ here t rest
words_complete text first names rest t n e =
    let f = identifier_front first n.first_name in
    let shape : text ≡ f.0 ∷ (f.1 ++ (points names ++ rest)) = n.parts ∙ ap (λ x. x ++ (points names ++ rest)) f.2 in
    let whole : path_at (f.0 ∷ (f.1 ++ (points names ++ rest))) ≡ pieces (first ∷ names) rest = subst (λ x. path_at (x ++ (points names ++ rest)) ≡ pieces (first ∷ names) rest) f.2
    (path_complete first names rest n.first_name n.all_names n.first_short n.all_short n.stops n.alone) in
    ap token_at shape ∙ (letter_token f.0 (f.1 ++ (points names ++ rest)) f.3 ∙ (rw (whole, e) refl))

-- signs are apart from the other tokens
Apart : ℕ → Type 0
Apart a = (is_ascii_digit a ≡ false) × (is_quote a ≡ false) × (is_letter a ≡ false)

apart_at : (a k : ℕ) → eqb a k ≡ true → Apart k → Apart a
apart_at a k e p = subst (λ x. Apart x) (sym (eq_true a k e)) p

chain : {X : Type 0} (P : Type 0) (b : Bool) (x y z : Option X) → cond b x y ≡ z → (b ≡ true → P) → (y ≡ z → P) → P
chain P b x y z e f g = (elim b as (λ b. cond b x y ≡ z → (b ≡ true → P) → P) [ true ↦ λ i f. f refl | false ↦ λ i f. g i ]) e f

sign_apart : (a : ℕ) (t : Token) → single_sign a ≡ Some t → Apart a
unfolding Apart
sign_apart a t e =
    chain (Apart a) (eqb a 40) _ _ (Some t) e (λ i. apart_at a 40 i (refl, refl, refl)) (λ e.
    chain (Apart a) (eqb a 41) _ _ (Some t) e (λ i. apart_at a 41 i (refl, refl, refl)) (λ e.
    chain (Apart a) (eqb a 33) _ _ (Some t) e (λ i. apart_at a 33 i (refl, refl, refl)) (λ e.
    chain (Apart a) (eqb a 62) _ _ (Some t) e (λ i. apart_at a 62 i (refl, refl, refl)) (λ e.
    chain (Apart a) (eqb a 60) _ _ (Some t) e (λ i. apart_at a 60 i (refl, refl, refl)) (λ e.
    chain (Apart a) (eqb a 43) _ _ (Some t) e (λ i. apart_at a 43 i (refl, refl, refl)) (λ e.
    chain (Apart a) (eqb a 45) _ _ (Some t) e (λ i. apart_at a 45 i (refl, refl, refl)) (λ e.
    chain (Apart a) (eqb a 42) _ _ (Some t) e (λ i. apart_at a 42 i (refl, refl, refl)) (λ e.
    chain (Apart a) (eqb a 47) _ _ (Some t) e (λ i. apart_at a 47 i (refl, refl, refl)) (λ e.
    chain (Apart a) (eqb a 37) _ _ (Some t) e (λ i. apart_at a 37 i (refl, refl, refl)) (λ e. absurd (cc)))))))))))

pair_apart : (a b : ℕ) (sign : BinarySign) → double_sign a b ≡ Some sign → Apart a
unfolding Apart
pair_apart a b sign e =
    chain (Apart a) (eqb a 124 && eqb b 124) _ _ (Some sign) e (λ i. apart_at a 124 (and_parts (eqb a 124) (eqb b 124) i).0 (refl, refl, refl)) (λ e.
    chain (Apart a) (eqb a 38 && eqb b 38) _ _ (Some sign) e (λ i. apart_at a 38 (and_parts (eqb a 38) (eqb b 38) i).0 (refl, refl, refl)) (λ e.
    chain (Apart a) (eqb a 61 && eqb b 61) _ _ (Some sign) e (λ i. apart_at a 61 (and_parts (eqb a 61) (eqb b 61) i).0 (refl, refl, refl)) (λ e.
    chain (Apart a) (eqb a 33 && eqb b 61) _ _ (Some sign) e (λ i. apart_at a 33 (and_parts (eqb a 33) (eqb b 61) i).0 (refl, refl, refl)) (λ e.
    chain (Apart a) (eqb a 62 && eqb b 61) _ _ (Some sign) e (λ i. apart_at a 62 (and_parts (eqb a 62) (eqb b 61) i).0 (refl, refl, refl)) (λ e.
    chain (Apart a) (eqb a 60 && eqb b 61) _ _ (Some sign) e (λ i. apart_at a 60 (and_parts (eqb a 60) (eqb b 61) i).0 (refl, refl, refl)) (λ e. absurd (cc)))))))

sign_token : (a : ℕ) (cs : List ℕ) → Apart a → token_at (a ∷ cs) ≡ sign_at (a ∷ cs)
unfolding token_at Apart
sign_token a cs p = rw (p.0, p.1, p.2) refl

no_pair : (a : ℕ) (rest : List ℕ) → IsSingle a rest → sign_of_two (a ∷ rest) ≡ None
no_pair a [] s = refl
no_pair a (b ∷ bs) s = rw s refl

one_sound : (a : ℕ) (cs : List ℕ) (t : Token) (r : List ℕ) → IsSingle a cs → sign_of_one (a ∷ cs) ≡ here t r → Begins (a ∷ cs) t r
one_sound a cs t r s e =
    let m = map_some (single_sign a) (λ u. at u cs) (at t r) e in
    moved (a ∷ cs) m.0 t cs r (single a cs m.0 m.1 s) (ap (λ (x : Token × List ℕ). Some x) m.2)

sign_sound : (a : ℕ) (cs : List ℕ) (t : Token) (r : List ℕ) → sign_at (a ∷ cs) ≡ here t r → Begins (a ∷ cs) t r
sign_sound a [] t r e = one_sound a [] t r tt e
sign_sound a (b ∷ bs) t r e = (elim (double_sign a b) as (λ o. double_sign a b ≡ o → first_of_two (option_map (λ sign. at (Binary sign) bs) o) (sign_of_one (a ∷ (b ∷ bs))) ≡ here t r → Begins (a ∷ (b ∷ bs)) t r) [
  | None ↦ λ n i. one_sound a (b ∷ bs) t r n i
  | Some sign ↦ λ n i. moved (a ∷ (b ∷ bs)) (Binary sign) t bs r (double a b bs sign n) i
]) refl e

-- one token
text_sound : (p : List ℕ × List ℕ) (t : Token) (r : List ℕ) → text_token p ≡ here t r → (is_short p.0 ≡ true) × (here (Constant (value.Text p.0)) p.1 ≡ here t r)
text_sound p t r e = (elim (is_short p.0) as (λ b. cond b (here (Constant (value.Text p.0)) p.1) None ≡ here t r → (b ≡ true) × (here (Constant (value.Text p.0)) p.1 ≡ here t r)) [
  | true ↦ λ i. (refl, i)
  | false ↦ λ i. absurd (cc)
]) e

quoted_begins : (c : ℕ) (cs content rest : List ℕ) → is_quote c ≡ true → is_short content ≡ true → Closes c cs content rest → Begins (c ∷ cs) (Constant (value.Text content)) rest
quoted_begins c cs content rest h s z = subst (λ text. Begins (c ∷ text) (Constant (value.Text content)) rest) (sym z.parts) (quoted c z.written content rest h z.means s)

pub token_sound : (text : List ℕ) (t : Token) (r : List ℕ) → token_at text ≡ here t r → Begins text t r
unfolding token_at
token_sound [] t r e = absurd (cc)
token_sound (c ∷ cs) t r e = (elim (is_ascii_digit c) as (λ b. is_ascii_digit c ≡ b
    → cond b (Some (number_at (c ∷ cs))) (cond (is_quote c) (option_and_then text_token (quoted_at (length cs) c cs)) (cond (is_letter c) (words_at (c ∷ cs)) (sign_at (c ∷ cs)))) ≡ here t r → Begins (c ∷ cs) t r) [
      | true ↦ λ h i. moved (c ∷ cs) (number_at (c ∷ cs)).0 t (number_at (c ∷ cs)).1 r (number (c ∷ cs) _ _ _ (number_sound c cs h)) i
      | false ↦ λ h i. (elim (is_quote c) as (λ b. is_quote c ≡ b
          → cond b (option_and_then text_token (quoted_at (length cs) c cs)) (cond (is_letter c) (words_at (c ∷ cs)) (sign_at (c ∷ cs))) ≡ here t r → Begins (c ∷ cs) t r) [
            | true ↦ λ q i.
                let b = bind_some (quoted_at (length cs) c cs) text_token (at t r) i in
                let x = text_sound b.0 t r b.2 in
                moved (c ∷ cs) (Constant (value.Text b.0.0)) t b.0.1 r (quoted_begins c cs b.0.0 b.0.1 q x.0 (quoted_sound (length cs) c cs b.0.0 b.0.1 b.1)) x.1
            | false ↦ λ q i. (elim (is_letter c) as (λ b. is_letter c ≡ b → cond b (words_at (c ∷ cs)) (sign_at (c ∷ cs)) ≡ here t r → Begins (c ∷ cs) t r) [
              | true ↦ λ l i. words_sound c cs t r l i
              | false ↦ λ l i. sign_sound c cs t r i
            ]) refl i
          ]) refl i
    ]) refl e

quote_token : (c : ℕ) (cs : List ℕ) → is_quote c ≡ true → token_at (c ∷ cs) ≡ option_and_then text_token (quoted_at (length cs) c cs)
unfolding token_at
quote_token c cs h = rw (quote_no_digit c h, h) refl

pub token_complete : (text : List ℕ) (t : Token) (r : List ℕ) → Begins text t r → token_at text ≡ here t r
token_complete text t r (number us whole fraction rest n) = number_complete us whole fraction rest n
token_complete text t r (quoted quote written content rest h s short) =
    quote_token quote (written ++ rest) h ∙ (rw (quoted_complete quote written content s rest (length (written ++ rest)) (let l = length-append written rest in omega (arith, l)), short) refl)
token_complete text t r (words us first names rest u n e) = words_complete us first names rest u n e
token_complete text t r (double a b rest sign e) = sign_token a (b ∷ rest) (pair_apart a b sign e) ∙ (rw e refl)
token_complete text t r (single a rest u e s) = sign_token a rest (sign_apart a u e) ∙ (rw (no_pair a rest s, e) refl)

-- each token takes a character, which is no white
pub token_shorter : (text : List ℕ) (t : Token) (r : List ℕ) → Begins text t r → length r < length text
token_shorter text t r (number us [] fraction rest n) = absurd (n.some refl)
token_shorter text t r (number us (w ∷ ws) fraction rest n) = rw n.parts (longer ws fraction rest)
  where
    longer : (ws fraction rest : List ℕ) → length rest < suc (length (ws ++ (fraction_text fraction ++ rest)))
    longer ws fraction rest = let a = length-append ws (fraction_text fraction ++ rest) in let b = length-append (fraction_text fraction) rest in omega (arith, a, b)
token_shorter text t r (quoted quote written content rest h s short) = let l = length-append written rest in omega (arith, l)
token_shorter text t r (words us first names rest u n e) =
    let f = identifier_front first n.first_name in
    let whole : us ≡ f.0 ∷ (f.1 ++ (points names ++ rest)) = n.parts ∙ ap (λ x. x ++ (points names ++ rest)) f.2 in
    let a = length-append f.1 (points names ++ rest) in let b = length-append (points names) rest in
    rw whole (omega (arith, a, b))
token_shorter text t r (double a b rest sign e) = omega arith
token_shorter text t r (single a rest u e s) = omega arith

white_at : (c k : ℕ) (cs : List ℕ) → eqb c k ≡ true → ((ds : List ℕ) → token_at (k ∷ ds) ≡ None) → token_at (c ∷ cs) ≡ None
white_at c k cs e f = subst (λ x. token_at (x ∷ cs) ≡ None) (sym (eq_true c k e)) (f cs)

no_space : (ds : List ℕ) → token_at (32 ∷ ds) ≡ None
unfolding token_at
no_space [] = refl
no_space (d ∷ ds) = refl

no_tab : (ds : List ℕ) → token_at (9 ∷ ds) ≡ None
unfolding token_at
no_tab [] = refl
no_tab (d ∷ ds) = refl

no_feed : (ds : List ℕ) → token_at (10 ∷ ds) ≡ None
unfolding token_at
no_feed [] = refl
no_feed (d ∷ ds) = refl

no_return : (ds : List ℕ) → token_at (13 ∷ ds) ≡ None
unfolding token_at
no_return [] = refl
no_return (d ∷ ds) = refl

no_token : (k : ℕ) (ds : List ℕ) → is_white k ≡ true → token_at (k ∷ ds) ≡ None
no_token k ds h = (elim (eqb k 32) as (λ b. eqb k 32 ≡ b → ((b || eqb k 9) || (eqb k 10 || eqb k 13)) ≡ true → token_at (k ∷ ds) ≡ None) [
  | true ↦ λ e i. white_at k 32 ds e no_space
  | false ↦ λ e i. (elim (eqb k 9) as (λ b. eqb k 9 ≡ b → (b || (eqb k 10 || eqb k 13)) ≡ true → token_at (k ∷ ds) ≡ None) [
    | true ↦ λ e i. white_at k 9 ds e no_tab
    | false ↦ λ e i. (elim (eqb k 10) as (λ b. eqb k 10 ≡ b → (b || eqb k 13) ≡ true → token_at (k ∷ ds) ≡ None) [
      | true ↦ λ e i. white_at k 10 ds e no_feed
      | false ↦ λ e i. white_at k 13 ds i no_return
    ]) refl i
  ]) refl i
]) refl h

-- lists of tokens
abbrev some_list : List Token → Option (List Token)
some_list ts = Some ts

after_white_spelled : (text : List ℕ) (ts : List Token) → IsSpelled (after_white text) ts → IsSpelled text ts
after_white_spelled [] ts s = s
after_white_spelled (c ∷ cs) ts s = elim (tells (is_white c)) [
  | inl w ↦ white c cs ts w (after_white_spelled cs ts (subst (λ t. IsSpelled t ts) (behind_more is_white c cs w) s))
  | inr w ↦ subst (λ t. IsSpelled t ts) (behind_none is_white c cs w) s
]

some_same : (a b : List Token) → some_list a ≡ some_list b → a ≡ b
some_same a b e = cc

tokens_sound : (fuel : ℕ) (text : List ℕ) (ts : List Token) → tokens_of fuel text ≡ Some ts → IsSpelled text ts
unfolding tokens_of
tokens_sound zero [] ts e = subst (λ us. IsSpelled [] us) (some_same [] ts e) done
tokens_sound zero (c ∷ cs) ts e = absurd (cc)
tokens_sound (suc fuel) [] ts e = subst (λ us. IsSpelled [] us) (some_same [] ts e) done
tokens_sound (suc fuel) (c ∷ cs) ts e =
    let b = bind_some (token_at (c ∷ cs)) (λ t. with_tokens (t.0 ∷ []) (tokens_of fuel (after_white t.1))) ts e in
    let m = map_some (tokens_of fuel (after_white b.0.1)) (λ us. b.0.0 ∷ us) ts b.2 in
    subst (λ us. IsSpelled (c ∷ cs) us) m.2 (token (c ∷ cs) b.0.1 b.0.0 m.0 (token_sound (c ∷ cs) b.0.0 b.0.1 b.1) (after_white_spelled b.0.1 m.0 (tokens_sound fuel (after_white b.0.1) m.0 m.1)))

stands : (text : List ℕ) (t : Token) (r : List ℕ) → token_at text ≡ here t r → after_white text ≡ text
stands [] t r e = refl
stands (c ∷ cs) t r e = elim (tells (is_white c)) [
  | inl w ↦ absurd (let no : None ≡ here t r = sym (no_token c cs w) ∙ e in cc)
  | inr w ↦ behind_none is_white c cs w
]

next_token : (fuel : ℕ) (text rest : List ℕ) (t : Token) (ts : List Token) → token_at text ≡ here t rest → length rest < length text → length text ≤ suc fuel → tokens_of fuel (after_white rest) ≡ Some ts → tokens_of (suc fuel) text ≡ Some (t ∷ ts)
unfolding tokens_of
next_token fuel [] rest t ts e s l h = absurd (omega arith)
next_token fuel (c ∷ cs) rest t ts e s l h = rw (e, h) refl

tokens_complete : (text : List ℕ) (ts : List Token) → IsSpelled text ts → (fuel : ℕ) → length text ≤ fuel → tokens_of fuel (after_white text) ≡ Some ts
unfolding tokens_of
tokens_complete text ts (done) zero h = refl
tokens_complete text ts (done) (suc fuel) h = refl
tokens_complete text ts (white c cs us w s) fuel h = ap (tokens_of fuel) (behind_more is_white c cs w) ∙ tokens_complete cs us s fuel (omega arith)
tokens_complete text ts (token cs rest t us b s) zero h = absurd (let l = token_shorter cs t rest b in omega (arith, l))
tokens_complete text ts (token cs rest t us b s) (suc fuel) h =
    let l = token_shorter cs t rest b in
    let e = token_complete cs t rest b in
    rw (stands cs t rest e) (next_token fuel cs rest t us e l h (tokens_complete rest us s fuel (omega (arith, l))))

pub spelled_sound : (text : List ℕ) (ts : List Token) → tokens_of (length text) (after_white text) ≡ Some ts → IsSpelled text ts
spelled_sound text ts e = after_white_spelled text ts (tokens_sound (length text) (after_white text) ts e)

pub spelled_complete : (text : List ℕ) (ts : List Token) → IsSpelled text ts → tokens_of (length text) (after_white text) ≡ Some ts
spelled_complete text ts s = tokens_complete text ts s (length text) (omega arith)
