-- How the loops over compounds and over combinators go on.
use Rattle.std.proofs.Common.{◌≡◌, ℕ, suc, ◌+◌, Bool, true, false, cond, not, ◌&&◌, ◌==◌, List, [], ◌∷◌, ◌++◌, length, drop, append_assoc, Option, Some, None, refl, sym, ap, ◌∙◌, subst, arith, Result, Ok, Err, IfOk}
use Rattle.std.specs.List.{list_all, prefix_len}
use Rattle.std.specs.Option.{option_and_then, option_map}
use Rattle.std.proofs.lemmas.Bool.{and_from}
use Rattle.std.proofs.lemmas.Bool.Decides.{nat_tests}
use Rattle.fx_css_types.specs.declared.selectors.Combinator.{Combinator}
use Rattle.fx_css_types.specs.declared.selectors.Compound.{Compound}
use Rattle.fx_text.proofs.FrontLemmas.{behind_stops, map_gives, then_gives}
use Rattle.fx_css_parts.specs.Texts.{is_ident, ident_at}
use Rattle.fx_css_parts.specs.Selecting.{Part, is_sign, is_part, not_sign, parts_at, names_behind, with_parts, kind_at, is_gap, not_gap, links_at, link_at, linked_at, combinator_at, compound_at, selector, selector_at}
use Rattle.fx_css_parts.specs.Drafts.{nameless, with_one, with_names, names_of}
use Rattle.fx_text.specs.Fronts.{front, behind, stops}

-- fronts

behind_by : (test : ℕ → Bool) (c : ℕ) (cs : List ℕ) (b : Bool) → drop (cond b (1 + prefix_len test cs) 0) (c ∷ cs) ≡ cond b (behind test cs) (c ∷ cs)
behind_by test c cs true =
    let one : 1 + prefix_len test cs ≡ suc (prefix_len test cs) = omega arith in
    rw one refl
behind_by test c cs false = refl

pub behind_on : (test : ℕ → Bool) (c : ℕ) (cs : List ℕ) → test c ≡ true → behind test (c ∷ cs) ≡ behind test cs
behind_on test c cs e = behind_by test c cs (test c) ∙ ap (λ b. cond b (behind test cs) (c ∷ cs)) e

pub behind_here : (test : ℕ → Bool) (c : ℕ) (cs : List ℕ) → test c ≡ false → behind test (c ∷ cs) ≡ c ∷ cs
behind_here test c cs e = behind_by test c cs (test c) ∙ ap (λ b. cond b (behind test cs) (c ∷ cs)) e

pub stops_at : (test : ℕ → Bool) (text rest : List ℕ) → rest ≡ behind test text → stops test rest ≡ true
stops_at test text rest e = ap (λ y. stops test y) e ∙ behind_stops test text

-- the parts of a compound

parts_skip_by : (c : ℕ) (cs : List ℕ) (b : Bool) → is_sign c ≡ b → parts_at cs ≡ parts_at (behind not_sign cs) → parts_at (c ∷ cs) ≡ parts_at (behind not_sign (c ∷ cs))
parts_skip_by c cs true e h = ap parts_at (sym (behind_here not_sign c cs (ap not e)))
parts_skip_by c cs false e h =
    ap (λ b. cond b ((record { sign = c; name = front not_sign cs }) ∷ parts_at cs) (parts_at cs)) e
    ∙ h ∙ ap parts_at (sym (behind_on not_sign c cs (ap not e)))

pub parts_skip : (text : List ℕ) → parts_at text ≡ parts_at (behind not_sign text)
parts_skip [] = refl
parts_skip (c ∷ cs) = parts_skip_by c cs (is_sign c) refl (parts_skip cs)

pub not_not : (b : Bool) → not (not b) ≡ true → b ≡ true
not_not true e = refl
not_not false e = e

pub parts_first : (c : ℕ) (cs : List ℕ) → is_sign c ≡ true → parts_at (c ∷ cs) ≡ (record { sign = c; name = front not_sign cs }) ∷ parts_at (behind not_sign cs)
parts_first c cs e =
    let p : Part = record { sign = c; name = front not_sign cs } in
    ap (λ b. cond b (p ∷ parts_at cs) (parts_at cs)) e ∙ ap (λ y. p ∷ y) (parts_skip cs)

names_append : (sign : ℕ) (p : Part) (ps : List Part) → names_behind sign (p ∷ ps) ≡ names_behind sign (p ∷ []) ++ names_behind sign ps
names_append sign p ps = names_append_by (p.sign == sign)
  where
    names_append_by : (b : Bool) → cond b (p.name ∷ names_behind sign ps) (names_behind sign ps) ≡ cond b (p.name ∷ []) [] ++ names_behind sign ps
    names_append_by true = refl
    names_append_by false = refl

names_on : (xs : List (List ℕ)) (sign : ℕ) (p : Part) (ps : List Part) → xs ++ names_behind sign (p ∷ ps) ≡ (xs ++ names_behind sign (p ∷ [])) ++ names_behind sign ps
names_on xs sign p ps = ap (λ y. xs ++ y) (names_append sign p ps) ∙ sym (append_assoc xs (names_behind sign (p ∷ [])) (names_behind sign ps))

with_more : (n : Compound) (p : Part) (ps : List Part) → with_names (with_names n (p ∷ [])) ps ≡ with_names n (p ∷ ps)
with_more n p ps =
    rw (names_on n.classes 46 p ps, names_on n.ids 35 p ps, names_on n.pseudos 58 p ps) refl

names_more : (n : Compound) (p : Part) (ps : List Part) → is_part p ≡ true → names_of (with_names n (p ∷ [])) ps ≡ names_of n (p ∷ ps)
names_more n p ps e =
    ap (λ y. cond (list_all is_part ps) (Some y) None) (with_more n p ps)
    ∙ ap (λ b. cond (b && list_all is_part ps) (Some (with_names n (p ∷ ps))) None) (sym e)

pub names_turn : (n m : Compound) (c : ℕ) (cs name rest : List ℕ) → stops not_sign (c ∷ cs) ≡ true → Some name ≡ ident_at (front not_sign cs)
    → m ≡ with_names n ((record { sign = c; name = name }) ∷ []) → rest ≡ behind not_sign cs → names_of m (parts_at rest) ≡ names_of n (parts_at (c ∷ cs))
names_turn n m c cs name rest s i e r =
    let sign : is_sign c ≡ true = not_not (is_sign c) s in
    let ident = then_gives (is_ident (front not_sign cs)) (Some (front not_sign cs)) name (sym i) in
    let same : front not_sign cs ≡ name = cc in
    let p : Part = record { sign = c; name = name } in
    let good : is_part p ≡ true = and_from (is_sign c) (is_ident name) sign (subst (λ y. is_ident y ≡ true) same ident.0) in
    ap (λ y. names_of y (parts_at rest)) e ∙ names_more n p (parts_at rest) good
    ∙ ap (λ y. names_of n (p ∷ parts_at y)) r
    ∙ ap (λ y. names_of n ((record { sign = c; name = y }) ∷ parts_at (behind not_sign cs))) (sym same)
    ∙ ap (λ y. names_of n y) (sym (parts_first c cs sign))

pub named_turn : (n m : Compound) (c : ℕ) (cs word rest : List ℕ) (named : Bool) → named ≡ true → stops not_sign (c ∷ cs) ≡ true → word ≡ front not_sign cs
    → with_one named m ≡ option_map (λ name. with_names n ((record { sign = c; name = name }) ∷ [])) (ident_at word) → rest ≡ behind not_sign cs → names_of m (parts_at rest) ≡ names_of n (parts_at (c ∷ cs))
named_turn n m c cs word rest false f s w e r = absurd (cc)
named_turn n m c cs word rest true f s w e r =
    let found = map_gives (λ name. with_names n ((record { sign = c; name = name }) ∷ [])) (ident_at word) m (sym e) in
    names_turn n m c cs found.0 rest s (sym (ap ident_at (sym w) ∙ found.1)) (sym found.2) r

-- compounds

compound_names : (combinator : Option Combinator) (kind : Option (List ℕ)) (ps : List Part) → with_parts combinator ps kind ≡ names_of (nameless combinator kind) ps
compound_names combinator kind ps = refl

pub compound_is : (combinator : Option Combinator) (text rest : List ℕ) (kind : Option (List ℕ)) → (length text == 0) ≡ false → Some kind ≡ kind_at (front not_sign text) → rest ≡ behind not_sign text
    → names_of (nameless combinator kind) (parts_at rest) ≡ compound_at combinator text
compound_is combinator [] rest kind n e r = absurd (cc)
compound_is combinator (c ∷ cs) rest kind n e r =
    ap (λ y. names_of (nameless combinator kind) y) (ap parts_at r ∙ sym (parts_skip (c ∷ cs)))
    ∙ sym (compound_names combinator kind (parts_at (c ∷ cs)))
    ∙ ap (λ y. option_and_then (with_parts combinator (parts_at (c ∷ cs))) y) e

-- what was read behind the type
pub compound_found : (combinator : Option Combinator) (text rest : List ℕ) (kind : Option (List ℕ)) (start : Compound) (o : Option Compound) → (length text == 0) ≡ false
    → Some kind ≡ kind_at (front not_sign text) → rest ≡ behind not_sign text → start ≡ nameless combinator kind → o ≡ names_of start (parts_at rest) → o ≡ compound_at combinator text
compound_found combinator text rest kind start o n e r s h = h ∙ ap (λ y. names_of y (parts_at rest)) s ∙ compound_is combinator text rest kind n e r

-- what is put behind other compounds, and gets its names there

one_put : (done all : List Compound) (new : Compound) (named : Bool) → all ≡ done ++ (new ∷ [])
    → with_one named all ≡ option_map (λ c. done ++ (c ∷ [])) (with_one named new)
one_put done all new true e = ap Some e
one_put done all new false e = refl

pub compound_put : {E : Type 0} (combinator : Option Combinator) (text rest : List ℕ) (kind : Option (List ℕ))
    (start new : Compound) (done all : List Compound) (r : Result Bool E) → all ≡ done ++ (new ∷ [])
    → (length text == 0) ≡ false → Some kind ≡ kind_at (front not_sign text) → rest ≡ behind not_sign text
    → start ≡ nameless combinator kind → IfOk r (λ named. with_one named new ≡ names_of start (parts_at rest))
    → IfOk r (λ read. with_one read all ≡ option_map (λ c. done ++ (c ∷ [])) (compound_at combinator text))
compound_put combinator text rest kind start new done all (Ok named) a n e r s h =
    one_put done all new named a ∙ ap (option_map (λ c. done ++ (c ∷ [])))
    (compound_found combinator text rest kind start (with_one named new) n e r s h)
compound_put combinator text rest kind start new done all (Err x) a n e r s h = tt

-- what is put behind other compounds

pub compound_pushed : (done all : List Compound) (o : Option Compound) (read : Bool) → read ≡ true → with_one read all ≡ option_map (λ c. done ++ (c ∷ [])) o
    → (c : Compound) × (o ≡ Some c) × (done ++ (c ∷ []) ≡ all)
compound_pushed done all o false e w = absurd (cc)
compound_pushed done all o true e w = map_gives (λ c. done ++ (c ∷ [])) o all (sym w)

-- the compounds of a selector

links_word_by : (within : Bool) (c : ℕ) (cs : List ℕ) → is_gap c ≡ false → links_at within (c ∷ cs) ≡ links_at false cs
links_word_by within c cs e =
    ap (λ b. cond b (cond within (links_at true cs) ((record { gap = front is_gap (c ∷ cs); word = front not_gap (behind is_gap (c ∷ cs)) }) ∷ links_at true cs)) (links_at false cs)) e

links_gap : (c : ℕ) (cs : List ℕ) → is_gap c ≡ true → links_at true (c ∷ cs) ≡ links_at true cs
links_gap c cs e =
    ap (λ b. cond b (cond true (links_at true cs) ((record { gap = front is_gap (c ∷ cs); word = front not_gap (behind is_gap (c ∷ cs)) }) ∷ links_at true cs)) (links_at false cs)) e

links_begin : (c : ℕ) (cs : List ℕ) → is_gap c ≡ true → links_at false (c ∷ cs) ≡ (record { gap = front is_gap (c ∷ cs); word = front not_gap (behind is_gap (c ∷ cs)) }) ∷ links_at true cs
links_begin c cs e =
    ap (λ b. cond b (cond false (links_at true cs) ((record { gap = front is_gap (c ∷ cs); word = front not_gap (behind is_gap (c ∷ cs)) }) ∷ links_at true cs)) (links_at false cs)) e

links_skip_by : (c : ℕ) (cs : List ℕ) (b : Bool) → is_gap c ≡ b → links_at false cs ≡ links_at false (behind not_gap cs) → links_at false (c ∷ cs) ≡ links_at false (behind not_gap (c ∷ cs))
links_skip_by c cs true e h = ap (λ y. links_at false y) (sym (behind_here not_gap c cs (ap not e)))
links_skip_by c cs false e h = links_word_by false c cs e ∙ h ∙ ap (λ y. links_at false y) (sym (behind_on not_gap c cs (ap not e)))

pub links_skip : (text : List ℕ) → links_at false text ≡ links_at false (behind not_gap text)
links_skip [] = refl
links_skip (c ∷ cs) = links_skip_by c cs (is_gap c) refl (links_skip cs)

links_through_by : (c : ℕ) (cs : List ℕ) (b : Bool) → is_gap c ≡ b → links_at true cs ≡ links_at false (behind not_gap (behind is_gap cs)) → links_at true (c ∷ cs) ≡ links_at false (behind not_gap (behind is_gap (c ∷ cs)))
links_through_by c cs true e h = links_gap c cs e ∙ h ∙ ap (λ y. links_at false (behind not_gap y)) (sym (behind_on is_gap c cs e))
links_through_by c cs false e h =
    links_word_by true c cs e ∙ sym (links_word_by false c cs e) ∙ links_skip (c ∷ cs)
    ∙ ap (λ y. links_at false (behind not_gap y)) (sym (behind_here is_gap c cs e))

pub links_through : (text : List ℕ) → links_at true text ≡ links_at false (behind not_gap (behind is_gap text))
links_through [] = refl
links_through (c ∷ cs) = links_through_by c cs (is_gap c) refl (links_through cs)

-- a gap and a word, and what is behind them
pub links_first : (text : List ℕ) → (length text == 0) ≡ false → stops not_gap text ≡ true
    → links_at false text ≡ (record { gap = front is_gap text; word = front not_gap (behind is_gap text) }) ∷ links_at false (behind not_gap (behind is_gap text))
links_first [] n s = absurd (cc)
links_first (c ∷ cs) n s =
    let gap : is_gap c ≡ true = not_not (is_gap c) s in
    links_begin c cs gap
    ∙ ap (λ y. (record { gap = front is_gap (c ∷ cs); word = front not_gap (behind is_gap (c ∷ cs)) }) ∷ y) (links_through cs ∙ ap (λ y. links_at false (behind not_gap y)) (sym (behind_on is_gap c cs gap)))

pub linked_first : (text : List ℕ) → (length text == 0) ≡ false → stops not_gap text ≡ true
    → linked_at (links_at false text)
    ≡ option_and_then (λ c. option_map (λ cs. c ∷ cs) (linked_at (links_at false (behind not_gap (behind is_gap text)))))
    (link_at (record { gap = front is_gap text; word = front not_gap (behind is_gap text) }))
linked_first text n s = ap (λ y. linked_at y) (links_first text n s)

map_more : (done : List Compound) (x : Compound) (o : Option (List Compound)) → option_map (λ cs. (done ++ (x ∷ [])) ++ cs) o ≡ option_map (λ cs. done ++ cs) (option_map (λ cs. x ∷ cs) o)
map_more done x None = refl
map_more done x (Some cs) = ap (λ y. Some y) (append_assoc done (x ∷ []) cs)

pub links_turn : (done : List Compound) (text gap after rest : List ℕ) (k : Combinator) (x : Compound) → (length text == 0) ≡ false → stops not_gap text ≡ true
    → gap ≡ front is_gap text → after ≡ behind is_gap text → rest ≡ behind not_gap after → Some k ≡ combinator_at gap → Some x ≡ compound_at (Some k) (front not_gap after)
    → option_map (λ cs. (done ++ (x ∷ [])) ++ cs) (linked_at (links_at false rest)) ≡ option_map (λ cs. done ++ cs) (linked_at (links_at false text))
links_turn done text gap after rest k x n s g a r ek ex =
    let behind_both : rest ≡ behind not_gap (behind is_gap text) = r ∙ ap (λ y. behind not_gap y) a in
    let link : link_at (record { gap = front is_gap text; word = front not_gap (behind is_gap text) }) ≡ Some x =
    ap (λ y. option_and_then (λ combinator. compound_at (Some combinator) (front not_gap (behind is_gap text))) y) (sym (ek ∙ ap (λ y. combinator_at y) g))
    ∙ sym (ex ∙ ap (λ y. compound_at (Some k) (front not_gap y)) a) in
    map_more done x (linked_at (links_at false rest))
    ∙ ap (λ y. option_map (λ cs. done ++ cs) (option_map (λ cs. x ∷ cs) (linked_at (links_at false y)))) behind_both
    ∙ ap (λ y. option_map (λ cs. done ++ cs) y)
    (ap (λ y. option_and_then (λ c. option_map (λ cs. c ∷ cs) (linked_at (links_at false (behind not_gap (behind is_gap text))))) y) (sym link) ∙ sym (linked_first text n s))

links_none : (done : List Compound) (text : List ℕ) → (length text == 0) ≡ false → stops not_gap text ≡ true
    → link_at (record { gap = front is_gap text; word = front not_gap (behind is_gap text) }) ≡ None → None ≡ option_map (λ cs. done ++ cs) (linked_at (links_at false text))
links_none done text n s link =
    ap (λ y. option_map (λ cs. done ++ cs) y)
    (ap (λ y. option_and_then (λ c. option_map (λ cs. c ∷ cs) (linked_at (links_at false (behind not_gap (behind is_gap text))))) y) (sym link) ∙ sym (linked_first text n s))

not_zero : (n : ℕ) → (suc n == 0) ≡ true → ⊥
not_zero n e = grind (arith, nat_tests, e)

joined : (first : Compound) (o : Option (List Compound)) → option_map selector (option_map (λ cs. first ∷ cs) o) ≡ option_map (λ others. selector (first ∷ others)) o
joined first None = refl
joined first (Some cs) = refl

selector_is : (text word rest : List ℕ) (first : Compound) (done : List Compound) (o : Option (List Compound)) → word ≡ front not_gap text → rest ≡ behind not_gap text
    → Some first ≡ compound_at None word → done ≡ first ∷ [] → o ≡ option_map (λ cs. done ++ cs) (linked_at (links_at false rest)) → option_map selector o ≡ selector_at text
selector_is text word rest first done o w r e d h =
    ap (λ y. option_map selector y) (h ∙ ap (λ y. option_map (λ cs. y ++ cs) (linked_at (links_at false rest))) d)
    ∙ ap (λ y. option_map selector (option_map (λ cs. first ∷ cs) (linked_at y))) (ap (λ y. links_at false y) r ∙ sym (links_skip text))
    ∙ joined first (linked_at (links_at false text))
    ∙ ap (λ y. option_and_then (λ f. option_map (λ others. selector (f ∷ others)) (linked_at (links_at false text))) y) (e ∙ ap (λ y. compound_at None y) w)

pub selector_unread : (text word rest : List ℕ) (first : Compound) (done : List Compound) (o : Option (List Compound)) → word ≡ front not_gap text → rest ≡ behind not_gap text
    → Some first ≡ compound_at None word → done ≡ first ∷ [] → o ≡ option_map (λ cs. done ++ cs) (linked_at (links_at false rest)) → None ≡ o → None ≡ selector_at text
selector_unread text word rest first done o w r e d h none = ap (λ y. option_map selector y) none ∙ selector_is text word rest first done o w r e d h

pub selector_read : (text word rest : List ℕ) (first : Compound) (done : List Compound) (o : Option (List Compound)) → word ≡ front not_gap text → rest ≡ behind not_gap text
    → Some first ≡ compound_at None word → done ≡ first ∷ [] → o ≡ option_map (λ cs. done ++ cs) (linked_at (links_at false rest)) → (all : List Compound) → Some all ≡ o → Some (selector all) ≡ selector_at text
selector_read text word rest first done o w r e d h all some = ap (λ y. option_map selector y) some ∙ selector_is text word rest first done o w r e d h
