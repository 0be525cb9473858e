-- A text spells one selector at most, and the reading finds it.
use Rattle.std.proofs.Common.{◌≡◌, ℕ, suc, ◌+◌, Bool, true, false, cond, not, ◌&&◌, ◌||◌, ◌==◌, List, [], ◌∷◌, ◌++◌, length, take, append-nil, nat_le, Option, Some, None, refl, sym, ap, ◌∙◌, subst, arith}
use Rattle.std.specs.List.{list_all, prefix_len}
use Rattle.std.specs.Option.{option_and_then, option_map}
use Rattle.std.specs.Cmp.Derive.{both_true}
use Rattle.std.proofs.lemmas.Bool.{and_parts}
use Rattle.std.proofs.lemmas.Bool.Decides.{nat_tests}
use Rattle.fx_text.specs.Classes.{is_letter, is_white}
use Rattle.fx_css_types.specs.declared.selectors.Combinator.{Combinator}
use Rattle.fx_css_types.specs.declared.selectors.Combinator.TheVariants.{Descendant, Child}
use Rattle.fx_css_types.specs.declared.selectors.Compound.{Compound}
use Rattle.fx_css_types.specs.declared.selectors.Selector.{Selector}
use Rattle.fx_text.proofs.FrontLemmas.{front_and_behind, front-stop, behind-stop, behind_stops, then_gives, map_gives, bind_gives}
use Rattle.fx_text.specs.Identifiers.{behind_dash, is_later, is_style_word}
use Rattle.fx_css_parts.specs.Texts.{is_ident}
use Rattle.fx_css_parts.specs.Selecting.{is_sign, Part, is_part, parts_text, compound, IsKind, unsaid, any, type, IsCompound, IsCombinator, white, child, AreLinked, end, link, selector, IsSelector, IsSelectors, not_sign, parts_at, is_any, kind_at, with_parts, compound_at, is_gap, not_gap, behind_sign, combinator_at, Link, links_at, link_at, linked_at, selector_at, selectors_in}
use Rattle.fx_text.proofs.TrimLemmas.{front_skip, front_all, front_cut}
use Rattle.fx_css_parts.proofs.SelectorLemmas.{behind_on, behind_here, parts_skip, parts_first, not_not, links_skip, links_first, linked_first}
use Rattle.fx_css_parts.proofs.SeparatedLaws.{IsReading, separated_read}
use Rattle.fx_text.specs.Fronts.{front, behind, stops}
use Rattle.fx_text.specs.Trimming.{trim_front}

-- the characters of identifiers

later_letter : (c : ℕ) → is_letter c ≡ true → is_later c ≡ true
later_letter c e = ap (λ b. (b || (nat_le 48 c && nat_le c 57)) || (c == 45)) e

word_later : (text : List ℕ) → is_style_word text ≡ true → list_all is_later text ≡ true
word_later [] h = refl
word_later (c ∷ cs) h =
    let both = and_parts (is_letter c) (list_all is_later cs) h in
    both_true (later_letter c both.0) both.1

dash_later : (c : ℕ) → (c == 45) ≡ true → is_later c ≡ true
dash_later c e = grind (arith, nat_tests, e)

dashed_later : (c : ℕ) (cs : List ℕ) (b : Bool) → (c == 45) ≡ b → is_style_word (cond b cs (c ∷ cs)) ≡ true → list_all is_later (c ∷ cs) ≡ true
dashed_later c cs true e h = both_true (dash_later c e) (word_later cs h)
dashed_later c cs false e h = word_later (c ∷ cs) h

pub ident_later : (text : List ℕ) → is_ident text ≡ true → list_all is_later text ≡ true
ident_later [] h = refl
ident_later (c ∷ cs) h = dashed_later c cs (c == 45) refl (and_parts (is_style_word (behind_dash (c ∷ cs))) (nat_le (length (c ∷ cs)) 4096) h).0

pub all_more : (p q : ℕ → Bool) → ((c : ℕ) → p c ≡ true → q c ≡ true) → (text : List ℕ) → list_all p text ≡ true → list_all q text ≡ true
all_more p q f [] h = refl
all_more p q f (c ∷ cs) h =
    let both = and_parts (p c) (list_all p cs) h in
    both_true (f c both.0) (all_more p q f cs both.1)

later_not_sign : (c : ℕ) → is_later c ≡ true → not_sign c ≡ true
later_not_sign c e = grind (arith, nat_tests, e)

later_not_gap : (c : ℕ) → is_later c ≡ true → not_gap c ≡ true
later_not_gap c e = grind (arith, nat_tests, e)

sign_not_gap : (c : ℕ) → is_sign c ≡ true → not_gap c ≡ true
sign_not_gap c e = grind (arith, nat_tests, e)

later_not_star : (c : ℕ) → is_later c ≡ true → (c == 42) ≡ false
later_not_star c e = grind (arith, nat_tests, e)

ident_no_sign : (text : List ℕ) → is_ident text ≡ true → list_all not_sign text ≡ true
ident_no_sign text h = all_more is_later not_sign later_not_sign text (ident_later text h)

ident_no_gap : (text : List ℕ) → is_ident text ≡ true → list_all not_gap text ≡ true
ident_no_gap text h = all_more is_later not_gap later_not_gap text (ident_later text h)

ident_not_any : (text : List ℕ) → is_ident text ≡ true → is_any text ≡ false
ident_not_any [] h = sym h
ident_not_any (c ∷ []) h = later_not_star c (and_parts (is_later c) true (ident_later (c ∷ []) h)).0
ident_not_any (c ∷ d ∷ cs) h = refl

pub all_append : (p : ℕ → Bool) (xs ys : List ℕ) → list_all p xs ≡ true → list_all p ys ≡ true → list_all p (xs ++ ys) ≡ true
all_append p [] ys h g = g
all_append p (x ∷ xs) ys h g =
    let both = and_parts (p x) (list_all p xs) h in
    both_true both.0 (all_append p xs ys both.1 g)

-- compounds

kind_no_sign : (word : List ℕ) (kind : Option (List ℕ)) → IsKind word kind → list_all not_sign word ≡ true
kind_no_sign word kind unsaid = refl
kind_no_sign word kind any = refl
kind_no_sign word kind (type name i) = ident_no_sign name i

kind_no_gap : (word : List ℕ) (kind : Option (List ℕ)) → IsKind word kind → list_all not_gap word ≡ true
kind_no_gap word kind unsaid = refl
kind_no_gap word kind any = refl
kind_no_gap word kind (type name i) = ident_no_gap name i

kind_read : (word : List ℕ) (kind : Option (List ℕ)) → IsKind word kind → kind_at word ≡ Some kind
kind_read word kind unsaid = refl
kind_read word kind any = refl
kind_read word kind (type name i) =
    ap (λ b. cond b (Some None) (cond (is_ident name) (Some (Some name)) None)) (ident_not_any name i)
    ∙ ap (λ b. cond b (Some (Some name)) None) i

kind_named : (word : List ℕ) (kind : Option (List ℕ)) → cond (is_ident word) (Some (Some word)) None ≡ Some kind → IsKind word kind
kind_named word kind e =
    let h = then_gives (is_ident word) (Some (Some word)) kind e in
    let same : Some word ≡ kind = cc in
    subst (λ k. IsKind word k) same (type word h.0)

star_kind : (c : ℕ) (kind : Option (List ℕ)) (b : Bool) → (c == 42) ≡ b → cond b (Some None) (cond (is_ident (c ∷ [])) (Some (Some (c ∷ []))) None) ≡ Some kind → IsKind (c ∷ []) kind
star_kind c kind true s e =
    let star : c ≡ 42 = grind (arith, nat_tests, s) in
    let none : None ≡ kind = cc in
    subst (λ k. IsKind (c ∷ []) k) none (subst (λ x. IsKind (x ∷ []) None) (sym star) any)
star_kind c kind false s e = kind_named (c ∷ []) kind e

kind_sound : (word : List ℕ) (kind : Option (List ℕ)) → kind_at word ≡ Some kind → IsKind word kind
kind_sound [] kind e = let none : None ≡ kind = cc in subst (λ k. IsKind [] k) none unsaid
kind_sound (c ∷ []) kind e = star_kind c kind (c == 42) refl e
kind_sound (c ∷ d ∷ cs) kind e = kind_named (c ∷ d ∷ cs) kind e

parts_stop : (ps : List Part) → list_all is_part ps ≡ true → stops not_sign (parts_text ps) ≡ true
parts_stop [] h = refl
parts_stop (p ∷ ps) h =
    let sign = (and_parts (is_sign p.sign) (is_ident p.name) (and_parts (is_part p) (list_all is_part ps) h).0).0 in
    ap (λ b. not (not b)) sign

parts_read : (ps : List Part) → list_all is_part ps ≡ true → parts_at (parts_text ps) ≡ ps
parts_read [] h = refl
parts_read (p ∷ ps) h =
    let both = and_parts (is_part p) (list_all is_part ps) h in
    let good = and_parts (is_sign p.sign) (is_ident p.name) both.0 in
    let clear = ident_no_sign p.name good.1 in
    let stop = parts_stop ps both.1 in
    parts_first p.sign (p.name ++ parts_text ps) good.0
    ∙ ap (λ y. (record { sign = p.sign; name = y }) ∷ parts_at (behind not_sign (p.name ++ parts_text ps))) (front-stop not_sign p.name (parts_text ps) clear stop)
    ∙ ap (λ y. p ∷ parts_at y) (behind-stop not_sign p.name (parts_text ps) clear stop)
    ∙ ap (λ y. p ∷ y) (parts_read ps both.1)

parts_no_gap : (ps : List Part) → list_all is_part ps ≡ true → list_all not_gap (parts_text ps) ≡ true
parts_no_gap [] h = refl
parts_no_gap (p ∷ ps) h =
    let both = and_parts (is_part p) (list_all is_part ps) h in
    let good = and_parts (is_sign p.sign) (is_ident p.name) both.0 in
    both_true (sign_not_gap p.sign good.0) (all_append not_gap p.name (parts_text ps) (ident_no_gap p.name good.1) (parts_no_gap ps both.1))

behind_written_by : (c : ℕ) (cs : List ℕ) (b : Bool) → is_sign c ≡ b → behind not_sign cs ≡ parts_text (parts_at cs) → behind not_sign (c ∷ cs) ≡ parts_text (parts_at (c ∷ cs))
behind_written_by c cs true e h =
    behind_here not_sign c cs (ap not e)
    ∙ ap (λ y. c ∷ y) (front_and_behind not_sign cs ∙ ap (λ y. front not_sign cs ++ y) h)
    ∙ sym (ap (λ b. parts_text (cond b ((record { sign = c; name = front not_sign cs }) ∷ parts_at cs) (parts_at cs))) e)
behind_written_by c cs false e h =
    behind_on not_sign c cs (ap not e) ∙ h
    ∙ sym (ap (λ b. parts_text (cond b ((record { sign = c; name = front not_sign cs }) ∷ parts_at cs) (parts_at cs))) e)

behind_written : (text : List ℕ) → behind not_sign text ≡ parts_text (parts_at text)
behind_written [] = refl
behind_written (c ∷ cs) = behind_written_by c cs (is_sign c) refl (behind_written cs)

abbrev filled_at : Option Combinator → List ℕ → Option Compound
filled_at combinator text = option_and_then (with_parts combinator (parts_at text)) (kind_at (front not_sign text))

filled : (combinator : Option Combinator) (text : List ℕ) → (text ≡ [] → ⊥) → compound_at combinator text ≡ filled_at combinator text
filled combinator [] n = absurd (n refl)
filled combinator (c ∷ cs) n = refl

pub compound_complete : (combinator : Option Combinator) (text : List ℕ) (c : Compound) → IsCompound combinator text c → compound_at combinator text ≡ Some c
compound_complete combinator text c h =
    let clear = kind_no_sign h.word h.kind h.is_kind in
    let stop = parts_stop h.behind_word h.are_parts in
    let word : front not_sign text ≡ h.word = ap (front not_sign) h.parts ∙ front-stop not_sign h.word (parts_text h.behind_word) clear stop in
    let others : parts_at text ≡ h.behind_word = parts_skip text ∙ ap parts_at (ap (behind not_sign) h.parts ∙ behind-stop not_sign h.word (parts_text h.behind_word) clear stop) ∙ parts_read h.behind_word h.are_parts in
    filled combinator text h.some
    ∙ ap (λ y. option_and_then (with_parts combinator y) (kind_at (front not_sign text))) others
    ∙ ap (λ y. option_and_then (with_parts combinator h.behind_word) y) (ap kind_at word ∙ kind_read h.word h.kind h.is_kind)
    ∙ ap (λ b. cond b (Some (compound combinator h.kind h.behind_word)) None) h.are_parts
    ∙ ap (λ y. Some y) (sym h.value)

pub compound_sound : (combinator : Option Combinator) (text : List ℕ) (c : Compound) → compound_at combinator text ≡ Some c → IsCompound combinator text c
compound_sound combinator [] c e = absurd (cc)
compound_sound combinator (x ∷ xs) c e =
    let k = bind_gives (with_parts combinator (parts_at (x ∷ xs))) (kind_at (front not_sign (x ∷ xs))) c e in
    let good = then_gives (list_all is_part (parts_at (x ∷ xs))) (Some (compound combinator k.0 (parts_at (x ∷ xs)))) c k.2 in
    record {
      word = front not_sign (x ∷ xs);
      kind = k.0;
      behind_word = parts_at (x ∷ xs);
      parts = front_and_behind not_sign (x ∷ xs) ∙ ap (λ y. front not_sign (x ∷ xs) ++ y) (behind_written (x ∷ xs));
      some = λ n. cc;
      is_kind = kind_sound (front not_sign (x ∷ xs)) k.0 k.1;
      are_parts = good.0;
      value = cc;
    }

compound_no_gap : (combinator : Option Combinator) (text : List ℕ) (c : Compound) → IsCompound combinator text c → list_all not_gap text ≡ true
compound_no_gap combinator text c h =
    ap (list_all not_gap) h.parts
    ∙ all_append not_gap h.word (parts_text h.behind_word) (kind_no_gap h.word h.kind h.is_kind) (parts_no_gap h.behind_word h.are_parts)

-- combinators

combinator_complete : (gap : List ℕ) (k : Combinator) → IsCombinator gap k → combinator_at gap ≡ Some k
combinator_complete gap k (white t some w) = ap behind_sign (front_all t w)
combinator_complete gap k (child t before after e b a) =
    ap combinator_at e ∙ ap behind_sign (front_skip before (62 ∷ after) b)
    ∙ ap (λ y. cond (true && y) (Some Child) None) a

sign_is : (c : ℕ) → (c == 62) ≡ true → c ≡ 62
sign_is c e = grind (arith, nat_tests, e)

combinator_by : (gap before rest : List ℕ) (k : Combinator) → (gap ≡ [] → ⊥) → gap ≡ before ++ rest → list_all is_white before ≡ true → behind_sign rest ≡ Some k → IsCombinator gap k
combinator_by gap before [] k n e w h =
    let same : Descendant ≡ k = cc in
    subst (λ y. IsCombinator gap y) same (white gap n (ap (list_all is_white) (e ∙ append-nil before) ∙ w))
combinator_by gap before (c ∷ cs) k n e w h =
    let good = then_gives ((c == 62) && list_all is_white cs) (Some Child) k h in
    let both = and_parts (c == 62) (list_all is_white cs) good.0 in
    let same : Child ≡ k = cc in
    subst (λ y. IsCombinator gap y) same (child gap before cs (e ∙ ap (λ y. before ++ (y ∷ cs)) (sign_is c both.0)) w both.1)

combinator_sound : (gap : List ℕ) (k : Combinator) → (gap ≡ [] → ⊥) → combinator_at gap ≡ Some k → IsCombinator gap k
combinator_sound gap k n e = let cut = front_cut gap in combinator_by gap cut.before (trim_front gap) k n cut.parts cut.white e

pub white_gap : (c : ℕ) → is_white c ≡ true → is_gap c ≡ true
white_gap c e = ap (λ b. b || (c == 62)) e

pub combinator_gap : (gap : List ℕ) (k : Combinator) → IsCombinator gap k → list_all is_gap gap ≡ true
combinator_gap gap k (white t some w) = all_more is_white is_gap white_gap t w
combinator_gap gap k (child t before after e b a) =
    ap (list_all is_gap) e ∙ all_append is_gap before (62 ∷ after) (all_more is_white is_gap white_gap before b) (all_more is_white is_gap white_gap after a)

child_some : (before after : List ℕ) → before ++ (62 ∷ after) ≡ [] → ⊥
child_some [] after e = cc
child_some (x ∷ xs) after e = cc

pub combinator_some : (gap : List ℕ) (k : Combinator) → IsCombinator gap k → gap ≡ [] → ⊥
combinator_some gap k (white t some w) n = some n
combinator_some gap k (child t before after e b a) n = child_some before after (sym e ∙ n)

-- selectors

some_length : (text : List ℕ) → (text ≡ [] → ⊥) → (length text == 0) ≡ false
some_length [] n = absurd (n refl)
some_length (c ∷ cs) n = suc_length (length cs)
  where
    suc_length : (n : ℕ) → (suc n == 0) ≡ false
    suc_length n = grind (arith, nat_tests)

gap_first : (gap rest : List ℕ) → (gap ≡ [] → ⊥) → list_all is_gap gap ≡ true → stops not_gap (gap ++ rest) ≡ true
gap_first [] rest n h = absurd (n refl)
gap_first (c ∷ cs) rest n h = ap (λ b. not (not b)) (and_parts (is_gap c) (list_all is_gap cs) h).0

word_first : (word rest : List ℕ) → (word ≡ [] → ⊥) → list_all not_gap word ≡ true → stops is_gap (word ++ rest) ≡ true
word_first [] rest n h = absurd (n refl)
word_first (c ∷ cs) rest n h = (and_parts (not_gap c) (list_all not_gap cs) h).0

append_some : (gap rest : List ℕ) → (gap ≡ [] → ⊥) → gap ++ rest ≡ [] → ⊥
append_some [] rest n e = n refl
append_some (c ∷ cs) rest n e = cc

linked_stops : (text : List ℕ) (cs : List Compound) → AreLinked text cs → stops not_gap text ≡ true
linked_stops text cs end = refl
linked_stops text cs (link t gap word rest k c more e g w r) =
    ap (stops not_gap) e ∙ gap_first gap (word ++ rest) (combinator_some gap k g) (combinator_gap gap k g)

linked_complete : (text : List ℕ) (cs : List Compound) → AreLinked text cs → linked_at (links_at false text) ≡ Some cs
linked_complete text cs end = refl
linked_complete text cs (link t gap word rest k c more e g w r) =
    let all = combinator_gap gap k g in
    let clear = compound_no_gap (Some k) word c w in
    let begins = word_first word rest w.some clear in
    let stop = linked_stops rest more r in
    let gap_is : front is_gap t ≡ gap = ap (front is_gap) e ∙ front-stop is_gap gap (word ++ rest) all begins in
    let after : behind is_gap t ≡ word ++ rest = ap (behind is_gap) e ∙ behind-stop is_gap gap (word ++ rest) all begins in
    let word_is : front not_gap (behind is_gap t) ≡ word = ap (front not_gap) after ∙ front-stop not_gap word rest clear stop in
    let rest_is : behind not_gap (behind is_gap t) ≡ rest = ap (behind not_gap) after ∙ behind-stop not_gap word rest clear stop in
    let some : t ≡ [] → ⊥ = λ n. append_some gap (word ++ rest) (combinator_some gap k g) (sym e ∙ n) in
    let linked : link_at (record { gap = front is_gap t; word = front not_gap (behind is_gap t) }) ≡ Some c =
    ap (λ y. link_at (record { gap = y; word = front not_gap (behind is_gap t) })) gap_is
    ∙ ap (λ y. link_at (record { gap = gap; word = y })) word_is
    ∙ ap (λ y. option_and_then (λ combinator. compound_at (Some combinator) word) y) (combinator_complete gap k g)
    ∙ compound_complete (Some k) word c w in
    linked_first t (some_length t some) (ap (stops not_gap) e ∙ gap_first gap (word ++ rest) (combinator_some gap k g) all)
    ∙ ap (λ y. option_and_then (λ x. option_map (λ xs. x ∷ xs) (linked_at (links_at false (behind not_gap (behind is_gap t))))) y) linked
    ∙ ap (λ y. option_map (λ xs. c ∷ xs) (linked_at (links_at false y))) rest_is
    ∙ ap (λ y. option_map (λ xs. c ∷ xs) y) (linked_complete rest more r)

front_by : (test : ℕ → Bool) (c : ℕ) (cs : List ℕ) (b : Bool) → take (cond b (1 + prefix_len test cs) 0) (c ∷ cs) ≡ cond b (c ∷ front test cs) []
front_by test c cs true =
    let one : 1 + prefix_len test cs ≡ suc (prefix_len test cs) = omega arith in
    rw one refl
front_by test c cs false = refl

gap_some : (text : List ℕ) → (length text == 0) ≡ false → stops not_gap text ≡ true → front is_gap text ≡ [] → ⊥
gap_some [] n s e = cc
gap_some (c ∷ cs) n s e =
    let gap : is_gap c ≡ true = not_not (is_gap c) s in
    let first : front is_gap (c ∷ cs) ≡ c ∷ front is_gap cs = front_by is_gap c cs (is_gap c) ∙ ap (λ b. cond b (c ∷ front is_gap cs) []) gap in
    let both : c ∷ front is_gap cs ≡ [] = sym first ∙ e in
    cc

abbrev Sound : List Link → Type 0
Sound ls = (text : List ℕ) (cs : List Compound) → links_at false text ≡ ls → stops not_gap text ≡ true → linked_at ls ≡ Some cs → AreLinked text cs

step_sound : (l : Link) (ls : List Link) (text : List ℕ) (cs : List Compound) (b : Bool) → (length text == 0) ≡ b → links_at false text ≡ l ∷ ls → stops not_gap text ≡ true → linked_at (l ∷ ls) ≡ Some cs → Sound ls → AreLinked text cs
step_sound l ls [] cs b n e s h ih = absurd (cc)
step_sound l ls (x ∷ xs) cs true n e s h ih = absurd (let other = some_length (x ∷ xs) (λ y. cc) in cc)
step_sound l ls (x ∷ xs) cs false n e s h ih =
    let text = x ∷ xs in
    let cut : (record { gap = front is_gap text; word = front not_gap (behind is_gap text) }) ∷ links_at false (behind not_gap (behind is_gap text)) ≡ l ∷ ls = sym (links_first text n s) ∙ e in
    let first : l ≡ record { gap = front is_gap text; word = front not_gap (behind is_gap text) } = cc in
    let others : links_at false (behind not_gap (behind is_gap text)) ≡ ls = cc in
    let c = bind_gives (λ c. option_map (λ cs. c ∷ cs) (linked_at ls)) (link_at l) cs h in
    let more = map_gives (λ cs. c.0 ∷ cs) (linked_at ls) cs c.2 in
    let k = bind_gives (λ combinator. compound_at (Some combinator) l.word) (combinator_at l.gap) c.0 c.1 in
    let gap : combinator_at (front is_gap text) ≡ Some k.0 = ap (λ y. combinator_at y.gap) (sym first) ∙ k.1 in
    let word : compound_at (Some k.0) (front not_gap (behind is_gap text)) ≡ Some c.0 = ap (λ y. compound_at (Some k.0) y.word) (sym first) ∙ k.2 in
    subst (λ ys. AreLinked text ys) more.2
    (link text (front is_gap text) (front not_gap (behind is_gap text)) (behind not_gap (behind is_gap text)) k.0 c.0 more.0
    (front_and_behind is_gap text ∙ ap (λ y. front is_gap text ++ y) (front_and_behind not_gap (behind is_gap text)))
    (combinator_sound (front is_gap text) k.0 (gap_some text n s) gap)
    (compound_sound (Some k.0) (front not_gap (behind is_gap text)) c.0 word)
    (ih (behind not_gap (behind is_gap text)) more.0 others (behind_stops not_gap (behind is_gap text)) more.1))

none_sound : (text : List ℕ) (cs : List Compound) (b : Bool) → (length text == 0) ≡ b → links_at false text ≡ [] → stops not_gap text ≡ true → linked_at [] ≡ Some cs → AreLinked text cs
none_sound [] cs b n e s h = let none : [] ≡ cs = cc in subst (λ ys. AreLinked [] ys) none end
none_sound (x ∷ xs) cs true n e s h = absurd (let other = some_length (x ∷ xs) (λ y. cc) in cc)
none_sound (x ∷ xs) cs false n e s h = absurd (let cut = sym (links_first (x ∷ xs) n s) ∙ e in cc)

linked_sound : (ls : List Link) → Sound ls
linked_sound [] = λ text cs e s h. none_sound text cs (length text == 0) refl e s h
linked_sound (l ∷ ls) = λ text cs e s h. step_sound l ls text cs (length text == 0) refl e s h (linked_sound ls)

abbrev joined_at : Compound → List ℕ → Option Selector
joined_at first rest = option_map (λ others. selector (first ∷ others)) (linked_at (links_at false rest))

selector_complete : (text : List ℕ) (s : Selector) → IsSelector text s → selector_at text ≡ Some s
selector_complete text s h =
    let clear = compound_no_gap None h.word h.first h.is_first in
    let stop = linked_stops h.rest h.others h.are_others in
    let word : front not_gap text ≡ h.word = ap (front not_gap) h.parts ∙ front-stop not_gap h.word h.rest clear stop in
    let rest : behind not_gap text ≡ h.rest = ap (behind not_gap) h.parts ∙ behind-stop not_gap h.word h.rest clear stop in
    ap (λ y. option_and_then (λ first. joined_at first text) y) (ap (compound_at None) word ∙ compound_complete None h.word h.first h.is_first)
    ∙ ap (λ y. option_map (λ others. selector (h.first ∷ others)) (linked_at y)) (links_skip text ∙ ap (links_at false) rest)
    ∙ ap (λ y. option_map (λ others. selector (h.first ∷ others)) y) (linked_complete h.rest h.others h.are_others)
    ∙ ap (λ y. Some y) (sym h.value)

selector_sound : (text : List ℕ) (s : Selector) → selector_at text ≡ Some s → IsSelector text s
selector_sound text s e =
    let first = bind_gives (λ first. joined_at first text) (compound_at None (front not_gap text)) s e in
    let others = map_gives (λ others. selector (first.0 ∷ others)) (linked_at (links_at false text)) s first.2 in
    record {
      word = front not_gap text;
      rest = behind not_gap text;
      first = first.0;
      others = others.0;
      parts = front_and_behind not_gap text;
      is_first = compound_sound None (front not_gap text) first.0 first.1;
      are_others = linked_sound (links_at false (behind not_gap text)) (behind not_gap text) others.0 refl (behind_stops not_gap text) (ap linked_at (sym (links_skip text)) ∙ others.1);
      value = sym others.2;
    }

pub selectors_read : IsReading IsSelectors selectors_in
selectors_read = separated_read IsSelector selector_at (record { sound = selector_sound; complete = selector_complete })
