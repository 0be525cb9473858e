-- Where selectors are first past a limit.
-- Cited by the law of selectors.
use Rattle.std.proofs.Common.{◌≡◌, ℕ, zero, suc, ◌+◌, ◌<◌, ◌≤◌, Bool, true, false, cond, not, ◌&&◌, ◌==◌, List, [], ◌∷◌, ◌++◌, length, take, append_assoc, length-append, Option, Some, None, refl, sym, ap, ◌∙◌, subst, arith}
use Rattle.std.specs.List.{list_all, find}
use Rattle.std.specs.Cmp.Derive.{both_true}
use Rattle.std.proofs.lemmas.Bool.{and_parts}
use Rattle.std.proofs.lemmas.Bool.Decides.{nat_tests}
use Rattle.std.proofs.lemmas.List.{append-nil}
use Rattle.std.proofs.lemmas.List.Elements.{All-nil, All-cons}
use Rattle.fx_text.specs.Classes.{is_white}
use Rattle.fx_text.specs.Identifiers.{is_later}
use Rattle.fx_css_types.specs.declared.selectors.Combinator.{Combinator}
use Rattle.fx_css_types.specs.declared.selectors.Compound.{Compound}
use Rattle.fx_css_types.specs.declared.selectors.Selector.{Selector}
use Rattle.fx_css_parts.specs.Texts.{is_ident, IsBetweenWhite}
use Rattle.fx_css_parts.specs.Layers.{depth_after, depth_behind, is_one, separates, Separated, last, more}
use Rattle.fx_css_parts.specs.Selecting.{is_sign, Part, is_part, parts_text, IsKind, unsaid, any, type, IsCompound, IsCombinator, AreLinked, end, link, IsSelector, is_gap, not_gap, selector}
use Rattle.fx_css_parts.specs.Limits.{Start, starts, is_past}
use Rattle.fx_css_parts.proofs.SelectorLaws.{ident_later, all_more, all_append, white_gap, combinator_gap, combinator_some}
use Rattle.fx_css_laws.specs.Selectors.{IsBetween, IsFirstPast}
use Rattle.fx_css_laws.specs.Selectors.IsBetween.{at_selector, at_compound}

-- what stands in a compound
abbrev is_inner : ℕ → Bool
is_inner c = not (c == 44) && not_gap c

later_inner : (c : ℕ) → is_later c ≡ true → is_inner c ≡ true
later_inner c e = grind (arith, nat_tests, e)

sign_inner : (c : ℕ) → is_sign c ≡ true → is_inner c ≡ true
sign_inner c e = grind (arith, nat_tests, e)

ident_inner : (name : List ℕ) → is_ident name ≡ true → list_all is_inner name ≡ true
ident_inner name i = all_more is_later is_inner later_inner name (ident_later name i)

kind_inner : (word : List ℕ) (kind : Option (List ℕ)) → IsKind word kind → list_all is_inner word ≡ true
kind_inner word kind unsaid = refl
kind_inner word kind any = refl
kind_inner word kind (type name i) = ident_inner name i

parts_inner : (ps : List Part) → list_all is_part ps ≡ true → list_all is_inner (parts_text ps) ≡ true
parts_inner [] h = refl
parts_inner (p ∷ ps) h =
    let both = and_parts (is_part p) (list_all is_part ps) h in
    let good = and_parts (is_sign p.sign) (is_ident p.name) both.0 in
    both_true (sign_inner p.sign good.0) (all_append is_inner p.name (parts_text ps) (ident_inner p.name good.1) (parts_inner ps both.1))

compound_inner : (combinator : Option Combinator) (text : List ℕ) (c : Compound) → IsCompound combinator text c → list_all is_inner text ≡ true
compound_inner combinator text c h =
    ap (list_all is_inner) h.parts
    ∙ all_append is_inner h.word (parts_text h.behind_word) (kind_inner h.word h.kind h.is_kind) (parts_inner h.behind_word h.are_parts)

-- one byte

second : {A : Type 0} (a b : Bool) (x y z : A) → a ≡ false → b ≡ true → cond a x (cond b y z) ≡ y
second a b x y z e f = ap (λ v. cond v x (cond b y z)) e ∙ ap (λ v. cond v y z) f

third : {A : Type 0} (a b : Bool) (x y z : A) → a ≡ false → b ≡ false → cond a x (cond b y z) ≡ z
third a b x y z e f = ap (λ v. cond v x (cond b y z)) e ∙ ap (λ v. cond v y z) f

gap_no_comma : (c : ℕ) → is_gap c ≡ true → (c == 44) ≡ false
gap_no_comma c e = grind (arith, nat_tests, e)

inner_no_comma : (c : ℕ) → is_inner c ≡ true → (c == 44) ≡ false
inner_no_comma c e = grind (arith, nat_tests, e)

inner_no_gap : (c : ℕ) → is_inner c ≡ true → is_gap c ≡ false
inner_no_gap c e = grind (arith, nat_tests, e)

starts_gap : (within : Bool) (selector compound place c : ℕ) (cs : List ℕ) → is_gap c ≡ true → starts within selector compound place (c ∷ cs) ≡ starts false selector compound (place + 1) cs
starts_gap within selector compound place c cs e = second (c == 44) (is_gap c) _ _ _ (gap_no_comma c e) e

starts_inside : (selector compound place c : ℕ) (cs : List ℕ) → is_inner c ≡ true → starts true selector compound place (c ∷ cs) ≡ starts true selector compound (place + 1) cs
starts_inside selector compound place c cs e =
    third (c == 44) (is_gap c) (starts false (selector + 1) 0 (place + 1) cs) (starts false selector compound (place + 1) cs) _ (inner_no_comma c e) (inner_no_gap c e)

starts_new : (selector compound place c : ℕ) (cs : List ℕ) → is_inner c ≡ true
    → starts false selector compound place (c ∷ cs) ≡ (record { place = place; selector = selector; compound = compound }) ∷ starts true selector (compound + 1) (place + 1) cs
starts_new selector compound place c cs e =
    third (c == 44) (is_gap c) (starts false (selector + 1) 0 (place + 1) cs) (starts false selector compound (place + 1) cs) _ (inner_no_comma c e) (inner_no_gap c e)

-- gaps and words

one_on : (place : ℕ) (c : ℕ) (cs : List ℕ) → place + 1 + length cs ≡ place + length (c ∷ cs)
one_on place c cs = omega arith

starts_gaps : (selector compound place : ℕ) (gap text : List ℕ) → list_all is_gap gap ≡ true → starts false selector compound place (gap ++ text) ≡ starts false selector compound (place + length gap) text
starts_gaps selector compound place [] text all = ap (λ p. starts false selector compound p text) (let e : place ≡ place + 0 = omega arith in e)
starts_gaps selector compound place (c ∷ gap) text all =
    let both = and_parts (is_gap c) (list_all is_gap gap) all in
    starts_gap false selector compound place c (gap ++ text) both.0
    ∙ starts_gaps selector compound (place + 1) gap text both.1
    ∙ ap (λ p. starts false selector compound p text) (one_on place c gap)

-- a gap that isn't empty ends what stands before it
starts_behind_gap : (within : Bool) (selector compound place : ℕ) (gap text : List ℕ) → (gap ≡ [] → ⊥) → list_all is_gap gap ≡ true → starts within selector compound place (gap ++ text) ≡ starts false selector compound (place + length gap) text
starts_behind_gap within selector compound place [] text some all = absurd (some refl)
starts_behind_gap within selector compound place (c ∷ gap) text some all =
    let both = and_parts (is_gap c) (list_all is_gap gap) all in
    starts_gap within selector compound place c (gap ++ text) both.0
    ∙ starts_gaps selector compound (place + 1) gap text both.1
    ∙ ap (λ p. starts false selector compound p text) (one_on place c gap)

starts_word : (selector compound place : ℕ) (word text : List ℕ) → list_all is_inner word ≡ true → starts true selector compound place (word ++ text) ≡ starts true selector compound (place + length word) text
starts_word selector compound place [] text all = ap (λ p. starts true selector compound p text) (let e : place ≡ place + 0 = omega arith in e)
starts_word selector compound place (c ∷ word) text all =
    let both = and_parts (is_inner c) (list_all is_inner word) all in
    starts_inside selector compound place c (word ++ text) both.0
    ∙ starts_word selector compound (place + 1) word text both.1
    ∙ ap (λ p. starts true selector compound p text) (one_on place c word)

starts_compound : (selector compound place : ℕ) (word text : List ℕ) → (word ≡ [] → ⊥) → list_all is_inner word ≡ true
    → starts false selector compound place (word ++ text) ≡ (record { place = place; selector = selector; compound = compound }) ∷ starts true selector (compound + 1) (place + length word) text
starts_compound selector compound place [] text some all = absurd (some refl)
starts_compound selector compound place (c ∷ word) text some all =
    let both = and_parts (is_inner c) (list_all is_inner word) all in
    starts_new selector compound place c (word ++ text) both.0
    ∙ ap (λ l. (record { place = place; selector = selector; compound = compound }) ∷ l)
    (starts_word selector (compound + 1) (place + 1) word text both.1 ∙ ap (λ p. starts true selector (compound + 1) p text) (one_on place c word))

white_gaps : (white : List ℕ) → list_all is_white white ≡ true → list_all is_gap white ≡ true
white_gaps white all = all_more is_white is_gap white_gap white all

-- to the comma behind white, and to the end
to_comma : (within : Bool) (selector compound place : ℕ) (white rest : List ℕ) → list_all is_white white ≡ true → starts within selector compound place (white ++ (44 ∷ rest)) ≡ starts false (selector + 1) 0 (place + length white + 1) rest
to_comma within selector compound place [] rest all = ap (λ p. starts false (selector + 1) 0 (p + 1) rest) (let e : place ≡ place + 0 = omega arith in e)
to_comma within selector compound place (c ∷ white) rest all =
    let both = and_parts (is_white c) (list_all is_white white) all in
    starts_gap within selector compound place c (white ++ (44 ∷ rest)) (white_gap c both.0)
    ∙ to_comma false selector compound (place + 1) white rest both.1
    ∙ ap (λ p. starts false (selector + 1) 0 (p + 1) rest) (one_on place c white)

to_end : (within : Bool) (selector compound place : ℕ) (white : List ℕ) → list_all is_white white ≡ true → starts within selector compound place white ≡ []
to_end within selector compound place [] all = refl
to_end within selector compound place (c ∷ white) all =
    let both = and_parts (is_white c) (list_all is_white white) all in
    starts_gap within selector compound place c white (white_gap c both.0) ∙ to_end false selector compound (place + 1) white both.1

-- the first start past a limit

begun : ℕ → ℕ → ℕ → Start
begun selector compound place = record { place = place; selector = selector; compound = compound }

past_here : (s : Start) (l : List Start) → is_past s ≡ true → find is_past (s ∷ l) ≡ Some s
past_here s l e = ap (λ b. cond b (Some s) (find is_past l)) e

past_later : (s : Start) (l : List Start) → is_past s ≡ false → find is_past (s ∷ l) ≡ find is_past l
past_later s l e = ap (λ b. cond b (Some s) (find is_past l)) e

past_by_selector : (selector compound place : ℕ) → 64 ≤ selector → is_past (begun selector compound place) ≡ true
unfolding begun
past_by_selector selector compound place h = grind (arith, nat_tests, h)

past_by_compound : (selector compound place : ℕ) → 16 ≤ compound → is_past (begun selector compound place) ≡ true
unfolding begun
past_by_compound selector compound place h = grind (arith, nat_tests, h)

not_past : (selector compound place : ℕ) → selector < 64 → compound < 16 → is_past (begun selector compound place) ≡ false
unfolding begun
not_past selector compound place h k = grind (arith, nat_tests, h, k)

-- compounds behind their combinators

abbrev Found : ℕ → ℕ → List ℕ → List ℕ → ℕ → Start → Type 0
Found selector compound text tail place s = find is_past (starts true selector compound place (text ++ tail)) ≡ Some s

-- one more compound than are left is past the limit
record PastLinked (left : ℕ) (text : List ℕ) (cs : List Compound) (at : ℕ) : Type 0 where
  done : List ℕ
  gap : List ℕ
  first : ℕ
  others : List ℕ
  combinator : Combinator
  cut : text ≡ done ++ (gap ++ (first ∷ others))
  spells : AreLinked done (take left cs)
  is_between : IsCombinator gap combinator
  shown : is_gap first ≡ false
  many : left < length cs
  place : at ≡ length done + length gap

data Linked (selector left compound place : ℕ) (text tail : List ℕ) (cs : List Compound) : Type 0 where
  passed : (s : Start) (at : ℕ) → Found selector compound text tail place s → s.place ≡ place + at → PastLinked left text cs at → Linked selector left compound place text tail cs
  clear : length cs ≤ left → find is_past (starts true selector compound place (text ++ tail)) ≡ find is_past (starts true selector (compound + length cs) (place + length text) tail) → Linked selector left compound place text tail cs

record HasFirst (word : List ℕ) : Type 0 where
  first : ℕ
  others : List ℕ
  cut : word ≡ first ∷ others
  shown : is_gap first ≡ false

has_first : (word : List ℕ) → (word ≡ [] → ⊥) → list_all is_inner word ≡ true → HasFirst word
has_first [] some all = absurd (some refl)
has_first (c ∷ cs) some all = record { first = c; others = cs; cut = refl; shown = inner_no_gap c (and_parts (is_inner c) (list_all is_inner cs) all).0 }

-- one compound on
linked_step : (selector compound place : ℕ) (text gap word rest tail : List ℕ) (combinator : Combinator) (c : Compound) → text ≡ gap ++ (word ++ rest) → IsCombinator gap combinator → IsCompound (Some combinator) word c
    → starts true selector compound place (text ++ tail) ≡ begun selector compound (place + length gap) ∷ starts true selector (compound + 1) (place + length gap + length word) (rest ++ tail)
unfolding begun
linked_step selector compound place text gap word rest tail combinator c e g w =
    ap (λ y. starts true selector compound place (y ++ tail)) e
    ∙ ap (starts true selector compound place) (append_assoc gap (word ++ rest) tail ∙ ap (λ y. gap ++ y) (append_assoc word rest tail))
    ∙ starts_behind_gap true selector compound place gap (word ++ (rest ++ tail)) (combinator_some gap combinator g) (combinator_gap gap combinator g)
    ∙ starts_compound selector compound (place + length gap) word (rest ++ tail) w.some (compound_inner (Some combinator) word c w)

linked_more : (selector left compound place : ℕ) (text gap word rest tail : List ℕ) (combinator : Combinator) (c : Compound) (cs : List Compound) → text ≡ gap ++ (word ++ rest) → IsCombinator gap combinator → IsCompound (Some combinator) word c
    → find is_past (starts true selector compound place (text ++ tail)) ≡ find is_past (starts true selector (compound + 1) (place + length gap + length word) (rest ++ tail))
    → Linked selector left (compound + 1) (place + length gap + length word) rest tail cs → Linked selector (suc left) compound place text tail (c ∷ cs)
linked_more selector left compound place text gap word rest tail combinator c cs e g w same (passed s at found far p) =
    let front = gap ++ (word ++ p.done) in
    let long : length front ≡ length gap + (length word + length p.done) = length-append gap (word ++ p.done) ∙ ap (λ n. length gap + n) (length-append word p.done) in
    let inner = p.place in
    let many = p.many in
    passed s (length front + length p.gap) (same ∙ found) (omega (arith, far, inner, long))
    (record {
      done = front;
      gap = p.gap;
      first = p.first;
      others = p.others;
      combinator = p.combinator;
      cut = e ∙ ap (λ y. gap ++ (word ++ y)) p.cut
          ∙ ap (λ y. gap ++ y) (sym (append_assoc word p.done (p.gap ++ (p.first ∷ p.others))))
          ∙ sym (append_assoc gap (word ++ p.done) (p.gap ++ (p.first ∷ p.others)));
      spells = link front gap word p.done combinator c (take left cs) refl g w p.spells;
      is_between = p.is_between;
      shown = p.shown;
      many = omega (arith, many);
      place = refl;
    })
linked_more selector left compound place text gap word rest tail combinator c cs e g w same (clear few on) =
    let long : length text ≡ length gap + (length word + length rest) = ap length e ∙ length-append gap (word ++ rest) ∙ ap (λ n. length gap + n) (length-append word rest) in
    let there : place + length gap + length word + length rest ≡ place + length text = omega (arith, long) in
    let count : compound + 1 + length cs ≡ compound + length (c ∷ cs) = omega arith in
    clear (omega (arith, few))
    (same ∙ on ∙ ap (λ n. find is_past (starts true selector n (place + length gap + length word + length rest) tail)) count
    ∙ ap (λ p. find is_past (starts true selector (compound + length (c ∷ cs)) p tail)) there)

linked_here : (selector compound place : ℕ) (text gap word rest tail : List ℕ) (combinator : Combinator) (c : Compound) (cs : List Compound) → text ≡ gap ++ (word ++ rest) → IsCombinator gap combinator → IsCompound (Some combinator) word c
    → 16 ≤ compound → Linked selector 0 compound place text tail (c ∷ cs)
unfolding begun
linked_here selector compound place text gap word rest tail combinator c cs e g w past =
    let f = has_first word w.some (compound_inner (Some combinator) word c w) in
    passed (begun selector compound (place + length gap)) (length gap)
    (ap (find is_past) (linked_step selector compound place text gap word rest tail combinator c e g w)
    ∙ past_here (begun selector compound (place + length gap)) (starts true selector (compound + 1) (place + length gap + length word) (rest ++ tail)) (past_by_compound selector compound (place + length gap) past))
    refl
    (record {
      done = [];
      gap = gap;
      first = f.first;
      others = f.others ++ rest;
      combinator = combinator;
      cut = e ∙ ap (λ y. gap ++ (y ++ rest)) f.cut;
      spells = end;
      is_between = g;
      shown = f.shown;
      many = omega arith;
      place = omega arith;
    })

linked_of : (selector left compound place : ℕ) (text tail : List ℕ) (cs : List Compound) → AreLinked text cs → selector < 64 → compound + left ≡ 16 → Linked selector left compound place text tail cs
linked_of selector left compound place text tail cs end few sum =
    let count : compound ≡ compound + 0 = omega arith in
    let there : place ≡ place + 0 = omega arith in
    clear (omega arith) (ap (λ n. find is_past (starts true selector n place tail)) count ∙ ap (λ p. find is_past (starts true selector (compound + 0) p tail)) there)
linked_of selector zero compound place text tail cs (link t gap word rest combinator c ds e g w m) few sum =
    linked_here selector compound place t gap word rest tail combinator c ds e g w (omega (arith, sum))
linked_of selector (suc left) compound place text tail cs (link t gap word rest combinator c ds e g w m) few sum =
    linked_more selector left compound place t gap word rest tail combinator c ds e g w
    (ap (find is_past) (linked_step selector compound place t gap word rest tail combinator c e g w)
    ∙ past_later (begun selector compound (place + length gap)) (starts true selector (compound + 1) (place + length gap + length word) (rest ++ tail)) (not_past selector compound (place + length gap) few (omega (arith, sum))))
    (linked_of selector left (compound + 1) (place + length gap + length word) rest tail ds m few (omega (arith, sum)))

-- the last byte of compounds is none of white, so their text is trimmed

last_byte : ℕ → List ℕ → ℕ
last_byte c [] = c
last_byte c (d ∷ ds) = last_byte d ds

last_behind : (c : ℕ) (xs ys : List ℕ) → last_byte c (xs ++ ys) ≡ last_byte (last_byte c xs) ys
unfolding last_byte
last_behind c [] ys = refl
last_behind c (x ∷ xs) ys = last_behind x xs ys

last_at_end : (c d : ℕ) (rest : List ℕ) → last_byte c (rest ++ (d ∷ [])) ≡ d
unfolding last_byte
last_at_end c d rest = last_behind c rest (d ∷ [])

last_inner : (c : ℕ) (xs : List ℕ) → is_inner c ≡ true → list_all is_inner xs ≡ true → is_inner (last_byte c xs) ≡ true
unfolding last_byte
last_inner c [] here all = here
last_inner c (x ∷ xs) here all =
    let both = and_parts (is_inner x) (list_all is_inner xs) all in last_inner x xs both.0 both.1

last_of_word : (c : ℕ) (word : List ℕ) → (word ≡ [] → ⊥) → list_all is_inner word ≡ true → is_inner (last_byte c word) ≡ true
unfolding last_byte
last_of_word c [] some all = absurd (some refl)
last_of_word c (x ∷ xs) some all =
    let both = and_parts (is_inner x) (list_all is_inner xs) all in last_inner x xs both.0 both.1

last_linked : (c : ℕ) (text : List ℕ) (cs : List Compound) → AreLinked text cs → is_inner c ≡ true → is_inner (last_byte c text) ≡ true
unfolding last_byte
last_linked c text cs end here = here
last_linked c text cs (link t gap word rest combinator x ds e g w m) here =
    let word_end = last_of_word (last_byte c gap) word w.some (compound_inner (Some combinator) word x w) in
    subst (λ d. is_inner d ≡ true)
    (sym (ap (last_byte c) e ∙ last_behind c gap (word ++ rest) ∙ last_behind (last_byte c gap) word rest))
    (last_linked (last_byte (last_byte c gap) word) rest ds m word_end)

inner_no_white : (c : ℕ) → is_inner c ≡ true → is_white c ≡ false
inner_no_white c e = grind (arith, nat_tests, e)

first_of : (c : ℕ) (rest word behind : List ℕ) → word ++ behind ≡ c ∷ rest → (word ≡ [] → ⊥) → list_all is_inner word ≡ true → is_white c ≡ false
first_of c rest [] behind e some all = absurd (some refl)
first_of c rest (x ∷ xs) behind e some all =
    let same : x ≡ c = cc in
    subst (λ d. is_white d ≡ false) same (inner_no_white x (and_parts (is_inner x) (list_all is_inner xs) all).0)

-- a compound and those that are linked behind it, with white before them
between_white : (white word done : List ℕ) (first : Compound) (others : List Compound) → list_all is_white white ≡ true → IsCompound None word first → AreLinked done others
    → IsBetweenWhite IsSelector (white ++ (word ++ done)) (selector (first ∷ others))
unfolding last_byte
between_white white word done first others all c m =
    let inner = compound_inner None word first c in
    record {
      inner = word ++ done;
      is_inner = record {
        before = white;
        after = [];
        parts = ap (λ y. white ++ y) (sym (append-nil (word ++ done)));
        white_before = all;
        white_after = refl;
        begins = λ d rest e. first_of d rest word done e c.some inner;
        ends = λ rest d e.
            let whole : last_byte 0 (word ++ done) ≡ d = ap (last_byte 0) e ∙ last_at_end 0 d rest in
            let good : is_inner (last_byte 0 (word ++ done)) ≡ true =
            subst (λ y. is_inner y ≡ true) (sym (last_behind 0 word done)) (last_linked (last_byte 0 word) done others m (last_of_word 0 word c.some inner)) in
            inner_no_white d (subst (λ y. is_inner y ≡ true) whole good);
      };
      spells = record {
        word = word;
        rest = done;
        first = first;
        others = others;
        parts = refl;
        is_first = c;
        are_others = m;
        value = refl;
      };
    }

-- one selector, with white round it

-- one more compound than sixteen is past the limit
record PastPart (part : List ℕ) (s : Selector) (at : ℕ) : Type 0 where
  front : List ℕ
  gap : List ℕ
  first : ℕ
  others : List ℕ
  combinator : Combinator
  cut : part ≡ front ++ (gap ++ (first ∷ others))
  spells : IsBetweenWhite IsSelector front (selector (take 16 s.compounds))
  is_between : IsCombinator gap combinator
  shown : is_gap first ≡ false
  many : 16 < length s.compounds
  place : at ≡ length front + length gap

-- or behind white the text goes on
record Through (n place : ℕ) (part tail : List ℕ) (s : Selector) : Type 0 where
  few : length s.compounds ≤ 16
  white : List ℕ
  all_white : list_all is_white white ≡ true
  compound : ℕ
  there : ℕ
  far : there + length white ≡ place + length part
  goes : find is_past (starts false n 0 place (part ++ tail)) ≡ find is_past (starts true n compound there (white ++ tail))

data Part_end (n place : ℕ) (part tail : List ℕ) (s : Selector) : Type 0 where
  within_part : (f : Start) (at : ℕ) → find is_past (starts false n 0 place (part ++ tail)) ≡ Some f → f.place ≡ place + at → PastPart part s at → Part_end n place part tail s
  behind_part : Through n place part tail s → Part_end n place part tail s

-- what a part is made of
record Made (part : List ℕ) (s : Selector) : Type 0 where
  white : List ℕ
  word : List ℕ
  rest : List ℕ
  behind : List ℕ
  first : Compound
  others : List Compound
  cut : part ≡ white ++ (word ++ (rest ++ behind))
  white_before : list_all is_white white ≡ true
  white_behind : list_all is_white behind ≡ true
  is_first : IsCompound None word first
  are_others : AreLinked rest others
  value : s ≡ selector (first ∷ others)

made : (part : List ℕ) (s : Selector) → IsBetweenWhite IsSelector part s → Made part s
made part s b =
    let t = b.is_inner in
    let i = b.spells in
    record {
      white = t.before;
      word = i.word;
      rest = i.rest;
      behind = t.after;
      first = i.first;
      others = i.others;
      cut = t.parts ∙ ap (λ y. t.before ++ (y ++ t.after)) i.parts ∙ ap (λ y. t.before ++ y) (append_assoc i.word i.rest t.after);
      white_before = t.white_before;
      white_behind = t.white_after;
      is_first = i.is_first;
      are_others = i.are_others;
      value = i.value;
    }

-- its first compound begins
part_begins : (n place : ℕ) (part tail : List ℕ) (s : Selector) (m : Made part s)
    → starts false n 0 place (part ++ tail) ≡ begun n 0 (place + length m.white) ∷ starts true n 1 (place + length m.white + length m.word) (m.rest ++ (m.behind ++ tail))
unfolding begun
part_begins n place part tail s m =
    ap (λ y. starts false n 0 place (y ++ tail)) m.cut
    ∙ ap (starts false n 0 place)
    (append_assoc m.white (m.word ++ (m.rest ++ m.behind)) tail
    ∙ ap (λ y. m.white ++ y) (append_assoc m.word (m.rest ++ m.behind) tail ∙ ap (λ y. m.word ++ y) (append_assoc m.rest m.behind tail)))
    ∙ starts_gaps n 0 place m.white (m.word ++ (m.rest ++ (m.behind ++ tail))) (white_gaps m.white m.white_before)
    ∙ starts_compound n 0 (place + length m.white) m.word (m.rest ++ (m.behind ++ tail)) m.is_first.some (compound_inner None m.word m.first m.is_first)

part_by : (n place : ℕ) (part tail : List ℕ) (s : Selector) (m : Made part s)
    → find is_past (starts false n 0 place (part ++ tail)) ≡ find is_past (starts true n 1 (place + length m.white + length m.word) (m.rest ++ (m.behind ++ tail)))
    → Linked n 15 1 (place + length m.white + length m.word) m.rest (m.behind ++ tail) m.others → Part_end n place part tail s
part_by n place part tail s m same (passed f at found far p) =
    let front = m.white ++ (m.word ++ p.done) in
    let long : length front ≡ length m.white + (length m.word + length p.done) = length-append m.white (m.word ++ p.done) ∙ ap (λ n. length m.white + n) (length-append m.word p.done) in
    let inner = p.place in
    let many = p.many in
    let all : take 16 s.compounds ≡ m.first ∷ take 15 m.others = ap (λ (x : Selector). take 16 x.compounds) m.value in
    let count : length s.compounds ≡ suc (length m.others) = ap (λ (x : Selector). length x.compounds) m.value in
    within_part f (length front + length p.gap) (same ∙ found) (omega (arith, far, inner, long))
    (record {
      front = front;
      gap = p.gap;
      first = p.first;
      others = p.others ++ m.behind;
      combinator = p.combinator;
      cut = m.cut ∙ ap (λ y. m.white ++ (m.word ++ (y ++ m.behind))) p.cut
          ∙ ap (λ y. m.white ++ (m.word ++ y)) (append_assoc p.done (p.gap ++ (p.first ∷ p.others)) m.behind ∙ ap (λ y. p.done ++ y) (append_assoc p.gap (p.first ∷ p.others) m.behind))
          ∙ ap (λ y. m.white ++ y) (sym (append_assoc m.word p.done (p.gap ++ (p.first ∷ (p.others ++ m.behind)))))
          ∙ sym (append_assoc m.white (m.word ++ p.done) (p.gap ++ (p.first ∷ (p.others ++ m.behind))));
      spells = subst (λ y. IsBetweenWhite IsSelector front (selector y)) (sym all)
          (between_white m.white m.word p.done m.first (take 15 m.others) m.white_before m.is_first p.spells);
      is_between = p.is_between;
      shown = p.shown;
      many = omega (arith, many, count);
      place = refl;
    })
part_by n place part tail s m same (clear few on) =
    let count : length s.compounds ≡ suc (length m.others) = ap (λ (x : Selector). length x.compounds) m.value in
    let long : length part ≡ length m.white + (length m.word + (length m.rest + length m.behind)) =
    ap length m.cut ∙ length-append m.white (m.word ++ (m.rest ++ m.behind))
    ∙ ap (λ n. length m.white + n) (length-append m.word (m.rest ++ m.behind) ∙ ap (λ n. length m.word + n) (length-append m.rest m.behind)) in
    behind_part (record {
      few = omega (arith, few, count);
      white = m.behind;
      all_white = m.white_behind;
      compound = 1 + length m.others;
      there = place + length m.white + length m.word + length m.rest;
      far = omega (arith, long);
      goes = same ∙ on;
    })

part_end : (n place : ℕ) (part tail : List ℕ) (s : Selector) → IsBetweenWhite IsSelector part s → n < 64 → Part_end n place part tail s
part_end n place part tail s b few =
    let m = made part s b in
    part_by n place part tail s m
    (ap (find is_past) (part_begins n place part tail s m)
    ∙ past_later (begun n 0 (place + length m.white)) (starts true n 1 (place + length m.white + length m.word) (m.rest ++ (m.behind ++ tail))) (not_past n 0 (place + length m.white) few (omega arith)))
    (linked_of n 15 1 (place + length m.white + length m.word) m.rest (m.behind ++ tail) m.others m.are_others few (omega arith))

-- selectors that commas separate

one_front : (depth : ℕ) (front rest : List ℕ) → is_one depth (front ++ rest) ≡ true → is_one depth front ≡ true
one_front depth [] rest one = refl
one_front depth (c ∷ cs) rest one =
    let both = and_parts (not (separates depth c)) (is_one (depth_behind depth c) (cs ++ rest)) one in
    both_true both.0 (one_front (depth_behind depth c) cs rest both.1)

abbrev pub Past : ℕ → List ℕ → List Selector → ℕ → ℕ → Type 0
Past limit text ss place at = (i : ℕ) × (at ≡ place + i) × IsFirstPast limit text ss i

IsShort : Selector → Type 0
IsShort s = length s.compounds ≤ 16

take_short : {A : Type 0} (n : ℕ) (xs : List A) → length (take n xs) ≤ n
take_short zero xs = omega arith
take_short (suc n) [] = omega arith
take_short (suc n) (x ∷ xs) = let rest = take_short n xs in omega (arith, rest)

-- past the limit within the part that stands first
past_in_part : (limit : ℕ) (text part tail : List ℕ) (s : Selector) (ss : List Selector) (at : ℕ) → text ≡ part ++ tail → is_one 0 part ≡ true → PastPart part s at → IsFirstPast (suc limit) text (s ∷ ss) at
unfolding IsShort
past_in_part limit text part tail s ss at e one p =
    let few : length (take 16 s.compounds) ≤ 16 = take_short 16 s.compounds in
    record {
      front = p.front;
      between = p.gap;
      first = p.first;
      others = p.others ++ tail;
      kept = selector (take 16 s.compounds) ∷ [];
      cut = e ∙ ap (λ y. y ++ tail) p.cut ∙ append_assoc p.front (p.gap ++ (p.first ∷ p.others)) tail ∙ ap (λ y. p.front ++ y) (append_assoc p.gap (p.first ∷ p.others) tail);
      spells = last p.front (selector (take 16 s.compounds)) (one_front 0 p.front (p.gap ++ (p.first ∷ p.others)) (subst (λ y. is_one 0 y ≡ true) p.cut one)) p.spells;
      few = omega arith;
      short = All-cons IsShort (selector (take 16 s.compounds)) [] few (All-nil IsShort);
      is_next = at_compound [] ss s p.combinator refl (omega arith) p.is_between refl p.many;
      shown = p.shown;
      place = p.place;
    }

next_by : (limit : ℕ) (between : List ℕ) (kept all : List Selector) (s : Selector) → IsBetween limit between kept all → IsBetween (suc limit) between (s ∷ kept) (s ∷ all)
next_by limit between kept all s (at_selector white e w k h) = at_selector white e w (ap (λ y. s ∷ y) k) (omega (arith, h))
next_by limit between kept all s (at_compound done others x combinator e h g k m) =
    at_compound (s ∷ done) others x combinator (ap (λ y. s ∷ y) e) (omega (arith, h)) g (ap (λ y. s ∷ y) k) m

past_more : (limit : ℕ) (text part rest : List ℕ) (s : Selector) (ss : List Selector) (place at : ℕ) → text ≡ part ++ (44 ∷ rest) → is_one 0 part ≡ true → depth_after 0 part ≡ 0 → IsBetweenWhite IsSelector part s → length s.compounds ≤ 16
    → Past limit rest ss (place + length part + 1) at → Past (suc limit) text (s ∷ ss) place at
unfolding IsShort
past_more limit text part rest s ss place at e one flat b short h =
    let k = h.2 in
    let far = h.1 in
    let inner = k.place in
    let few = k.few in
    let long : length (part ++ (44 ∷ k.front)) ≡ length part + suc (length k.front) = length-append part (44 ∷ k.front) in (
      length part + suc h.0,
      (omega (arith, far)),
      record {
        front = part ++ (44 ∷ k.front);
        between = k.between;
        first = k.first;
        others = k.others;
        kept = s ∷ k.kept;
        cut = e ∙ ap (λ y. part ++ (44 ∷ y)) k.cut ∙ sym (append_assoc part (44 ∷ k.front) (k.between ++ (k.first ∷ k.others)));
        spells = more (part ++ (44 ∷ k.front)) part k.front s k.kept refl one flat b k.spells;
        few = omega (arith, few);
        short = All-cons IsShort s k.kept short k.short;
        is_next = next_by limit k.between k.kept ss s k.is_next;
        shown = k.shown;
        place = omega (arith, long, inner);
      },
    )

-- past the limit with the part behind the one that stands first
record HasHead (text : List ℕ) (place : ℕ) (f : Start) : Type 0 where
  white : List ℕ
  first : ℕ
  others : List ℕ
  cut : text ≡ white ++ (first ∷ others)
  all_white : list_all is_white white ≡ true
  shown : is_gap first ≡ false
  far : f.place ≡ place + length white

head_by : (n place : ℕ) (text part tail : List ℕ) (s : Selector) (f : Start) → 64 ≤ n → text ≡ part ++ tail → IsBetweenWhite IsSelector part s → find is_past (starts false n 0 place text) ≡ Some f → HasHead text place f
unfolding begun
head_by n place text part tail s f past e b found =
    let m = made part s b in
    let w = has_first m.word m.is_first.some (compound_inner None m.word m.first m.is_first) in
    let here : find is_past (starts false n 0 place text) ≡ Some (begun n 0 (place + length m.white)) =
    ap (λ y. find is_past (starts false n 0 place y)) e
    ∙ ap (find is_past) (part_begins n place part tail s m)
    ∙ past_here (begun n 0 (place + length m.white)) (starts true n 1 (place + length m.white + length m.word) (m.rest ++ (m.behind ++ tail))) (past_by_selector n 0 (place + length m.white) past) in
    let both : Some f ≡ Some (begun n 0 (place + length m.white)) = sym found ∙ here in
    let same : f ≡ begun n 0 (place + length m.white) = cc in
    record {
      white = m.white;
      first = w.first;
      others = (w.others ++ (m.rest ++ m.behind)) ++ tail;
      cut = e ∙ ap (λ y. y ++ tail) (m.cut ∙ ap (λ y. m.white ++ (y ++ (m.rest ++ m.behind))) w.cut) ∙ append_assoc m.white (w.first ∷ (w.others ++ (m.rest ++ m.behind))) tail;
      all_white = m.white_before;
      shown = w.shown;
      far = ap (λ (y : Start). y.place) same;
    }

head_of : (n place : ℕ) (text : List ℕ) (ss : List Selector) (f : Start) → 64 ≤ n → Separated IsSelector text ss → find is_past (starts false n 0 place text) ≡ Some f → HasHead text place f
head_of n place text ss f past (last t x one b) found = head_by n place t t [] x f past (sym (append-nil t)) b found
head_of n place text ss f past (more t part rest x ys e one flat b m) found = head_by n place t part (44 ∷ rest) x f past e b found

some_selector : (text : List ℕ) (ss : List Selector) → Separated IsSelector text ss → 0 < length ss
some_selector text ss (last t x one b) = omega arith
some_selector text ss (more t part rest x ys e one flat b m) = omega arith

past_behind : (text part rest : List ℕ) (s : Selector) (ss : List Selector) (place : ℕ) (f : Start) → text ≡ part ++ (44 ∷ rest) → is_one 0 part ≡ true → IsBetweenWhite IsSelector part s → length s.compounds ≤ 16
    → Separated IsSelector rest ss → HasHead rest (place + length part + 1) f → Past 1 text (s ∷ ss) place f.place
unfolding IsShort
past_behind text part rest s ss place f e one b short m h =
    let far = h.far in
    let some = some_selector rest ss m in (
      length part + suc (length h.white),
      (omega (arith, far)),
      record {
        front = part;
        between = 44 ∷ h.white;
        first = h.first;
        others = h.others;
        kept = s ∷ [];
        cut = e ∙ ap (λ y. part ++ (44 ∷ y)) h.cut;
        spells = last part s one b;
        few = omega arith;
        short = All-cons IsShort s [] short (All-nil IsShort);
        is_next = at_selector h.white refl h.all_white refl (omega (arith, some));
        shown = h.shown;
        place = refl;
      },
    )

-- behind a part without any past a limit
abbrev pub Goes : ℕ → ℕ → List ℕ → List Selector → Type 0
Goes n room text ss = (place : ℕ) (f : Start) → find is_past (starts false n 0 place text) ≡ Some f → Past room text ss place f.place

after_part : (n room : ℕ) (text part rest : List ℕ) (s : Selector) (ss : List Selector) → text ≡ part ++ (44 ∷ rest) → is_one 0 part ≡ true → depth_after 0 part ≡ 0 → IsBetweenWhite IsSelector part s
    → Separated IsSelector rest ss → n + suc room ≡ 64 → ((r : ℕ) → room ≡ suc r → Goes (n + 1) room rest ss) → (place : ℕ) (f : Start) → find is_past (starts false n 0 place text) ≡ Some f
    → Part_end n place part (44 ∷ rest) s → Past (suc room) text (s ∷ ss) place f.place
after_part n room text part rest s ss e one flat b m sum ih place f found (within_part g at there far p) =
    let both : Some f ≡ Some g = sym found ∙ ap (λ y. find is_past (starts false n 0 place y)) e ∙ there in
    let same : f ≡ g = cc in
    (at, ap (λ (y : Start). y.place) same ∙ far, past_in_part room text part (44 ∷ rest) s ss at e one p)
after_part n zero text part rest s ss e one flat b m sum ih place f found (behind_part t) =
    let far = t.far in
    let next : find is_past (starts false (n + 1) 0 (place + length part + 1) rest) ≡ Some f =
    ap (λ p. find is_past (starts false (n + 1) 0 (p + 1) rest)) (sym far)
    ∙ ap (find is_past) (sym (to_comma true n t.compound t.there t.white rest t.all_white))
    ∙ sym t.goes ∙ ap (λ y. find is_past (starts false n 0 place y)) (sym e) ∙ found in
    past_behind text part rest s ss place f e one b t.few m
    (head_of (n + 1) (place + length part + 1) rest ss f (omega (arith, sum)) m next)
after_part n (suc room) text part rest s ss e one flat b m sum ih place f found (behind_part t) =
    let far = t.far in
    let next : find is_past (starts false (n + 1) 0 (place + length part + 1) rest) ≡ Some f =
    ap (λ p. find is_past (starts false (n + 1) 0 (p + 1) rest)) (sym far)
    ∙ ap (find is_past) (sym (to_comma true n t.compound t.there t.white rest t.all_white))
    ∙ sym t.goes ∙ ap (λ y. find is_past (starts false n 0 place y)) (sym e) ∙ found in
    past_more (suc room) text part rest s ss place f.place e one flat b t.few (ih room refl (place + length part + 1) f next)

last_part : (n room : ℕ) (text : List ℕ) (s : Selector) → is_one 0 text ≡ true → (place : ℕ) (f : Start) → find is_past (starts false n 0 place text) ≡ Some f
    → Part_end n place text [] s → Past (suc room) text (s ∷ []) place f.place
last_part n room text s one place f found (within_part g at there far p) =
    let both : Some f ≡ Some g = sym found ∙ ap (λ y. find is_past (starts false n 0 place y)) (sym (append-nil text)) ∙ there in
    let same : f ≡ g = cc in
    (at, ap (λ (y : Start). y.place) same ∙ far, past_in_part room text text [] s [] at (sym (append-nil text)) one p)
last_part n room text s one place f found (behind_part t) =
    let none : None ≡ Some f =
    sym (ap (find is_past) (ap (starts true n t.compound t.there) (append-nil t.white) ∙ to_end true n t.compound t.there t.white t.all_white))
    ∙ sym t.goes ∙ ap (λ y. find is_past (starts false n 0 place y)) (append-nil text) ∙ found in
    absurd (cc)

pub goes_of : (room n : ℕ) (text : List ℕ) (ss : List Selector) → Separated IsSelector text ss → n + suc room ≡ 64 → Goes n (suc room) text ss
goes_of room n text ss (last t x one b) sum = λ place f found. last_part n room t x one place f found (part_end n place t [] x b (omega (arith, sum)))
goes_of zero n text ss (more t part rest x ys e one flat b m) sum =
    λ place f found. after_part n zero t part rest x ys e one flat b m sum (λ r z. absurd (omega (arith, z))) place f found (part_end n place part (44 ∷ rest) x b (omega (arith, sum)))
goes_of (suc room) n text ss (more t part rest x ys e one flat b m) sum =
    λ place f found.
    after_part n (suc room) t part rest x ys e one flat b m sum (λ r z. goes_of room (n + 1) rest ys m (omega (arith, sum))) place f found
    (part_end n place part (44 ∷ rest) x b (omega (arith, sum)))
