-- No part of a text is past a limit just where its selectors and their compounds are few.
use Rattle.std.proofs.Common.{◌≡◌, ℕ, suc, ◌+◌, ◌<◌, ◌≤◌, Bool, true, false, cond, not, ◌&&◌, ◌||◌, ◌==◌, nat_le, List, [], ◌∷◌, ◌++◌, length, append_assoc, append-nil, Option, Some, None, refl, sym, ap, ◌∙◌, subst, arith}
use Rattle.std.specs.List.{list_all, find, All}
use Rattle.std.specs.Option.{option_map}
use Rattle.std.specs.Cmp.Derive.{both_true}
use Rattle.std.proofs.lemmas.Bool.{and_parts}
use Rattle.std.proofs.lemmas.Bool.Decides.{nat_tests}
use Rattle.std.proofs.lemmas.List.Elements.{All-nil, All-cons, All-head, All-tail}
use Rattle.fx_css_types.specs.declared.selectors.Combinator.{Combinator}
use Rattle.fx_css_types.specs.declared.selectors.Compound.{Compound}
use Rattle.fx_css_types.specs.declared.selectors.Selector.{Selector}
use Rattle.fx_text.specs.Identifiers.{is_later}
use Rattle.fx_css_parts.specs.Texts.{is_ident, IsBetweenWhite}
use Rattle.fx_css_parts.specs.Layers.{Separated, last, more}
use Rattle.fx_css_parts.specs.Selecting.{is_sign, Part, is_part, parts_text, IsKind, unsaid, any, type, IsCompound, AreLinked, end, link, IsSelector, selectors_in, is_gap, not_gap}
use Rattle.fx_css_parts.specs.Limits.{Start, starts, is_past, past_in_selectors}
use Rattle.fx_css_parts.specs.Drafts.{is_short, are_few}
use Rattle.fx_css_parts.proofs.SelectorLaws.{selectors_read, ident_later, all_more, all_append, white_gap, combinator_gap, combinator_some}
use Rattle.fx_text.specs.Classes.{is_white}
use Rattle.fx_css_types.specs.Limits.{AreFew}

-- no compound of a text that is read so is past a limit
Clear : Bool → ℕ → ℕ → List ℕ → Type 0
Clear within selector compound text = (place : ℕ) × (find is_past (starts within selector compound place text) ≡ None)

-- what stands in a compound
abbrev is_inner : ℕ → Bool
is_inner c = not (c == 44) && not_gap c

later_inner : (c : ℕ) → is_later c ≡ true → is_inner c ≡ true
later_inner c e = grind (arith, nat_tests, e)

sign_inner : (c : ℕ) → is_sign c ≡ true → is_inner c ≡ true
sign_inner c e = grind (arith, nat_tests, e)

ident_inner : (name : List ℕ) → is_ident name ≡ true → list_all is_inner name ≡ true
ident_inner name i = all_more is_later is_inner later_inner name (ident_later name i)

kind_inner : (word : List ℕ) (kind : Option (List ℕ)) → IsKind word kind → list_all is_inner word ≡ true
kind_inner word kind unsaid = refl
kind_inner word kind any = refl
kind_inner word kind (type name i) = ident_inner name i

parts_inner : (ps : List Part) → list_all is_part ps ≡ true → list_all is_inner (parts_text ps) ≡ true
parts_inner [] h = refl
parts_inner (p ∷ ps) h =
    let both = and_parts (is_part p) (list_all is_part ps) h in
    let good = and_parts (is_sign p.sign) (is_ident p.name) both.0 in
    both_true (sign_inner p.sign good.0) (all_append is_inner p.name (parts_text ps) (ident_inner p.name good.1) (parts_inner ps both.1))

compound_inner : (combinator : Option Combinator) (text : List ℕ) (c : Compound) → IsCompound combinator text c → list_all is_inner text ≡ true
compound_inner combinator text c h =
    ap (list_all is_inner) h.parts
    ∙ all_append is_inner h.word (parts_text h.behind_word) (kind_inner h.word h.kind h.is_kind) (parts_inner h.behind_word h.are_parts)

-- one byte

second : {A : Type 0} (a b : Bool) (x y z : A) → a ≡ false → b ≡ true → cond a x (cond b y z) ≡ y
second a b x y z e f = ap (λ v. cond v x (cond b y z)) e ∙ ap (λ v. cond v y z) f

third : {A : Type 0} (a b : Bool) (x y z : A) → a ≡ false → b ≡ false → cond a x (cond b y z) ≡ z
third a b x y z e f = ap (λ v. cond v x (cond b y z)) e ∙ ap (λ v. cond v y z) f

gap_no_comma : (c : ℕ) → is_gap c ≡ true → (c == 44) ≡ false
gap_no_comma c e = grind (arith, nat_tests, e)

inner_no_comma : (c : ℕ) → is_inner c ≡ true → (c == 44) ≡ false
inner_no_comma c e = grind (arith, nat_tests, e)

inner_no_gap : (c : ℕ) → is_inner c ≡ true → is_gap c ≡ false
inner_no_gap c e = grind (arith, nat_tests, e)

starts_gap : (within : Bool) (selector compound place c : ℕ) (cs : List ℕ) → is_gap c ≡ true → starts within selector compound place (c ∷ cs) ≡ starts false selector compound (place + 1) cs
starts_gap within selector compound place c cs e = second (c == 44) (is_gap c) _ _ _ (gap_no_comma c e) e

starts_inside : (selector compound place c : ℕ) (cs : List ℕ) → is_inner c ≡ true → starts true selector compound place (c ∷ cs) ≡ starts true selector compound (place + 1) cs
starts_inside selector compound place c cs e =
    third (c == 44) (is_gap c) (starts false (selector + 1) 0 (place + 1) cs) (starts false selector compound (place + 1) cs) _ (inner_no_comma c e) (inner_no_gap c e)

starts_new : (selector compound place c : ℕ) (cs : List ℕ) → is_inner c ≡ true
    → starts false selector compound place (c ∷ cs) ≡ (record { place = place; selector = selector; compound = compound }) ∷ starts true selector (compound + 1) (place + 1) cs
starts_new selector compound place c cs e =
    third (c == 44) (is_gap c) (starts false (selector + 1) 0 (place + 1) cs) (starts false selector compound (place + 1) cs) _ (inner_no_comma c e) (inner_no_gap c e)

-- gaps and words

clear_gap : (selector compound : ℕ) (gap text : List ℕ) → list_all is_gap gap ≡ true → Clear false selector compound (gap ++ text) → Clear false selector compound text
unfolding Clear
clear_gap selector compound [] text all h = h
clear_gap selector compound (c ∷ gap) text all h =
    let both = and_parts (is_gap c) (list_all is_gap gap) all in
    clear_gap selector compound gap text both.1 (h.0 + 1, ap (find is_past) (sym (starts_gap false selector compound h.0 c (gap ++ text) both.0)) ∙ h.1)

clear_first : (within : Bool) (selector compound : ℕ) (gap text : List ℕ) → (gap ≡ [] → ⊥) → list_all is_gap gap ≡ true → Clear within selector compound (gap ++ text) → Clear false selector compound text
unfolding Clear
clear_first within selector compound [] text some all h = absurd (some refl)
clear_first within selector compound (c ∷ gap) text some all h =
    let both = and_parts (is_gap c) (list_all is_gap gap) all in
    clear_gap selector compound gap text both.1 (h.0 + 1, ap (find is_past) (sym (starts_gap within selector compound h.0 c (gap ++ text) both.0)) ∙ h.1)

clear_last : (selector compound : ℕ) (gap text : List ℕ) → list_all is_gap gap ≡ true → Clear true selector compound (gap ++ text) → (within : Bool) × Clear within selector compound text
clear_last selector compound [] text all h = (true, h)
clear_last selector compound (c ∷ gap) text all h = (false, clear_first true selector compound (c ∷ gap) text (λ n. cc) all h)

clear_inside : (selector compound : ℕ) (word text : List ℕ) → list_all is_inner word ≡ true → Clear true selector compound (word ++ text) → Clear true selector compound text
unfolding Clear
clear_inside selector compound [] text all h = h
clear_inside selector compound (c ∷ word) text all h =
    let both = and_parts (is_inner c) (list_all is_inner word) all in
    clear_inside selector compound word text both.1 (h.0 + 1, ap (find is_past) (sym (starts_inside selector compound h.0 c (word ++ text) both.0)) ∙ h.1)

none_here : (b : Bool) (x : Start) (o : Option Start) → cond b (Some x) o ≡ None → (b ≡ false) × (o ≡ None)
none_here true x o e = absurd (cc)
none_here false x o e = (refl, e)

few_here : (selector compound : ℕ) → (nat_le 64 selector || nat_le 16 compound) ≡ false → (selector < 64) × (compound < 16)
few_here selector compound e = (grind (arith, nat_tests, e), grind (arith, nat_tests, e))

clear_word : (selector compound : ℕ) (word text : List ℕ) → (word ≡ [] → ⊥) → list_all is_inner word ≡ true → Clear false selector compound (word ++ text)
    → (selector < 64) × (compound < 16) × Clear true selector (compound + 1) text
unfolding Clear
clear_word selector compound [] text some all h = absurd (some refl)
clear_word selector compound (c ∷ word) text some all h =
    let both = and_parts (is_inner c) (list_all is_inner word) all in
    let x : Start = record { place = h.0; selector = selector; compound = compound } in
    let rest : Option Start = find is_past (starts true selector (compound + 1) (h.0 + 1) (word ++ text)) in
    let here = none_here (is_past x) x rest (ap (find is_past) (sym (starts_new selector compound h.0 c (word ++ text) both.0)) ∙ h.1) in
    let few = few_here selector compound here.0 in
    (few.0, few.1, clear_inside selector (compound + 1) word text both.1 (h.0 + 1, here.1))

-- selectors

along : (within : Bool) (selector compound : ℕ) (text other : List ℕ) → text ≡ other → Clear within selector compound text → Clear within selector compound other
along within selector compound text other e h = subst (λ y. Clear within selector compound y) e h

linked_few : (text : List ℕ) (cs : List Compound) → AreLinked text cs → (selector compound : ℕ) (behind : List ℕ) → compound ≤ 16 → Clear true selector compound (text ++ behind)
    → (compound + length cs ≤ 16) × ((m : ℕ) × Clear true selector m behind)
linked_few text cs end selector compound behind few h = (omega arith, (compound, h))
linked_few text cs (link t gap word rest k c others e g w r) selector compound behind few h =
    let all : Clear true selector compound (gap ++ (word ++ (rest ++ behind))) =
    along true selector compound (t ++ behind) (gap ++ (word ++ (rest ++ behind)))
    (ap (λ y. y ++ behind) e ∙ append_assoc gap (word ++ rest) behind ∙ ap (λ y. gap ++ y) (append_assoc word rest behind)) h in
    let here = clear_word selector compound word (rest ++ behind) w.some (compound_inner (Some k) word c w)
    (clear_first true selector compound gap (word ++ (rest ++ behind)) (combinator_some gap k g) (combinator_gap gap k g) all) in
    let fewer : compound < 16 = here.1 in
    let more_few = linked_few rest others r selector (compound + 1) behind (omega arith) here.2 in
    let most : compound + 1 + length others ≤ 16 = more_few.0 in
    (omega arith, more_few.1)

selector_few : (text : List ℕ) (s : Selector) → IsSelector text s → (selector : ℕ) (behind : List ℕ) → Clear false selector 0 (text ++ behind)
    → (selector < 64) × (length s.compounds ≤ 16) × ((m : ℕ) × Clear true selector m behind)
selector_few text s i selector behind h =
    let all : Clear false selector 0 (i.word ++ (i.rest ++ behind)) =
    along false selector 0 (text ++ behind) (i.word ++ (i.rest ++ behind)) (ap (λ y. y ++ behind) i.parts ∙ append_assoc i.word i.rest behind) h in
    let here = clear_word selector 0 i.word (i.rest ++ behind) i.is_first.some (compound_inner None i.word i.first i.is_first) all in
    let others = linked_few i.rest i.others i.are_others selector 1 behind (omega arith) here.2 in
    let most : 1 + length i.others ≤ 16 = others.0 in
    let count : length s.compounds ≡ suc (length i.others) = ap (λ y. length y.compounds) i.value in
    (here.0, omega arith, others.1)

between_few : (text : List ℕ) (s : Selector) → IsBetweenWhite IsSelector text s → (selector : ℕ) (behind : List ℕ) → Clear false selector 0 (text ++ behind)
    → (selector < 64) × (length s.compounds ≤ 16) × ((within : Bool) × (m : ℕ) × Clear within selector m behind)
between_few text s i selector behind h =
    let t = i.is_inner in
    let all : Clear false selector 0 (t.before ++ (i.inner ++ (t.after ++ behind))) =
    along false selector 0 (text ++ behind) (t.before ++ (i.inner ++ (t.after ++ behind)))
    (ap (λ y. y ++ behind) t.parts ∙ append_assoc t.before (i.inner ++ t.after) behind ∙ ap (λ y. t.before ++ y) (append_assoc i.inner t.after behind)) h in
    let inside = clear_gap selector 0 t.before (i.inner ++ (t.after ++ behind)) (all_more is_white is_gap white_gap t.before t.white_before) all in
    let here = selector_few i.inner s i.spells selector (t.after ++ behind) inside in
    let last = clear_last selector here.2.0 t.after behind (all_more is_white is_gap white_gap t.after t.white_after) here.2.1 in
    (here.0, here.1, (last.0, here.2.0, last.1))

separated_few : (text : List ℕ) (ss : List Selector) → Separated IsSelector text ss → (selector : ℕ) → selector ≤ 64 → Clear false selector 0 text → (selector + length ss ≤ 64) × All (λ s. length s.compounds ≤ 16) ss
unfolding Clear
separated_few text ss (last t s one b) selector few h =
    let here = between_few t s b selector [] (along false selector 0 t (t ++ []) (sym (append-nil t)) h) in
    let fewer : selector < 64 = here.0 in
    (omega arith, All-cons (λ s. length s.compounds ≤ 16) s [] here.1 (All-nil (λ s. length s.compounds ≤ 16)))
separated_few text ss (more t part rest s others e one flat b m) selector few h =
    let here = between_few part s b selector (44 ∷ rest) (along false selector 0 t (part ++ (44 ∷ rest)) e h) in
    let fewer : selector < 64 = here.0 in
    let behind : Clear false (selector + 1) 0 rest = (here.2.2.0 + 1, here.2.2.1) in
    let more_few = separated_few rest others m (selector + 1) (omega arith) behind in
    let most : selector + 1 + length others ≤ 64 = more_few.0 in
    (omega arith, All-cons (λ s. length s.compounds ≤ 16) s others here.1 more_few.1)

none_mapped : (o : Option Start) → option_map (λ s. s.place) o ≡ None → o ≡ None
none_mapped None e = refl
none_mapped (Some s) e = absurd (cc)

pub selectors_few : (text : List ℕ) (ss : List Selector) → Separated IsSelector text ss → past_in_selectors text ≡ None → AreFew ss
unfolding Clear
selectors_few text ss i e =
    let clear : Clear false 0 0 text = (0, none_mapped (find is_past (starts false 0 0 0 text)) e) in
    let few = separated_few text ss i 0 (omega arith) clear in
    let most : 0 + length ss ≤ 64 = few.0 in
    (omega arith, few.1)

-- and the other way: few selectors of few compounds

Open : Bool → ℕ → ℕ → List ℕ → Type 0
Open within selector compound text = (place : ℕ) → find is_past (starts within selector compound place text) ≡ None

open_gap : (selector compound : ℕ) (gap text : List ℕ) → list_all is_gap gap ≡ true → Open false selector compound text → Open false selector compound (gap ++ text)
unfolding Open
open_gap selector compound [] text all h = h
open_gap selector compound (c ∷ gap) text all h =
    let both = and_parts (is_gap c) (list_all is_gap gap) all in
    λ place. ap (find is_past) (starts_gap false selector compound place c (gap ++ text) both.0) ∙ open_gap selector compound gap text both.1 h (place + 1)

open_first : (within : Bool) (selector compound : ℕ) (gap text : List ℕ) → (gap ≡ [] → ⊥) → list_all is_gap gap ≡ true → Open false selector compound text → Open within selector compound (gap ++ text)
unfolding Open
open_first within selector compound [] text some all h = absurd (some refl)
open_first within selector compound (c ∷ gap) text some all h =
    let both = and_parts (is_gap c) (list_all is_gap gap) all in
    λ place. ap (find is_past) (starts_gap within selector compound place c (gap ++ text) both.0) ∙ open_gap selector compound gap text both.1 h (place + 1)

open_last : (selector compound : ℕ) (gap text : List ℕ) → list_all is_gap gap ≡ true → ((within : Bool) → Open within selector compound text) → Open true selector compound (gap ++ text)
open_last selector compound [] text all h = h true
open_last selector compound (c ∷ gap) text all h = open_first true selector compound (c ∷ gap) text (λ n. cc) all (h false)

open_inside : (selector compound : ℕ) (word text : List ℕ) → list_all is_inner word ≡ true → Open true selector compound text → Open true selector compound (word ++ text)
unfolding Open
open_inside selector compound [] text all h = h
open_inside selector compound (c ∷ word) text all h =
    let both = and_parts (is_inner c) (list_all is_inner word) all in
    λ place. ap (find is_past) (starts_inside selector compound place c (word ++ text) both.0) ∙ open_inside selector compound word text both.1 h (place + 1)

not_past : (selector compound : ℕ) → selector < 64 → compound < 16 → (place : ℕ) → is_past (record { place = place; selector = selector; compound = compound }) ≡ false
not_past selector compound s k place = grind (arith, nat_tests, s, k)

open_word : (selector compound : ℕ) (word text : List ℕ) → (word ≡ [] → ⊥) → list_all is_inner word ≡ true → selector < 64 → compound < 16 → Open true selector (compound + 1) text
    → Open false selector compound (word ++ text)
unfolding Open
open_word selector compound [] text some all s k h = absurd (some refl)
open_word selector compound (c ∷ word) text some all s k h =
    let both = and_parts (is_inner c) (list_all is_inner word) all in
    λ place.
    let x : Start = record { place = place; selector = selector; compound = compound } in
    let rest : List Start = starts true selector (compound + 1) (place + 1) (word ++ text) in
    ap (find is_past) (starts_new selector compound place c (word ++ text) both.0)
    ∙ ap (λ b. cond b (Some x) (find is_past rest)) (not_past selector compound s k place)
    ∙ open_inside selector (compound + 1) word text both.1 h (place + 1)

reach : (within : Bool) (selector compound : ℕ) (text other : List ℕ) → text ≡ other → Open within selector compound other → Open within selector compound text
reach within selector compound text other e h = subst (λ y. Open within selector compound y) (sym e) h

open_linked : (text : List ℕ) (cs : List Compound) → AreLinked text cs → (selector compound : ℕ) (behind : List ℕ) → compound + length cs ≤ 16 → selector < 64
    → ((m : ℕ) → Open true selector m behind) → Open true selector compound (text ++ behind)
open_linked text cs end selector compound behind few s h = h compound
open_linked text cs (link t gap word rest k c others e g w r) selector compound behind few s h =
    reach true selector compound (t ++ behind) (gap ++ (word ++ (rest ++ behind)))
    (ap (λ y. y ++ behind) e ∙ append_assoc gap (word ++ rest) behind ∙ ap (λ y. gap ++ y) (append_assoc word rest behind))
    (open_first true selector compound gap (word ++ (rest ++ behind)) (combinator_some gap k g) (combinator_gap gap k g)
    (open_word selector compound word (rest ++ behind) w.some (compound_inner (Some k) word c w) s (omega arith)
    (open_linked rest others r selector (compound + 1) behind (omega arith) s h)))

open_selector : (text : List ℕ) (s : Selector) → IsSelector text s → (selector : ℕ) (behind : List ℕ) → length s.compounds ≤ 16 → selector < 64
    → ((m : ℕ) → Open true selector m behind) → Open false selector 0 (text ++ behind)
open_selector text s i selector behind few l h =
    let count : length s.compounds ≡ suc (length i.others) = ap (λ y. length y.compounds) i.value in
    reach false selector 0 (text ++ behind) (i.word ++ (i.rest ++ behind)) (ap (λ y. y ++ behind) i.parts ∙ append_assoc i.word i.rest behind)
    (open_word selector 0 i.word (i.rest ++ behind) i.is_first.some (compound_inner None i.word i.first i.is_first) l (omega arith)
    (open_linked i.rest i.others i.are_others selector 1 behind (omega arith) l h))

open_between : (text : List ℕ) (s : Selector) → IsBetweenWhite IsSelector text s → (selector : ℕ) (behind : List ℕ) → length s.compounds ≤ 16 → selector < 64
    → ((within : Bool) (m : ℕ) → Open within selector m behind) → Open false selector 0 (text ++ behind)
open_between text s i selector behind few l h =
    let t = i.is_inner in
    reach false selector 0 (text ++ behind) (t.before ++ (i.inner ++ (t.after ++ behind)))
    (ap (λ y. y ++ behind) t.parts ∙ append_assoc t.before (i.inner ++ t.after) behind ∙ ap (λ y. t.before ++ y) (append_assoc i.inner t.after behind))
    (open_gap selector 0 t.before (i.inner ++ (t.after ++ behind)) (all_more is_white is_gap white_gap t.before t.white_before)
    (open_selector i.inner s i.spells selector (t.after ++ behind) few l
    (λ m. open_last selector m t.after behind (all_more is_white is_gap white_gap t.after t.white_after) (λ within. h within m))))

open_separated : (text : List ℕ) (ss : List Selector) → Separated IsSelector text ss → (selector : ℕ) → selector + length ss ≤ 64 → All (λ s. length s.compounds ≤ 16) ss → Open false selector 0 text
unfolding Open
open_separated text ss (last t s one b) selector few all =
    reach false selector 0 t (t ++ []) (sym (append-nil t))
    (open_between t s b selector [] (All-head (λ s. length s.compounds ≤ 16) s [] all) (omega arith) (λ within m place. refl))
open_separated text ss (more t part rest s others e one flat b m) selector few all =
    let next : Open false (selector + 1) 0 rest = open_separated rest others m (selector + 1) (omega arith) (All-tail (λ s. length s.compounds ≤ 16) s others all) in
    reach false selector 0 t (part ++ (44 ∷ rest)) e
    (open_between part s b selector (44 ∷ rest) (All-head (λ s. length s.compounds ≤ 16) s others all) (omega arith) (λ within m place. next (place + 1)))

pub selectors_open : (text : List ℕ) (ss : List Selector) → Separated IsSelector text ss → AreFew ss → past_in_selectors text ≡ None
unfolding Open
selectors_open text ss i few = ap (option_map (λ s. s.place)) (open_separated text ss i 0 (omega arith) few.1 0)

short_all : (ss : List Selector) → list_all is_short ss ≡ true → All (λ s. length s.compounds ≤ 16) ss
short_all [] h = All-nil (λ s. length s.compounds ≤ 16)
short_all (s ∷ ss) h =
    let both = and_parts (is_short s) (list_all is_short ss) h in
    All-cons (λ s. length s.compounds ≤ 16) s ss (grind (arith, nat_tests, both.0)) (short_all ss both.1)

pub none_in_few : (text : List ℕ) (ss : List Selector) → selectors_in text ≡ Some ss → are_few ss ≡ true → None ≡ past_in_selectors text
none_in_few text ss e few =
    let both = and_parts (nat_le (length ss) 64) (list_all is_short ss) few in
    sym (selectors_open text ss (selectors_read.sound text ss e) (grind (arith, nat_tests, both.0), short_all ss both.1))
