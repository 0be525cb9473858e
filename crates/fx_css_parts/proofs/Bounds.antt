-- What is read has no more parts than its text has bytes, and values fit their names.
use Rattle.std.proofs.Common.{◌≡◌, ℕ, zero, suc, ◌+◌, ◌<◌, ◌≤◌, Bool, true, false, cond, ◌||◌, ◌==◌, List, [], ◌∷◌, ◌++◌, length, length-append, Option, Some, None, refl, sym, ap, ◌∙◌, subst, arith}
use Rattle.std.specs.Prelude.{slice_get, is_some}
use Rattle.std.specs.List.{find, All}
use Rattle.std.proofs.lemmas.Bool.Decides.{nat_tests}
use Rattle.std.proofs.lemmas.List.Elements.{All-nil, All-cons}
use Rattle.std.proofs.lemmas.List.Sums.{sum_by-cons}
use Rattle.fx_look.specs.declared.styles.StyleForm.{StyleForm}
use Rattle.fx_text.specs.Classes.{is_white}
use Rattle.fx_text.specs.Fronts.{front, behind}
use Rattle.fx_text.specs.Trimming.{trimmed}
use Rattle.fx_text.proofs.FrontLemmas.{front_and_behind, map_gives}
use Rattle.fx_css_types.specs.declared.declarations.Declared.{Declared}
use Rattle.fx_css_types.specs.declared.declarations.Declared.TheVariants as declared
use Rattle.fx_css_types.specs.declared.declarations.Declaration.{Declaration}
use Rattle.fx_css_types.specs.declared.selectors.Combinator.{Combinator}
use Rattle.fx_css_types.specs.declared.selectors.Compound.{Compound}
use Rattle.fx_css_types.specs.declared.selectors.Selector.{Selector}
use Rattle.fx_css_types.specs.Limits.{form_of, IsOfForm, Fits}
use Rattle.fx_css_types.specs.Specificity.{id_count, class_count, type_count, part_count}
use Rattle.fx_css_parts.specs.Texts.{IsBetweenWhite}
use Rattle.fx_css_parts.specs.Layers.{separates, depth_behind, Separated, last, more}
use Rattle.fx_css_parts.specs.Selecting.{Part, parts_text, names_behind, IsKind, unsaid, any, type, IsCompound, AreLinked, end, link, IsSelector, is_gap}
use Rattle.fx_css_parts.specs.Declaring.{positions, IsStyled, insets, constant, size, yes, no, visible, hidden, collapse, painted, painted_layers, inset_layers, IsDeclared, inherited, styled, other, IsDeclaration, not_colon}
use Rattle.fx_css_parts.specs.Limits.{Start, starts, is_past, past_in_selectors, layer_starts, has_layers, past_in_value, past_behind, past_in_declaration}

-- the first part past a limit begins within the text

abbrev Within : ℕ → ℕ → List Start → Type 0
Within place n ss = (s : Start) → find is_past ss ≡ Some s → s.place < place + n

within_first : (x : Start) (d : List Start) (n : ℕ) (b : Bool) → is_past x ≡ b → Within (x.place + 1) n d → (s : Start) → find is_past (x ∷ d) ≡ Some s → s.place < x.place + suc n
within_first x d n true p h s e =
    let same : x ≡ s = let f = rw p at e in cc in
    subst (λ y. y.place < x.place + suc n) same (omega arith)
within_first x d n false p h s e = let l = h s (rw p at e) in omega (arith, l)

within_by : (comma gap on : Bool) (a b c d : List Start) (x : Start) (n : ℕ) → Within (x.place + 1) n a → Within (x.place + 1) n b → Within (x.place + 1) n c → Within (x.place + 1) n d
    → Within x.place (suc n) (cond comma a (cond gap b (cond on c (x ∷ d))))
within_by true gap on a b c d x n ha hb hc hd = λ s e. let l = ha s e in omega (arith, l)
within_by false true on a b c d x n ha hb hc hd = λ s e. let l = hb s e in omega (arith, l)
within_by false false true a b c d x n ha hb hc hd = λ s e. let l = hc s e in omega (arith, l)
within_by false false false a b c d x n ha hb hc hd = within_first x d n (is_past x) refl hd

starts_within : (text : List ℕ) (on : Bool) (selector compound place : ℕ) → Within place (length text) (starts on selector compound place text)
starts_within [] on selector compound place = λ s e. absurd (cc)
starts_within (c ∷ cs) on selector compound place =
    within_by (c == 44) (is_gap c) on (starts false (selector + 1) 0 (place + 1) cs) (starts false selector compound (place + 1) cs) (starts true selector compound (place + 1) cs) (starts true selector (compound + 1) (place + 1) cs)
    (record { place = place; selector = selector; compound = compound }) (length cs)
    (starts_within cs false (selector + 1) 0 (place + 1)) (starts_within cs false selector compound (place + 1)) (starts_within cs true selector compound (place + 1)) (starts_within cs true selector (compound + 1) (place + 1))

pub selectors_past_within : (text : List ℕ) (at : ℕ) → past_in_selectors text ≡ Some at → at < length text
selectors_past_within text at e =
    let h = map_gives (λ (s : Start). s.place) (find is_past (starts false 0 0 0 text)) at e in
    let l = starts_within text false 0 0 0 h.0 h.1 in
    subst (λ y. y < length text) h.2 (omega (arith, l))

abbrev Holds : ℕ → ℕ → List ℕ → Type 0
Holds place n ps = (i p : ℕ) → slice_get ps i ≡ Some p → p < place + n

holds_first : (place n : ℕ) (c : List ℕ) → Holds (place + 1) n c → (i p : ℕ) → slice_get (place ∷ c) i ≡ Some p → p < place + suc n
holds_first place n c h zero p e = let same : place ≡ p = cc in subst (λ y. y < place + suc n) same (omega arith)
holds_first place n c h (suc i) p e = let l = h i p e in omega (arith, l)

holds_by : (comma on : Bool) (a b c : List ℕ) (place n : ℕ) → Holds (place + 1) n a → Holds (place + 1) n b → Holds (place + 1) n c → Holds place (suc n) (cond comma a (cond on b (place ∷ c)))
holds_by true on a b c place n ha hb hc = λ i p e. let l = ha i p e in omega (arith, l)
holds_by false true a b c place n ha hb hc = λ i p e. let l = hb i p e in omega (arith, l)
holds_by false false a b c place n ha hb hc = holds_first place n c hc

layers_within : (text : List ℕ) (on : Bool) (depth place : ℕ) → Holds place (length text) (layer_starts on depth place text)
layers_within [] on depth place = λ i p e. absurd (cc)
layers_within (c ∷ cs) on depth place =
    holds_by (separates depth c) (on || is_white c) (layer_starts false 0 (place + 1) cs) (layer_starts on (depth_behind depth c) (place + 1) cs) (layer_starts true (depth_behind depth c) (place + 1) cs) place (length cs)
    (layers_within cs false 0 (place + 1)) (layers_within cs on (depth_behind depth c) (place + 1)) (layers_within cs true (depth_behind depth c) (place + 1))

value_within : (f : Option StyleForm) (place : ℕ) (value : List ℕ) (b : Bool) → has_layers f ≡ b → (at : ℕ) → past_in_value f place value ≡ Some at → at < place + length value
value_within f place value true h at e = layers_within value false 0 place 8 at (rw h at e)
value_within f place value false h at e = let g = rw h at e in absurd (cc)

behind_within : (f : Option StyleForm) (place : ℕ) (rest : List ℕ) (at : ℕ) → past_behind f place rest ≡ Some at → at < place + length rest
behind_within f place [] at e = absurd (cc)
behind_within f place (c ∷ cs) at e = let l = value_within f (place + 1) cs (has_layers f) refl at e in omega (arith, l)

pub declaration_past_within : (text : List ℕ) (at : ℕ) → past_in_declaration text ≡ Some at → at < length text
declaration_past_within text at e =
    let l = behind_within (form_of (trimmed (front not_colon text))) (length (front not_colon text)) (behind not_colon text) at e in
    let all : length text ≡ length (front not_colon text) + length (behind not_colon text) = ap length (front_and_behind not_colon text) ∙ length-append (front not_colon text) (behind not_colon text) in
    omega (arith, l, all)

-- a selector has no more parts than bytes

names_few : (ps : List Part) → length (names_behind 46 ps) + length (names_behind 35 ps) + length (names_behind 58 ps) ≤ length (parts_text ps)
names_few [] = omega arith
names_few (p ∷ ps) =
    let h = names_few ps in
    let l = length-append p.name (parts_text ps) in
    grind (arith, nat_tests, h, l)

kind_few : (word : List ℕ) (kind : Option (List ℕ)) → IsKind word kind → cond (is_some kind) 1 0 ≤ length word
kind_few word kind unsaid = omega arith
kind_few word kind any = omega arith
kind_few word kind (type [] i) = absurd (cc)
kind_few word kind (type (c ∷ cs) i) = omega arith

-- the parts of one compound
abbrev parts_in : Compound → ℕ
parts_in c = length c.ids + (length c.classes + length c.pseudos) + cond (is_some c.kind) 1 0

compound_few : (combinator : Option Combinator) (text : List ℕ) (c : Compound) → IsCompound combinator text c → parts_in c ≤ length text
compound_few combinator text c i =
    let names = names_few i.behind_word in
    let kind = kind_few i.word i.kind i.is_kind in
    let all : length text ≡ length i.word + length (parts_text i.behind_word) = ap length i.parts ∙ length-append i.word (parts_text i.behind_word) in
    subst (λ y. parts_in y ≤ length text) (sym i.value) (omega (arith, names, kind, all))

abbrev parts_of : List Compound → ℕ
parts_of cs = id_count cs + class_count cs + type_count cs

parts_cons : (c : Compound) (cs : List Compound) → parts_of (c ∷ cs) ≡ parts_in c + parts_of cs
parts_cons c cs =
    let ids = sum_by-cons (λ (c : Compound). length c.ids) c cs in
    let classes = sum_by-cons (λ (c : Compound). length c.classes + length c.pseudos) c cs in
    let kinds = sum_by-cons (λ (c : Compound). cond (is_some c.kind) 1 0) c cs in
    omega (arith, ids, classes, kinds)

linked_few : (text : List ℕ) (cs : List Compound) → AreLinked text cs → parts_of cs ≤ length text
linked_few text cs end = omega arith
linked_few text cs (link t gap word rest k c others e g i l) =
    let first = compound_few (Some k) word c i in
    let behind = linked_few rest others l in
    let cons = parts_cons c others in
    let all : length t ≡ length gap + length (word ++ rest) = ap length e ∙ length-append gap (word ++ rest) in
    let both = length-append word rest in
    omega (arith, first, behind, cons, all, both)

selector_few : (text : List ℕ) (s : Selector) → IsSelector text s → part_count s ≤ length text
selector_few text s i =
    let first = compound_few None i.word i.first i.is_first in
    let behind = linked_few i.rest i.others i.are_others in
    let cons = parts_cons i.first i.others in
    let all : length text ≡ length i.word + length i.rest = ap length i.parts ∙ length-append i.word i.rest in
    subst (λ y. part_count y ≤ length text) (sym i.value) (omega (arith, first, behind, cons, all))

between_few : (text : List ℕ) (s : Selector) (n : ℕ) → IsBetweenWhite IsSelector text s → length text ≤ n → part_count s ≤ n
between_few text s n b l =
    let few = selector_few b.inner s b.spells in
    let all : length text ≡ length b.is_inner.before + length (b.inner ++ b.is_inner.after) = ap length b.is_inner.parts ∙ length-append b.is_inner.before (b.inner ++ b.is_inner.after) in
    let both = length-append b.inner b.is_inner.after in
    omega (arith, few, all, both, l)

pub selectors_short : (text : List ℕ) (ss : List Selector) (n : ℕ) → Separated IsSelector text ss → length text ≤ n → All (λ (s : Selector). part_count s ≤ n) ss
selectors_short text ss n (last t s one b) l = All-cons (λ (s : Selector). part_count s ≤ n) s [] (between_few t s n b l) (All-nil (λ (s : Selector). part_count s ≤ n))
selectors_short text ss n (more t part rest s others e one flat b m) l =
    let all : length t ≡ length part + suc (length rest) = ap length e ∙ length-append part (44 ∷ rest) in
    All-cons (λ (s : Selector). part_count s ≤ n) s others (between_few part s n b (omega (arith, all, l))) (selectors_short rest others n m (omega (arith, all, l)))

-- a value is of the form of its name

place_small : (xs : List (List ℕ)) (i : ℕ) (x : List ℕ) → slice_get xs i ≡ Some x → i < length xs
place_small [] i x e = absurd (cc)
place_small (y ∷ xs) zero x e = omega arith
place_small (y ∷ xs) (suc i) x e = let l = place_small xs i x e in omega (arith, l)

styled_fits : (f : StyleForm) (text : List ℕ) (d : Declared) → IsStyled f text d → IsOfForm f d
styled_fits f text d (insets t s i) = tt
styled_fits f text d (constant t place e) = place_small positions place t e
styled_fits f text d (size t n i) = tt
styled_fits f text d (yes t e) = tt
styled_fits f text d (no t e) = tt
styled_fits f text d (visible t e) = tt
styled_fits f text d (hidden t e) = tt
styled_fits f text d (collapse t e) = tt
styled_fits f text d (painted t p i) = tt
styled_fits f text d (painted_layers t ps i) = tt
styled_fits f text d (inset_layers t ss i) = tt

form_fits : (f : StyleForm) (d : Declared) → IsOfForm f d → Fits (Some f) d
form_fits f (declared.Plain v) h = h
form_fits f (declared.Paint p) h = h
form_fits f (declared.Paints ps) h = h
form_fits f (declared.SidesList ss) h = h
form_fits f declared.Inherit h = tt

declared_fits : (o : Option StyleForm) (text : List ℕ) (d : Declared) → IsDeclared o text d → Fits o d
declared_fits o text d (inherited f t e) = tt
declared_fits o text d (styled f t v n i) = form_fits f v (styled_fits f t v i)
declared_fits o text d (other t p i) = tt

pub declaration_fits : (text : List ℕ) (d : Declaration) → IsDeclaration text d → Fits (form_of d.name) d.value
declaration_fits text d i = declared_fits (form_of d.name) i.is_value.inner d.value i.is_value.spells
