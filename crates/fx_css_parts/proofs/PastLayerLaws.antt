-- No layer of a value is past the limit just where its layers are few.
use Rattle.std.proofs.Common.{◌≡◌, ℕ, zero, suc, ◌+◌, ◌≤◌, Bool, true, false, cond, not, ◌&&◌, ◌||◌, List, [], ◌∷◌, ◌++◌, length, Option, Some, None, refl, sym, ap, ◌∙◌, subst, arith, ◌⊎◌, inl, inr}
use Rattle.std.specs.Prelude.{◌↔◌, slice_get}
use Rattle.std.specs.List.{list_all}
use Rattle.std.specs.Option.{option_map}
use Rattle.std.proofs.lemmas.Bool.{and_parts}
use Rattle.std.proofs.lemmas.Bool.Decides.{nat_tests}
use Rattle.fx_base.specs.declared.geometry.Sides.{Sides as Insets}
use Rattle.fx_look.specs.declared.styles.StyleForm.{StyleForm}
use Rattle.fx_look.specs.ColorNames.{names}
use Rattle.fx_look.specs.Insets.{four}
use Rattle.fx_text.proofs.FrontLemmas.{then_gives, map_gives}
use Rattle.fx_css_types.specs.declared.declarations.Paint.{Paint}
use Rattle.fx_css_types.specs.declared.declarations.Declared.{Declared}
use Rattle.fx_css_types.specs.declared.declarations.Declaration.{Declaration}
use Rattle.fx_css_parts.specs.Texts.{is_ident, IsBetweenWhite}
use Rattle.fx_css_parts.specs.Layers.{depth_behind, depth_after, separates, is_one, Separated, last, more}
use Rattle.fx_css_parts.specs.Declaring.{IsPaint, AreSides, IsStyled, insets, constant, size, yes, no, visible, hidden, collapse, painted, painted_layers, inset_layers, IsDeclared, inherited, styled, other, declared_at, declaration, with_value, not_colon, declaration_in}
use Rattle.fx_css_parts.specs.Limits.{layer_starts, is_layered, has_layers, past_in_value, past_behind, past_in_declaration}
use Rattle.fx_text.proofs.TrimLemmas.{trimmed_sound, trimmed_complete, front_all}
use Rattle.fx_css_parts.proofs.DeclarationLaws.{paints_read, insets_read, values_read}
use Rattle.fx_text.specs.Classes.{is_white}
use Rattle.fx_text.specs.Fronts.{front, behind}
use Rattle.fx_text.specs.Trimming.{trim_back, trimmed}
use Rattle.fx_css_types.specs.Limits.{form_of, layer_count}

-- how many layers begin
layers : Bool → ℕ → List ℕ → ℕ
layers within depth [] = 0
layers within depth (c ∷ cs) = cond (separates depth c) (layers false 0 cs)
    (cond (within || is_white c) (layers within (depth_behind depth c) cs) (suc (layers true (depth_behind depth c) cs)))

begin_by : (comma on : Bool) (next same new : List ℕ) (place a b c : ℕ) → length next ≡ a → length same ≡ b → length new ≡ c
    → length (cond comma next (cond on same (place ∷ new))) ≡ cond comma a (cond on b (suc c))
begin_by true on next same new place a b c n s m = n
begin_by false true next same new place a b c n s m = s
begin_by false false next same new place a b c n s m = ap suc m

begin : (within : Bool) (depth place : ℕ) (text : List ℕ) → length (layer_starts within depth place text) ≡ layers within depth text
unfolding layers
begin within depth place [] = refl
begin within depth place (c ∷ cs) =
    begin_by (separates depth c) (within || is_white c) (layer_starts false 0 (place + 1) cs) (layer_starts within (depth_behind depth c) (place + 1) cs) (layer_starts true (depth_behind depth c) (place + 1) cs)
    place (layers false 0 cs) (layers within (depth_behind depth c) cs) (layers true (depth_behind depth c) cs)
    (begin false 0 (place + 1) cs) (begin within (depth_behind depth c) (place + 1) cs) (begin true (depth_behind depth c) (place + 1) cs)

-- white

white_no_comma : (depth c : ℕ) → is_white c ≡ true → separates depth c ≡ false
white_no_comma depth c e = grind (arith, nat_tests, e)

white_flat : (depth c : ℕ) → is_white c ≡ true → depth_behind depth c ≡ depth
white_flat depth c e = grind (arith, nat_tests, e)

second : {A : Type 0} (a b : Bool) (x y z : A) → a ≡ false → b ≡ true → cond a x (cond b y z) ≡ y
second a b x y z e f = ap (λ v. cond v x (cond b y z)) e ∙ ap (λ v. cond v y z) f

third : {A : Type 0} (a b : Bool) (x y z : A) → a ≡ false → b ≡ false → cond a x (cond b y z) ≡ z
third a b x y z e f = ap (λ v. cond v x (cond b y z)) e ∙ ap (λ v. cond v y z) f

behind_white : (depth : ℕ) (white text : List ℕ) → list_all is_white white ≡ true → layers false depth (white ++ text) ≡ layers false depth text
unfolding layers
behind_white depth [] text all = refl
behind_white depth (c ∷ white) text all =
    let both = and_parts (is_white c) (list_all is_white white) all in
    second (separates depth c) (is_white c) (layers false 0 (white ++ text)) _ _ (white_no_comma depth c both.0) both.0
    ∙ ap (λ d. layers false d (white ++ text)) (white_flat depth c both.0)
    ∙ behind_white depth white text both.1

or_true : (a b : Bool) → b ≡ true → (a || b) ≡ true
or_true true b e = refl
or_true false b e = e

only_white : (within : Bool) (depth : ℕ) (white : List ℕ) → list_all is_white white ≡ true → layers within depth white ≡ 0
unfolding layers
only_white within depth [] all = refl
only_white within depth (c ∷ white) all =
    let both = and_parts (is_white c) (list_all is_white white) all in
    second (separates depth c) (within || is_white c) (layers false 0 white) (layers within (depth_behind depth c) white) (suc (layers true (depth_behind depth c) white))
    (white_no_comma depth c both.0) (or_true within (is_white c) both.0)
    ∙ only_white within (depth_behind depth c) white both.1

same_by : (comma on : Bool) (a b c d e f : ℕ) → a ≡ d → b ≡ e → c ≡ f → cond comma a (cond on b (suc c)) ≡ cond comma d (cond on e (suc f))
same_by true on a b c d e f x y z = x
same_by false true a b c d e f x y z = y
same_by false false a b c d e f x y z = ap suc z

before_white : (within : Bool) (depth : ℕ) (text white : List ℕ) → list_all is_white white ≡ true → layers within depth (text ++ white) ≡ layers within depth text
unfolding layers
before_white within depth [] white all = only_white within depth white all
before_white within depth (c ∷ cs) white all =
    same_by (separates depth c) (within || is_white c) _ _ _ _ _ _ (before_white false 0 cs white all) (before_white within (depth_behind depth c) cs white all) (before_white true (depth_behind depth c) cs white all)

all_white_trimmed : (text : List ℕ) (b : Bool) → list_all is_white text ≡ b → (trimmed text ≡ [] → ⊥) → list_all is_white text ≡ false
all_white_trimmed text true e n = absurd (n (ap trim_back (front_all text e)))
all_white_trimmed text false e n = e

-- a layer in front of a comma, and the last one

not_true : (b : Bool) → not b ≡ true → b ≡ false
not_true true e = absurd (cc)
not_true false e = refl

comma_next : (within : Bool) (depth : ℕ) (rest : List ℕ) → depth ≡ 0 → layers within depth (44 ∷ rest) ≡ layers false 0 rest
unfolding layers
comma_next within depth rest e = ap (λ d. cond (separates d 44) (layers false 0 rest) (cond (within || false) (layers within (depth_behind d 44) rest) (suc (layers true (depth_behind d 44) rest)))) e

inside : (depth : ℕ) (part rest : List ℕ) → is_one depth part ≡ true → depth_after depth part ≡ 0 → layers true depth (part ++ (44 ∷ rest)) ≡ layers false 0 rest
unfolding layers
inside depth [] rest one flat = comma_next true depth rest flat
inside depth (c ∷ cs) rest one flat =
    let both = and_parts (not (separates depth c)) (is_one (depth_behind depth c) cs) one in
    ap (λ v. cond v (layers false 0 (cs ++ (44 ∷ rest))) (layers true (depth_behind depth c) (cs ++ (44 ∷ rest)))) (not_true (separates depth c) both.0)
    ∙ inside (depth_behind depth c) cs rest both.1 flat

first_by : (depth c : ℕ) (cs rest : List ℕ) (b : Bool) → is_white c ≡ b → (is_white c && list_all is_white cs) ≡ false → separates depth c ≡ false
    → (list_all is_white cs ≡ false → layers false (depth_behind depth c) (cs ++ (44 ∷ rest)) ≡ suc (layers false 0 rest)) → layers true (depth_behind depth c) (cs ++ (44 ∷ rest)) ≡ layers false 0 rest
    → layers false depth ((c ∷ cs) ++ (44 ∷ rest)) ≡ suc (layers false 0 rest)
unfolding layers
first_by depth c cs rest true w shown one h new =
    second (separates depth c) (is_white c) (layers false 0 (cs ++ (44 ∷ rest))) _ _ one w ∙ h (ap (λ v. v && list_all is_white cs) (sym w) ∙ shown)
first_by depth c cs rest false w shown one h new =
    third (separates depth c) (is_white c) (layers false 0 (cs ++ (44 ∷ rest))) _ _ one w ∙ ap suc new

first : (depth : ℕ) (part rest : List ℕ) → list_all is_white part ≡ false → is_one depth part ≡ true → depth_after depth part ≡ 0 → layers false depth (part ++ (44 ∷ rest)) ≡ suc (layers false 0 rest)
first depth [] rest shown one flat = absurd (cc)
first depth (c ∷ cs) rest shown one flat =
    let both = and_parts (not (separates depth c)) (is_one (depth_behind depth c) cs) one in
    first_by depth c cs rest (is_white c) refl shown (not_true (separates depth c) both.0) (λ s. first (depth_behind depth c) cs rest s both.1 flat) (inside (depth_behind depth c) cs rest both.1 flat)

inside_last : (depth : ℕ) (part : List ℕ) → is_one depth part ≡ true → layers true depth part ≡ 0
unfolding layers
inside_last depth [] one = refl
inside_last depth (c ∷ cs) one =
    let both = and_parts (not (separates depth c)) (is_one (depth_behind depth c) cs) one in
    ap (λ v. cond v (layers false 0 cs) (layers true (depth_behind depth c) cs)) (not_true (separates depth c) both.0) ∙ inside_last (depth_behind depth c) cs both.1

last_by : (depth c : ℕ) (cs : List ℕ) (b : Bool) → is_white c ≡ b → (is_white c && list_all is_white cs) ≡ false → separates depth c ≡ false
    → (list_all is_white cs ≡ false → layers false (depth_behind depth c) cs ≡ 1) → layers true (depth_behind depth c) cs ≡ 0 → layers false depth (c ∷ cs) ≡ 1
unfolding layers
last_by depth c cs true w shown one h new =
    second (separates depth c) (is_white c) (layers false 0 cs) (layers false (depth_behind depth c) cs) (suc (layers true (depth_behind depth c) cs)) one w
    ∙ h (ap (λ v. v && list_all is_white cs) (sym w) ∙ shown)
last_by depth c cs false w shown one h new =
    third (separates depth c) (is_white c) (layers false 0 cs) (layers false (depth_behind depth c) cs) (suc (layers true (depth_behind depth c) cs)) one w ∙ ap suc new

last_one : (depth : ℕ) (part : List ℕ) → list_all is_white part ≡ false → is_one depth part ≡ true → layers false depth part ≡ 1
last_one depth [] shown one = absurd (cc)
last_one depth (c ∷ cs) shown one =
    let both = and_parts (not (separates depth c)) (is_one (depth_behind depth c) cs) one in
    last_by depth c cs (is_white c) refl shown (not_true (separates depth c) both.0) (λ s. last_one (depth_behind depth c) cs s both.1) (inside_last (depth_behind depth c) cs both.1)

-- layers that are not empty

shown_part : {A : Type 0} (Spells : List ℕ → A → Type 0) (some : (x : A) → Spells [] x → ⊥) (part : List ℕ) (x : A) → IsBetweenWhite Spells part x → list_all is_white part ≡ false
shown_part Spells some part x b =
    all_white_trimmed part (list_all is_white part) refl
    (λ n. some x (subst (λ y. Spells y x) (sym (trimmed_complete part b.inner b.is_inner) ∙ n) b.spells))

separated_begin : {A : Type 0} (Spells : List ℕ → A → Type 0) (some : (x : A) → Spells [] x → ⊥) (text : List ℕ) (xs : List A) → Separated Spells text xs → layers false 0 text ≡ length xs
separated_begin Spells some text xs (last t x one b) = last_one 0 t (shown_part Spells some t x b) one
separated_begin Spells some text xs (more t part rest x ys e one flat b m) =
    ap (layers false 0) e ∙ first 0 part rest (shown_part Spells some part x b) one flat ∙ ap suc (separated_begin Spells some rest ys m)

no_paint : (p : Paint) → IsPaint [] p → ⊥
unfolding names
no_paint p i = let both : None ≡ Some p = paints_read.complete [] p i in cc

no_sides : (s : Insets) → AreSides [] s → ⊥
unfolding four
no_sides s i = let both : None ≡ Some s = insets_read.complete [] s i in cc

-- values

styled_begin : (f : StyleForm) (text : List ℕ) (d : Declared) → IsStyled f text d → is_layered f ≡ true → layers false 0 text ≡ layer_count d
styled_begin f text d (insets t s i) h = absurd (cc)
styled_begin f text d (constant t place e) h = absurd (cc)
styled_begin f text d (size t n i) h = absurd (cc)
styled_begin f text d (yes t e) h = absurd (cc)
styled_begin f text d (no t e) h = absurd (cc)
styled_begin f text d (visible t e) h = absurd (cc)
styled_begin f text d (hidden t e) h = absurd (cc)
styled_begin f text d (collapse t e) h = absurd (cc)
styled_begin f text d (painted t p i) h = absurd (cc)
styled_begin f text d (painted_layers t ps i) h = separated_begin IsPaint no_paint t ps i
styled_begin f text d (inset_layers t ss i) h = separated_begin AreSides no_sides t ss i

-- values of other forms have no layers
styled_flat : (f : StyleForm) (text : List ℕ) (d : Declared) → IsStyled f text d → is_layered f ≡ false → layer_count d ≡ 0
styled_flat f text d (insets t s i) h = refl
styled_flat f text d (constant t place e) h = refl
styled_flat f text d (size t n i) h = refl
styled_flat f text d (yes t e) h = refl
styled_flat f text d (no t e) h = refl
styled_flat f text d (visible t e) h = refl
styled_flat f text d (hidden t e) h = refl
styled_flat f text d (collapse t e) h = refl
styled_flat f text d (painted t p i) h = refl
styled_flat f text d (painted_layers t ps i) h = absurd (cc)
styled_flat f text d (inset_layers t ss i) h = absurd (cc)

-- `inherit` is one word, and counts for no layer
declared_begin : (o : Option StyleForm) (text : List ℕ) (d : Declared) → IsDeclared o text d → has_layers o ≡ true → (layers false 0 text ≡ layer_count d) ⊎ ((layers false 0 text ≡ 1) × (layer_count d ≡ 0))
unfolding layers
declared_begin o text d (inherited f t e) h = inr (ap (layers false 0) e, refl)
declared_begin o text d (styled f t v n i) h = inl (styled_begin f t v i h)
declared_begin o text d (other t p i) h = absurd (cc)

declared_flat : (o : Option StyleForm) (text : List ℕ) (d : Declared) → IsDeclared o text d → has_layers o ≡ false → layer_count d ≡ 0
declared_flat o text d (inherited f t e) h = refl
declared_flat o text d (styled f t v n i) h = styled_flat f t v i h
declared_flat o text d (other t p i) h = refl

get_few : (xs : List ℕ) (i : ℕ) → slice_get xs i ≡ None → length xs ≤ i
get_few [] i e = omega arith
get_few (x ∷ xs) zero e = absurd (cc)
get_few (x ∷ xs) (suc i) e = let rest : length xs ≤ i = get_few xs i e in omega arith

get_past : (xs : List ℕ) (i : ℕ) → length xs ≤ i → slice_get xs i ≡ None
get_past [] i h = refl
get_past (x ∷ xs) zero h = absurd (omega arith)
get_past (x ∷ xs) (suc i) h = get_past xs i (omega arith)

-- the white round a value holds no layer
trimmed_begin : (place : ℕ) (value : List ℕ) → length (layer_starts false 0 place value) ≡ layers false 0 (trimmed value)
trimmed_begin place value =
    let t = trimmed_sound value in
    begin false 0 place value ∙ ap (layers false 0) t.parts ∙ behind_white 0 t.before (trimmed value ++ t.after) t.white_before ∙ before_white false 0 (trimmed value) t.after t.white_after

few_by : (layers count : ℕ) → (layers ≡ count) ⊎ ((layers ≡ 1) × (count ≡ 0)) → layers ≤ 8 → count ≤ 8
few_by layers count (inl e) few = omega arith
few_by layers count (inr e) few = let none : count ≡ 0 = e.1 in omega arith

some_by : (layers count : ℕ) → (layers ≡ count) ⊎ ((layers ≡ 1) × (count ≡ 0)) → count ≤ 8 → layers ≤ 8
some_by layers count (inl e) few = omega arith
some_by layers count (inr e) few = let one : layers ≡ 1 = e.0 in omega arith

few_in : (o : Option StyleForm) (place : ℕ) (value : List ℕ) (d : Declared) → IsDeclared o (trimmed value) d → (b : Bool) → has_layers o ≡ b → past_in_value o place value ≡ None → layer_count d ≤ 8
few_in o place value d i false h e = let none : layer_count d ≡ 0 = declared_flat o (trimmed value) d i h in omega arith
few_in o place value d i true h e =
    let get : slice_get (layer_starts false 0 place value) 8 ≡ None = sym (ap (λ b. cond b (slice_get (layer_starts false 0 place value) 8) None) h) ∙ e in
    let few : length (layer_starts false 0 place value) ≤ 8 = get_few (layer_starts false 0 place value) 8 get in
    let same : length (layer_starts false 0 place value) ≡ layers false 0 (trimmed value) = trimmed_begin place value in
    few_by (layers false 0 (trimmed value)) (layer_count d) (declared_begin o (trimmed value) d i h) (omega arith)

open_in : (o : Option StyleForm) (place : ℕ) (value : List ℕ) (d : Declared) → IsDeclared o (trimmed value) d → (b : Bool) → has_layers o ≡ b → layer_count d ≤ 8 → past_in_value o place value ≡ None
open_in o place value d i false h few = ap (λ b. cond b (slice_get (layer_starts false 0 place value) 8) None) h
open_in o place value d i true h few =
    let all : layers false 0 (trimmed value) ≤ 8 = some_by (layers false 0 (trimmed value)) (layer_count d) (declared_begin o (trimmed value) d i h) few in
    let same : length (layer_starts false 0 place value) ≡ layers false 0 (trimmed value) = trimmed_begin place value in
    ap (λ b. cond b (slice_get (layer_starts false 0 place value) 8) None) h ∙ get_past (layer_starts false 0 place value) 8 (omega arith)

-- a value whose layers are few has none past the limit
pub value_open : (o : Option StyleForm) (place : ℕ) (value : List ℕ) (d : Declared) → declared_at o (trimmed value) ≡ Some d → layer_count d ≤ 8 → past_in_value o place value ≡ None
value_open o place value d e few = open_in o place value d ((values_read o).sound (trimmed value) d e) (has_layers o) refl few

-- declarations

abbrev Tells : List ℕ → List ℕ → Declaration → Type 0
Tells before rest d = (past_behind (form_of (trimmed before)) (length before) rest ≡ None) ↔ (layer_count d.value ≤ 8)

declaration_by : (before rest : List ℕ) (d : Declaration) → with_value (trimmed before) rest ≡ Some d → Tells before rest d
declaration_by before [] d e = absurd (cc)
declaration_by before (c ∷ cs) d e =
    let name = trimmed before in
    let good = then_gives (is_ident name) (option_map (declaration name) (declared_at (form_of name) (trimmed cs))) d e in
    let h = map_gives (declaration name) (declared_at (form_of name) (trimmed cs)) d good.1 in
    let i = (values_read (form_of name)).sound (trimmed cs) h.0 h.1 in
    subst (λ y. Tells before (c ∷ cs) y) h.2
    (few_in (form_of name) (length before + 1) cs h.0 i (has_layers (form_of name)) refl, open_in (form_of name) (length before + 1) cs h.0 i (has_layers (form_of name)) refl)

pub layers_tell : (text : List ℕ) (d : Declaration) → declaration_in text ≡ Some d → (past_in_declaration text ≡ None) ↔ (layer_count d.value ≤ 8)
layers_tell text d e = declaration_by (front not_colon text) (behind not_colon text) d e
