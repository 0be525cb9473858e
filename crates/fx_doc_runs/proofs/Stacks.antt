-- The innermost open name, and one more attribute in a tag.
-- Below the answers on heads and end tags.
use Rattle.std.proofs.Common.{◌≡◌, ℕ, ◌+◌, ◌-◌, ◌<◌, ◌≤◌, List, [], ◌∷◌, ◌++◌, zero, suc, map, length, drop, get_or, refl, sym, ◌∙◌, ap, add-one, drop-cons, arith}
use Rattle.fx_base.specs.declared.positions.Position.{Position}
use Rattle.fx_doc_grammar.specs.Grammar.{Attr, Head as HeadView}
use Rattle.fx_doc_grammar.specs.Machine.{Stack, Bottom, Opened, stack_depth}
use Rattle.fx_doc_runs.specs.Views.{attr_view, head_view, level_view, stack_from, stack_view, open_name}
use Rattle.fx_doc_runs.specs.declared.document.Attribute.{Attribute}
use Rattle.fx_doc_runs.specs.declared.modes.Open.{Open}

attrs_push : (xs : List Attribute) (a : Attribute) → map attr_view (xs ++ (a ∷ [])) ≡ map attr_view xs ++ (attr_view a ∷ [])
attrs_push [] a = refl
attrs_push (x ∷ xs) a = ap (λ (y : List Attr). attr_view x ∷ y) (attrs_push xs a)

abbrev pub head_by : List ℕ → List Attr → Position → HeadView
head_by n ats p = record { name = n; attributes = ats; position = p }

pub head_push : (name : List ℕ) (xs ys : List Attribute) (a : Attribute) (p : Position) (b : Attr) → ys ≡ xs ++ (a ∷ []) → attr_view a ≡ b → head_by name (map attr_view ys) p ≡ head_by name (map attr_view xs ++ (b ∷ [])) p
head_push name xs ys a p b e f = ap (λ (y : List Attr). head_by name y p) (ap (map attr_view) e ∙ (attrs_push xs a ∙ ap (λ (y : Attr). map attr_view xs ++ (y ∷ [])) f))

last_from : (s : Stack) (y : Open) (os : List Open) (x : Open) → x ≡ get_or (y ∷ os) (length os) x → open_name (stack_from s (y ∷ os)) ≡ x.head.name
last_from s y [] x e = ap (λ (z : Open). z.head.name) (sym e)
last_from s y (z ∷ zs) x e = last_from (Opened s (level_view y.before) (head_view y.head)) z zs x e

pub last_open : (os : List Open) (x : Open) → 0 < length os → x ≡ get_or os (length os - 1) x → open_name (stack_view os) ≡ x.head.name
last_open [] x h e = absurd (omega arith)
last_open (y ∷ os) x h e = last_from Bottom y os x (e ∙ ap (λ n. get_or (y ∷ os) n x) (one_less (length os)))
  where
    one_less : (n : ℕ) → suc n - 1 ≡ n
    one_less n = omega arith

pub byte_found : (n bs : List ℕ) (i : ℕ) → n ≡ bs → i < length bs → drop i n ≡ get_or bs i 0 ∷ drop (i + 1) n
byte_found n bs i e h = ap (drop i) e ∙ (drop-cons bs i 0 h ∙ (ap (λ y. get_or bs i 0 ∷ drop (suc i) y) (sym e) ∙ ap (λ y. get_or bs i 0 ∷ drop y n) (sym (add-one i))))

drop_all : (bs : List ℕ) (i : ℕ) → length bs ≤ i → drop i bs ≡ []
drop_all [] zero h = refl
drop_all [] (suc i) h = refl
drop_all (b ∷ bs) zero h = absurd (let g : suc (length bs) ≤ 0 = h in omega arith)
drop_all (b ∷ bs) (suc i) h = drop_all bs i (let g : suc (length bs) ≤ suc i = h in omega arith)

pub byte_none : (n bs : List ℕ) (i : ℕ) → n ≡ bs → length bs ≤ i → drop i n ≡ []
byte_none n bs i e h = ap (drop i) e ∙ drop_all bs i h

depth_from : (s : Stack) (os : List Open) → stack_depth (stack_from s os) ≡ stack_depth s + length os
depth_from s [] = none_more (stack_depth s)
  where
    none_more : (n : ℕ) → n ≡ n + 0
    none_more n = omega arith
depth_from s (x ∷ os) =
    let h : stack_depth (stack_from (Opened s (level_view x.before) (head_view x.head)) os) ≡ suc (stack_depth s) + length os = depth_from (Opened s (level_view x.before) (head_view x.head)) os in
    h ∙ moved (stack_depth s) (length os)
  where
    moved : (n m : ℕ) → suc n + m ≡ n + suc m
    moved n m = omega arith

pub depth_is : (os : List Open) (n : ℕ) → n ≡ length os → stack_depth (stack_view os) ≡ n
depth_is os n e =
    let h : stack_depth (stack_view os) ≡ 0 + length os = depth_from Bottom os in
    omega arith
