-- Paints that are kept, declaration by declaration.
use Rattle.std.proofs.Common.{◌≡◌, ◌++◌, ◌∷◌, [], ◌<◌, ◌≤◌, ◌+◌, ℕ, List, Option, Some, None, get_or, drop, length, refl, sym, ◌∙◌, ap, append_assoc}
use Rattle.std.specs.List.{flat_map}
use Rattle.std.specs.Option.{option_map}
use Rattle.std.proofs.lemmas.List.{append-nil, drop_all, drop_more}
use Rattle.fx_look.specs.StyleRows.{style_named}
use Rattle.fx_look.specs.declared.styles.StyleName.{StyleName}
use Rattle.fx_css_types.specs.Limits.{row_of}
use Rattle.fx_css_types.specs.declared.sheets.SheetAt.{SheetAt}
use Rattle.fx_css_types.specs.declared.sheets.Candidate.{Candidate}
use Rattle.fx_css_types.specs.declared.declarations.Declaration.{Declaration}
use Rattle.fx_cascade.specs.Sources.{declarations_of, rule_at}
use Rattle.fx_lookup.specs.declared.named.NamedPaint.{NamedPaint}
use Rattle.fx_node_style.specs.Keeping.{declared_names, names_of}

pub flat-append : {X Y : Type 0} (f : X → List Y) (xs ys : List X)
    → flat_map f (xs ++ ys) ≡ flat_map f xs ++ flat_map f ys
flat-append f [] ys = refl
flat-append f (x ∷ xs) ys =
    ap (λ l. f x ++ l) (flat-append f xs ys) ∙ sym (append_assoc (f x) (flat_map f xs) (flat_map f ys))

abbrev pub Gives : Type 0
Gives = List ℕ → List NamedPaint

-- one more declaration's
pub one_pushed : (f : Gives) (ds : List Declaration) (i : ℕ) (d : Declaration) (old new all : List NamedPaint)
    → i < length ds → d ≡ get_or ds i d → new ≡ old ++ f d.name
    → old ++ flat_map f (names_of (drop i ds)) ≡ all → new ++ flat_map f (names_of (drop (i + 1) ds)) ≡ all
one_pushed f ds i d old new all within is made so_far =
    ap (λ l. l ++ flat_map f (names_of (drop (i + 1) ds))) made
    ∙ append_assoc old (f d.name) (flat_map f (names_of (drop (i + 1) ds)))
    ∙ ap (λ (x : Declaration). old ++ (f x.name ++ flat_map f (names_of (drop (i + 1) ds)))) is
    ∙ ap (λ (l : List Declaration). old ++ flat_map f (names_of l)) (sym (drop_more ds i d within))
    ∙ so_far

-- one more rule's
pub rule_pushed : (f : Gives) (sheets : List SheetAt) (matched : List Candidate) (i : ℕ) (d : Candidate)
    (old new all : List NamedPaint) → i < length matched
    → new ≡ old ++ flat_map f (names_of (declarations_of (rule_at sheets (get_or matched i d))))
    → old ++ flat_map f (declared_names sheets (drop i matched)) ≡ all
    → new ++ flat_map f (declared_names sheets (drop (i + 1) matched)) ≡ all
unfolding declared_names
rule_pushed f sheets matched i d old new all within made so_far =
    let more = declared_names sheets (drop (i + 1) matched) in
    let own : List (List ℕ) = names_of (declarations_of (rule_at sheets (get_or matched i d))) in
    ap (λ l. l ++ flat_map f more) made
    ∙ append_assoc old (flat_map f own) (flat_map f more)
    ∙ ap (λ l. old ++ l) (sym (flat-append f own more))
    ∙ ap (λ (l : List Candidate). old ++ flat_map f (declared_names sheets l)) (sym (drop_more matched i d within))
    ∙ so_far

pub rules_done : (f : Gives) (sheets : List SheetAt) (matched : List Candidate) (i : ℕ) (old all : List NamedPaint)
    → length matched ≤ i → old ++ flat_map f (declared_names sheets (drop i matched)) ≡ all → old ≡ all
unfolding declared_names
rules_done f sheets matched i old all past so_far =
    sym (append-nil old)
    ∙ ap (λ (l : List Candidate). old ++ flat_map f (declared_names sheets l)) (sym (drop_all i matched past))
    ∙ so_far

none_named : (o : Option ℕ) (row : Option StyleName)
    → option_map (λ (place : ℕ). record { 0 = place }) o ≡ row → row ≡ None → o ≡ None
none_named None row e none = refl
none_named (Some place) row e none = absurd (cc)

-- a name without a row
pub no_row : (name : List ℕ) (row : Option StyleName) → row ≡ row_of name → row ≡ None → style_named name ≡ None
no_row name row e none = none_named (style_named name) row (sym e) none

some_named : (o : Option ℕ) (row : StyleName) → option_map (λ (place : ℕ). record { 0 = place }) o ≡ Some row
    → o ≡ Some row.0
some_named None row e = absurd (cc)
some_named (Some place) row e = ap (option_map (λ (r : StyleName). r.0)) e

pub the_row : (name : List ℕ) (row : StyleName) → Some row ≡ row_of name → style_named name ≡ Some row.0
the_row name row e = some_named (style_named name) row (sym e)
