-- A text spells one declaration at most, and the reading finds it.
use Rattle.std.proofs.Common.{◌≡◌, ℕ, zero, suc, ◌<◌, ◌⊎◌, inl, inr, Bool, true, false, cond, ◌==◌, List, [], ◌∷◌, ◌++◌, length, codes, Option, Some, None, refl, sym, ap, ◌∙◌, subst, arith, slice_index_or}
use Rattle.std.specs.Prelude.{slice_get, ℤ}
use Rattle.std.specs.List.{list_all}
use Rattle.std.specs.Option.{option_map, option_map_or}
use Rattle.std.specs.Str.{bytes_eq}
use Rattle.std.proofs.lemmas.Bool.Decides.{nat_tests}
use Rattle.std.proofs.lemmas.List.Quantifiers.{position-Some}
use Rattle.std.proofs.lemmas.Slice.Eq.{bytes_eq-Decides}
use Rattle.fx_base.specs.declared.color.Color.{Color as Rgba}
use Rattle.fx_base.specs.declared.geometry.Sides.{Sides as Insets}
use Rattle.fx_base.specs.declared.kinds.Family.TheVariants.{Pos}
use Rattle.fx_base.specs.declared.values.Value.TheVariants as value
use Rattle.fx_look.specs.declared.styles.StyleForm.{StyleForm}
use Rattle.fx_look.specs.declared.styles.StyleForm.TheVariants as form
use Rattle.fx_look.specs.declared.styles.StyleName.{StyleName}
use Rattle.fx_look.specs.Colors.{color_at}
use Rattle.fx_look.specs.Numbers.{IsSize, size_at}
use Rattle.fx_text.proofs.FrontLemmas.{bytes_tell, front_and_behind, front-stop, behind-stop, behind_stops, then_gives, map_gives}
use Rattle.fx_look.proofs.ColorLemmas.{color_sound, color_complete}
use Rattle.fx_look.proofs.NumberLemmas.{size_sound, size_complete}
use Rattle.fx_look.proofs.InsetLemmas.{sides_sound, sides_complete, sizes_read}
use Rattle.fx_css_types.specs.declared.declarations.Paint.{Paint}
use Rattle.fx_css_types.specs.declared.declarations.Paint.TheVariants as paint
use Rattle.fx_css_types.specs.declared.declarations.Declared.{Declared}
use Rattle.fx_css_types.specs.declared.declarations.Declared.TheVariants as declared
use Rattle.fx_css_types.specs.declared.declarations.Declaration.{Declaration}
use Rattle.fx_text.specs.Identifiers.{is_later}
use Rattle.fx_css_parts.specs.Texts.{is_ident}
use Rattle.fx_css_parts.specs.Layers.{separated_at}
use Rattle.fx_css_parts.specs.Declaring.{IsPaint, color, named, AreSides, positions, IsStyled, insets, constant, size, yes, no, visible, hidden, collapse, painted, painted_layers, inset_layers, IsDeclared, inherited, styled, other, IsDeclaration, named_at, paint_at, insets_at, position_at, truth_at, visibility_at, styled_at, declared_at, declaration, with_value, not_colon, declaration_in}
use Rattle.fx_text.proofs.TrimLemmas.{trimmed_sound, trimmed_complete}
use Rattle.fx_css_parts.proofs.SelectorLemmas.{not_not}
use Rattle.fx_css_parts.proofs.SeparatedLaws.{IsReading, between_read, between_sound, separated_read}
use Rattle.fx_css_parts.proofs.SelectorLaws.{ident_later, all_more, all_append}
use Rattle.fx_text.specs.Classes.{is_white}
use Rattle.fx_text.specs.Fronts.{front, behind, stops}
use Rattle.fx_text.specs.Trimming.{trimmed, IsTrimmed}
use Rattle.fx_css_types.specs.Limits.{form_of}

-- paints and sides

paint_complete : (text : List ℕ) (p : Paint) → IsPaint text p → paint_at text ≡ Some p
paint_complete text p (color t c i) = ap (λ y. option_map_or (λ c. Some (paint.Color c)) y (named_at t))
    (color_complete t c i)
paint_complete text p (named t i n) =
    ap (λ y. option_map_or (λ c. Some (paint.Color c)) y (named_at t)) (colorless (color_at t) refl)
    ∙ ap (λ b. cond b (Some (paint.Named t)) None) i
  where
    colorless : (o : Option Rgba) → color_at t ≡ o → color_at t ≡ None
    colorless None e = e
    colorless (Some c) e = absurd (n c (color_sound t c e))

paint_sound_by : (text : List ℕ) (o : Option Rgba) (p : Paint) → color_at text ≡ o
    → option_map_or (λ c. Some (paint.Color c)) o (named_at text) ≡ Some p → IsPaint text p
paint_sound_by text None p e h =
    let good = then_gives (is_ident text) (Some (paint.Named text)) p h in
    let same : paint.Named text ≡ p = cc in
    subst (λ y. IsPaint text y) same (named text good.0 (λ c i. let both : None ≡ Some c = sym e
    ∙ color_complete text c i in cc))
paint_sound_by text (Some c) p e h =
    let same : paint.Color c ≡ p = cc in
    subst (λ y. IsPaint text y) same (color text c (color_sound text c e))

pub paints_read : IsReading IsPaint paint_at
paints_read = record { sound = λ text p e. paint_sound_by text (color_at text) p refl e; complete = paint_complete }

pub insets_read : IsReading AreSides insets_at
insets_read = record {
  sound = λ text s e. sides_sound IsSize size_at sizes_read text s e;
  complete = λ text s i. sides_complete IsSize size_at sizes_read text s i;
}

-- constants

get_at : (xs : List (List ℕ)) (i : ℕ) (d : List ℕ) → i < length xs → slice_get xs i ≡ Some (slice_index_or xs i d)
get_at [] i d within = absurd (omega arith)
get_at (x ∷ xs) zero d within = refl
get_at (x ∷ xs) (suc i) d within = get_at xs i d (omega arith)

position_sound : (word : List ℕ) (place : ℕ) → position_at word ≡ Some place → slice_get positions place ≡ Some word
position_sound word place e =
    let p = position-Some (λ entry. bytes_eq entry word) positions place word e in
    get_at positions place word p.0 ∙ ap (λ v. Some v) (by_test (slice_index_or positions place word) p.1)
  where
    by_test : (entry : List ℕ) → bytes_eq entry word ≡ true → entry ≡ word
    by_test entry t = elim (bytes_tell entry word) [ inl u ↦ u.1 | inr u ↦ absurd (cc) ]

position_complete : (place : ℕ) (word : List ℕ) → slice_get positions place ≡ Some word → position_at word ≡ Some place
position_complete zero word e = let t : codes "top-left" ≡ word = cc in subst (λ v. position_at v ≡ Some 0) t refl
position_complete (suc zero) word e = let t : codes "top-center"
    ≡ word = cc in subst (λ v. position_at v ≡ Some 1) t refl
position_complete (suc (suc zero)) word e = let t : codes "top-right"
    ≡ word = cc in subst (λ v. position_at v ≡ Some 2) t refl
position_complete (suc (suc (suc zero))) word e = let t : codes "center-left"
    ≡ word = cc in subst (λ v. position_at v ≡ Some 3) t refl
position_complete (suc (suc (suc (suc zero)))) word e = let t : codes "center"
    ≡ word = cc in subst (λ v. position_at v ≡ Some 4) t refl
position_complete (suc (suc (suc (suc (suc zero))))) word e = let t : codes "center-right"
    ≡ word = cc in subst (λ v. position_at v ≡ Some 5) t refl
position_complete (suc (suc (suc (suc (suc (suc zero)))))) word e = let t : codes "bottom-left"
    ≡ word = cc in subst (λ v. position_at v ≡ Some 6) t refl
position_complete (suc (suc (suc (suc (suc (suc (suc zero))))))) word e = let t : codes "bottom-center"
    ≡ word = cc in subst (λ v. position_at v ≡ Some 7) t refl
position_complete (suc (suc (suc (suc (suc (suc (suc (suc zero)))))))) word e = let t : codes "bottom-right"
    ≡ word = cc in subst (λ v. position_at v ≡ Some 8) t refl
position_complete (suc (suc (suc (suc (suc (suc (suc (suc (suc p))))))))) word e = absurd (cc)

truth_cases : (word : List ℕ) (b : Bool) → truth_at word ≡ Some b → ((word ≡ codes "true") × (true ≡ b))
    ⊎ ((word ≡ codes "false") × (false ≡ b))
truth_cases word b e = elim (bytes_tell word (codes "true")) [
  | inl t ↦ let f = rw t.0 at e in inl (t.1, cc)
  | inr t ↦ let f = rw t at e in elim (bytes_tell word (codes "false")) [
    | inl u ↦ let g = rw u.0 at f in inr (u.1, cc)
    | inr u ↦ let g = rw u at f in absurd (cc)
  ]
]

abbrev Seen : List ℕ → Bool → Type 0
Seen word b = ((word ≡ codes "visible") × (true ≡ b)) ⊎ (((word ≡ codes "hidden") × (false ≡ b))
    ⊎ ((word ≡ codes "collapse") × (false ≡ b)))

visibility_cases : (word : List ℕ) (b : Bool) → visibility_at word ≡ Some b → Seen word b
visibility_cases word b e = elim (bytes_tell word (codes "visible")) [
  | inl t ↦ let f = rw t.0 at e in inl (t.1, cc)
  | inr t ↦ let f = rw t at e in elim (bytes_tell word (codes "hidden")) [
    | inl u ↦ let g = rw u.0 at f in inr (inl (u.1, cc))
    | inr u ↦ let g = rw u at f in elim (bytes_tell word (codes "collapse")) [
      | inl v ↦ let h = rw v.0 at g in inr (inr (v.1, cc))
      | inr v ↦ let h = rw v at g in absurd (cc)
    ]
  ]
]

-- values

styled_complete : (f : StyleForm) (text : List ℕ) (d : Declared) → IsStyled f text d → styled_at f text ≡ Some d
styled_complete f text d (insets t s i) = ap (λ y. option_map (λ s. declared.Plain (value.Sides s)) y)
    (sides_complete IsSize size_at sizes_read t s i)
styled_complete f text d (constant t place e) = ap (λ y. option_map (λ place. declared.Plain (value.Choice Pos place))
    y) (position_complete place t e)
styled_complete f text d (size t n i) = ap (λ y. option_map (λ n. declared.Plain (value.Int n)) y) (size_complete t n i)
styled_complete f text d (yes t e) = ap (λ y. option_map (λ b. declared.Plain (value.Bool b)) (truth_at y)) e
styled_complete f text d (no t e) = ap (λ y. option_map (λ b. declared.Plain (value.Bool b)) (truth_at y)) e
styled_complete f text d (visible t e) = ap (λ y. option_map (λ b. declared.Plain (value.Bool b)) (visibility_at y)) e
styled_complete f text d (hidden t e) = ap (λ y. option_map (λ b. declared.Plain (value.Bool b)) (visibility_at y)) e
styled_complete f text d (collapse t e) = ap (λ y. option_map (λ b. declared.Plain (value.Bool b)) (visibility_at y)) e
styled_complete f text d (painted t p i) = ap (λ y. option_map declared.Paint y) (paint_complete t p i)
styled_complete f text d (painted_layers t ps i) = ap (λ y. option_map declared.Paints y)
    ((separated_read IsPaint paint_at paints_read).complete t ps i)
styled_complete f text d (inset_layers t ss i) = ap (λ y. option_map declared.SidesList y)
    ((separated_read AreSides insets_at insets_read).complete t ss i)

truth_styled : (text : List ℕ) (b : Bool) → ((text ≡ codes "true") × (true ≡ b))
    ⊎ ((text ≡ codes "false") × (false ≡ b)) → IsStyled form.Truth text (declared.Plain (value.Bool b))
truth_styled text b (inl h) = subst (λ y. IsStyled form.Truth text (declared.Plain (value.Bool y))) h.1 (yes text h.0)
truth_styled text b (inr h) = subst (λ y. IsStyled form.Truth text (declared.Plain (value.Bool y))) h.1 (no text h.0)

visibility_styled : (text : List ℕ) (b : Bool) → Seen text b → IsStyled form.Visibility text
    (declared.Plain (value.Bool b))
visibility_styled text b (inl h) = subst (λ y. IsStyled form.Visibility text (declared.Plain (value.Bool y))) h.1
    (visible text h.0)
visibility_styled text b (inr (inl h)) = subst (λ y. IsStyled form.Visibility text (declared.Plain (value.Bool y))) h.1
    (hidden text h.0)
visibility_styled text b (inr (inr h)) = subst (λ y. IsStyled form.Visibility text (declared.Plain (value.Bool y))) h.1
    (collapse text h.0)

styled_sound : (f : StyleForm) (text : List ℕ) (d : Declared) → styled_at f text ≡ Some d → IsStyled f text d
styled_sound form.Sides text d e =
    let h = map_gives (λ (s : Insets). declared.Plain (value.Sides s)) (insets_at text) d e in
    subst (λ y. IsStyled form.Sides text y) h.2 (insets text h.0 (sides_sound IsSize size_at sizes_read text h.0 h.1))
styled_sound form.Position text d e =
    let h = map_gives (λ (place : ℕ). declared.Plain (value.Choice Pos place)) (position_at text) d e in
    subst (λ y. IsStyled form.Position text y) h.2 (constant text h.0 (position_sound text h.0 h.1))
styled_sound form.Size text d e =
    let h = map_gives (λ (n : ℤ). declared.Plain (value.Int n)) (size_at text) d e in
    subst (λ y. IsStyled form.Size text y) h.2 (size text h.0 (size_sound text h.0 h.1))
styled_sound form.Truth text d e =
    let h = map_gives (λ (b : Bool). declared.Plain (value.Bool b)) (truth_at text) d e in
    subst (λ y. IsStyled form.Truth text y) h.2 (truth_styled text h.0 (truth_cases text h.0 h.1))
styled_sound form.Visibility text d e =
    let h = map_gives (λ (b : Bool). declared.Plain (value.Bool b)) (visibility_at text) d e in
    subst (λ y. IsStyled form.Visibility text y) h.2 (visibility_styled text h.0 (visibility_cases text h.0 h.1))
styled_sound form.Paint text d e =
    let h = map_gives declared.Paint (paint_at text) d e in
    subst (λ y. IsStyled form.Paint text y) h.2 (painted text h.0 (paints_read.sound text h.0 h.1))
styled_sound form.Paints text d e =
    let h = map_gives declared.Paints (separated_at paint_at text) d e in
    subst (λ y. IsStyled form.Paints text y) h.2 (painted_layers text h.0
    ((separated_read IsPaint paint_at paints_read).sound text h.0 h.1))
styled_sound form.SidesList text d e =
    let h = map_gives declared.SidesList (separated_at insets_at text) d e in
    subst (λ y. IsStyled form.SidesList text y) h.2 (inset_layers text h.0
    ((separated_read AreSides insets_at insets_read).sound text h.0 h.1))

declared_complete : (o : Option StyleForm) (text : List ℕ) (d : Declared) → IsDeclared o text d → declared_at o text
    ≡ Some d
declared_complete o text d (inherited f t e) = ap (λ b. cond b (Some declared.Inherit) (styled_at f t))
    ((bytes_eq-Decides t (codes "inherit")).1 e)
declared_complete o text d (styled f t v n i) =
    ap (λ b. cond b (Some declared.Inherit) (styled_at f t)) other_word ∙ styled_complete f t v i
  where
    other_word : bytes_eq t (codes "inherit") ≡ false
    other_word = elim (bytes_tell t (codes "inherit")) [ inl u ↦ absurd (n u.1) | inr u ↦ u ]
declared_complete o text d (other t p i) = ap (λ y. option_map declared.Paint y) (paint_complete t p i)

declared_sound : (o : Option StyleForm) (text : List ℕ) (d : Declared) → declared_at o text ≡ Some d
    → IsDeclared o text d
declared_sound None text d e =
    let h = map_gives declared.Paint (paint_at text) d e in
    subst (λ y. IsDeclared None text y) h.2 (other text h.0 (paints_read.sound text h.0 h.1))
declared_sound (Some f) text d e = elim (bytes_tell text (codes "inherit")) [
  | inl t ↦ let g = rw t.0 at e in
      let same : declared.Inherit ≡ d = cc in
      subst (λ y. IsDeclared (Some f) text y) same (inherited f text t.1)
  | inr t ↦ let g = rw t at e in
      styled f text d (λ i. let both : true ≡ false = sym ((bytes_eq-Decides text (codes "inherit")).1 i) ∙ t in cc)
      (styled_sound f text d g)
]

pub values_read : (o : Option StyleForm) → IsReading (IsDeclared o) (declared_at o)
values_read o = record { sound = declared_sound o; complete = declared_complete o }

-- declarations

white_no_colon : (c : ℕ) → is_white c ≡ true → not_colon c ≡ true
white_no_colon c e = grind (arith, nat_tests, e)

later_no_colon : (c : ℕ) → is_later c ≡ true → not_colon c ≡ true
later_no_colon c e = grind (arith, nat_tests, e)

pub name_no_colon : (before inner : List ℕ) → IsTrimmed before inner → is_ident inner ≡ true
    → list_all not_colon before ≡ true
name_no_colon before inner t i =
    ap (list_all not_colon) t.parts
    ∙ all_append not_colon t.before (inner ++ t.after) (all_more is_white not_colon white_no_colon t.before
    t.white_before)
    (all_append not_colon inner t.after (all_more is_later not_colon later_no_colon inner (ident_later inner i))
    (all_more is_white not_colon white_no_colon t.after t.white_after))

declaration_complete : (text : List ℕ) (d : Declaration) → IsDeclaration text d → declaration_in text ≡ Some d
declaration_complete text d h =
    let with_row : Option StyleName → Option Declaration = λ row.
    Some (record { name = d.name; row = row; value = d.value }) in
    let clear = name_no_colon h.before h.is_name.inner h.is_name.is_inner h.is_name.spells.0 in
    let name : trimmed h.before ≡ d.name = trimmed_complete h.before h.is_name.inner h.is_name.is_inner
    ∙ sym h.is_name.spells.1 in
    let good : is_ident d.name ≡ true = ap is_ident h.is_name.spells.1 ∙ h.is_name.spells.0 in
    ap (λ y. with_value (trimmed y) (behind not_colon text)) (ap (front not_colon) h.parts
    ∙ front-stop not_colon h.before (58 ∷ h.after) clear refl)
    ∙ ap (λ y. with_value (trimmed h.before) y) (ap (behind not_colon) h.parts
    ∙ behind-stop not_colon h.before (58 ∷ h.after) clear refl)
    ∙ ap (λ y. with_value y (58 ∷ h.after)) name
    ∙ ap (λ b. cond b (option_map (declaration d.name) (declared_at (form_of d.name) (trimmed h.after))) None) good
    ∙ ap (λ y. option_map (declaration d.name) y) (between_read (IsDeclared (form_of d.name))
    (declared_at (form_of d.name)) (values_read (form_of d.name)) h.after d.value h.is_value)
    ∙ ap with_row (sym h.is_row)

colon_is : (c : ℕ) → (c == 58) ≡ true → c ≡ 58
colon_is c e = grind (arith, nat_tests, e)

declaration_by : (text rest : List ℕ) (d : Declaration) → behind not_colon text ≡ rest → stops not_colon rest ≡ true
    → with_value (trimmed (front not_colon text)) rest ≡ Some d → IsDeclaration text d
declaration_by text [] d b s e = absurd (cc)
declaration_by text (c ∷ cs) d b s e =
    let name = trimmed (front not_colon text) in
    let good = then_gives (is_ident name) (option_map (declaration name) (declared_at (form_of name) (trimmed cs))) d e
    in
    let h = map_gives (declaration name) (declared_at (form_of name) (trimmed cs)) d good.1 in
    subst (λ y. IsDeclaration text y) h.2
    (record {
      before = front not_colon text;
      after = cs;
      parts = front_and_behind not_colon text ∙ ap (λ y. front not_colon text ++ y)
          (b ∙ ap (λ y. y ∷ cs) (colon_is c (not_not (c == 58) s)));
      is_name = record { inner = name; is_inner = trimmed_sound (front not_colon text); spells = (good.0, refl) };
      is_row = refl;
      is_value = between_sound (IsDeclared (form_of name)) (declared_at (form_of name))
          (values_read (form_of name)) cs h.0 h.1;
    })

pub declarations_read : IsReading IsDeclaration declaration_in
declarations_read = record {
  sound = λ text d e. declaration_by text (behind not_colon text) d refl (behind_stops not_colon text) e;
  complete = declaration_complete;
}
