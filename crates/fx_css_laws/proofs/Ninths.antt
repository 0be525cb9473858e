-- Where a declaration's ninth layer begins.
-- Cited by the law of layers.
use Rattle.std.proofs.Common.{◌≡◌, ℕ, ◌+◌, Bool, true, false, cond, not, ◌==◌, List, [], ◌∷◌, ◌++◌, length, Option, Some, None, refl, sym, ap, ◌∙◌, subst, arith}
use Rattle.std.specs.Prelude.{slice_get}
use Rattle.std.specs.Option.{option_map}
use Rattle.std.proofs.lemmas.Bool.Decides.{nat_tests}
use Rattle.fx_base.specs.declared.geometry.Sides.{Sides as Insets}
use Rattle.fx_look.specs.declared.styles.StyleForm.{StyleForm}
use Rattle.fx_look.specs.ColorNames.{names}
use Rattle.fx_look.specs.Insets.{four}
use Rattle.fx_text.specs.Fronts.{front, behind, stops}
use Rattle.fx_text.specs.Trimming.{trimmed}
use Rattle.fx_text.proofs.FrontLemmas.{behind_stops, front_and_behind, map_gives, then_gives}
use Rattle.fx_text.proofs.TrimLemmas.{trimmed_sound}
use Rattle.fx_css_types.specs.declared.declarations.Paint.{Paint}
use Rattle.fx_css_types.specs.declared.declarations.Declared.{Declared}
use Rattle.fx_css_types.specs.declared.declarations.Declaration.{Declaration}
use Rattle.fx_css_types.specs.Limits.{form_of}
use Rattle.fx_css_parts.specs.declared.ReadDeclaration.{ReadDeclaration}
use Rattle.fx_css_parts.specs.Parts.{declaration_at}
use Rattle.fx_css_parts.specs.Texts.{is_ident}
use Rattle.fx_css_parts.specs.Declaring.{IsPaint, AreSides, IsStyled, insets, constant, size, yes, no, visible, hidden, collapse, painted, painted_layers, inset_layers, IsDeclared, inherited, styled, other, declared_at, declaration, with_value, not_colon, declaration_in}
use Rattle.fx_css_parts.specs.Limits.{layer_starts, is_layered, has_layers, past_in_value, past_behind, past_in_declaration}
use Rattle.fx_css_parts.proofs.DeclarationLaws.{paints_read, insets_read, values_read}
use Rattle.fx_css_laws.specs.Layers.{BeginsNinth, IsNinthLayer}
use Rattle.fx_css_laws.proofs.Layers.{next_at, starts_before, starts_behind}

-- no layer is empty

no_paint : (p : Paint) → IsPaint [] p → ⊥
unfolding names
no_paint p i = let both : None ≡ Some p = paints_read.complete [] p i in cc

no_sides : (s : Insets) → AreSides [] s → ⊥
unfolding four
no_sides s i = let both : None ≡ Some s = insets_read.complete [] s i in cc

-- values

abbrev Ninth : Declared → List ℕ → ℕ → ℕ → Type 0
Ninth d text place at = (i : ℕ) × (at ≡ place + i) × BeginsNinth d text i

styled_ninth : (f : StyleForm) (text : List ℕ) (d : Declared) → IsStyled f text d → is_layered f ≡ true → (place at : ℕ) → slice_get (layer_starts false 0 place text) 8 ≡ Some at → Ninth d text place at
styled_ninth f text d (insets t s i) h place at e = absurd (cc)
styled_ninth f text d (constant t n i) h place at e = absurd (cc)
styled_ninth f text d (size t n i) h place at e = absurd (cc)
styled_ninth f text d (yes t i) h place at e = absurd (cc)
styled_ninth f text d (no t i) h place at e = absurd (cc)
styled_ninth f text d (visible t i) h place at e = absurd (cc)
styled_ninth f text d (hidden t i) h place at e = absurd (cc)
styled_ninth f text d (collapse t i) h place at e = absurd (cc)
styled_ninth f text d (painted t p i) h place at e = absurd (cc)
styled_ninth f text d (painted_layers t ps i) h place at e = next_at IsPaint no_paint 7 t ps i place at e
styled_ninth f text d (inset_layers t ss i) h place at e = next_at AreSides no_sides 7 t ss i place at e

-- `inherit` is one word
declared_ninth : (o : Option StyleForm) (text : List ℕ) (d : Declared) → IsDeclared o text d → has_layers o ≡ true → (place at : ℕ) → slice_get (layer_starts false 0 place text) 8 ≡ Some at → Ninth d text place at
declared_ninth o text d (inherited f t i) h place at e =
    let none : None ≡ Some at = sym (ap (λ y. slice_get (layer_starts false 0 place y) 8) i) ∙ e in absurd (cc)
declared_ninth o text d (styled f t v n i) h place at e = styled_ninth f t v i h place at e
declared_ninth o text d (other t p i) h place at e = absurd (cc)

-- the white round a value

layered : (o : Option StyleForm) (place : ℕ) (value : List ℕ) (at : ℕ) (b : Bool) → has_layers o ≡ b → past_in_value o place value ≡ Some at → (has_layers o ≡ true) × (slice_get (layer_starts false 0 place value) 8 ≡ Some at)
layered o place value at true h e = (h, sym (ap (λ b. cond b (slice_get (layer_starts false 0 place value) 8) None) h) ∙ e)
layered o place value at false h e =
    let none : None ≡ Some at = sym (ap (λ b. cond b (slice_get (layer_starts false 0 place value) 8) None) h) ∙ e in absurd (cc)

colon_is : (c : ℕ) → not (not (c == 58)) ≡ true → c ≡ 58
colon_is c e = grind (arith, nat_tests, e)

ninth_by : (text before : List ℕ) (c : ℕ) (cs : List ℕ) (d : Declaration) (at : ℕ) → text ≡ before ++ (c ∷ cs) → stops not_colon (c ∷ cs) ≡ true → with_value (trimmed before) (c ∷ cs) ≡ Some d
    → past_in_value (form_of (trimmed before)) (length before + 1) cs ≡ Some at → IsNinthLayer text d at
ninth_by text before c cs d at cut stop e past =
    let name = trimmed before in
    let good = then_gives (is_ident name) (option_map (declaration name) (declared_at (form_of name) (trimmed cs))) d e in
    let h = map_gives (declaration name) (declared_at (form_of name) (trimmed cs)) d good.1 in
    let i = (values_read (form_of name)).sound (trimmed cs) h.0 h.1 in
    let l = layered (form_of name) (length before + 1) cs at (has_layers (form_of name)) refl past in
    let t = trimmed_sound cs in
    let here : slice_get (layer_starts false 0 (length before + 1 + length t.before) (trimmed cs)) 8 ≡ Some at =
    sym (ap (λ y. slice_get y 8)
    (ap (layer_starts false 0 (length before + 1)) t.parts
    ∙ starts_behind 0 (length before + 1) t.before (trimmed cs ++ t.after) t.white_before
    ∙ starts_before false 0 (length before + 1 + length t.before) (trimmed cs) t.after t.white_after))
    ∙ l.1 in
    let n = declared_ninth (form_of name) (trimmed cs) h.0 i l.0 (length before + 1 + length t.before) at here in
    let far = n.1 in
    subst (λ y. IsNinthLayer text y at) h.2
    (record {
      before = before;
      white = t.before;
      value = trimmed cs;
      behind = t.after;
      cut = cut ∙ ap (λ y. before ++ (y ∷ cs)) (colon_is c stop) ∙ ap (λ y. before ++ (58 ∷ y)) t.parts;
      is_name = refl;
      white_before = t.white_before;
      white_behind = t.white_after;
      inside = n.0;
      begins = n.2;
      place = omega (arith, far);
    })

ninth_in : (text before rest : List ℕ) (d : Declaration) (at : ℕ) → text ≡ before ++ rest → stops not_colon rest ≡ true → with_value (trimmed before) rest ≡ Some d
    → past_behind (form_of (trimmed before)) (length before) rest ≡ Some at → IsNinthLayer text d at
ninth_in text before [] d at cut stop e past = absurd (cc)
ninth_in text before (c ∷ cs) d at cut stop e past = ninth_by text before c cs d at cut stop e past

abbrev read_as : List ℕ → Declaration → ReadDeclaration
read_as text d = record { declaration = d; past = past_in_declaration text }

pub ninth_told : (text : List ℕ) (r : ReadDeclaration) (at : ℕ) → declaration_at text ≡ Some r → r.past ≡ Some at → IsNinthLayer text r.declaration at
ninth_told text r at e past =
    let h = map_gives (read_as text) (declaration_in text) r e in
    let place : past_in_declaration text ≡ Some at = ap (λ (y : ReadDeclaration). y.past) h.2 ∙ past in
    subst (λ y. IsNinthLayer text y at) (ap (λ (y : ReadDeclaration). y.declaration) h.2)
    (ninth_in text (front not_colon text) (behind not_colon text) h.0 at (front_and_behind not_colon text) (behind_stops not_colon text) h.1 place)
