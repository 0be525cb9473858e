-- A style whose code values differ from those of another in bound lengths alone is that one with these lengths.
use Rattle.std.proofs.Common.{◌≡◌, ◌⊎◌, ◌∙◌, ◌++◌, ◌∷◌, ◌==◌, [], ℕ, ℤ, negsuc, suc, Bool, true, false, cond, List, length, map, flat_map, find, slice_get, Option, Some, None, option_and_then, refl, ap, sym, subst, inl, inr, arith, true≢false}
use Rattle.std.proofs.lemmas.Bool.Decides.{nat_tests}
use Rattle.std.specs.Option.{option_map}
use Rattle.fx_base.specs.declared.color.Color.{Color as Rgba}
use Rattle.fx_base.specs.declared.values.Value.{Value}
use Rattle.fx_base.specs.declared.values.Value.TheVariants as value
use Rattle.fx_look.specs.StyleRows.{style_named}
use Rattle.fx_look.specs.Styles.{styles}
use Rattle.fx_look.specs.declared.looks.Look.{Look}
use Rattle.fx_look.specs.declared.styles.CodeValue.{CodeValue}
use Rattle.fx_css_types.specs.declared.declarations.FoundValue.{FoundValue}
use Rattle.fx_css_types.specs.declared.declarations.FoundValue.TheVariants as found
use Rattle.fx_css_types.specs.declared.sheets.SheetAt.{SheetAt}
use Rattle.fx_css_types.specs.declared.sheets.Candidate.{Candidate}
use Rattle.fx_css_types.specs.declared.sheets.SheetOrigin.{SheetOrigin}
use Rattle.fx_css_types.specs.declared.sheets.SheetOrigin.TheVariants as origin
use Rattle.fx_cascade.specs.declared.sources.Source.{Source}
use Rattle.fx_cascade.specs.declared.sources.Source.TheVariants.{Code, Declared}
use Rattle.fx_cascade.specs.Ranks.{code_key, greatest, matched_key, origin_rank, precedes}
use Rattle.fx_cascade.specs.Sources.{Speaks, Voice, best_source, code_voice, declared_voices, row_name, sources_for, voice}
use Rattle.fx_cascade.proofs.LawLemmas.{best-none, best-wins}
use Rattle.fx_lookup.specs.declared.named.NamedPaint.{NamedPaint}
use Rattle.fx_lookup.specs.Lookups.{resolved}
use Rattle.fx_node_style.specs.Keeping.{declared_names, fill_paint, named_paint, own_paints, paint_at, paints_of, won_paint}
use Rattle.fx_node_style.specs.Kinds.{length_in}
use Rattle.fx_node_style.specs.Looking.{look_of}
use Rattle.fx_node_style.specs.Recoding.{AreRecoded, IsBoundLength, IsRecoded, bound_length, bound_or, is_length_row, number_or, with_bound}
use Rattle.fx_node_style.specs.Rows as spec
use Rattle.fx_node_style.specs.Styling.{inherited, style_under, style_with}
use Rattle.fx_node_style.specs.Values.{code_value, row_value, value_of}

abbrev is_row : ℕ → CodeValue → Bool
is_row row code = code.style.0 == row

abbrev code_found : CodeValue → FoundValue
code_found code = found.Code code.value

-- ---- pair by pair
-- the first values of a row
record First (olds news : List CodeValue) (row : ℕ) : Type 0 where
  old : CodeValue
  new : CodeValue
  was : find (is_row row) olds ≡ Some old
  is : find (is_row row) news ≡ Some new
  pair : IsRecoded old new

abbrev NoneOf : List CodeValue → List CodeValue → ℕ → Type 0
NoneOf olds news row = (find (is_row row) olds ≡ None) × (find (is_row row) news ≡ None)

behind : (old new : CodeValue) (olds news : List CodeValue) → AreRecoded (old ∷ olds) (new ∷ news)
    → AreRecoded olds news
behind old new olds news are = record {
  long = (let both : suc (length news) ≡ suc (length olds) = are.long in omega (arith, both));
  each = λ at o n was is. are.each (suc at) o n was is;
}

heads : (old new : CodeValue) (olds news : List CodeValue) → AreRecoded (old ∷ olds) (new ∷ news)
    → IsRecoded old new
heads old new olds news are = are.each 0 old new refl refl

first_pair : (olds news : List CodeValue) → AreRecoded olds news → (row : ℕ)
    → NoneOf olds news row ⊎ First olds news row
first_pair [] [] are row = inl (refl, refl)
first_pair [] (new ∷ news) are row =
    absurd (let none : suc (length news) ≡ 0 = are.long in omega (arith, none))
first_pair (old ∷ olds) [] are row =
    absurd (let none : 0 ≡ suc (length olds) = are.long in omega (arith, none))
first_pair (old ∷ olds) (new ∷ news) are row =
    by (is_row row new) refl (first_pair olds news (behind old new olds news are) row)
  where
    pair : IsRecoded old new
    pair = heads old new olds news are

    same : is_row row old ≡ is_row row new
    same = ap (λ s. s.0 == row) (sym pair.row)

    by : (b : Bool) → is_row row new ≡ b → (NoneOf olds news row ⊎ First olds news row)
        → (NoneOf (old ∷ olds) (new ∷ news) row ⊎ First (old ∷ olds) (new ∷ news) row)
    by true here rest = inr (record {
      old = old;
      new = new;
      was = ap (λ b. cond b (Some old) (find (is_row row) olds)) (same ∙ here);
      is = ap (λ b. cond b (Some new) (find (is_row row) news)) here;
      pair = pair;
    })
    by false not_here (inl none) = inl (
      ap (λ b. cond b (Some old) (find (is_row row) olds)) (same ∙ not_here) ∙ none.0,
      ap (λ b. cond b (Some new) (find (is_row row) news)) not_here ∙ none.1,
    )
    by false not_here (inr f) = inr (record {
      old = f.old;
      new = f.new;
      was = ap (λ b. cond b (Some old) (find (is_row row) olds)) (same ∙ not_here) ∙ f.was;
      is = ap (λ b. cond b (Some new) (find (is_row row) news)) not_here ∙ f.is;
      pair = f.pair;
    })

-- ---- what speaks
voices_same : (olds news : List CodeValue) → AreRecoded olds news → map code_voice news ≡ map code_voice olds
voices_same [] [] are = refl
voices_same [] (new ∷ news) are =
    absurd (let none : suc (length news) ≡ 0 = are.long in omega (arith, none))
voices_same (old ∷ olds) [] are =
    absurd (let none : 0 ≡ suc (length olds) = are.long in omega (arith, none))
voices_same (old ∷ olds) (new ∷ news) are =
    let pair = heads old new olds news are in
    ap (λ (v : Voice). v ∷ map code_voice news)
    (ap (λ s. voice (row_name s.0) (Code new.bound)) pair.row
    ∙ ap (λ b. voice (row_name old.style.0) (Code b)) pair.bound)
    ∙ ap (λ (vs : List Voice). code_voice old ∷ vs) (voices_same olds news (behind old new olds news are))

same_source : (sheets : List SheetAt) (matched : List Candidate) (olds news : List CodeValue) → AreRecoded olds news
    → (name : List ℕ) → best_source sheets matched news name ≡ best_source sheets matched olds name
unfolding best_source
same_source sheets matched olds news are name =
    ap (λ (vs : List Voice). greatest matched (sources_for name (vs ++ declared_voices sheets 0 matched)))
    (voices_same olds news are)

-- ---- a row
same_by_code : (sheets : List SheetAt) (matched : List Candidate) (olds news : List CodeValue)
    → AreRecoded olds news → (row : ℕ) → code_value news row ≡ code_value olds row
    → row_value sheets matched news row ≡ row_value sheets matched olds row
unfolding row_value
same_by_code sheets matched olds news are row same =
    ap (option_and_then (value_of sheets matched news row)) (same_source sheets matched olds news are (row_name row))
    ∙ by (best_source sheets matched olds (row_name row))
  where
    by : (best : Option Source) → option_and_then (value_of sheets matched news row) best
        ≡ option_and_then (value_of sheets matched olds row) best
    by None = refl
    by (Some (Code bound)) = same
    by (Some (Declared at place)) = refl

is_number : (n m : ℕ) → (n == m) ≡ true → n ≡ m
is_number n m e = grind (arith, nat_tests, e)

found_row : (codes : List CodeValue) (row : ℕ) (code : CodeValue) → find (is_row row) codes ≡ Some code
    → code.style.0 ≡ row
found_row [] row code e = cc
found_row (first ∷ more) row code e = by (is_row row first) refl (λ is. found_row more row code is) e
  where
    by : (b : Bool) → is_row row first ≡ b → (find (is_row row) more ≡ Some code → code.style.0 ≡ row)
        → cond b (Some first) (find (is_row row) more) ≡ Some code → code.style.0 ≡ row
    by true here rest is = subst (λ (c : CodeValue). c.style.0 ≡ row) (the first code is) (is_number first.style.0 row here)
      where
        the : (a b : CodeValue) → Some a ≡ Some b → a ≡ b
        the a b same = cc
    by false not_here rest is = rest is

found_place : (codes : List CodeValue) (row : ℕ) (code : CodeValue) → find (is_row row) codes ≡ Some code
    → (at : ℕ) × (slice_get codes at ≡ Some code)
found_place [] row code e = cc
found_place (first ∷ more) row code e = by (is_row row first) (λ is. found_place more row code is) e
  where
    by : (b : Bool) → (find (is_row row) more ≡ Some code → (at : ℕ) × (slice_get more at ≡ Some code))
        → cond b (Some first) (find (is_row row) more) ≡ Some code
        → (at : ℕ) × (slice_get (first ∷ more) at ≡ Some code)
    by true rest is = (0, is)
    by false rest is = let there = rest is in (suc there.0, there.1)

below_bound : (rule : SheetOrigin) (rest others : List ℕ)
    → precedes ((origin_rank rule).0 ∷ rest) (5 ∷ others) ≡ true
below_bound origin.Agent rest others = refl
below_bound origin.Scene rest others = refl
below_bound (origin.Parent depth) rest others = refl
below_bound origin.Inline rest others = refl

below : (o : Option Candidate) (place : ℕ) → precedes (matched_key o place) (code_key true) ≡ true
below None place = refl
below (Some c) place =
    below_bound c.origin ((origin_rank c.origin).1 ∷ c.specificity.0 ∷ c.specificity.1 ∷ c.specificity.2 ∷ c.sheet
    ∷ c.rule ∷ place ∷ []) (0 ∷ 0 ∷ 0 ∷ 0 ∷ 0 ∷ 0 ∷ 0 ∷ [])

-- a bound value wins its row
bound_wins : (sheets : List SheetAt) (matched : List Candidate) (codes : List CodeValue) (row : ℕ) (code : CodeValue)
    → find (is_row row) codes ≡ Some code → code.bound ≡ true
    → row_value sheets matched codes row ≡ Some (found.Code code.value)
unfolding row_value
bound_wins sheets matched codes row code is bound = by (best_source sheets matched codes (row_name row)) refl
  where
    name : List ℕ
    name = row_name row

    speaks : Speaks sheets matched codes name (Code true)
    speaks =
        let place = found_place codes row code is in
        inl (record {
          at = place.0;
          value = code;
          given = place.1;
          named = ap row_name (found_row codes row code is);
          is = ap Code (sym bound);
        })

    by : (best : Option Source) → best_source sheets matched codes (row_name row) ≡ best
        → option_and_then (value_of sheets matched codes row) (best_source sheets matched codes (row_name row))
        ≡ Some (found.Code code.value)
    by None e = absurd (best-none sheets matched codes name (Code true) e speaks)
    by (Some (Code b)) e = ap (option_and_then (value_of sheets matched codes row)) e ∙ ap (option_map code_found) is
    by (Some (Declared at place)) e =
        absurd (true≢false (sym (below (slice_get matched at) place)
        ∙ (best-wins sheets matched codes name (Declared at place) e).none_above (Code true) speaks))

-- ---- rows that are no lengths
pub same_row : (sheets : List SheetAt) (matched : List Candidate) (olds news : List CodeValue) → AreRecoded olds news
    → (row : ℕ) → is_length_row row ≡ false → row_value sheets matched news row ≡ row_value sheets matched olds row
same_row sheets matched olds news are row other =
    same_by_code sheets matched olds news are row (by (first_pair olds news are row))
  where
    by : (NoneOf olds news row ⊎ First olds news row) → code_value news row ≡ code_value olds row
    by (inl none) = ap (option_map code_found) (none.1 ∙ sym none.0)
    by (inr f) = ap (option_map code_found) f.is ∙ (value f.pair.value ∙ sym (ap (option_map code_found) f.was))
      where
        value : ((f.new.value ≡ f.old.value) ⊎ IsBoundLength f.new)
            → Some (found.Code f.new.value) ≡ Some (found.Code f.old.value)
        value (inl same) = ap (λ v. Some (found.Code v)) same
        value (inr bound) = absurd (true≢false (sym bound.row
            ∙ (ap is_length_row (found_row news row f.new f.is) ∙ other)))

-- ---- lengths
number_kept : (v : Value) (unset parent : ℤ)
    → length_in (Some (found.Code v)) unset parent ≡ number_or v (length_in (Some (found.Code v)) unset parent)
number_kept (value.Int n) unset parent = refl
number_kept (value.Bool b) unset parent = refl
number_kept (value.Text t) unset parent = refl
number_kept (value.Choice family place) unset parent = refl
number_kept (value.Color c) unset parent = refl
number_kept (value.Sides s) unset parent = refl

pub bound_row : (sheets : List SheetAt) (matched : List Candidate) (olds news : List CodeValue) → AreRecoded olds news
    → (row : ℕ) (unset parent : ℤ) → length_in (row_value sheets matched news row) unset parent
    ≡ bound_length news row (length_in (row_value sheets matched olds row) unset parent)
bound_row sheets matched olds news are row unset parent = by (first_pair olds news are row)
  where
    was : ℤ
    was = length_in (row_value sheets matched olds row) unset parent

    by_same : code_value news row ≡ code_value olds row
        → length_in (row_value sheets matched news row) unset parent ≡ was
    by_same same = ap (λ v. length_in v unset parent) (same_by_code sheets matched olds news are row same)

    by : (NoneOf olds news row ⊎ First olds news row)
        → length_in (row_value sheets matched news row) unset parent ≡ bound_length news row was
    by (inl none) =
        by_same (ap (option_map code_found) (none.1 ∙ sym none.0)) ∙ sym (ap (λ o. bound_or o was) none.1)
    by (inr f) = flag f.new.bound refl f.pair.value ∙ sym (ap (λ o. bound_or o was) f.is)
      where
        new_code : code_value news row ≡ Some (found.Code f.new.value)
        new_code = ap (option_map code_found) f.is

        old_code : code_value olds row ≡ Some (found.Code f.old.value)
        old_code = ap (option_map code_found) f.was

        flag : (b : Bool) → f.new.bound ≡ b → ((f.new.value ≡ f.old.value) ⊎ IsBoundLength f.new)
            → length_in (row_value sheets matched news row) unset parent ≡ bound_or (Some f.new) was
        flag b e (inr bound) =
            ap (λ v. length_in v unset parent) (bound_wins sheets matched news row f.new f.is bound.bound)
            ∙ (ap (λ v. length_in (Some (found.Code v)) unset parent) bound.value
            ∙ sym (ap (λ b. cond b (number_or f.new.value was) was) bound.bound
            ∙ ap (λ v. number_or v was) bound.value))
        flag false e (inl same) =
            by_same (new_code ∙ (ap (λ v. Some (found.Code v)) same ∙ sym old_code))
            ∙ sym (ap (λ b. cond b (number_or f.new.value was) was) e)
        flag true e (inl same) =
            let was_bound : f.old.bound ≡ true = sym f.pair.bound ∙ e in
            let before : was ≡ length_in (Some (found.Code f.new.value)) unset parent =
            ap (λ v. length_in v unset parent)
            (bound_wins sheets matched olds row f.old f.was was_bound
            ∙ ap (λ v. Some (found.Code v)) (sym same)) in
            ap (λ v. length_in v unset parent) (bound_wins sheets matched news row f.new f.is e)
            ∙ (number_kept f.new.value unset parent
            ∙ (ap (λ n. number_or f.new.value n) (sym before)
            ∙ sym (ap (λ b. cond b (number_or f.new.value was) was) e)))

-- ---- the look
look_recoded : (sheets : List SheetAt) (matched : List Candidate) (olds news : List CodeValue) → AreRecoded olds news
    → (resolve : List ℕ → Option Rgba) (alignment : ℕ) (parent : Look)
    → look_of (row_value sheets matched news) resolve alignment parent
    ≡ with_bound news (look_of (row_value sheets matched olds) resolve alignment parent)
unfolding look_of with_bound styles
look_recoded sheets matched olds news are resolve alignment parent =
    let same = same_row sheets matched olds news are in
    let bound = bound_row sheets matched olds news are in
    rw (
      same spec.padding_row refl,
      same spec.alignment_row refl,
      same spec.spacing_row refl,
      same spec.hgap_row refl,
      same spec.vgap_row refl,
      same spec.fill_width_row refl,
      same spec.fill_height_row refl,
      same spec.background_color_row refl,
      same spec.background_insets_row refl,
      same spec.border_color_row refl,
      same spec.border_width_row refl,
      same spec.border_insets_row refl,
      same spec.text_fill_row refl,
      same spec.font_size_row refl,
      same spec.wrap_text_row refl,
      same spec.visibility_row refl,
      bound spec.min_width_row (negsuc 0) parent.min_width,
      bound spec.min_height_row (negsuc 0) parent.min_height,
      bound spec.pref_width_row (negsuc 0) parent.pref_width,
      bound spec.pref_height_row (negsuc 0) parent.pref_height,
      bound spec.max_width_row (negsuc 0) parent.max_width,
      bound spec.max_height_row (negsuc 0) parent.max_height,
    ) refl

-- ---- the paints
all_same : (f g : List ℕ → List NamedPaint) → ((name : List ℕ) → f name ≡ g name) → (names : List (List ℕ))
    → flat_map f names ≡ flat_map g names
all_same f g same [] = refl
all_same f g same (name ∷ names) =
    ap (λ l. l ++ flat_map f names) (same name) ∙ ap (λ l. g name ++ l) (all_same f g same names)

paints_same : (sheets : List SheetAt) (matched : List Candidate) (olds news : List CodeValue) → AreRecoded olds news
    → paints_of sheets matched news ≡ paints_of sheets matched olds
unfolding own_paints styles
paints_same sheets matched olds news are =
    ap (λ v. fill_paint v ++ own_paints sheets matched news)
    (same_row sheets matched olds news are spec.text_fill_row refl)
    ∙ ap (λ l. fill_paint (row_value sheets matched olds spec.text_fill_row) ++ l)
    (all_same (named_paint sheets matched news) (named_paint sheets matched olds)
    (λ name. named name (style_named name)) (declared_names sheets matched))
  where
    named : (name : List ℕ) (row : Option ℕ)
        → paint_at sheets matched news name row ≡ paint_at sheets matched olds name row
    named name (Some row) = refl
    named name None =
        ap (λ s. record { name = name; paint = won_paint sheets matched s } ∷ [])
        (same_source sheets matched olds news are name)

pub style_recoded : (sheets : List SheetAt) (matched : List Candidate) (olds news : List CodeValue)
    → AreRecoded olds news → (alignment : ℕ) (parent : Option Look) (above : List (List NamedPaint))
    → style_under sheets matched news alignment parent above
    ≡ record {
      look = with_bound news (style_under sheets matched olds alignment parent above).look;
      paints = (style_under sheets matched olds alignment parent above).paints;
    }
unfolding style_under
style_recoded sheets matched olds news are alignment parent above =
    ap (λ paints. style_with sheets matched news alignment parent above paints)
    (paints_same sheets matched olds news are)
    ∙ ap (λ (look : Look). record { look = look; paints = paints_of sheets matched olds })
    (look_recoded sheets matched olds news are (resolved (paints_of sheets matched olds ∷ above)) alignment
    (inherited alignment parent))
