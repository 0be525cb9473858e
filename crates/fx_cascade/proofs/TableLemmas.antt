-- A table of winners after one more voice is heard.
use Rattle.std.proofs.Common.{◌≡◌, ◌≢◌, ◌++◌, ◌∷◌, [], ℕ, zero, suc, ◌<◌, ◌≤◌, Bool, true, false, cond, List, Option, Some, None, get_or, set, length, replicate, refl, sym, ap, ◌∙◌, subst, inl, inr, arith, ltb}
use Rattle.std.specs.Str.{bytes_eq}
use Rattle.std.specs.List.{position, position_or_len}
use Rattle.std.proofs.lemmas.Bool.{cases_Bool, cases_eq, ltb-false}
use Rattle.std.proofs.lemmas.List.{get_or-set_same, get_or-set_other}
use Rattle.std.proofs.lemmas.List.Quantifiers.{position-Some}
use Rattle.std.proofs.lemmas.List.Sums.{fails_before_first}
use Rattle.fx_look.specs.StyleRows.{style_named}
use Rattle.fx_css_types.specs.declared.sheets.Candidate.{Candidate}
use Rattle.fx_cascade.specs.declared.sources.Source.{Source}
use Rattle.fx_cascade.specs.declared.sources.Source.TheVariants as source
use Rattle.fx_cascade.specs.declared.others.NamedSource.{NamedSource}
use Rattle.fx_cascade.specs.Sources.{voice}
use Rattle.fx_cascade.specs.Ranks.{greater, greater_of}
use Rattle.fx_cascade.specs.Tables.{Table, row_source, slot, slots, source_at, source_of, under, with_greater}
use Rattle.fx_cascade.specs.Winners.{hear}
use Rattle.fx_cascade.proofs.NameLemmas.{apart, equal_name, one_row, same_name}

abbrev pub table_of : List (Option Source) → List NamedSource → Table
table_of rows others = record { rows = rows; others = others }

-- a voice for the name itself
pub hear_same : (matched : List Candidate) (name : List ℕ) (best : Option Source) (said : Source)
    → hear matched name best (voice name said) ≡ greater matched best said
hear_same matched name best said = ap (λ (b : Bool). cond b (greater matched best said) best) (equal_name name)

-- a voice for another name
pub hear_apart : (matched : List Candidate) (spoken name : List ℕ) (best : Option Source) (said : Source)
    → bytes_eq spoken name ≡ false → hear matched name best (voice spoken said) ≡ best
hear_apart matched spoken name best said e = ap (λ (b : Bool). cond b (greater matched best said) best) e

-- the row after the voice
abbrev pub row_after : List Candidate → List (Option Source) → ℕ → Source → List (Option Source)
row_after matched rows row said = set rows row (greater matched (get_or rows row None) said)

row_heard_at : (matched : List Candidate) (o : Option ℕ) (rows : List (Option Source)) (others : List NamedSource)
    (row : ℕ) (said : Source) (spoken name : List ℕ)
    → style_named name ≡ o → row < length rows → style_named spoken ≡ Some row
    → source_at (row_after matched rows row said) others name o
    ≡ hear matched name (source_at rows others name o) (voice spoken said)
row_heard_at matched None rows others row said spoken name e within f =
    sym (hear_apart matched spoken name (under others name) said
    (apart spoken name (λ same. let g : Some row ≡ None = sym f ∙ same ∙ e in cc)))
row_heard_at matched (Some q) rows others row said spoken name e within f = elim (cases_eq q row) [
  | inl same ↦
      let one : spoken ≡ name = one_row spoken name row f (e ∙ ap Some same) in
      subst (λ (n : ℕ). get_or (row_after matched rows row said) n None
      ≡ hear matched name (get_or rows n None) (voice spoken said)) (sym same)
      (get_or-set_same rows row (greater matched (get_or rows row None) said) None within
      ∙ sym (hear_same matched spoken (get_or rows row None) said)
      ∙ ap (λ (n : List ℕ). hear matched n (get_or rows row None) (voice spoken said)) one)
  | inr other ↦
      get_or-set_other rows row q (greater matched (get_or rows row None) said) None other
      ∙ sym (hear_apart matched spoken name (get_or rows q None) said (apart spoken name
      (λ same. let g : Some row ≡ Some q = sym f ∙ same ∙ e in let h : row ≡ q = cc in other (sym h))))
]

pub row_heard : (matched : List Candidate) (rows : List (Option Source)) (others : List NamedSource) (row : ℕ)
    (said : Source) (spoken name : List ℕ) → row < length rows → style_named spoken ≡ Some row
    → source_of (table_of (row_after matched rows row said) others) name
    ≡ hear matched name (source_of (table_of rows others) name) (voice spoken said)
unfolding source_of
row_heard matched rows others row said spoken name within f =
    row_heard_at matched (style_named name) rows others row said spoken name refl within f

pub row_is : (rows : List (Option Source)) (others : List NamedSource) (row : ℕ) (name : List ℕ)
    → style_named name ≡ Some row → get_or rows row None ≡ source_of (table_of rows others) name
unfolding source_of
row_is rows others row name e = ap (source_at rows others name) (sym e)

pub other_is : (rows : List (Option Source)) (others : List NamedSource) (name : List ℕ)
    → style_named name ≡ None → under others name ≡ source_of (table_of rows others) name
unfolding source_of
other_is rows others name e = ap (source_at rows others name) (sym e)

abbrev pub raised_in : List Candidate → List NamedSource → ℕ → Source → NamedSource → List NamedSource
raised_in matched others place said d = set others place (with_greater matched (get_or others place d) said)

-- a name that differs from the first's where that is the one that is looked for
other_name : (o : NamedSource) (spoken name : List ℕ) → bytes_eq o.name spoken ≡ false → bytes_eq o.name name ≡ true
    → bytes_eq spoken name ≡ false
other_name o spoken name miss holds = elim (cases_Bool (bytes_eq spoken name)) [
  | inl t ↦ absurd (let e : o.name ≡ spoken = same_name o.name name holds ∙ sym (same_name spoken name t) in
      let g : bytes_eq o.name spoken ≡ true = ap (λ (n : List ℕ). bytes_eq n spoken) e ∙ equal_name spoken in cc)
  | inr f ↦ f
]

-- what is said of the rest is said of the whole where the first has another name
behind_first : (matched : List Candidate) (o : NamedSource) (os more : List NamedSource) (spoken name : List ℕ)
    (said : Source) → bytes_eq o.name spoken ≡ false
    → under more name ≡ hear matched name (under os name) (voice spoken said)
    → under (o ∷ more) name ≡ hear matched name (under (o ∷ os) name) (voice spoken said)
behind_first matched o os more spoken name said miss rest = elim (cases_Bool (bytes_eq o.name name)) [
  | inl holds ↦
      let off : bytes_eq spoken name ≡ false = other_name o spoken name miss holds in
      ap (λ (b : Bool). cond b (Some o.source) (under more name)) holds
      ∙ sym (hear_apart matched spoken name (under (o ∷ os) name) said off
      ∙ ap (λ (b : Bool). cond b (Some o.source) (under os name)) holds)
  | inr fails ↦
      ap (λ (b : Bool). cond b (Some o.source) (under more name)) fails
      ∙ rest
      ∙ ap (λ (b : Bool). hear matched name (cond b (Some o.source) (under os name)) (voice spoken said)) (sym fails)
]

under_raised : (matched : List Candidate) (others : List NamedSource) (place : ℕ) (spoken name : List ℕ) (said : Source)
    (d : NamedSource) → place < length others → bytes_eq (get_or others place d).name spoken ≡ true
    → ((k : ℕ) → k < place → bytes_eq (get_or others k d).name spoken ≡ false)
    → under (raised_in matched others place said d) name ≡ hear matched name (under others name) (voice spoken said)
unfolding greater
under_raised matched [] place spoken name said d within hit before = absurd (omega arith)
under_raised matched (o ∷ os) zero spoken name said d within hit before =
    let same : o.name ≡ spoken = same_name o.name spoken hit in
    subst (λ (n : List ℕ). under (with_greater matched o said ∷ os) name
    ≡ hear matched name (under (o ∷ os) name) (voice n said)) same
    (elim (bytes_eq o.name name) as (λ (b : Bool). cond b (Some (greater_of matched o.source said)) (under os name)
    ≡ cond b (greater matched (cond b (Some o.source) (under os name)) said)
    (cond b (Some o.source) (under os name)))
    [ true ↦ refl | false ↦ refl ])
under_raised matched (o ∷ os) (suc k) spoken name said d within hit before =
    behind_first matched o os (raised_in matched os k said d) spoken name said (before zero (omega arith))
    (under_raised matched os k spoken name said d (omega arith) hit (λ j below. before (suc j) (omega (arith, below))))

under_pushed : (matched : List Candidate) (others : List NamedSource) (spoken name : List ℕ) (said : Source)
    → ((k : ℕ) (d : NamedSource) → k < length others → bytes_eq (get_or others k d).name spoken ≡ false)
    → under (others ++ record { name = spoken; source = said } ∷ []) name
    ≡ hear matched name (under others name) (voice spoken said)
unfolding greater
under_pushed matched [] spoken name said none =
    elim (bytes_eq spoken name) as (λ (b : Bool). cond b (Some said) None ≡ cond b (greater matched None said) None)
    [ true ↦ refl | false ↦ refl ]
under_pushed matched (o ∷ os) spoken name said none =
    behind_first matched o os (os ++ record { name = spoken; source = said } ∷ []) spoken name said
    (none zero o (omega arith))
    (under_pushed matched os spoken name said (λ k d below. none (suc k) d (omega (arith, below))))

-- where only names that are no rows are changed as they are heard
other_heard_at : (matched : List Candidate) (o : Option ℕ) (rows : List (Option Source))
    (others more : List NamedSource) (said : Source) (spoken name : List ℕ) → style_named name ≡ o
    → style_named spoken ≡ None → under more name ≡ hear matched name (under others name) (voice spoken said)
    → source_at rows more name o ≡ hear matched name (source_at rows others name o) (voice spoken said)
other_heard_at matched None rows others more said spoken name e f changed = changed
other_heard_at matched (Some q) rows others more said spoken name e f changed =
    sym (hear_apart matched spoken name (row_source rows q) said
    (apart spoken name (λ same. let g : Some q ≡ None = sym e ∙ sym same ∙ f in cc)))

pub other_raised : (matched : List Candidate) (rows : List (Option Source)) (others more : List NamedSource) (place : ℕ)
    (said : Source) (spoken name : List ℕ) (d : NamedSource) → style_named spoken ≡ None
    → position (λ (o : NamedSource). bytes_eq o.name spoken) others ≡ Some place
    → more ≡ raised_in matched others place said d
    → source_of (table_of rows more) name
    ≡ hear matched name (source_of (table_of rows others) name) (voice spoken said)
unfolding source_of
other_raised matched rows others more place said spoken name d f at is =
    let found = position-Some (λ (o : NamedSource). bytes_eq o.name spoken) others place d at in
    other_heard_at matched (style_named name) rows others more said spoken name refl f
    (ap (λ (l : List NamedSource). under l name) is
    ∙ under_raised matched others place spoken name said d found.0 found.1 found.2)

none_passes : (others : List NamedSource) (spoken : List ℕ)
    → position (λ (o : NamedSource). bytes_eq o.name spoken) others ≡ None
    → (k : ℕ) (d : NamedSource) → k < length others → bytes_eq (get_or others k d).name spoken ≡ false
none_passes others spoken none k d within =
    let p : NamedSource → Bool = λ o. bytes_eq o.name spoken in
    elim (cases_Bool (ltb (position_or_len p others) (length others))) [
      | inl holds ↦
          absurd (let g : Some (position_or_len p others) ≡ None =
          sym (ap (λ (b : Bool). cond b (Some (position_or_len p others)) None) holds) ∙ none in cc)
      | inr fails ↦ fails_before_first p others k d
          (let h : length others ≤ position_or_len p others =
          ltb-false (position_or_len p others) (length others) fails in omega arith)
    ]

pub other_pushed : (matched : List Candidate) (rows : List (Option Source)) (others more : List NamedSource)
    (said : Source) (spoken name : List ℕ) → style_named spoken ≡ None
    → position (λ (o : NamedSource). bytes_eq o.name spoken) others ≡ None
    → more ≡ others ++ record { name = spoken; source = said } ∷ []
    → source_of (table_of rows more) name
    ≡ hear matched name (source_of (table_of rows others) name) (voice spoken said)
unfolding source_of
other_pushed matched rows others more said spoken name f none is =
    other_heard_at matched (style_named name) rows others more said spoken name refl f
    (ap (λ (l : List NamedSource). under l name) is
    ∙ under_pushed matched others spoken name said (none_passes others spoken none))

pub all_none : List (Option Source) → Type 0
all_none rows = (n : ℕ) → get_or rows n None ≡ None

none-cons : (rows : List (Option Source)) → all_none rows → all_none (None ∷ rows)
unfolding all_none
none-cons rows all zero = refl
none-cons rows all (suc n) = all n

none-nil : all_none []
unfolding all_none
none-nil n = refl

-- a table with nothing in it
none_at : (o : Option ℕ) (rows : List (Option Source)) (others : List NamedSource) (name : List ℕ) → all_none rows
    → others ≡ [] → source_at rows others name o ≡ None
unfolding all_none
none_at None rows others name none empty = ap (λ (l : List NamedSource). under l name) empty
none_at (Some row) rows others name none empty = none row

pub none_kept : (rows : List (Option Source)) (others : List NamedSource) (name : List ℕ) → all_none rows
    → others ≡ [] → source_of (table_of rows others) name ≡ None
unfolding source_of
none_kept rows others name none empty = none_at (style_named name) rows others name none empty

pub slot_at : (heard : List Bool) (sources : List Source) (i : ℕ)
    → get_or (slots heard sources) i None ≡ slot (get_or heard i false) (get_or sources i (source.Code false))
slot_at [] sources i = refl
slot_at (h ∷ hs) [] zero = refl
slot_at (h ∷ hs) [] (suc i) = slot_at hs [] i
slot_at (h ∷ hs) (s ∷ ss) zero = refl
slot_at (h ∷ hs) (s ∷ ss) (suc i) = slot_at hs ss i

pub slots_set : (heard : List Bool) (sources : List Source) (i : ℕ) (s : Source) → i < length heard
    → i < length sources → slots (set heard i true) (set sources i s) ≡ set (slots heard sources) i (Some s)
slots_set [] sources i s marked within = absurd (omega arith)
slots_set (h ∷ hs) [] i s marked within = absurd (omega arith)
slots_set (h ∷ hs) (t ∷ ss) zero s marked within = refl
slots_set (h ∷ hs) (t ∷ ss) (suc i) s marked within =
    ap (λ l. slot h t ∷ l) (slots_set hs ss i s (omega arith) (omega arith))

pub slots_within : (heard : List Bool) (sources : List Source) (i : ℕ) → i < length heard → i < length sources
    → i < length (slots heard sources)
slots_within [] sources i marked within = absurd (omega arith)
slots_within (h ∷ hs) [] i marked within = absurd (omega arith)
slots_within (h ∷ hs) (s ∷ ss) zero marked within = omega arith
slots_within (h ∷ hs) (s ∷ ss) (suc i) marked within =
    let more : i < length (slots hs ss) = slots_within hs ss i (omega arith) (omega arith) in omega (arith, more)

-- rows of which nothing was heard, however many
pub none_heard : (n : ℕ) (sources : List Source) → all_none (slots (replicate n false) sources)
none_heard zero sources = none-nil
none_heard (suc n) [] = none-cons (slots (replicate n false) []) (none_heard n [])
none_heard (suc n) (s ∷ ss) = none-cons (slots (replicate n false) ss) (none_heard n ss)
