-- The reading of values meets the grammar of each kind.
use Rattle.std.proofs.Common.{◌≡◌, ℕ, zero, suc, ◌<◌, ◌≤◌, inl, inr, Bool, true, false, nat_lt, List, [], ◌∷◌, length, codes, Option, Some, None, refl, sym, ap, ◌∙◌, arith, slice_index_or}
use Rattle.std.specs.Prelude.{IfSome, IfNone, IfOk, Result, Ok, Err, slice_get}
use Rattle.std.specs.Str.{chars, bytes_eq}
use Rattle.std.proofs.lemmas.Bool.Decides.{leb_tells, nat_tests}
use Rattle.std.proofs.lemmas.List.Quantifiers.{position-Some}
use Rattle.fx_base.specs.Constants.{constants_of}
use Rattle.fx_base.specs.Printing.{truth_text}
use Rattle.fx_base.specs.declared.kinds.Family.{Family}
use Rattle.fx_base.specs.declared.kinds.Family.TheVariants.{Pos, Priority, HPos, VPos}
use Rattle.fx_base.specs.declared.kinds.Kind.{Kind}
use Rattle.fx_base.specs.declared.kinds.Kind.TheVariants as kind
use Rattle.fx_base.specs.declared.values.Value.{Value}
use Rattle.fx_base.specs.declared.values.Value.TheVariants.{Int, Bool as Truth, Text, Choice, Color, Sides}
use Rattle.fx_text.proofs.FrontLemmas.{tells, bytes_tell, else_gives, map_gives}
use Rattle.fx_look.specs.Numbers.{IsNumber, number_at}
use Rattle.fx_look.specs.Colors.{color_at, same_letters}
use Rattle.fx_look.specs.Insets.{sides_at}
use Rattle.fx_look.specs.Readings.{IsTruth, IsValue, truth_at, place_of, text_at, value_at}
use Rattle.fx_look.proofs.NumberLemmas.{number_sound, number_complete}
use Rattle.fx_look.proofs.ColorLemmas.{letters_decide, color_sound, color_complete}
use Rattle.fx_look.proofs.TableLemmas.{all_first, first_of_name}
use Rattle.fx_look.proofs.InsetLemmas.{sides_sound, sides_complete, numbers_read}

-- truths

truth_sound : (text : List ℕ) (truth : Bool) → truth_at text ≡ Some truth → IsTruth text truth
truth_sound text truth e = elim (tells (same_letters text (codes "true"))) [
  | inl t ↦ let f = rw t at e in
      let same : true ≡ truth = cc in
      (letters_decide text (codes "true")).0 t ∙ ap truth_text same
  | inr t ↦ let f = rw t at e in elim (tells (same_letters text (codes "false"))) [
    | inl u ↦ let g = rw u at f in
        let same : false ≡ truth = cc in
        (letters_decide text (codes "false")).0 u ∙ ap truth_text same
    | inr u ↦ let g = rw u at f in absurd (cc)
  ]
]

truth_complete : (text : List ℕ) (truth : Bool) → IsTruth text truth → truth_at text ≡ Some truth
truth_complete text true i = rw ((letters_decide text (codes "true")).1 i) refl
truth_complete text false i =
    let other : same_letters text (codes "true") ≡ false = elim (tells (same_letters text (codes "true"))) [
      | inl t ↦ absurd (let both : codes "false" ≡ codes "true" = sym i ∙ (letters_decide text (codes "true")).0 t in
          let test : false ≡ true = sym (ap (λ v. bytes_eq v (codes "false")) both) in cc)
      | inr t ↦ t
    ] in
    rw (other, (letters_decide text (codes "false")).1 i) refl

-- constants

get_at : (xs : List (List ℕ)) (i : ℕ) (d : List ℕ) → i < length xs → slice_get xs i ≡ Some (slice_index_or xs i d)
get_at [] i d within = absurd (omega arith)
get_at (x ∷ xs) zero d within = refl
get_at (x ∷ xs) (suc i) d within = get_at xs i d (omega arith)

place_sound : (constants : List (List ℕ)) (text : List ℕ) (place : ℕ) → place_of constants text ≡ Some place → slice_get constants place ≡ Some text
place_sound constants text place e =
    let p = position-Some (λ constant. bytes_eq constant text) constants place text e in
    let same : slice_index_or constants place text ≡ text = by_test (slice_index_or constants place text) p.1 in
    get_at constants place text p.0 ∙ ap (λ v. Some v) same
  where
    by_test : (constant : List ℕ) → bytes_eq constant text ≡ true → constant ≡ text
    by_test constant t = elim (bytes_tell constant text) [ inl u ↦ u.1 | inr u ↦ absurd (cc) ]

constants_first : (family : Family) → all_first (constants_of family) ≡ true
constants_first Pos = refl
constants_first Priority = refl
constants_first HPos = refl
constants_first VPos = refl

place_complete : (family : Family) (place : ℕ) (text : List ℕ) → slice_get (constants_of family) place ≡ Some text → place_of (constants_of family) text ≡ Some place
place_complete family place text e = first_of_name (constants_of family) place text (constants_first family) e

-- values

text_sound : (text : List ℕ) (v : Value) → text_at text ≡ Some v → (length (chars text) ≤ 4096) × (v ≡ Text text)
text_sound text v e =
    let t = else_gives (nat_lt 4096 (length (chars text))) (Some (Text text)) v e in
    let same : v ≡ Text text = sym (cc t.1) in
    elim (leb_tells (suc 4096) (length (chars text))) [ inl u ↦ absurd (cc) | inr u ↦ (omega arith, same) ]

value_sound : (k : Kind) (text : List ℕ) (v : Value) → value_at k text ≡ Some v → IsValue k text v
value_sound kind.Int text v e = let m = map_gives Int (number_at text) v e in (m.0, number_sound text m.0 m.1, sym m.2)
value_sound kind.Bool text v e = let m = map_gives Truth (truth_at text) v e in (m.0, truth_sound text m.0 m.1, sym m.2)
value_sound kind.Text text v e = text_sound text v e
value_sound (kind.Choice family) text v e =
    let m = map_gives (Choice family) (place_of (constants_of family) text) v e in (m.0, place_sound (constants_of family) text m.0 m.1, sym m.2)
value_sound kind.Color text v e = let m = map_gives Color (color_at text) v e in (m.0, color_sound text m.0 m.1, sym m.2)
value_sound kind.Sides text v e =
    let m = map_gives Sides (sides_at number_at text) v e in (m.0, sides_sound IsNumber number_at numbers_read text m.0 m.1, sym m.2)

pub value_complete : (k : Kind) (text : List ℕ) (v : Value) → IsValue k text v → value_at k text ≡ Some v
value_complete kind.Int text v (n, i, e) = rw (number_complete text n i, e) refl
value_complete kind.Bool text v (truth, i, e) = rw (truth_complete text truth i, e) refl
value_complete kind.Text text v (few, e) =
    let none : nat_lt 4096 (length (chars text)) ≡ false = grind (arith, nat_tests) in
    rw (none, e) refl
value_complete (kind.Choice family) text v (place, i, e) = rw (place_complete family place text i, e) refl
value_complete kind.Color text v (c, i, e) = rw (color_complete text c i, e) refl
value_complete kind.Sides text v (s, i, e) = rw (sides_complete IsNumber number_at numbers_read text s i, e) refl

pub value_found : {E : Type 0} (k : Kind) (text : List ℕ) (r : Result (Option Value) E) → IfOk r (λ o. o ≡ value_at k text) → IfOk r (λ o. IfSome o (IsValue k text))
value_found k text (Err e) f = tt
value_found k text (Ok None) f = tt
value_found k text (Ok (Some v)) f = value_sound k text v (sym f)

pub value_none : {E : Type 0} (k : Kind) (text : List ℕ) (r : Result (Option Value) E) → IfOk r (λ o. o ≡ value_at k text) → IfOk r (λ o. IfNone o ((v : Value) → IsValue k text v → ⊥))
value_none k text (Err e) f = tt
value_none k text (Ok None) f = λ v i. let some : None ≡ Some v = f ∙ value_complete k text v i in cc
value_none k text (Ok (Some v)) f = tt
