-- The table of first words, as the code holds it and as definitions see it.
use Rattle.std.proofs.Common.{◌≡◌, ℕ, Bool, true, false, inl, inr, List, [], ◌∷◌, ◌++◌, Option, Some, None, length, map, refl, ap, sym, ◌∙◌}
use Rattle.std.specs.Borrow.{Bor}
use Rattle.std.specs.List.{find, list_all}
use Rattle.std.specs.Option.{option_map, option_or}
use Rattle.std.specs.Str.{bytes_eq}
use Rattle.std.proofs.lemmas.Bool.{and_parts}
use Rattle.std.proofs.lemmas.List.Folds.{find-append}
use Rattle.std.proofs.lemmas.Slice.Eq.{bytes_eq-Decides}
use Rattle.fx_text.proofs.FrontLemmas.{tells}
use Rattle.fx_script_lines.specs.Keywords.{keyword_at}
use Rattle.fx_script_lines.specs.declared.keywords.Keyword.{Keyword}

pub row_mapped : (table : List (Bor (List ℕ) × Keyword)) (word : List ℕ)
    → option_map (λ row. row.1) (find (λ row. bytes_eq row.0.now word) table)
    ≡ keyword_at (map (λ row. (row.0.now, row.1)) table) word
row_mapped [] word = refl
row_mapped (row ∷ rows) word =
    elim (tells (bytes_eq row.0.now word)) [ inl t ↦ rw t refl | inr t ↦ rw t (row_mapped rows word) ]

abbrev Row : Type 0
Row = List ℕ × Keyword

abbrev found : List ℕ → List Row → Option Row
found word rows = find (λ row. bytes_eq row.0 word) rows

-- rows whose lengths all pass a test that the word's length fails
none_found : (test : ℕ → Bool) (word : List ℕ) (rows : List Row) → test (length word) ≡ false
    → list_all (λ row. test (length row.0)) rows ≡ true → found word rows ≡ None
none_found test word [] fails all = refl
none_found test word (row ∷ rows) fails all =
    let parts = and_parts (test (length row.0)) (list_all (λ r. test (length r.0)) rows) all in
    elim (tells (bytes_eq row.0 word)) [
      | inl t ↦ absurd (let same : row.0 ≡ word = (bytes_eq-Decides row.0 word).0 t in
          let passes : test (length word) ≡ true = sym (ap (λ (w : List ℕ). test (length w)) same) ∙ parts.0 in cc)
      | inr t ↦ rw t (none_found test word rows fails parts.1)
    ]

-- what is found among rows that stand between others
pub found_within : (test : ℕ → Bool) (word : List ℕ) (front rows back : List Row) → test (length word) ≡ false
    → list_all (λ row. test (length row.0)) front ≡ true → list_all (λ row. test (length row.0)) back ≡ true
    → keyword_at rows word ≡ keyword_at (front ++ (rows ++ back)) word
found_within test word front rows back fails before behind =
    ap (option_map (λ (row : Row). row.1)) (sym whole)
  where
    or_none : (o : Option Row) → option_or o None ≡ o
    or_none None = refl
    or_none (Some row) = refl

    whole : found word (front ++ (rows ++ back)) ≡ found word rows
    whole =
        find-append (λ (row : Row). bytes_eq row.0 word) front (rows ++ back)
        ∙ ap (λ o. option_or o (found word (rows ++ back))) (none_found test word front fails before)
        ∙ find-append (λ (row : Row). bytes_eq row.0 word) rows back
        ∙ ap (option_or (found word rows)) (none_found test word back fails behind) ∙ or_none (found word rows)

-- no row at all
pub nothing_found : (test : ℕ → Bool) (word : List ℕ) (rows : List Row) → test (length word) ≡ false
    → list_all (λ row. test (length row.0)) rows ≡ true → None ≡ keyword_at rows word
nothing_found test word rows fails all = ap (option_map (λ (row : Row). row.1)) (sym (none_found test word rows fails all))
