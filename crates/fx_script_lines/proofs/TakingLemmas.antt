-- Spaces in front of a text, and the names between dots.
use Rattle.std.proofs.Common.{◌≡◌, ◌≢◌, inl, inr, ℕ, suc, ◌+◌, ◌<◌, Bool, true, false, cond, ◌&&◌, if◌then◌else◌, Some, None, Err, List, [], ◌∷◌, ◌++◌, length, drop, refl, ap, sym, ◌∙◌, append_assoc, arith}
use Rattle.std.specs.List.{after_first, before_first, list_all, position_or_len, prefix_len}
use Rattle.std.proofs.lemmas.List.Folds.{list_all-append}
use Rattle.std.proofs.lemmas.List.Splits.{slice_split_first, slice_split_none}
use Rattle.std.proofs.lemmas.List.Sums.{fails_before_first}
use Rattle.std.proofs.lemmas.Bool.Decides.{eqb_tells}
use Rattle.fx_text.specs.Classes.{is_space}
use Rattle.fx_text.specs.Fronts.{behind}
use Rattle.fx_script_lines.specs.Taking.{CutsAtDot, Gives, is_dot, is_name, name_of, names, names_in}
use Rattle.fx_script_lines.specs.declared.stops.Stop.{Stop}
use Rattle.fx_script_lines.specs.declared.stops.Stop.TheVariants.{Form, Memory}

pub space_step : (text others : List ℕ) → text ≡ 32 ∷ others → behind is_space text ≡ behind is_space others
space_step text others e =
    let one : 1 + prefix_len is_space others ≡ suc (prefix_len is_space others) = omega arith in
    ap (behind is_space) e ∙ ap (λ n. drop n (32 ∷ others)) one

pub no_space : (text : List ℕ) → ((rest : List ℕ) → text ≢ 32 ∷ rest) → behind is_space text ≡ text
no_space [] none = refl
no_space (c ∷ cs) none = elim (eqb_tells c 32) [
  | inl h ↦ absurd (none cs (ap (λ (d : ℕ). d ∷ cs) h.1))
  | inr h ↦ ap (λ (b : Bool). drop (cond b (1 + prefix_len is_space cs) 0) (c ∷ cs)) h.0
]

-- the names in front of the dots so far, and those behind them
pub one_more_name : (done : List (List ℕ)) (text : List ℕ) → position_or_len is_dot text < length text
    → (done ++ (before_first is_dot text ∷ [])) ++ names_in (after_first is_dot text) ≡ done ++ names_in text
one_more_name done text within =
    append_assoc done (before_first is_dot text ∷ []) (names_in (after_first is_dot text))
    ∙ ap (λ ns. done ++ ns) (sym (slice_split_first is_dot text 0 within))

-- no dot is left
pub last_name : (text : List ℕ) → position_or_len is_dot text ≡ length text → names_in text ≡ text ∷ []
last_name text none = slice_split_none is_dot text (λ k d lt. fails_before_first is_dot text k d (omega arith))

pub all_more : (done : List (List ℕ)) (name : List ℕ) → list_all is_name done ≡ true → is_name name ≡ true
    → list_all is_name (done ++ (name ∷ [])) ≡ true
all_more done name all good = list_all-append is_name done (name ∷ []) ∙ rw (all, good) refl

-- a part that is no name spoils all
pub none_named : (done others : List (List ℕ)) (name : List ℕ) → is_name name ≡ false
    → list_all is_name (done ++ (name ∷ others)) ≡ false
none_named [] others name bad = rw bad refl
none_named (d ∷ ds) others name bad = rw (none_named ds others name bad) (and_false (is_name d)) where
  and_false : (b : Bool) → (b && false) ≡ false
  and_false true = refl
  and_false false = refl

-- a name that was read
name_is : (name t : List ℕ) → name_of name ≡ Some t → (is_name t ≡ true) × (name ≡ t)
name_is name t e = by_test (is_name name) refl e where
  by_test : (b : Bool) → is_name name ≡ b → (if b then Some name else None) ≡ Some t → (is_name t ≡ true) × (name ≡ t)
  by_test true good h = let same : name ≡ t = cc in (ap is_name (sym same) ∙ good, same)
  by_test false bad h = cc

-- a turn of the loop over the names
pub name_turn : (done new : List (List ℕ)) (text word name others t : List ℕ) → CutsAtDot text (Some (name, others))
    → name_of name ≡ Some t → new ≡ done ++ (t ∷ []) → list_all is_name done ≡ true → done ++ names_in text ≡ names_in word
    → (list_all is_name new ≡ true) × (new ++ names_in others ≡ names_in word)
name_turn done new text word name others t cut read is good all =
    let named = name_is name t read in
    let front : t ≡ before_first is_dot text = sym named.1 ∙ cut.0 in (
      ap (list_all is_name) is ∙ all_more done t good named.0,
      ap (λ ns. ns ++ names_in others) (is ∙ ap (λ (n : List ℕ). done ++ (n ∷ [])) front)
          ∙ ap (λ (o : List ℕ). (done ++ (before_first is_dot text ∷ [])) ++ names_in o) cut.1
          ∙ one_more_name done text cut.2 ∙ all,
    )

-- the last name
pub names_end : (done new : List (List ℕ)) (text word t : List ℕ) → CutsAtDot text None → name_of text ≡ Some t
    → new ≡ done ++ (t ∷ []) → list_all is_name done ≡ true → done ++ names_in text ≡ names_in word
    → names word ≡ Some new
unfolding names
names_end done new text word t cut read is good all =
    let named = name_is text t read in
    let whole : names_in word ≡ new =
    sym all ∙ ap (λ ns. done ++ ns) (last_name text cut ∙ ap (λ (n : List ℕ). n ∷ []) named.1) ∙ sym is in
    let fine : list_all is_name new ≡ true = ap (list_all is_name) is ∙ all_more done t good named.0 in
    rw (whole, fine) refl

-- a part that is no name
name_fails : (done others : List (List ℕ)) (word name : List ℕ) (stop : Stop) → Gives {A = List ℕ} (Err stop) (name_of name)
    → done ++ (name ∷ others) ≡ names_in word → Gives {A = List (List ℕ)} (Err stop) (names word)
unfolding names
name_fails done others word name Memory e all = tt
name_fails done others word name Form e all = by_test (is_name name) refl e where
  by_test : (b : Bool) → is_name name ≡ b → (if b then Some name else None) ≡ None
      → (if list_all is_name (names_in word) then Some (names_in word) else None) ≡ None
  by_test true good h = cc
  by_test false bad h = rw (← all, none_named done others name bad) refl

pub name_refused : (done : List (List ℕ)) (text word name others : List ℕ) (stop : Stop)
    → CutsAtDot text (Some (name, others)) → Gives {A = List ℕ} (Err stop) (name_of name)
    → done ++ names_in text ≡ names_in word → Gives {A = List (List ℕ)} (Err stop) (names word)
name_refused done text word name others stop cut e all =
    name_fails done (names_in (after_first is_dot text)) word name stop e
    (ap (λ (n : List ℕ). done ++ (n ∷ names_in (after_first is_dot text))) cut.0
    ∙ ap (λ ns. done ++ ns) (sym (slice_split_first is_dot text 0 cut.2)) ∙ all)

pub last_refused : (done : List (List ℕ)) (text word : List ℕ) (stop : Stop)
    → CutsAtDot text None → Gives {A = List ℕ} (Err stop) (name_of text)
    → done ++ names_in text ≡ names_in word → Gives {A = List (List ℕ)} (Err stop) (names word)
last_refused done text word stop cut e all =
    name_fails done [] word text stop e (ap (λ ns. done ++ ns) (sym (last_name text cut)) ∙ all)
