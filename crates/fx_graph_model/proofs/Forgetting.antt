-- Names that are forgotten, of which no other name is bound to one.
use Rattle.std.proofs.Common.{◌≡◌, ℕ, ◌<◌, ◌≤◌, Bool, false, List, [], ◌∷◌, length, set, arith, refl, sym, ◌∙◌, ap, subst, inl, inr, ◌⊎◌}
use Rattle.std.specs.List.{Contains}
use Rattle.std.proofs.lemmas.Bool.{cases_lt, cases_eq}
use Rattle.std.proofs.lemmas.List.{get_or_past, get_or-set_same, get_or-set_other, length-set}
use Rattle.fx_base.specs.declared.values.Value.{Value}
use Rattle.fx_expr.specs.Meaning.{no_value}
use Rattle.fx_graph_model.specs.declared.entries.Entry.{Entry}
use Rattle.fx_graph_model.specs.declared.entries.Definition.{Definition}
use Rattle.fx_graph_model.specs.declared.entries.Definition.TheVariants.{Forgotten}
use Rattle.fx_graph_model.specs.Uses.{nothing, entry_of, operands_in, uses, Ranked}
use Rattle.fx_graph_model.specs.Eager.{value_of_definition, eager}
use Rattle.fx_graph_model.specs.Unread.{marked, IsClosed}
use Rattle.fx_graph_model.specs.Changes.{forgotten, forget_all, clear_all}
use Rattle.fx_graph_model.specs.Refusals.{IsFree}
use Rattle.fx_graph_model.specs.Sound.{IsSettled}
use Rattle.fx_graph_model.proofs.Members.{none_in_nil, contains_first, contains_later, contains_cases, cases_contains}
use Rattle.fx_graph_model.proofs.Values.{eager-agree, eager-unfold}
use Rattle.fx_graph_model.proofs.Flags.{marked-set_same, marked-set_other}
use Rattle.fx_graph_model.proofs.Ranks.{ranked_fewer, entry-set_same, entry-set_other}
use Rattle.fx_graph_model.proofs.Reading.{kept_of}

-- nothing is kept of these names
pub reset_all : List ℕ → List Value → List Value
reset_all [] cache = cache
reset_all (name ∷ names) cache = reset_all names (set cache name no_value)

pub length-forget : (names : List ℕ) (es : List Entry) → length (forget_all names es) ≡ length es
length-forget [] es = refl
length-forget (name ∷ names) es =
    length-forget names (set es name (forgotten (entry_of es name))) ∙ length-set es name (forgotten (entry_of es name))

pub length-clear : (names : List ℕ) (flags : List Bool) → length (clear_all names flags) ≡ length flags
length-clear [] flags = refl
length-clear (name ∷ names) flags = length-clear names (set flags name false) ∙ length-set flags name false

pub length-reset : (names : List ℕ) (cache : List Value) → length (reset_all names cache) ≡ length cache
unfolding reset_all
length-reset [] cache = refl
length-reset (name ∷ names) cache = length-reset names (set cache name no_value) ∙ length-set cache name no_value

-- one turn of a loop over the names
pub reset-more : (name : ℕ) (names : List ℕ) (cache : List Value) → reset_all (name ∷ names) cache ≡ reset_all names (set cache name no_value)
unfolding reset_all
reset-more name names cache = refl

pub reset-none : (cache : List Value) → reset_all [] cache ≡ cache
unfolding reset_all
reset-none cache = refl

out_first : (name : ℕ) (names : List ℕ) (other : ℕ) → (Contains (name ∷ names) other → ⊥) → other ≡ name → ⊥
out_first name names other out e = out (subst (Contains (name ∷ names)) (sym e) (contains_first name names))

out_rest : (name : ℕ) (names : List ℕ) (other : ℕ) → (Contains (name ∷ names) other → ⊥) → Contains names other → ⊥
out_rest name names other out c = out (contains_later name names other c)

pub entry-forget_other : (names : List ℕ) (es : List Entry) (other : ℕ) → (Contains names other → ⊥)
    → entry_of (forget_all names es) other ≡ entry_of es other
entry-forget_other [] es other out = refl
entry-forget_other (name ∷ names) es other out =
    entry-forget_other names (set es name (forgotten (entry_of es name))) other (out_rest name names other out)
    ∙ entry-set_other es name other (forgotten (entry_of es name)) (out_first name names other out)

forgotten_here : (es : List Entry) (name : ℕ) → (entry_of (set es name (forgotten (entry_of es name))) name).definition ≡ Forgotten
forgotten_here es name =
    elim (cases_lt name (length es)) [
      | inl within ↦ ap (λ (e : Entry). e.definition) (entry-set_same es name (forgotten (entry_of es name)) within)
      | inr past ↦
          let long : length (set es name (forgotten (entry_of es name))) ≡ length es = length-set es name (forgotten (entry_of es name)) in
          ap (λ (e : Entry). e.definition) (get_or_past (set es name (forgotten (entry_of es name))) name nothing (omega arith))
    ]

pub entry-forget : (names : List ℕ) (es : List Entry) (name : ℕ) → Contains names name
    → (entry_of (forget_all names es) name).definition ≡ Forgotten
entry-forget [] es name c = absurd (none_in_nil name c)
entry-forget (first ∷ names) es name c =
    elim (cases_contains names name) [
      | inl later ↦ entry-forget names (set es first (forgotten (entry_of es first))) name later
      | inr out ↦
          elim (contains_cases first names name c) [
            | inl here ↦
                ap (λ (e : Entry). e.definition) (entry-forget_other names (set es first (forgotten (entry_of es first))) name out)
                ∙ ap (λ n. (entry_of (set es first (forgotten (entry_of es first))) n).definition) (sym here)
                ∙ forgotten_here es first
            | inr later ↦ absurd (out later)
          ]
    ]

-- kind and kind of access stay
pub entry-forget_same : {Y : Type 0} (part : Entry → Y) → ((e : Entry) → part (forgotten e) ≡ part e)
    → (names : List ℕ) (es : List Entry) (other : ℕ) → part (entry_of (forget_all names es) other) ≡ part (entry_of es other)
entry-forget_same part same [] es other = refl
entry-forget_same {Y} part same (name ∷ names) es other =
    entry-forget_same part same names (set es name (forgotten (entry_of es name))) other ∙ one (cases_eq other name) (cases_lt other (length es))
  where
    one : (other ≡ name) ⊎ (other ≡ name → ⊥) → (other < length es) ⊎ (length es ≤ other)
        → part (entry_of (set es name (forgotten (entry_of es name))) other) ≡ part (entry_of es other)
    one (inr differs) _ = ap part (entry-set_other es name other (forgotten (entry_of es name)) differs)
    one (inl here) (inl within) =
        let e : other ≡ name = here in
        ap (λ n. part (entry_of (set es name (forgotten (entry_of es name))) n)) here
        ∙ ap part (entry-set_same es name (forgotten (entry_of es name)) (omega arith))
        ∙ same (entry_of es name)
        ∙ ap (λ n. part (entry_of es n)) (sym here)
    one (inl here) (inr past) =
        let long : length (set es name (forgotten (entry_of es name))) ≡ length es = length-set es name (forgotten (entry_of es name)) in
        ap part (get_or_past (set es name (forgotten (entry_of es name))) other nothing (omega arith) ∙ sym (get_or_past es other nothing past))

pub marked-clear_other : (names : List ℕ) (flags : List Bool) (other : ℕ) → (Contains names other → ⊥)
    → marked (clear_all names flags) other ≡ marked flags other
marked-clear_other [] flags other out = refl
marked-clear_other (name ∷ names) flags other out =
    marked-clear_other names (set flags name false) other (out_rest name names other out)
    ∙ marked-set_other flags name other false (out_first name names other out)

cleared_here : (flags : List Bool) (name : ℕ) → marked (set flags name false) name ≡ false
cleared_here flags name =
    elim (cases_lt name (length flags)) [
      | inl within ↦ marked-set_same flags name false within
      | inr past ↦
          let long : length (set flags name false) ≡ length flags = length-set flags name false in
          get_or_past (set flags name false) name false (omega arith)
    ]

pub marked-clear : (names : List ℕ) (flags : List Bool) (name : ℕ) → Contains names name → marked (clear_all names flags) name ≡ false
marked-clear [] flags name c = absurd (none_in_nil name c)
marked-clear (first ∷ names) flags name c =
    elim (cases_contains names name) [
      | inl later ↦ marked-clear names (set flags first false) name later
      | inr out ↦
          elim (contains_cases first names name c) [
            | inl here ↦
                marked-clear_other names (set flags first false) name out
                ∙ ap (marked (set flags first false)) (sym here)
                ∙ cleared_here flags first
            | inr later ↦ absurd (out later)
          ]
    ]

pub kept-reset_other : (names : List ℕ) (cache : List Value) (other : ℕ) → (Contains names other → ⊥)
    → kept_of (reset_all names cache) other ≡ kept_of cache other
unfolding reset_all
kept-reset_other [] cache other out = refl
kept-reset_other (name ∷ names) cache other out =
    kept-reset_other names (set cache name no_value) other (out_rest name names other out)
    ∙ get_or-set_other cache name other no_value no_value (out_first name names other out)

reset_here : (cache : List Value) (name : ℕ) → kept_of (set cache name no_value) name ≡ no_value
reset_here cache name =
    elim (cases_lt name (length cache)) [
      | inl within ↦ get_or-set_same cache name no_value no_value within
      | inr past ↦
          let long : length (set cache name no_value) ≡ length cache = length-set cache name no_value in
          get_or_past (set cache name no_value) name no_value (omega arith)
    ]

pub kept-reset : (names : List ℕ) (cache : List Value) (name : ℕ) → Contains names name → kept_of (reset_all names cache) name ≡ no_value
unfolding reset_all
kept-reset [] cache name c = absurd (none_in_nil name c)
kept-reset (first ∷ names) cache name c =
    elim (cases_contains names name) [
      | inl later ↦ kept-reset names (set cache first no_value) name later
      | inr out ↦
          elim (contains_cases first names name c) [
            | inl here ↦
                kept-reset_other names (set cache first no_value) name out
                ∙ ap (kept_of (set cache first no_value)) (sym here)
                ∙ reset_here cache first
            | inr later ↦ absurd (out later)
          ]
    ]

-- a name uses something only where it isn't forgotten, and then as before
pub uses-forget : (names : List ℕ) (es : List Entry) (user used : ℕ) → Contains (uses (forget_all names es) user) used
    → (Contains names user → ⊥) × Contains (uses es user) used
uses-forget names es user used c =
    elim (cases_contains names user) [
      | inl member ↦
          let Q : Definition → Type 0 = λ d. Contains (operands_in d) used in
          absurd (none_in_nil used (subst Q (entry-forget names es user member) c))
      | inr out ↦
          let Q : Entry → Type 0 = λ e. Contains (operands_in e.definition) used in
          (out, subst Q (entry-forget_other names es user out) c)
    ]

pub ranked_forget : (names : List ℕ) (es : List Entry) (rank : ℕ → ℕ) → Ranked es rank → Ranked (forget_all names es) rank
ranked_forget names es rank ranked =
    ranked_fewer es (forget_all names es) rank ranked (length-forget names es) (λ user used c. (uses-forget names es user used c).1)

pub eager-forget_other : (names : List ℕ) (es : List Entry) → IsFree names es → (name : ℕ) → (Contains names name → ⊥)
    → eager (forget_all names es) name ≡ eager es name
eager-forget_other names es free name out =
    eager-agree (forget_all names es) es (λ (n : ℕ). Contains names n → ⊥) (length-forget names es)
    (λ n off. ap (λ (e : Entry). e.definition) (entry-forget_other names es n off))
    (λ n o off c m. off (free n o m (uses-forget names es n o c).1))
    name out

pub settled_forget : (names : List ℕ) (es : List Entry) (rank : ℕ → ℕ) → Ranked es rank → IsFree names es
    → (flags : List Bool) (cache : List Value) → IsSettled es flags cache
    → IsSettled (forget_all names es) (clear_all names flags) (reset_all names cache)
settled_forget names es rank ranked free flags cache s = record {
  flags = length-clear names flags ∙ (s.flags ∙ sym (length-forget names es));
  values = length-reset names cache ∙ (s.values ∙ sym (length-forget names es));
  closed = closed;
  kept = λ name h off. kept name h off (cases_contains names name);
}
  where
    closed : IsClosed (forget_all names es) (clear_all names flags)
    closed user used c on =
        let old = uses-forget names es user used c in
        elim (cases_contains names used) [
          | inl member ↦ absurd (old.0 (free user used member old.1))
          | inr out ↦
              marked-clear_other names flags user old.0
              ∙ s.closed user used old.1 (sym (marked-clear_other names flags used out) ∙ on)
        ]

    kept : (name : ℕ) → name < length (forget_all names es) → marked (clear_all names flags) name ≡ false
        → Contains names name ⊎ (Contains names name → ⊥) → kept_of (reset_all names cache) name ≡ eager (forget_all names es) name
    kept name h off (inl member) =
        kept-reset names cache name member
        ∙ sym (eager-unfold (forget_all names es) rank (ranked_forget names es rank ranked) name
        ∙ ap (value_of_definition (eager (forget_all names es))) (entry-forget names es name member))
    kept name h off (inr out) =
        let long : length (forget_all names es) ≡ length es = length-forget names es in
        kept-reset_other names cache name out
        ∙ s.kept name (omega arith) (sym (marked-clear_other names flags name out) ∙ off)
        ∙ sym (eager-forget_other names es free name out)
