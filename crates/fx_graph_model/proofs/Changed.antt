-- What a change of some names leaves as it is: entries by name, and the values that are kept of the others.
use Rattle.std.proofs.Common.{◌≡◌, ℕ, ◌+◌, ◌<◌, ◌≤◌, Bool, true, false, ◌||◌, List, [], ◌∷◌, ◌++◌, length, arith, refl, sym, ◌∙◌, ap, inl, inr, ◌⊎◌}
use Rattle.std.specs.List.{Contains}
use Rattle.std.proofs.lemmas.Bool.{cases_Bool, cases_lt, both_ways, or_parts, or_left, or_right, false≢true, false_from_ne_true}
use Rattle.std.proofs.lemmas.List.{get_or_past, length_push, get_or_push, get_or_append_left}
use Rattle.fx_base.specs.declared.values.Value.{Value}
use Rattle.fx_expr.specs.Meaning.{no_value}
use Rattle.fx_graph_model.specs.declared.entries.Entry.{Entry}
use Rattle.fx_graph_model.specs.declared.entries.Definition.{Definition}
use Rattle.fx_graph_model.specs.declared.entries.Definition.TheVariants.{Base, Bound, Forgotten}
use Rattle.fx_graph_model.specs.Uses.{nothing, entry_of, operands_in, is_binding, is_gone, uses, bound_in, unknown_in, Ranked}
use Rattle.fx_graph_model.specs.Eager.{value_of_definition, eager}
use Rattle.fx_graph_model.specs.Unread.{marked, leads_to_any, after_marking, IsClosed}
use Rattle.fx_graph_model.specs.Marking.{IsClosedBut}
use Rattle.fx_graph_model.specs.Sound.{IsSettled}
use Rattle.fx_graph_model.proofs.Walks.{any-member, any-first, user_within}
use Rattle.fx_graph_model.proofs.Values.{value_at, value-agree, eager-agree, eager-unfold}
use Rattle.fx_graph_model.proofs.Flags.{marked-by, length-by}
use Rattle.fx_graph_model.proofs.Ranks.{uses-declared}
use Rattle.fx_graph_model.proofs.Reading.{kept_of}

-- a known name was declared
pub known_within : (es : List Entry) (name : ℕ) → unknown_in es name ≡ false → name < length es
known_within es name known =
    elim (cases_lt name (length es)) [
      | inl within ↦ within
      | inr past ↦ absurd (both_ways _ known (ap (λ (e : Entry). is_gone e.definition) (get_or_past es name nothing past)))
    ]

-- a bound name was declared and not forgotten
pub bound_known : (es : List Entry) (name : ℕ) → bound_in es name ≡ true → unknown_in es name ≡ false
bound_known es name bound = by_case (entry_of es name).definition bound
  where
    by_case : (d : Definition) → is_binding d ≡ true → is_gone d ≡ false
    by_case (Base value) e = absurd (false≢true e)
    by_case (Bound expr operands) e = refl
    by_case Forgotten e = absurd (false≢true e)

-- what is neither bound nor gone has a value of its own
pub base_definition : (d : Definition) → is_binding d ≡ false → is_gone d ≡ false → (value : Value) × (d ≡ Base value)
base_definition (Base value) _ _ = (value, refl)
base_definition (Bound expr operands) e _ = absurd (false≢true (sym e))
base_definition Forgotten _ e = absurd (false≢true (sym e))

-- what isn't bound uses nothing
pub no_operands : (d : Definition) → is_binding d ≡ false → operands_in d ≡ []
no_operands (Base value) _ = refl
no_operands (Bound expr operands) e = absurd (false≢true (sym e))
no_operands Forgotten _ = refl

-- the flags after a mark, by name
pub marked-marking : (es : List Entry) (names : List ℕ) (flags : List Bool) (name : ℕ) → name < length flags
    → marked (after_marking es names flags) name ≡ (marked flags name || leads_to_any es names name)
marked-marking es names flags name h = marked-by (λ (n : ℕ). marked flags n || leads_to_any es names n) (length flags) name h

-- marks that spread keep the flags closed
pub closed_marking : (es : List Entry) (rank : ℕ → ℕ) → Ranked es rank → (names : List ℕ) (flags : List Bool)
    → length flags ≡ length es → IsClosedBut es flags names → IsClosed es (after_marking es names flags)
closed_marking es rank ranked names flags long closed user name c on =
    let low : name < length es = ranked.within user name c in
    let high : user < length es = user_within es user name c in
    let was : (marked flags name || leads_to_any es names name) ≡ true = sym (marked-marking es names flags name (omega arith)) ∙ on in
    marked-marking es names flags user (omega arith) ∙ by_case was (cases_Bool (marked flags name))
  where
    by_case : (marked flags name || leads_to_any es names name) ≡ true → (marked flags name ≡ true) ⊎ (marked flags name ≡ false)
        → (marked flags user || leads_to_any es names user) ≡ true
    by_case e (inl holds) =
        elim (closed user name c holds) [
          | inl too ↦ or_left _ _ too
          | inr member ↦ or_right _ _ (any-member es names user member)
        ]
    by_case e (inr fails) =
        or_right _ _ (any-first es rank ranked names user name c (sym (ap (λ (b : Bool). b || leads_to_any es names name) fails) ∙ e))

-- a change of definitions among names that lead to the changed ones
pub settled_changed : (es fs : List Entry) (rank : ℕ → ℕ) → Ranked fs rank → (names : List ℕ) (flags : List Bool) (cache : List Value)
    → IsSettled es flags cache → length fs ≡ length es
    → ((name : ℕ) → leads_to_any fs names name ≡ false → (entry_of fs name).definition ≡ (entry_of es name).definition)
    → IsClosedBut fs flags names → IsSettled fs (after_marking fs names flags) cache
settled_changed es fs rank ranked names flags cache s long same closed = record {
  flags = length-by (λ (n : ℕ). marked flags n || leads_to_any fs names n) (length flags) ∙ (s.flags ∙ sym long);
  values = s.values ∙ sym long;
  closed = closed_marking fs rank ranked names flags (s.flags ∙ sym long) closed;
  kept = kept;
}
  where
    free : (name o : ℕ) → leads_to_any fs names name ≡ false → Contains (uses fs name) o → leads_to_any fs names o ≡ false
    free name o off c = false_from_ne_true _ (λ on. both_ways _ off (any-first fs rank ranked names name o c on))

    kept : (name : ℕ) → name < length fs → marked (after_marking fs names flags) name ≡ false → kept_of cache name ≡ eager fs name
    kept name h off =
        let f : length flags ≡ length es = s.flags in
        let parts = or_parts (marked flags name) (leads_to_any fs names name)
        (sym (marked-marking fs names flags name (omega arith)) ∙ off) in
        s.kept name (omega arith) parts.0
        ∙ sym (eager-agree fs es (λ (n : ℕ). leads_to_any fs names n ≡ false) long same free name parts.1)

-- the entries that stood before one was declared are as they were
pub entry-declared : (es : List Entry) (entry : Entry) (name : ℕ) → name < length es → entry_of (es ++ entry ∷ []) name ≡ entry_of es name
entry-declared es entry name h = get_or_append_left es (entry ∷ []) nothing name h

pub eager-declared : (es : List Entry) (rank after : ℕ → ℕ) → Ranked es rank → (entry : Entry) → Ranked (es ++ entry ∷ []) after
    → operands_in entry.definition ≡ [] → (name : ℕ) → name < length es → eager (es ++ entry ∷ []) name ≡ eager es name
eager-declared es rank after ranked entry later none name h =
    let long : length (es ++ entry ∷ []) ≡ length es + 1 = length_push es entry in
    value-agree (es ++ entry ∷ []) es (λ (n : ℕ). n < length es)
    (λ n low. ap (λ (e : Entry). e.definition) (entry-declared es entry n low))
    (λ n o low c. ranked.within n o (uses-declared es entry none n o c))
    (length (es ++ entry ∷ [])) name h
    ∙ value_at es rank ranked (length (es ++ entry ∷ [])) name (omega arith)

-- a declared name is read, and its value is kept
pub settled_declared : (es : List Entry) (rank after : ℕ → ℕ) → Ranked es rank → (entry : Entry) (value : Value)
    → Ranked (es ++ entry ∷ []) after → entry.definition ≡ Base value → (flags : List Bool) (cache : List Value) → IsSettled es flags cache
    → IsSettled (es ++ entry ∷ []) (flags ++ false ∷ []) (cache ++ value ∷ [])
settled_declared es rank after ranked entry value later base flags cache s =
    let long : length (es ++ entry ∷ []) ≡ length es + 1 = length_push es entry in
    let f : length (flags ++ false ∷ []) ≡ length flags + 1 = length_push flags false in
    let v : length (cache ++ value ∷ []) ≡ length cache + 1 = length_push cache value in
    let sf : length flags ≡ length es = s.flags in
    let sv : length cache ≡ length es = s.values in
    record {
      flags = omega arith;
      values = omega arith;
      closed = closed;
      kept = λ name h off. kept name h off (cases_lt name (length es));
    }
  where
    none : operands_in entry.definition ≡ []
    none = ap operands_in base

    old_flag : (name : ℕ) → name < length es → marked (flags ++ false ∷ []) name ≡ marked flags name
    old_flag name h = let sf : length flags ≡ length es = s.flags in get_or_append_left flags (false ∷ []) false name (omega arith)

    closed : (user used : ℕ) → Contains (uses (es ++ entry ∷ []) user) used → marked (flags ++ false ∷ []) used ≡ true
        → marked (flags ++ false ∷ []) user ≡ true
    closed user used c on =
        let old : Contains (uses es user) used = uses-declared es entry none user used c in
        old_flag user (user_within es user used old)
        ∙ s.closed user used old (sym (old_flag used (ranked.within user used old)) ∙ on)

    kept : (name : ℕ) → name < length (es ++ entry ∷ []) → marked (flags ++ false ∷ []) name ≡ false
        → (name < length es) ⊎ (length es ≤ name) → kept_of (cache ++ value ∷ []) name ≡ eager (es ++ entry ∷ []) name
    kept name h off (inl low) =
        let sv : length cache ≡ length es = s.values in
        get_or_append_left cache (value ∷ []) no_value name (omega arith)
        ∙ s.kept name low (sym (old_flag name low) ∙ off)
        ∙ sym (eager-declared es rank after ranked entry later none name low)
    kept name h off (inr past) =
        let sv : length cache ≡ length es = s.values in
        let long : length (es ++ entry ∷ []) ≡ length es + 1 = length_push es entry in
        let here : length es ≡ name = omega arith in
        get_or_push cache value no_value name (sv ∙ here)
        ∙ sym (eager-unfold (es ++ entry ∷ []) after later name
        ∙ ap (λ (e : Entry). value_of_definition (eager (es ++ entry ∷ [])) e.definition) (get_or_push es entry nothing name here)
        ∙ ap (value_of_definition (eager (es ++ entry ∷ []))) base)
