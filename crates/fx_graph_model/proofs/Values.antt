-- Eager values: their unfolding, and two stores that agree on the names that a value needs.
use Rattle.std.proofs.Common.{◌≡◌, ℕ, zero, suc, ◌<◌, ◌≤◌, List, length, arith, refl, sym, ◌∙◌, ap, inl, inr}
use Rattle.std.specs.List.{Contains}
use Rattle.std.proofs.lemmas.Bool.{cases_lt}
use Rattle.std.proofs.lemmas.List.{get_or_past}
use Rattle.fx_base.specs.declared.values.Value.{Value}
use Rattle.fx_expr.specs.Meaning.{mean, no_value}
use Rattle.fx_graph_model.specs.declared.entries.Entry.{Entry}
use Rattle.fx_graph_model.specs.declared.entries.Definition.{Definition}
use Rattle.fx_graph_model.specs.declared.entries.Definition.TheVariants.{Base, Bound, Forgotten}
use Rattle.fx_graph_model.specs.Uses.{nothing, entry_of, operands_in, uses, Ranked}
use Rattle.fx_graph_model.specs.Eager.{value_of_definition, value_in, eager}
use Rattle.fx_graph_model.proofs.Members.{map_same}

pub value_same : (f g : ℕ → Value) (definition : Definition)
    → ((name : ℕ) → Contains (operands_in definition) name → f name ≡ g name)
    → value_of_definition f definition ≡ value_of_definition g definition
value_same f g (Base value) same = refl
value_same f g (Bound expr operands) same = ap (mean expr) (map_same f g operands same)
value_same f g Forgotten same = refl

pub value_past : (depth : ℕ) (es : List Entry) (name : ℕ) → length es ≤ name → value_in depth es name ≡ no_value
unfolding value_in
value_past zero es name past = refl
value_past (suc depth) es name past =
    ap (λ (e : Entry). value_of_definition (value_in depth es) e.definition) (get_or_past es name nothing past)

pub value_at_depths : (es : List Entry) (rank : ℕ → ℕ) → Ranked es rank → (d e name : ℕ) → rank name < d → rank name < e
    → value_in d es name ≡ value_in e es name
unfolding value_in
value_at_depths es rank ranked zero e name below _ = absurd (omega arith)
value_at_depths es rank ranked (suc d) zero name _ below = absurd (omega arith)
value_at_depths es rank ranked (suc d) (suc e) name first second =
    value_same (value_in d es) (value_in e es) (entry_of es name).definition
    (λ (o : ℕ) (c : Contains (uses es name) o).
    let falls : rank o < rank name = ranked.falls name o c in
    value_at_depths es rank ranked d e o (omega arith) (omega arith))

pub eager-unfold : (es : List Entry) (rank : ℕ → ℕ) → Ranked es rank → (name : ℕ)
    → eager es name ≡ value_of_definition (eager es) (entry_of es name).definition
unfolding value_in
eager-unfold es rank ranked name =
    elim (cases_lt name (length es)) [
      | inl within ↦
          let small : rank name < length es = ranked.small name within in
          value_at_depths es rank ranked (length es) (suc (length es)) name small (omega arith)
      | inr past ↦
          value_past (length es) es name past
          ∙ sym (ap (λ (e : Entry). value_of_definition (eager es) e.definition) (get_or_past es name nothing past))
    ]

-- at a depth that is enough
pub value_at : (es : List Entry) (rank : ℕ → ℕ) → Ranked es rank → (depth name : ℕ) → length es ≤ depth
    → value_in depth es name ≡ eager es name
value_at es rank ranked depth name enough =
    elim (cases_lt name (length es)) [
      | inl within ↦
          let small : rank name < length es = ranked.small name within in
          value_at_depths es rank ranked depth (length es) name (omega arith) small
      | inr past ↦ value_past depth es name past ∙ sym (value_past (length es) es name past)
    ]

-- equal definitions on names that use only such names
pub value-agree : (es fs : List Entry) (P : ℕ → Type 0)
    → ((name : ℕ) → P name → (entry_of es name).definition ≡ (entry_of fs name).definition)
    → ((name o : ℕ) → P name → Contains (uses es name) o → P o)
    → (depth name : ℕ) → P name → value_in depth es name ≡ value_in depth fs name
unfolding value_in
value-agree es fs P same closed zero name here = refl
value-agree es fs P same closed (suc depth) name here =
    value_same (value_in depth es) (value_in depth fs) (entry_of es name).definition
    (λ (o : ℕ) (c : Contains (uses es name) o). value-agree es fs P same closed depth o (closed name o here c))
    ∙ ap (value_of_definition (value_in depth fs)) (same name here)

pub eager-agree : (es fs : List Entry) (P : ℕ → Type 0) → length es ≡ length fs
    → ((name : ℕ) → P name → (entry_of es name).definition ≡ (entry_of fs name).definition)
    → ((name o : ℕ) → P name → Contains (uses es name) o → P o)
    → (name : ℕ) → P name → eager es name ≡ eager fs name
eager-agree es fs P long same closed name here =
    value-agree es fs P same closed (length es) name here ∙ ap (λ d. value_in d fs name) long
