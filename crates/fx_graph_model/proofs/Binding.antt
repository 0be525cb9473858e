-- A binding that is made, and one that is taken away.
use Rattle.std.proofs.Common.{◌≡◌, ℕ, zero, suc, ◌+◌, ◌<◌, ◌≤◌, Bool, true, false, List, [], ◌∷◌, ◌++◌, length, set, arith, sym, ◌∙◌, ap, subst, inl, inr, ◌⊎◌}
use Rattle.std.specs.List.{Contains}
use Rattle.std.proofs.lemmas.Bool.{cases_lt, cases_eq, both_ways}
use Rattle.std.proofs.lemmas.List.{length-set}
use Rattle.fx_base.specs.declared.values.Value.{Value}
use Rattle.fx_graph_model.specs.declared.entries.Entry.{Entry}
use Rattle.fx_graph_model.specs.Uses.{entry_of, operands_in, uses, Ranked}
use Rattle.fx_graph_model.specs.Eager.{value_of_definition, value_in, eager}
use Rattle.fx_graph_model.specs.Unread.{leads_to_any, after_marking, IsClosed}
use Rattle.fx_graph_model.specs.Marking.{IsClosedBut}
use Rattle.fx_graph_model.specs.Changes.{given}
use Rattle.fx_graph_model.specs.Refusals.{operand_count}
use Rattle.fx_graph_model.specs.Sound.{IsSettled}
use Rattle.fx_graph_model.proofs.Members.{none_in_nil, contains_first}
use Rattle.fx_graph_model.proofs.Walks.{any-member}
use Rattle.fx_graph_model.proofs.Values.{value_same, value_past, eager-unfold}
use Rattle.fx_graph_model.proofs.Ranks.{entry-set_same, entry-set_other, uses-set_cases}
use Rattle.fx_graph_model.proofs.Changed.{settled_changed}

-- only the name's own uses are new
pub closed_bound : (es : List Entry) (name : ℕ) (entry : Entry) (flags : List Bool) → IsClosed es flags
    → IsClosedBut (set es name entry) flags (name ∷ [])
closed_bound es name entry flags closed user used c on =
    elim (uses-set_cases es name entry user used c) [
      | inl new ↦ inr (subst (Contains (name ∷ [])) (sym new.0) (contains_first name []))
      | inr old ↦ inl (closed user used old.1 on)
    ]

pub settled_bound : (es : List Entry) (rank : ℕ → ℕ) (name : ℕ) (entry : Entry) → Ranked (set es name entry) rank
    → (flags : List Bool) (cache : List Value) → IsSettled es flags cache
    → IsSettled (set es name entry) (after_marking (set es name entry) (name ∷ []) flags) cache
settled_bound es rank name entry ranked flags cache s =
    settled_changed es (set es name entry) rank ranked (name ∷ []) flags cache s (length-set es name entry)
    (λ other off. ap (λ (e : Entry). e.definition) (entry-set_other es name other entry (differs other off)))
    (closed_bound es name entry flags s.closed)
  where
    differs : (other : ℕ) → leads_to_any (set es name entry) (name ∷ []) other ≡ false → other ≡ name → ⊥
    differs other off e =
        both_ways _ off
        (any-member (set es name entry) (name ∷ []) other (subst (Contains (name ∷ [])) (sym e) (contains_first name [])))

-- the entry of a name that keeps its value
abbrev pub kept_entry : List Entry → ℕ → Entry
kept_entry es name = given true (eager es name) (entry_of es name)

value_kept : (es : List Entry) (rank : ℕ → ℕ) → Ranked es rank → (name depth other : ℕ) → rank other < depth → other < length es
    → value_in depth (set es name (kept_entry es name)) other ≡ eager es other
unfolding value_in
value_kept es rank ranked name zero other below within = absurd (omega arith)
value_kept es rank ranked name (suc depth) other below within =
    elim (cases_eq other name) [
      | inl here ↦
          let fs : List Entry = set es name (kept_entry es name) in
          let e : other ≡ name = here in
          ap (λ n. value_of_definition (value_in depth fs) (entry_of fs n).definition) here
          ∙ ap (λ (d : Entry). value_of_definition (value_in depth fs) d.definition)
          (entry-set_same es name (kept_entry es name) (omega arith))
          ∙ ap (eager es) (sym here)
      | inr differs ↦
          let fs : List Entry = set es name (kept_entry es name) in
          ap (λ (d : Entry). value_of_definition (value_in depth fs) d.definition)
          (entry-set_other es name other (kept_entry es name) differs)
          ∙ value_same (value_in depth fs) (eager es) (entry_of es other).definition
          (λ (o : ℕ) (c : Contains (uses es other) o).
          let falls : rank o < rank other = ranked.falls other o c in
          value_kept es rank ranked name depth o (omega arith) (ranked.within other o c))
          ∙ sym (eager-unfold es rank ranked other)
    ]

-- a name that keeps its value leaves all values as they are
pub eager-kept : (es : List Entry) (rank : ℕ → ℕ) → Ranked es rank → (name other : ℕ)
    → eager (set es name (kept_entry es name)) other ≡ eager es other
eager-kept es rank ranked name other =
    let long : length (set es name (kept_entry es name)) ≡ length es = length-set es name (kept_entry es name) in
    elim (cases_lt other (length es)) [
      | inl within ↦
          let small : rank other < length es = ranked.small other within in
          value_kept es rank ranked name (length (set es name (kept_entry es name))) other (omega arith) within
      | inr past ↦
          value_past (length (set es name (kept_entry es name))) (set es name (kept_entry es name)) other (omega arith)
          ∙ sym (value_past (length es) es other past)
    ]

pub settled_unbound : (es : List Entry) (rank : ℕ → ℕ) → Ranked es rank → (name : ℕ) (flags : List Bool) (cache : List Value)
    → IsSettled es flags cache → IsSettled (set es name (kept_entry es name)) flags cache
settled_unbound es rank ranked name flags cache s =
    let long : length (set es name (kept_entry es name)) ≡ length es = length-set es name (kept_entry es name) in
    record {
      flags = s.flags ∙ sym long;
      values = s.values ∙ sym long;
      closed = λ user used c on. s.closed user used (fewer user used (uses-set_cases es name (kept_entry es name) user used c)) on;
      kept = λ other h off. s.kept other (omega arith) off ∙ sym (eager-kept es rank ranked name other);
    }
  where
    fewer : (user used : ℕ) → ((user ≡ name) × Contains [] used) ⊎ ((user ≡ name → ⊥) × Contains (uses es user) used) → Contains (uses es user) used
    fewer user used (inl new) = absurd (none_in_nil used new.1)
    fewer user used (inr old) = old.1

-- how many operands there are after an entry is written
pub operand_count-set : (es : List Entry) (name : ℕ) (entry : Entry) → name < length es
    → operand_count (set es name entry) + length (uses es name) ≡ operand_count es + length (operands_in entry.definition)
unfolding operand_count
operand_count-set [] name entry h = absurd (omega arith)
operand_count-set (first ∷ es) zero entry h = omega arith
operand_count-set (first ∷ es) (suc name) entry h =
    let rest : operand_count (set es name entry) + length (uses es name) ≡ operand_count es + length (operands_in entry.definition) =
    operand_count-set es name entry (omega arith) in
    omega arith

pub operand_count-uses : (es : List Entry) (name : ℕ) → length (uses es name) ≤ operand_count es
unfolding operand_count
operand_count-uses [] name = omega arith
operand_count-uses (first ∷ es) zero = omega arith
operand_count-uses (first ∷ es) (suc name) =
    let rest : length (uses es name) ≤ operand_count es = operand_count-uses es name in
    omega arith

-- a declared name has none
pub operand_count-declared : (es : List Entry) (entry : Entry) → operands_in entry.definition ≡ []
    → operand_count (es ++ entry ∷ []) ≡ operand_count es
unfolding operand_count
operand_count-declared [] entry none = let e : length (operands_in entry.definition) ≡ 0 = ap length none in omega arith
operand_count-declared (first ∷ es) entry none =
    let rest : operand_count (es ++ entry ∷ []) ≡ operand_count es = operand_count-declared es entry none in
    omega arith
