-- Marks that are set and taken back leave the flags as they were.
use Rattle.std.proofs.Common.{◌≡◌, ℕ, ◌<◌, ◌≤◌, Bool, true, false, not, ◌&&◌, ◌||◌, List, length, Contains, take, refl, sym, ap, ◌∙◌, inl, inr}
use Rattle.std.specs.List.{range_with_len}
use Rattle.std.proofs.lemmas.Bool.{and_from, and_parts, not_from_false}
use Rattle.fx_base.specs.declared.keys.Name.{Name}
use Rattle.fx_base.specs.declared.values.Value.{Value}
use Rattle.fx_base.specs.Names.{numbers}
use Rattle.fx_graph_model.specs.declared.entries.Entry.{Entry}
use Rattle.fx_graph_model.specs.Users.{Row}
use Rattle.fx_graph_model.specs.Changes.{clear_all}
use Rattle.fx_graph_model.specs.Unread.{marked, leads_to_any, after_marking, newly_marked}
use Rattle.fx_graph_model.proofs.Changed.{marked-marking}
use Rattle.fx_graph_model.proofs.Flags.{flags_by, length-by}
use Rattle.fx_graph_model.proofs.Forgetting.{length-clear, marked-clear, marked-clear_other}
use Rattle.fx_graph_model.proofs.Members.{below_range, cases_contains, contains_filter, filter_contains, in_range}
use Rattle.fx_graph.specs.Store.{IsStore}

pub length-marking : (es : List Entry) (names : List ℕ) (flags : List Bool) → length (after_marking es names flags) ≡ length flags
length-marking es names flags = length-by (λ (name : ℕ). marked flags name || leads_to_any es names name) (length flags)

module _ (es : List Entry) (names : List ℕ) (flags : List Bool) where
  abbrev becomes : ℕ → Bool
  becomes name = not (marked flags name) && leads_to_any es names name

  -- what becomes unread has a flag
  pub newly_within : (name : ℕ) → Contains (newly_marked es names flags) name → name < length flags
  newly_within name c =
      below_range (length flags) name (filter_contains becomes (range_with_len 0 (length flags)) name c).0

  cleared_at : (name : ℕ) → name < length flags
      → marked (clear_all (newly_marked es names flags) (after_marking es names flags)) name ≡ marked flags name
  cleared_at name within =
      elim (cases_contains (newly_marked es names flags) name) [
        | inl new ↦
            let parts = and_parts (not (marked flags name)) (leads_to_any es names name)
            (filter_contains becomes (range_with_len 0 (length flags)) name new).1 in
            marked-clear (newly_marked es names flags) (after_marking es names flags) name new ∙ sym (was_off (marked flags name) parts.0)
        | inr old ↦
            marked-clear_other (newly_marked es names flags) (after_marking es names flags) name old
            ∙ marked-marking es names flags name within
            ∙ same (marked flags name) (leads_to_any es names name)
            (λ off on. old (contains_filter becomes (range_with_len 0 (length flags)) name (in_range (length flags) name within)
            (and_from _ _ (not_from_false (marked flags name) off) on)))
      ]
    where
      was_off : (b : Bool) → not b ≡ true → b ≡ false
      was_off true e = sym e
      was_off false e = refl

      same : (a b : Bool) → (a ≡ false → b ≡ true → ⊥) → (a || b) ≡ a
      same true b never = refl
      same false true never = absurd (never refl refl)
      same false false never = refl

  pub marks_cleared : clear_all (newly_marked es names flags) (after_marking es names flags) ≡ flags
  marks_cleared =
      flags_by (marked flags) (clear_all (newly_marked es names flags) (after_marking es names flags)) (length flags)
      (length-clear (newly_marked es names flags) (after_marking es names flags)
      ∙ length-marking es names flags)
      cleared_at
      ∙ sym (flags_by (marked flags) flags (length flags) refl (λ name within. refl))

-- what was marked and listed, lent as slices, and taken back
pub cleared_back : (es : List Entry) (names : List ℕ) (was unread lent left : List Bool) (newly given : List Name) (count : ℕ)
    → lent ≡ unread → given ≡ newly → unread ≡ after_marking es names was
    → numbers (take count newly) ≡ newly_marked es names was → left ≡ clear_all (numbers (take count given)) lent → left ≡ was
cleared_back es names was unread lent left newly given count loan gift marked listed cleared =
    cleared
    ∙ ap (clear_all (numbers (take count given))) (loan ∙ marked)
    ∙ ap (λ (ns : List Name). clear_all (numbers (take count ns)) (after_marking es names was)) gift
    ∙ ap (λ (ns : List ℕ). clear_all ns (after_marking es names was)) listed
    ∙ marks_cleared es names was

-- another list of what became unread
pub store_foreseen : (es : List Entry) (users : List Row) (unread before : List Bool) (newly : List Name) (n : ℕ) (cache : List Value) (work : List ℕ) (operands : ℕ)
    (newly' : List Name) (n' : ℕ) (work' : List ℕ) → IsStore es users unread before newly n cache work operands
    → length newly' ≡ length es → n' ≤ length es → length work' ≡ length es
    → IsStore es users unread before newly' n' cache work' operands
store_foreseen es users unread before newly n cache work operands newly' n' work' s long few places =
    record {
      ranks = s.ranks;
      sound = s.sound;
      settled = s.settled;
      mirrors = s.mirrors;
      spare_unset = s.spare_unset;
      newly_length = long;
      newly_few = few;
      work_length = places;
      few = s.few;
      counted = s.counted;
      operands_few = s.operands_few;
    }
