-- What the end of a binding leaves of what the graph keeps.
use Rattle.std.proofs.Common.{◌≡◌, ◌<◌, ◌+◌, ℕ, Bool, true, List, length, set, Contains, refl, sym, ap, subst, ◌∙◌, inl, inr, arith, replicate, false}
use Rattle.std.proofs.lemmas.Bool.{cases_lt}
use Rattle.std.proofs.lemmas.List.{length-set, get_or_past}
use Rattle.fx_base.specs.declared.keys.Name.{Name}
use Rattle.fx_base.specs.declared.values.Value.{Value}
use Rattle.fx_graph_model.specs.declared.entries.Entry.{Entry}
use Rattle.fx_graph_model.specs.Uses.{uses, bound_in}
use Rattle.fx_graph_model.specs.Refusals.{operand_count}
use Rattle.fx_graph_model.specs.Sound.{IsSettled}
use Rattle.fx_graph_model.specs.Users.{Row, no_row, Mirrors}
use Rattle.fx_graph_model.proofs.Binding.{kept_entry, operand_count-set}
use Rattle.fx_graph_model.proofs.Changed.{known_within, bound_known}
use Rattle.fx_graph_model.proofs.Members.{none_in_nil}
use Rattle.fx_graph_model.proofs.Ranks.{ranked_plain}
use Rattle.fx_graph_model.proofs.SoundLemmas.{sound_unbound}
use Rattle.fx_graph.specs.Store.{IsStore}

-- who is used has a row
pub used_within : (es : List Entry) (users : List Row) → Mirrors es users → (from to : ℕ) → Contains (uses es from) to → to < length users
used_within es users m from to c =
    elim (cases_lt to (length users)) [
      | inl within ↦ within
      | inr past ↦
          absurd (none_in_nil from
          (subst (λ (xs : List ℕ). Contains xs from) (ap (λ (r : Row). r.items) (get_or_past users to no_row past)) (m.listed from to c)))
    ]

-- a bound name keeps its value for its own
pub store_unbound : (es : List Entry) (users : List Row) (unread before : List Bool) (newly : List Name) (n : ℕ) (cache : List Value) (work : List ℕ) (operands : ℕ)
    (name : ℕ) (users' : List Row) (unread' : List Bool) (cache' : List Value) (work' : List ℕ) (left : ℕ)
    → IsStore es users unread before newly n cache work operands → bound_in es name ≡ true
    → Mirrors (set es name (kept_entry es name)) users' → IsSettled (set es name (kept_entry es name)) unread' cache' → length work' ≡ length es
    → left + length (uses es name) ≡ operands
    → IsStore (set es name (kept_entry es name)) users' unread' before newly n cache' work' left
store_unbound es users unread before newly n cache work operands name users' unread' cache' work' left s bound m t w less =
    let known = bound_known es name bound in
    let long : length (set es name (kept_entry es name)) ≡ length es = length-set es name (kept_entry es name) in
    let total : operand_count (set es name (kept_entry es name)) + length (uses es name) ≡ operand_count es + 0 =
    operand_count-set es name (kept_entry es name) (known_within es name known) in
    record {
      ranks = (s.ranks.0, ranked_plain es s.ranks.0 s.ranks.1 name (kept_entry es name) refl);
      sound = sound_unbound es s.ranks.0 s.ranks.1 s.sound name known;
      settled = t;
      mirrors = m;
      spare_unset = s.spare_unset ∙ ap (λ n. replicate n false) (sym long);
      newly_length = s.newly_length ∙ sym long;
      newly_few = omega (arith, s.newly_few);
      work_length = w ∙ sym long;
      few = omega (arith, s.few);
      counted = omega (arith, s.counted);
      operands_few = omega (arith, s.operands_few);
    }
