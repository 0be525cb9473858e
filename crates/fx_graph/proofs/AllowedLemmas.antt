-- What a call may do that isn't refused.
use Rattle.std.proofs.Common.{◌≡◌, ◌<◌, Bool, false, List, [], ◌∷◌, length, get_or, set, None, refl, ap, sym, subst, ◌∙◌, inl, inr, arith}
use Rattle.std.proofs.lemmas.Bool.{cases_eq}
use Rattle.std.proofs.lemmas.List.Elements.{Contains-get_or}
use Rattle.fx_base.specs.Printing.{kind_of}
use Rattle.fx_base.specs.declared.keys.Name.{Name}
use Rattle.fx_base.specs.declared.values.Value.{Value}
use Rattle.std.specs.List.{Contains}
use Rattle.fx_graph_model.specs.declared.entries.Entry.{Entry}
use Rattle.fx_graph_model.specs.Uses.{entry_of, uses, is_binding, is_gone}
use Rattle.fx_graph_model.specs.Refusals.{kind_at, set_refusal, publish_refusal, operand_count}
use Rattle.fx_graph_model.specs.Changes.{given, with_values}
use Rattle.fx_graph_model.specs.Sound.{AreSound}
use Rattle.fx_graph_model.proofs.Members.{contains_first, contains_later}
use Rattle.fx_graph_model.proofs.Ranks.{entry-set_same, entry-set_other}
use Rattle.fx_graph_model.proofs.Changed.{known_within, no_operands}
use Rattle.fx_graph_model.proofs.Binding.{operand_count-set}
use Rattle.fx_graph_model.proofs.Refusing.{settable, publishable}
use Rattle.fx_graph.specs.Given.{IsBase, AreBase, AreReadOnly}

pub set_allowed : (pairs : List (Name × Value)) (es : List Entry) → set_refusal pairs es ≡ None → AreBase es pairs
set_allowed pairs es e k d h =
    let s = settable pairs es e (get_or pairs k d) (Contains-get_or pairs k d h) in (s.known, s.free, s.kind)

pub publish_allowed : (pairs : List (Name × Value)) (es : List Entry) → publish_refusal pairs es ≡ None → AreSound es → AreReadOnly es pairs → AreBase es pairs
publish_allowed pairs es e sound read_only k d h =
    let s = publishable pairs es e (get_or pairs k d) (Contains-get_or pairs k d h) in
    (s.0, sound.free (get_or pairs k d).0.0 (read_only k d h s.0), s.1)

-- a pair that may be given may still be given when another one was
base_kept : (es : List Entry) (sets : Bool) (first pair : Name × Value) → first.0.0 < length es → IsBase es first → IsBase es pair
    → IsBase (set es first.0.0 (given sets first.1 (entry_of es first.0.0))) pair
base_kept es sets first pair within one other =
    elim (cases_eq pair.0.0 first.0.0) [
      | inl e ↦
          let new : Entry = given sets first.1 (entry_of es first.0.0) in
          let is : entry_of (set es first.0.0 new) pair.0.0 ≡ new = ap (entry_of (set es first.0.0 new)) e ∙ entry-set_same es first.0.0 new within in (
            ap (λ (n : Entry). is_gone n.definition) is,
            ap (λ (n : Entry). is_binding n.definition) is,
            other.2 ∙ ap (kind_at es) e ∙ sym (ap (λ (n : Entry). n.kind) is),
          )
      | inr e ↦
          subst (λ (n : Entry). (is_gone n.definition ≡ false) × (is_binding n.definition ≡ false) × (kind_of pair.1 ≡ n.kind))
          (sym (entry-set_other es first.0.0 pair.0.0 (given sets first.1 (entry_of es first.0.0)) e)) other
    ]

-- values have no operands, before and after
pub count_given : (sets : Bool) (pairs : List (Name × Value)) (es : List Entry) → ((p : Name × Value) → Contains pairs p → IsBase es p)
    → operand_count (with_values sets pairs es) ≡ operand_count es
count_given sets [] es base = refl
count_given sets (pair ∷ pairs) es base =
    let here = base pair (contains_first pair pairs) in
    let new : Entry = given sets pair.1 (entry_of es pair.0.0) in
    let within = known_within es pair.0.0 here.0 in
    let none : length (uses es pair.0.0) ≡ 0 = ap length (no_operands (entry_of es pair.0.0).definition here.1) in
    let first : operand_count (set es pair.0.0 new) ≡ operand_count es = omega (arith, operand_count-set es pair.0.0 new within) in
    count_given sets pairs (set es pair.0.0 new) (λ p c. base_kept es sets pair p within here (base p (contains_later pair pairs p c))) ∙ first
