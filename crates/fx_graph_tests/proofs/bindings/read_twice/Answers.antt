-- A name that was read is not evaluated again.
use Rattle.std.proofs.Common.{◌≡◌, ◌≤◌, ◌&&◌, ℕ, Bool, true, false, not, List, length, refl, ap, ◌∙◌, inl, inr, arith}
use Rattle.std.proofs.lemmas.Bool.{cases_lt}
use Rattle.std.proofs.lemmas.List.{get_or_past}
use Rattle.std.proofs.lemmas.List.FromFn.{length-range_with_len}
use Rattle.std.proofs.lemmas.Result.{on_ok_weaker}
use Rattle.std.specs.List.{range_with_len}
use Rattle.fx_graph_model.specs.declared.entries.Entry.{Entry}
use Rattle.fx_graph_model.specs.Uses.{bound_in, leads}
use Rattle.fx_graph_model.specs.Unread.{marked, after_reading, bound_unread, evaluations}
use Rattle.fx_graph_model.specs.Changes.{State}
use Rattle.fx_graph_model.proofs.Flags.{marked-by, length-by}
use Rattle.fx_graph_model.proofs.Members.{tally_most}
use Rattle.fx_graph_model.proofs.Walks.{leads-refl}
use Rattle.fx_graph_tests.proofs.bindings.read_twice.Goals as goal

read_off : (es : List Entry) (name : ℕ) (flags : List Bool) → marked (after_reading es name flags) name ≡ false
read_off es name flags =
    let test : ℕ → Bool = λ other. marked flags other && not (leads es name other) in
    elim (cases_lt name (length flags)) [
      | inl within ↦ marked-by test (length flags) name within ∙ ap (λ (b : Bool). marked flags name && not b) (leads-refl es name) ∙ none (marked flags name)
      | inr past ↦
          let long : length (after_reading es name flags) ≡ length flags = length-by test (length flags) in
          get_or_past (after_reading es name flags) name false (omega arith)
    ]
  where
    none : (b : Bool) → (b && false) ≡ false
    none true = refl
    none false = refl

most : (es : List Entry) (name : ℕ) (flags : List Bool) → evaluations es name flags ≤ length es
unfolding evaluations
most es name flags =
    let few = tally_most (λ (other : ℕ). bound_in es other && (marked flags other && leads es name other)) (range_with_len 0 (length es)) in
    let long : length (range_with_len 0 (length es)) ≡ length es = length-range_with_len 0 (length es) in
    omega arith

pub returns : goal.returns
returns g c =
    let es = c.args.graph.now.entries in
    let n = c.args.name.0 in
    let off = ap (λ (s : State). marked s.unread n) c.in_ok-read.ensures.ok ∙ read_off es n c.args.graph.now.unread in
    let same = ap (λ (s : State). bound_unread c.read.new.self.entries s.unread) (c.read-2.ensures.again off) in
    on_ok_weaker c.read-2.result (λ steps. omega (arith, steps, same, c.read.ensures.cost, most es n c.args.graph.now.unread)) c.read-2.ensures.steps
