use Rattle.std.proofs.Common.{ℕ, ◌≤◌, List, All, subst, sym, ap}
use Rattle.std.proofs.lemmas.List.Elements.{All-nil}
use Rattle.fx_base.specs.declared.keys.Name.{Name}
use Rattle.fx_stage_model.specs.Graphs.{Graph}
use Rattle.fx_stage_model.specs.Sound.{IsSound}
use Rattle.fx_stage_types.specs.Tables.{NodeTable, nobody}
use Rattle.fx_stage.proofs.SoundLemmas.{sound_nowhere}
use Rattle.fx_stage.proofs.stage.Stage.new.Goals as goal

pub invariant_of-result : goal.invariant_of-result
invariant_of-result c =
    let es = c.new.result.entries in
    record {
      sound = subst (λ (t : NodeTable). IsSound es t c.new-3.result.entries) (sym (ap (λ (g : Graph). g.table) c.new-2.ensures))
          (subst (λ (free : List (List ℕ × Name)). IsSound es nobody free) (sym c.new-3.ensures) (sound_nowhere es));
      numbered = subst (λ (es : List (ℕ × List (List ℕ))). All (λ (e : ℕ × List (List ℕ)). e.0 ≤ c.new.result.given) es)
          (sym c.new-7.ensures.empty) (All-nil (λ (e : ℕ × List (List ℕ)). e.0 ≤ c.new.result.given));
    }
