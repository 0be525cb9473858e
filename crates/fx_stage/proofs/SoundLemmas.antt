-- What is true of every world stays true.
use Rattle.std.proofs.Common.{◌≡◌, ◌≤◌, All, ℕ, List, [], Option, Some, None, Contains, false, sym, subst, arith}
use Rattle.std.specs.FinMap.{get-empty}
use Rattle.fx_base.specs.declared.keys.Name.{Name}
use Rattle.fx_events.specs.Keyed.{key_cmp}
use Rattle.fx_graph_model.specs.declared.entries.Entry.{Entry}
use Rattle.fx_graph_model.specs.Uses.{unknown_in}
use Rattle.fx_store_model.specs.Stored.{Stored}
use Rattle.fx_stage_types.specs.declared.node_data.NodeData.{NodeData}
use Rattle.fx_stage_types.specs.Tables.{NodeTable, data_of, nobody}
use Rattle.fx_stage_model.specs.Looking.{properties_in}
use Rattle.fx_stage_model.specs.Sound.{IsSound}

in_none : {X : Type 0} (x : X) → Contains [] x → ⊥
in_none x there = omega (arith, there.1)

is_none : (o : Option NodeData) (node : NodeData) → o ≡ None → o ≡ Some node → ⊥
is_none o node none some = cc

pub sound_nowhere : (entries : List Entry) → IsSound entries nobody []
sound_nowhere entries = record {
  owned = λ key name there. absurd (in_none name (subst (λ (o : Option NodeData). Contains (properties_in o) name) (get-empty key_cmp key) there));
  apart = λ one other name there. absurd (in_none name (subst (λ (o : Option NodeData). Contains (properties_in o) name) (get-empty key_cmp one) there));
  low = λ key node is. absurd (is_none (data_of nobody key) node (get-empty key_cmp key) is);
  declared = λ name property is. absurd (cc);
  unowned = λ name property key is. absurd (cc);
}

-- where known properties stay known
pub sound_kept : (before now : List Entry) (table : NodeTable) (free : List (List ℕ × Name))
    → ((name : ℕ) → unknown_in before name ≡ false → unknown_in now name ≡ false) → IsSound before table free
    → IsSound now table free
sound_kept before now table free known sound = record {
  owned = λ key name there. known name (sound.owned key name there);
  apart = sound.apart;
  low = sound.low;
  declared = λ name property is. known property.0 (sound.declared name property is);
  unowned = sound.unowned;
}

-- where no number is given, what was written is still of numbers that were
pub numbered_same : (before now : Stored) (written : List (ℕ × List (List ℕ))) → now.given ≡ before.given
    → All (λ (entry : ℕ × List (List ℕ)). entry.0 ≤ before.given) written
    → All (λ (entry : ℕ × List (List ℕ)). entry.0 ≤ now.given) written
numbered_same before now written same all =
    subst (λ (n : ℕ). All (λ (entry : ℕ × List (List ℕ)). entry.0 ≤ n) written) (sym same) all
