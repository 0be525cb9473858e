-- What nodes have, before and after a change at one key.
use Rattle.std.proofs.Common.{◌≡◌, ◌∙◌, ◌==◌, ap, sym, subst, cond, true, ℕ, List, Option, Some, None}
use Rattle.std.specs.FinMap.{from_entries, get, insert}
use Rattle.std.specs.Map.{lookup}
use Rattle.std.specs.Option.{option_map_or}
use Rattle.std.proofs.lemmas.Bool.{and_parts, eqb-true}
use Rattle.fx_base.specs.declared.keys.NodeKey.{NodeKey}
use Rattle.fx_events.specs.Keyed.{key_cmp}
use Rattle.fx_events.proofs.Maps.{got, inserted, same_key}
use Rattle.fx_stage_types.specs.declared.node_data.NodeData.{NodeData}
use Rattle.fx_stage_types.specs.Tables.{NodeTable, changed_data, data_of}

-- what a node has is what stands under its key
pub at_key : (entries : List (NodeKey × NodeData)) (table : NodeTable) → from_entries {R = key_cmp} entries ≡ table
    → (key : NodeKey) (found : Option NodeData) → found ≡ lookup (same_key key) entries → data_of table key ≡ found
at_key entries table is key found there =
    ap (λ (t : NodeTable). get t key) (sym is) ∙ got entries key ∙ sym there

one_key : (one other : NodeKey) → same_key one other ≡ true → one ≡ other
one_key one other same =
    let parts = and_parts (one.slot == other.slot) (one.birth == other.birth) same in
    let by_slot : ℕ → NodeKey = λ s. record { slot = s; birth = one.birth } in
    let by_birth : ℕ → NodeKey = λ b. record { slot = other.slot; birth = b } in
    ap by_slot (eqb-true _ _ parts.0) ∙ ap by_birth (eqb-true _ _ parts.1)

-- what stands under a key that is the same
pub at_same_key : (entries : List (NodeKey × NodeData)) (table : NodeTable) → from_entries {R = key_cmp} entries ≡ table
    → (other key : NodeKey) (node : NodeData) → lookup (same_key other) entries ≡ Some node
    → same_key other key ≡ true → data_of table key ≡ Some node
at_same_key entries table is other key node there same =
    at_key entries table is key (Some node)
    (sym (subst (λ (k : NodeKey). lookup (same_key k) entries ≡ Some node) (one_key other key same) there))

abbrev by_found : NodeTable → NodeKey → (NodeData → NodeData) → Option NodeData → NodeTable
by_found table key change found = option_map_or (λ (node : NodeData). insert table key (change node)) found table

pub changed_there : (old new : List (NodeKey × NodeData)) (table : NodeTable) → from_entries {R = key_cmp} old ≡ table
    → (key : NodeKey) (node made : NodeData) (change : NodeData → NodeData) → Some node ≡ lookup (same_key key) old
    → made ≡ change node
    → ((q : NodeKey) → lookup (same_key q) new ≡ cond (same_key key q) (Some made) (lookup (same_key q) old))
    → from_entries {R = key_cmp} new ≡ changed_data key change table
changed_there old new table is key node made change there changed agree =
    inserted old new key made agree
    ∙ ap (λ (t : NodeTable). insert t key made) is
    ∙ ap (insert table key) changed
    ∙ sym (ap (by_found table key change) (at_key old table is key (Some node) there))

pub changed_nowhere : (old : List (NodeKey × NodeData)) (table : NodeTable) → from_entries {R = key_cmp} old ≡ table
    → (key : NodeKey) (change : NodeData → NodeData) → None ≡ lookup (same_key key) old
    → table ≡ changed_data key change table
changed_nowhere old table is key change there =
    sym (ap (by_found table key change) (at_key old table is key None there))
