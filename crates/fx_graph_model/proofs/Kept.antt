-- Values that need no ranks, and names that are forgotten.
use Rattle.std.proofs.Common.{◌≡◌, ℕ, zero, suc, ◌<◌, List, length, arith, ap}
use Rattle.fx_base.specs.declared.values.Value.{Value}
use Rattle.fx_graph_model.specs.declared.entries.Entry.{Entry}
use Rattle.fx_graph_model.specs.declared.entries.Definition.TheVariants.{Base}
use Rattle.fx_graph_model.specs.Uses.{entry_of}
use Rattle.fx_graph_model.specs.Eager.{value_of_definition, value_in, eager}

own_at_depth : (depth : ℕ) (es : List Entry) (name : ℕ) (value : Value) → 0 < depth → (entry_of es name).definition ≡ Base value
    → value_in depth es name ≡ value
unfolding value_in
own_at_depth zero es name value some base = absurd (omega arith)
own_at_depth (suc depth) es name value some base = ap (value_of_definition (value_in depth es)) base

-- a value of its own is the eager one
pub eager-own : (es : List Entry) (name : ℕ) (value : Value) → name < length es → (entry_of es name).definition ≡ Base value
    → eager es name ≡ value
eager-own es name value within base = own_at_depth (length es) es name value (omega arith) base
