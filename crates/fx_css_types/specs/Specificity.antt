-- How specific a selector is (Selectors Level 3, "Calculating a selector's specificity").
use Rattle.std.specs.Prelude.{ℕ, ◌+◌, List, length, sum_by, count_by, is_some}
use Rattle.fx_css_types.specs.declared.selectors.Compound.{Compound}
use Rattle.fx_css_types.specs.declared.selectors.Selector.{Selector}

abbrev pub id_count : List Compound → ℕ
id_count compounds = sum_by (λ (c : Compound). length c.ids) compounds

-- classes and pseudo-classes count alike
abbrev pub class_count : List Compound → ℕ
class_count compounds = sum_by (λ (c : Compound). length c.classes + length c.pseudos) compounds

-- `*` is no type
abbrev pub type_count : List Compound → ℕ
type_count compounds = count_by (λ (c : Compound). is_some c.kind) compounds

-- ids; classes and pseudo-classes; types
abbrev pub specificity_of : Selector → ℕ × ℕ × ℕ
specificity_of selector = (id_count selector.compounds, class_count selector.compounds, type_count selector.compounds)

-- how many parts a selector has
abbrev pub part_count : Selector → ℕ
part_count selector = id_count selector.compounds + class_count selector.compounds + type_count selector.compounds
