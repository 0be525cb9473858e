-- How many parts compounds have.
use Rattle.std.specs.Prelude.{ℕ, ◌+◌, Bool, true, false, List, length, is_some}
use Rattle.fx_css_types.specs.Specificity.{class_count, id_count, type_count}
use Rattle.fx_css_types.specs.declared.selectors.Compound.{Compound}

abbrev pub one_if : Bool → ℕ
one_if true = 1
one_if false = 0

-- of one compound
abbrev pub parts_at : Compound → ℕ
parts_at c = length c.ids + (length c.classes + length c.pseudos) + one_if (is_some c.kind)

-- of all of them
abbrev pub parts_of : List Compound → ℕ
parts_of compounds = id_count compounds + class_count compounds + type_count compounds
