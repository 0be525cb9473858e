-- The table of style declarations is short, and each declaration stands at the first place of its name.
use Rattle.std.proofs.Common.{◌≡◌, ℕ, ◌^◌, ◌<◌, Bool, true, List, map, length, Some, refl, sym, subst, arith}
use Rattle.std.specs.Prelude.{slice_get}
use Rattle.std.specs.List.{position}
use Rattle.std.specs.Str.{bytes_eq}
use Rattle.fx_look.specs.Styles.{StyleRow, styles}
use Rattle.fx_look.specs.declared.styles.TheConstants.{STYLE_COUNT}
use Rattle.fx_look.proofs.TableLemmas.{position_small, all_first, row_found}

-- the table has as many rows as the code counts
pub styles_counted : length styles ≡ STYLE_COUNT
unfolding styles
styles_counted = refl

styles_few : length styles < 2 ^ 32
styles_few = omega (arith, styles_counted)

pub style_small : (test : StyleRow → Bool) (table : List StyleRow) (place : ℕ) (d : StyleRow) → Some place ≡ position test table → table ≡ styles → place < 2 ^ 32
style_small test table place d e same =
    let within = position_small test table d place (sym e) in
    let few : length table < 2 ^ 32 = subst (λ (rows : List StyleRow). length rows < 2 ^ 32) (sym same) styles_few in
    omega (arith, within, few)

all_styles_first : all_first (map (λ (row : StyleRow). row.name) styles) ≡ true
unfolding styles
all_styles_first = refl

pub style_found : (place : ℕ) (row : StyleRow) → slice_get styles place ≡ Some row → position (λ other. bytes_eq other.name row.name) styles ≡ Some place
style_found place row e = row_found (λ (row : StyleRow). row.name) styles place row all_styles_first e
