use Rattle.std.proofs.Common.{ap, ◌∙◌}
use Rattle.std.specs.Option.{option_map}
use Rattle.std.specs.Str.{bytes_eq}
use Rattle.fx_kinds.specs.Constraints.{ConstraintEntry}
use Rattle.fx_kinds.specs.ConstraintRows.{constraint_entry}
use Rattle.fx_look.proofs.TableLemmas.{find-map}
use Rattle.fx_kinds.proofs.constraints.find_entry.Goals as goal

pub returns : goal.returns
returns c = ap (option_map constraint_entry) c.find_row.ensures ∙ find-map constraint_entry (λ (e : ConstraintEntry). bytes_eq e.name c.args.name.now) c.args.table.now
