use Rattle.std.proofs.Common.{◌∙◌}
use Rattle.fx_look.proofs.ColorLemmas.{find_mapped}
use Rattle.fx_look.proofs.color_names.entry.Goals as goal

pub returns : goal.returns
returns c = c.find_entry.ensures ∙ find_mapped c.args.table.now c.args.name.now
