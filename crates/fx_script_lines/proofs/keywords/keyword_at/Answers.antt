use Rattle.std.proofs.Common.{◌∙◌}
use Rattle.fx_script_lines.proofs.KeywordLemmas.{row_mapped}
use Rattle.fx_script_lines.proofs.keywords.keyword_at.Goals as goal

pub returns : goal.returns
returns c = c.find_row.ensures ∙ row_mapped c.args.table.now c.args.word.now
