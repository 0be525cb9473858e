-- What is answered is what the text is read as, and the other way round.
-- It rests on the law of one reading.
use Rattle.fx_css.proofs.Answered.{read_by, fault_by, exact_by}
use Rattle.fx_css.proofs.Within.{sheet_kept}
use Rattle.fx_css.proofs.sheets.read_sheet.Goals as goal

pub returns-in-Ok-clause-read : goal.returns-in-Ok-clause-read
returns-in-Ok-clause-read c = read_by c.args.file c.args.bytes.now c.read_as.result c.read_as.ensures

pub returns-in-Ok-clause-fault : goal.returns-in-Ok-clause-fault
returns-in-Ok-clause-fault c = fault_by c.args.file c.args.bytes.now c.read_as.result c.in-Ok.ensures.cases.1 c.read_as.ensures

pub returns-in-Ok-clause-exact : goal.returns-in-Ok-clause-exact
returns-in-Ok-clause-exact c = exact_by c.args.file c.args.bytes.now c.read_as.result c.read_as.ensures

pub returns-in-Ok-clause-within : goal.returns-in-Ok-clause-within
returns-in-Ok-clause-within c = sheet_kept c.args.file c.args.bytes.now c.read_as.result c.requires (read_by c.args.file c.args.bytes.now c.read_as.result c.read_as.ensures)
