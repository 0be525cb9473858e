use Rattle.fx_cells_laws.proofs.Counting.{least_line, most_lines, fitting_line}
use Rattle.fx_cells_laws.proofs.laws.lines_are_few.Goals as goal

pub returns-clause-least : goal.returns-clause-least
returns-clause-least c = least_line

pub returns-clause-most : goal.returns-clause-most
returns-clause-most c = most_lines

pub returns-clause-fits : goal.returns-clause-fits
returns-clause-fits c = fitting_line
