use Rattle.std.proofs.Common.{sym}
use Rattle.fx_pulse.proofs.OrderLemmas.{no_parent, rises_next}
use Rattle.fx_pulse.proofs.checking.hangs_on_line.Goals as goal

pub returns-in-None : goal.returns-in-None
returns-in-None c =
    no_parent c.args.boxes.now c.args.place c.requires.tree c.requires.behind c.requires.there
    (sym c.in-None.ensures)

pub returns-in-Some : goal.returns-in-Some
returns-in-Some c =
    rises_next c.args.boxes.now c.args.place c.in-Some.parent c.is_on_line.result c.requires.tree c.requires.behind
    c.requires.there c.requires.rise (sym c.in-Some.ensures) c.is_on_line.ensures
