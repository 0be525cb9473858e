-- one run, and then the one behind it
use Rattle.fx_canvas.proofs.DottedLemmas.{dotted-then, rows-same}
use Rattle.fx_pens.proofs.StampLemmas.{runs_apart}
use Rattle.fx_pens.specs.Dots.{is_in}
use Rattle.fx_canvas.proofs.opaque.lay_runs.Goals as goal

pub lay_run-requires-2-clause-rows : goal.lay_run-requires-2-clause-rows
lay_run-requires-2-clause-rows g c =
    rows-same c.args.pen.now c.args.top c.args.bottom c.args.rows.now c.lay_run.new.rows c.lay_run.ensures.sizes c.requires.rows

pub returns : goal.returns
returns g c =
    let pen = c.args.pen.now in
    let runs = c.args.runs in
    dotted-then pen c.args.top c.args.bottom (λ x y. is_in runs.left.left runs.left.right x) (λ x y. is_in runs.right.left runs.right.right x)
    c.args.rows.now c.lay_run.new.rows c.lay_run-2.new.rows c.args.painted.now c.lay_run.new.painted c.lay_run-2.new.painted
    c.requires.rows.rises c.requires.rows.falls (λ x y s t u v. runs_apart pen.left pen.right runs x c.requires.runs)
    c.lay_run.ensures c.lay_run-2.ensures
