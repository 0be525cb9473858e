-- one line more is stamped
use Rattle.std.proofs.Common.{◌+◌, ◌-◌, ◌/◌, ◌≤◌, ◌∙◌, ℕ, Bool, ap, sym, arith}
use Rattle.fx_canvas.proofs.DottedLemmas.{no_rows, rows-same, rows_of, rows_rest, rows_then}
use Rattle.fx_canvas.proofs.LineTops.{line_at, lines_above, top_first, top_from, top_to, tops_rise}
use Rattle.fx_pens.proofs.StampLemmas.{row_none}
use Rattle.fx_pens.specs.Dots.{runs_dots, stamp_dots}
use Rattle.fx_canvas.proofs.opaque.stamp_rows.Goals as goal

pub loop-line-init : goal.loop-line-init
loop-line-init g c =
    let pen = c.args.pen.now in
    let top = c.args.block.top in (
      top_first pen top c.args.block.bottom c.requires.rows.falls,
      no_rows pen top c.args.block.bottom (λ x y. stamp_dots c.args.stamp.now ((pen.below + (y - top)) / pen.scale) x) c.args.rows.now c.args.painted.now,
    )

pub lay_runs-requires-clause-rows : goal.lay_runs-requires-clause-rows
lay_runs-requires-clause-rows g c =
    let pen = c.args.pen.now in
    let top = c.args.block.top in
    let bottom = c.args.block.bottom in
    let from = c.loop-line.invariant.0 in
    let to = c.line_top-bottom.ensures in
    let rises = tops_rise pen top bottom c.loop-line.line in
    let most = top_to pen top bottom (c.loop-line.line + 1) in
    rows_of pen top bottom c.loop-line.top c.line_top-bottom.result c.loop-line.rows (rw (from, to) rises) (rw to most)
    (rows-same pen top bottom c.args.rows.now c.loop-line.rows c.loop-line.invariant.1.sizes c.requires.rows)

pub lay_runs-requires-clause-runs : goal.lay_runs-requires-clause-runs
lay_runs-requires-clause-runs g c = c.runs_of.ensures.edges c.args.pen.now.left c.args.pen.now.right c.requires.stamp

pub loop-line-preserved : goal.loop-line-preserved
loop-line-preserved g c =
    let pen = c.args.pen.now in
    let stamp = c.args.stamp.now in
    let top = c.args.block.top in
    let bottom = c.args.block.bottom in
    let line = c.loop-line.line in
    let falls = c.requires.rows.falls in
    let from = c.loop-line.invariant.0 in
    let to = c.line_top-bottom.ensures in
    let least = top_from pen top bottom line falls in
    let rises = tops_rise pen top bottom line in
    let most = top_to pen top bottom (line + 1) in
    let dots : ℕ → ℕ → Bool = λ x y. stamp_dots stamp ((pen.below + (y - top)) / pen.scale) x in (
      to,
      rows_then pen top c.loop-line.top c.line_top-bottom.result bottom (λ x y. runs_dots c.runs_of.result x) dots
          c.args.rows.now c.loop-line.rows c.lay_runs.new.rows c.args.painted.now c.loop-line.painted c.lay_runs.new.painted
          c.requires.rows.rises (rw from least) (rw (from, to) rises) (rw to most)
          (λ x y s t u v. c.runs_of.ensures.dots pen.left pen.right x c.requires.stamp
          ∙ ap (λ n. stamp_dots stamp n x) (sym (line_at pen top bottom line y falls (rw (← from) u) (rw (← to) v))))
          c.loop-line.invariant.1 c.lay_runs.ensures,
    )

pub returns : goal.returns
returns g c =
    let pen = c.args.pen.now in
    let stamp = c.args.stamp.now in
    let top = c.args.block.top in
    let bottom = c.args.block.bottom in
    let line = c.loop-line.line in
    let falls = c.requires.rows.falls in
    let from = c.loop-line.invariant.0 in
    let least = top_from pen top bottom line falls in
    let most = top_to pen top bottom line in
    let done : 5 ≤ line = omega arith in
    let low : (y n : ℕ) → line ≤ n → 5 ≤ n = λ y n h. omega (arith, h, done) in
    rows_rest pen top c.loop-line.top bottom (λ x y. stamp_dots stamp ((pen.below + (y - top)) / pen.scale) x)
    c.args.rows.now c.loop-line.rows c.args.painted.now c.loop-line.painted c.requires.rows.rises (rw from least) (rw from most)
    (λ x y s t u v. row_none stamp ((pen.below + (y - top)) / pen.scale) x
    (low y ((pen.below + (y - top)) / pen.scale) (lines_above pen top bottom line y c.requires.rows.some falls (rw (← from) u) v)))
    c.loop-line.invariant.1
