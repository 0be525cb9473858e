-- an empty run has no dots
use Rattle.std.proofs.Common.{◌≤◌, ◌≡◌, ℕ, false, arith}
use Rattle.std.proofs.lemmas.Bool.Decides.{nat_tests}
use Rattle.fx_canvas.proofs.DottedLemmas.{dotted-none}
use Rattle.fx_pens.specs.Dots.{is_in}
use Rattle.fx_canvas.proofs.opaque.lay_run.Goals as goal

none_in : (from to x : ℕ) → to ≤ from → is_in from to x ≡ false
none_in from to x h = grind (arith, nat_tests)

pub returns-else-run : goal.returns-else-run
returns-else-run g c =
    let run = c.args.run in
    dotted-none c.args.pen.now c.args.top c.args.bottom (λ x y. is_in run.left run.right x) c.args.rows.now c.args.painted.now
    c.requires.rows.rises c.requires.rows.falls (λ x y s t u v. none_in run.left run.right x c.if-run.false)
