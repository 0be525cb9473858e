-- one run over the middle bit, or those beside it
use Rattle.std.proofs.Common.{◌∙◌, ap, subst, sym}
use Rattle.fx_pens.specs.Dots.{AreApart, runs_dots}
use Rattle.fx_pens.specs.declared.stamps.Runs.{Runs}
use Rattle.fx_pens.proofs.StampLemmas.{beside_dots, beside_edges, joined_dots, joined_edges}
use Rattle.fx_pens.proofs.stamps.runs_between.Goals as goal

pub returns-then-bits-clause-edges : goal.returns-then-bits-clause-edges
returns-then-bits-clause-edges c = λ low high is.
    subst (λ (r : Runs). AreApart low high r) (sym c.joined.ensures) (joined_edges low high c.args.stamp.now c.args.bits is)

pub returns-then-bits-clause-dots : goal.returns-then-bits-clause-dots
returns-then-bits-clause-dots c = λ low high x is.
    ap (λ (r : Runs). runs_dots r x) c.joined.ensures ∙ joined_dots low high c.args.stamp.now c.args.bits x is c.if-bits.true

pub returns-else-bits-clause-edges : goal.returns-else-bits-clause-edges
returns-else-bits-clause-edges c = λ low high is.
    subst (λ (r : Runs). AreApart low high r) (sym c.beside.ensures) (beside_edges low high c.args.stamp.now c.args.bits is)

pub returns-else-bits-clause-dots : goal.returns-else-bits-clause-dots
returns-else-bits-clause-dots c = λ low high x is.
    ap (λ (r : Runs). runs_dots r x) c.beside.ensures ∙ beside_dots c.args.stamp.now c.args.bits x c.if-bits.false
