-- the bits of the line
use Rattle.std.proofs.Common.{◌∙◌, ap}
use Rattle.fx_pens.specs.Dots.{bits_between}
use Rattle.fx_pens.specs.declared.runs.Bits.{Bits}
use Rattle.fx_pens.proofs.stamps.runs_of.Goals as goal

pub returns-clause-dots : goal.returns-clause-dots
returns-clause-dots c = λ low high x is.
    c.runs_between.ensures.dots low high x is ∙ ap (λ (b : Bits). bits_between c.args.stamp.now b x) c.bits_of.ensures
