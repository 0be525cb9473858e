use Rattle.std.proofs.Common.{◌-◌, sym, ◌∙◌, ap}
use Rattle.std.specs.List.{list_all}
use Rattle.std.proofs.lemmas.List.{take_all}
use Rattle.std.proofs.lemmas.List.Folds.{list_all_at}
use Rattle.fx_tree.specs.Slots.{below_at, fits_in}
use Rattle.fx_tree.proofs.Lines.{fits_in-zero, fits_in-more}
use Rattle.fx_tree.proofs.nodes.+fits.Goals as goal

pub returns-then-levels-eq0 : goal.returns-then-levels-eq0
returns-then-levels-eq0 t c = sym (fits_in-zero c.args.levels (below_at c.args.nodes.now.slots) c.args.key c.if-levels-eq0.true)

pub returns-then-not-fits : goal.returns-then-not-fits
returns-then-not-fits t c =
    let below = below_at c.args.nodes.now.slots in
    let test = fits_in (c.args.levels - 1) below in
    sym
    (fits_in-more c.args.levels below c.args.key c.if-levels-eq0.false
    ∙ ap (list_all test) (sym c.children_in-child-items.ensures)
    ∙ list_all_at test c.children_in-child-items.result.now c.loop-child.child-index _ c.loop-child-test.true (sym c.if-not-fits.ensures))

pub returns : goal.returns
returns t c =
    let below = below_at c.args.nodes.now.slots in
    let test = fits_in (c.args.levels - 1) below in
    sym
    (fits_in-more c.args.levels below c.args.key c.if-levels-eq0.false
    ∙ ap (list_all test) (sym c.children_in-child-items.ensures)
    ∙ ap (list_all test) (sym (take_all c.loop-child.child-index c.children_in-child-items.result.now c.loop-child-test.false))
    ∙ c.loop-child.invariant)
