use Rattle.std.proofs.Common.{ap, ◌∙◌, ◌+◌, arith}
use Rattle.fx_layout.proofs.Updating.{count_most}
use Rattle.fx_layout.proofs.layouts.Layouts.update.Goals as goal

pub returns-clause-cost : goal.returns-clause-cost
returns-clause-cost g c =
    let told = c.in_ok-told.ensures in
    omega (
      arith,
      told.cost,
      told.laid,
      count_most c.args.self.now c.args.nodes.now c.args.remeasure.now c.update_telling.new.self,
    )

pub returns-clause-count : goal.returns-clause-count
returns-clause-count g c =
    let told = c.in_ok-told.ensures in
    told.cost ∙ ap (λ n. c.args.work.now.laid + n) told.laid
