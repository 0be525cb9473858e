-- what is said of the plan that the words make
use Rattle.std.proofs.Common.{◌≡◌, ap, subst, ◌∙◌}
use Rattle.fx_base.specs.declared.work.Work.{Work}
use Rattle.fx_plain.specs.CommandLine.{Plan, plan_of}
use Rattle.fx_plain.specs.PlainPlayer.{IsOver}
use Rattle.fx_plain.specs.Works.{HasWorked, IsWorkOf}
use Rattle.fx_plain.specs.declared.answers.Status.TheVariants.{Done}
use Rattle.fx_plain_work.specs.Works.{Counted, counted}
use Rattle.fx_port.specs.Files.{Files}
use Rattle.fx_play.proofs.RunLemmas.{within_as}
use Rattle.fx_play.proofs.top.play.Goals as goal

pub returns-in-Ok-clause-within : goal.returns-in-Ok-clause-within
returns-in-Ok-clause-within g c =
    within_as (g.F.Shelf.held c.args.shelf.now) (c.plan_of.ensures.plan ∙ ap plan_of c.in-Ok.ensures.run)
    c.play_plan.ensures.played.within

pub returns-in-Ok-clause-worked : goal.returns-in-Ok-clause-worked
returns-in-Ok-clause-worked g c =
    let count : Work g.row.L.Denot → Counted = λ w. counted w.styled w.laid w.painted in
    let IsSo : Plan → Type 0 =
    λ plan. (files : Files) → IsOver (g.F.Shelf.held c.args.shelf.now) plan files → c.play_plan.result ≡ Done
    → HasWorked (λ bytes. IsWorkOf plan files bytes (count c.args.work.now) (count c.play_plan.new.work))
    (g.O.Sink.written c.args.out.now) (g.O.Sink.written c.play_plan.new.out) c.args.work.now.evaluated
    c.play_plan.new.work.evaluated in
    subst IsSo (c.plan_of.ensures.plan ∙ ap plan_of c.in-Ok.ensures.run) c.play_plan.ensures.worked
