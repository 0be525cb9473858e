-- a demo, and where no run is asked for
use Rattle.std.proofs.Common.{◌≡◌, subst, sym}
use Rattle.fx_base.specs.declared.work.Work.{Work}
use Rattle.fx_plain.specs.PlainPlayer.{IsOver}
use Rattle.fx_plain.specs.Works.{HasWorked, IsWorkOf}
use Rattle.fx_plain.specs.declared.answers.Status.TheVariants.{Done}
use Rattle.fx_plain_work.specs.Works.{Counted, counted}
use Rattle.fx_port.specs.Files.{Files}
use Rattle.fx_play.specs.Ends.{IsPlayed}
use Rattle.fx_play.specs.Plans.{plan_view}
use Rattle.fx_play.specs.declared.plans.Plan.{Plan}
use Rattle.fx_play.proofs.RunLemmas.{usage_shown}
use Rattle.fx_play.proofs.WorkLemmas.{usage_never}
use Rattle.fx_play.proofs.top.play_plan.Goals as goal

pub returns-in-PlaysDemo-clause-played : goal.returns-in-PlaysDemo-clause-played
returns-in-PlaysDemo-clause-played g c =
    let shelf = g.F.Shelf in
    let sink = g.O.Sink in
    let IsSo : Plan → Type 0 =
    λ plan. IsPlayed (plan_view plan) (shelf.held c.args.shelf.now) (shelf.faults c.args.shelf.now)
    (shelf.faults c.args.shelf.now) (sink.faults c.args.out.now) (sink.faults c.play_demo.new.out)
    (sink.written c.args.out.now) (sink.written c.play_demo.new.out) c.play_demo.result in
    subst IsSo (sym c.in-PlaysDemo.is)
    (c.play_demo.ensures.played (shelf.held c.args.shelf.now) (shelf.faults c.args.shelf.now) (shelf.faults c.args.shelf.now))

pub returns-in-ShowsUsage-clause-played : goal.returns-in-ShowsUsage-clause-played
returns-in-ShowsUsage-clause-played g c =
    let shelf = g.F.Shelf in
    let sink = g.O.Sink in
    let IsShown : Plan → Type 0 =
    λ plan. IsPlayed (plan_view plan) (shelf.held c.args.shelf.now) (shelf.faults c.args.shelf.now)
    (shelf.faults c.args.shelf.now) (sink.faults c.args.out.now) (sink.faults c.tell_usage.new.out)
    (sink.written c.args.out.now) (sink.written c.tell_usage.new.out) c.tell_usage.result in
    subst IsShown (sym c.in-ShowsUsage.is)
    (usage_shown (shelf.held c.args.shelf.now) (shelf.faults c.args.shelf.now) (shelf.faults c.args.shelf.now)
    (sink.faults c.args.out.now) (sink.faults c.tell_usage.new.out) (sink.written c.args.out.now)
    (sink.written c.tell_usage.new.out) c.tell_usage.result c.tell_usage.ensures)

pub returns-in-Plays-clause-worked : goal.returns-in-Plays-clause-worked
returns-in-Plays-clause-worked g c =
    let count : Work g.row.L.Denot → Counted = λ w. counted w.styled w.laid w.painted in
    let IsSo : Plan → Type 0 =
    λ plan. (files : Files) → IsOver (g.F.Shelf.held c.args.shelf.now) (plan_view plan) files → c.play_run.result ≡ Done
    → HasWorked (λ bytes. IsWorkOf (plan_view plan) files bytes (count c.args.work.now) (count c.play_run.new.work))
    (g.O.Sink.written c.args.out.now) (g.O.Sink.written c.play_run.new.out) c.args.work.now.evaluated c.play_run.new.work.evaluated in
    subst IsSo (sym c.in-Plays.is) c.play_run.ensures.work

pub returns-in-PlaysDemo-clause-worked : goal.returns-in-PlaysDemo-clause-worked
returns-in-PlaysDemo-clause-worked g c =
    let count : Work g.row.L.Denot → Counted = λ w. counted w.styled w.laid w.painted in
    let IsSo : Plan → Type 0 =
    λ plan. (files : Files) → IsOver (g.F.Shelf.held c.args.shelf.now) (plan_view plan) files → c.play_demo.result ≡ Done
    → HasWorked (λ bytes. IsWorkOf (plan_view plan) files bytes (count c.args.work.now) (count c.play_demo.new.work))
    (g.O.Sink.written c.args.out.now) (g.O.Sink.written c.play_demo.new.out) c.args.work.now.evaluated c.play_demo.new.work.evaluated in
    subst IsSo (sym c.in-PlaysDemo.is) (λ files over done. c.play_demo.ensures.work done)

pub returns-in-ShowsUsage-clause-worked : goal.returns-in-ShowsUsage-clause-worked
returns-in-ShowsUsage-clause-worked g c files over done =
    let sink = g.O.Sink in
    absurd (usage_never (sink.faults c.args.out.now) (sink.faults c.tell_usage.new.out) (sink.written c.args.out.now)
    (sink.written c.tell_usage.new.out) c.tell_usage.result c.tell_usage.ensures done)
