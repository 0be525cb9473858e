-- in a document whose names are not known there are none
use Rattle.std.proofs.Common.{◌≡◌, Option, subst, map}
use Rattle.std.specs.Prelude.{IfOk}
use Rattle.fx_scene_acts.specs.declared.tasks.Doing.{Doing}
use Rattle.fx_scene_bindings.specs.Bindings.{bound}
use Rattle.fx_scene_load.specs.Reading.{bound_over}
use Rattle.fx_scene_things.specs.Known.{space_view}
use Rattle.fx_scene_things.specs.Names.{Names}
use Rattle.fx_scene_load.proofs.bindings.bound_doing.Goals as goal

pub returns-in-None : goal.returns-in-None
returns-in-None c =
    let spaces = map space_view c.args.spaces.now in
    let IsBound : Names → Type 0 =
    λ names. IfOk c.bound-in-None.result (λ (doing : Doing). doing ≡ bound spaces names c.args.waiting.now.binding) in
    let IsOver : Option Names → Type 0 =
    λ names. IfOk c.bound-in-None.result (λ (doing : Doing). doing ≡ bound_over spaces c.args.waiting.now names) in
    subst IsOver c.in-None.ensures (subst IsBound c.new.ensures c.bound-in-None.ensures)
