-- time passes
use Rattle.std.proofs.Common.{◌∙◌, SFits, ap, of_z, refl, rules, sym, to_z, w64}
use Rattle.std.proofs.lemmas.Int.{to_z-of_z}
use Rattle.std.specs.Prelude.{unsigned_abs}
use Rattle.fx_play_steps.specs.Traces.{course_of}
use Rattle.fx_play_times.specs.Passing.{passed_as}
use Rattle.fx_play_times.specs.Shown.{clock_of}
use Rattle.fx_play_times.proofs.TimeLemmas.{tick_few, tick_so}
use Rattle.fx_play_times.proofs.clock.Clock.tick.Goals as goal

pub returns-in-Ok-set_all-clause-timed : goal.returns-in-Ok-set_all-clause-timed
returns-in-Ok-set_all-clause-timed g c =
    let world = c.args.stage.now in
    let clock = clock_of c.args.self.now in
    let fresh = course_of world c.args.trace.now in
    let fits : SFits w64 c.from.result = search rules in
    tick_so c.args.time.now clock _ world (passed_as clock fresh) fresh (course_of c.set_all.new.stage c.set_all.new.trace)
    (unsigned_abs (to_z w64 (of_z w64 c.from.result))) c.in-Some.ms c.in-Ok.sets.items (sym c.time_of.ensures.time ∙ c.in-Some.is)
    (ap unsigned_abs (to_z-of_z w64 c.from.result fits ∙ c.from.ensures)) refl c.in-Ok.ensures.ok c.in-Ok.ensures.sets c.in-Ok-set_all.ensures.done (c.requires world)

pub returns-in-Ok-set_all-clause-few : goal.returns-in-Ok-set_all-clause-few
returns-in-Ok-set_all-clause-few g c =
    let fits : SFits w64 c.from.result = search rules in
    tick_few c.args.time.now (clock_of c.args.self.now) c.args.stage.now (unsigned_abs (to_z w64 (of_z w64 c.from.result)))
    c.in-Some.ms c.in-Ok.sets.items c.args.work.now.evaluated c.set_all.new.work.evaluated
    (sym c.time_of.ensures.time ∙ c.in-Some.is) (ap unsigned_abs (to_z-of_z w64 c.from.result fits ∙ c.from.ensures))
    c.in-Ok.ensures.sets c.in-Ok-set_all.ensures.few
