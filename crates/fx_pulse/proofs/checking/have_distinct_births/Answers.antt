use Rattle.std.proofs.Common.{refl}
use Rattle.std.proofs.lemmas.List.Sorted.{IsPermutation-refl}
use Rattle.fx_damage.proofs.CheckLemmas.{sorted_distinct}
use Rattle.fx_pulse_model.specs.Scenes.{births}
use Rattle.fx_pulse.proofs.checking.have_distinct_births.Goals as goal

pub returns-then-do_births_rise : goal.returns-then-do_births_rise
returns-then-do_births_rise c =
    let numbers = births c.args.boxes.now in (
      λ yes. sorted_distinct numbers numbers (IsPermutation-refl numbers) (c.do_births_rise.ensures c.if-do_births_rise.true),
      λ distinct. refl,
    )
